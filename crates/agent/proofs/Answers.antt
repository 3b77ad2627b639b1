-- What each return answers, in numbers that C can hold: one case of what the core answered.
use Prim.Native.Nat.{ℕ, ◌+◌, ◌^◌, ◌<◌}
use mathlib.Core.Bool.{Bool, true, false, cond}
use mathlib.Core.List.{List, [], ◌∷◌}
use mathlib.Core.Path.{◌≡◌, refl, sym, ap, subst, ◌∙◌}
use lib.Dec.{eqb}
use lib.ListN.{get_or}
use Rattle.rules.specs.Applying.{apply}
use Rattle.rules.specs.Configuration.{check_number, check_place, check_earlier}
use Rattle.rules.specs.Limits.{limits}
use Rattle.rules.specs.declared.Checked.{Checked}
use Rattle.rules.specs.declared.Outcome.{Outcome}
use Rattle.rules.specs.declared.Request.{Request}
use Rattle.rules.specs.Fields.{region_of}
use Rattle.rules.specs.Run.{make_request}
use Rattle.rules.specs.declared.Region.{Region}
use Rattle.zones.specs.Records.{region_at}
use Rattle.zones.specs.Step.{Stepped}
use Rattle.plan.specs.Applying.{terminal_in, state_for, in_words, applied, state_in, AppliedIn}
use Rattle.plan.specs.declared.applying.Applied.{Applied}
use Rattle.plan.proofs.Outcomes.{value_refused, edition_room, value_accepted}
use Rattle.agent.specs.Agent.{places_of, AppliesWords, PartsAreAState}

pub places_told : (u : List ℕ) (x y : ℕ) (f g : Checked) → u ≡ x ∷ y ∷ [] → f ≡ g → x ≡ check_place f
    → y ≡ check_earlier f → u ≡ places_of g
unfolding places_of
places_told u x y f g h e p q = h ∙ (λ i. (p ∙ ap check_place e) i ∷ (q ∙ ap check_earlier e) i ∷ [])

pub number_told : (n : ℕ) (f g : Checked) → f ≡ g → n ≡ check_number f → n ≡ check_number g
number_told n f g e p = p ∙ ap check_number e

-- a request by its numbers: the core answers m
pub request_told : (c t u : List ℕ) (kind zone v p size rights : ℕ) (r : Region) (q : Request) (n m : ℕ)
    → r ≡ region_at (v ∷ p ∷ size ∷ rights ∷ []) 0 → q ≡ make_request kind zone r → Stepped c t q m u → n ≡ m
    → Stepped c t (make_request kind zone (region_of v p size rights)) n u
unfolding region_at
request_told c t u kind zone v p size rights r q n m er eq h e =
    subst (λ (k : ℕ). Stepped c t (make_request kind zone (region_of v p size rights)) k u) (sym e)
    (subst (λ (x : Request). Stepped c t x m u) (eq ∙ ap (make_request kind zone) er) h)

-- a plan applied where the words lie: o was answered, u are the table's words then, and a are its two places
module _ (c t : List ℕ) (e : ℕ) (b : List ℕ) (o : Outcome) (u : List ℕ) (done : AppliedIn c t e b o u) (a : List ℕ)
    (ea : a ≡ o.place ∷ o.inner ∷ []) where
  places : a ≡ (applied (state_in c t e) b).outcome.place ∷ (applied (state_in c t e) b).outcome.inner ∷ []
  places = ea ∙ ap (λ (x : Outcome). x.place ∷ x.inner ∷ []) done.answer

  pub applies_refused : (o.number ≡ 0 → ⊥) → AppliesWords c t e b o.number u e a
  applies_refused ne = record {
    number = ap (λ (x : Outcome). x.number) done.answer;
    table = done.table;
    edition = ap (λ (x : Applied). x.state.edition) (value_refused (state_in c t e) b o u done ne);
    places = places;
  }

  pub applies_accepted : o.number ≡ 0 → AppliesWords c t e b o.number u (e + 1) a
  applies_accepted z = record {
    number = ap (λ (x : Outcome). x.number) done.answer;
    table = done.table;
    edition = ap (λ (x : Applied). x.state.edition) (value_accepted (state_in c t e) b o u done z);
    places = places;
  }

pub next_room : (c t : List ℕ) (e : ℕ) (b : List ℕ) (o : Outcome) (u : List ℕ) → AppliedIn c t e b o u → o.number ≡ 0
    → e < 2 ^ 32 → e + 1 < 2 ^ 32
next_room c t e b o u done z = edition_room (state_in c t e) b o u done z

pub parts_are_a_state : PartsAreAState
unfolding applied in_words
parts_are_a_state c t e b n u d a h = record {
  answer = (λ i. record { number = h.number i; place = get_or (h.places i) 0 0; inner = get_or (h.places i) 1 0 });
  next =
      (λ i. record {
        config = sym (by (eqb (apply limits (terminal_in (state_in c t e)) b).outcome.number 0)) i;
        table = record { words = h.table i };
        edition = h.edition i;
      });
}
  where
    by : (x : Bool)
        → (cond x (state_for (state_in c t e) (apply limits (terminal_in (state_in c t e)) b).state) (state_in c t e)).config
        ≡ record { words = c }
    by true = refl
    by false = refl
