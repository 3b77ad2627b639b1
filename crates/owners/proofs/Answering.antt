-- One request and a translation: 1 and 2 come first, and past them 11 is put over the first machine's number.
use Prim.Native.Nat.{ℕ, ◌≤◌, ◌<◌}
use native.Mathlib.Decide.{dec_lt}
use native.Mathlib.Omega.{arith}
use mathlib.Core.Bool.{Bool, true, false, cond, not, ◌||◌}
use mathlib.Core.List.{List, [], ◌∷◌}
use mathlib.Core.Path.{◌≡◌, refl, sym, ap, ap₂, ◌∙◌}
use borrow.Author.Tests.{eqb-false, lt-ltb, le-ltb, ne_eqb}
use lib.Dec.{ltb, eqb}
use Rattle.std.specs.Prelude.{Result, Ok, Err}
use Rattle.lists.specs.Rules.{◌when◌, first_rule, Rule}
use Rattle.lists.proofs.Rules.{hit_whatever, stage_hit}
use Rattle.rules.specs.Changes.{region_set}
use Rattle.rules.specs.Configuration.{check, is_sound}
use Rattle.rules.specs.Limits.{limits}
use Rattle.rules.specs.Owners.{stranger, eleven_over, owned_of, owned_refusal, owned_standing_rules}
use Rattle.rules.specs.Owners.{owned_answer, owned_translated, may_hold}
use Rattle.rules.specs.Requests.{find, refusal, after, standing_rules, answer}
use Rattle.rules.specs.Tables.{table_of, check_table}
use Rattle.rules.specs.Translation.{covering_in, translation_rules, translated_as, translated_after, translated}
use Rattle.rules.specs.Numbers.{number, code}
use Rattle.rules.specs.declared.refusal.Refusal.{Refusal}
use Rattle.rules.specs.declared.Guest.{Guest}
use Rattle.rules.specs.declared.Kind.{Kind}
use Rattle.rules.specs.declared.Kind.TheVariants.{AddZone, RemoveZone, Insert, Remove, NoRequest}
use Rattle.rules.specs.declared.Region.{Region}
use Rattle.rules.specs.declared.Request.{Request}
use Rattle.rules.specs.declared.Side.{Side}
use Rattle.rules.specs.declared.Translated.{Translated}
use Rattle.rules.proofs.OwnedOver.{owned_over}
use Rattle.rules.proofs.Translation.{none_told}
use Rattle.zones.proofs.Ruling.{number_some}
use Rattle.zones.specs.Step.{afterwards, words_after, Stepped}
use Rattle.zones.specs.View.{stored_config, config_in, stored_table}
use Rattle.zones.specs.Words.{words_of}
use Rattle.owners.specs.Fitting.{Told}
use Rattle.owners.specs.Step.{owned_answer_in, OwnedStepped}
use Rattle.owners.specs.View.{stored_owned, owned_in}

-- ---- 11 over an answer
module _ (a : Result (Unit {0}) Refusal) where
  pub over_below : (r : Refusal) → a ≡ Err r → number r < 11 → number r ≡ eleven_over true (code a)
  unfolding eleven_over
  over_below r e h =
      sym (ap (λ (b : Bool). cond (b || ltb 11 (number r)) 11 (number r)) (ne_eqb (number r) 0 (number_some r))
      ∙ ap (λ (b : Bool). cond b 11 (number r)) (le-ltb 11 (number r) (omega arith)))
      ∙ ap (λ (x : Result (Unit {0}) Refusal). eleven_over true (code x)) (sym e)

  pub over_other : (r : Refusal) → a ≡ Err r → 11 ≤ number r → 11 ≡ eleven_over true (code a)
  unfolding eleven_over
  over_other r e h =
      elim (dec_lt 11 (number r)) [
        | yes l ↦
            sym (ap (λ (b : Bool). cond (eqb (number r) 0 || b) 11 (number r)) (lt-ltb 11 (number r) l) ∙ by (eqb (number r) 0) (number r))
        | no l ↦ let q : 11 ≡ number r = omega arith in ap (eleven_over true) q
      ]
      ∙ ap (λ (x : Result (Unit {0}) Refusal). eleven_over true (code x)) (sym e)
    where
      by : (b : Bool) (n : ℕ) → cond (b || true) 11 n ≡ 11
      by true n = refl
      by false n = refl

  pub over_accepted : ((r : Refusal) → a ≡ Err r → ⊥) → 11 ≡ eleven_over true (code a)
  unfolding eleven_over
  over_accepted n = by a n
    where
      by : (x : Result (Unit {0}) Refusal) → ((r : Refusal) → x ≡ Err r → ⊥) → 11 ≡ eleven_over true (code x)
      by (Ok u) n = refl
      by (Err r) n = absurd (n r refl)

-- it is never 0
pub over_refuses : (n : ℕ) → eleven_over true n ≡ 0 → ⊥
unfolding eleven_over
over_refuses n e = by (eqb n 0) (ltb 11 n) refl e
  where
    by : (a b : Bool) → eqb n 0 ≡ a → cond (a || b) 11 n ≡ 0 → ⊥
    by true b q f = omega arith
    by false true q f = omega arith
    by false false q f = eqb-false n 0 q f

-- and leaves 1 and 2 as they are
over_standing : (b x y : Bool) (m : ℕ)
    → first_rule (1 when x ∷ 2 when y ∷ []) (eleven_over b m) ≡ eleven_over b (first_rule (1 when x ∷ 2 when y ∷ []) m)
unfolding first_rule eleven_over
over_standing true true y m = refl
over_standing false true y m = refl
over_standing true false true m = refl
over_standing false false true m = refl
over_standing b false false m = refl

-- ---- whether a request is a stranger's
module _ (c o : List ℕ) (q : Request) where
  pub stranger_told : (s : Side) (r : Region) (b : Bool) → q.kind ≡ Insert s r
      → b ≡ may_hold (owned_in c o) q.zone s r → not b ≡ stranger (owned_in c o) q.kind q.zone
  unfolding stranger
  stranger_told s r b e h = ap not h ∙ ap (λ (x : Kind). stranger (owned_in c o) x q.zone) (sym e)

  pub no_stranger : ((s : Side) (r : Region) → q.kind ≡ Insert s r → ⊥) → false ≡ stranger (owned_in c o) q.kind q.zone
  unfolding stranger
  no_stranger n = by q.kind n
    where
      by : (k : Kind) → ((s : Side) (r : Region) → k ≡ Insert s r → ⊥) → false ≡ stranger (owned_in c o) k q.zone
      by AddZone n = refl
      by RemoveZone n = refl
      by (Insert s r) n = absurd (n s r refl)
      by (Remove s r) n = refl
      by NoRequest n = refl

-- ---- a request
module _ (c o t : List ℕ) (q : Request) where
  pub own_first : (r : Refusal) → Told c o t (number r) → OwnedStepped c o t q (number r) t
  unfolding owned_answer
  own_first r told =
      let k : number r ≡ owned_answer_in c o t q =
      hit_whatever (owned_standing_rules limits (stored_owned c o) (stored_table t)) (number r) 0
      (owned_refusal limits (owned_in c o) (table_of (stored_table t)) q) (told.number (number_some r)) (number_some r) in
      record {
        number = k;
        table =
            sym (ap (λ (b : Bool). cond b (words_of (after q.kind q.zone (table_of (stored_table t)))) t)
            (ne_eqb _ 0 (λ z. number_some r (k ∙ z))));
      }

  module _ (told : Told c o t 0) where
    abbrev foreign : Bool
    foreign = stranger (owned_in c o) q.kind q.zone

    answer_over : owned_answer_in c o t q
        ≡ eleven_over foreign (answer limits (stored_config c) (stored_table t) q)
    unfolding owned_answer answer standing_rules owned_of
    answer_over =
        ap (λ (rs : List (Rule ℕ)). first_rule rs (owned_refusal limits (owned_in c o) (table_of (stored_table t)) q))
        (told.rules refl)
        ∙ ap (first_rule (standing_rules limits (stored_config c) (stored_table t)))
        (owned_over limits (owned_in c o) (table_of (stored_table t)) q)
        ∙ over_standing foreign (not (is_sound (check limits (stored_config c))))
        (not (check_table limits (stored_config c) (stored_table t)))
        (refusal limits (config_in c) (table_of (stored_table t)) q)

    -- x and y are the configuration and the owners under other names
    module _ (x y : List ℕ) (ex : x ≡ c) (ey : y ≡ o) (b : Bool) (en : b ≡ stranger (owned_in x y) q.kind q.zone) where
      eb : b ≡ stranger (owned_in c o) q.kind q.zone
      eb = en ∙ ap₂ (λ (v w : List ℕ). stranger (owned_in v w) q.kind q.zone) ex ey

      pub stranger_refused : b ≡ true → (a m : ℕ) → a ≡ answer limits (stored_config c) (stored_table t) q
          → m ≡ eleven_over true a → OwnedStepped c o t q m t
      stranger_refused f a m ea em =
          let k : m ≡ owned_answer_in c o t q =
          em ∙ ap (eleven_over true) ea
          ∙ ap (λ (x : Bool). eleven_over x (answer limits (stored_config c) (stored_table t) q)) (sym f ∙ eb)
          ∙ sym answer_over in
          record {
            number = k;
            table =
                sym (ap (λ (x : Bool). cond x (words_of (after q.kind q.zone (table_of (stored_table t)))) t)
                (ne_eqb _ 0 (λ y. over_refuses a (sym em ∙ k ∙ y))));
          }

      pub plain_stepped : b ≡ false → (m : ℕ) (u : List ℕ) → Stepped c t q m u → OwnedStepped c o t q m u
      unfolding eleven_over afterwards
      plain_stepped f m u h =
          let k : answer limits (stored_config c) (stored_table t) q ≡ owned_answer_in c o t q =
          ap (λ (x : Bool). eleven_over x (answer limits (stored_config c) (stored_table t) q)) (sym f ∙ eb)
          ∙ sym answer_over in
          record { number = h.number ∙ k; table = h.table ∙ ap (λ (m : ℕ). words_after m t q) k }

-- ---- a translation
module _ (c o t : List ℕ) (id : ℕ) (s : Side) (a : Guest) where
  pub own_translated : (r : Refusal) → Told c o t (number r)
      → record { number = number r; phys = record { 0 = 0 }; remaining = 0 }
      ≡ owned_translated limits (stored_owned c o) (stored_table t) id s a
  unfolding owned_translated
  own_translated r told =
      let rs : List (Rule ℕ) = translation_rules (table_of (stored_table t)) id s a.0 in
      let y : Region = covering_in a.0 (region_set (table_of (stored_table t)) (find id (table_of (stored_table t))) s) in
      none_told (number r) a.0 y (number_some r)
      ∙ ap (λ (m : ℕ). translated_as m a.0 y)
      (stage_hit (owned_standing_rules limits (stored_owned c o) (stored_table t)) rs (number r) 0
      (told.number (number_some r)) (number_some r))

  pub plain_translated : Told c o t 0 → (r : Translated) → r ≡ translated limits (stored_config c) (stored_table t) id s a
      → r ≡ owned_translated limits (stored_owned c o) (stored_table t) id s a
  unfolding owned_translated translated
  plain_translated told r e =
      e ∙ ap (λ (rs : List (Rule ℕ)). translated_after rs (table_of (stored_table t)) id s a.0) (sym (told.rules refl))
