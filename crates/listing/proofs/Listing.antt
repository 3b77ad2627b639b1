-- The library's answer is 1 or 2, or what filling gives; the program's is the plan's, or the library's at what it
-- leaves.
use Prim.Native.Nat.{ℕ, ◌+◌}
use mathlib.Core.Bool.{Bool, cond}
use mathlib.Core.List.{List, []}
use mathlib.Core.Path.{◌≡◌, refl, sym, ap, ◌∙◌}
use borrow.Author.Tests.{eq-eqb, ne_eqb}
use lib.ListN.{length}
use Rattle.formats.specs.Formats.{Out, got, bad}
use Rattle.rules.specs.Applying.{plain, apply, base_of, Terminal, Applied}
use Rattle.rules.specs.Filling.{filling, Filled}
use Rattle.rules.specs.Limits.{limits}
use Rattle.rules.specs.Listing.{listing, list, list_after, list_read, list_alone}
use Rattle.rules.specs.Plan.{read_plan, Plan}
use Rattle.rules.specs.Requests.{standing}
use Rattle.rules.specs.Tables.{table_of, Zone}
use Rattle.rules.specs.declared.Outcome.{Outcome}
use Rattle.zones.specs.Kept.{Stands}
use Rattle.zones.specs.View.{stored_config, stored_table, zones_in}
use Rattle.zones.proofs.Spelling.{config_view, table_view}
use Rattle.zones.proofs.Stepping.{stands_same}
use Rattle.plan.specs.Applying.{terminal_in, in_words, applied, state_in, AppliedIn}
use Rattle.plan.specs.Read.{read_answer}
use Rattle.plan.specs.Told.{Told, answer_by}
use Rattle.std.specs.Prelude.{Ok, Err}
use Rattle.plan.specs.declared.applying.State.{State}
use Rattle.plan.specs.declared.read.Read.{Read}
use Rattle.plan.proofs.Deliveries.{apply_is_faithful}
use Rattle.plan.proofs.Outcomes.{value_accepted}
use Rattle.writer.proofs.Filling.{filled_with, own_refused, own_passed}

-- ---- 1 and 2 before it
pub list_stands : (c t : List ℕ) (n : ℕ) → n ≡ standing limits (stored_config c) (stored_table t) → n ≡ 0 → Stands c t
list_stands c t n e z = sym e ∙ z

module _ (c t w : List ℕ) (n : ℕ) (e : n ≡ standing limits (stored_config c) (stored_table t)) where
  abbrev own : ℕ
  own = standing limits (stored_config c) (stored_table t)

  abbrev lines : List ℕ
  lines = listing limits (table_of (stored_table t))

  pub list_own : (n ≡ 0 → ⊥)
      → filled_with (record { number = n; place = 0; inner = 0 }) w ≡ list limits (stored_config c) (stored_table t) w
  unfolding list
  list_own ne = ap (λ (k : ℕ). filled_with (plain k 0) w) e ∙ own_refused lines w own (λ z. ne (e ∙ z))

  pub list_filled : n ≡ 0 → (o : Outcome) (v : List ℕ) → filled_with o v ≡ filling [] (listing limits (zones_in t)) w
      → filled_with o v ≡ list limits (stored_config c) (stored_table t) w
  unfolding list
  list_filled z o v f =
      f ∙ ap (λ (m : List Zone). filling [] (listing limits m) w) (stands_same c t _ refl (list_stands c t n e z))
      ∙ own_passed lines w own (sym e ∙ z)

-- ---- the plan at a state, and the listing of what it leaves
module _ (c t : List ℕ) (e : ℕ) (b w : List ℕ) (o : Outcome) (u : List ℕ) (done : AppliedIn c t e b o u) where
  s : State
  s = state_in c t e

  told : Applied
  told = apply limits (terminal_in s) b

  answered : o ≡ told.outcome
  unfolding applied in_words told s
  answered = done.answer

  after : Bool → Filled
  after x =
      cond x (list limits told.state.config told.state.table w) (filled_with told.outcome w)

  pub after_refused : (o.number ≡ 0 → ⊥)
      → filled_with o w ≡ list_after limits (apply limits (terminal_in (state_in c t e)) b) w
  unfolding list_after told s after
  after_refused ne =
      ap (λ (x : Outcome). filled_with x w) answered
      ∙ sym (ap after (ne_eqb told.outcome.number 0 (λ z. ne (ap (λ (x : Outcome). x.number) answered ∙ z))))

  module _ (z : o.number ≡ 0) where
    left : terminal_in (state_in c u (e + 1)) ≡ told.state
    unfolding told s
    left = apply_is_faithful.next s b o (state_in c u (e + 1)) (value_accepted s b o u done z)

    pub after_listed : (r : Outcome) (v : List ℕ) → filled_with r v ≡ list limits (stored_config c) (stored_table u) w
        → filled_with r v ≡ list_after limits (apply limits (terminal_in (state_in c t e)) b) w
    unfolding list_after told s after
    after_listed r v f =
        f ∙ ap (λ (x : Terminal). list limits x.config x.table w) left
        ∙ sym (ap after (eq-eqb told.outcome.number 0 (sym (ap (λ (x : Outcome). x.number) answered) ∙ z)))

-- ---- a plan at its own base, by what was read of it
module _ (b w : List ℕ) where
  pub alone_away : (k a : ℕ) → ◌≡◌ {A = Told Read} (Err (k, a)) (read_answer (length b) (read_plan limits b))
      → filled_with (record { number = k; place = a; inner = 0 }) w ≡ list_alone limits b w
  unfolding answer_by list_read
  alone_away k a f = by (read_plan limits b) f
    where
      turned : Told Read → ℕ × ℕ
      turned (Ok x) = (k, a)
      turned (Err x) = x

      by : (o : Out Plan) → ◌≡◌ {A = Told Read} (Err (k, a)) (read_answer (length b) o)
          → filled_with (record { number = k; place = a; inner = 0 }) w ≡ list_read limits b w o
      by (got p t) e = absurd (cc)
      by (bad j t) e = ap (λ (x : Told Read). filled_with (plain (turned x).0 (turned x).1) w) e

  pub alone_listed : (r : Read) → ◌≡◌ {A = Told Read} (Ok r) (read_answer (length b) (read_plan limits b))
      → (o : Outcome) (v : List ℕ)
      → filled_with o v
      ≡ list_after limits (apply limits (terminal_in (state_in r.config.words r.table.words r.edition)) b) w
      → filled_with o v ≡ list_alone limits b w
  unfolding answer_by list_read
  alone_listed r f o v h = by (read_plan limits b) f
    where
      there : Told Read → Read
      there (Ok x) = x
      there (Err x) = r

      by : (x : Out Plan) → ◌≡◌ {A = Told Read} (Ok r) (read_answer (length b) x) → filled_with o v ≡ list_read limits b w x
      by (got p t) e =
          let base : terminal_in (state_in r.config.words r.table.words r.edition) ≡ base_of limits p =
          ap (λ (x : Told Read). terminal_in (state_in (there x).config.words (there x).table.words (there x).edition)) e
          ∙ (λ i. record {
            config = config_view (record { regions = p.regions; gic = p.marks.gic }) i;
            table = table_view p.zones i;
            edition = p.marks.edition;
          }) in
          h ∙ ap (λ (x : Terminal). list_after limits (apply limits x b) w) base
      by (bad j t) e = absurd (cc)
