-- What is measured first is put at the buffer's start, or 28. And 1 or 2 before that.
use Prim.Native.Nat.{ℕ}
use mathlib.Core.Bool.{Bool, cond, not}
use mathlib.Core.List.{List, [], ◌∷◌}
use mathlib.Core.Path.{◌≡◌, sym, ap, ap₂, ◌∙◌}
use borrow.Author.Tests.{lt-ltb, le-ltb, eq-eqb, ne_eqb}
use Rattle.std.specs.Prelude.{Some, None}
use lib.Dec.{ltb}
use lib.ListN.{length}
use Rattle.lists.specs.Rules.{first_rule}
use Rattle.puts.specs.Filling.{fill_in}
use Rattle.rules.specs.Applying.{plain}
use Rattle.rules.specs.Filling.{standing_rule, fill_answer, fill_leaves, filling, Filled}
use Rattle.rules.specs.declared.Outcome.{Outcome}
use Rattle.rules.proofs.Filling.{leaves_all}

abbrev pub filled_with : Outcome → List ℕ → Filled
filled_with o v = record { outcome = o; buffer = v }

module _ (b w : List ℕ) where
  -- 28, or 0; and what that leaves
  abbrev by_room : Bool → Outcome
  by_room x = cond x (plain 28 0) (plain 0 (length b))

  abbrev leaving : Outcome → Filled
  leaving o = filled_with o (fill_leaves o b w)

  -- ---- by whether they were put
  pub filled_none : (v : List ℕ) → fill_in b w None v → filled_with (record { number = 28; place = 0; inner = 0 }) v ≡ filling [] b w
  unfolding fill_in fill_answer fill_leaves first_rule
  filled_none v h =
      ap (filled_with (plain 28 0)) h.1
      ∙ sym (ap (λ (x : Bool). leaving (by_room x)) (lt-ltb (length w) (length b) h.0))

  pub filled_some : (n : ℕ) (v : List ℕ) → fill_in b w (Some n) v
      → filled_with (record { number = 0; place = n; inner = 0 }) v ≡ filling [] b w
  unfolding fill_in fill_answer fill_leaves first_rule
  filled_some n v h =
      ap₂ filled_with (ap (plain 0) h.1) h.2
      ∙ sym (ap (λ (x : Bool). leaving (by_room x)) (le-ltb (length w) (length b) h.0))

  -- ---- n is what tells 1 and 2, or 0
  module _ (n : ℕ) where
    abbrev told : Bool → Outcome
    told x = cond (not x) (plain n 0) (by_room (ltb (length w) (length b)))

    pub own_refused : (n ≡ 0 → ⊥)
        → filled_with (record { number = n; place = 0; inner = 0 }) w ≡ filling (standing_rule n ∷ []) b w
    unfolding fill_answer first_rule
    own_refused ne =
        ap (filled_with (plain n 0)) (sym (leaves_all (plain n 0) b w ne))
        ∙ sym (ap (λ (x : Bool). leaving (told x)) (ne_eqb n 0 ne))

    pub own_passed : n ≡ 0 → filling [] b w ≡ filling (standing_rule n ∷ []) b w
    unfolding fill_answer first_rule
    own_passed z = sym (ap (λ (x : Bool). leaving (told x)) (eq-eqb n 0 z))
