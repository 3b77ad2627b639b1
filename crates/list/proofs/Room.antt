-- Where a listing was written, its length is the place, and the buffer has so many bytes.
use Prim.Native.Nat.{ℕ, ◌≤◌}
use native.Mathlib.Omega.{arith}
use mathlib.Core.Bool.{Bool, true, false, cond}
use mathlib.Core.List.{List, [], ◌∷◌}
use mathlib.Core.Path.{◌≡◌, refl, sym, ap, subst}
use borrow.Author.Tests.{eqb-false, not-true}
use lib.Dec.{eqb}
use lib.ListN.{length, take, drop, length-append}
use lib.Seq.{length-take-le}
use Rattle.formats.specs.Formats.{Out, got, bad}
use Rattle.rules.specs.Applying.{apply, base_of, Applied}
use Rattle.rules.specs.Configuration.{StoredConfig}
use Rattle.rules.specs.Filling.{own_rule, fill_answer, Filled}
use Rattle.rules.specs.Limits.{limits}
use Rattle.rules.specs.Listing.{listing, list, list_after, list_read, list_alone}
use Rattle.rules.specs.Plan.{read_plan, Plan}
use Rattle.rules.specs.Tables.{table_of, StoredTable}
use Rattle.rules.specs.declared.Outcome.{Outcome}
use Rattle.rules.proofs.Filling.{zero_fits, fits_zero, leaves_filled}
use Rattle.rules.proofs.Plan.{plan_refuses}

abbrev Fits : Filled → Type 0
Fits f = f.outcome.number ≡ 0 → f.outcome.place ≤ length f.buffer

listed : (c : StoredConfig) (t : StoredTable) (w : List ℕ) → Fits (list limits c t w)
unfolding list
listed c t w z =
    let b : List ℕ = listing limits (table_of t) in
    let (q, r) =
    zero_fits b (length w) (own_rule limits c t ∷ []) ((λ a e. eqb-false _ _ (not-true _ a) e), tt) z in
    let p : (fill_answer (own_rule limits c t ∷ []) b (length w)).place ≡ length b =
    ap (λ (o : Outcome). o.place) (fits_zero b (length w) (own_rule limits c t ∷ []) q r) in
    omega (
      arith,
      p,
      ap length (leaves_filled (fill_answer (own_rule limits c t ∷ []) b (length w)) b w z),
      length-append b (drop (length b) w),
    )

after : (a : Applied) (w : List ℕ) → Fits (list_after limits a w)
unfolding list_after
after a w = by (eqb a.outcome.number 0) refl
  where
    by : (x : Bool) → eqb a.outcome.number 0 ≡ x
        → Fits (cond x (list limits a.state.config a.state.table w) (record
        { outcome = a.outcome; buffer = w }))
    by true e z = listed a.state.config a.state.table w z
    by false e z = absurd (eqb-false _ _ e z)

pub place_fits : (b w : List ℕ) (o : Outcome) (v : List ℕ)
    → ◌≡◌ {A = Filled} (record { outcome = o; buffer = v }) (list_alone limits b w) → o.number ≡ 0 → o.place ≤ length v
unfolding list_read
place_fits b w o v e z =
    subst (λ (f : Filled). Fits f) (sym e) (by (read_plan limits b) refl) z
  where
    by : (x : Out Plan) → read_plan limits b ≡ x → Fits (list_read limits b w x)
    by (bad k t) g z = absurd (plan_refuses limits b k t g z)
    by (got p t) g z = after (apply limits (base_of limits p) b) w z

pub place_taken : (b w : List ℕ) (o : Outcome) (v : List ℕ)
    → ◌≡◌ {A = Filled} (record { outcome = o; buffer = v }) (list_alone limits b w) → o.number ≡ 0
    → length (take o.place v) ≡ o.place
place_taken b w o v e z = length-take-le o.place v (place_fits b w o v e z)
