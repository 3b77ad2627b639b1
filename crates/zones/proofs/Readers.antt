-- A reader returns the word at its place, which is what the view has there; a search returns the first index, since
-- what is left gives the whole answer.
use Prim.Native.Nat.{ℕ, ◌+◌, ◌-◌, ◌≤◌, ◌<◌}
use native.Mathlib.Decide.{dec_lt}
use native.Mathlib.Omega.{arith}
use mathlib.Core.Bool.{Bool, true, false}
use mathlib.Core.List.{List}
use mathlib.Core.Path.{◌≡◌, refl, sym, ap, ap₂, ◌∙◌}
use borrow.Author.Tests.{eq-eqb, ne_eqb, lt-ltb, le-ltb}
use lib.ListN.{length, get_or}
use Rattle.std.specs.Prelude.{position}
use Rattle.std.specs.declared.option.Option.{Option}
use Rattle.lists.specs.First.{first_from}
use Rattle.lists.specs.Places.{places}
use Rattle.lists.proofs.Places.{length_tab, first_hit, first_on, first_end}
use Rattle.rules.specs.Limits.{most_zones}
use Rattle.rules.specs.Tables.{has_id}
use Rattle.rules.specs.declared.Region.{Region}
use Rattle.rules.specs.declared.Side.{Side}
use Rattle.rules.specs.declared.Side.TheVariants.{Cpu, Iommu}
use Rattle.zones.specs.Layout.{set_words, table_words, zone_base, zone_start, set_base, record_base}
use Rattle.zones.specs.Records.{region_at, record_at, records_at}
use Rattle.zones.specs.View.{record_in, set_in, zone_in, zones_in}
use Rattle.zones.proofs.Finding.{position_tab}

pub base_cpu : (z b : ℕ) (s : Side) → b ≡ zone_base z → z < most_zones → s ≡ Cpu
    → (b + 1 ≡ set_base z s) × (b + 1 + set_words ≤ table_words)
unfolding set_base
base_cpu z b s q h e = rw e (omega arith, omega arith)

pub base_iommu : (z b : ℕ) (s : Side) → b ≡ zone_base z → z < most_zones → s ≡ Iommu
    → (b + 1 + set_words ≡ set_base z s) × (b + 1 + set_words + set_words ≤ table_words)
unfolding set_base
base_iommu z b s q h e = rw e (omega arith, omega arith)

-- where a zone begins, for any number
pub start_within : (z b : ℕ) → z < most_zones → b ≡ zone_base z → b ≡ zone_start z
unfolding zone_start
start_within z b h e = rw (lt-ltb _ _ h) e

pub start_is : (z b : ℕ) → b ≡ zone_start z → z < most_zones → b ≡ zone_base z
unfolding zone_start
start_is z b e h = rw (lt-ltb _ _ h) at e

pub start_past : (z : ℕ) → most_zones ≤ z → table_words ≡ zone_start z
unfolding zone_start
start_past z h = rw (le-ltb _ _ h)

-- it is never past the end; and where there is room for as many zones, it is where the last of them ends
pub start_fits : (w : List ℕ) (z b : ℕ) → length w ≡ table_words → b ≡ zone_start z → b ≤ length w
start_fits w z b l e =
    elim (dec_lt z most_zones) [
      | yes h ↦ omega (arith, start_is z b e h)
      | no h ↦ omega (arith, start_past z (omega arith))
    ]

pub start_used : (z : ℕ) → z ≤ most_zones → zone_start z ≡ zone_base z
start_used z l =
    elim (dec_lt z most_zones) [
      | yes h ↦ start_is z (zone_start z) refl h
      | no h ↦ (let e : table_words ≡ zone_base z = omega arith in sym (start_past z (omega arith)) ∙ e)
    ]

module _ (w : List ℕ) where
  pub count_word : get_or w 0 0 ≡ length (zones_in w)
  unfolding zones_in
  count_word = sym (length_tab (get_or w 0 0) (zone_in w))

  pub id_word : (z b : ℕ) → b ≡ zone_base z → get_or w b 0 ≡ (zone_in w z).id
  unfolding zone_in
  id_word z b e = ap (λ (k : ℕ). get_or w k 0) e

  pub len_word : (z : ℕ) (s : Side) (b : ℕ) → b ≡ set_base z s → get_or w b 0 ≡ length (set_in w z s)
  unfolding set_in records_at
  len_word z s b e =
      ap (λ (k : ℕ). get_or w k 0) e ∙ sym (length_tab (get_or w (set_base z s) 0) (record_at w (set_base z s + 1)))

  pub record_word : (z : ℕ) (s : Side) (i b k : ℕ) (r : Region) → b ≡ set_base z s → k ≡ record_base b i
      → r ≡ region_at w k → r ≡ record_in w z s i
  unfolding record_in record_at
  record_word z s i b k r e g h = h ∙ ap (region_at w) (g ∙ ap (λ (c : ℕ). record_base c i) e)

-- ---- what is found among the records of a set is found in the set
pub set_records : (w : List ℕ) (z : ℕ) (s : Side) (p : Region → Bool) (b n : ℕ) (k : Option ℕ) → b ≡ set_base z s
    → n ≡ length (set_in w z s) → k ≡ position p (records_at w (b + 1) n) → k ≡ position p (set_in w z s)
unfolding set_in records_at
set_records w z s p b n k e g h =
    h ∙ ap₂ (λ (x y : ℕ). position p (records_at w (x + 1) y)) e
    (g ∙ length_tab (get_or w (set_base z s) 0) (record_at w (set_base z s + 1)))

-- the zone that is found by its id
pub zone_by_id : (w : List ℕ) (id n : ℕ) (k : Option ℕ) → n ≡ length (zones_in w)
    → k ≡ position (λ (i : ℕ). has_id id (zone_in w i)) (places 0 (n - 0)) → k ≡ position (has_id id) (zones_in w)
unfolding zones_in
zone_by_id w id n k e h =
    let m : n - 0 ≡ get_or w 0 0 = omega (arith, e ∙ length_tab (get_or w 0 0) (zone_in w)) in
    h ∙ ap (λ (j : ℕ). position (λ (i : ℕ). has_id id (zone_in w i)) (places 0 j)) m
    ∙ position_tab (has_id id) (zone_in w) (get_or w 0 0)

-- ---- a loop over the zones: e is the id that was read, r the whole answer
module _ (w : List ℕ) (id n i r : ℕ) where
  pub zone_hit : (e : ℕ) → first_from (has_id id) (zones_in w) i ≡ r → i < n → n ≡ length (zones_in w) → e ≡ (zone_in w i).id
      → e ≡ id → i ≡ r
  unfolding zones_in
  zone_hit e inv h k g a =
      first_hit (has_id id) (zone_in w) (get_or w 0 0) i r true inv (omega (arith, k ∙ length_tab (get_or w 0 0) (zone_in w)))
      (sym (eq-eqb (zone_in w i).id id (sym g ∙ a))) refl

  pub zone_on : (e : ℕ) → first_from (has_id id) (zones_in w) i ≡ r → i < n → n ≡ length (zones_in w) → e ≡ (zone_in w i).id
      → (e ≡ id → ⊥) → first_from (has_id id) (zones_in w) (i + 1) ≡ r
  unfolding zones_in
  zone_on e inv h k g a =
      first_on (has_id id) (zone_in w) (get_or w 0 0) i r false inv (omega (arith, k ∙ length_tab (get_or w 0 0) (zone_in w)))
      (sym (ne_eqb (zone_in w i).id id (λ q. a (g ∙ q)))) refl

  pub zone_end : first_from (has_id id) (zones_in w) i ≡ r → n ≡ length (zones_in w) → n ≤ i → i ≡ r
  unfolding zones_in
  zone_end inv k h =
      first_end (has_id id) (zone_in w) (get_or w 0 0) i r inv (omega (arith, k ∙ length_tab (get_or w 0 0) (zone_in w)))
