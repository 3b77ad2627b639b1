-- What is found among words: a zone by the first index of its id, a region by the first index of one that equals it.
-- Past the end of the words stands nothing, as in a zone that is not there.
use Prim.Native.Nat.{ℕ, zero, suc, ◌+◌, ◌^◌, ◌≤◌, ◌<◌}
use native.Mathlib.Omega.{arith}
use mathlib.Core.Bool.{Bool, true, false}
use mathlib.Core.List.{List, [], ◌∷◌}
use mathlib.Core.Path.{◌≡◌, refl, sym, ap, ◌∙◌}
use borrow.Author.Tests.{lt-ltb, le-ltb, ltb-true, ltb-false}
use lib.ListN.{length, get_or}
use Rattle.lists.specs.First.{first_index, first_from}
use Rattle.lists.specs.Places.{places, tab}
use Rattle.lists.proofs.First.{any_first}
use Rattle.lists.proofs.Places.{length_tab}
use Rattle.rules.specs.Changes.{region_set}
use Rattle.rules.specs.Fields.{region_of}
use Rattle.rules.specs.Limits.{most_zones, most_in_set}
use Rattle.rules.specs.Regions.{region_eq}
use Rattle.rules.specs.Requests.{find, present, held_in}
use Rattle.rules.specs.Tables.{no_zone, side_of, has_id, Zone}
use Rattle.rules.specs.declared.Region.{Region}
use Rattle.rules.specs.declared.Side.{Side}
use Rattle.rules.specs.declared.Side.TheVariants.{Cpu, Iommu}
use Rattle.zones.specs.Layout.{set_words, side_words, table_words, zone_base, zone_start, set_base}
use Rattle.zones.specs.Records.{region_at, record_at, records_at}
use Rattle.zones.specs.View.{set_in, zone_in, zones_in}
use Rattle.zones.proofs.Readers.{start_is, id_word, zone_hit, zone_end}
use Rattle.zones.proofs.Records.{read_record, record_hit, record_end}
use Rattle.zones.proofs.Writers.{set_in_law}
use Rattle.wanted.specs.Wanted.{set_from, start_of, InLimits, ZoneAt}

pub word_past : (w : List ℕ) (k : ℕ) → length w ≤ k → 0 ≡ get_or w k 0
word_past [] k h = refl
word_past (x ∷ w) zero h = absurd (omega arith)
word_past (x ∷ w) (suc k) h = word_past w k (omega arith)

zone_past : (t : List Zone) (k : ℕ) → length t ≤ k → get_or t k no_zone ≡ no_zone
zone_past [] k h = refl
zone_past (x ∷ t) zero h = absurd (omega arith)
zone_past (x ∷ t) (suc k) h = zone_past t k (omega arith)

-- the words of a record
pub record_from : (w : List ℕ) (k : ℕ) (v p size rights : ℕ) → v ≡ get_or w k 0 → p ≡ get_or w (k + 1) 0
    → size ≡ get_or w (k + 2) 0 → rights ≡ get_or w (k + 3) 0 → region_of v p size rights ≡ region_at w k
record_from w k v p size rights a b c d = (λ i. region_of (a i) (b i) (c i) (d i)) ∙ read_record w k

-- a zone's id is its first word
pub id_read : (w : List ℕ) (z b x : ℕ) → b ≡ zone_start z → z < most_zones → x ≡ get_or w b 0 → x ≡ (zone_in w z).id
id_read w z b x e h g = g ∙ id_word w z b (start_is z b e h)

-- and fits into its field
pub id_low : (w : List ℕ) (z n x : ℕ) → InLimits w → n ≡ length (zones_in w) → z < n → x ≡ (zone_in w z).id → x < 256 ^ 4
id_low w z n x ok en h e = let l : z < length (zones_in w) = omega arith in omega (arith, ok.ids z l)

-- ---- a zone by its id
module _ (w : List ℕ) (id : ℕ) where
  -- where there is one, and where there is none
  start_there : present id (zones_in w) ≡ true → start_of w id ≡ zone_base (find id (zones_in w))
  unfolding start_of
  start_there e = rw e

  start_none : present id (zones_in w) ≡ false → start_of w id ≡ table_words
  unfolding start_of
  start_none e = rw e

  found_there : present id (zones_in w) ≡ true → find id (zones_in w) < length (zones_in w)
  found_there e = ltb-true _ _ (sym (any_first (has_id id) (zones_in w)) ∙ e)

  found_none : present id (zones_in w) ≡ false → length (zones_in w) ≤ find id (zones_in w)
  found_none e = ltb-false _ _ (sym (any_first (has_id id) (zones_in w)) ∙ e)

  -- the loop's answers
  module _ (n z : ℕ) (inv : first_from (has_id id) (zones_in w) z ≡ first_index (has_id id) (zones_in w))
      (en : n ≡ length (zones_in w)) (few : length (zones_in w) ≤ most_zones) where
    pub zone_found : (e k : ℕ) → z < n → e ≡ (zone_in w z).id → e ≡ id → k ≡ zone_start z → k ≡ start_of w id
    zone_found e k h g a b =
        let q : z ≡ find id (zones_in w) = zone_hit w id n z _ e inv h en g a in
        let l : find id (zones_in w) < length (zones_in w) = omega arith in
        let p : present id (zones_in w) ≡ true = any_first (has_id id) (zones_in w) ∙ lt-ltb _ _ l in
        let c : k ≡ zone_base z = start_is z k b (omega arith) in
        c ∙ ap (λ (y : ℕ). zone_base y) q ∙ sym (start_there p)

    pub zone_nowhere : n ≤ z → table_words ≡ start_of w id
    zone_nowhere h =
        let q : z ≡ find id (zones_in w) = zone_end w id n z _ inv en h in
        let l : length (zones_in w) ≤ find id (zones_in w) = omega arith in
        sym (start_none (any_first (has_id id) (zones_in w) ∙ le-ltb _ _ l))

  -- what an answer tells
  start_low : (k : ℕ) → k ≡ start_of w id → length (zones_in w) ≤ most_zones → k ≤ table_words
  start_low k e few = by (present id (zones_in w)) refl
    where
      by : (b : Bool) → present id (zones_in w) ≡ b → k ≤ table_words
      by true q = omega (arith, e ∙ start_there q, found_there q)
      by false q = omega (arith, e ∙ start_none q)

  pub start_tells : (k : ℕ) → k ≡ start_of w id → k < table_words → present id (zones_in w) ≡ true
  start_tells k e h = by (present id (zones_in w)) refl
    where
      by : (b : Bool) → present id (zones_in w) ≡ b → b ≡ true
      by true q = refl
      by false q = absurd (omega (arith, e ∙ start_none q))

  pub end_tells : (k : ℕ) → k ≡ start_of w id → length (zones_in w) ≤ most_zones → table_words ≤ k
      → present id (zones_in w) ≡ false
  end_tells k e few h = by (present id (zones_in w)) refl
    where
      by : (b : Bool) → present id (zones_in w) ≡ b → b ≡ false
      by true q = absurd (omega (arith, e ∙ start_there q, found_there q))
      by false q = refl

-- ---- a region among those of a set
module _ (w : List ℕ) (k n i : ℕ) (r : Region)
    (inv : first_from (region_eq r) (records_at w (k + 1) n) i ≡ first_index (region_eq r) (records_at w (k + 1) n))
    (en : n ≡ get_or w k 0) where
  many : length (records_at w (k + 1) n) ≡ n
  unfolding records_at
  many = length_tab n (record_at w (k + 1))

  same_set : records_at w (k + 1) n ≡ set_from w k
  unfolding set_from
  same_set = ap (records_at w (k + 1)) en

  pub region_held : (e : Region) (t : Bool) → i < n → e ≡ record_at w (k + 1) i → t ≡ region_eq r e → t ≡ true
      → true ≡ held_in r (set_from w k)
  region_held e t h g a f =
      let q : i ≡ first_index (region_eq r) (records_at w (k + 1) n) =
      record_hit w (k + 1) n i _ (region_eq r) e t inv h g a f in
      let l : first_index (region_eq r) (records_at w (k + 1) n) < length (records_at w (k + 1) n) = omega (arith, many) in
      sym (ap (held_in r) (sym same_set) ∙ any_first (region_eq r) (records_at w (k + 1) n) ∙ lt-ltb _ _ l)

  pub region_lacked : n ≤ i → false ≡ held_in r (set_from w k)
  region_lacked h =
      let q : i ≡ first_index (region_eq r) (records_at w (k + 1) n) = record_end w (k + 1) n i _ (region_eq r) inv h in
      let l : length (records_at w (k + 1) n) ≤ first_index (region_eq r) (records_at w (k + 1) n) = omega (arith, many) in
      sym (ap (held_in r) (sym same_set) ∙ any_first (region_eq r) (records_at w (k + 1) n) ∙ le-ltb _ _ l)

-- ---- sets: the word of a count for each side of a zone that begins at word k
set_many : (w : List ℕ) (k : ℕ) → length (set_from w k) ≡ get_or w k 0
unfolding set_from records_at
set_many w k = length_tab (get_or w k 0) (record_at w (k + 1))

-- where its count is zero, and where the zone is not there, nothing is in it
no_set : (w : List ℕ) (k : ℕ) → 0 ≡ get_or w k 0 → set_from w k ≡ []
unfolding set_from records_at tab places
no_set w k h = ap (λ (n : ℕ). records_at w (k + 1) n) (sym h)

side_none : (s : Side) → side_of s no_zone ≡ []
unfolding side_of
side_none Cpu = refl
side_none Iommu = refl

no_zone_law : (t : List Zone) (z : ℕ) (s : Side) → length t ≤ z → region_set t z s ≡ []
unfolding region_set
no_zone_law t z s h = ap (side_of s) (zone_past t z h) ∙ side_none s

pub iommu_word : (k : ℕ) → k + side_words Iommu ≡ k + 1 + set_words
iommu_word k = omega arith

module _ (w : List ℕ) where
  set_here : (z k : ℕ) (s : Side) → k ≡ zone_base z → set_from w (k + side_words s) ≡ set_in w z s
  unfolding set_from set_in set_base
  set_here z k s e = ap (λ (b : ℕ). records_at w (b + side_words s + 1) (get_or w (b + side_words s) 0)) e

  side_here : (z : ℕ) (s : Side) → side_of s (zone_in w z) ≡ set_in w z s
  unfolding side_of zone_in
  side_here z Cpu = refl
  side_here z Iommu = refl

  -- of a zone that is there
  pub own_set_law : (z k : ℕ) (s : Side) → k ≡ zone_start z → z < most_zones
      → set_from w (k + side_words s) ≡ side_of s (zone_in w z)
  own_set_law z k s e h = set_here z k s (start_is z k e h) ∙ sym (side_here z s)

  module _ (ok : InLimits w) where
    own_few : (z k : ℕ) (s : Side) → k ≡ zone_start z → z < length (zones_in w)
        → get_or w (k + side_words s) 0 ≤ most_in_set
    own_few z k s e h =
        let few : length (zones_in w) ≤ most_zones = ok.within.zones in
        let q : set_from w (k + side_words s) ≡ region_set (zones_in w) z s =
        set_here z k s (start_is z k e (omega arith)) ∙ sym (set_in_law w z s h) in
        omega (arith, set_many w (k + side_words s), ap length q, ok.within.sets z s h)

    pub own_at : (z k : ℕ) → k ≡ zone_start z → z < length (zones_in w) → ZoneAt w k
    own_at z k e h =
        let few : length (zones_in w) ≤ most_zones = ok.within.zones in
        let b : k ≡ zone_base z = start_is z k e (omega arith) in
        record {
          low = omega arith;
          cpu = own_few z k Cpu e h;
          iommu = rw iommu_word at (own_few z k Iommu e h);
        }

    -- of one that is looked for
    module _ (long : length w ≡ table_words) (id k : ℕ) (e : k ≡ start_of w id) where
      pub found_set : (s : Side) → set_from w (k + side_words s) ≡ region_set (zones_in w) (find id (zones_in w)) s
      found_set s = by (present id (zones_in w)) refl
        where
          by : (b : Bool) → present id (zones_in w) ≡ b
              → set_from w (k + side_words s) ≡ region_set (zones_in w) (find id (zones_in w)) s
          by true q =
              set_here (find id (zones_in w)) k s (e ∙ start_there w id q)
              ∙ sym (set_in_law w (find id (zones_in w)) s (found_there w id q))
          by false q =
              let p : table_words ≡ k = sym (e ∙ start_none w id q) in
              no_set w (k + side_words s) (word_past w (k + side_words s) (omega arith))
              ∙ sym (no_zone_law (zones_in w) (find id (zones_in w)) s (found_none w id q))

      found_few : (s : Side) → get_or w (k + side_words s) 0 ≤ most_in_set
      found_few s = by (present id (zones_in w)) refl
        where
          by : (b : Bool) → present id (zones_in w) ≡ b → get_or w (k + side_words s) 0 ≤ most_in_set
          by true q =
              omega (
                arith,
                set_many w (k + side_words s),
                ap length (found_set s),
                ok.within.sets (find id (zones_in w)) s (found_there w id q),
              )
          by false q =
              let p : table_words ≡ k = sym (e ∙ start_none w id q) in
              omega (arith, word_past w (k + side_words s) (omega arith))

      pub found_at : ZoneAt w k
      found_at = record {
        low = start_low w id k e ok.within.zones;
        cpu = found_few Cpu;
        iommu = rw iommu_word at (found_few Iommu);
      }
