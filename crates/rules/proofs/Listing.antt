-- The map listing: what the shift is and where it lies, and how long a listing is.
use Prim.Native.Nat.{ℕ, zero, suc, ◌+◌, ◌-◌, ◌*◌, ◌/◌, ◌%◌, ◌^◌, ◌≤◌, ◌<◌}
use native.Mathlib.Decide.{dec_lt}
use native.Mathlib.Nat.{add-zero, one-mul, mod-zero, mod-eq_of_lt, div-mul-le_self, le-div_iff_mul-le, div-add-mod'}
use native.Mathlib.Nat.{add-mul, suc-mul, mul-le-mul_right}
use native.Mathlib.Omega.{arith}
use mathlib.Core.Bool.{true}
use mathlib.Core.List.{List, [], ◌∷◌, flat_map}
use mathlib.Core.Path.{◌≡◌, sym, ap, ◌∙◌}
use borrow.Author.Tests.{ltb-true, leb-true, eqb-true, lt-ltb, le-ltb}
use lib.IntN.{ℤ, pos, negsuc, sub_ℕ}
use lib.ListN.{length, length-append}
use Rattle.lists.proofs.Tests.{parts}
use Rattle.formats.specs.Formats.{All}
use Rattle.formats.specs.Sizes.{total}
use Rattle.formats.specs.Texts.{decimal, signed, hex}
use Rattle.formats.proofs.Texts.{decimal_length, hex_length, line_length}
use Rattle.rules.specs.Configuration.{Configuration}
use Rattle.rules.specs.Limits.{highest_id, limits, Limits}
use Rattle.rules.specs.Listing.{shift, side_word, fields_of, line, set_lines, zone_lines, listing, longest_line}
use Rattle.rules.specs.Listing.{longest_listing, PagesFrom, FromTo, lowest_shift, highest_shift, Reaches}
use Rattle.rules.specs.Regions.{all_rights, well_formed, in_reach}
use Rattle.rules.specs.Tables.{configured, sound_set, sound_zone, Zone}
use Rattle.rules.specs.declared.Region.{Region}
use Rattle.rules.specs.declared.Side.{Side}
use Rattle.rules.specs.declared.Side.TheVariants.{Cpu, Iommu}
use Rattle.rules.proofs.Configuration.{SoundConfiguration}
use Rattle.rules.proofs.Keeps.{SoundTable}
use Rattle.rules.proofs.Planner.{all_passing}
use Rattle.rules.proofs.Tables.{configured_at}

-- ---- the shift
whole_pages : (page x : ℕ) → x % page ≡ 0 → x ≡ x / page * page
whole_pages page x e =
    sym (div-add-mod' x page) ∙ ap (λ (k : ℕ). x / page * page + k) e ∙ add-zero (x / page * page)

-- k is j and d more, so k pages are j pages and d pages more
more_pages : (page x y j k d : ℕ) → x ≡ j * page → y ≡ k * page → k ≡ j + d → y ≡ x + d * page
more_pages page x y j k d e f q =
    f ∙ ap (λ (n : ℕ). n * page) q ∙ add-mul j d page ∙ ap (λ (n : ℕ). n + d * page) (sym e)

pages_apart : (page v p a b : ℕ) → v ≡ b * page → p ≡ a * page → PagesFrom page v p (sub_ℕ a b)
pages_apart page v p a b e f =
    elim (dec_lt a b) [
      | yes h ↦ rw (lt-ltb a b h) (more_pages page p v a b (b - suc a + 1) f e (omega arith))
      | no h ↦ rw (le-ltb a b (omega arith)) (more_pages page v p b a (a - b) e f (omega arith))
    ]

-- it is the distance of the two starts in whole pages
pub shift_exact : (page : ℕ) (r : Region) → well_formed page r ≡ true
    → PagesFrom page r.v.0 r.p.0 (shift page r)
unfolding well_formed shift
shift_exact page r h =
    let t = parts _ h in
    pages_apart page r.v.0 r.p.0 (r.p.0 / page) (r.v.0 / page)
    (whole_pages page r.v.0 (eqb-true _ _ t.1.0)) (whole_pages page r.p.0 (eqb-true _ _ t.1.1.0))

from_to : (lo hi a b : ℕ) → a ≤ hi → b ≤ lo → FromTo lo hi (sub_ℕ a b)
from_to lo hi a b h k =
    elim (dec_lt a b) [
      | yes s ↦ rw (lt-ltb a b s) (omega arith)
      | no s ↦ rw (le-ltb a b (omega arith)) (omega arith)
    ]

-- the page of a start lies below the reach
below_reach : (page x size reach : ℕ) → 0 < size → size % page ≡ 0 → x + size ≤ reach → x / page ≤ reach / page - 1
below_reach zero x size reach s e h = absurd (omega (arith, sym (mod-zero size) ∙ e))
below_reach (suc k) x size reach s e h =
    let wide : suc k ≤ size =
    elim (dec_lt size (suc k)) [ yes a ↦ absurd (omega (arith, sym (mod-eq_of_lt a) ∙ e)) | no a ↦ omega arith ] in
    let one : (x / suc k + 1) * suc k ≤ reach =
    omega (arith, add-mul (x / suc k) 1 (suc k), div-mul-le_self x (suc k), one-mul (suc k)) in
    let some : 0 < suc k = omega arith in
    let up : x / suc k + 1 ≤ reach / suc k = (le-div_iff_mul-le some).1 one in
    omega arith

-- it lies from -(guest reach in pages - 1) to physical reach in pages - 1
pub shift_within : (l : Limits) (r : Region) → well_formed l.page r ≡ true → in_reach l r ≡ true
    → FromTo (l.guest_reach / l.page - 1) (l.phys_reach / l.page - 1) (shift l.page r)
unfolding well_formed in_reach shift
shift_within l r h k =
    let t = parts _ h in
    let u = parts _ k in
    let size : 0 < r.size = ltb-true _ _ t.0 in
    let whole : r.size % l.page ≡ 0 = eqb-true _ _ t.1.1.1.0 in
    from_to (l.guest_reach / l.page - 1) (l.phys_reach / l.page - 1) (r.p.0 / l.page) (r.v.0 / l.page)
    (below_reach l.page r.p.0 r.size l.phys_reach size whole (leb-true _ _ u.1.0))
    (below_reach l.page r.v.0 r.size l.guest_reach size whole (leb-true _ _ u.0))

-- a wider stretch
wider : (lo hi lo' hi' : ℕ) (z : ℤ) → lo ≤ lo' → hi ≤ hi' → FromTo lo hi z → FromTo lo' hi' z
wider lo hi lo' hi' (pos n) a b h = omega arith
wider lo hi lo' hi' (negsuc n) a b h = omega arith

-- so from -(2^28 - 1) to 2^36 - 1
pub shift_range : (l : Limits) → Reaches l → (r : Region) → well_formed l.page r ≡ true → in_reach l r ≡ true
    → FromTo lowest_shift highest_shift (shift l.page r)
shift_range l far r h k =
    let g : l.guest_reach ≤ 2 ^ 40 = far.guest in
    let p : l.phys_reach ≤ 2 ^ 48 = far.phys in
    let e : l.guest_reach / l.page ≡ l.guest_reach / 4096 = ap (λ (n : ℕ). l.guest_reach / n) far.page in
    let f : l.phys_reach / l.page ≡ l.phys_reach / 4096 = ap (λ (n : ℕ). l.phys_reach / n) far.page in
    wider (l.guest_reach / l.page - 1) (l.phys_reach / l.page - 1) lowest_shift highest_shift (shift l.page r)
    (omega arith) (omega arith) (shift_within l r h k)

-- ---- how long a line is
-- whatever is printed: the id takes up to i, the rights up to j and the shift up to n
pub line_within : (l : Limits) (id : ℕ) (s : Side) (r : Region) (i j n : ℕ) → length (decimal id) ≤ i
    → length (decimal r.rights.0) ≤ j → length (signed (shift l.page r)) ≤ n
    → length (line l id s r) ≤ (i + 1) + (length (side_word s) + 1) + 57 + (j + 1) + (n + 1)
unfolding fields_of total
line_within l id s r i j n a b c =
    omega (
      arith,
      line_length (decimal id)
          (side_word s ∷ hex r.v.0 ∷ hex r.p.0 ∷ hex r.size ∷ decimal r.rights.0
          ∷ signed (shift l.page r) ∷ []),
      hex_length r.v.0,
      hex_length r.p.0,
      hex_length r.size,
    )

shift_length : (z : ℤ) → FromTo lowest_shift highest_shift z → length (signed z) ≤ 11
unfolding signed
shift_length (pos n) h = decimal_length n 11 (omega arith) (omega arith)
shift_length (negsuc n) h = omega (arith, decimal_length (suc n) 9 (omega arith) (omega arith))

-- well formed and in reach
abbrev pub Formed : Limits → Region → Type 0
Formed l r = (well_formed l.page r ≡ true) × (in_reach l r ≡ true)

module _ (lim : Limits) (far : Reaches lim) where
  line_most : (id : ℕ) (s : Side) (r : Region) → id ≤ highest_id → Formed lim r
      → length (line lim id s r) ≤ longest_line s
  unfolding longest_line well_formed
  line_most id s r i f =
      let t : r.rights.0 ≤ all_rights = leb-true _ _ (parts _ f.0).1.1.1.1.1.0 in
      line_within lim id s r 3 1 11 (decimal_length id 3 (omega arith) (omega arith))
      (decimal_length r.rights.0 1 (omega arith) (omega arith))
      (shift_length (shift lim.page r) (shift_range lim far r f.0 f.1))

  set_most : (id : ℕ) (s : Side) → id ≤ highest_id → (xs : List Region) → All (Formed lim) xs
      → length (set_lines lim id s xs) ≤ length xs * longest_line s
  unfolding flat_map
  set_most id s h [] f = omega arith
  set_most id s h (x ∷ xs) f =
      omega (
        arith,
        length-append (line lim id s x) (set_lines lim id s xs),
        line_most id s x h f.0,
        set_most id s h xs f.1,
        suc-mul (length xs) (longest_line s),
      )

-- ---- what a sound table's zones are like
pub record Listable (l : Limits) (z : Zone) : Type 0 where
  pub id : z.id ≤ highest_id
  pub cpu_few : length z.cpu ≤ l.in_set
  pub iommu_few : length z.iommu ≤ l.in_set
  pub cpu : All (Formed l) z.cpu
  pub iommu : All (Formed l) z.iommu

module _ (lim : Limits) (c : Configuration) (ok : SoundConfiguration lim c) where
  configured_formed : (r : Region) → configured c r ≡ true → Formed lim r
  configured_formed r e =
      let (i, h, q) = configured_at lim c ok r e in
      (ap (well_formed lim.page) q ∙ ok.formed i h, ap (in_reach lim) q ∙ ok.near i h)

  zone_listable : (z : Zone) → sound_zone lim c z ≡ true → Listable lim z
  unfolding sound_zone sound_set
  zone_listable z e =
      let t = parts _ e in
      let u = parts _ t.1.0 in
      let w = parts _ t.1.1.0 in
      record {
        id = leb-true _ _ t.0;
        cpu_few = leb-true _ _ u.0;
        iommu_few = leb-true _ _ w.0;
        cpu = all_passing (Formed lim) (configured c) configured_formed z.cpu u.1.0;
        iommu = all_passing (Formed lim) (configured c) configured_formed z.iommu w.1.0;
      }

  pub table_listable : (t : List Zone) → SoundTable lim c t → All (Listable lim) t
  table_listable t s = all_passing (Listable lim) (sound_zone lim c) zone_listable t s.zones

-- ---- how long a listing is
module _ (lim : Limits) (far : Reaches lim) where
  abbrev zone_most : ℕ
  zone_most = lim.in_set * longest_line Cpu + lim.in_set * longest_line Iommu

  zone_most_law : (z : Zone) → Listable lim z → length (zone_lines lim z) ≤ zone_most
  unfolding zone_lines
  zone_most_law z h =
      omega (
        arith,
        length-append (set_lines lim z.id Cpu z.cpu) (set_lines lim z.id Iommu z.iommu),
        set_most lim far z.id Cpu h.id z.cpu h.cpu,
        set_most lim far z.id Iommu h.id z.iommu h.iommu,
        mul-le-mul_right (longest_line Cpu) h.cpu_few,
        mul-le-mul_right (longest_line Iommu) h.iommu_few,
      )

  zones_most_law : (t : List Zone) → All (Listable lim) t → length (listing lim t) ≤ length t * zone_most
  unfolding listing flat_map
  zones_most_law [] h = omega arith
  zones_most_law (z ∷ t) h =
      omega (
        arith,
        length-append (zone_lines lim z) (flat_map (zone_lines lim) t),
        zone_most_law z h.0,
        zones_most_law t h.1,
        suc-mul (length t) zone_most,
      )

  -- the listing of a sound table is at most as long as the limits let it be
  pub listing_most : (c : Configuration) → SoundConfiguration lim c → (t : List Zone) → SoundTable lim c t
      → length (listing lim t) ≤ longest_listing lim
  unfolding longest_listing
  listing_most c ok t s =
      omega (arith, zones_most_law t (table_listable lim c ok t s), mul-le-mul_right zone_most s.few)

pub limits_reach : Reaches limits
limits_reach = record { page = omega arith; guest = omega arith; phys = omega arith }
