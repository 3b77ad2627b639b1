-- What an accepted request did is undone: what it took out stood where its note says, and what it added is the last.
use Prim.Native.Nat.{ℕ, ◌+◌, ◌-◌, ◌*◌, ◌≤◌, ◌<◌}
use native.Mathlib.Omega.{arith}
use mathlib.Core.List.{List, [], ◌∷◌, ◌++◌, append-nil}
use mathlib.Core.Path.{◌≡◌, refl, sym, ap, ap₂, ◌∙◌}
use lib.ListN.{length, get_or, set, take, drop, replicate}
use lib.Seq.{take_at, drop_at, sets}
use Rattle.lists.specs.Room.{remove_at}
use Rattle.lists.specs.Words.{counted, closed, cleared, part}
use Rattle.lists.proofs.Room.{length_removed}
use Rattle.lists.proofs.Words.{element_at, length_front_of, front, rear, count_at_law}
use Rattle.rules.specs.Changes.{region_set, put_set, cut, dropped}
use Rattle.rules.specs.Limits.{most_zones, most_in_set}
use Rattle.rules.specs.Regions.{no_region}
use Rattle.rules.specs.Tables.{no_zone, empty_zone, Zone}
use Rattle.rules.specs.declared.Region.{Region}
use Rattle.rules.specs.declared.Side.{Side}
use Rattle.zones.specs.Layout.{region_words, set_words, zone_words, table_words, zone_base, set_base}
use Rattle.zones.specs.Moves.{opened}
use Rattle.zones.specs.Records.{words_of_region}
use Rattle.zones.specs.Trial.{WithoutRegion, WithoutZone}
use Rattle.zones.specs.View.{set_in, zones_in}
use Rattle.zones.specs.Words.{words_of_set, words_of_zone, words_of, Within}
use Rattle.zones.proofs.Focus.{zone_wide, table_wide, zero_zone_law, pre, post, pre_long, focus, focus_same, set_read, view_words}
use Rattle.zones.proofs.Focus.{words_packed}
use Rattle.zones.proofs.Opening.{length_opened, reopened, cleared_named}
use Rattle.zones.proofs.Readers.{count_word, len_word}
use Rattle.zones.proofs.Records.{region_wide}
use Rattle.zones.proofs.Writers.{packed_long, cut_words, remove_words}

-- the words at a place between others
part_mid : (a x c : List ℕ) (k m : ℕ) → length a ≡ k → length x ≡ m → part k m (a ++ (x ++ c)) ≡ x
unfolding part
part_mid a x c k m p q = ap (take m) (drop_at a (x ++ c) k p) ∙ take_at x c m q

-- ---- a region, back in its set
module _ (b : List Zone) (z : ℕ) (s : Side) (i : ℕ) (ok : Within b) (h : z < length b) where
  xs : List Region
  xs = region_set b z s

  at : ℕ
  at = set_base z s

  long : length (pre b z s) ≡ at
  unfolding at
  long = pre_long b z s h ok.zones

  around : (ys : List Region) → words_of (put_set z s ys b)
      ≡ pre b z s ++ (counted most_in_set no_region words_of_region ys ++ post b z s)
  unfolding words_of_set
  around ys = focus b z s h ok.zones ys

  around_all : words_of b ≡ pre b z s ++ (counted most_in_set no_region words_of_region xs ++ post b z s)
  unfolding words_of_set xs
  around_all = focus_same b z s h ok.zones

  -- the counts of the set without its region, and with it
  cut_count : i < length xs → get_or (words_of (cut z s i b)) at 0 ≡ length xs - 1
  unfolding cut xs
  cut_count l =
      ap (λ (w : List ℕ). get_or w at 0) (around (remove_at i (region_set b z s)))
      ∙ count_at_law most_in_set no_region words_of_region region_words region_wide (pre b z s) (post b z s) at long
      (remove_at i (region_set b z s)) 0
      ∙ length_removed (region_set b z s) i l

  whole_count : get_or (words_of b) at 0 ≡ length xs
  whole_count =
      ap (λ (w : List ℕ). get_or w at 0) around_all
      ∙ count_at_law most_in_set no_region words_of_region region_words region_wide (pre b z s) (post b z s) at long xs 0

  -- the words that stood in the gap
  region_words_law : i < length xs → part (at + 1 + i * region_words) region_words (words_of b)
      ≡ words_of_region (get_or xs i no_region)
  unfolding xs
  region_words_law l =
      let q : length (region_set b z s) ≤ most_in_set = ok.sets z s h in
      ap (part (at + 1 + i * region_words) region_words)
      (around_all
      ∙ element_at most_in_set no_region words_of_region region_words region_wide (pre b z s) (post b z s) at long xs i
      no_region l q)
      ∙ part_mid
      (front most_in_set no_region words_of_region region_words region_wide (pre b z s) (post b z s) at long xs i)
      (words_of_region (get_or xs i no_region))
      (rear most_in_set no_region words_of_region region_words region_wide (pre b z s) (post b z s) at long xs i)
      (at + 1 + i * region_words) region_words
      (length_front_of most_in_set no_region words_of_region region_words region_wide (pre b z s) (post b z s) at long xs i
      (omega arith))
      (region_wide (get_or xs i no_region))

  -- what cutting it left
  cut_left : i < length xs
      → set (closed (words_of b) (at + 1 + i * region_words) region_words (at + 1 + length xs * region_words)) at
      (length xs - 1)
      ≡ words_of (cut z s i b)
  unfolding xs at
  cut_left l =
      let v : zones_in (words_of b) ≡ b = view_words b ok in
      let r : set_in (words_of b) z s ≡ region_set b z s = set_read b ok z h s in
      cut_words (words_of b) _ (words_packed b ok) z (rw v h) s (set_base z s) (length (region_set b z s)) refl
      (ap length (sym r)) i (rw r l) refl
      ∙ ap (λ (t : List Zone). words_of (cut z s i t)) v

pub region_back : (w u v : List ℕ) (z : ℕ) (s : Side) (i : ℕ) (r : Region) (a n : ℕ) → a ≡ set_base z s
    → a + set_words ≤ table_words → n ≡ length (set_in w z s)
    → u ≡ opened w (a + 1 + i * region_words) region_words (a + 1 + (n + 1) * region_words)
    → v ≡ sets u (a + 1 + i * region_words) (words_of_region r)
    → (b : List Zone) → WithoutRegion b z s i r w → set v a (n + 1) ≡ words_of b
unfolding xs at
region_back w u v z s i r a n ea fits en eu ev b h =
    let l : i < length (region_set b z s) = h.inside in
    let few : length (region_set b z s) ≤ most_in_set = h.within.sets z s h.there in
    let count : n + 1 ≡ length (region_set b z s) =
    omega (
      arith,
      en
          ∙ sym (len_word w z s (set_base z s) refl)
          ∙ ap (λ (t : List ℕ). get_or t (set_base z s) 0) h.words
          ∙ cut_count b z s i h.within h.there l,
    ) in
    let c : ℕ = set_base z s + 1 + i * region_words in
    let e : ℕ = set_base z s + 1 + length (region_set b z s) * region_words in
    let room : set_base z s + set_words ≤ table_words = rw ea at fits in
    let lw : length (words_of b) ≡ table_words = packed_long (words_of b) (words_packed b h.within) in
    let before : w ≡ set (closed (words_of b) c region_words e) (set_base z s) (length (region_set b z s) - 1) =
    h.words ∙ sym (cut_left b z s i h.within h.there l) in
    let words : words_of_region r ≡ part c region_words (words_of b) =
    ap words_of_region (sym h.same) ∙ sym (region_words_law b z s i h.within h.there l) in
    ap (λ (t : List ℕ). set t a (n + 1)) (ev ∙ ap (λ (t : List ℕ). sets t (a + 1 + i * region_words) (words_of_region r)) eu)
    ∙ ap₂ (λ (k m : ℕ). set
    (sets (opened w (k + 1 + i * region_words) region_words (k + 1 + m * region_words)) (k + 1 + i * region_words)
    (words_of_region r)) k m) ea count
    ∙ ap₂ (λ (t x : List ℕ). set (sets (opened t c region_words e) c x) (set_base z s) (length (region_set b z s))) before words
    ∙ ap (set (sets (opened (set (closed (words_of b) c region_words e) (set_base z s) (length (region_set b z s) - 1)) c
    region_words e) c (part c region_words (words_of b))) (set_base z s))
    (sym (whole_count b z s i h.within h.there))
    ∙ reopened (words_of b) c region_words e (set_base z s) (omega arith) (omega arith) (omega arith)
    (length (region_set b z s) - 1)

-- ---- an empty zone, back at its position
empty_words : (id : ℕ) → words_of_zone (empty_zone id) ≡ id ∷ replicate (zone_words - 1) 0
unfolding words_of_zone
empty_words id = ap (λ (l : List ℕ). id ∷ drop 1 l) zero_zone_law

zone_words_law : (b : List Zone) (z : ℕ) → Within b → z < length b
    → part (zone_base z) zone_words (words_of b) ≡ words_of_zone (get_or b z no_zone)
unfolding words_of
zone_words_law b z ok h =
    let q : length b ≤ most_zones = ok.zones in
    ap (part (zone_base z) zone_words)
    (sym (append-nil (counted most_zones no_zone words_of_zone b))
    ∙ element_at most_zones no_zone words_of_zone zone_words zone_wide [] [] 0 refl b z no_zone h q)
    ∙ part_mid (front most_zones no_zone words_of_zone zone_words zone_wide [] [] 0 refl b z)
    (words_of_zone (get_or b z no_zone)) (rear most_zones no_zone words_of_zone zone_words zone_wide [] [] 0 refl b z)
    (zone_base z) zone_words
    (length_front_of most_zones no_zone words_of_zone zone_words zone_wide [] [] 0 refl b z (omega arith) ∙ omega arith)
    (zone_wide (get_or b z no_zone))

first_word : (b : List Zone) → get_or (words_of b) 0 0 ≡ length b
unfolding words_of counted
first_word b = refl

pub zone_back : (w u v : List ℕ) (z id a k n : ℕ) → a ≡ zone_base z → k ≡ zone_base (n + 1) → n ≡ length (zones_in w)
    → u ≡ opened w a zone_words k → v ≡ cleared u a (a + zone_words)
    → (b : List Zone) → WithoutZone b z id w → set (set v a id) 0 (n + 1) ≡ words_of b
unfolding dropped
zone_back w u v z id a k n ea ek en eu ev b h =
    let few : length b ≤ most_zones = h.within.zones in
    let there : z < length b = h.there in
    let count : n + 1 ≡ length b =
    omega (
      arith,
      en ∙ sym (count_word w) ∙ ap (λ (t : List ℕ). get_or t 0 0) h.words ∙ first_word (remove_at z b)
          ∙ length_removed b z there,
    ) in
    let e : ℕ = zone_base (length b) in
    let end : k ≡ e = ek ∙ ap zone_base count in
    let lw : length (words_of b) ≡ table_words = packed_long (words_of b) (words_packed b h.within) in
    let vw : zones_in (words_of b) ≡ b = view_words b h.within in
    let here : length w ≡ table_words = ap length h.words ∙ table_wide (remove_at z b) in
    let long : a + zone_words ≤ length u =
    omega (arith, ap length eu ∙ length_opened w a zone_words k (omega arith) (omega arith)) in
    let before : w ≡ set (closed (words_of b) (zone_base z) zone_words e) 0 (length b - 1) =
    h.words
    ∙ sym (remove_words (words_of b) _ (words_packed b h.within) (length b) (ap length (sym vw)) z (zone_base z) e refl
    refl (rw vw there) refl
    ∙ ap (λ (t : List Zone). words_of (remove_at z t)) vw) in
    let words : id ∷ replicate (zone_words - 1) 0 ≡ part (zone_base z) zone_words (words_of b) =
    sym (empty_words id) ∙ ap words_of_zone (sym h.same) ∙ sym (zone_words_law b z h.within there) in
    ap (λ (t : List ℕ). set (set t a id) 0 (n + 1)) ev
    ∙ ap (λ (t : List ℕ). set t 0 (n + 1)) (cleared_named u a zone_words id (omega arith) long)
    ∙ ap (λ (t : List ℕ). set (sets t a (id ∷ replicate (zone_words - 1) 0)) 0 (n + 1)) eu
    ∙ ap₂ (λ (j m : ℕ). set (sets (opened w j zone_words m) j (id ∷ replicate (zone_words - 1) 0)) 0 (n + 1)) ea end
    ∙ ap₂ (λ (t x : List ℕ). set (sets (opened t (zone_base z) zone_words e) (zone_base z) x) 0 (n + 1)) before words
    ∙ ap (set (sets (opened (set (closed (words_of b) (zone_base z) zone_words e) 0 (length b - 1)) (zone_base z) zone_words
    e) (zone_base z) (part (zone_base z) zone_words (words_of b))) 0) (count ∙ sym (first_word b))
    ∙ reopened (words_of b) (zone_base z) zone_words e 0 (omega arith) (omega arith) (omega arith) (length b - 1)
