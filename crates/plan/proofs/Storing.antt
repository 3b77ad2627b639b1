-- Values stored in words that are zero: the words of what was read, and zeros in what is free.
use Prim.Native.Nat.{ℕ, suc, ◌+◌, ◌-◌, ◌*◌, ◌≤◌}
use native.Mathlib.Omega.{arith}
use native.Mathlib.Nat.{zero-mul, suc-mul, add-mul}
use mathlib.Core.List.{List, [], ◌∷◌, ◌++◌, flat_map, append_assoc, append-nil}
use mathlib.Core.Path.{◌≡◌, refl, sym, ap, ◌∙◌}
use lib.ListN.{length, set, length-append, replicate, length-replicate, replicate-append-replicate}
use Rattle.lists.specs.Words.{counted}
use Rattle.lists.proofs.Words.{sets_mid, counted_words}
use Rattle.formats.specs.Formats.{All}
use Rattle.rules.specs.Limits.{most_in_set, most_zones}
use Rattle.rules.specs.Regions.{no_region}
use Rattle.rules.specs.Tables.{Zone, no_zone}
use Rattle.rules.specs.declared.Region.{Region}
use Rattle.zones.specs.Layout.{region_words, set_words, zone_words, table_words, zone_base}
use Rattle.zones.specs.Records.{words_of_region}
use Rattle.zones.specs.Words.{words_of_set, words_of_zone, words_of}
use Rattle.zones.proofs.Focus.{set_wide, zone_wide, zero_zone_law}
use Rattle.zones.proofs.Records.{region_wide, zero_region}
use Rattle.plan.proofs.Agreeing.{put_all, store_record, store_set, store_sets, store_zone, store_zones}

-- a word stored over a zero
set_mid : (a c : List ℕ) (k x : ℕ) → length a ≡ k → set (a ++ (0 ∷ c)) k x ≡ a ++ (x ∷ c)
set_mid a c k x e = sets_mid a (0 ∷ []) c (x ∷ []) k e refl

zeros_split : (i j n : ℕ) → n ≡ i + j → replicate {A = ℕ} n 0 ≡ replicate i 0 ++ replicate j 0
zeros_split i j n e = ap (λ (m : ℕ). replicate m 0) e ∙ sym (replicate-append-replicate i j 0)

-- ---- elements of m words each, from word a on; P is what each of them must have
module _ {A : Type 0} (g : A → List ℕ) (m a : ℕ) (P : A → Type 0) (wide : (x : A) → length (g x) ≡ m)
    (p : ℕ → List ℕ → A → List ℕ)
    (one : (i : ℕ) (pre post : List ℕ) (x : A) → P x → length pre ≡ a + i * m
    → p i (pre ++ (replicate m 0 ++ post)) x ≡ pre ++ (g x ++ post)) where
  pub all_stored : (xs : List A) (i : ℕ) (pre post : List ℕ) → All P xs → length pre ≡ a + i * m
      → put_all p i (pre ++ (replicate (length xs * m) 0 ++ post)) xs ≡ pre ++ (flat_map g xs ++ post)
  unfolding put_all flat_map
  all_stored [] i pre post h e = ap (λ (j : ℕ). pre ++ (replicate j 0 ++ post)) (zero-mul m)
  all_stored (x ∷ xs) i pre post h e =
      let n : ℕ = length xs in
      let split : replicate {A = ℕ} (suc n * m) 0 ≡ replicate m 0 ++ replicate (n * m) 0 =
      zeros_split m (n * m) (suc n * m) (omega (arith, suc-mul n m)) in
      let len : length (pre ++ g x) ≡ a + suc i * m = omega (arith, suc-mul i m, length-append pre (g x), wide x) in
      ap (λ (l : List ℕ). put_all p (suc i) (p i (pre ++ (l ++ post)) x) xs) split
      ∙ ap (λ (l : List ℕ). put_all p (suc i) (p i (pre ++ l) x) xs)
      (append_assoc (replicate m 0) (replicate (n * m) 0) post)
      ∙ ap (λ (l : List ℕ). put_all p (suc i) l xs)
      (one i pre (replicate (n * m) 0 ++ post) x h.0 e ∙ sym (append_assoc pre (g x) (replicate (n * m) 0 ++ post)))
      ∙ all_stored xs (suc i) (pre ++ g x) post h.1 len
      ∙ append_assoc pre (g x) (flat_map g xs ++ post)
      ∙ ap (λ (l : List ℕ). pre ++ l) (sym (append_assoc (g x) (flat_map g xs) post))

-- ---- a counted list, its count in word k
module _ {A : Type 0} (g : A → List ℕ) (m k : ℕ) (P : A → Type 0) (wide : (x : A) → length (g x) ≡ m)
    (p : ℕ → List ℕ → A → List ℕ)
    (one : (i : ℕ) (pre post : List ℕ) (x : A) → P x → length pre ≡ k + 1 + i * m
    → p i (pre ++ (replicate m 0 ++ post)) x ≡ pre ++ (g x ++ post)) (n : ℕ) (z : A) (zero : g z ≡ replicate m 0) where
  pub counted_stored : (xs : List A) (pre post : List ℕ) → All P xs → length xs ≤ n → length pre ≡ k
      → put_all p 0 (set (pre ++ (replicate (1 + n * m) 0 ++ post)) k (length xs)) xs ≡ pre ++ (counted n z g xs ++ post)
  counted_stored xs pre post h l e =
      let c : ℕ = length xs in
      let free : List ℕ = replicate ((n - c) * m) 0 in
      let split : replicate {A = ℕ} (1 + n * m) 0 ≡ 0 ∷ (replicate (c * m) 0 ++ free) =
      (let q : n ≡ c + (n - c) = omega arith in
      let r : n * m ≡ c * m + (n - c) * m = ap (λ (j : ℕ). j * m) q ∙ add-mul c (n - c) m in
      let s : 1 + n * m ≡ suc (n * m) = omega arith in
      ap (λ (j : ℕ). replicate j 0) s ∙ ap (λ (l : List ℕ). 0 ∷ l) (zeros_split (c * m) ((n - c) * m) (n * m) r)) in
      let len : length (pre ++ (c ∷ [])) ≡ k + 1 + 0 * m =
      (let q : length (c ∷ []) ≡ 1 = refl in
      omega (arith, length-append pre (c ∷ []))) in
      ap (λ (l : List ℕ). put_all p 0 (set (pre ++ (l ++ post)) k c) xs) split
      ∙ ap (λ (l : List ℕ). put_all p 0 l xs) (set_mid pre ((replicate (c * m) 0 ++ free) ++ post) k c e
      ∙ sym (append_assoc pre (c ∷ []) ((replicate (c * m) 0 ++ free) ++ post))
      ∙ ap (λ (l : List ℕ). (pre ++ (c ∷ [])) ++ l) (append_assoc (replicate (c * m) 0) free post))
      ∙ all_stored g m (k + 1) P wide p one xs 0 (pre ++ (c ∷ [])) (free ++ post) h len
      ∙ append_assoc pre (c ∷ []) (flat_map g xs ++ (free ++ post))
      ∙ ap (λ (l : List ℕ). pre ++ (c ∷ l)) (sym (append_assoc (flat_map g xs) free post))
      ∙ ap (λ (l : List ℕ). pre ++ (l ++ post)) (sym (counted_words g m n z zero xs l))

-- ---- records, sets, zones
record_stored : (a i : ℕ) (pre post : List ℕ) (r : Region) → Unit {0} → length pre ≡ a + i * region_words
    → store_record a i (pre ++ (replicate region_words 0 ++ post)) r ≡ pre ++ (words_of_region r ++ post)
unfolding store_record
record_stored a i pre post r h e =
    sets_mid pre (replicate region_words 0) post (words_of_region r) (a + i * region_words) e
    (length-replicate {A = ℕ} region_words 0 ∙ sym (region_wide r))

abbrev Anything : {A : Type 0} → A → Type 0
Anything x = Unit {0}

any_all : {A : Type 0} (xs : List A) → All Anything xs
any_all [] = tt
any_all (x ∷ xs) = (tt, any_all xs)

-- the regions of a configuration
pub records_stored : (a : ℕ) (rs : List Region) (pre post : List ℕ) → length pre ≡ a
    → put_all (store_record a) 0 (pre ++ (replicate (length rs * region_words) 0 ++ post)) rs
    ≡ pre ++ (flat_map words_of_region rs ++ post)
records_stored a rs pre post e =
    all_stored words_of_region region_words a Anything region_wide (store_record a) (record_stored a) rs 0 pre post
    (any_all rs) (omega arith)

set_stored : (k : ℕ) (rs : List Region) (pre post : List ℕ) → length rs ≤ most_in_set → length pre ≡ k
    → store_set k (k + 1) (pre ++ (replicate set_words 0 ++ post)) rs ≡ pre ++ (words_of_set rs ++ post)
unfolding store_set words_of_set
set_stored k rs pre post h e =
    counted_stored words_of_region region_words k Anything region_wide (store_record (k + 1))
    (record_stored (k + 1)) most_in_set no_region zero_region rs pre post (any_all rs) h e

-- both sets of a zone within limits
abbrev pub SetsFit : Zone → Type 0
SetsFit z = (length z.cpu ≤ most_in_set) × (length z.iommu ≤ most_in_set)

zone_stored : (i : ℕ) (pre post : List ℕ) (z : Zone) → SetsFit z → length pre ≡ 0 + 1 + i * zone_words
    → store_zone i (pre ++ (replicate zone_words 0 ++ post)) z ≡ pre ++ (words_of_zone z ++ post)
unfolding store_zone store_sets words_of_zone
zone_stored i pre post z h e =
    let b : ℕ = zone_base i in
    let two : List ℕ = replicate set_words 0 in
    let cpu : List ℕ = words_of_set z.cpu in
    let split : replicate {A = ℕ} zone_words 0 ≡ 0 ∷ (two ++ two) =
    ap (λ (l : List ℕ). 0 ∷ l) (zeros_split set_words set_words (2 * set_words) (omega arith)) in
    let first : List ℕ = pre ++ (z.id ∷ []) in
    let one : length first ≡ b + 1 =
    (let q : length (z.id ∷ []) ≡ 1 = refl in
    omega (arith, length-append pre (z.id ∷ []))) in
    let next : length (first ++ cpu) ≡ b + 1 + set_words = omega (arith, length-append first cpu, set_wide z.cpu) in
    ap (λ (l : List ℕ). store_set (b + 1 + set_words) (b + 1 + set_words + 1)
    (store_set (b + 1) (b + 1 + 1) (set (pre ++ (l ++ post)) b z.id) z.cpu) z.iommu) split
    ∙ ap (λ (l : List ℕ). store_set (b + 1 + set_words) (b + 1 + set_words + 1) (store_set (b + 1) (b + 1 + 1) l z.cpu)
    z.iommu)
    (set_mid pre ((two ++ two) ++ post) b z.id (omega arith)
    ∙ sym (append_assoc pre (z.id ∷ []) ((two ++ two) ++ post))
    ∙ ap (λ (l : List ℕ). first ++ l) (append_assoc two two post))
    ∙ ap (λ (l : List ℕ). store_set (b + 1 + set_words) (b + 1 + set_words + 1) l z.iommu)
    (set_stored (b + 1) z.cpu first (two ++ post) h.0 one ∙ sym (append_assoc first cpu (two ++ post)))
    ∙ set_stored (b + 1 + set_words) z.iommu (first ++ cpu) post h.1 next
    ∙ append_assoc first cpu (words_of_set z.iommu ++ post)
    ∙ append_assoc pre (z.id ∷ []) (cpu ++ (words_of_set z.iommu ++ post))
    ∙ ap (λ (l : List ℕ). pre ++ (z.id ∷ l)) (sym (append_assoc cpu (words_of_set z.iommu) post))

pub zones_stored : (zs : List Zone) → All SetsFit zs → length zs ≤ most_zones
    → store_zones (replicate table_words 0) zs ≡ words_of zs
unfolding store_zones words_of
zones_stored zs h l =
    ap (λ (w : List ℕ). put_all store_zone 0 (set w 0 (length zs)) zs) (sym (append-nil (replicate table_words 0)))
    ∙ counted_stored words_of_zone zone_words 0 SetsFit zone_wide store_zone zone_stored most_zones no_zone zero_zone_law zs [] []
    h l refl
    ∙ append-nil (counted most_zones no_zone words_of_zone zs)
