-- Records among words, and the loops that look through them: e is the record that was read, t what the test said of it,
-- r the whole answer.
use Prim.Native.Nat.{ℕ, suc, ◌+◌, ◌-◌, ◌*◌, ◌≤◌, ◌<◌}
use native.Mathlib.Omega.{arith}
use mathlib.Core.Bool.{Bool, true, false}
use mathlib.Core.List.{List, ◌++◌}
use mathlib.Core.Path.{◌≡◌, sym, ap, ◌∙◌}
use lib.ListN.{length, get_or, set, replicate, get_or-append}
use lib.Seq.{get_or-append-add, sets}
use borrow.Author.Tests.{le-leb, lt-leb}
use Rattle.lists.specs.First.{first_from}
use Rattle.lists.specs.Words.{part}
use Rattle.lists.proofs.Places.{length_tab, first_hit, first_on, first_end}
use Rattle.lists.proofs.Words.{part_tab}
use Rattle.rules.specs.Fields.{numbers_of, region_of}
use Rattle.rules.specs.Regions.{region_eq, no_region}
use Rattle.rules.specs.declared.Region.{Region}
use Rattle.rules.proofs.Fields.{numbers_many, numbers_by, numbers_none, by_numbers}
use Rattle.zones.specs.Layout.{region_words}
use Rattle.zones.specs.Records.{region_at, words_of_region, record_at, records_at, placed, holds_at}

pub read_record : (w : List ℕ) (k : ℕ)
    → region_of (get_or w k 0) (get_or w (k + 1) 0) (get_or w (k + 2) 0) (get_or w (k + 3) 0) ≡ region_at w k
unfolding region_at
read_record w k =
    let z : k ≡ k + 0 = omega arith in
    ap (λ (j : ℕ). region_of (get_or w j 0) (get_or w (k + 1) 0) (get_or w (k + 2) 0) (get_or w (k + 3) 0)) z

pub record_read : (w : List ℕ) (b i : ℕ) (e : Region) → e ≡ region_at w (b + i * region_words) → e ≡ record_at w b i
unfolding record_at
record_read w b i e h = h

pub records_many : (w : List ℕ) (b n : ℕ) → length (records_at w b n) ≡ n
unfolding records_at
records_many w b n = length_tab n (record_at w b)

module _ (w : List ℕ) (b n i r : ℕ) (p : Region → Bool) (e : Region) (t : Bool) where
  pub record_hit : first_from p (records_at w b n) i ≡ r → i < n → e ≡ record_at w b i → t ≡ p e → t ≡ true → i ≡ r
  unfolding records_at
  record_hit inv h g a f = first_hit p (record_at w b) n i r t inv h (a ∙ ap p g) f

  pub record_on : first_from p (records_at w b n) i ≡ r → i < n → e ≡ record_at w b i → t ≡ p e → t ≡ false
      → first_from p (records_at w b n) (i + 1) ≡ r
  unfolding records_at
  record_on inv h g a f = first_on p (record_at w b) n i r t inv h (a ∙ ap p g) f

pub record_end : (w : List ℕ) (b n i r : ℕ) (p : Region → Bool) → first_from p (records_at w b n) i ≡ r → n ≤ i → i ≡ r
unfolding records_at
record_end w b n i r p inv h = first_end p (record_at w b) n i r inv h

-- ---- the words of a record
pub region_stored : (w : List ℕ) (k : ℕ) (r : Region)
    → set (set (set (set w k r.v.0) (k + 1) r.p.0) (k + 2) r.size) (k + 3) r.rights.0
    ≡ sets w k (words_of_region r)
unfolding words_of_region numbers_of
region_stored w k r =
    let e : k + 1 ≡ suc k = omega arith in
    let f : k + 2 ≡ suc (suc k) = omega arith in
    let g : k + 3 ≡ suc (suc (suc k)) = omega arith in
    (λ i. set (set (set (set w k r.v.0) (e i) r.p.0) (f i) r.size) (g i) r.rights.0)

pub region_wide : (r : Region) → length (words_of_region r) ≡ region_words
unfolding words_of_region
region_wide r = numbers_many r

pub zero_region : words_of_region no_region ≡ replicate region_words 0
unfolding words_of_region
zero_region = numbers_none

-- the words of a record, among others, are read as it; and the words that are read as a record are its words
pub region_read : (a c : List ℕ) (r : Region) (k : ℕ) → length a ≡ k → region_at (a ++ (words_of_region r ++ c)) k ≡ r
unfolding region_at words_of_region
region_read a c r k e =
    let l : List ℕ = numbers_of r ++ c in
    by_numbers (λ i. get_or (a ++ l) (k + i) 0) r
    (λ i h. ap (λ (n : ℕ). get_or (a ++ l) (n + i) 0) (sym e) ∙ get_or-append-add a l i 0
    ∙ get_or-append (numbers_of r) c 0 i (omega (arith, numbers_many r)))

pub region_part : (w : List ℕ) (k : ℕ) → k + region_words ≤ length w
    → part k region_words w ≡ words_of_region (region_at w k)
unfolding words_of_region region_at
region_part w k h = part_tab k region_words w 0 h ∙ sym (numbers_by (λ i. get_or w (k + i) 0))

-- a record is placed exactly where it has room
module _ (w : List ℕ) (k : ℕ) (r : Region) where
  pub no_room : (v : List ℕ) → length w < k + region_words → v ≡ w → v ≡ placed w k r
  unfolding placed
  no_room v h e = rw (lt-leb _ _ h) e

  pub has_room : (v : List ℕ) → k + region_words ≤ length w → v ≡ sets w k (words_of_region r) → v ≡ placed w k r
  unfolding placed
  has_room v h e = rw (le-leb _ _ h) e

-- and held exactly where it is wholly there
module _ (w : List ℕ) (k : ℕ) (r : Region) where
  pub not_there : length w < k + region_words → false ≡ holds_at w k r
  unfolding holds_at
  not_there h = rw (lt-leb _ _ h)

  held_same : k + region_words ≤ length w → region_eq (region_at w k) r ≡ holds_at w k r
  unfolding holds_at
  held_same h = rw (le-leb _ _ h)

  pub is_held : (b : Bool) (x : Region) → region_words ≤ length w → k ≤ length w - region_words → x ≡ region_at w k
      → b ≡ region_eq x r → b ≡ holds_at w k r
  is_held b x h l q e = e ∙ ap (λ (y : Region). region_eq y r) q ∙ held_same (omega arith)

  pub held_there : (b : Bool) → k + region_words ≤ length w → b ≡ holds_at w k r → b ≡ region_eq (region_at w k) r
  held_there b h e = e ∙ sym (held_same h)
