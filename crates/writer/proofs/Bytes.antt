-- What is written of lists: the records of words, and the requests of bytes.
use Prim.Native.Nat.{ℕ, ◌+◌, ◌*◌, ◌/◌, ◌≤◌}
use native.Mathlib.Omega.{arith}
use mathlib.Core.List.{List, [], ◌∷◌, ◌++◌, flat_map, map-map}
use mathlib.Core.Path.{◌≡◌, refl, sym, ap, ◌∙◌}
use lib.ListN.{length, get_or, take, drop, length-append, length-drop}
use lib.Seq.{take_at, drop-drop}
use Rattle.lists.specs.Bytes.{little, bytes_of, Bytes}
use Rattle.lists.specs.Places.{places, tab}
use Rattle.lists.specs.Words.{part}
use Rattle.lists.proofs.Places.{length_tab}
use Rattle.lists.proofs.Words.{parts_flat}
use Rattle.formats.specs.Formats.{got, write_many, read_many, write_headed, listed, All}
use Rattle.formats.proofs.Formats.{lawful_many, many_append}
use Rattle.formats.proofs.Widths.{fields_there}
use Rattle.rules.specs.Fields.{numbers_of}
use Rattle.rules.specs.Plan.{long, region_field, asked_field, requests_from, AskedFits, Asked}
use Rattle.rules.specs.Run.{make_request, request_size, request_from, requests_in}
use Rattle.rules.specs.Writer.{asked_at, asked_of}
use Rattle.rules.specs.declared.Region.{Region}
use Rattle.rules.proofs.Plan.{lawful_asked}
use Rattle.zones.specs.Layout.{region_words}
use Rattle.zones.specs.Records.{words_of_region, record_at, records_at}
use Rattle.zones.proofs.Records.{region_part}
use Rattle.plan.proofs.Fields.{region_value, asked_in, asked_format, wide_asked, in_bytes}
use Rattle.writer.specs.Writer.{set_bytes}

-- ---- records
-- the bytes of regions are those of their numbers, one after another
regions_longs : (xs : List Region) → write_many long (flat_map words_of_region xs) ≡ write_many region_field xs
unfolding write_many flat_map words_of_region
regions_longs [] = refl
regions_longs (x ∷ xs) =
    many_append long (numbers_of x) (flat_map words_of_region xs)
    ∙ ap (λ (l : List ℕ). write_many long (numbers_of x) ++ l) (regions_longs xs)

pub records_longs : (w : List ℕ) (a n : ℕ) → a + n * region_words ≤ length w
    → write_many long (part a (n * region_words) w) ≡ write_many region_field (records_at w a n)
unfolding records_at record_at
records_longs w a n h =
    ap (write_many long)
    (parts_flat words_of_region region_words w n (record_at w a) a
    (λ i l. region_part w (a + i * region_words) (omega arith)))
    ∙ regions_longs (tab n (record_at w a))

-- a set as its count and its records is the list's bytes
pub set_written : (w : List ℕ) (k a lo hi : ℕ)
    → set_bytes w k a ≡ (listed 4 lo hi region_field).write (records_at w a (get_or w k 0))
unfolding set_bytes write_headed records_at
set_written w k a lo hi =
    ap (λ (n : ℕ). bytes_of 4 n ++ write_many region_field (tab (get_or w k 0) (record_at w a)))
    (sym (length_tab (get_or w k 0) (record_at w a)))

-- ---- requests
asked_at_law : (b : List ℕ) (at : ℕ) → asked_in (drop at b) ≡ asked_at b at
unfolding part
asked_at_law b at =
    let e4 : drop 4 (drop at b) ≡ drop (at + 4) b = drop-drop 4 at b in
    let e8 : drop 4 (drop 4 (drop at b)) ≡ drop (at + 8) b =
    (let k : at + 4 + 4 ≡ at + 8 = omega arith in
    ap (drop 4) e4 ∙ drop-drop 4 (at + 4) b ∙ ap (λ (j : ℕ). drop j b) k) in
    (λ i. record {
      kind = little (take 4 (drop at b));
      zone = little (take 4 (e4 i));
      region = (ap region_value e8 ∙ sym (in_bytes b (at + 8))) i;
    })

module _ (r : List ℕ) (bytes : Bytes r) where
  n : ℕ
  n = length r / request_size

  -- what is read there
  read_there : read_many asked_field n r ≡ got (asked_of r) (drop (n * request_size) r)
  unfolding asked_of n
  read_there =
      fields_there asked_format request_size asked_in wide_asked (length r / request_size) r (omega arith)
      ∙ (λ j. got (tab (length r / request_size) (λ i. asked_at_law r (i * request_size) j))
      (drop (length r / request_size * request_size) r))

  tight : (r ≡ write_many asked_field (asked_of r) ++ drop (n * request_size) r)
      × ((length (asked_of r) ≡ n) × All AskedFits (asked_of r))
  tight =
      (lawful_many asked_field AskedFits lawful_asked n).tight r (asked_of r) (drop (n * request_size) r) bytes read_there

  -- their numbers fit their fields
  pub asked_fit : All AskedFits (asked_of r)
  asked_fit = tight.1.1

  -- and their bytes are those that were lent
  pub asked_bytes : write_many asked_field (asked_of r) ≡ take (length r / request_size * request_size) r
  unfolding n
  asked_bytes =
      let b : List ℕ = write_many asked_field (asked_of r) in
      let k : ℕ = length r / request_size * request_size in
      let l : length b ≡ k =
      omega (arith, ap length tight.0, length-append b (drop k r), length-drop k r) in
      sym (ap (take k) tight.0 ∙ take_at b (drop k r) k l)

pub asked_many : (r : List ℕ) → length (asked_of r) ≡ length r / request_size
unfolding asked_of
asked_many r = length_tab (length r / request_size) (λ i. asked_at r (i * request_size))

-- the requests that they make
pub asked_requests : (r : List ℕ) → requests_from (asked_of r) ≡ requests_in r
unfolding asked_of requests_in request_from tab
asked_requests r =
    map-map (λ (a : Asked). make_request a.kind a.zone a.region) (λ i. asked_at r (i * request_size))
    (places 0 (length r / request_size))
