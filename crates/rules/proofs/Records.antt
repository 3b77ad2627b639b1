-- Requests that were written one after another are read again: each number stands where it is read, and the first
-- request taken off leaves the places of the others as they were.
use Prim.Native.Nat.{ℕ, zero, suc, ◌+◌, ◌*◌, ◌/◌, ◌^◌, ◌<◌}
use native.Mathlib.Omega.{arith}
use mathlib.Core.List.{List, [], ◌∷◌, ◌++◌, append_assoc, map-map}
use mathlib.Core.Path.{◌≡◌, refl, sym, ap, ap₂, ◌∙◌}
use lib.ListN.{length, get_or, length-append}
use Rattle.lists.specs.Bytes.{little, bytes_of}
use Rattle.lists.specs.Places.{places, tab}
use Rattle.lists.specs.Words.{part}
use Rattle.lists.proofs.Bytes.{length_bytes, little_bytes}
use Rattle.lists.proofs.Places.{tab_cons, tab_same}
use Rattle.lists.proofs.Words.{part_mid, part_behind}
use Rattle.formats.specs.Formats.{write_both, write_many, All}
use Rattle.formats.proofs.Bounds.{all_one}
use Rattle.formats.proofs.Sizes.{sized_many, total_same}
use Rattle.rules.specs.Fields.{numbers_of, short_size, long_size}
use Rattle.rules.specs.Plan.{long, asked_field, requests_from, RegionFits, AskedFits, Asked}
use Rattle.rules.specs.Run.{make_request, request_size, number_at, region_in, request_from, requests_in}
use Rattle.rules.specs.Writer.{asked_at, asked_of}
use Rattle.rules.specs.declared.Region.{Region}
use Rattle.rules.proofs.Fields.{numbers_many, by_numbers, by_same}
use Rattle.rules.proofs.Sizes.{sized_asked}

-- ---- a number that was written is read
number_mid : (width x k : ℕ) (u w : List ℕ) → length u ≡ k → x < 256 ^ width
    → number_at width (u ++ (bytes_of width x ++ w)) k ≡ x
number_mid width x k u w p h =
    ap little (part_mid u (bytes_of width x) w k width p (length_bytes width x)) ∙ little_bytes width x h

-- ---- so are numbers of one width
long_at : (ns w : List ℕ) (i : ℕ) → i < length ns
    → part (i * long_size) long_size (write_many long ns ++ w) ≡ bytes_of long_size (get_or ns i 0)
unfolding write_many
long_at [] w i h = absurd (omega arith)
long_at (n ∷ ns) w zero h =
    ap (part 0 long_size) (append_assoc (bytes_of long_size n) (write_many long ns) w)
    ∙ part_mid [] (bytes_of long_size n) (write_many long ns ++ w) 0 long_size refl (length_bytes long_size n)
long_at (n ∷ ns) w (suc i) h =
    let e : suc i * long_size ≡ long_size + i * long_size = omega arith in
    ap₂ (λ (k : ℕ) (l : List ℕ). part k long_size l) e (append_assoc (bytes_of long_size n) (write_many long ns) w)
    ∙ part_behind (bytes_of long_size n) (write_many long ns ++ w) long_size (i * long_size) long_size
    (length_bytes long_size n)
    ∙ long_at ns w i (omega arith)

region_mid : (r : Region) (u w : List ℕ) (k : ℕ) → length u ≡ k → RegionFits r
    → region_in (u ++ (write_many long (numbers_of r) ++ w)) k ≡ r
unfolding region_in
region_mid r u w k p fits =
    by_numbers (λ i. number_at long_size (u ++ (write_many long (numbers_of r) ++ w)) (k + i * long_size)) r
    (λ i h. let l : i < length (numbers_of r) = omega (arith, numbers_many r) in
    ap little (part_behind u (write_many long (numbers_of r) ++ w) k (i * long_size) long_size p
    ∙ long_at (numbers_of r) w i l)
    ∙ little_bytes long_size (get_or (numbers_of r) i 0)
    (all_one (λ (n : ℕ). n < 256 ^ long_size) (numbers_of r) 0 fits i l))

-- ---- the numbers of a request, at a place
first_read : (a : Asked) (w : List ℕ) → AskedFits a → asked_at (asked_field.write a ++ w) 0 ≡ a
unfolding write_both
first_read a w (k, (z, r)) =
    let kind : List ℕ = bytes_of short_size a.kind in
    let zone : List ℕ = bytes_of short_size a.zone in
    let region : List ℕ = write_many long (numbers_of a.region) in
    let b : List ℕ = asked_field.write a ++ w in
    let e : asked_field.write a ++ w ≡ kind ++ (zone ++ (region ++ w)) =
    append_assoc kind (zone ++ region) w ∙ ap (λ (l : List ℕ). kind ++ l) (append_assoc zone region w) in
    let f : kind ++ (zone ++ (region ++ w)) ≡ (kind ++ zone) ++ (region ++ w) =
    sym (append_assoc kind zone (region ++ w)) in
    let lk : length kind ≡ 4 = length_bytes short_size a.kind in
    let lz : length (kind ++ zone) ≡ 8 =
    omega (arith, length-append kind zone, lk, length_bytes short_size a.zone) in
    let nk : number_at short_size b 0 ≡ a.kind =
    ap (λ (l : List ℕ). number_at short_size l 0) e
    ∙ number_mid short_size a.kind 0 [] (zone ++ (region ++ w)) refl k in
    let nz : number_at short_size b 4 ≡ a.zone =
    ap (λ (l : List ℕ). number_at short_size l 4) e ∙ number_mid short_size a.zone 4 kind (region ++ w) lk z in
    let nr : region_in b 8 ≡ a.region =
    ap (λ (l : List ℕ). region_in l 8) (e ∙ f) ∙ region_mid a.region (kind ++ zone) w 8 lz r in
    (λ i. record { kind = nk i; zone = nz i; region = nr i })

later_read : (u w : List ℕ) (m at : ℕ) → length u ≡ m → asked_at (u ++ w) (m + at) ≡ asked_at w at
unfolding region_in
later_read u w m at p =
    let e : m + at + 4 ≡ m + (at + 4) = omega arith in
    let k : number_at short_size (u ++ w) (m + at) ≡ number_at short_size w at =
    ap little (part_behind u w m at short_size p) in
    let z : number_at short_size (u ++ w) (m + at + 4) ≡ number_at short_size w (at + 4) =
    ap (number_at short_size (u ++ w)) e ∙ ap little (part_behind u w m (at + 4) short_size p) in
    let r : region_in (u ++ w) (m + at + 8) ≡ region_in w (at + 8) =
    by_same (λ i. number_at long_size (u ++ w) (m + at + 8 + i * long_size))
    (λ i. number_at long_size w (at + 8 + i * long_size))
    (λ i h. let f : m + at + 8 + i * long_size ≡ m + (at + 8 + i * long_size) = omega arith in
    ap (number_at long_size (u ++ w)) f ∙ ap little (part_behind u w m (at + 8 + i * long_size) long_size p)) in
    (λ i. record { kind = k i; zone = z i; region = r i })

-- ---- all of them: their numbers, and the requests that these make
numbers_read : (qs : List Asked) → All AskedFits qs
    → tab (length qs) (λ i. asked_at (write_many asked_field qs) (i * request_size)) ≡ qs
unfolding write_many tab places
numbers_read [] f = refl
numbers_read (a ∷ qs) f =
    let w : List ℕ = asked_field.write a ++ write_many asked_field qs in
    tab_cons (length qs) (λ i. asked_at w (i * request_size))
    ∙ ap₂ (λ (q : Asked) (l : List Asked). q ∷ l) (first_read a (write_many asked_field qs) f.0)
    (tab_same (length qs) (λ i. asked_at w (suc i * request_size))
    (λ i. asked_at (write_many asked_field qs) (i * request_size))
    (λ i h. let e : suc i * request_size ≡ request_size + i * request_size = omega arith in
    ap (asked_at w) e
    ∙ later_read (asked_field.write a) (write_many asked_field qs) request_size (i * request_size) (sized_asked a))
    ∙ numbers_read qs f.1)

pub asked_read : (qs : List Asked) → All AskedFits qs → asked_of (write_many asked_field qs) ≡ qs
unfolding asked_of
asked_read qs f =
    let n : length (write_many asked_field qs) ≡ length qs * request_size =
    sized_many asked_field (λ a. request_size) sized_asked qs ∙ total_same request_size qs in
    let m : length (write_many asked_field qs) / request_size ≡ length qs = omega arith in
    ap (λ (k : ℕ). tab k (λ i. asked_at (write_many asked_field qs) (i * request_size))) m ∙ numbers_read qs f

pub records_read : (qs : List Asked) → All AskedFits qs → requests_in (write_many asked_field qs) ≡ requests_from qs
unfolding requests_in request_from asked_of tab
records_read qs f =
    let b : List ℕ = write_many asked_field qs in
    sym (map-map (λ (a : Asked). make_request a.kind a.zone a.region) (λ i. asked_at b (i * request_size))
    (places 0 (length b / request_size)))
    ∙ ap requests_from (asked_read qs f)
