-- Kind and zone id come first, and the region is read from the bytes that follow.
use borrow.Author.Rules.{rules}
use Prim.Native.Nat.{ℕ, ◌+◌, ◌-◌, ◌*◌, ◌≤◌, min}
use native.Mathlib.Decide.{dec_lt}
use native.Mathlib.Omega.{arith}
use mathlib.Core.List.{List}
use mathlib.Core.Path.{◌≡◌, sym, ap, ◌∙◌}
use lib.ListN.{length, take, drop, length-drop, drop_of_length-le}
use lib.Seq.{drop-drop}
use Rattle.std.proofs.lemmas.List.{take_all}
use Rattle.lists.specs.Bytes.{little}
use Rattle.lists.specs.Words.{part}
use Rattle.rules.specs.Fields.{long_size}
use Rattle.rules.specs.Run.{make_request, number_at, region_in, request_from}
use Rattle.rules.specs.declared.Region.{Region}
use Rattle.rules.specs.declared.Request.{Request}
use Rattle.rules.proofs.Fields.{by_same}
use Rattle.zones.proofs.reading.request_in.Goals as goal

region_late : (b : List ℕ) (at : ℕ) → region_in (drop at b) 0 ≡ region_in b at
unfolding region_in part
region_late b at =
    by_same (λ i. number_at long_size (drop at b) (0 + i * long_size)) (λ i. number_at long_size b (at + i * long_size))
    (λ i h.
    let z : 0 + i * long_size ≡ i * long_size = omega arith in
    ap (number_at long_size (drop at b)) z ∙ ap (λ (l : List ℕ). little (take long_size l)) (drop-drop (i * long_size) at b))

left : (b : List ℕ) (m : ℕ) → m ≡ min (length b) 8 → take (length b - m) (drop m b) ≡ drop 8 b
left b m e =
    take_all (length b - m) (drop m b) (omega (arith, length-drop m b))
    ∙ elim (dec_lt 8 (length b)) [
      | yes h ↦ let q : m ≡ 8 = omega arith in ap (λ (j : ℕ). drop j b) q
      | no h ↦ drop_of_length-le b {i = m} (omega arith) ∙ sym (drop_of_length-le b {i = 8} (omega arith))
    ]

request_first : (b : List ℕ) (kind zone m : ℕ) (r : Region) (q : Request) → kind ≡ little (part 0 4 b)
    → zone ≡ little (part 4 4 b) → m ≡ min (length b) 8 → r ≡ region_in (take (length b - m) (drop m b)) 0
    → q ≡ make_request kind zone r → q ≡ request_from b 0
unfolding request_from
request_first b kind zone m r q ek ez em er e =
    let region : r ≡ region_in b 8 = er ∙ ap (λ (l : List ℕ). region_in l 0) (left b m em) ∙ region_late b 8 in
    e ∙ (λ i. make_request (ek i) (ez i) (region i))

pub returns : goal.returns
returns c = search (request_first, rules)
