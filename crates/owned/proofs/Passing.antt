-- The owners' section: ids after the regions' count, all of one width.
use Prim.Native.Nat.{ℕ, ◌+◌, ◌*◌}
use native.Mathlib.Omega.{arith}
use mathlib.Core.List.{List, map}
use mathlib.Core.Path.{◌≡◌, ap, ◌∙◌}
use lib.ListN.{length, drop}
use lib.Seq.{drop-drop}
use Rattle.lists.specs.Places.{places, tab}
use Rattle.lists.specs.Words.{part}
use Rattle.formats.specs.Formats.{got}
use Rattle.plan.proofs.Numbers.{number_in, numbers_read}
use Rattle.owned.specs.Section.{owners_section, id_at}

pub owners_many : (n : ℕ) (s os t : List ℕ) → (owners_section n).read s ≡ got os t → length os ≡ n
owners_many n s os t e = let r = numbers_read n s os t e in omega (arith, r.least, r.most)

pub owners_are : (n : ℕ) (s os t : List ℕ) → (owners_section n).read s ≡ got os t → os ≡ tab n (id_at s)
unfolding part tab
owners_are n s os t e =
    let id : (i : ℕ) → number_in (drop (i * 4) (drop 4 s)) ≡ number_in (drop (4 + i * 4) s) =
    λ i. ap number_in (drop-drop (i * 4) 4 s) in
    (numbers_read n s os t e).each
    ∙ ap (λ (m : ℕ). tab m (λ i. number_in (drop (i * 4) (drop 4 s)))) (owners_many n s os t e)
    ∙ (λ j. map (λ i. id i j) (places 0 n))
