-- Regions: the test of equality is equality, number by number.
use mathlib.Core.Bool.{true}
use mathlib.Core.Path.{◌≡◌, refl, sym, ◌∙◌}
use borrow.Author.Tests.{eqb-true, eq-eqb}
use lib.Dec.{eqb}
use Rattle.lists.proofs.Tests.{two_same, two_refl}
use Rattle.rules.specs.Fields.{numbers_of}
use Rattle.rules.specs.Regions.{region_eq}
use Rattle.rules.specs.declared.Region.{Region}
use Rattle.rules.proofs.Fields.{numbers_many, same_numbers}

-- the test of equality says that the two are one
pub equal_same : (a b : Region) → region_eq a b ≡ true → a ≡ b
unfolding region_eq
equal_same a b e =
    same_numbers a b
    (two_same eqb eqb-true (numbers_of a) (numbers_of b) (numbers_many a ∙ sym (numbers_many b)) e)

pub equal_refl : (a : Region) → region_eq a a ≡ true
unfolding region_eq
equal_refl a = two_refl eqb (λ n. eq-eqb n n refl) (numbers_of a)
