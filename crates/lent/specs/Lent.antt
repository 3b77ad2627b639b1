-- Answers in numbers that C can hold.
use Rattle.std.specs.Prelude.{ℕ, Bool, cond, List, [], ◌∷◌, Result, Ok, Err, eqb}
use Rattle.rules.specs.declared.Side.{Side}
use Rattle.rules.specs.declared.Side.TheVariants.{Cpu, Iommu}
use Rattle.rules.specs.declared.Translated.{Translated}

-- 1 for yes, 0 for no
unfoldable pub yes_or_no : Bool → ℕ
yes_or_no b = cond b 1 0

-- side 0 is the CPU, any other the IOMMU
unfoldable pub side_asked : ℕ → Side
side_asked n = cond (eqb n 0) Cpu Iommu

-- the two words of a translation: the physical address, and how many bytes there are from it on
unfoldable pub stretch_of : Translated → List ℕ
stretch_of o = o.phys.0 ∷ o.remaining ∷ []

-- what reading bytes answers, or a number and a place: the number, 0 where it reads; and the number that f makes of the
-- answer, or the place
abbrev pub told_number : {A : Type 0} → Result A (ℕ × ℕ) → ℕ
told_number (Ok x) = 0
told_number (Err r) = r.0

abbrev pub told_by : {A : Type 0} → (A → ℕ) → Result A (ℕ × ℕ) → ℕ
told_by f (Ok x) = f x
told_by f (Err r) = r.1
