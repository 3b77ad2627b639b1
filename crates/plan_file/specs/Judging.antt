-- What a program over files answers.
use Rattle.std.specs.Prelude.{◌≡◌, ◌⊎◌, ℕ, List, take, Result, Ok}
use Rattle.std.specs.Fn.{Shared, FnReturnsAt}
use Rattle.io.specs.Counts.{IsPrefixLen}
use denote.Ref.{Bor}

-- r is what f answers of the first bytes of w; or nothing was judged, and no answer is an error
abbrev pub Judges : {F E : Type 0} → Shared F (Bor (List ℕ) × Unit {0}) (Result (Unit {0}) E) → F → List ℕ → Result (Unit {0}) E → Type 0
Judges g f w r = (r ≡ Ok tt) ⊎ ((n : ℕ) × IsPrefixLen n w × FnReturnsAt g f (take n w) r)
