-- Tests that hold together.
use Rattle.std.specs.Prelude.{Bool, true, ◌&&◌, List, [], ◌∷◌}

-- every test of a list holds
unfoldable pub all_of : List Bool → Bool
all_of [] = true
all_of (t ∷ ts) = t && all_of ts

-- a test of each two elements that stand at one place
unfoldable pub each_two : {A : Type 0} → (A → A → Bool) → List A → List A → List Bool
each_two t [] ys = []
each_two t (x ∷ xs) [] = []
each_two t (x ∷ xs) (y ∷ ys) = t x y ∷ each_two t xs ys
