-- Words that make room for others.
use Rattle.std.specs.Prelude.{ℕ, ◌+◌, ◌-◌, List, ◌++◌, take, drop}

-- the words from at up to e, without the last m of them, m further on: the m words at `at` are what they were
unfoldable pub opened : List ℕ → ℕ → ℕ → ℕ → List ℕ
opened w at m e = take (at + m) w ++ (take (e - (at + m)) (drop at w) ++ drop e w)
