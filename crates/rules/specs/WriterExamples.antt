-- The writer at the whole plan's terminal, by computation: the document's order where two of its numbers apply, and what
-- the buffer then is. Every byte of a buffer is first a 7.
use Rattle.std.specs.Prelude.{ℕ, ◌+◌, ◌-◌, List, [], ◌∷◌, ◌++◌, ◌≡◌, length, replicate}
use Rattle.rules.specs.Applying.{last_edition, plain, Terminal}
use Rattle.rules.specs.Desk.{whole_plan}
use Rattle.rules.specs.Limits.{limits}
use Rattle.rules.specs.Plan.{Asked}
use Rattle.rules.specs.Sizes.{no_asked}
use Rattle.rules.specs.Story.{without, adds}
use Rattle.rules.specs.Writer.{write}
use Rattle.rules.specs.declared.Outcome.{Outcome}

-- so many sevens
abbrev pub sevens : ℕ → List ℕ
sevens n = replicate n 7

-- what is answered, and the whole buffer afterwards
abbrev pub Fills : Terminal → List Asked → List ℕ → Outcome → List ℕ → Type 0
Fills s q w o v = write limits s q w ≡ record { outcome = o; buffer = v }

-- the claim: into a longer buffer the document's whole plan, and what lies behind it stays; into one of its length; 28 in
-- one of a byte less, and no byte changes; a request that is refused is 27 though there is no room, the second with its
-- index and number; one that is none is 27 with 3; 29 before 27, 25 before 29
abbrev pub WriterShown : Type 0
WriterShown =
    Fills (without 0) adds (sevens (length whole_plan + 2)) (plain 0 (length whole_plan)) (whole_plan ++ sevens 2)
    × Fills (without 0) adds (sevens (length whole_plan)) (plain 0 (length whole_plan)) whole_plan
    × Fills (without 0) adds (sevens (length whole_plan - 1)) (plain 28 0) (sevens (length whole_plan - 1))
    × Fills (without 0) (adds ++ adds) [] (record { number = 27; place = 1; inner = 5 }) []
    × Fills (without 0) (no_asked ∷ []) (sevens 3) (record { number = 27; place = 0; inner = 3 }) (sevens 3)
    × Fills (without 0) (replicate (limits.requests + 1) no_asked) [] (plain 29 0) []
    × Fills (without last_edition) (replicate (limits.requests + 1) no_asked) [] (plain 25 0) []
