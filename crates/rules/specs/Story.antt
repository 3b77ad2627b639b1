-- A story of two plans, there and back: the first adds a zone and the second removes it, so that the base table is the
-- first one's once more. And plans with more than one fault, or with a fault after a good beginning.
use Rattle.std.specs.Prelude.{ℕ, ◌+◌, List, [], ◌∷◌, ◌++◌, ◌≡◌, take}
use Rattle.lists.specs.Bytes.{bytes_of}
use Rattle.rules.specs.Limits.{limits}
use Rattle.rules.specs.Applying.{store, plain, apply, store_config, Terminal}
use Rattle.rules.specs.Desk.{A, desk_zones, whole_plan, desk_terminal}
use Rattle.rules.specs.Plan.{Asked}
use Rattle.rules.specs.Planner.{plan_bytes}
use Rattle.rules.specs.Regions.{no_region}
use Rattle.rules.specs.Tables.{empty_zone, Zone}
use Rattle.rules.specs.declared.Outcome.{Outcome}

-- the whole plan's terminal with zones, at an edition; without zones, and with zone 5
abbrev pub holding : List Zone → ℕ → Terminal
holding t k = record { config = desk_terminal.config; table = store limits t; edition = k }

abbrev pub without : ℕ → Terminal
without k = holding [] k

abbrev pub with5 : ℕ → Terminal
with5 k = holding (empty_zone 5 ∷ []) k

-- what is asked for: add zone 5, remove zone 5
abbrev pub adds : List Asked
adds = record { kind = 1; zone = 5; region = no_region } ∷ []

abbrev pub removes : List Asked
removes = record { kind = 2; zone = 5; region = no_region } ∷ []

-- the two plans
abbrev pub there : List ℕ
there = plan_bytes limits (without 0) adds

abbrev pub back : List ℕ
back = plan_bytes limits (with5 1) removes

-- the whole plan's marks, then a count above its limit, and nothing after it
abbrev pub too_many : List ℕ
too_many = take 16 whole_plan ++ bytes_of 4 (limits.regions + 1)

-- a plan for another configuration and another edition
abbrev pub elsewhere : List ℕ
elsewhere =
    plan_bytes limits
    (record { config = store_config limits (record { regions = A ∷ []; gic = 0 }); table = store limits []; edition = 1 }) adds

-- zone 5 added twice; zones 5 and 6 added
abbrev pub again : List ℕ
again = plan_bytes limits (without 0) (adds ++ adds)

abbrev pub both : List ℕ
both = plan_bytes limits (without 0) (adds ++ record { kind = 1; zone = 6; region = no_region } ∷ [])

-- what a terminal answers to bytes, and the terminal afterwards
abbrev pub Gives : Terminal → List ℕ → Outcome → Terminal → Type 0
Gives s b o t = ((apply limits s b).outcome ≡ o) × ((apply limits s b).state ≡ t)

-- the claim: the first plan is the document's whole plan; there, and back; then the first plan fits by its table, and
-- its edition stops it; so it does where the second comes first; and a plan with the right edition is stopped where
-- there is a zone more. A count is judged before its elements; a byte after the end is told; the configuration comes
-- before the edition; a refused request undoes those before it, and its place is its own; and all requests are run
abbrev pub StoryShown : Type 0
StoryShown =
    (there ≡ whole_plan)
    × Gives (without 0) there (plain 0 1) (with5 1)
    × Gives (with5 1) back (plain 0 1) (without 2)
    × Gives (without 2) there (plain 24 0) (without 2)
    × Gives (without 0) back (plain 24 0) (without 0)
    × Gives (holding desk_zones 1) back (plain 26 0) (holding desk_zones 1)
    × Gives (without 0) too_many (plain 21 16) (without 0)
    × Gives (without 0) (whole_plan ++ 0 ∷ []) (plain 22 100) (without 0)
    × Gives (without 0) elsewhere (plain 23 0) (without 0)
    × Gives (without 0) again (record { number = 27; place = 1; inner = 5 }) (without 0)
    × Gives (without 0) both (plain 0 2) (holding desk_zones 1)
