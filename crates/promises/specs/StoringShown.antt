-- A history of a terminal in storage that there is, so that its promises speak of something: the power is cut in the
-- work, at the mark both ways, in a start after which the mark reads the other way, and after an answer.
use Rattle.std.specs.Prelude.{ℕ, true, false, cond, List, [], ◌∷◌, ◌≡◌}
use Rattle.lists.specs.Runs.{runs}
use Rattle.rules.specs.Applying.{apply, plain_steps}
use Rattle.rules.specs.Desk.{desk_terminal}
use Rattle.rules.specs.Limits.{limits}
use Rattle.rules.specs.Storing.{Slot, Store}
use Rattle.rules.specs.Story.{with5, without}
use Rattle.rules.specs.Tables.{StoredTable}
use Rattle.promises.specs.Past.{desk_planner}
use Rattle.promises.specs.Steps.{terminal}
use Rattle.promises.specs.Storing.{brings, strays, boots, takes, prepares, does, cut, read, lasting, fresh, comes}
use Rattle.promises.specs.Storing.{AllMay, Slots, Happening, Stored}
use Rattle.promises.specs.StoringSteps.{slots_by}
use Rattle.promises.specs.Terminals.{terminals}

-- tables under the whole plan's configuration, with every plan applied in the other slot
abbrev pub desk_slots : Slots (terminals limits)
desk_slots = slots_by (plain_steps limits) (apply limits) (λ e t b. true) desk_terminal.config

-- words that no table is stored as, which do not last
abbrev pub junk : Slot StoredTable
junk = record { words = record { count = 77; zones = [] }; lasts = false; due = false }

abbrev pub five : Slot StoredTable
five = lasting (terminals limits) desk_slots (with5 1).table

-- storage with no zones in the first slot
abbrev pub left : ℕ → List ℕ → Slot StoredTable → Store StoredTable
left e wavers s = record {
  mark = e;
  wavers = wavers;
  due = false;
  slot = λ h. cond h s (lasting (terminals limits) desk_slots (without 0).table);
}

abbrev pub factory : Stored (terminals limits) desk_slots
factory = fresh (terminals limits) desk_slots desk_planner (without 0).table junk

abbrev pub stored_events : List (Happening (List ℕ) StoredTable)
stored_events =
    does boots
    ∷ prepares
    -- in the work
    ∷ cut (takes (brings 1)) 1 (left 0 [] junk)
    ∷ does boots
    -- at the mark, which reads as it was
    ∷ cut (takes (brings 1)) 3 (left 0 (1 ∷ []) five)
    ∷ does boots
    -- and as it is to be; but the next start is cut too, and after that it reads as it was
    ∷ cut (takes (brings 1)) 3 (left 1 (0 ∷ []) five)
    ∷ cut boots 1 (left 0 (1 ∷ []) five)
    ∷ does boots
    ∷ does (takes (strays []))
    -- after the mark lasts, before the answer
    ∷ cut (takes (brings 1)) 4 (left 1 [] five)
    ∷ does boots
    ∷ prepares
    ∷ does (takes (brings 1))
    -- after the answer
    ∷ cut (takes (brings 2)) 5 (left 2 [] five)
    ∷ does boots
    ∷ []

-- all of it may happen; what was told, the latest first; and in the end the storage is read as edition 2 without zones
abbrev pub StoredPastShown : Type 0
StoredPastShown =
    AllMay (terminals limits) desk_slots desk_planner factory stored_events
    × ((runs (comes (terminals limits) desk_slots desk_planner) factory stored_events).told
    ≡ 2 ∷ 2 ∷ 1 ∷ 1 ∷ 0 ∷ 0 ∷ 0 ∷ 0 ∷ 0 ∷ [])
    × (terminal (read (terminals limits) desk_slots
    (runs (comes (terminals limits) desk_slots desk_planner) factory stored_events).store)
    ≡ without 2)
