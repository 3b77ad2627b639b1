-- Each return is one rule: 1, 2, or neither.
use borrow.Author.Rules.{rules}
use Rattle.zones.proofs.ConfigCheck.{is_sound_law, is_fault, config_told}
use Rattle.zones.proofs.Stored.{config_first, table_second, both_stand}
use Rattle.zones.proofs.sound.standing.Goals as goal

pub returns-in_default : goal.returns-in_default
returns-in_default c = search (config_first, is_fault, rules)

pub returns-then-not-table_sound : goal.returns-then-not-table_sound
returns-then-not-table_sound c = search (table_second, config_told, is_sound_law, rules)

pub returns : goal.returns
returns c = search (both_stand, config_told, is_sound_law, rules)
