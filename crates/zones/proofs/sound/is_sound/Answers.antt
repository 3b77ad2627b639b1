-- Two cases: the configuration has a fault, or the table is judged under one that has none.
use borrow.Author.Rules.{rules}
use Rattle.zones.proofs.ConfigCheck.{is_fault}
use Rattle.zones.proofs.Stored.{config_fault}
use Rattle.zones.proofs.sound.is_sound.Goals as goal

pub returns-in_default : goal.returns-in_default
returns-in_default c = search (config_fault, is_fault, rules)
