use borrow.Author.Rules.{rules}
use Rattle.lists.proofs.Rules.{rules_stop, rules_on, rules_end}
use Rattle.rules.specs.Limits.{limits}
use Rattle.rules.proofs.Configuration.{telling_at}
use Rattle.zones.proofs.ConfigCheck.{is_sound_law, is_fault}
use Rattle.zones.proofs.config.check_from.Goals as goal

pub returns-in_default : goal.returns-in_default
returns-in_default c = search (rules_stop, is_fault, rules)

pub loop-i-preserved : goal.loop-i-preserved
loop-i-preserved c = (search rules, search (rules_on, is_sound_law, telling_at limits, rules))

pub returns : goal.returns
returns c = search (rules_end, rules)
