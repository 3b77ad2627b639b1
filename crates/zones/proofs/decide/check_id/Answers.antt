-- One rule: 4.
use borrow.Author.Tests.{lt-ltb, le-ltb}
use Rattle.lists.proofs.Rules.{rule_steps}
use Rattle.zones.proofs.decide.check_id.Goals as goal

pub returns-then-id-gt-HIGHEST_ID : goal.returns-then-id-gt-HIGHEST_ID
returns-then-id-gt-HIGHEST_ID c = search (rule_steps, lt-ltb) depth 20

pub returns : goal.returns
returns c = search (rule_steps, le-ltb) depth 20
