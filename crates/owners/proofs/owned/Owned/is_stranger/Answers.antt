-- Two cases: an insert, and any other request.
use borrow.Author.Rules.{rules}
use Rattle.owners.proofs.Answering.{stranger_told, no_stranger}
use Rattle.owners.proofs.owned.Owned.is_stranger.Goals as goal

pub returns-in-Insert : goal.returns-in-Insert
returns-in-Insert c = search (stranger_told, rules)

pub returns-in_default : goal.returns-in_default
returns-in_default c = no_stranger c.args.self.now.config.now c.args.self.now.owners.now c.args.q c.in_default.not-Insert
