-- By kind; each has its own function, and numbers that make no request answer 3.
use borrow.Author.Rules.{rules}
use Rattle.zones.proofs.Deciding.{kind_add, kind_drop, kind_insert, kind_cut, kind_none}
use Rattle.zones.proofs.decide.decide.Goals as goal

pub returns-in-AddZone : goal.returns-in-AddZone
returns-in-AddZone c = search (kind_add, rules)

pub returns-in-RemoveZone : goal.returns-in-RemoveZone
returns-in-RemoveZone c = search (kind_drop, rules)

pub returns-in-Insert : goal.returns-in-Insert
returns-in-Insert c = search (kind_insert, rules)

pub returns-in-Remove : goal.returns-in-Remove
returns-in-Remove c = search (kind_cut, rules)

pub returns-in-NoRequest : goal.returns-in-NoRequest
returns-in-NoRequest c = search (kind_none, rules)
