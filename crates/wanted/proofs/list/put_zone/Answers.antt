-- The zone begins where its id stands, and its like where the id is found, or where the words end.
use Rattle.std.proofs.Common.{rules}
use Rattle.wanted.proofs.Looking.{id_low, own_at, found_at}
use Rattle.wanted.proofs.Putting.{zone_put}
use Rattle.wanted.proofs.list.put_zone.Goals as goal

pub overflow_cast-id : goal.overflow_cast-id
overflow_cast-id c = search (id_low, rules)

pub put_sets-requires : goal.put_sets-requires
put_sets-requires c = (search rules, (search (own_at, rules), search (found_at, rules)))

pub returns-clause-wrote : goal.returns-clause-wrote
returns-clause-wrote c = search (zone_put, rules)
