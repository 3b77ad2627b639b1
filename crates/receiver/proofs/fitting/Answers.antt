-- The smaller of what came and what there is room for.
use Rattle.std.proofs.Common.{rules}
use Rattle.receiver.proofs.Calls.{stored_room, fits}
use Rattle.receiver.proofs.fitting.Goals as goal

pub overflow_sub-stored_in : goal.overflow_sub-stored_in
overflow_sub-stored_in c = search (stored_room, rules)

pub returns : goal.returns
returns c = search (fits, rules)
