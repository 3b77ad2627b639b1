-- The slots take turns.
use Rattle.storage.proofs.Calls.{slot_told}
use Rattle.storage.proofs.slot_of.Goals as goal

pub returns : goal.returns
returns c = slot_told _
