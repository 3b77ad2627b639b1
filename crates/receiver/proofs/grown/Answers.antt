-- Three cases: more came before, more came now, or all is stored.
use Rattle.std.proofs.Common.{rules}
use Rattle.receiver.proofs.Calls.{stored_room, grown_over, grown_full, grown_on}
use Rattle.receiver.proofs.grown.Goals.{then-is_over-via-then-is_over, then-is_over-via-else-is_over+then-bytes-at}
use Rattle.receiver.proofs.grown.Goals as goal

pub overflow_sub-at : goal.overflow_sub-at
overflow_sub-at c = search (stored_room, rules)

pub returns-then-is_over : goal.returns-then-is_over
returns-then-is_over c =
    elim c.then-is_over.branch [
      | then-is_over-via-then-is_over w ↦ search (grown_over, rules)
      | then-is_over-via-else-is_over+then-bytes-at w ↦ search (grown_full, rules)
    ]

pub returns : goal.returns
returns c = search (grown_on, rules)
