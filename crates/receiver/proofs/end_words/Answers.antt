-- Three cases: the buffer is too short, more came, or what is stored is applied.
use Rattle.receiver.proofs.Calls.{stored_there, ends_short, ends_over, ends_whole}
use Rattle.std.proofs.Common.{rules}
use Rattle.receiver.proofs.end_words.Goals as goal

pub returns-then-buffer-lt-LONGEST_PLAN : goal.returns-then-buffer-lt-LONGEST_PLAN
returns-then-buffer-lt-LONGEST_PLAN c = search (ends_short, rules)

pub slice_bounds-came-end : goal.slice_bounds-came-end
slice_bounds-came-end c = search (stored_there, rules)

pub returns-then-is_over : goal.returns-then-is_over
returns-then-is_over c = search (ends_over, rules)

pub returns-else-is_over : goal.returns-else-is_over
returns-else-is_over c = search (ends_whole, rules)
