-- Each return is one case of how many bytes are there: the place past the end, fewer than four, or four.
use Rattle.walker.proofs.Steps.{next_past, next_short, next_there}
use Rattle.walker.proofs.WalkerIterator.next.Goals as goal

pub returns-in_err-left-clause-steps : goal.returns-in_err-left-clause-steps
returns-in_err-left-clause-steps c = next_past _ _ c.from_residual.ensures c.in_err-left.ensures

pub returns-then-left-lt-SHORT_BYTES-clause-steps : goal.returns-then-left-lt-SHORT_BYTES-clause-steps
returns-then-left-lt-SHORT_BYTES-clause-steps c = next_short _ _ c.in_ok-left.ensures c.if-left-lt-SHORT_BYTES.true

pub returns-clause-steps : goal.returns-clause-steps
returns-clause-steps c = next_there _ _ _ c.in_ok-left.ensures c.if-left-lt-SHORT_BYTES.false c.u32_at-number.ensures
