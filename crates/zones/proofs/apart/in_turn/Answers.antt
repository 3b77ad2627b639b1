use mathlib.Core.Bool.{true≢false}
use mathlib.Core.Path.{sym}
use borrow.Author.Rules.{rules}
use Rattle.zones.proofs.QuickCheck.{end_fits_below, row_start, row_on, clear_row}
use Rattle.zones.proofs.apart.in_turn.Goals as goal

pub loop-i-init : goal.loop-i-init
loop-i-init c = (search rules, search row_start)

pub returns-then-r-end : goal.returns-then-r-end
returns-then-r-end c = λ e. absurd (true≢false (sym e))

pub overflow_add-end : goal.overflow_add-end
overflow_add-end c = search (end_fits_below, rules)

pub loop-i-preserved : goal.loop-i-preserved
loop-i-preserved c = (search rules, search (row_on, rules))

pub returns : goal.returns
returns c = λ e. search (clear_row, rules)
