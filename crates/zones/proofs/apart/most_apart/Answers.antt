use borrow.Author.Rules.{rules}
use Rattle.zones.proofs.QuickCheck.{fit_mid, clear_none, told_clear, mid_within, mid_fits, mid_most, mid_below}
use Rattle.zones.proofs.QuickCheck.{upper_less, lower_less}
use Rattle.zones.proofs.apart.most_apart.Goals as goal

pub returns-then-apart_below : goal.returns-then-apart_below
returns-then-apart_below c = search (told_clear, rules)

pub loop-hi-init : goal.loop-hi-init
loop-hi-init c = ((search rules, search rules), search clear_none)

pub overflow_add-mid : goal.overflow_add-mid
overflow_add-mid c = search (mid_fits, rules)

pub apart_below-requires-in-loop-hi : goal.apart_below-requires-in-loop-hi
apart_below-requires-in-loop-hi c = (search (mid_most, rules), search (fit_mid, rules))

pub loop-hi-smaller-then-apart_below-2 : goal.loop-hi-smaller-then-apart_below-2
loop-hi-smaller-then-apart_below-2 c = search (upper_less, rules)

pub loop-hi-preserved-then-apart_below-2 : goal.loop-hi-preserved-then-apart_below-2
loop-hi-preserved-then-apart_below-2 c = ((search (mid_below, rules), search rules), search (told_clear, rules))

pub loop-hi-smaller : goal.loop-hi-smaller
loop-hi-smaller c = search (lower_less, rules)

pub loop-hi-preserved : goal.loop-hi-preserved
loop-hi-preserved c = ((search rules, search (mid_within, rules)), search rules)
