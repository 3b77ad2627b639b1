use Rattle.std.proofs.Common.{rules, sym}
use mathlib.Core.Bool.{true≢false}
use Rattle.zones.proofs.Owning.{keeps_same, keeps_on, set_none, set_more, set_all}
use Rattle.zones.proofs.owners.own_set.Goals as goal

pub loop-i-init : goal.loop-i-init
loop-i-init c = (search keeps_same, search set_none)

pub returns-then-not-own : goal.returns-then-not-own
returns-then-not-own c = (search (keeps_on, rules), (λ e. absurd (true≢false (sym e))))

pub loop-i-preserved : goal.loop-i-preserved
loop-i-preserved c =
    let place = c.in-Some.ensures in (
      search (keeps_on, rules),
      set_more c.args.c.now.config.words.now _ _ _ _ _ _ _ _ _ c.loop-i.invariant.1 c.own.ensures.0 c.region_at.ensures place.0 place.1 c.own.ensures.1
          c.if-not-own.false,
    )

pub returns : goal.returns
returns c = (search rules, (λ e. search (set_all, rules)))
