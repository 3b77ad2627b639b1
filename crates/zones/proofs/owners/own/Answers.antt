-- Each return: the GIC's position, one that is the zone's already or another's, and one that becomes the zone's.
use Rattle.std.proofs.Common.{rules, ◌<◌, arith}
use borrow.Author.Tests.{eqb-true}
use Rattle.rules.specs.Limits.{most_regions}
use Rattle.zones.proofs.ConfigReaders.{position_in}
use Rattle.zones.proofs.Owning.{keeps_same, keeps_set, owns_gic, owns_mine, owns_set}
use Rattle.zones.proofs.owners.own.Goals as goal

pub returns-then-k-gic : goal.returns-then-k-gic
returns-then-k-gic c = (search keeps_same, (λ e. search (owns_gic, rules)))

pub bounds : goal.bounds
bounds c = position_in c.args.c.now.words.now c.args.c.now.sound c.args.k c.requires.0

pub offset_bounds-owners-k : goal.offset_bounds-owners-k
offset_bounds-owners-k c =
    let h : c.args.k < most_regions = position_in c.args.c.now.words.now c.args.c.now.sound c.args.k c.requires.0 in omega arith

pub returns-in-Some : goal.returns-in-Some
returns-in-Some c = (search keeps_same, (λ e. owns_mine _ _ _ _ _ c.in-Some.is (eqb-true _ _ e)))

pub bounds-owners-k-2 : goal.bounds-owners-k-2
bounds-owners-k-2 c = position_in c.args.c.now.words.now c.args.c.now.sound c.args.k c.requires.0

pub offset_bounds-owners-k-2 : goal.offset_bounds-owners-k-2
offset_bounds-owners-k-2 c =
    let h : c.args.k < most_regions = position_in c.args.c.now.words.now c.args.c.now.sound c.args.k c.requires.0 in omega arith

pub returns : goal.returns
returns c =
    let h : c.args.k < most_regions = position_in c.args.c.now.words.now c.args.c.now.sound c.args.k c.requires.0 in
    (keeps_set _ _ _ c.in_default.is, (λ e. owns_set _ _ _ _ h (omega arith)))
