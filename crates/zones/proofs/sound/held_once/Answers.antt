-- No zone holds it, or one does and none after it.
use Rattle.std.proofs.Common.{arith, ◌<◌, length}
use Rattle.zones.specs.View.{zones_in}
use Rattle.zones.proofs.Checking.{holder_below, once_none, once_one}
use Rattle.zones.proofs.sound.held_once.Goals as goal

pub overflow_add-first : goal.overflow_add-first
overflow_add-first c =
    let told = c.in-Some.ensures.some in
    let few = c.requires.zones in
    let h : c.in-Some.first < length (zones_in c.args.t.now) = holder_below c.args.t.now c.args.r c.in-Some.first told.0 told.1 in
    omega arith

pub returns-in-Some : goal.returns-in-Some
returns-in-Some c =
    let told = c.in-Some.ensures.some in
    once_one c.args.t.now c.args.r c.in-Some.first told.0 told.1 c.first_holder-in-Some.result
    c.first_holder-in-Some.ensures.none c.first_holder-in-Some.ensures.some _ c.is_none.ensures

pub returns-in-None : goal.returns-in-None
returns-in-None c = once_none c.args.t.now c.args.r c.in-None.ensures.none
