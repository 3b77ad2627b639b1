-- The places from `at` on are numbered beside the bytes: each turn has the next place and its byte.
use Rattle.std.proofs.Common.{◌∙◌, ◌-◌, length, arith, refl}
use Rattle.std.proofs.lemmas.List.{length_push}
use Rattle.std.proofs.lemmas.Iterator.{YieldsList-from_slice, YieldsList-from_range, YieldsList-from_zip}
use Rattle.std.proofs.lemmas.Iterator.Consumers.{YieldsList-turn, YieldsList-end}
use Rattle.puts.proofs.Puts.{bytes_on, bytes_end, places_long, place_turn}
use Rattle.puts.proofs.put_each.Goals as goal

pub bounds-s-to : goal.bounds-s-to
bounds-s-to c =
    let room = length c.args.s.now - c.args.at in
    let y = YieldsList-from_zip (YieldsList-from_range c.args.at (length c.args.s.now) room (cc) refl) (YieldsList-from_slice c.args.from.now cc) in
    let t = YieldsList-turn y c.loop-to.yielded _ c.loop-to.yielded_by _ c.next.new.self _ c.in-Some.is c.next.ensures.steps in
    let p = place_turn c.args.from.now c.args.at room _ _ t.0 t.1 in
    omega (arith, p.0, p.2, c.loop-to.auto.s)

pub loop-to-preserved : goal.loop-to-preserved
loop-to-preserved c =
    let room = length c.args.s.now - c.args.at in
    let y = YieldsList-from_zip (YieldsList-from_range c.args.at (length c.args.s.now) room (cc) refl) (YieldsList-from_slice c.args.from.now cc) in
    let t = YieldsList-turn y c.loop-to.yielded _ c.loop-to.yielded_by _ c.next.new.self _ c.in-Some.is c.next.ensures.steps in
    let p = place_turn c.args.from.now c.args.at room _ _ t.0 t.1 in
    bytes_on _ _ _ _ _ c.loop-to.invariant _ _ _ p.1 p.2 p.3 (length_push _ _)

pub returns : goal.returns
returns c =
    let room = length c.args.s.now - c.args.at in
    let y = YieldsList-from_zip (YieldsList-from_range c.args.at (length c.args.s.now) room (cc) refl) (YieldsList-from_slice c.args.from.now cc) in
    let t = YieldsList-end y c.loop-to.yielded _ c.loop-to.yielded_by _ c.next.new.self c.in-None.is c.next.ensures.steps in
    bytes_end _ _ _ _ _ c.loop-to.invariant _ c.loop-to.auto.s (t.1 ∙ places_long _ _ _)
