use native.Mathlib.Omega.{arith}
use mathlib.Core.Path.{refl}
use borrow.Author.Rules.{rules}
use Rattle.zones.proofs.Moves.{set_kept}
use Rattle.zones.proofs.Running.{run_starts}
use Rattle.zones.proofs.Stepping.{decided_allowed}
use Rattle.zones.proofs.Trying.{note_small, trail_none, noting_on, noting_stops, noting_ends}
use Rattle.zones.proofs.trial.run_noting.Goals as goal

pub loop-i-init : goal.loop-i-init
loop-i-init c = (((search rules, refl), search (run_starts, rules)), search (trail_none, rules))

pub returns-in-Err : goal.returns-in-Err
returns-in-Err c = let inv = c.loop-i.invariant in
    rw c.stopped_at.ensures
    (noting_stops _ _ _ _ _ _ _ _ _ inv.0.0.0 c.loop-i-test.true inv.0.1 inv.1 c.request_at.ensures _
    c.in-Err.ensures refl refl)

pub note-requires : goal.note-requires
note-requires c = let ready = c.loop-i.invariant.0.0.0 in
    note_small _ _ (decided_allowed _ _ _ _ c.decide.ensures _ c.in-Ok.is) ready.words.within

pub commit-requires : goal.commit-requires
commit-requires c = (search rules, decided_allowed _ _ _ _ c.decide.ensures _ c.in-Ok.is)

pub loop-i-preserved : goal.loop-i-preserved
loop-i-preserved c = let inv = c.loop-i.invariant in
    let h =
    noting_on _ _ _ _ _ _ _ _ _ inv.0.0.0 c.loop-i-test.true inv.0.1 inv.1 c.request_at.ensures _ _ _ (omega arith)
    c.in-Ok.ensures c.note.ensures c.commit.ensures in
    (((h.0.0, search (set_kept, rules)), h.0.1), h.1)

pub returns : goal.returns
returns c = let inv = c.loop-i.invariant in
    rw c.done.ensures (noting_ends _ _ _ _ _ _ _ _ inv.0.1 inv.1 (omega arith) c.loop-i.auto.i-end refl refl)
