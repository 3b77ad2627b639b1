use Prim.Native.Nat.{◌-◌}
use borrow.Author.Rules.{rules}
use Rattle.zones.specs.Trial.{tried}
use Rattle.zones.proofs.Trying.{trail_packed, trail_before, trail_back, trail_first}
use Rattle.zones.proofs.trial.undo_all.Goals as goal

pub undo-requires : goal.undo-requires
undo-requires c = let inv = c.loop-i.invariant in
    let (b, h) = c.requires.1 in (
      trail_packed b _ _ _ _ _ (inv b h) (search rules) c.request_at.ensures,
      (tried c.args.requests.now b (c.loop-i.i - 1), rw c.from.ensures (trail_before b _ _ _ _ _ (inv b h) (search rules) c.request_at.ensures)),
    )

pub loop-i-preserved : goal.loop-i-preserved
loop-i-preserved c = let inv = c.loop-i.invariant in
    λ b h. trail_back b _ _ _ _ _ (inv b h) (search rules) c.request_at.ensures _
    (λ x k. c.undo.ensures x (rw c.from.ensures k))

pub returns : goal.returns
returns c = λ b h. trail_first b _ _ _ _ (c.loop-i.invariant b h) (search rules)
