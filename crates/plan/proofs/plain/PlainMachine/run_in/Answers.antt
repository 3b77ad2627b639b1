use Rattle.plan.proofs.Undoing.{plainly_ran, plainly_stands}
use Rattle.plan.proofs.plain.PlainMachine.run_in.Goals as goal

pub returns : goal.returns
returns c = record {
  ran = plainly_ran _ _ _ _ _ c.run_in.ensures;
  stands = plainly_stands _ _;
}
