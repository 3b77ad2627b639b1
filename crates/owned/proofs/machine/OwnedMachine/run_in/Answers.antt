use Rattle.owned.proofs.Outcomes.{owned_ran, owned_stands}
use Rattle.owned.proofs.machine.OwnedMachine.run_in.Goals as goal

pub returns : goal.returns
returns c = record {
  ran = owned_ran _ _ _ _ _ _ c.run_in.ensures;
  stands = owned_stands _ _ _;
}
