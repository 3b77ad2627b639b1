use Rattle.owned.proofs.Outcomes.{owned_finds}
use Rattle.owned.proofs.machine.OwnedMachine.find_sections.Goals as goal

pub returns : goal.returns
returns c = record {
  told = c.find_sections.ensures;
  finds = owned_finds c.args.self.now.config.now c.args.self.now.owners.now _ _ c.find_sections.ensures;
}
