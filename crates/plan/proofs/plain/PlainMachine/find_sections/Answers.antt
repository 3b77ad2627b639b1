use Rattle.plan.proofs.Outcomes.{plainly_finds}
use Rattle.plan.proofs.plain.PlainMachine.find_sections.Goals as goal

pub returns : goal.returns
returns c = record {
  told = c.find_sections.ensures;
  finds = plainly_finds c.args.self.now.config.now _ _ c.find_sections.ensures;
}
