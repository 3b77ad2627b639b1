-- The core's answer: its number, and its address and what remains, or zeros.
use Rattle.std.proofs.Common.{◌∙◌}
use Rattle.rules.specs.Limits.{limits}
use Rattle.rules.specs.Translation.{translated}
use Rattle.zones.specs.View.{stored_config, stored_table}
use Rattle.rules.specs.declared.Side.{Side}
use Rattle.lent.proofs.Answers.{translation_told}
use Rattle.agent.proofs.peatmitten_translate_words.Goals as goal

pub returns-in-Ok : goal.returns-in-Ok
returns-in-Ok c =
    translation_told (λ (s : Side). translated limits (stored_config c.args.config.now) (stored_table c.args.table.now) c.args.zone s (record { 0 = c.args.address }))
    _ _ _ c.side_asked-asked.ensures c.in-Ok.ensures

pub returns-in-Err : goal.returns-in-Err
returns-in-Err c =
    let t = translation_told (λ (s : Side). translated limits (stored_config c.args.config.now) (stored_table c.args.table.now) c.args.zone s (record { 0 = c.args.address }))
    _ _ _ c.side_asked-asked.ensures c.in-Err.ensures in
    (c.from.ensures ∙ t.0, t.1)
