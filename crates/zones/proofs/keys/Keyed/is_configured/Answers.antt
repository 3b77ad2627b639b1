-- A position that the keys lead to has the region; else the plain search tells.
use Rattle.std.proofs.Common.{sym, ◌∙◌}
use Rattle.zones.proofs.ConfigReaders.{configured_there}
use Rattle.zones.proofs.keys.Keyed.is_configured.Goals as goal

pub returns-then-is_some : goal.returns-then-is_some
returns-then-is_some c =
    c.if-is_some.true ∙ configured_there c.args.self.now.config.words.now c.args.self.now.config.sound _ c.place_of.result c.place_of.ensures (sym c.is_some.ensures ∙ c.if-is_some.true)
