-- Each return is one test of the conjunction: each zone, the ids, and that no two zones share a region.
use Rattle.std.proofs.Common.{◌≡◌, ◌∙◌, true, false}
use Rattle.lists.specs.First.{all}
use Rattle.lists.proofs.Tests.{conjunction}
use Rattle.rules.specs.Limits.{limits}
use Rattle.rules.specs.Tables.{sound, sound_zone}
use Rattle.zones.specs.View.{config_in, zones_in}
use Rattle.zones.proofs.Checking.{few_zones_law, apart_told}
use Rattle.zones.proofs.sound.zones_sound.Goals as goal

pub returns-in_default : goal.returns-in_default
unfolding sound
returns-in_default c =
    let e : all (sound_zone limits (config_in c.args.c.now.config.words.now)) (zones_in c.args.t.now) ≡ false = c.in_default.ensures.none in
    search (conjunction, few_zones_law) depth 12

pub returns-then-ids_differ : goal.returns-then-ids_differ
unfolding sound
returns-then-ids_differ c =
    let e : all (sound_zone limits (config_in c.args.c.now.config.words.now)) (zones_in c.args.t.now) ≡ true = c.in-Some.ensures.some.0 in
    search (conjunction, few_zones_law, apart_told) depth 12

pub returns-else-ids_differ : goal.returns-else-ids_differ
unfolding sound
returns-else-ids_differ c =
    let e : all (sound_zone limits (config_in c.args.c.now.config.words.now)) (zones_in c.args.t.now) ≡ true = c.in-Some.ensures.some.0 in
    c.if-ids_differ.false ∙ search (conjunction, few_zones_law) depth 12
