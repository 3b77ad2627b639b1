-- Words that are not packed are not tidy; packed ones hold the table that the readers find.
use Rattle.std.proofs.Common.{rules, ◌∙◌}
use Rattle.zones.proofs.Stored.{words_fault, table_judged, packed_within}
use Rattle.zones.proofs.sound.table_sound.Goals as goal

pub zones_sound-requires : goal.zones_sound-requires
zones_sound-requires c = search (packed_within, rules)

pub returns-then-is_packed : goal.returns-then-is_packed
returns-then-is_packed c = search (table_judged, rules)

pub returns-else-is_packed : goal.returns-else-is_packed
returns-else-is_packed c = c.if-is_packed.false ∙ search (words_fault, rules)
