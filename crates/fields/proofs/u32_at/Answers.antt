-- The array has the bytes that are there, so it spells their number.
use Rattle.std.proofs.Common.{◌∙◌}
use Rattle.fields.proofs.Numbers.{number_of_4}
use Rattle.fields.proofs.u32_at.Goals as goal

pub returns : goal.returns
returns c = c.from_le_bytes.ensures ∙ number_of_4 _ _ _ c.bytes_at.ensures
