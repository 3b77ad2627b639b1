-- The records of the set stand behind its count.
use Rattle.zones.proofs.Readers.{set_records}
use Rattle.zones.proofs.table.set_find.Goals as goal

pub returns : goal.returns
returns g c = λ p told.
    set_records _ _ _ p _ _ _ c.set_base-b.ensures.0 c.set_len-n.ensures (c.find_record.ensures p told)
