-- By where the regions and the owners end: zeros where either does not read, or the ids.
use Rattle.owned.proofs.Holding.{behind_within, owners_few}
use Rattle.owned.proofs.Reading.{none_read, cut_read, ids_read}
use Rattle.owned.proofs.owners_section.read_owners.Goals as goal

pub returns-in_default : goal.returns-in_default
returns-in_default c = none_read _ _ c.in_default.ensures

pub slice_bounds-pass_numbers-count : goal.slice_bounds-pass_numbers-count
slice_bounds-pass_numbers-count c = behind_within _ _ c.in-Ok.ensures

pub slice_bounds-pass_numbers-start : goal.slice_bounds-pass_numbers-start
slice_bounds-pass_numbers-start c = behind_within _ _ c.in-Ok.ensures

pub returns-in_default-pass_numbers : goal.returns-in_default-pass_numbers
returns-in_default-pass_numbers c =
    cut_read _ _ c.in-Ok.ensures _ c.u32_at-count.ensures _ c.in_default-pass_numbers.ensures

pub slice_bounds-ids_at-count : goal.slice_bounds-ids_at-count
slice_bounds-ids_at-count c = behind_within _ _ c.in-Ok.ensures

pub slice_bounds-ids_at-start : goal.slice_bounds-ids_at-start
slice_bounds-ids_at-start c = behind_within _ _ c.in-Ok.ensures

pub ids_at-requires : goal.ids_at-requires
ids_at-requires c = owners_few _ _ c.in-Ok.ensures _ c.u32_at-count.ensures

pub returns : goal.returns
returns c =
    ids_read _ _ c.in-Ok.ensures _ c.u32_at-count.ensures _ c.in-Ok-pass_numbers.ensures _ c.ids_at.ensures
