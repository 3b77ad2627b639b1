-- Of 0 the place is a length that the buffer has, so the listing is a prefix of it.
use Rattle.std.proofs.Common.{rules}
use Rattle.list.proofs.Room.{place_fits, place_taken}
use Rattle.list.proofs.list_into.Goals as goal

pub slice_bounds-write_all-end : goal.slice_bounds-write_all-end
slice_bounds-write_all-end g c = search (place_fits _ _ _ _ c.list_alone-outcome.ensures, rules)

pub slice_bounds-write_all-end-2 : goal.slice_bounds-write_all-end-2
slice_bounds-write_all-end-2 g c = search (place_taken _ _ _ _ c.list_alone-outcome.ensures, rules)
