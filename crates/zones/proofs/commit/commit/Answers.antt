-- Each kind of change is one writer, whose needs are what `Allowed` says of the change.
use borrow.Author.Rules.{rules}
use Rattle.zones.proofs.Committing.{add_room, drop_there, push_there, push_room, cut_place, cut_within}
use Rattle.zones.proofs.Committing.{add_done, drop_done, push_done, cut_done}
use Rattle.zones.proofs.commit.commit.Goals as goal

pub add_zone-requires : goal.add_zone-requires
add_zone-requires c = search (add_room, rules)

pub remove_zone-requires : goal.remove_zone-requires
remove_zone-requires c = search (drop_there, rules)

pub push_region-requires : goal.push_region-requires
push_region-requires c = search (push_there, push_room, rules)

pub cut_region-requires : goal.cut_region-requires
cut_region-requires c = search (cut_place, cut_within, rules)

pub returns-in-Add : goal.returns-in-Add
returns-in-Add c = search (add_done, rules)

pub returns-in-Drop : goal.returns-in-Drop
returns-in-Drop c = search (drop_done, rules)

pub returns-in-Push : goal.returns-in-Push
returns-in-Push c = search (push_done, rules)

pub returns-in-Cut : goal.returns-in-Cut
returns-in-Cut c = search (cut_done, rules)
