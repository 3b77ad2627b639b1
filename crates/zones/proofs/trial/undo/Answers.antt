-- Each kind of request by its own way back.
use native.Mathlib.Omega.{arith}
use mathlib.Core.Path.{refl, sym, ◌∙◌}
use borrow.Author.Tests.{lt-ltb}
use Rattle.std.specs.Prelude.{Bool, true, false, ◌≡◌}
use Rattle.lists.proofs.First.{any_first}
use Rattle.zones.proofs.Finding.{found_none, found_first}
use borrow.Author.Rules.{rules}
use Rattle.zones.proofs.Trying.{add_some, undo_add, drop_room, undo_drop, push_there, push_some, undo_push}
use Rattle.zones.proofs.Trying.{cut_there, cut_room, undo_cut, undo_none}
use Rattle.zones.proofs.trial.undo.Goals as goal

pub overflow_sub-n : goal.overflow_sub-n
overflow_sub-n c =
    omega (arith, c.zone_count-n.ensures, add_some _ _ _ c.in-AddZone.is c.requires.1)

pub remove_zone-requires : goal.remove_zone-requires
remove_zone-requires c =
    (c.requires.0, omega (arith, c.zone_count-n.ensures, add_some _ _ _ c.in-AddZone.is c.requires.1))

pub put_back_zone-requires : goal.put_back_zone-requires
put_back_zone-requires c =
    let room = drop_room _ _ _ c.in-RemoveZone.is c.requires.1 in
    ((c.requires.0, room.0), room.1)

-- An accepted request of a region names a zone that is there.
pub returns-in_default : goal.returns-in_default
returns-in_default c =
    let there = any_first _ _ ∙ lt-ltb _ _ (push_there _ _ _ _ _ c.in-Insert.is _ _ refl refl c.requires.1) in
    let clash : ◌≡◌ {A = Bool} true false = sym there ∙ found_none _ _ (sym c.in_default.is ∙ c.find_zone.ensures) in
    absurd (cc)

pub returns-in_default-find_zone : goal.returns-in_default-find_zone
returns-in_default-find_zone c =
    let there = any_first _ _ ∙ lt-ltb _ _ (cut_there _ _ _ _ _ c.in-Remove.is _ _ refl refl c.requires.1) in
    let clash : ◌≡◌ {A = Bool} true false = sym there ∙ found_none _ _ (sym c.in_default-find_zone.is ∙ c.find_zone-in-Remove.ensures) in
    absurd (cc)

pub set_len-n-requires : goal.set_len-n-requires
set_len-n-requires c =
    omega (arith, push_there _ _ _ _ _ c.in-Insert.is _ _ refl (found_first _ _ _ (sym c.in-Some.is ∙ c.find_zone.ensures)).0 c.requires.1)

pub overflow_sub-n-in-Insert : goal.overflow_sub-n-in-Insert
overflow_sub-n-in-Insert c =
    omega (
      arith,
      c.set_len-n.ensures,
      push_some _ _ _ _ _ c.in-Insert.is _ _ refl (found_first _ _ _ (sym c.in-Some.is ∙ c.find_zone.ensures)).0 c.requires.1,
    )

pub cut_region-requires : goal.cut_region-requires
cut_region-requires c =
    let there = push_there _ _ _ _ _ c.in-Insert.is _ _ refl (found_first _ _ _ (sym c.in-Some.is ∙ c.find_zone.ensures)).0 c.requires.1 in
    let some = push_some _ _ _ _ _ c.in-Insert.is _ _ refl (found_first _ _ _ (sym c.in-Some.is ∙ c.find_zone.ensures)).0 c.requires.1 in
    ((c.requires.0, there), omega (arith, c.set_len-n.ensures))

pub put_back_region-requires : goal.put_back_region-requires
put_back_region-requires c =
    let there = cut_there _ _ _ _ _ c.in-Remove.is _ _ refl (found_first _ _ _ (sym c.in-Some-find_zone.is ∙ c.find_zone-in-Remove.ensures)).0 c.requires.1 in
    let room = cut_room _ _ _ _ _ c.in-Remove.is _ _ refl (found_first _ _ _ (sym c.in-Some-find_zone.is ∙ c.find_zone-in-Remove.ensures)).0 c.requires.1 in
    ((c.requires.0, there), room)

pub returns-in-AddZone : goal.returns-in-AddZone
returns-in-AddZone c = search (undo_add, rules)

pub returns-in-RemoveZone : goal.returns-in-RemoveZone
returns-in-RemoveZone c = undo_drop _ _ _ c.in-RemoveZone.is _ _ refl c.put_back_zone.ensures

pub returns-in-Some : goal.returns-in-Some
returns-in-Some c = let place = (found_first _ _ _ (sym c.in-Some.is ∙ c.find_zone.ensures)).0 in
    undo_push _ _ _ _ _ c.in-Insert.is _ _ _ _ refl place c.set_len-n.ensures c.cut_region.ensures

pub returns-in-Some-find_zone : goal.returns-in-Some-find_zone
returns-in-Some-find_zone c =
    let place = (found_first _ _ _ (sym c.in-Some-find_zone.is ∙ c.find_zone-in-Remove.ensures)).0 in
    undo_cut _ _ _ _ _ c.in-Remove.is _ _ _ refl place c.put_back_region.ensures

pub returns-in-NoRequest : goal.returns-in-NoRequest
returns-in-NoRequest c = search (undo_none, rules)
