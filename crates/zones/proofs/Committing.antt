-- A change that was decided can be made: it names a place that is there, with room where it needs some; what is then
-- written is the words of the changed table.
use Prim.Native.Nat.{ℕ, ◌<◌}
use mathlib.Core.List.{List}
use mathlib.Core.Path.{◌≡◌}
use lib.ListN.{length}
use Rattle.rules.specs.Changes.{region_set, added, pushed, cut, dropped}
use Rattle.rules.specs.Limits.{most_zones, most_in_set}
use Rattle.rules.specs.declared.Region.{Region}
use Rattle.rules.specs.declared.Side.{Side}
use Rattle.zones.specs.Decide.{changed, Allowed}
use Rattle.zones.specs.View.{set_in, zones_in}
use Rattle.zones.specs.Words.{words_of}
use Rattle.zones.specs.declared.decide.Change.{Change}
use Rattle.zones.specs.declared.decide.Change.TheVariants.{Add, Drop, Push, Cut}
use Rattle.zones.proofs.Writers.{set_in_law}

module _ (w : List ℕ) (ch : Change) where
  module _ (a : Allowed ch (zones_in w)) where
    pub add_room : (id : ℕ) → ch ≡ Add id → length (zones_in w) < most_zones
    unfolding Allowed
    add_room id e = rw e at a

    pub drop_there : (z : ℕ) → ch ≡ Drop z → z < length (zones_in w)
    unfolding Allowed
    drop_there z e = rw e at a

    push_both : (z : ℕ) (s : Side) (r : Region) → ch ≡ Push z s r
        → (z < length (zones_in w)) × (length (region_set (zones_in w) z s) < most_in_set)
    unfolding Allowed
    push_both z s r e = rw e at a

    pub push_there : (z : ℕ) (s : Side) (r : Region) → ch ≡ Push z s r → z < length (zones_in w)
    push_there z s r e = (push_both z s r e).0

    pub push_room : (z : ℕ) (s : Side) (r : Region) → ch ≡ Push z s r → length (set_in w z s) < most_in_set
    push_room z s r e = rw (set_in_law w z s (push_there z s r e)) at (push_both z s r e).1

    cut_both : (z : ℕ) (s : Side) (i : ℕ) → ch ≡ Cut z s i
        → (z < length (zones_in w)) × (i < length (region_set (zones_in w) z s))
    unfolding Allowed
    cut_both z s i e = rw e at a

    pub cut_place : (z : ℕ) (s : Side) (i : ℕ) → ch ≡ Cut z s i → z < length (zones_in w)
    cut_place z s i e = (cut_both z s i e).0

    pub cut_within : (z : ℕ) (s : Side) (i : ℕ) → ch ≡ Cut z s i → i < length (set_in w z s)
    cut_within z s i e = rw (set_in_law w z s (cut_place z s i e)) at (cut_both z s i e).1

  module _ (u : List ℕ) where
    pub add_done : (id : ℕ) → ch ≡ Add id → u ≡ words_of (added id (zones_in w)) → u ≡ words_of (changed ch (zones_in w))
    unfolding changed
    add_done id e h = rw e h

    pub drop_done : (z : ℕ) → ch ≡ Drop z → u ≡ words_of (dropped z (zones_in w)) → u ≡ words_of (changed ch (zones_in w))
    unfolding changed
    drop_done z e h = rw e h

    pub push_done : (z : ℕ) (s : Side) (r : Region) → ch ≡ Push z s r → u ≡ words_of (pushed z s r (zones_in w))
        → u ≡ words_of (changed ch (zones_in w))
    unfolding changed
    push_done z s r e h = rw e h

    pub cut_done : (z : ℕ) (s : Side) (i : ℕ) → ch ≡ Cut z s i → u ≡ words_of (cut z s i (zones_in w))
        → u ≡ words_of (changed ch (zones_in w))
    unfolding changed
    cut_done z s i e h = rw e h
