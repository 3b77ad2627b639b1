-- The sets of a table by id, in their order: what each change leaves of them; and of a list of holdings, those of one
-- set.
use Prim.Native.Nat.{ℕ, zero, suc}
use mathlib.Core.Bool.{Bool, true, false, cond, ◌&&◌, ◌||◌, true≢false}
use mathlib.Core.List.{List, [], ◌∷◌, ◌++◌, map, flat_map, append-nil}
use mathlib.Core.Path.{◌≡◌, refl, sym, ap, ap₂, ◌∙◌}
use borrow.Author.Tests.{eqb-true, eq-eqb}
use lib.Dec.{eqb}
use lib.ListN.{get_or, set}
use Rattle.lists.specs.First.{first_index, any, all}
use Rattle.lists.specs.Orders.{keep}
use Rattle.lists.specs.Pairs.{pairwise}
use Rattle.lists.specs.Room.{remove_at}
use Rattle.lists.proofs.Kept.{keep_append}
use Rattle.lists.proofs.Tests.{both_true, both_false}
use Rattle.rules.specs.Changes.{region_set, with_side, added}
use Rattle.rules.specs.Requests.{find, present}
use Rattle.rules.specs.Tables.{empty_zone, no_zone, side_of, ids_differ, Zone}
use Rattle.rules.specs.Wanted.{holding, held_on, holdings, ids_of, Holding}
use Rattle.rules.specs.declared.Region.{Region}
use Rattle.rules.specs.declared.Side.{Side}
use Rattle.rules.specs.declared.Side.TheVariants.{Cpu, Iommu}
use Rattle.rules.proofs.Wanted.{same_id, same_side, id_fresh}

-- ---- the set of a side of the zone with an id
abbrev pub set_by : List Zone → ℕ → Side → List Region
set_by t id side = region_set t (find id t) side

set_first : (z : Zone) (t : List Zone) (id : ℕ) (side : Side)
    → set_by (z ∷ t) id side ≡ cond (eqb z.id id) (side_of side z) (set_by t id side)
unfolding region_set first_index
set_first z t id side = by (eqb z.id id)
  where
    by : (b : Bool)
        → side_of side (get_or (z ∷ t) (cond b 0 (suc (find id t))) no_zone)
        ≡ cond b (side_of side z) (side_of side (get_or t (find id t) no_zone))
    by true = refl
    by false = refl

side_none : (id : ℕ) (side : Side) → side_of side (empty_zone id) ≡ []
unfolding side_of
side_none id Cpu = refl
side_none id Iommu = refl

set_empty : (id : ℕ) (side : Side) → set_by [] id side ≡ []
unfolding region_set
set_empty id side = side_none 0 side

set_absent : (t : List Zone) (id : ℕ) (side : Side) → present id t ≡ false → set_by t id side ≡ []
unfolding any
set_absent [] id side e = set_empty id side
set_absent (z ∷ t) id side e =
    let h = both_false (eqb z.id id) (present id t) e in
    set_first z t id side
    ∙ ap (λ (b : Bool). cond b (side_of side z) (set_by t id side)) h.0
    ∙ set_absent t id side h.1

-- after an addition
pub set_added : (t : List Zone) (id x : ℕ) (side : Side) → set_by (added id t) x side ≡ set_by t x side
unfolding added
set_added [] id x side = set_first (empty_zone id) [] x side ∙ by (eqb id x)
  where
    by : (b : Bool) → cond b (side_of side (empty_zone id)) (set_by [] x side) ≡ set_by [] x side
    by true = side_none id side ∙ sym (set_empty x side)
    by false = refl
set_added (z ∷ t) id x side =
    set_first z (added id t) x side
    ∙ ap (λ (l : List Region). cond (eqb z.id x) (side_of side z) l) (set_added t id x side)
    ∙ sym (set_first z t x side)

-- after a zone is replaced
pub set_put : (t : List Zone) (id : ℕ) (new : Zone) (x : ℕ) (side : Side) → new.id ≡ id → present id t ≡ true
    → set_by (set t (find id t) new) x side ≡ cond (eqb id x) (side_of side new) (set_by t x side)
unfolding any first_index
set_put [] id new x side n e = absurd (true≢false (sym e))
set_put (z ∷ t) id new x side n e = by (set_put t id new x side n) (eqb z.id id) refl e
  where
    over : (b : Bool) (g h u : List Region) → cond b g u ≡ cond b g (cond b h u)
    over true g h u = refl
    over false g h u = refl

    under : (b d : Bool) (g h u : List Region) → (b ≡ true → d ≡ true → ⊥)
        → cond b g (cond d h u) ≡ cond d h (cond b g u)
    under true true g h u f = absurd (f refl refl)
    under true false g h u f = refl
    under false d g h u f = refl

    by : (present id t ≡ true
        → set_by (set t (find id t) new) x side ≡ cond (eqb id x) (side_of side new) (set_by t x side))
        → (b : Bool) → eqb z.id id ≡ b → (b || present id t) ≡ true
        → set_by (set (z ∷ t) (cond b 0 (suc (find id t))) new) x side
        ≡ cond (eqb id x) (side_of side new) (set_by (z ∷ t) x side)
    by f true q h =
        set_first new t x side
        ∙ ap (λ (m : ℕ). cond (eqb m x) (side_of side new) (set_by t x side)) n
        ∙ over (eqb id x) (side_of side new) (side_of side z) (set_by t x side)
        ∙ ap (λ (m : ℕ). cond (eqb id x) (side_of side new) (cond (eqb m x) (side_of side z) (set_by t x side)))
        (sym (eqb-true z.id id q))
        ∙ ap (λ (l : List Region). cond (eqb id x) (side_of side new) l) (sym (set_first z t x side))
    by f false q h =
        set_first z (set t (find id t) new) x side
        ∙ ap (λ (l : List Region). cond (eqb z.id x) (side_of side z) l) (f h)
        ∙ under (eqb z.id x) (eqb id x) (side_of side z) (side_of side new) (set_by t x side)
        (λ a b. true≢false (sym (eq-eqb z.id id (eqb-true z.id x a ∙ sym (eqb-true id x b))) ∙ q))
        ∙ ap (λ (l : List Region). cond (eqb id x) (side_of side new) l) (sym (set_first z t x side))

-- after a zone that holds nothing is taken out
pub set_dropped : (t : List Zone) (id x : ℕ) (side : Side) → pairwise ids_differ t ≡ true → set_by t id side ≡ []
    → set_by (remove_at (find id t) t) x side ≡ set_by t x side
unfolding remove_at first_index pairwise
set_dropped [] id x side d e = refl
set_dropped (z ∷ t) id x side d e =
    let h = both_true (all (ids_differ z) t) (pairwise ids_differ t) d in
    by (set_dropped t id x side h.1) (id_fresh z t h.0) (eqb z.id id) refl (sym (set_first z t id side) ∙ e)
  where
    same : (b : Bool) → eqb z.id x ≡ b → side_of side z ≡ [] → present z.id t ≡ false
        → set_by t x side ≡ cond b (side_of side z) (set_by t x side)
    same true q k f = set_absent t x side (ap (λ (n : ℕ). present n t) (sym (eqb-true z.id x q)) ∙ f) ∙ sym k
    same false q k f = refl

    by : (set_by t id side ≡ [] → set_by (remove_at (find id t) t) x side ≡ set_by t x side) → present z.id t ≡ false
        → (b : Bool) → eqb z.id id ≡ b → cond b (side_of side z) (set_by t id side) ≡ []
        → set_by (remove_at (cond b 0 (suc (find id t))) (z ∷ t)) x side ≡ set_by (z ∷ t) x side
    by f g true q k = same (eqb z.id x) refl k g ∙ sym (set_first z t x side)
    by f g false q k =
        set_first z (remove_at (find id t) t) x side
        ∙ ap (λ (l : List Region). cond (eqb z.id x) (side_of side z) l) (f k)
        ∙ sym (set_first z t x side)

-- the sides of a zone with another set
pub side_with : (side s : Side) (xs : List Region) (z : Zone)
    → side_of side (with_side s xs z) ≡ cond (same_side side s) xs (side_of side z)
unfolding side_of with_side same_side
side_with Cpu Cpu xs z = refl
side_with Cpu Iommu xs z = refl
side_with Iommu Cpu xs z = refl
side_with Iommu Iommu xs z = refl

-- ---- ids
pub ids_removed : (k : ℕ) (t : List Zone) → ids_of (remove_at k t) ≡ remove_at k (ids_of t)
unfolding remove_at
ids_removed k [] = by k
  where
    by : (n : ℕ) → ids_of (remove_at n []) ≡ remove_at n []
    by zero = refl
    by (suc n) = refl
ids_removed zero (z ∷ t) = refl
ids_removed (suc k) (z ∷ t) = ap (λ (l : List ℕ). z.id ∷ l) (ids_removed k t)

pub ids_found : (id : ℕ) (t : List Zone) → find id t ≡ first_index (same_id id) (ids_of t)
unfolding first_index
ids_found id [] = refl
ids_found id (z ∷ t) = ap (λ (n : ℕ). cond (eqb z.id id) 0 (suc n)) (ids_found id t)

pub ids_added : (id : ℕ) (t : List Zone) → ids_of (added id t) ≡ ids_of t ++ (id ∷ [])
unfolding added
ids_added id [] = refl
ids_added id (z ∷ t) = ap (λ (l : List ℕ). z.id ∷ l) (ids_added id t)

-- ---- the regions of those holdings that are in one set
unfoldable pub pick : ℕ → Side → List Holding → List Region
pick id side [] = []
pick id side (h ∷ hs) =
    cond (eqb h.zone id && same_side side h.side) (h.region ∷ pick id side hs) (pick id side hs)

pick_append : (id : ℕ) (side : Side) (xs ys : List Holding)
    → pick id side (xs ++ ys) ≡ pick id side xs ++ pick id side ys
unfolding pick
pick_append id side [] ys = refl
pick_append id side (h ∷ hs) ys = by (eqb h.zone id && same_side side h.side) (pick_append id side hs ys)
  where
    by : (b : Bool) → pick id side (hs ++ ys) ≡ pick id side hs ++ pick id side ys
        → cond b (h.region ∷ pick id side (hs ++ ys)) (pick id side (hs ++ ys))
        ≡ cond b (h.region ∷ pick id side hs) (pick id side hs) ++ pick id side ys
    by true f = ap (λ (l : List Region). h.region ∷ l) f
    by false f = f

module _ (p : Holding → Bool) (id : ℕ) (side : Side) where
  -- the test, asked of regions of a set
  abbrev at : ℕ → Side → Region → Bool
  at zid s r = p (holding zid s r)

  pick_side : (zid : ℕ) (s : Side) (xs : List Region)
      → pick id side (keep p (map (holding zid s) xs)) ≡ cond (eqb zid id && same_side side s) (keep (at zid s) xs) []
  unfolding pick keep
  pick_side zid s [] = both (eqb zid id && same_side side s)
    where
      both : (b : Bool) → ◌≡◌ {A = List Region} [] (cond b [] [])
      both true = refl
      both false = refl
  pick_side zid s (x ∷ xs) = by (p (holding zid s x)) (eqb zid id && same_side side s) refl (pick_side zid s xs)
    where
      by : (d b : Bool) → (eqb zid id && same_side side s) ≡ b
          → pick id side (keep p (map (holding zid s) xs)) ≡ cond b (keep (at zid s) xs) []
          → pick id side (cond d (holding zid s x ∷ keep p (map (holding zid s) xs)) (keep p (map (holding zid s) xs)))
          ≡ cond b (cond d (x ∷ keep (at zid s) xs) (keep (at zid s) xs)) []
      by false b q f = f
      by true true q f =
          ap (λ (b : Bool). cond b (x ∷ pick id side (keep p (map (holding zid s) xs)))
          (pick id side (keep p (map (holding zid s) xs)))) q
          ∙ ap (λ (l : List Region). x ∷ l) f
      by true false q f =
          ap (λ (b : Bool). cond b (x ∷ pick id side (keep p (map (holding zid s) xs)))
          (pick id side (keep p (map (holding zid s) xs)))) q
          ∙ f

  pick_zone : (z : Zone)
      → pick id side (keep p (held_on Cpu z ++ held_on Iommu z))
      ≡ cond (eqb z.id id) (keep (at z.id side) (side_of side z)) []
  unfolding same_side
  pick_zone z =
      ap (pick id side) (keep_append p (held_on Cpu z) (held_on Iommu z))
      ∙ pick_append id side (keep p (held_on Cpu z)) (keep p (held_on Iommu z))
      ∙ ap₂ (λ (a b : List Region). a ++ b) (pick_side z.id Cpu (side_of Cpu z))
      (pick_side z.id Iommu (side_of Iommu z))
      ∙ by (eqb z.id id) side
    where
      by : (b : Bool) (s : Side)
          → cond (b && same_side s Cpu) (keep (at z.id Cpu) (side_of Cpu z)) []
          ++ cond (b && same_side s Iommu) (keep (at z.id Iommu) (side_of Iommu z)) []
          ≡ cond b (keep (at z.id s) (side_of s z)) []
      by false s = refl
      by true Cpu = append-nil (keep (at z.id Cpu) (side_of Cpu z))
      by true Iommu = refl

  -- of all that a table holds: the set itself, in its order
  pub pick_holdings : (w : List Zone) → pairwise ids_differ w ≡ true
      → pick id side (keep p (holdings w)) ≡ keep (at id side) (set_by w id side)
  unfolding pick keep holdings pairwise flat_map
  pick_holdings [] d = sym (ap (keep (at id side)) (set_empty id side))
  pick_holdings (z ∷ w) d =
      let h = both_true (all (ids_differ z) w) (pairwise ids_differ w) d in
      ap (pick id side) (keep_append p (held_on Cpu z ++ held_on Iommu z) (holdings w))
      ∙ pick_append id side (keep p (held_on Cpu z ++ held_on Iommu z)) (keep p (holdings w))
      ∙ ap₂ (λ (a b : List Region). a ++ b) (pick_zone z) (pick_holdings w h.1)
      ∙ by (eqb z.id id) refl (id_fresh z w h.0)
      ∙ ap (keep (at id side)) (sym (set_first z w id side))
    where
      by : (b : Bool) → eqb z.id id ≡ b → present z.id w ≡ false
          → cond b (keep (at z.id side) (side_of side z)) [] ++ keep (at id side) (set_by w id side)
          ≡ keep (at id side) (cond b (side_of side z) (set_by w id side))
      by true q f =
          ap₂ (λ (n : ℕ) (l : List Region). keep (at n side) (side_of side z) ++ keep (at id side) l)
          (eqb-true z.id id q)
          (set_absent w id side (ap (λ (n : ℕ). present n w) (sym (eqb-true z.id id q)) ∙ f))
          ∙ append-nil (keep (at id side) (side_of side z))
      by false q f = refl
