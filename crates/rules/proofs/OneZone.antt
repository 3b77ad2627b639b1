-- One zone of a table, by its id: where the table has it, and what each change does to it, by one induction over the
-- table for each. Its position plays no part.
use Prim.Native.Nat.{ℕ, suc}
use mathlib.Core.Bool.{Bool, true, false, cond, ◌||◌, true≢false}
use mathlib.Core.List.{List, [], ◌∷◌, ◌++◌}
use mathlib.Core.Option.{Option, none, some, map}
use mathlib.Core.Path.{◌≡◌, refl, sym, ap, ◌∙◌}
use borrow.Author.Tests.{eqb-true, eqb-false, not-true}
use lib.Dec.{eqb}
use lib.ListN.{get_or, set}
use Rattle.lists.specs.First.{first_index, any, all}
use Rattle.lists.specs.Pairs.{pairwise}
use Rattle.lists.specs.Room.{remove_at}
use Rattle.lists.proofs.Every.{all_at, all_right, none_make}
use Rattle.lists.proofs.Tests.{both_true, both_false, false_both, false_of}
use Rattle.rules.specs.Changes.{region_set, with_side, put_set, added, pushed, cut, dropped}
use Rattle.rules.specs.Regions.{region_eq}
use Rattle.rules.specs.Requests.{find, present, after}
use Rattle.rules.specs.Tables.{empty_zone, no_zone, side_of, has_id, zone_in, ids_differ, Zone}
use Rattle.rules.specs.declared.Kind.{Kind}
use Rattle.rules.specs.declared.Kind.TheVariants.{AddZone, RemoveZone, Insert, Remove, NoRequest}
use Rattle.rules.proofs.Keeps.{id_kept}

-- ---- where it is
module _ (id : ℕ) where
  pub zone_there : (t : List Zone) → present id t ≡ true → zone_in t id ≡ some (get_or t (find id t) no_zone)
  unfolding zone_in first_index any
  zone_there [] e = absurd (true≢false (sym e))
  zone_there (z ∷ t) e = by (zone_there t) (eqb z.id id) e
    where
      by : (present id t ≡ true → zone_in t id ≡ some (get_or t (find id t) no_zone)) → (b : Bool)
          → (b || present id t) ≡ true
          → cond b (some z) (zone_in t id) ≡ some (get_or (z ∷ t) (cond b 0 (suc (find id t))) no_zone)
      by f true h = refl
      by f false h = f h

  -- where it is absent there is none, and nothing stands at its place
  pub zone_not : (t : List Zone) → present id t ≡ false
      → (zone_in t id ≡ none) × (get_or t (find id t) no_zone ≡ no_zone)
  unfolding zone_in first_index any
  zone_not [] e = (refl, refl)
  zone_not (z ∷ t) e = by (zone_not t) (eqb z.id id) e
    where
      by : (present id t ≡ false → (zone_in t id ≡ none) × (get_or t (find id t) no_zone ≡ no_zone)) → (b : Bool)
          → (b || present id t) ≡ false
          → (cond b (some z) (zone_in t id) ≡ none) × (get_or (z ∷ t) (cond b 0 (suc (find id t))) no_zone ≡ no_zone)
      by f true h = absurd (true≢false h)
      by f false h = f h

-- ---- what a change does to it
-- an entry that stands before another one
under : {A : Type 0} (b d : Bool) (g e u v : A) → (b ≡ true → d ≡ true → ⊥) → v ≡ cond d e u
    → cond b g v ≡ cond d e (cond b g u)
under true true g e u v f h = absurd (f refl refl)
under true false g e u v f h = refl
under false d g e u v f h = h

none_twice : (b : Bool) → ◌≡◌ {A = Option Zone} none (cond b none none)
none_twice true = refl
none_twice false = refl

module _ (id x : ℕ) where
  -- two ids that differ are not both x
  not_both : (n : ℕ) → eqb n id ≡ false → eqb n x ≡ true → eqb id x ≡ true → ⊥
  not_both n h p q = eqb-false n id h (eqb-true n x p ∙ sym (eqb-true id x q))

  pub zone_added : (t : List Zone) → present id t ≡ false
      → zone_in (added id t) x ≡ cond (eqb id x) (some (empty_zone id)) (zone_in t x)
  unfolding zone_in added any
  zone_added [] e = refl
  zone_added (z ∷ t) e =
      let h = both_false (eqb z.id id) (present id t) e in
      under (eqb z.id x) (eqb id x) _ _ _ _ (not_both z.id h.0) (zone_added t h.1)

  -- an id that differs from those of all zones is not there
  fresh : (t : List Zone) (z : Zone) → z.id ≡ x → all (ids_differ z) t ≡ true → present x t ≡ false
  fresh t z e h =
      none_make (has_id x) t no_zone
      (λ i l. false_of _
      (λ p. eqb-false _ _ (not-true _ (all_at (ids_differ z) t no_zone h i l)) (e ∙ sym (eqb-true _ _ p))))

  pub zone_dropped : (t : List Zone) → pairwise ids_differ t ≡ true
      → zone_in (dropped (find id t) t) x ≡ cond (eqb id x) none (zone_in t x)
  unfolding zone_in dropped remove_at first_index pairwise
  zone_dropped [] e = none_twice (eqb id x)
  zone_dropped (z ∷ t) e =
      let h = both_true (all (ids_differ z) t) (pairwise ids_differ t) e in
      by h.0 (zone_dropped t h.1) (eqb z.id id) refl
    where
      gone : all (ids_differ z) t ≡ true → (b : Bool) → eqb id x ≡ b → z.id ≡ id
          → zone_in t x ≡ cond b none (cond b (some z) (zone_in t x))
      gone h true q s = (zone_not x t (fresh t z (s ∙ eqb-true id x q) h)).0
      gone h false q s = refl

      by : all (ids_differ z) t ≡ true → zone_in (remove_at (find id t) t) x ≡ cond (eqb id x) none (zone_in t x)
          → (b : Bool) → eqb z.id id ≡ b
          → zone_in (remove_at (cond b 0 (suc (find id t))) (z ∷ t)) x ≡ cond (eqb id x) none (zone_in (z ∷ t) x)
      by h f true q =
          gone h (eqb id x) refl (eqb-true _ _ q)
          ∙ ap (λ (n : ℕ). cond (eqb id x) none (cond (eqb n x) (some z) (zone_in t x))) (sym (eqb-true _ _ q))
      by h f false q = under (eqb z.id x) (eqb id x) _ _ _ _ (not_both z.id q) f

  -- another zone in its place, with its id; where it is absent there is no place, and nothing changes
  pub zone_changed : (g : Zone → Zone) → ((z : Zone) → z.id ≡ id → (g z).id ≡ id) → (t : List Zone)
      → zone_in (set t (find id t) (g (get_or t (find id t) no_zone))) x
      ≡ cond (eqb id x) (map g (zone_in t id)) (zone_in t x)
  unfolding zone_in first_index
  zone_changed g kept [] = none_twice (eqb id x)
  zone_changed g kept (z ∷ t) = by (zone_changed g kept t) (eqb z.id id) refl
    where
      over : (b : Bool) → cond b (some (g z)) (zone_in t x) ≡ cond b (some (g z)) (cond b (some z) (zone_in t x))
      over true = refl
      over false = refl

      by : zone_in (set t (find id t) (g (get_or t (find id t) no_zone))) x
          ≡ cond (eqb id x) (map g (zone_in t id)) (zone_in t x)
          → (b : Bool) → eqb z.id id ≡ b
          → zone_in (set (z ∷ t) (cond b 0 (suc (find id t))) (g (get_or (z ∷ t) (cond b 0 (suc (find id t))) no_zone))) x
          ≡ cond (eqb id x) (map g (cond b (some z) (zone_in t id))) (zone_in (z ∷ t) x)
      by f true q =
          let n : z.id ≡ id = eqb-true _ _ q in
          ap (λ (m : ℕ). cond (eqb m x) (some (g z)) (zone_in t x)) (kept z n) ∙ over (eqb id x)
          ∙ ap (λ (m : ℕ). cond (eqb id x) (some (g z)) (cond (eqb m x) (some z) (zone_in t x))) (sym n)
      by f false q = under (eqb z.id x) (eqb id x) _ _ _ _ (not_both z.id q) f

-- where an added zone is the only one with its id, there was none before
none_before : (id : ℕ) (t : List Zone) → pairwise ids_differ (added id t) ≡ true → present id t ≡ false
unfolding added pairwise all any
none_before id [] e = refl
none_before id (z ∷ t) e =
    let h = both_true (all (ids_differ z) (added id t)) (pairwise ids_differ (added id t)) e in
    let d = all_right (ids_differ z) t (empty_zone id ∷ []) h.0 in
    false_both (eqb z.id id) (present id t) (not-true _ (both_true (ids_differ z (empty_zone id)) true d).0)
    (none_before id t h.1)

-- ---- what an accepted request makes of the zone that it names, from that zone alone
unfoldable pub own_after : Kind → ℕ → Option Zone → Option Zone
own_after AddZone id v = some (empty_zone id)
own_after RemoveZone id v = none
own_after (Insert s r) id v = map (λ z. with_side s (side_of s z ++ r ∷ []) z) v
own_after (Remove s r) id v =
    map (λ z. with_side s (remove_at (first_index (region_eq r) (side_of s z)) (side_of s z)) z) v
own_after NoRequest id v = v

-- and every other zone stays: in both tables an id names one zone
pub zone_after : (k : Kind) (id x : ℕ) (t : List Zone) → pairwise ids_differ t ≡ true
    → pairwise ids_differ (after k id t) ≡ true
    → zone_in (after k id t) x ≡ cond (eqb id x) (own_after k id (zone_in t id)) (zone_in t x)
unfolding after own_after pushed cut put_set region_set
zone_after AddZone id x t e f = zone_added id x t (none_before id t f)
zone_after RemoveZone id x t e f = zone_dropped id x t e
zone_after (Insert s r) id x t e f = zone_changed id x _ (λ z h. id_kept s (side_of s z ++ r ∷ []) z ∙ h) t
zone_after (Remove s r) id x t e f =
    zone_changed id x _ (λ z h. id_kept s (remove_at (first_index (region_eq r) (side_of s z)) (side_of s z)) z ∙ h) t
zone_after NoRequest id x t e f = by (eqb id x) refl
  where
    by : (b : Bool) → eqb id x ≡ b → zone_in t x ≡ cond b (zone_in t id) (zone_in t x)
    by true q = ap (zone_in t) (sym (eqb-true _ _ q))
    by false q = refl
