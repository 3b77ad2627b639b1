-- A table as upstream's state: where it has a zone, and what each change does to it, from what it does to the zone; and
-- sets of regions as upstream's.
use Prim.Native.Nat.{ℕ, ◌<◌}
use native.Mathlib.Decide.{dec_lt}
use native.Mathlib.Omega.{arith}
use mathlib.Core.Bool.{Bool, true, false, cond, not, ◌&&◌, ◌||◌, true≢false, and-true, or-false}
use mathlib.Core.List.{List, [], ◌∷◌, ◌++◌}
use mathlib.Core.Logic.{⊎_elim}
use mathlib.Core.Option.{Option, none, some, map, some-injective, none-ne-some}
use mathlib.Core.Option.{some-ne-none}
use mathlib.Core.Path.{◌≡◌, refl, sym, ap, fun_ext, ◌∙◌}
use borrow.Author.Tests.{ltb-true, not-true}
use lib.Dec.{eqb}
use lib.ListN.{length, get_or, set}
use Rattle.lists.specs.First.{first_index, any}
use Rattle.lists.specs.Pairs.{pairwise}
use Rattle.lists.specs.Room.{remove_at}
use Rattle.lists.proofs.Every.{all_at, none_others_make, any_append, any_split}
use Rattle.lists.proofs.First.{any_first, first_passes}
use Rattle.lists.proofs.Pairs.{pairs_at}
use Rattle.lists.proofs.Tests.{holds_or_fails, false_of, parts}
use Rattle.rules.specs.Limits.{Limits}
use Rattle.rules.specs.Changes.{added, dropped}
use Rattle.rules.specs.Closure.{insert_region, remove_region_exact, map_insert, map_remove, ghost_of, state_of}
use Rattle.rules.specs.Closure.{GhostZone}
use Rattle.rules.specs.Configuration.{Configuration}
use Rattle.rules.specs.Regions.{region_eq, guest_overlap, no_region}
use Rattle.rules.specs.Requests.{find, present, held_in}
use Rattle.rules.specs.Tables.{empty_zone, no_zone, zone_in, configured, guest_apart, sound_set, ids_differ, Zone}
use Rattle.rules.specs.declared.Region.{Region}
use Rattle.rules.proofs.Configuration.{SoundConfiguration}
use Rattle.rules.proofs.OneZone.{zone_there, zone_not, zone_added, zone_dropped, zone_changed}
use Rattle.rules.proofs.Regions.{equal_same}
use Rattle.rules.proofs.Tables.{guest_overlaps_itself}

-- ---- what a state has at an id
module _ (id : ℕ) where
  pub state_there : (t : List Zone) → present id t ≡ true → state_of t id ≡ some (ghost_of (get_or t (find id t) no_zone))
  unfolding state_of
  state_there t e = ap (map ghost_of) (zone_there id t e)

  pub state_not : (t : List Zone) → present id t ≡ false → state_of t id ≡ none
  unfolding state_of
  state_not t e = ap (map ghost_of) (zone_not id t e).0

  pub state_some : (t : List Zone) (zone : GhostZone) → state_of t id ≡ some zone
      → (present id t ≡ true) × (ghost_of (get_or t (find id t) no_zone) ≡ zone)
  state_some t zone e =
      ⊎_elim (λ p. (p, some-injective _ _ (sym (state_there t p) ∙ e)))
      (λ p. absurd (none-ne-some zone (sym (state_not t p) ∙ e))) (holds_or_fails (present id t))

  pub state_none : (t : List Zone) → state_of t id ≡ none → present id t ≡ false
  state_none t e = false_of (present id t) (λ p. some-ne-none _ (sym (state_there t p) ∙ e))

-- ---- what a change does to it: what it does to the zone
module _ (id x : ℕ) where
  either_ghost : (b : Bool) (u v : Option Zone)
      → map ghost_of (cond b u v) ≡ cond b (map ghost_of u) (map ghost_of v)
  either_ghost true u v = refl
  either_ghost false u v = refl

  pub state_added : (t : List Zone) → present id t ≡ false
      → state_of (added id t) x ≡ map_insert (state_of t) id (ghost_of (empty_zone id)) x
  unfolding state_of
  state_added t e = ap (map ghost_of) (zone_added id x t e) ∙ either_ghost (eqb id x) _ (zone_in t x)

  pub state_dropped : (t : List Zone) → pairwise ids_differ t ≡ true
      → state_of (dropped (find id t) t) x ≡ map_remove (state_of t) id x
  unfolding state_of
  state_dropped t e = ap (map ghost_of) (zone_dropped id x t e) ∙ either_ghost (eqb id x) none (zone_in t x)

  pub state_put : (t : List Zone) (new : Zone) → new.id ≡ id → present id t ≡ true
      → state_of (set t (find id t) new) x ≡ map_insert (state_of t) id (ghost_of new) x
  unfolding state_of
  state_put t new n e =
      ap (map ghost_of)
      (zone_changed id x (λ z. new) (λ z h. n) t
      ∙ ap (λ (v : Option Zone). cond (eqb id x) (map (λ (z : Zone). new) v) (zone_in t x)) (zone_there id t e))
      ∙ either_ghost (eqb id x) (some new) (zone_in t x)

-- ---- sets
-- one more region
pub held_pushed : (xs : List Region) (r : Region)
    → (λ (x : Region). held_in x (xs ++ r ∷ [])) ≡ insert_region (λ x. held_in x xs) r
unfolding any
held_pushed xs r =
    fun_ext (λ x. any_append (region_eq x) xs (r ∷ []) ∙ ap (λ (b : Bool). held_in x xs || b) (or-false (region_eq x r)))

module _ (lim : Limits) where
  -- one less: in a set whose regions are configured and apart each stands once
  module _ (c : Configuration) (ok : SoundConfiguration lim c) (xs : List Region) (sound-set : sound_set lim c xs ≡ true)
      (r : Region) (there : held_in r xs ≡ true) where
    i : ℕ
    i = first_index (region_eq r) xs

    inside : i < length xs
    unfolding i
    inside = ltb-true _ _ (sym (any_first (region_eq r) xs) ∙ there)

    here : r ≡ get_or xs i no_region
    unfolding i
    here = equal_same r (get_or xs (first_index (region_eq r) xs) no_region) (first_passes (region_eq r) xs no_region inside)

    apart : (j k : ℕ) → j < k → k < length xs → get_or xs j no_region ≡ get_or xs k no_region → ⊥
    unfolding sound_set
    apart j k h l e =
        let p = parts _ sound-set in
        true≢false
        (sym
        (guest_overlaps_itself lim c ok (get_or xs j no_region)
        (all_at (configured c) xs no_region p.1.0 j (omega arith)))
        ∙ ap (guest_overlap (get_or xs j no_region)) e ∙ not-true _ (pairs_at guest_apart xs no_region p.1.1.0 j k h l))

    once : any (region_eq r) (remove_at i xs) ≡ false
    once =
        none_others_make (region_eq r) xs i no_region
        (λ j h ne. false_of _ (λ e. let s : get_or xs i no_region ≡ get_or xs j no_region = sym here ∙ equal_same r _ e in
        elim (dec_lt i j) [ yes l ↦ apart i j l h s | no l ↦ apart j i (omega arith) inside (sym s) ]))

    pub held_cut : (λ (x : Region). held_in x (remove_at (first_index (region_eq r) xs) xs))
        ≡ remove_region_exact (λ x. held_in x xs) r
    unfolding i
    held_cut =
        fun_ext (λ x. by x (region_eq x r) refl
        ∙ ap (λ (b : Bool). b && not (region_eq x r))
        (sym
        (any_split (region_eq x) xs i no_region inside
        ∙ ap (λ (y : Region). region_eq x y || any (region_eq x) (remove_at i xs)) (sym here))))
      where
        by : (x : Region) (b : Bool) → region_eq x r ≡ b
            → any (region_eq x) (remove_at i xs) ≡ ((b || any (region_eq x) (remove_at i xs)) && not b)
        by x true e = ap (λ (y : Region). any (region_eq y) (remove_at i xs)) (equal_same x r e) ∙ once
        by x false e = sym (and-true _)
