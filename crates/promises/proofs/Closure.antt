-- Requests and ClosureSpec: number by number, a rule that is silent is a clause of upstream's guard, 14 its overlap
-- clause; a change to the list of zones is the change to upstream's map; and a transition leads to one state.
use Prim.Native.Nat.{ℕ, ◌≤◌, ◌<◌}
use native.Mathlib.Omega.{arith}
use mathlib.Core.Bool.{Bool, true, false, cond, not, ◌&&◌, and-false, true≢false}
use mathlib.Core.List.{List, [], ◌∷◌, ◌++◌}
use mathlib.Core.Logic.{◌⊎◌, inl, inr, ⊎_elim}
use mathlib.Core.Option.{some, some-injective}
use mathlib.Core.Path.{◌≡◌, refl, sym, ap, ap₂, subst, ◌∙◌, fun_ext}
use borrow.Author.Tests.{ltb-true, ltb-false, leb-true, leb-false, eqb-true, not-true, not-false, le-ltb, lt-leb}
use borrow.Author.Tests.{eq-eqb}
use lib.Dec.{ltb}
use lib.ListN.{length, get_or}
use Rattle.lists.specs.First.{first_index, any}
use Rattle.lists.specs.Room.{remove_at}
use Rattle.lists.specs.Rules.{first_rule}
use Rattle.lists.proofs.Every.{all_at, any_make, any_at, none_at, none_make, none_others, none_others_make, any_append}
use Rattle.lists.proofs.First.{any_first, first_passes, first_is}
use Rattle.lists.proofs.Pairs.{pairs_at}
use Rattle.lists.proofs.Rules.{Quiet, test_of, quiet_answer}
use Rattle.lists.proofs.Tests.{both_false, false_both, one_true, or_left, or_right, not_holds, parts}
use Rattle.rules.specs.Changes.{region_set, with_side, put_set, pushed, cut}
use Rattle.rules.specs.Closure.{gic_region, insert_region, remove_region_exact, contains_region, State, map_insert, ghost_of, set_wf}
use Rattle.rules.specs.Closure.{wf, state_of, Transition, GhostZone, cpu_insert_region, cpu_remove_region}
use Rattle.rules.specs.Closure.{iommu_insert_region, iommu_remove_region}
use Rattle.rules.specs.Configuration.{gic_of, config_of, Configuration, StoredConfig}
use Rattle.rules.specs.Limits.{highest_id, Limits, page_of}
use Rattle.rules.specs.Regions.{well_formed, in_reach, region_eq, phys_overlap, guest_overlap, no_region}
use Rattle.rules.specs.Requests.{find, present, held_in, on_gic, forbidden, add_rules, remove_zone_rules, region_rules}
use Rattle.rules.specs.Requests.{set_rules, insert_rules, remove_rules, kind_rules, no_request, request_rules, refusal, after}
use Rattle.rules.specs.Requests.{next}
use Rattle.rules.specs.Tables.{no_zone, side_of, has_id, regions_of, configured, excessive, clash, sound_set, sound_zone}
use Rattle.rules.specs.Tables.{ids_differ, Zone}
use Rattle.rules.specs.declared.Kind.{Kind}
use Rattle.rules.specs.declared.Kind.TheVariants.{AddZone, RemoveZone, Insert, Remove, NoRequest}
use Rattle.rules.specs.declared.Region.{Region}
use Rattle.rules.specs.declared.Request.{Request}
use Rattle.rules.specs.declared.Side.{Side}
use Rattle.rules.specs.declared.Side.TheVariants.{Cpu, Iommu}
use Rattle.rules.proofs.Closure.{state_there, state_not, state_some, state_none, state_added, state_dropped, state_put}
use Rattle.rules.proofs.Closure.{held_pushed, held_cut}
use Rattle.rules.proofs.Configuration.{passed, SoundConfiguration}
use Rattle.rules.proofs.Keeps.{sound_parts, set_sound, clear_clash, id_kept, SoundTable}
use Rattle.rules.proofs.Regions.{equal_same, equal_refl}
use Rattle.rules.proofs.Inductive.{initialize_meets, add_zone_inductive, remove_zone_inductive}
use Rattle.rules.proofs.Inductive.{cpu_insert_region_inductive, cpu_remove_region_inductive}
use Rattle.rules.proofs.Inductive.{iommu_insert_region_inductive, iommu_remove_region_inductive}
use Rattle.rules.proofs.Requests.{none_applies, holds_nothing, nothing_held}
use Rattle.promises.specs.Closure.{InitializeInductive, TransitionInductive, SoundIsInvariant, Corrections}
use Rattle.promises.specs.Closure.{RegionsInAll, CrossAnyState}
use Rattle.promises.specs.Closure.{AcceptedIsUpstream, UpstreamIsAccepted, InitializeIsEmpty}
use Rattle.promises.specs.Closure.{ZoneCpuRegionInAllRegions, ZoneIommuRegionInAllRegions}
use Rattle.promises.specs.Closure.{CrossZoneDisjointExceptGic}
use Rattle.promises.specs.Tables.{In, SoundUnder}
use Rattle.promises.proofs.Tables.{never_clash, inv_zones_wf, inv_cpu_disjoint_from_gic}

-- ---- membership in a set
pub held_at : (xs : List Region) (r : Region) → held_in r xs ≡ true
    → (i : ℕ) × (i < length xs) × (r ≡ get_or xs i no_region)
held_at xs r e = let (i, h, q) = any_at (region_eq r) xs no_region e in (i, h, equal_same r (get_or xs i no_region) q)

-- a test that no element passes, each one that is held fails; and the other way round
clear_of : (p : Region → Bool) (xs : List Region) (r : Region) → any p xs ≡ false → held_in r xs ≡ true → p r ≡ false
clear_of p xs r e h = let (i, l, q) = held_at xs r h in ap p q ∙ none_at p xs no_region e i l

clear_make : (p : Region → Bool) (xs : List Region) → ((r : Region) → held_in r xs ≡ true → p r ≡ false)
    → any p xs ≡ false
clear_make p xs f =
    none_make p xs no_region
    (λ i l. f (get_or xs i no_region) (any_make (region_eq (get_or xs i no_region)) xs no_region i l (equal_refl _)))

pub held_either : (z : Zone) (r : Region) → (held_in r z.cpu ≡ true) ⊎ (held_in r z.iommu ≡ true)
    → held_in r (regions_of z) ≡ true
held_either z r m =
    any_append (region_eq r) z.cpu z.iommu
    ∙ ⊎_elim (or_left (held_in r z.cpu) (held_in r z.iommu)) (or_right (held_in r z.cpu) (held_in r z.iommu)) m

-- ---- two regions that do not clash
module _ (c : Configuration) (a b : Region) where
  clash_told : clash c a b ≡ false → (a ≡ gic_of c) ⊎ ((b ≡ gic_of c) ⊎ (phys_overlap a b ≡ false))
  unfolding clash
  clash_told e = by (region_eq a (gic_of c)) refl (region_eq b (gic_of c)) refl e
    where
      by : (x : Bool) → region_eq a (gic_of c) ≡ x → (y : Bool) → region_eq b (gic_of c) ≡ y
          → (not x && (not y && phys_overlap a b)) ≡ false → (a ≡ gic_of c) ⊎ ((b ≡ gic_of c) ⊎ (phys_overlap a b ≡ false))
      by true p y q h = inl (equal_same a (gic_of c) p)
      by false p true q h = inr (inl (equal_same b (gic_of c) q))
      by false p false q h = inr (inr h)

  clash_not : (a ≡ gic_of c) ⊎ ((b ≡ gic_of c) ⊎ (phys_overlap a b ≡ false)) → clash c a b ≡ false
  unfolding clash
  clash_not (inl e) = rw (ap (λ (g : Region). region_eq g (gic_of c)) e ∙ equal_refl (gic_of c))
  clash_not (inr (inl e)) =
      rw (ap (λ (g : Region). region_eq g (gic_of c)) e ∙ equal_refl (gic_of c)) (and-false (not (region_eq a (gic_of c))))
  clash_not (inr (inr e)) = clear_clash c a b e

pub initialize_is_empty : InitializeIsEmpty
unfolding state_of
initialize_is_empty = refl

module _ (lim : Limits) where
  -- ---- upstream's inductive steps
  pub initialize_inductive : InitializeInductive lim
  initialize_inductive c = initialize_meets lim c

  pub transition_inductive : TransitionInductive lim
  transition_inductive c AddZone zid pre post ok x = add_zone_inductive lim c zid pre post ok x
  transition_inductive c RemoveZone zid pre post ok x = remove_zone_inductive lim c zid pre post ok x
  transition_inductive c (Insert Cpu region) zid pre post ok x =
      cpu_insert_region_inductive lim c zid pre post ok region x
  transition_inductive c (Insert Iommu region) zid pre post ok x =
      iommu_insert_region_inductive lim c zid pre post ok region x
  transition_inductive c (Remove Cpu region) zid pre post ok x =
      cpu_remove_region_inductive lim c zid pre post ok region x
  transition_inductive c (Remove Iommu region) zid pre post ok x =
      iommu_remove_region_inductive lim c zid pre post ok region x
  transition_inductive c NoRequest zid pre post ok x = absurd x

  -- ---- a sound table under a configuration that passed
  module _ (s : StoredConfig) (t : List Zone) (ok : SoundUnder lim s t) where
    abbrev c : Configuration
    c = config_of s

    pub config_ok : SoundConfiguration lim c
    config_ok = passed lim s ok.config.0 ok.config.1

    pub table_ok : SoundTable lim c t
    table_ok = sound_parts lim (config_of s) t ok.table

    -- the zone with an id that is there
    module _ (id : ℕ) (e : present id t ≡ true) where
      pub there : find id t < length t
      there = ltb-true _ _ (sym (any_first (has_id id) t) ∙ e)

      own_id : (get_or t (find id t) no_zone).id ≡ id
      own_id = eqb-true _ _ (first_passes (has_id id) t no_zone there)

      zone_ok : sound_zone lim c (get_or t (find id t) no_zone) ≡ true
      zone_ok = all_at (sound_zone lim c) t no_zone table_ok.zones (find id t) there

      pub low_id : ltb highest_id id ≡ false
      unfolding sound_zone
      low_id =
          let h : (get_or t (find id t) no_zone).id ≤ highest_id = leb-true _ _ (parts _ zone_ok).0 in
          le-ltb highest_id id (omega (arith, own_id))

      pub set_ok : (side : Side) → sound_set lim c (region_set t (find id t) side) ≡ true
      set_ok side = set_sound lim c t table_ok (find id t) side there

    -- every position is that of its id
    found_own : (z : ℕ) → z < length t → find (get_or t z no_zone).id t ≡ z
    found_own z h =
        first_is (has_id (get_or t z no_zone).id) t no_zone z h (eq-eqb (get_or t z no_zone).id (get_or t z no_zone).id refl)
        (λ j l. not-true _ (pairs_at ids_differ t no_zone table_ok.ids j z l h))

    state_at : (z : ℕ) → z < length t → state_of t (get_or t z no_zone).id ≡ some (ghost_of (get_or t z no_zone))
    state_at z h =
        state_there (get_or t z no_zone).id t
        (any_make (has_id (get_or t z no_zone).id) t no_zone z h
        (eq-eqb (get_or t z no_zone).id (get_or t z no_zone).id refl))
        ∙ ap (λ (k : ℕ). some (ghost_of (get_or t k no_zone))) (found_own z h)

    pub other_place : (id o : ℕ) → present id t ≡ true → present o t ≡ true → (o ≡ id → ⊥) → find o t ≡ find id t → ⊥
    other_place id o e p ne q = ne (sym (own_id o p) ∙ ap (λ (k : ℕ). (get_or t k no_zone).id) q ∙ own_id id e)

    -- ---- 14 is the overlap clause of upstream's guards
    module _ (id : ℕ) (e : present id t ≡ true) (r : Region) where
      abbrev CpuClause : Type 0
      CpuClause =
          (o : ℕ) (zone : GhostZone) (x : Region) → state_of t o ≡ some zone
          → (zone.cpu_mem_set x ≡ true) ⊎ ((o ≡ id → ⊥) × (zone.iommu_mem_set x ≡ true)) → phys_overlap r x ≡ false

      cpu_clause : forbidden c (find id t) Cpu r t ≡ false → CpuClause
      unfolding forbidden
      cpu_clause f o zone x st m =
          let (p, g) = state_some o t zone st in
          let b = both_false _ _ f in
          let z : Zone = get_or t (find o t) no_zone in
          ⊎_elim (λ h. clear_of (phys_overlap r) z.cpu x
          (none_at (λ (y : Zone). any (phys_overlap r) y.cpu) t no_zone b.0 (find o t) (there o p))
          (ap (λ (y : GhostZone). y.cpu_mem_set x) g ∙ h))
          (λ (ne, h). clear_of (phys_overlap r) z.iommu x
          (none_others (λ (y : Zone). any (phys_overlap r) y.iommu) t (find id t) no_zone b.1 (find o t) (there o p)
          (other_place id o e p ne)) (ap (λ (y : GhostZone). y.iommu_mem_set x) g
          ∙ h))
          m

      cpu_clear : CpuClause → forbidden c (find id t) Cpu r t ≡ false
      unfolding forbidden
      cpu_clear f =
          false_both _ _
          (none_make (λ (y : Zone). any (phys_overlap r) y.cpu) t no_zone
          (λ z h. clear_make (phys_overlap r) (get_or t z no_zone).cpu
          (λ x m. f (get_or t z no_zone).id (ghost_of (get_or t z no_zone)) x (state_at z h) (inl m))))
          (none_others_make (λ (y : Zone). any (phys_overlap r) y.iommu) t (find id t) no_zone
          (λ z h ne. clear_make (phys_overlap r) (get_or t z no_zone).iommu
          (λ x m. f (get_or t z no_zone).id (ghost_of (get_or t z no_zone)) x (state_at z h)
          (inr ((λ q. ne (sym (found_own z h) ∙ ap (λ (i : ℕ). find i t) q)), m)))))

      abbrev IommuClause : Type 0
      IommuClause =
          (o : ℕ) (zone : GhostZone) (x : Region) → state_of t o ≡ some zone → (o ≡ id → ⊥)
          → (zone.cpu_mem_set x ≡ true) ⊎ (zone.iommu_mem_set x ≡ true)
          → (r ≡ gic_of c) ⊎ ((x ≡ gic_of c) ⊎ (phys_overlap r x ≡ false))

      iommu_clause : forbidden c (find id t) Iommu r t ≡ false → IommuClause
      unfolding forbidden
      iommu_clause f o zone x st ne m =
          let (p, g) = state_some o t zone st in
          let z : Zone = get_or t (find o t) no_zone in
          clash_told c r x
          (clear_of (clash c r) (regions_of z) x
          (none_others (λ (y : Zone). any (clash c r) (regions_of y)) t (find id t) no_zone f (find o t) (there o p)
          (other_place id o e p ne))
          (held_either z x
          (⊎_elim (λ h. inl (ap (λ (y : GhostZone). y.cpu_mem_set x) g ∙ h))
          (λ h. inr (ap (λ (y : GhostZone). y.iommu_mem_set x) g ∙ h)) m)))

      iommu_clear : IommuClause → forbidden c (find id t) Iommu r t ≡ false
      unfolding forbidden
      iommu_clear f =
          none_others_make (λ (y : Zone). any (clash c r) (regions_of y)) t (find id t) no_zone
          (λ z h ne. let y : Zone = get_or t z no_zone in
          clear_make (clash c r) (regions_of y)
          (λ x m. clash_not c r x
          (f y.id (ghost_of y) x (state_at z h) (λ q. ne (sym (found_own z h) ∙ ap (λ (i : ℕ). find i t) q))
          (one_true _ _ (sym (any_append (region_eq x) y.cpu y.iommu) ∙ m)))))

    -- ---- the state after a change to the set of a zone
    module _ (id : ℕ) (e : present id t ≡ true) where
      here : Zone
      here = get_or t (find id t) no_zone

      put_state : (side : Side) (xs : List Region) (g : GhostZone) → ghost_of (with_side side xs here) ≡ g
          → state_of (put_set (find id t) side xs t) ≡ map_insert (state_of t) id g
      unfolding put_set here
      put_state side xs g h =
          fun_ext (λ x. state_put id x t (with_side side xs here) (id_kept side xs here ∙ own_id id e) e
          ∙ ap (λ (y : GhostZone). map_insert (state_of t) id y x) h)

      pushed_state : (side : Side) (r : Region) (g : GhostZone)
          → ghost_of (with_side side (side_of side here ++ r ∷ []) here) ≡ g
          → state_of (pushed (find id t) side r t) ≡ map_insert (state_of t) id g
      unfolding pushed region_set here
      pushed_state side r g h = put_state side (side_of side here ++ r ∷ []) g h

      cut_state : (side : Side) (m : ℕ) (g : GhostZone)
          → ghost_of (with_side side (remove_at m (side_of side here)) here) ≡ g
          → state_of (cut (find id t) side m t) ≡ map_insert (state_of t) id g
      unfolding cut region_set here
      cut_state side m g h = put_state side (remove_at m (side_of side here)) g h

      -- ---- inserts and removals that were accepted
      module _ (r : Region) where
        cpu_inserted : well_formed (page_of lim Cpu) r ≡ true → in_reach lim r ≡ true → configured c r ≡ true
            → on_gic c Cpu r ≡ false → held_in r (region_set t (find id t) Cpu) ≡ false
            → forbidden c (find id t) Cpu r t ≡ false → any (guest_overlap r) (region_set t (find id t) Cpu) ≡ false
            → cpu_insert_region lim c id r (state_of t) (state_of (pushed (find id t) Cpu r t))
        unfolding on_gic region_set side_of with_side here
        cpu_inserted wf near conf gic held forb guest = record {
          zone = ghost_of here;
          there = state_there id t e;
          valid = (wf, near);
          allowed = (conf, gic, cpu_clause id e r forb);
          absent = held;
          apart = λ x m. clear_of (guest_overlap r) here.cpu x guest m;
          update =
              pushed_state Cpu r _
              (λ i. record { cpu_mem_set = held_pushed here.cpu r i; iommu_mem_set = λ x. held_in x here.iommu });
        }

        iommu_inserted : well_formed (page_of lim Iommu) r ≡ true → in_reach lim r ≡ true → configured c r ≡ true
            → held_in r (region_set t (find id t) Iommu) ≡ false → forbidden c (find id t) Iommu r t ≡ false
            → any (guest_overlap r) (region_set t (find id t) Iommu) ≡ false
            → iommu_insert_region lim c id r (state_of t) (state_of (pushed (find id t) Iommu r t))
        unfolding region_set side_of with_side here
        iommu_inserted wf near conf held forb guest = record {
          zone = ghost_of here;
          there = state_there id t e;
          valid = (wf, near);
          allowed = (conf, iommu_clause id e r forb);
          absent = held;
          apart = λ x m. clear_of (guest_overlap r) here.iommu x guest m;
          update =
              pushed_state Iommu r _
              (λ i. record { cpu_mem_set = λ x. held_in x here.cpu; iommu_mem_set = held_pushed here.iommu r i });
        }

        cpu_removed : held_in r (region_set t (find id t) Cpu) ≡ true
            → cpu_remove_region id r (state_of t)
            (state_of (cut (find id t) Cpu (first_index (region_eq r) (region_set t (find id t) Cpu)) t))
        unfolding region_set side_of with_side here
        cpu_removed held = record {
          zone = ghost_of here;
          there = state_there id t e;
          held = held;
          update =
              cut_state Cpu (first_index (region_eq r) here.cpu) _
              (λ i. record {
                cpu_mem_set = held_cut lim c config_ok here.cpu (set_ok id e Cpu) r held i;
                iommu_mem_set = λ x. held_in x here.iommu;
              });
        }

        iommu_removed : held_in r (region_set t (find id t) Iommu) ≡ true
            → iommu_remove_region id r (state_of t)
            (state_of (cut (find id t) Iommu (first_index (region_eq r) (region_set t (find id t) Iommu)) t))
        unfolding region_set side_of with_side here
        iommu_removed held = record {
          zone = ghost_of here;
          there = state_there id t e;
          held = held;
          update =
              cut_state Iommu (first_index (region_eq r) here.iommu) _
              (λ i. record {
                cpu_mem_set = λ x. held_in x here.cpu;
                iommu_mem_set = held_cut lim c config_ok here.iommu (set_ok id e Iommu) r held i;
              });
        }

    -- ---- every kind: an accepted request is a transition
    accepted : (k : Kind) (id : ℕ) → first_rule (request_rules lim c k id t) 0 ≡ 0
        → Transition lim c k id (state_of t) (state_of (after k id t)) × Corrections lim k id t
    unfolding after request_rules kind_rules add_rules remove_zone_rules insert_rules region_rules set_rules remove_rules
        no_request first_rule any test_of
    accepted AddZone id e =
        let h = none_applies lim c AddZone id t e in (
          record { absent = state_not id t (h 5); update = fun_ext (λ x. state_added id x t (h 5)) },
          (ltb-false _ _ (h 4), leb-false _ _ (h 7)),
        )
    accepted RemoveZone id e =
        let h = none_applies lim c RemoveZone id t e in (
          record {
            zone = ghost_of (get_or t (find id t) no_zone);
            there = state_there id t (not-false _ (h 6));
            update = fun_ext (λ x. state_dropped id x t table_ok.ids);
          },
          holds_nothing _ t (h 8),
        )
    accepted (Insert Cpu r) id e =
        let h = none_applies lim c (Insert Cpu r) id t e in (
          cpu_inserted id (not-false _ (h 6)) r (not-false _ (h 9)) (not-false _ (h 10)) (not-false _ (h 11)) (h 12)
              (h 13) (h 14) (h 15),
          (h 19, leb-false _ _ (h 16)),
        )
    accepted (Insert Iommu r) id e =
        let h = none_applies lim c (Insert Iommu r) id t e in (
          iommu_inserted id (not-false _ (h 6)) r (not-false _ (h 9)) (not-false _ (h 10)) (not-false _ (h 11)) (h 13)
              (h 14) (h 15),
          (h 19, leb-false _ _ (h 16)),
        )
    accepted (Remove Cpu r) id e =
        let h = none_applies lim c (Remove Cpu r) id t e in
        (cpu_removed id (not-false _ (h 6)) r (not-false _ (h 17)), tt)
    accepted (Remove Iommu r) id e =
        let h = none_applies lim c (Remove Iommu r) id t e in
        (iommu_removed id (not-false _ (h 6)) r (not-false _ (h 17)), tt)
    accepted NoRequest id e = absurd (omega arith)

    -- ---- and a transition, with the corrections, is accepted
    quiet_zero : (k : Kind) (id : ℕ) → Quiet (request_rules lim c k id t) → first_rule (request_rules lim c k id t) 0 ≡ 0
    quiet_zero k id q = sym (quiet_answer (request_rules lim c k id t) 0 q)

    -- none of an insert's rules applies, in their order
    insert_quiet : (id : ℕ) (side : Side) (r : Region)
        → present id t ≡ true
        → (well_formed (page_of lim side) r ≡ true) × (in_reach lim r ≡ true)
        → configured c r ≡ true
        → excessive side r ≡ false
        → on_gic c side r ≡ false
        → held_in r (region_set t (find id t) side) ≡ false
        → forbidden c (find id t) side r t ≡ false
        → any (guest_overlap r) (region_set t (find id t) side) ≡ false
        → length (region_set t (find id t) side) < lim.in_set
        → Quiet (request_rules lim c (Insert side r) id t)
    unfolding request_rules kind_rules insert_rules region_rules set_rules no_request
    insert_quiet id side r there (formed, near) conf few gic new clear apart room =
        let in_set_law : Quiet (set_rules lim c (find id t) side r t) = (new, (clear, (apart, (lt-leb _ _ room, tt)))) in (
          refl,
          (
            low_id id there,
            (not_holds _ there, (not_holds _ formed, (not_holds _ near, (not_holds _ conf, (few, (gic, in_set_law)))))),
          ),
        )

    allowed_back : (k : Kind) (id : ℕ) (u : State) → Transition lim c k id (state_of t) u → Corrections lim k id t
        → Quiet (request_rules lim c k id t)
    unfolding request_rules kind_rules add_rules remove_zone_rules remove_rules no_request on_gic region_set side_of
    allowed_back AddZone id u x k = (refl, (le-ltb _ _ k.0, (state_none id t x.absent, (lt-leb _ _ k.1, tt))))
    allowed_back RemoveZone id u x k =
        let p = (state_some id t x.zone x.there).0 in
        (refl, (low_id id p, (not_holds _ p, (nothing_held _ t k.0 k.1, tt))))
    allowed_back (Insert Cpu r) id u x k =
        let (p, g) = state_some id t x.zone x.there in
        insert_quiet id Cpu r p x.valid x.allowed.0 k.0 x.allowed.1
        (ap (λ (y : GhostZone). y.cpu_mem_set r) g ∙ x.absent)
        (cpu_clear id p r x.allowed.2)
        (clear_make (guest_overlap r) _ (λ a m. x.apart a (sym (ap (λ (y : GhostZone). y.cpu_mem_set a) g) ∙ m))) k.1
    allowed_back (Insert Iommu r) id u x k =
        let (p, g) = state_some id t x.zone x.there in
        insert_quiet id Iommu r p x.valid x.allowed.0 k.0 refl
        (ap (λ (y : GhostZone). y.iommu_mem_set r) g ∙ x.absent)
        (iommu_clear id p r x.allowed.1)
        (clear_make (guest_overlap r) _
        (λ a m. x.apart a (sym (ap (λ (y : GhostZone). y.iommu_mem_set a) g) ∙ m))) k.1
    allowed_back (Remove Cpu r) id u x k =
        let (p, g) = state_some id t x.zone x.there in
        (refl, (low_id id p, (not_holds _ p, (not_holds _ (ap (λ (y : GhostZone). y.cpu_mem_set r) g ∙ x.held), tt))))
    allowed_back (Remove Iommu r) id u x k =
        let (p, g) = state_some id t x.zone x.there in (
          refl,
          (low_id id p, (not_holds _ p, (not_holds _ (ap (λ (y : GhostZone). y.iommu_mem_set r) g ∙ x.held), tt))),
        )
    allowed_back NoRequest id u x k = absurd x

  -- ---- a transition leads to one state
  module _ (c : Configuration) (id : ℕ) (pre v w : State) where
    one_zone_law : (f : GhostZone → GhostZone) (a b : GhostZone) → pre id ≡ some a → pre id ≡ some b
        → v ≡ map_insert pre id (f a) → w ≡ map_insert pre id (f b) → v ≡ w
    one_zone_law f a b p q x y =
        x ∙ ap (λ (z : GhostZone). map_insert pre id (f z)) (some-injective _ _ (sym p ∙ q)) ∙ sym y

    one_state : (k : Kind) → Transition lim c k id pre v → Transition lim c k id pre w → v ≡ w
    one_state AddZone x y = x.update ∙ sym y.update
    one_state RemoveZone x y = x.update ∙ sym y.update
    one_state (Insert Cpu r) x y =
        one_zone_law (λ z. record { cpu_mem_set = insert_region z.cpu_mem_set r; iommu_mem_set = z.iommu_mem_set })
        x.zone y.zone x.there y.there x.update y.update
    one_state (Insert Iommu r) x y =
        one_zone_law (λ z. record { cpu_mem_set = z.cpu_mem_set; iommu_mem_set = insert_region z.iommu_mem_set r })
        x.zone y.zone x.there y.there x.update y.update
    one_state (Remove Cpu r) x y =
        one_zone_law (λ z. record {
          cpu_mem_set = remove_region_exact z.cpu_mem_set r;
          iommu_mem_set = z.iommu_mem_set;
        })
        x.zone y.zone x.there y.there x.update y.update
    one_state (Remove Iommu r) x y =
        one_zone_law (λ z. record {
          cpu_mem_set = z.cpu_mem_set;
          iommu_mem_set = remove_region_exact z.iommu_mem_set r;
        })
        x.zone y.zone x.there y.there x.update y.update
    one_state NoRequest x y = absurd x

  next_after : (c : Configuration) (t : List Zone) (q : Request) → refusal lim c t q ≡ 0
      → after q.kind q.zone t ≡ next lim c t q
  unfolding next
  next_after c t q e = sym (ap (λ (b : Bool). cond b (after q.kind q.zone t) t) (eq-eqb (refusal lim c t q) 0 e))

  pub accepted_is_upstream : AcceptedIsUpstream lim
  unfolding refusal
  accepted_is_upstream s t q ok e =
      let (x, k) = accepted s t ok q.kind q.zone e in (
        subst (λ (u : List Zone). Transition lim (config_of s) q.kind q.zone (state_of t) (state_of u))
            (next_after (config_of s) t q e) x,
        k,
      )

  pub upstream_is_accepted : UpstreamIsAccepted lim
  unfolding refusal
  upstream_is_accepted s t q u ok x k =
      let e = quiet_zero s t ok q.kind q.zone (allowed_back s t ok q.kind q.zone u x k) in (
        e,
        one_state (config_of s) q.zone (state_of t) (state_of (next lim (config_of s) t q)) u q.kind
            (accepted_is_upstream s t q ok e).0 x,
      )

  -- ---- upstream's properties
  zone_configured : (s : StoredConfig) (t : List Zone) (ok : SoundUnder lim s t) (zid : ℕ) → present zid t ≡ true
      → (side : Side) (r : Region) → held_in r (region_set t (find zid t) side) ≡ true → configured (config_of s) r ≡ true
  unfolding sound_set
  zone_configured s t ok zid p side r h =
      let (i, l, q) = held_at (region_set t (find zid t) side) r h in
      ap (configured (config_of s)) q
      ∙ all_at (configured (config_of s)) (region_set t (find zid t) side) no_region
      (parts _ (set_ok s t ok zid p side)).1.0 i l

  pub zone_cpu_region_in_all_regions : ZoneCpuRegionInAllRegions lim
  unfolding region_set side_of
  zone_cpu_region_in_all_regions s t ok zid zone st r h =
      let (p, g) = state_some zid t zone st in
      zone_configured s t ok zid p Cpu r (ap (λ (y : GhostZone). y.cpu_mem_set r) g ∙ h)

  pub zone_iommu_region_in_all_regions : ZoneIommuRegionInAllRegions lim
  unfolding region_set side_of
  zone_iommu_region_in_all_regions s t ok zid zone st r h =
      let (p, g) = state_some zid t zone st in
      zone_configured s t ok zid p Iommu r (ap (λ (y : GhostZone). y.iommu_mem_set r) g ∙ h)

  pub cross_zone_disjoint_except_gic : CrossZoneDisjointExceptGic lim
  cross_zone_disjoint_except_gic s t ok zid1 zone1 zid2 zone2 st1 st2 ne r1 r2 h1 h2 =
      let (p1, g1) = state_some zid1 t zone1 st1 in
      let (p2, g2) = state_some zid2 t zone2 st2 in
      clash_told (config_of s) r1 r2
      (never_clash lim (config_of s) t ok.table (find zid1 t) (find zid2 t) (there s t ok zid1 p1)
      (there s t ok zid2 p2) (other_place s t ok zid2 zid1 p2 p1 ne) r1 r2 (stands zid1 zone1 p1 g1 r1 h1)
      (stands zid2 zone2 p2 g2 r2 h2))
    where
      stands : (zid : ℕ) (zone : GhostZone) → present zid t ≡ true → ghost_of (get_or t (find zid t) no_zone) ≡ zone
          → (r : Region) → contains_region zone r ≡ true → In r (regions_of (get_or t (find zid t) no_zone))
      stands zid zone p g r h =
          let z : Zone = get_or t (find zid t) no_zone in
          let (i, l, q) =
          held_at (regions_of z) r (any_append (region_eq r) z.cpu z.iommu
          ∙ ap (λ (y : GhostZone). contains_region y r) g
          ∙ h) in
          (i, l, sym q)

  -- ---- the state of a sound table has upstream's invariants
  module _ (s : StoredConfig) (t : List Zone) (ok : SoundUnder lim s t) where
    side_wf : (zid : ℕ) → present zid t ≡ true → (side : Side)
        → set_wf lim side (λ r. held_in r (side_of side (get_or t (find zid t) no_zone)))
    side_wf zid p side =
        let xs : List Region = side_of side (get_or t (find zid t) no_zone) in
        let known = inv_zones_wf lim s t ok (find zid t) side (there s t ok zid p) in (
          (λ r h. let (i, l, q) = held_at xs r h in known.0 r (i, l, sym q)),
          (λ a b ha hb ne.
              let (i, l, q) = held_at xs a ha in
              let (j, m, w) = held_at xs b hb in
              ap₂ guest_overlap q w ∙ known.1 i j l m (λ e. ne (q ∙ ap (λ (n : ℕ). get_or xs n no_region) e ∙ sym w))),
        )

    zone_wf : (zid : ℕ) → present zid t ≡ true → wf lim (ghost_of (get_or t (find zid t) no_zone))
    unfolding side_of
    zone_wf zid p = (side_wf zid p Cpu, side_wf zid p Iommu)

  pub sound_is_invariant : SoundIsInvariant lim
  sound_is_invariant s t ok = record {
    inv_zones_wf = λ zid zone st. let (p, g) = state_some zid t zone st in subst (wf lim) g (zone_wf s t ok zid p);
    inv_regions_in_all_regions =
        λ zid zone r st h. ⊎_elim (zone_cpu_region_in_all_regions s t ok zid zone st r)
        (zone_iommu_region_in_all_regions s t ok zid zone st r) (one_true _ _ h);
    inv_cpu_disjoint_from_gic = λ zid zone r st h.
        let (p, g) = state_some zid t zone st in
        let (i, l, q) = held_at (get_or t (find zid t) no_zone).cpu r (ap (λ (y : GhostZone). y.cpu_mem_set r) g ∙ h) in
        inv_cpu_disjoint_from_gic lim s t ok (find zid t) r (there s t ok zid p) (i, l, sym q);
    inv_cross_zone_non_gic_disjoint = λ zid1 zid2 zone1 zone2 r1 r2 st1 st2 ne h1 h2 n1 n2.
        ⊎_elim (λ e. absurd (n1 e)) (⊎_elim (λ e. absurd (n2 e)) (λ e. e))
        (cross_zone_disjoint_except_gic s t ok zid1 zone1 zid2 zone2 st1 st2 ne r1 r2 h1 h2);
  }

-- ---- of any state
pub regions_in_all : (l : Limits) → RegionsInAll l
regions_in_all l c zones inv zid zone e r h = inv.inv_regions_in_all_regions zid zone r e h

pub cross_any_state : (l : Limits) → CrossAnyState l
cross_any_state l c zones inv zid1 zid2 zone1 zone2 e f ne r1 r2 h k =
    by (region_eq r1 (gic_region c)) refl (region_eq r2 (gic_region c)) refl
  where
    by : (a : Bool) → region_eq r1 (gic_region c) ≡ a → (b : Bool) → region_eq r2 (gic_region c) ≡ b
        → (r1 ≡ gic_region c) ⊎ ((r2 ≡ gic_region c) ⊎ (phys_overlap r1 r2 ≡ false))
    by true p b q = inl (equal_same r1 (gic_region c) p)
    by false p true q = inr (inl (equal_same r2 (gic_region c) q))
    by false p false q =
        inr (inr (inv.inv_cross_zone_non_gic_disjoint zid1 zid2 zone1 zone2 r1 r2 e f ne h k
        (λ z. true≢false (sym (ap (λ (x : Region). region_eq x (gic_region c)) z ∙ equal_refl (gic_region c)) ∙ p))
        (λ z. true≢false (sym (ap (λ (x : Region). region_eq x (gic_region c)) z ∙ equal_refl (gic_region c)) ∙ q))))
