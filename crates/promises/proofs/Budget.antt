-- BudgetSpec: a transition of it is one of ClosureSpec with the owner in the place of the two guards, and the owner gives
-- the guards, since two configured regions that overlap are one and have one owner.
use Prim.Native.Nat.{ℕ, ◌≤◌, ◌<◌}
use native.Mathlib.Decide.{ℕ_discrete}
use mathlib.Core.Bool.{Bool, true, false, true≢false}
use mathlib.Core.List.{List}
use mathlib.Core.Logic.{◌⊎◌, inl, inr, ⊎_elim}
use mathlib.Core.Option.{some, some-injective}
use mathlib.Core.Path.{◌≡◌, refl, sym, ap, subst, ◌∙◌}
use borrow.Author.Tests.{leb-true, le-leb, eqb-true, eq-eqb}
use lib.Dec.{eqb}
use lib.ListN.{length, get_or}
use Rattle.lists.specs.Rules.{first_rule}
use Rattle.lists.proofs.Every.{all_at, any_at}
use Rattle.lists.proofs.Tests.{one_true, or_left, or_right, not_holds, false_of, parts, whole}
use Rattle.rules.specs.Budget.{zone_regions, Transition, Invariants}
use Rattle.rules.specs.Closure as closure
use Rattle.rules.specs.Closure.{contains_region, cpu_insert_region_allowed, iommu_insert_region_allowed}
use Rattle.rules.specs.Closure.{state_of, State, GhostZone}
use Rattle.rules.specs.Configuration.{gic_of, config_of}
use Rattle.rules.specs.Limits.{highest_id, page_of, Limits}
use Rattle.rules.specs.Owners.{owned_of, owned_sound, owner_of, may_hold, holds_own, stranger, eleven_over, owned_rules}
use Rattle.rules.specs.Owners.{owned_refusal, Owned, StoredOwned}
use Rattle.rules.specs.Regions.{well_formed, in_reach, region_eq, phys_overlap, no_region}
use Rattle.rules.specs.Requests.{find, refusal, next}
use Rattle.rules.specs.Tables.{no_zone, configured, sound_set, sound_zone, Zone}
use Rattle.rules.specs.declared.Kind.{Kind}
use Rattle.rules.specs.declared.Kind.TheVariants.{AddZone, RemoveZone, Insert, Remove, NoRequest}
use Rattle.rules.specs.declared.Region.{Region}
use Rattle.rules.specs.declared.Side.TheVariants.{Cpu, Iommu}
use Rattle.rules.proofs.Addresses.{overlap_symmetric}
use Rattle.rules.proofs.Budget.{budget_initialize, budget_add_zone, budget_remove_zone, budget_cpu_insert}
use Rattle.rules.proofs.Budget.{budget_iommu_insert, budget_cpu_remove, budget_iommu_remove}
use Rattle.rules.proofs.Closure.{state_some}
use Rattle.rules.proofs.Keeps.{found}
use Rattle.rules.proofs.OwnedCheck.{owned_passed, SoundOwned}
use Rattle.rules.proofs.OwnedNever.{not_gic, gic_configured}
use Rattle.rules.proofs.OwnedOver.{owned_over}
use Rattle.rules.proofs.Owners.{found_id, first_accepts, same_next, accepted_insert, owned_parts_law, OwnedTable}
use Rattle.rules.proofs.Regions.{equal_same, equal_refl}
use Rattle.rules.proofs.Tables.{configured_at, overlap_same}
use Rattle.promises.specs.Budget.{ConfiguredRegionsValid, ZoneRegionsInternalDisjoint}
use Rattle.promises.specs.Budget.{FormedByGuard, BudgetOnePage}
use Rattle.promises.specs.Budget.{ZoneRegionsPairwiseDisjoint, GicRegionDisjointFromZones, FormedFor}
use Rattle.promises.specs.Budget.{BudgetInitializeInductive, BudgetTransitionInductive, OwnedSoundIsInvariant}
use Rattle.promises.specs.Budget.{CrossZoneDisjoint, AcceptedIsBudget, BudgetIsAccepted}
use Rattle.promises.specs.OwnedConfiguration.{OwnedPassed}
use Rattle.promises.specs.Tables.{SoundUnder}
use Rattle.promises.proofs.Closure.{accepted_is_upstream, upstream_is_accepted, sound_is_invariant}
use Rattle.promises.proofs.Owned.{sound_there}
use Rattle.promises.proofs.OwnedConfiguration.{passes_there}

-- what is said of a region that a zone owns
pub record Owns (o : Owned) (zid : ℕ) (r : Region) : Type 0 where
  pub low : zid ≤ highest_id
  pub conf : configured o.config r ≡ true
  pub owner : owner_of o r ≡ zid

owns : (o : Owned) (zid : ℕ) (r : Region) → zone_regions o zid r ≡ true → Owns o zid r
unfolding zone_regions
owns o zid r e =
    let h = parts _ e in
    record { low = leb-true _ _ h.0; conf = h.1.0; owner = eqb-true _ _ h.1.1.0 }

own_make : (o : Owned) (zid : ℕ) (r : Region) → Owns o zid r → zone_regions o zid r ≡ true
unfolding zone_regions
own_make o zid r h = whole _ (le-leb _ _ h.low, (h.conf, (eq-eqb _ _ h.owner, tt)))

-- by what it may hold
module _ (o : Owned) (zid : ℕ) (r : Region) (low : zid ≤ highest_id) (conf : configured o.config r ≡ true) where
  may_cpu : may_hold o zid Cpu r ≡ true → zone_regions o zid r ≡ true
  unfolding may_hold
  may_cpu may = own_make o zid r (record { low = low; conf = conf; owner = eqb-true _ _ may })

  may_iommu : may_hold o zid Iommu r ≡ true → (zone_regions o zid r ≡ true) ⊎ (r ≡ gic_of o.config)
  unfolding may_hold
  may_iommu may =
      ⊎_elim (λ a. inl (own_make o zid r (record { low = low; conf = conf; owner = eqb-true _ _ a })))
      (λ b. inr (equal_same r (gic_of o.config) b)) (one_true _ _ may)

module _ (lim : Limits) where
  good : (s : StoredOwned) → OwnedPassed lim s → SoundOwned lim (owned_of s)
  good s (full, long, e) = owned_passed lim s full e

  -- ---- the axioms
  pub configured_regions_valid : ConfiguredRegionsValid lim
  configured_regions_valid s ok zid r h =
      let g = good s ok in
      let conf : configured (owned_of s).config r ≡ true =
      ⊎_elim (λ a. (owns (owned_of s) zid r a).conf)
      (λ q. ap (configured (owned_of s).config) q ∙ gic_configured lim (owned_of s) g) h in
      let (i, l, q) = configured_at lim (owned_of s).config g.config r conf in
      (ap (well_formed lim.page) q ∙ g.config.formed i l, ap (in_reach lim) q ∙ g.config.near i l)

  one_region : (s : StoredOwned) → OwnedPassed lim s → (y z : ℕ) (a b : Region) → Owns (owned_of s) y a
      → Owns (owned_of s) z b → phys_overlap a b ≡ true → a ≡ b
  one_region s ok y z a b ha hb p =
      overlap_same lim (owned_of s).config (good s ok).config a b ha.conf hb.conf p

  pub zone_regions_internal_disjoint : ZoneRegionsInternalDisjoint lim
  zone_regions_internal_disjoint s ok zid r1 r2 a b ne =
      false_of _ (λ p. ne (one_region s ok zid zid r1 r2 (owns (owned_of s) zid r1 a) (owns (owned_of s) zid r2 b) p))

  pub zone_regions_pairwise_disjoint : ZoneRegionsPairwiseDisjoint lim
  zone_regions_pairwise_disjoint s ok zid1 zid2 r1 r2 ne a b =
      let x = owns (owned_of s) zid1 r1 a in
      let y = owns (owned_of s) zid2 r2 b in
      false_of _ (λ p. ne (sym x.owner ∙ ap (owner_of (owned_of s)) (one_region s ok zid1 zid2 r1 r2 x y p) ∙ y.owner))

  pub gic_region_disjoint_from_zones : GicRegionDisjointFromZones lim
  gic_region_disjoint_from_zones s ok zid r a =
      let x = owns (owned_of s) zid r a in
      let g = good s ok in
      let gic : Region = gic_of (owned_of s).config in
      false_of _ (λ p. not_gic lim (owned_of s) g zid r x.low x.conf x.owner
      (sym (overlap_same lim (owned_of s).config g.config gic r (gic_configured lim (owned_of s) g) x.conf p)))

  -- the GIC and a region that a zone owns, the other way round
  off_gic_law : (s : StoredOwned) → OwnedPassed lim s → (zid : ℕ) (r g : Region) → zone_regions (owned_of s) zid r ≡ true
      → g ≡ gic_of (owned_of s).config → phys_overlap r g ≡ false
  off_gic_law s ok zid r g a q =
      ap (phys_overlap r) q ∙ overlap_symmetric _ _ _ _ ∙ gic_region_disjoint_from_zones s ok zid r a

  -- ---- the inductive steps
  pub budget_initialize_inductive : BudgetInitializeInductive lim
  budget_initialize_inductive o = budget_initialize lim o

  pub budget_transition_inductive : BudgetTransitionInductive lim
  unfolding page_of
  budget_transition_inductive s ok AddZone zid pre post inv f x = budget_add_zone lim (owned_of s) zid pre post inv x
  budget_transition_inductive s ok RemoveZone zid pre post inv f x =
      budget_remove_zone lim (owned_of s) zid pre post inv x
  budget_transition_inductive s ok (Insert Cpu r) zid pre post inv f x =
      budget_cpu_insert lim (owned_of s) zid pre post inv r (configured_regions_valid s ok zid r (inl x.allowed)) x
  budget_transition_inductive s ok (Insert Iommu r) zid pre post inv f x =
      budget_iommu_insert lim (owned_of s) zid pre post inv r (f, (configured_regions_valid s ok zid r x.allowed).1) x
  budget_transition_inductive s ok (Remove Cpu r) zid pre post inv f x =
      budget_cpu_remove lim (owned_of s) zid pre post inv r x
  budget_transition_inductive s ok (Remove Iommu r) zid pre post inv f x =
      budget_iommu_remove lim (owned_of s) zid pre post inv r x
  budget_transition_inductive s ok NoRequest zid pre post inv f x = absurd x

  -- what the invariants say of a region of a zone, on either side
  held_own : (o : Owned) (zones : State) → Invariants lim o zones → (zid : ℕ) (zone : GhostZone) → zones zid ≡ some zone
      → (r : Region) → contains_region zone r ≡ true → (zone_regions o zid r ≡ true) ⊎ (r ≡ gic_of o.config)
  held_own o zones inv zid zone st r h =
      ⊎_elim (λ c. inl (inv.inv_cpu_in_zone_regions zid zone r st c))
      (λ i. inv.inv_iommu_in_zone_regions zid zone r st i) (one_true _ _ h)

  pub cross_zone_disjoint : CrossZoneDisjoint lim
  cross_zone_disjoint s ok zones inv zid1 zid2 zone1 zone2 st1 st2 ne r1 r2 h1 h2 =
      ⊎_elim (λ a. ⊎_elim (λ b. inr (inr (zone_regions_pairwise_disjoint s ok zid1 zid2 r1 r2 ne a b))) (λ g. inr (inl g))
      (held_own (owned_of s) zones inv zid2 zone2 st2 r2 h2)) (λ g. inl g)
      (held_own (owned_of s) zones inv zid1 zone1 st1 r1 h1)

  -- ---- a table's state
  module _ (o : Owned) (t : List Zone) (tab : OwnedTable lim o t) (zid : ℕ) (zone : GhostZone)
      (st : state_of t zid ≡ some zone) where
    abbrev here : Zone
    here = get_or t (find zid t) no_zone

    there : find zid t < length t
    there = found zid t (state_some zid t zone st).0

    same_id_law : here.id ≡ zid
    same_id_law = found_id zid t (state_some zid t zone st).0

    low_id : here.id ≤ highest_id
    unfolding sound_zone
    low_id = leb-true _ _ (parts _ (all_at (sound_zone lim o.config) t no_zone tab.table.zones (find zid t) there)).0

    ghost_cpu : (r : Region) → zone.cpu_mem_set r ≡ true → zone_regions o zid r ≡ true
    unfolding sound_zone sound_set holds_own
    ghost_cpu r h =
        let p = parts _ (all_at (sound_zone lim o.config) t no_zone tab.table.zones (find zid t) there) in
        let w = parts _ (all_at (holds_own o) t no_zone tab.own (find zid t) there) in
        let (i, l, q) =
        any_at (region_eq r) here.cpu no_region
        (ap (λ (y : GhostZone). y.cpu_mem_set r) (state_some zid t zone st).1 ∙ h) in
        let e : r ≡ get_or here.cpu i no_region = equal_same r (get_or here.cpu i no_region) q in
        ap (λ (n : ℕ). zone_regions o n r) (sym same_id_law)
        ∙ may_cpu o here.id r low_id
        (ap (configured o.config) e ∙ all_at (configured o.config) here.cpu no_region (parts _ p.1.0).1.0 i l)
        (ap (may_hold o here.id Cpu) e ∙ all_at (may_hold o here.id Cpu) here.cpu no_region w.0 i l)

    ghost_iommu : (r : Region) → zone.iommu_mem_set r ≡ true
        → (zone_regions o zid r ≡ true) ⊎ (r ≡ gic_of o.config)
    unfolding sound_zone sound_set holds_own
    ghost_iommu r h =
        let p = parts _ (all_at (sound_zone lim o.config) t no_zone tab.table.zones (find zid t) there) in
        let w = parts _ (all_at (holds_own o) t no_zone tab.own (find zid t) there) in
        let (i, l, q) =
        any_at (region_eq r) here.iommu no_region
        (ap (λ (y : GhostZone). y.iommu_mem_set r) (state_some zid t zone st).1 ∙ h) in
        let e : r ≡ get_or here.iommu i no_region = equal_same r (get_or here.iommu i no_region) q in
        ⊎_elim (λ a. inl (ap (λ (n : ℕ). zone_regions o n r) (sym same_id_law) ∙ a)) (λ b. inr b)
        (may_iommu o here.id r low_id
        (ap (configured o.config) e
        ∙ all_at (configured o.config) here.iommu no_region (parts _ p.1.1.0).1.0 i l)
        (ap (may_hold o here.id Iommu) e ∙ all_at (may_hold o here.id Iommu) here.iommu no_region w.1.0 i l))

  -- sound under the first machine
  under : (s : StoredOwned) (t : List Zone) → OwnedPassed lim s → owned_sound lim (owned_of s) t ≡ true
      → SoundUnder lim s.config t
  unfolding owned_of
  under s t ok e = record { config = passes_there lim s ok; table = sound_there lim (owned_of s) t e }

  pub owned_sound_is_invariant : OwnedSoundIsInvariant lim
  owned_sound_is_invariant s t ok e =
      let tab = owned_parts_law lim (owned_of s) t e in record {
        inv_zones_wf = (sound_is_invariant lim s.config t (under s t ok e)).inv_zones_wf;
        inv_cpu_in_zone_regions = λ zid zone r st h. ghost_cpu (owned_of s) t tab zid zone st r h;
        inv_iommu_in_zone_regions = λ zid zone r st h. ghost_iommu (owned_of s) t tab zid zone st r h;
      }

  -- ---- transitions: the first machine's, with the owner in the place of its guards
  budget_kind : (o : Owned) (t : List Zone) (k : Kind) (id : ℕ) (post : State) → first_rule (owned_rules lim o k id t) 0 ≡ 0
      → closure.Transition lim o.config k id (state_of t) post → Transition o k id (state_of t) post
  budget_kind o t AddZone id post e x = x
  budget_kind o t RemoveZone id post e x = x
  budget_kind o t (Insert Cpu r) id post e x =
      let h = accepted_insert lim o t Cpu r id e in
      record {
        zone = x.zone;
        there = x.there;
        allowed = may_cpu o id r h.low h.conf h.may;
        absent = x.absent;
        apart = x.apart;
        update = x.update;
      }
  budget_kind o t (Insert Iommu r) id post e x =
      let h = accepted_insert lim o t Iommu r id e in
      record {
        zone = x.zone;
        there = x.there;
        allowed = may_iommu o id r h.low h.conf h.may;
        absent = x.absent;
        apart = x.apart;
        update = x.update;
      }
  budget_kind o t (Remove Cpu r) id post e x = x
  budget_kind o t (Remove Iommu r) id post e x = x
  budget_kind o t NoRequest id post e x = x

  formed_kind : (s : StoredOwned) (t : List Zone) (k : Kind) (id : ℕ) (post : State)
      → closure.Transition lim (owned_of s).config k id (state_of t) post → FormedFor lim k
  unfolding page_of
  formed_kind s t AddZone id post x = tt
  formed_kind s t RemoveZone id post x = tt
  formed_kind s t (Insert Cpu r) id post x = tt
  formed_kind s t (Insert Iommu r) id post x = x.valid.0
  formed_kind s t (Remove Cpu r) id post x = tt
  formed_kind s t (Remove Iommu r) id post x = tt
  formed_kind s t NoRequest id post x = tt

  pub accepted_is_budget : AcceptedIsBudget lim
  unfolding owned_of owned_refusal
  accepted_is_budget s t q ok e z =
      let o : Owned = owned_of s in
      let (x, c) = accepted_is_upstream lim s.config t q (under s t ok e) (first_accepts lim o t q z) in
      let post : State = state_of (next lim (config_of s.config) t q) in (
        subst (λ (u : List Zone). Transition o q.kind q.zone (state_of t) (state_of u))
            (sym (same_next lim o t q z)) (budget_kind o t q.kind q.zone post z x),
        c,
        formed_kind s t q.kind q.zone post x,
      )

  -- ---- and back: the owner gives the first machine's guards
  module _ (s : StoredOwned) (t : List Zone) (ok : OwnedPassed lim s) (e : owned_sound lim (owned_of s) t ≡ true) where
    abbrev o : Owned
    o = owned_of s

    inv : Invariants lim o (state_of t)
    inv = owned_sound_is_invariant s t ok e

    is_configured : (zid : ℕ) (r : Region) → (zone_regions o zid r ≡ true) ⊎ (r ≡ gic_of o.config)
        → configured o.config r ≡ true
    is_configured zid r a =
        ⊎_elim (λ b. (owns o zid r b).conf) (λ q. ap (configured o.config) q ∙ gic_configured lim o (good s ok)) a

    -- against the regions of the zone itself, and of another
    against_own : (zid : ℕ) (r x : Region) (zone other : GhostZone) → state_of t zid ≡ some zone
        → state_of t zid ≡ some other → zone.cpu_mem_set r ≡ false → zone_regions o zid r ≡ true
        → other.cpu_mem_set x ≡ true → phys_overlap r x ≡ false
    against_own zid r x zone other st sy absent own h =
        zone_regions_internal_disjoint s ok zid r x own (inv.inv_cpu_in_zone_regions zid other x sy h)
        (λ w. true≢false
        (sym h ∙ ap (λ (m : GhostZone). m.cpu_mem_set x) (some-injective _ _ (sym sy ∙ st))
        ∙ ap zone.cpu_mem_set (sym w) ∙ absent))

    guard_cpu : (zid : ℕ) (r : Region) (zone : GhostZone) → state_of t zid ≡ some zone → zone.cpu_mem_set r ≡ false
        → zone_regions o zid r ≡ true → cpu_insert_region_allowed o.config (state_of t) zid r
    guard_cpu zid r zone st absent own = (
      is_configured zid r (inl own),
      off_gic_law s ok zid r (gic_of o.config) own refl,
      (λ y other x sy. ⊎_elim
          (λ a. elim (ℕ_discrete y zid) [
            | yes q ↦ against_own zid r x zone other st (ap (state_of t) (sym q) ∙ sy) absent own a
            | no ne ↦
                zone_regions_pairwise_disjoint s ok zid y r x (λ q. ne (sym q)) own
                (inv.inv_cpu_in_zone_regions y other x sy a)
          ])
          (λ b. ⊎_elim (λ a. zone_regions_pairwise_disjoint s ok zid y r x (λ q. b.0 (sym q)) own a)
          (λ g. off_gic_law s ok zid r x own g) (inv.inv_iommu_in_zone_regions y other x sy b.1))),
    )

    guard_iommu : (zid : ℕ) (r : Region) → (zone_regions o zid r ≡ true) ⊎ (r ≡ gic_of o.config)
        → iommu_insert_region_allowed o.config (state_of t) zid r
    guard_iommu zid r may = (
      is_configured zid r may,
      (λ y other x sy ne h. ⊎_elim
          (λ own. ⊎_elim (λ a. inr (inr (zone_regions_pairwise_disjoint s ok zid y r x (λ q. ne (sym q)) own a)))
          (λ g. inr (inl g))
          (⊎_elim (λ a. inl (inv.inv_cpu_in_zone_regions y other x sy a))
          (λ b. inv.inv_iommu_in_zone_regions y other x sy b) h))
          (λ g. inl g) may),
    )

    may_back : (id : ℕ) (r : Region) → (zone_regions o id r ≡ true) ⊎ (r ≡ gic_of o.config)
        → may_hold o id Iommu r ≡ true
    unfolding may_hold
    may_back id r may =
        ⊎_elim (λ a. or_left (eqb (owner_of o r) id) (region_eq r (gic_of o.config)) (eq-eqb _ _ (owns o id r a).owner))
        (λ g. or_right (eqb (owner_of o r) id) (region_eq r (gic_of o.config))
        (ap (region_eq r) (sym g) ∙ equal_refl r)) may

    plain_kind : (k : Kind) (id : ℕ) (u : State) → Transition o k id (state_of t) u → FormedFor lim k
        → closure.Transition lim o.config k id (state_of t) u × (stranger o k id ≡ false)
    unfolding stranger may_hold page_of
    plain_kind AddZone id u x f = (x, refl)
    plain_kind RemoveZone id u x f = (x, refl)
    plain_kind (Insert Cpu r) id u x f = (
      record {
        zone = x.zone;
        there = x.there;
        valid = configured_regions_valid s ok id r (inl x.allowed);
        allowed = guard_cpu id r x.zone x.there x.absent x.allowed;
        absent = x.absent;
        apart = x.apart;
        update = x.update;
      },
      not_holds _ (eq-eqb _ _ (owns o id r x.allowed).owner),
    )
    plain_kind (Insert Iommu r) id u x f = (
      record {
        zone = x.zone;
        there = x.there;
        valid = (f, (configured_regions_valid s ok id r x.allowed).1);
        allowed = guard_iommu id r x.allowed;
        absent = x.absent;
        apart = x.apart;
        update = x.update;
      },
      not_holds (may_hold o id Iommu r) (may_back id r x.allowed),
    )
    plain_kind (Remove Cpu r) id u x f = (x, refl)
    plain_kind (Remove Iommu r) id u x f = (x, refl)
    plain_kind NoRequest id u x f = (x, refl)

  pub budget_is_accepted : BudgetIsAccepted lim
  unfolding owned_of eleven_over
  budget_is_accepted s t q u ok e x c f =
      let (y, near) = plain_kind s t ok e q.kind q.zone u x f in
      let (z, v) = upstream_is_accepted lim s.config t q u (under s t ok e) y c in
      let n : owned_refusal lim (owned_of s) t q ≡ 0 =
      owned_over lim (owned_of s) t q
      ∙ ap (λ (b : Bool). eleven_over b (refusal lim (owned_of s).config t q)) near ∙ z in
      (n, ap state_of (same_next lim (owned_of s) t q n) ∙ v)

  -- ---- where both pages are one
  pub formed_by_guard : FormedByGuard lim
  formed_by_guard same s ok AddZone zid pre post x = tt
  formed_by_guard same s ok RemoveZone zid pre post x = tt
  formed_by_guard same s ok (Insert Cpu r) zid pre post x = tt
  formed_by_guard same s ok (Insert Iommu r) zid pre post x =
      ap (λ (p : ℕ). well_formed p r) (sym same) ∙ (configured_regions_valid s ok zid r x.allowed).0
  formed_by_guard same s ok (Remove Cpu r) zid pre post x = tt
  formed_by_guard same s ok (Remove Iommu r) zid pre post x = tt
  formed_by_guard same s ok NoRequest zid pre post x = tt

  pub budget_one_page : BudgetOnePage lim
  budget_one_page = record {
    inductive =
        λ same s ok k zid pre post inv x. budget_transition_inductive s ok k zid pre post inv
        (formed_by_guard same s ok k zid pre post x) x;
    accepted =
        λ same s t q u ok tab x co. budget_is_accepted s t q u ok tab x co
        (formed_by_guard same s ok q.kind q.zone (state_of t) u x);
  }
