-- The list, stretch by stretch: in each, what is still to do is as it was, and all else is as it shall be. One walk
-- serves all four; that each request is accepted comes from upstream's guards.
use Prim.Native.Nat.{ℕ, suc, ◌+◌, ◌≤◌, ◌<◌}
use native.Mathlib.Decide.{ℕ_discrete}
use native.Mathlib.Omega.{arith}
use mathlib.Core.Bool.{Bool, true, false, cond, not, ◌&&◌, ◌||◌, true≢false}
use mathlib.Core.List.{List, [], ◌∷◌, ◌++◌, map}
use mathlib.Core.Logic.{◌⊎◌, inl, inr, ⊎_elim}
use mathlib.Core.Option.{Option, none, some, some-injective}
use mathlib.Core.Path.{◌≡◌, refl, sym, ap, ap₂, subst, ◌∙◌}
use borrow.Author.Tests.{ltb-false, leb-true, eqb-true, eqb-false, eq-eqb, not-true, not-false, le-ltb}
use lib.Dec.{ltb, eqb}
use lib.ListN.{length, get_or, length-map, length-append}
use Rattle.lists.specs.First.{any}
use Rattle.lists.specs.Orders.{keep}
use Rattle.lists.specs.Rules.{◌when◌, Rule}
use Rattle.lists.proofs.Distinct.{Distinct, in_head, in_tail, in_keep, keep_nothing, distinct_keep, no_longer, Decides}
use Rattle.lists.proofs.Every.{all_at, any_append}
use Rattle.lists.proofs.Lines.{first_of, first_map, all, ◌and◌, Matches}
use Rattle.lists.proofs.Rules.{Quiet, quiet, quiet_answer}
use Rattle.lists.proofs.Tests.{both_true, both_false, false_both, or_left, or_right, one_true, holds_or_fails, false_of}
use Rattle.lists.proofs.Tests.{not_holds, parts}
use Rattle.rules.specs.Applying.{plain}
use Rattle.rules.specs.Changes.{region_set}
use Rattle.rules.specs.Closure.{contains_region, insert_region, remove_region_exact, map_insert, map_remove, empty_set}
use Rattle.rules.specs.Closure.{ghost_of, state_of, State, GhostZone}
use Rattle.rules.specs.Configuration.{gic_of, config_of, check, is_sound, Configuration, StoredConfig}
use Rattle.rules.specs.Limits.{highest_id, Limits, page_of}
use Rattle.rules.specs.Regions.{well_formed, in_reach, region_eq, phys_overlap, guest_overlap, no_region}
use Rattle.rules.specs.Requests.{add_zone, drop_zone, find, present, held_in, refusal, next, standing_rules, standing}
use Rattle.rules.specs.Run.{run_from, run, ended, run_answer, Run}
use Rattle.rules.specs.Tables.{no_zone, side_of, configured, excessive, sound_set, table_of, check_table, Zone, StoredTable}
use Rattle.rules.specs.Wanted.{holding, holdings, holds, ids_of, lacks, absent, take_out, put_in, requests_for, work_rules}
use Rattle.rules.specs.Wanted.{no_list, worked, Holding, Worked}
use Rattle.rules.specs.declared.Kind.{Kind}
use Rattle.rules.specs.declared.Kind.TheVariants.{AddZone, RemoveZone, Insert, Remove, NoRequest}
use Rattle.rules.specs.declared.Region.{Region}
use Rattle.rules.specs.declared.Request.{Request}
use Rattle.rules.specs.declared.Side.{Side}
use Rattle.rules.specs.declared.Side.TheVariants.{Cpu, Iommu}
use Rattle.rules.proofs.Closure.{state_there, state_not}
use Rattle.rules.proofs.Configuration.{sound_answer}
use Rattle.rules.proofs.Tables.{overlaps_itself, overlap_same}
use Rattle.rules.proofs.Wanted.{same_id, same_id_law, same_region, same_side, same_holding, same_holding_law, in_ids, ids_distinct}
use Rattle.rules.proofs.Wanted.{absent_holds, held_present, in_holdings, set_distinct, holdings_distinct}
use Rattle.promises.specs.Configuration.{Passed}
use Rattle.promises.specs.Tables.{In, SoundUnder}
use Rattle.promises.specs.Wanted.{Alike, ListLeads, EmptyIsAlike, work_lines, WorkedIsExact, WorkedLeads}
use Rattle.promises.specs.Wanted.{NothingWorked, NoShorterList, Reached}
use Rattle.promises.proofs.Answers.{tells_lt, tells_either, tells_unsound, tells_bad}
use Rattle.promises.proofs.Closure.{held_at, config_ok, table_ok, there, low_id, set_ok, upstream_is_accepted, accepted_is_upstream}
use Rattle.promises.proofs.Closure.{cross_zone_disjoint_except_gic}
use Rattle.promises.proofs.Requests.{next_keeps_sound}
use Rattle.promises.proofs.Tables.{inv_zones_wf, inv_cpu_disjoint_from_gic, rights_modest}

-- ---- a state, as what it has and what it holds
opt_has : Option GhostZone → Bool
opt_has none = false
opt_has (some g) = true

set_in : Side → GhostZone → Region → Bool
set_in Cpu g r = g.cpu_mem_set r
set_in Iommu g r = g.iommu_mem_set r

opt_set : Side → Region → Option GhostZone → Bool
opt_set s r none = false
opt_set s r (some g) = set_in s g r

ghost_side : (s : Side) (z : Zone) (r : Region) → set_in s (ghost_of z) r ≡ held_in r (side_of s z)
unfolding set_in side_of
ghost_side Cpu z r = refl
ghost_side Iommu z r = refl

read_has : (t : List Zone) (x : ℕ) → opt_has (state_of t x) ≡ present x t
unfolding opt_has
read_has t x =
    ⊎_elim (λ p. ap opt_has (state_there x t p) ∙ sym p) (λ p. ap opt_has (state_not x t p) ∙ sym p)
    (holds_or_fails (present x t))

read_set : (t : List Zone) (k : Holding) → opt_set k.side k.region (state_of t k.zone) ≡ holds t k
unfolding opt_set holds region_set
read_set t k =
    ⊎_elim
    (λ p. ap (opt_set k.side k.region) (state_there k.zone t p)
    ∙ ghost_side k.side (get_or t (find k.zone t) no_zone) k.region)
    (λ p. ap (opt_set k.side k.region) (state_not k.zone t p) ∙ sym (absent_holds k t p))
    (holds_or_fails (present k.zone t))

in_cons : (a r : Region) (xs : List Region) → held_in a (r ∷ xs) ≡ true → (region_eq a r ≡ true) ⊎ (held_in a xs ≡ true)
unfolding any
in_cons a r xs e = one_true (region_eq a r) (held_in a xs) e

module _ (lim : Limits) (s : StoredConfig) where
  abbrev c : Configuration
  c = config_of s

  -- ---- requests that are accepted one after another
  abbrev pub Leads : List Zone → List Request → List Zone → Type 0
  Leads u [] v = u ≡ v
  Leads u (q ∷ qs) v = (refusal lim c u q ≡ 0) × Leads (next lim c u q) qs v

  leads_append : (qs ps : List Request) (u v w : List Zone) → Leads u qs v → Leads v ps w → Leads u (qs ++ ps) w
  leads_append [] ps u v w a b = subst (λ (x : List Zone). Leads x ps w) (sym a) b
  leads_append (q ∷ qs) ps u v w a b = (a.0, leads_append qs ps (next lim c u q) v w a.1 b)

  pub leads_run : (i : ℕ) (qs : List Request) (u v : List Zone) → Leads u qs v
      → run_from lim c i u qs ≡ record { place = i + length qs; inner = 0; table = v }
  unfolding run_from
  leads_run i [] u v a = let e : i ≡ i + 0 = omega arith in (λ j. record { place = e j; inner = 0; table = a j })
  leads_run i (q ∷ qs) u v a =
      let e : suc i + length qs ≡ i + suc (length qs) = omega arith in
      ap (λ (b : Bool). cond b (run_from lim c (suc i) (next lim c u q) qs)
      (record { place = i; inner = refusal lim c u q; table = u }))
      (eq-eqb (refusal lim c u q) 0 a.0)
      ∙ leads_run (suc i) qs (next lim c u q) v a.1
      ∙ ap (λ (n : ℕ). record { place = n; inner = 0; table = v }) e

  -- ---- a stretch of the list: what is still to do has the value b, and all else its goal
  module _ {A : Type 0} {same : A → A → Bool} (eq : Decides same) (val : List Zone → A → Bool)
      (Frame : List Zone → Type 0) (f : A → Request) (b : Bool) (goal : A → Bool) where
    record Pending (xs : List A) (u : List Zone) : Type 0 where
      pub frame : Frame u
      pub distinct : Distinct same xs
      pub todo : (a : A) → any (same a) xs ≡ true → (val u a ≡ b) × (goal a ≡ not b)
      pub done : (a : A) → any (same a) xs ≡ false → val u a ≡ goal a

    -- what a request of the stretch does
    abbrev Turn : A → List Zone → Type 0
    Turn x u =
        (refusal lim c u (f x) ≡ 0) × Frame (next lim c u (f x))
        × ((a : A) → val (next lim c u (f x)) a ≡ cond (same a x) (not b) (val u a))

    advance : (x : A) (xs : List A) (u : List Zone) → Pending (x ∷ xs) u → Turn x u → Pending xs (next lim c u (f x))
    unfolding any
    advance x xs u p (e, fr, ch) = record { frame = fr; distinct = p.distinct.1; todo = later; done = rest }
      where
        later : (a : A) → any (same a) xs ≡ true → (val (next lim c u (f x)) a ≡ b) × (goal a ≡ not b)
        later a h =
            let ne : same a x ≡ false =
            false_of _ (λ q. true≢false
            (sym h ∙ ap (λ (z : A). any (same z) xs) (eq.equal a x q) ∙ p.distinct.0)) in
            let t = p.todo a (in_tail eq a x xs h) in
            (ch a ∙ ap (λ (d : Bool). cond d (not b) (val u a)) ne ∙ t.0, t.1)

        rest : (a : A) → any (same a) xs ≡ false → val (next lim c u (f x)) a ≡ goal a
        rest a h =
            ⊎_elim
            (λ q. ch a
            ∙ ap (λ (d : Bool). cond d (not b) (val u a)) q
            ∙ sym (p.todo a (or_left (same a x) (any (same a) xs) q)).1)
            (λ q. ch a
            ∙ ap (λ (d : Bool). cond d (not b) (val u a)) q
            ∙ p.done a (false_both (same a x) (any (same a) xs) q h))
            (holds_or_fails (same a x))

    abbrev Through : List A → List Zone → Type 0
    Through xs u = (v : List Zone) × Leads u (map f xs) v × Frame v × ((a : A) → val v a ≡ goal a)

    walk : ((x : A) (xs : List A) (u : List Zone) → Pending (x ∷ xs) u → Turn x u) → (xs : List A) (u : List Zone)
        → Pending xs u → Through xs u
    unfolding any
    walk turn [] u p = (u, refl, p.frame, λ a. p.done a refl)
    walk turn (x ∷ xs) u p =
        onward (turn x xs u p) (λ g. walk turn xs (next lim c u (f x)) (advance x xs u p g))
      where
        onward : (g : Turn x u) → (Turn x u → Through xs (next lim c u (f x))) → Through (x ∷ xs) u
        onward g k = let (v, l, fr, d) = k g in (v, (g.0, l), fr, d)

  -- ---- one request at a sound table, in terms of what it has and holds
  module _ (u : List Zone) (ok : SoundUnder lim s u) where
    pub kept : (q : Request) → SoundUnder lim s (next lim c u q)
    kept q = record { config = ok.config; table = next_keeps_sound lim c u q ok.table }

    -- the next state has and holds what is read from it
    has_next : (q : Request) (st : State) → state_of (next lim c u q) ≡ st → (x : ℕ)
        → present x (next lim c u q) ≡ opt_has (st x)
    has_next q st e x = sym (read_has (next lim c u q) x) ∙ ap (λ (w : State). opt_has (w x)) e

    holds_next : (q : Request) (st : State) → state_of (next lim c u q) ≡ st → (k : Holding)
        → holds (next lim c u q) k ≡ opt_set k.side k.region (st k.zone)
    holds_next q st e k =
        sym (read_set (next lim c u q) k) ∙ ap (λ (w : State). opt_set k.side k.region (w k.zone)) e

    -- ---- a change to one set of a zone that is there
    module _ (h : Holding) (p : present h.zone u ≡ true) (g : GhostZone) where
      here : Zone
      here = get_or u (find h.zone u) no_zone

      same_has : (x : ℕ) → opt_has (map_insert (state_of u) h.zone g x) ≡ present x u
      unfolding opt_has
      same_has x =
          ⊎_elim
          (λ q. ap (λ (d : Bool). opt_has (cond d (some g) (state_of u x))) q
          ∙ sym (ap (λ (n : ℕ). present n u) (sym (eqb-true h.zone x q)) ∙ p))
          (λ q. ap (λ (d : Bool). opt_has (cond d (some g) (state_of u x))) q ∙ read_has u x)
          (holds_or_fails (eqb h.zone x))

      one_set : (v : Bool)
          → ((side : Side) (r : Region)
          → set_in side g r
          ≡ cond (same_side side h.side && region_eq r h.region) v (held_in r (side_of side here)))
          → (k : Holding)
          → opt_set k.side k.region (map_insert (state_of u) h.zone g k.zone)
          ≡ cond (same_holding k h) v (holds u k)
      unfolding opt_set same_holding holds region_set here
      one_set v f k = by (eqb h.zone k.zone) refl
        where
          by : (d : Bool) → eqb h.zone k.zone ≡ d
              → opt_set k.side k.region (cond d (some g) (state_of u k.zone))
              ≡ cond (d && (same_side k.side h.side && region_eq k.region h.region)) v
              (held_in k.region (region_set u (find k.zone u) k.side))
          by true e =
              f k.side k.region
              ∙ ap (λ (n : ℕ). cond (same_side k.side h.side && region_eq k.region h.region) v
              (held_in k.region (side_of k.side (get_or u (find n u) no_zone))))
              (eqb-true _ _ e)
          by false e = read_set u k

    less : (a b : Bool) → (a && not b) ≡ cond b false a
    less true true = refl
    less true false = refl
    less false true = refl
    less false false = refl

    more : (a b : Bool) → (a || b) ≡ cond b true a
    more true true = refl
    more true false = refl
    more false true = refl
    more false false = refl

    -- what a request does to one holding, which has the value b afterwards
    abbrev Sets : (Holding → Request) → Holding → Bool → Type 0
    Sets f h b =
        (refusal lim c u (f h) ≡ 0) × ((x : ℕ) → present x (next lim c u (f h)) ≡ present x u)
        × ((k : Holding) → holds (next lim c u (f h)) k ≡ cond (same_holding k h) b (holds u k))

    -- a region is taken out
    taken : (id : ℕ) (side : Side) (r : Region) → holds u (holding id side r) ≡ true
        → Sets take_out (holding id side r) false
    unfolding set_in side_of same_side here holds region_set
    taken id Cpu r e =
        let h : Holding = holding id Cpu r in
        let p : present id u ≡ true = held_present h u e in
        let z : Zone = get_or u (find id u) no_zone in
        let g : GhostZone = record {
          cpu_mem_set = remove_region_exact (λ x. held_in x z.cpu) r;
          iommu_mem_set = λ x. held_in x z.iommu;
        } in
        let a = upstream_is_accepted lim s u (take_out h) (map_insert (state_of u) id g) ok
        (record { zone = ghost_of z; there = state_there id u p; held = e; update = refl }) tt in (
          a.0,
          λ x. has_next (take_out h) _ a.1 x ∙ same_has h p g x,
          λ k. holds_next (take_out h) _ a.1 k
              ∙ one_set h p g false
              (elim [ Cpu ↦ λ x. less (held_in x z.cpu) (region_eq x r) | Iommu ↦ λ x. refl ]) k,
        )
    taken id Iommu r e =
        let h : Holding = holding id Iommu r in
        let p : present id u ≡ true = held_present h u e in
        let z : Zone = get_or u (find id u) no_zone in
        let g : GhostZone = record {
          cpu_mem_set = λ x. held_in x z.cpu;
          iommu_mem_set = remove_region_exact (λ x. held_in x z.iommu) r;
        } in
        let a = upstream_is_accepted lim s u (take_out h) (map_insert (state_of u) id g) ok
        (record { zone = ghost_of z; there = state_there id u p; held = e; update = refl }) tt in (
          a.0,
          λ x. has_next (take_out h) _ a.1 x ∙ same_has h p g x,
          λ k. holds_next (take_out h) _ a.1 k
              ∙ one_set h p g false
              (elim [ Cpu ↦ λ x. refl | Iommu ↦ λ x. less (held_in x z.iommu) (region_eq x r) ]) k,
        )

    -- what a request does to one id
    abbrev Zoned : (ℕ → Request) → ℕ → Bool → Type 0
    Zoned f id b =
        (refusal lim c u (f id) ≡ 0)
        × ((x : ℕ) → present x (next lim c u (f id)) ≡ cond (same_id x id) b (present x u))
        × ((k : Holding) → holds (next lim c u (f id)) k ≡ holds u k)

    -- a zone that holds nothing is removed
    bare : (xs : List Region) → ((r : Region) → held_in r xs ≡ false) → xs ≡ []
    bare [] f = refl
    bare (x ∷ xs) f = absurd (true≢false (sym (in_head same_region x xs) ∙ f x))

    gone : (id : ℕ) → present id u ≡ true → ((side : Side) (r : Region) → holds u (holding id side r) ≡ false)
        → Zoned drop_zone id false
    unfolding opt_has opt_set holds
    gone id p f =
        let a = upstream_is_accepted lim s u (drop_zone id) (map_remove (state_of u) id) ok
        (record { zone = ghost_of (get_or u (find id u) no_zone); there = state_there id u p; update = refl })
        (bare (region_set u (find id u) Cpu) (f Cpu), bare (region_set u (find id u) Iommu) (f Iommu)) in (
          a.0,
          λ x. has_next (drop_zone id) _ a.1 x ∙ has x (eqb id x),
          λ k. holds_next (drop_zone id) _ a.1 k ∙ held k (eqb id k.zone) refl,
        )
      where
        has : (x : ℕ) (d : Bool) → opt_has (cond d none (state_of u x)) ≡ cond d false (present x u)
        has x true = refl
        has x false = read_has u x

        held : (k : Holding) (d : Bool) → eqb id k.zone ≡ d
            → opt_set k.side k.region (cond d none (state_of u k.zone)) ≡ holds u k
        held k true e =
            sym (ap (λ (n : ℕ). holds u (holding n k.side k.region)) (sym (eqb-true _ _ e))
            ∙ f k.side k.region)
        held k false e = read_set u k

    -- a zone is added
    come : (id : ℕ) → present id u ≡ false → id ≤ highest_id → length u < lim.zones → Zoned add_zone id true
    unfolding opt_has opt_set set_in
    come id p low few =
        let a = upstream_is_accepted lim s u (add_zone id)
        (map_insert (state_of u) id (record { cpu_mem_set = empty_set; iommu_mem_set = empty_set })) ok
        (record { absent = state_not id u p; update = refl }) (low, few) in (
          a.0,
          λ x. has_next (add_zone id) _ a.1 x ∙ has x (eqb id x),
          λ k. holds_next (add_zone id) _ a.1 k ∙ held k (eqb id k.zone) refl,
        )
      where
        has : (x : ℕ) (d : Bool)
            → opt_has (cond d (some (record { cpu_mem_set = empty_set; iommu_mem_set = empty_set })) (state_of u x))
            ≡ cond d true (present x u)
        has x true = refl
        has x false = read_has u x

        nothing : (y : Side) (r : Region)
            → set_in y (record { cpu_mem_set = empty_set; iommu_mem_set = empty_set }) r ≡ false
        nothing Cpu r = refl
        nothing Iommu r = refl

        held : (k : Holding) (d : Bool) → eqb id k.zone ≡ d
            → opt_set k.side k.region
            (cond d (some (record { cpu_mem_set = empty_set; iommu_mem_set = empty_set })) (state_of u k.zone))
            ≡ holds u k
        held k true e =
            nothing k.side k.region
            ∙ sym (absent_holds k u (ap (λ (n : ℕ). present n u) (sym (eqb-true id k.zone e)) ∙ p))
        held k false e = read_set u k

  -- ---- what a sound table says of a region that it holds
  module _ (w : List Zone) (ok : SoundUnder lim s w) where
    module _ (k : Holding) (e : holds w k ≡ true) where
      has_zone : present k.zone w ≡ true
      has_zone = held_present k w e

      in_set_law : In k.region (side_of k.side (get_or w (find k.zone w) no_zone))
      unfolding holds region_set
      in_set_law =
          let (i, h, q) = held_at (side_of k.side (get_or w (find k.zone w) no_zone)) k.region e in
          (i, h, sym q)

      formed : (well_formed (page_of lim k.side) k.region ≡ true) × (in_reach lim k.region ≡ true)
      formed =
          (inv_zones_wf lim s w ok (find k.zone w) k.side (there lim s w ok k.zone has_zone)).0 k.region
          in_set_law

      mild : excessive k.side k.region ≡ false
      mild =
          rights_modest lim c w ok.table (find k.zone w) k.side k.region
          (there lim s w ok k.zone has_zone) in_set_law

      set_here : sound_set lim c (region_set w (find k.zone w) k.side) ≡ true
      set_here = set_ok lim s w ok k.zone has_zone k.side

      conf : configured c k.region ≡ true
      unfolding sound_set holds
      conf =
          let (i, h, q) = held_at (region_set w (find k.zone w) k.side) k.region e in
          ap (configured c) q
          ∙ all_at (configured c) (region_set w (find k.zone w) k.side) no_region (parts _ set_here).1.0 i h

      state_here : state_of w k.zone ≡ some (ghost_of (get_or w (find k.zone w) no_zone))
      state_here = state_there k.zone w has_zone

      either : (side : Side) → held_in k.region (side_of side (get_or w (find k.zone w) no_zone)) ≡ true
          → contains_region (ghost_of (get_or w (find k.zone w) no_zone)) k.region ≡ true
      unfolding side_of
      either Cpu h =
          or_left (held_in k.region (get_or w (find k.zone w) no_zone).cpu)
          (held_in k.region (get_or w (find k.zone w) no_zone).iommu) h
      either Iommu h =
          or_right (held_in k.region (get_or w (find k.zone w) no_zone).cpu)
          (held_in k.region (get_or w (find k.zone w) no_zone).iommu) h

      contained : contains_region (ghost_of (get_or w (find k.zone w) no_zone)) k.region ≡ true
      unfolding holds region_set
      contained = either k.side e

    off_gic_law : (id : ℕ) (r : Region) → holds w (holding id Cpu r) ≡ true → phys_overlap r (gic_of c) ≡ false
    unfolding side_of
    off_gic_law id r e =
        inv_cpu_disjoint_from_gic lim s w ok (find id w) r (there lim s w ok id (has_zone (holding id Cpu r) e))
        (in_set_law (holding id Cpu r) e)

    -- two regions of one set
    guest_apart_law : (id : ℕ) (side : Side) (a b : Region) → holds w (holding id side a) ≡ true
        → holds w (holding id side b) ≡ true → (a ≡ b → ⊥) → guest_overlap a b ≡ false
    guest_apart_law id side a b e f ne =
        let (i, h, p) = in_set_law (holding id side a) e in
        let (j, l, q) = in_set_law (holding id side b) f in
        ap₂ guest_overlap (sym p) (sym q)
        ∙ (inv_zones_wf lim s w ok (find id w) side (there lim s w ok id (has_zone (holding id side a) e))).1 i j h l
        (λ x. ne (sym p ∙ ap (λ (m : ℕ). get_or (side_of side (get_or w (find id w) no_zone)) m no_region) x ∙ q))

    -- two regions of two zones
    cross : (k j : Holding) → holds w k ≡ true → holds w j ≡ true → (k.zone ≡ j.zone → ⊥)
        → (k.region ≡ gic_of c) ⊎ ((j.region ≡ gic_of c) ⊎ (phys_overlap k.region j.region ≡ false))
    cross k j e f ne =
        cross_zone_disjoint_except_gic lim s w ok k.zone _ j.zone _ (state_here k e) (state_here j f) ne
        k.region j.region (contained k e) (contained j f)

  -- ---- an insert of what a wanted table holds, at a table that holds nothing else than that one
  module _ (u : List Zone) (ok : SoundUnder lim s u) (w : List Zone) (good : SoundUnder lim s w)
      (within : (k : Holding) → holds u k ≡ true → holds w k ≡ true) where
    from_state : (o : ℕ) (side : Side) (zone : GhostZone) (x : Region) → state_of u o ≡ some zone
        → set_in side zone x ≡ true → holds u (holding o side x) ≡ true
    unfolding opt_set
    from_state o side zone x st h = sym (read_set u (holding o side x)) ∙ ap (opt_set side x) st ∙ h

    module _ (id : ℕ) (r : Region) (p : present id u ≡ true) where
      room_left : (side : Side) → holds u (holding id side r) ≡ false → holds w (holding id side r) ≡ true
          → length (region_set u (find id u) side) < lim.in_set
      unfolding sound_set holds
      room_left side new e =
          let k : Holding = holding id side r in
          let few : length (region_set w (find id w) side) ≤ lim.in_set =
          leb-true _ _ (parts _ (set_here w good k e)).0 in
          let fits : suc (length (region_set u (find id u) side)) ≤ length (region_set w (find id w) side) =
          no_longer same_region no_region (r ∷ region_set u (find id u) side) (region_set w (find id w) side)
          (new, set_distinct lim c (config_ok lim s u ok) (region_set u (find id u) side) (set_ok lim s u ok id p side))
          (λ a h. ⊎_elim
          (λ q. ap (λ (x : Region). held_in x (region_set w (find id w) side)) (same_region.equal a r q) ∙ e)
          (λ q. within (holding id side a) q) (in_cons a r (region_set u (find id u) side) h)) in
          omega arith

      differs : (side : Side) (x : Region) → holds u (holding id side r) ≡ false → holds u (holding id side x) ≡ true
          → r ≡ x → ⊥
      differs side x new h q =
          true≢false (sym h ∙ ap (λ (y : Region). holds u (holding id side y)) (sym q) ∙ new)

      cpu_clear : holds u (holding id Cpu r) ≡ false → holds w (holding id Cpu r) ≡ true
          → (o : ℕ) (side : Side) (x : Region) → holds u (holding o side x) ≡ true
          → ((o ≡ id) × (side ≡ Cpu)) ⊎ (o ≡ id → ⊥) → phys_overlap r x ≡ false
      cpu_clear new e o side x h (inl (i, d)) =
          let f : holds u (holding id Cpu x) ≡ true =
          ap₂ (λ (m : ℕ) (y : Side). holds u (holding m y x)) (sym i) (sym d) ∙ h in
          false_of _ (λ q. differs Cpu x new f
          (overlap_same lim c (config_ok lim s u ok) r x (conf w good (holding id Cpu r) e)
          (conf u ok (holding id Cpu x) f) q))
      cpu_clear new e o side x h (inr ne) =
          let g : phys_overlap r (gic_of c) ≡ false = off_gic_law w good id r e in
          ⊎_elim
          (λ q. absurd (true≢false
          (sym (overlaps_itself lim c (config_ok lim s u ok) r (conf w good (holding id Cpu r) e))
          ∙ ap (phys_overlap r) q ∙ g)))
          (λ q. ⊎_elim (λ y. ap (phys_overlap r) y ∙ g) (λ y. y) q)
          (cross w good (holding id Cpu r) (holding o side x) e (within (holding o side x) h) (λ q. ne (sym q)))

      put : (side : Side) → holds u (holding id side r) ≡ false → holds w (holding id side r) ≡ true
          → Sets u ok put_in (holding id side r) true
      unfolding set_in side_of same_side here holds region_set
      put Cpu new e =
          let h : Holding = holding id Cpu r in
          let z : Zone = get_or u (find id u) no_zone in
          let g : GhostZone = record {
            cpu_mem_set = insert_region (λ x. held_in x z.cpu) r;
            iommu_mem_set = λ x. held_in x z.iommu;
          } in
          let a = upstream_is_accepted lim s u (put_in h) (map_insert (state_of u) id g) ok
          (record {
            zone = ghost_of z;
            there = state_there id u p;
            valid = formed w good h e;
            allowed = (conf w good h e, off_gic_law w good id r e, cpu_rule);
            absent = new;
            apart = λ x m. guest_apart_law w good id Cpu r x e (within (holding id Cpu x) m) (differs Cpu x new m);
            update = refl;
          }) (mild w good h e, room_left Cpu new e) in (
            a.0,
            λ x. has_next u ok (put_in h) _ a.1 x ∙ same_has u ok h p g x,
            λ k. holds_next u ok (put_in h) _ a.1 k
                ∙ one_set u ok h p g true
                (elim [ Cpu ↦ λ x. more u ok (held_in x z.cpu) (region_eq x r) | Iommu ↦ λ x. refl ]) k,
          )
        where
          cpu_rule : (o : ℕ) (zone : GhostZone) (x : Region) → state_of u o ≡ some zone
              → (zone.cpu_mem_set x ≡ true) ⊎ ((o ≡ id → ⊥) × (zone.iommu_mem_set x ≡ true))
              → phys_overlap r x ≡ false
          cpu_rule o zone x st (inl m) =
              elim (ℕ_discrete o id) [
                | yes q ↦ cpu_clear new e o Cpu x (from_state o Cpu zone x st m) (inl (q, refl))
                | no ne ↦ cpu_clear new e o Cpu x (from_state o Cpu zone x st m) (inr ne)
              ]
          cpu_rule o zone x st (inr (ne, m)) = cpu_clear new e o Iommu x (from_state o Iommu zone x st m) (inr ne)
      put Iommu new e =
          let h : Holding = holding id Iommu r in
          let z : Zone = get_or u (find id u) no_zone in
          let g : GhostZone = record {
            cpu_mem_set = λ x. held_in x z.cpu;
            iommu_mem_set = insert_region (λ x. held_in x z.iommu) r;
          } in
          let a = upstream_is_accepted lim s u (put_in h) (map_insert (state_of u) id g) ok
          (record {
            zone = ghost_of z;
            there = state_there id u p;
            valid = formed w good h e;
            allowed = (conf w good h e, iommu_rule);
            absent = new;
            apart = λ x m. guest_apart_law w good id Iommu r x e (within (holding id Iommu x) m) (differs Iommu x new m);
            update = refl;
          }) (mild w good h e, room_left Iommu new e) in (
            a.0,
            λ x. has_next u ok (put_in h) _ a.1 x ∙ same_has u ok h p g x,
            λ k. holds_next u ok (put_in h) _ a.1 k
                ∙ one_set u ok h p g true
                (elim [ Cpu ↦ λ x. refl | Iommu ↦ λ x. more u ok (held_in x z.iommu) (region_eq x r) ]) k,
          )
        where
          held_apart_law : (o : ℕ) (side : Side) (x : Region) → holds u (holding o side x) ≡ true → (o ≡ id → ⊥)
              → (r ≡ gic_of c) ⊎ ((x ≡ gic_of c) ⊎ (phys_overlap r x ≡ false))
          held_apart_law o side x m ne =
              cross w good (holding id Iommu r) (holding o side x) e (within (holding o side x) m) (λ q. ne (sym q))

          iommu_rule : (o : ℕ) (zone : GhostZone) (x : Region) → state_of u o ≡ some zone → (o ≡ id → ⊥)
              → (zone.cpu_mem_set x ≡ true) ⊎ (zone.iommu_mem_set x ≡ true)
              → (r ≡ gic_of c) ⊎ ((x ≡ gic_of c) ⊎ (phys_overlap r x ≡ false))
          iommu_rule o zone x st ne (inl m) = held_apart_law o Cpu x (from_state o Cpu zone x st m) ne
          iommu_rule o zone x st ne (inr m) = held_apart_law o Iommu x (from_state o Iommu zone x st m) ne

-- ---- membership in the two tables, and in the stretches
-- what is to go: it is in the first, x, and not in the second, y
go_todo : (x y : Bool) → (x && not y) ≡ true → (x ≡ true) × ((x && y) ≡ false)
go_todo true true e = absurd (true≢false (sym e))
go_todo true false e = (refl, refl)
go_todo false y e = absurd (true≢false (sym e))

go_done : (x y : Bool) → (x && not y) ≡ false → x ≡ (x && y)
go_done true true e = refl
go_done true false e = absurd (true≢false e)
go_done false y e = refl

-- what is to come: it is in the second and not in the first
come_todo : (x y : Bool) → (y && not x) ≡ true → ((x && y) ≡ false) × (y ≡ true)
come_todo true true e = absurd (true≢false (sym e))
come_todo true false e = absurd (true≢false (sym e))
come_todo false true e = (refl, refl)
come_todo false false e = absurd (true≢false (sym e))

come_done : (x y : Bool) → (y && not x) ≡ false → (x && y) ≡ y
come_done true y e = refl
come_done false true e = absurd (true≢false e)
come_done false false e = refl

neither : (x y : Bool) → x ≡ false → (x && y) ≡ false
neither true y e = absurd (true≢false e)
neither false y e = refl

nor : (x y : Bool) → y ≡ false → (x && y) ≡ false
nor true y e = e
nor false y e = refl

one_false : (x y : Bool) → (x && y) ≡ false → (x ≡ false) ⊎ (y ≡ false)
one_false true y e = inr e
one_false false y e = inl refl

in_ids_cons : (a n : ℕ) (xs : List ℕ) → any (same_id a) (n ∷ xs) ≡ true
    → (same_id a n ≡ true) ⊎ (any (same_id a) xs ≡ true)
unfolding any
in_ids_cons a n xs e = one_true (same_id a n) (any (same_id a) xs) e

module _ (lim : Limits) (s : StoredConfig) (t w : List Zone) (ok : SoundUnder lim s t) (good : SoundUnder lim s w) where
  -- ---- which elements the four stretches have
  pub in_go : (k : Holding) → any (same_holding k) (keep (lacks w) (holdings t)) ≡ (holds t k && not (holds w k))
  in_go k =
      in_keep same_holding_law (lacks w) k (holdings t)
      ∙ ap (λ (b : Bool). b && not (holds w k)) (in_holdings t (table_ok lim s t ok).ids k)

  pub in_drop : (x : ℕ) → any (same_id x) (keep (absent w) (ids_of t)) ≡ (present x t && not (present x w))
  in_drop x =
      in_keep same_id_law (absent w) x (ids_of t) ∙ ap (λ (b : Bool). b && not (present x w)) (in_ids x t)

  in_add : (x : ℕ) → any (same_id x) (keep (absent t) (ids_of w)) ≡ (present x w && not (present x t))
  in_add x =
      in_keep same_id_law (absent t) x (ids_of w) ∙ ap (λ (b : Bool). b && not (present x t)) (in_ids x w)

  in_put : (k : Holding) → any (same_holding k) (keep (lacks t) (holdings w)) ≡ (holds w k && not (holds t k))
  in_put k =
      in_keep same_holding_law (lacks t) k (holdings w)
      ∙ ap (λ (b : Bool). b && not (holds t k)) (in_holdings w (table_ok lim s w good).ids k)

  abbrev Zones : (ℕ → Bool) → List Zone → Type 0
  Zones f v = SoundUnder lim s v × ((x : ℕ) → present x v ≡ f x)

  abbrev Holds : (Holding → Bool) → List Zone → Type 0
  Holds f v = SoundUnder lim s v × ((k : Holding) → holds v k ≡ f k)

  abbrev both_hold : Holding → Bool
  both_hold k = holds t k && holds w k

  abbrev both_have : ℕ → Bool
  both_have x = present x t && present x w

  abbrev has_it : List Zone → ℕ → Bool
  has_it v x = present x v

  -- ---- first: after the removals of regions the table holds exactly what both hold
  first : Through lim s same_holding_law holds (Zones (has_it t)) take_out true both_hold (keep (lacks w) (holdings t)) t
  first =
      walk lim s same_holding_law holds (Zones (has_it t)) take_out true both_hold
      (λ x xs u p. let f = p.frame in
      let (a, b, d) = taken lim s u f.0 x.zone x.side x.region (p.todo x (in_head same_holding_law x xs)).0 in
      (a, (kept lim s u f.0 (take_out x), λ y. b y ∙ f.1 y), d))
      (keep (lacks w) (holdings t)) t
      (record {
        frame = (ok, λ x. refl);
        distinct =
            distinct_keep same_holding_law (lacks w) (holdings t)
            (holdings_distinct lim (config_of s) (config_ok lim s t ok) t (table_ok lim s t ok).zones
            (table_ok lim s t ok).ids);
        todo = λ k h. go_todo (holds t k) (holds w k) (sym (in_go k) ∙ h);
        done = λ k h. go_done (holds t k) (holds w k) (sym (in_go k) ∙ h);
      })

  -- ---- second: after the removals of zones it has exactly the zones that both have
  module _ (u : List Zone) (zs : Zones (has_it t) u) (ss : (k : Holding) → holds u k ≡ both_hold k) where
    empty_there : (k : Holding) → both_have k.zone ≡ false → both_hold k ≡ false
    empty_there k e =
        ⊎_elim (λ q. neither _ _ (absent_holds k t q)) (λ q. nor (holds t k) (holds w k) (absent_holds k w q))
        (one_false (present k.zone t) (present k.zone w) e)

    second : Through lim s same_id_law has_it (Holds both_hold) drop_zone true both_have (keep (absent w) (ids_of t)) u
    second =
        walk lim s same_id_law has_it (Holds both_hold) drop_zone true both_have
        (λ x xs v p. let f = p.frame in
        let h = p.todo x (in_head same_id_law x xs) in
        let (a, b, d) = gone lim s v f.0 x h.0
        (λ side r. f.1 (holding x side r) ∙ empty_there (holding x side r) h.1) in
        (a, (kept lim s v f.0 (drop_zone x), λ k. d k ∙ f.1 k), b))
        (keep (absent w) (ids_of t)) u
        (record {
          frame = (zs.0, ss);
          distinct = distinct_keep same_id_law (absent w) (ids_of t) (ids_distinct t (table_ok lim s t ok).ids);
          todo = λ x h. let g = go_todo (present x t) (present x w) (sym (in_drop x) ∙ h) in (zs.1 x ∙ g.0, g.1);
          done = λ x h. zs.1 x ∙ go_done (present x t) (present x w) (sym (in_drop x) ∙ h);
        })

  -- ---- third: after the additions it has exactly the wanted zones
  module _ (u : List Zone) (ss : Holds both_hold u) (zs : (x : ℕ) → present x u ≡ both_have x) where
    room_for : (id : ℕ) (v : List Zone) → SoundUnder lim s v → present id v ≡ false → present id w ≡ true
        → ((a : ℕ) → present a v ≡ true → present a w ≡ true) → length v < lim.zones
    room_for id v vs new e f =
        let few : length w ≤ lim.zones = (table_ok lim s w good).few in
        let fits : suc (length (ids_of v)) ≤ length (ids_of w) =
        no_longer same_id_law 0 (id ∷ ids_of v) (ids_of w)
        (in_ids id v ∙ new, ids_distinct v (table_ok lim s v vs).ids)
        (λ a h. in_ids a w
        ∙ ⊎_elim (λ q. ap (λ (n : ℕ). present n w) (same_id_law.equal a id q) ∙ e) (λ q. f a (sym (in_ids a v) ∙ q))
        (in_ids_cons a id (ids_of v) h)) in
        omega (arith, length-map v (λ (z : Zone). z.id), length-map w (λ (z : Zone). z.id))

    third : Through lim s same_id_law has_it (Holds both_hold) add_zone false (has_it w) (keep (absent t) (ids_of w)) u
    third =
        walk lim s same_id_law has_it (Holds both_hold) add_zone false (has_it w)
        (λ x xs v p. let f = p.frame in
        let h = p.todo x (in_head same_id_law x xs) in
        let (a, b, d) = come lim s v f.0 x h.0 (ltb-false highest_id x (low_id lim s w good x h.1))
        (room_for x v f.0 h.0 h.1
        (λ y q. ⊎_elim (λ m. (p.todo y m).1) (λ m. sym (p.done y m) ∙ q)
        (holds_or_fails (any (same_id y) (x ∷ xs))))) in
        (a, (kept lim s v f.0 (add_zone x), λ k. d k ∙ f.1 k), b))
        (keep (absent t) (ids_of w)) u
        (record {
          frame = ss;
          distinct = distinct_keep same_id_law (absent t) (ids_of w) (ids_distinct w (table_ok lim s w good).ids);
          todo = λ x h. let g = come_todo (present x t) (present x w) (sym (in_add x) ∙ h) in (zs x ∙ g.0, g.1);
          done = λ x h. zs x ∙ come_done (present x t) (present x w) (sym (in_add x) ∙ h);
        })

  -- ---- fourth: after the inserts it holds exactly what the wanted table holds
  module _ (u : List Zone) (zs : Zones (has_it w) u) (ss : (k : Holding) → holds u k ≡ both_hold k) where
    fourth : Through lim s same_holding_law holds (Zones (has_it w)) put_in false (holds w) (keep (lacks t) (holdings w)) u
    fourth =
        walk lim s same_holding_law holds (Zones (has_it w)) put_in false (holds w)
        (λ x xs v p. let f = p.frame in
        let h = p.todo x (in_head same_holding_law x xs) in
        let (a, b, d) = put lim s v f.0 w good
        (λ y q. ⊎_elim (λ m. (p.todo y m).1) (λ m. sym (p.done y m) ∙ q)
        (holds_or_fails (any (same_holding y) (x ∷ xs))))
        x.zone x.region (f.1 x.zone ∙ held_present x w h.1) x.side h.0 h.1 in
        (a, (kept lim s v f.0 (put_in x), λ y. b y ∙ f.1 y), d))
        (keep (lacks t) (holdings w)) u
        (record {
          frame = zs;
          distinct =
              distinct_keep same_holding_law (lacks t) (holdings w)
              (holdings_distinct lim (config_of s) (config_ok lim s w good) w (table_ok lim s w good).zones
              (table_ok lim s w good).ids);
          todo = λ k h. let g = come_todo (holds t k) (holds w k) (sym (in_put k) ∙ h) in (ss k ∙ g.0, g.1);
          done = λ k h. ss k ∙ come_done (holds t k) (holds w k) (sym (in_put k) ∙ h);
        })

  -- ---- all four
  like : (v : List Zone) → ((x : ℕ) → present x v ≡ present x w) → ((k : Holding) → holds v k ≡ holds w k) → Alike v w
  unfolding holds
  like v a b = record { zones = a; sets = λ id side r. b (holding id side r) }

  pub whole_list : (v : List Zone) × Leads lim s t (requests_for t w) v × Alike v w
  unfolding requests_for
  whole_list =
      let (a, la, za, sa) = first in
      let (b, lb, sb, zb) = second a za sa in
      let (d, ld, sd, zd) = third b sb zb in
      let (e, le, ze, se) = fourth d (sd.0, zd) sd.1 in (
        e,
        leads_append lim s (map take_out (keep (lacks w) (holdings t))) _ t a e la
            (leads_append lim s (map drop_zone (keep (absent w) (ids_of t))) _ a b e lb
            (leads_append lim s (map add_zone (keep (absent t) (ids_of w))) (map put_in (keep (lacks t) (holdings w))) b d e
            ld le)),
        like e ze.1 se,
      )

  -- two tables that are alike leave nothing to do
  nothing_left : Alike t w → requests_for t w ≡ []
  unfolding requests_for holds
  nothing_left a =
      let g : keep (lacks w) (holdings t) ≡ [] =
      keep_nothing same_holding_law (lacks w) (holdings t)
      (λ k h. not_holds _
      (sym (a.sets k.zone k.side k.region) ∙ sym (in_holdings t (table_ok lim s t ok).ids k) ∙ h)) in
      let d : keep (absent w) (ids_of t) ≡ [] =
      keep_nothing same_id_law (absent w) (ids_of t)
      (λ x h. not_holds _ (sym (a.zones x) ∙ sym (in_ids x t) ∙ h)) in
      let m : keep (absent t) (ids_of w) ≡ [] =
      keep_nothing same_id_law (absent t) (ids_of w) (λ x h. not_holds _ (a.zones x ∙ sym (in_ids x w) ∙ h)) in
      let p : keep (lacks t) (holdings w) ≡ [] =
      keep_nothing same_holding_law (lacks t) (holdings w)
      (λ k h. not_holds _
      (a.sets k.zone k.side k.region ∙ sym (in_holdings w (table_ok lim s w good).ids k) ∙ h)) in
      rw (g, d, m, p)

module _ (lim : Limits) where
  pub list_leads : ListLeads lim
  list_leads s t w ok good =
      let (v, l, a) = whole_list lim s t w ok good in
      let e : run lim (config_of s) t (requests_for t w)
      ≡ record { place = 0 + length (requests_for t w); inner = 0; table = v } =
      leads_run lim s 0 (requests_for t w) t v l in
      let n : 0 + length (requests_for t w) ≡ length (requests_for t w) = omega arith in (
        ap (λ (r : Run). r.inner) e,
        ap (λ (r : Run). r.place) e ∙ n,
        subst (λ (u : List Zone). Alike u w) (sym (ap (λ (r : Run). r.table) e)) a,
      )

  pub empty_is_alike : EmptyIsAlike lim
  empty_is_alike s t w ok good = (
    (λ e. let (v, l, a) = whole_list lim s t w ok good in
        subst (λ (u : List Zone). Alike u w) (sym (subst (λ (qs : List Request). Leads lim s t qs v) e l)) a),
    nothing_left lim s t w ok good,
  )

  -- ---- from outside
  -- the three rules, whatever is said
  abbrev pub work_as : {R : Type 0} → (ℕ → R) → StoredConfig → StoredTable → StoredTable → List (Rule R)
  work_as say c t w =
      say 1 when not (is_sound (check lim c))
      ∷ say 2 when (not (check_table lim c t) || not (check_table lim c w))
      ∷ say 29 when ltb lim.requests (length (requests_for (table_of t) (table_of w)))
      ∷ []

  pub work_matches : {R : Type 0} (say : ℕ → R) (c : StoredConfig) (t w : StoredTable)
      → Matches (work_as say c t w) (work_lines say lim c t w)
  work_matches say c t w =
      tells_unsound lim c t
      and tells_either _ _ _ _ (tells_bad lim c t) (tells_bad lim c w)
      and tells_lt _ _
      and all

  pub worked_is_exact : WorkedIsExact lim
  unfolding worked work_rules
  worked_is_exact c t w =
      first_of (record { number = 0; requests = requests_for (table_of t) (table_of w) })
      (λ a. record { number = 0; requests = requests_for (table_of t) (table_of w) } ≡ a) (work_matches no_list c t w)
      (λ none a. ((λ e. e), λ e. e))

  -- none of 1, 2 and 29
  module _ (c : StoredConfig) (t w : StoredTable) where
    abbrev list : List Request
    list = requests_for (table_of t) (table_of w)

    pub record Granted : Type 0 where
      pub config : is_sound (check lim c) ≡ true
      pub first : check_table lim c t ≡ true
      pub second : check_table lim c w ≡ true
      pub few : length list ≤ lim.requests

    pub granted : (worked lim c t w).number ≡ 0 → Granted
    unfolding worked work_rules
    granted e =
        let rs : List (Rule ℕ) = work_as (λ n. n) c t w in
        let q : Quiet rs =
        quiet rs 0 ((λ z. omega arith), ((λ z. omega arith), ((λ z. omega arith), tt)))
        (sym (first_map (λ (a : Worked). a.number) (work_rules lim c t w) (record { number = 0; requests = list })) ∙ e) in
        let f = both_false _ _ q.1.0 in record {
          config = not-false _ q.0;
          first = not-false _ f.0;
          second = not-false _ f.1;
          few = ltb-false _ _ q.1.1.0;
        }

    pub worked_list : Granted → worked lim c t w ≡ record { number = 0; requests = list }
    unfolding worked work_rules
    worked_list g =
        sym (quiet_answer (work_rules lim c t w) (record { number = 0; requests = list }) (
          not_holds _ g.config,
          (false_both _ _ (not_holds _ g.first) (not_holds _ g.second), (le-ltb _ _ g.few, tt)),
        ))

    pub granted_stands : Granted → standing lim c t ≡ 0
    unfolding standing_rules
    granted_stands g =
        sym (quiet_answer (standing_rules lim c t) 0 (not_holds _ g.config, (not_holds _ g.first, tt)))

    module _ (len : length c.records ≡ lim.regions) where
      passed : is_sound (check lim c) ≡ true → Passed lim c
      passed e = (len, sound_answer _ e)

      pub sound_there : (u : StoredTable) → check_table lim c u ≡ true → SoundUnder lim c (table_of u)
      unfolding check_table
      sound_there u e = let h = parts _ e in record { config = passed h.0; table = h.1.1.0 }

      reaches : (worked lim c t w).number ≡ 0 → Reached lim c t w
      unfolding run_answer ended
      reaches e =
          let g = granted e in
          let same : (worked lim c t w).requests ≡ list = ap (λ (a : Worked). a.requests) (worked_list g) in
          let l = list_leads c (table_of t) (table_of w) (sound_there t g.first) (sound_there w g.second) in
          record {
            few = subst (λ (qs : List Request). length qs ≤ lim.requests) (sym same) g.few;
            answer =
                subst (λ (qs : List Request). run_answer lim c t qs ≡ plain 0 (length qs)) (sym same)
                (ap (λ (n : ℕ). cond (eqb n 0) (ended (run lim (config_of c) (table_of t) list))
                (record { number = n; place = 0; inner = 0 })) (granted_stands g)
                ∙ ap₂ (λ (m n : ℕ). record { number = cond (eqb m 0) 0 27; place = n; inner = m }) l.0 l.1);
            alike =
                subst (λ (qs : List Request). Alike (run lim (config_of c) (table_of t) qs).table (table_of w)) (sym same)
                l.2;
          }

  pub worked_leads : WorkedLeads lim
  worked_leads c t w len e = reaches c t w len e

  pub nothing_worked : NothingWorked lim
  unfolding check_table
  nothing_worked c t w len ct cw a =
      let none : requests_for (table_of t) (table_of w) ≡ [] =
      nothing_left lim c (table_of t) (table_of w) (sound_there c t w len t ct) (sound_there c t w len w cw) a in
      worked_list c t w
      (record {
        config = (parts _ ct).0;
        first = ct;
        second = cw;
        few = omega (arith, ap length none);
      })
      ∙ ap (λ (qs : List Request). record { number = 0; requests = qs }) none

-- ---- no list is shorter: whatever two tables differ in is asked for by a request of its own
-- what a request puts in, takes out, adds and drops
put_by : Kind → ℕ → List Holding
put_by AddZone id = []
put_by RemoveZone id = []
put_by (Insert s r) id = holding id s r ∷ []
put_by (Remove s r) id = []
put_by NoRequest id = []

taken_by : Kind → ℕ → List Holding
taken_by AddZone id = []
taken_by RemoveZone id = []
taken_by (Insert s r) id = []
taken_by (Remove s r) id = holding id s r ∷ []
taken_by NoRequest id = []

added_by : Kind → ℕ → List ℕ
added_by AddZone id = id ∷ []
added_by RemoveZone id = []
added_by (Insert s r) id = []
added_by (Remove s r) id = []
added_by NoRequest id = []

dropped_by : Kind → ℕ → List ℕ
dropped_by AddZone id = []
dropped_by RemoveZone id = id ∷ []
dropped_by (Insert s r) id = []
dropped_by (Remove s r) id = []
dropped_by NoRequest id = []

all_by : {A : Type 0} → (Kind → ℕ → List A) → List Request → List A
all_by f [] = []
all_by f (q ∷ qs) = f q.kind q.zone ++ all_by f qs

-- each request is one of the four at most
counted : (qs : List Request)
    → length (all_by taken_by qs) + (length (all_by dropped_by qs) + (length (all_by added_by qs) + length (all_by put_by qs)))
    ≤ length qs
unfolding all_by taken_by dropped_by added_by put_by
counted [] = omega arith
counted (q ∷ qs) = by q.kind (counted qs)
  where
    by : (k : Kind)
        → length (all_by taken_by qs) + (length (all_by dropped_by qs) + (length (all_by added_by qs) + length (all_by put_by qs)))
        ≤ length qs
        → length (taken_by k q.zone ++ all_by taken_by qs)
        + (length (dropped_by k q.zone ++ all_by dropped_by qs)
        + (length (added_by k q.zone ++ all_by added_by qs) + length (put_by k q.zone ++ all_by put_by qs)))
        ≤ suc (length qs)
    by AddZone h = omega (arith, h)
    by RemoveZone h = omega (arith, h)
    by (Insert s r) h = omega (arith, h)
    by (Remove s r) h = omega (arith, h)
    by NoRequest h = omega (arith, h)

one_of : (b : Bool) → (b || false) ≡ b
one_of true = refl
one_of false = refl

gone_by : (i r b : Bool) → b ≡ true → cond i true (cond r false b) ≡ false → r ≡ true
gone_by true r b e f = absurd (true≢false f)
gone_by false true b e f = refl
gone_by false false b e f = absurd (true≢false (sym e ∙ f))

came_by : (i r b : Bool) → b ≡ false → cond i true (cond r false b) ≡ true → i ≡ true
came_by true r b e f = refl
came_by false true b e f = absurd (true≢false (sym f))
came_by false false b e f = absurd (true≢false (sym f ∙ e))

-- what a first request or a later one does, of elements of either kind: a test that it puts in, one that it takes out,
-- the value before it, between and in the end
module _ {A : Type 0} (same : A → A → Bool) (a : A) (ins outs ins' outs' : List A) (before between after : Bool)
    (step : between ≡ cond (any (same a) ins) true (cond (any (same a) outs) false before)) where
  out_asked : (between ≡ true → after ≡ false → any (same a) outs' ≡ true) → before ≡ true → after ≡ false
      → any (same a) (outs ++ outs') ≡ true
  out_asked later b e =
      any_append (same a) outs outs'
      ∙ ⊎_elim (λ t. or_right (any (same a) outs) (any (same a) outs') (later t e))
      (λ t. or_left (any (same a) outs) (any (same a) outs')
      (gone_by (any (same a) ins) (any (same a) outs) before b (sym step ∙ t)))
      (holds_or_fails between)

  in_asked : (between ≡ false → after ≡ true → any (same a) ins' ≡ true) → before ≡ false → after ≡ true
      → any (same a) (ins ++ ins') ≡ true
  in_asked later b e =
      any_append (same a) ins ins'
      ∙ ⊎_elim (λ t. or_left (any (same a) ins) (any (same a) ins')
      (came_by (any (same a) ins) (any (same a) outs) before b (sym step ∙ t)))
      (λ t. or_right (any (same a) ins) (any (same a) ins') (later t e))
      (holds_or_fails between)

module _ (lim : Limits) (s : StoredConfig) where
  -- what an accepted request changes
  record Effect (u : List Zone) (k : Kind) (id : ℕ) (v : List Zone) : Type 0 where
    pub held : (h : Holding)
        → holds v h
        ≡ cond (any (same_holding h) (put_by k id)) true (cond (any (same_holding h) (taken_by k id)) false (holds u h))
    pub has : (x : ℕ)
        → present x v
        ≡ cond (any (same_id x) (added_by k id)) true (cond (any (same_id x) (dropped_by k id)) false (present x u))

  module _ (u : List Zone) (ok : SoundUnder lim s u) where
    -- an insert puts its region into its set, and leaves all else
    placed : (id : ℕ) (side : Side) (r : Region) → refusal lim (config_of s) u (put_in (holding id side r)) ≡ 0
        → ((x : ℕ) → present x (next lim (config_of s) u (put_in (holding id side r))) ≡ present x u)
        × ((k : Holding)
        → holds (next lim (config_of s) u (put_in (holding id side r))) k
        ≡ cond (same_holding k (holding id side r)) true (holds u k))
    unfolding set_in side_of same_side here opt_has
    placed id Cpu r e =
        let h : Holding = holding id Cpu r in
        let (tr, co) = accepted_is_upstream lim s u (put_in h) ok e in
        let p : present id u ≡ true = sym (read_has u id) ∙ ap opt_has tr.there in
        let z : Zone = get_or u (find id u) no_zone in
        let same : tr.zone ≡ ghost_of z = some-injective tr.zone (ghost_of z) (sym tr.there ∙ state_there id u p) in
        let g : GhostZone = record {
          cpu_mem_set = insert_region (λ x. held_in x z.cpu) r;
          iommu_mem_set = λ x. held_in x z.iommu;
        } in
        let moved : state_of (next lim (config_of s) u (put_in h)) ≡ map_insert (state_of u) id g =
        tr.update
        ∙ ap (λ (y : GhostZone). map_insert (state_of u) id
        (record { cpu_mem_set = insert_region y.cpu_mem_set r; iommu_mem_set = y.iommu_mem_set })) same in (
          λ x. has_next lim s u ok (put_in h) _ moved x ∙ same_has lim s u ok h p g x,
          λ k. holds_next lim s u ok (put_in h) _ moved k
              ∙ one_set lim s u ok h p g true
              (elim [ Cpu ↦ λ x. more lim s u ok (held_in x z.cpu) (region_eq x r) | Iommu ↦ λ x. refl ]) k,
        )
    placed id Iommu r e =
        let h : Holding = holding id Iommu r in
        let (tr, co) = accepted_is_upstream lim s u (put_in h) ok e in
        let p : present id u ≡ true = sym (read_has u id) ∙ ap opt_has tr.there in
        let z : Zone = get_or u (find id u) no_zone in
        let same : tr.zone ≡ ghost_of z = some-injective tr.zone (ghost_of z) (sym tr.there ∙ state_there id u p) in
        let g : GhostZone = record {
          cpu_mem_set = λ x. held_in x z.cpu;
          iommu_mem_set = insert_region (λ x. held_in x z.iommu) r;
        } in
        let moved : state_of (next lim (config_of s) u (put_in h)) ≡ map_insert (state_of u) id g =
        tr.update
        ∙ ap (λ (y : GhostZone). map_insert (state_of u) id
        (record { cpu_mem_set = y.cpu_mem_set; iommu_mem_set = insert_region y.iommu_mem_set r })) same in (
          λ x. has_next lim s u ok (put_in h) _ moved x ∙ same_has lim s u ok h p g x,
          λ k. holds_next lim s u ok (put_in h) _ moved k
              ∙ one_set lim s u ok h p g true
              (elim [ Cpu ↦ λ x. refl | Iommu ↦ λ x. more lim s u ok (held_in x z.iommu) (region_eq x r) ]) k,
        )

    -- what an accepted removal takes out was held
    was_held : (id : ℕ) (side : Side) (r : Region) → refusal lim (config_of s) u (take_out (holding id side r)) ≡ 0
        → holds u (holding id side r) ≡ true
    unfolding opt_set set_in
    was_held id Cpu r e =
        let (tr, co) = accepted_is_upstream lim s u (take_out (holding id Cpu r)) ok e in
        sym (read_set u (holding id Cpu r)) ∙ ap (opt_set Cpu r) tr.there ∙ tr.held
    was_held id Iommu r e =
        let (tr, co) = accepted_is_upstream lim s u (take_out (holding id Iommu r)) ok e in
        sym (read_set u (holding id Iommu r)) ∙ ap (opt_set Iommu r) tr.there ∙ tr.held

    empty_holds : (id : ℕ) (side : Side) (r : Region) → region_set u (find id u) side ≡ [] → holds u (holding id side r) ≡ false
    unfolding holds any
    empty_holds id side r e = ap (held_in r) e

    effect : (id : ℕ) (k : Kind) → refusal lim (config_of s) u (record { zone = id; kind = k }) ≡ 0
        → Effect u k id (next lim (config_of s) u (record { zone = id; kind = k }))
    unfolding put_by taken_by added_by dropped_by any opt_has
    effect id AddZone e =
        let (tr, co) = accepted_is_upstream lim s u (add_zone id) ok e in
        let p : present id u ≡ false = sym (read_has u id) ∙ ap opt_has tr.absent in
        let (z, has, held) = come lim s u ok id p co.0 co.1 in
        record {
          held = held;
          has = λ x. has x ∙ ap (λ (b : Bool). cond b true (present x u)) (sym (one_of (same_id x id)));
        }
    effect id RemoveZone e =
        let (tr, co) = accepted_is_upstream lim s u (drop_zone id) ok e in
        let p : present id u ≡ true = sym (read_has u id) ∙ ap opt_has tr.there in
        let (z, has, held) = gone lim s u ok id p (nothing_held id co) in
        record {
          held = held;
          has = λ x. has x ∙ ap (λ (b : Bool). cond b false (present x u)) (sym (one_of (same_id x id)));
        }
      where
        nothing_held : (id : ℕ) → (region_set u (find id u) Cpu ≡ []) × (region_set u (find id u) Iommu ≡ []) → (side : Side) (r : Region)
            → holds u (holding id side r) ≡ false
        nothing_held id co Cpu r = empty_holds id Cpu r co.0
        nothing_held id co Iommu r = empty_holds id Iommu r co.1
    effect id (Insert side r) e =
        let (has, held) = placed id side r e in
        record {
          held = λ h. held h ∙ ap (λ (b : Bool). cond b true (holds u h)) (sym (one_of (same_holding h (holding id side r))));
          has = has;
        }
    effect id (Remove side r) e =
        let (z, has, held) = taken lim s u ok id side r (was_held id side r e) in
        record {
          held = λ h. held h ∙ ap (λ (b : Bool). cond b false (holds u h)) (sym (one_of (same_holding h (holding id side r))));
          has = has;
        }
    effect id NoRequest e = absurd (accepted_is_upstream lim s u (record { zone = id; kind = NoRequest }) ok e).0

  abbrev puts : Request → List Holding
  puts q = put_by q.kind q.zone

  abbrev takes : Request → List Holding
  takes q = taken_by q.kind q.zone

  abbrev adds : Request → List ℕ
  adds q = added_by q.kind q.zone

  abbrev drops : Request → List ℕ
  drops q = dropped_by q.kind q.zone

  -- ---- requests in turn: what changed was asked for
  record Changed (qs : List Request) (u v : List Zone) : Type 0 where
    pub took : (h : Holding) → holds u h ≡ true → holds v h ≡ false → any (same_holding h) (all_by taken_by qs) ≡ true
    pub put : (h : Holding) → holds u h ≡ false → holds v h ≡ true → any (same_holding h) (all_by put_by qs) ≡ true
    pub dropped : (x : ℕ) → present x u ≡ true → present x v ≡ false → any (same_id x) (all_by dropped_by qs) ≡ true
    pub added : (x : ℕ) → present x u ≡ false → present x v ≡ true → any (same_id x) (all_by added_by qs) ≡ true

  changes : (qs : List Request) (u v : List Zone) → SoundUnder lim s u → Leads lim s u qs v → Changed qs u v
  unfolding all_by
  changes [] u v ok e = record {
    took = λ h a b. absurd (true≢false (sym a ∙ ap (λ (t : List Zone). holds t h) e ∙ b));
    put = λ h a b. absurd (true≢false (sym b ∙ ap (λ (t : List Zone). holds t h) (sym e) ∙ a));
    dropped = λ x a b. absurd (true≢false (sym a ∙ ap (present x) e ∙ b));
    added = λ x a b. absurd (true≢false (sym b ∙ ap (present x) (sym e) ∙ a));
  }
  changes (q ∷ qs) u v ok (e, l) =
      let m : List Zone = next lim (config_of s) u q in
      let f : Effect u q.kind q.zone m = effect u ok q.zone q.kind e in
      let g : Changed qs m v = changes qs m v (kept lim s u ok q) l in
      record {
        took = λ h. out_asked same_holding h (puts q) (takes q) (all_by put_by qs) (all_by taken_by qs) (holds u h) (holds m h)
            (holds v h) (f.held h) (g.took h);
        put = λ h. in_asked same_holding h (puts q) (takes q) (all_by put_by qs) (all_by taken_by qs) (holds u h) (holds m h)
            (holds v h) (f.held h) (g.put h);
        dropped = λ x. out_asked same_id x (adds q) (drops q) (all_by added_by qs) (all_by dropped_by qs) (present x u)
            (present x m) (present x v) (f.has x) (g.dropped x);
        added = λ x. in_asked same_id x (adds q) (drops q) (all_by added_by qs) (all_by dropped_by qs) (present x u)
            (present x m) (present x v) (f.has x) (g.added x);
      }

  -- a run without a refusal leads where it ends
  leads_of : (i : ℕ) (qs : List Request) (u : List Zone) → (run_from lim (config_of s) i u qs).inner ≡ 0
      → Leads lim s u qs (run_from lim (config_of s) i u qs).table
  unfolding run_from
  leads_of i [] u e = refl
  leads_of i (q ∷ qs) u e =
      by (leads_of (suc i) qs (next lim (config_of s) u q)) (eqb (refusal lim (config_of s) u q) 0) refl e
    where
      on : Run
      on = run_from lim (config_of s) (suc i) (next lim (config_of s) u q) qs

      off : Run
      off = record { place = i; inner = refusal lim (config_of s) u q; table = u }

      by : (on.inner ≡ 0 → Leads lim s (next lim (config_of s) u q) qs on.table)
          → (b : Bool) → eqb (refusal lim (config_of s) u q) 0 ≡ b → (cond b on off).inner ≡ 0
          → Leads lim s u (q ∷ qs) (cond b on off).table
      by f true z h = (eqb-true _ _ z, f h)
      by f false z h = absurd (eqb-false _ _ z h)

pub no_shorter_list : (lim : Limits) → NoShorterList lim
unfolding requests_for holds
no_shorter_list lim s t w ok good qs e alike =
    let v : List Zone = (run lim (config_of s) t qs).table in
    let ch : Changed lim s qs t v = changes lim s qs t v ok (leads_of lim s 0 qs t e) in
    let holds_same : (h : Holding) → holds v h ≡ holds w h = λ h. alike.sets h.zone h.side h.region in
    let go : length (keep (lacks w) (holdings t)) ≤ length (all_by taken_by qs) =
    no_longer same_holding_law (holding 0 Cpu no_region) (keep (lacks w) (holdings t)) (all_by taken_by qs)
    (distinct_keep same_holding_law (lacks w) (holdings t) (distinct t ok)) (λ h a.
    let (x, y) = both_true _ _ (sym (in_go lim s t w ok good h) ∙ a) in
    ch.took h x (holds_same h ∙ not-true _ y)) in
    let put : length (keep (lacks t) (holdings w)) ≤ length (all_by put_by qs) =
    no_longer same_holding_law (holding 0 Cpu no_region) (keep (lacks t) (holdings w)) (all_by put_by qs)
    (distinct_keep same_holding_law (lacks t) (holdings w) (distinct w good)) (λ h a.
    let (x, y) = both_true _ _ (sym (in_put lim s t w ok good h) ∙ a) in
    ch.put h (not-true _ y) (holds_same h ∙ x)) in
    let drop : length (keep (absent w) (ids_of t)) ≤ length (all_by dropped_by qs) =
    no_longer same_id_law 0 (keep (absent w) (ids_of t)) (all_by dropped_by qs)
    (distinct_keep same_id_law (absent w) (ids_of t) (ids_distinct t (table_ok lim s t ok).ids)) (λ x a.
    let (y, z) = both_true _ _ (sym (in_drop lim s t w ok good x) ∙ a) in
    ch.dropped x y (alike.zones x ∙ not-true _ z)) in
    let add : length (keep (absent t) (ids_of w)) ≤ length (all_by added_by qs) =
    no_longer same_id_law 0 (keep (absent t) (ids_of w)) (all_by added_by qs)
    (distinct_keep same_id_law (absent t) (ids_of w) (ids_distinct w (table_ok lim s w good).ids)) (λ x a.
    let (y, z) = both_true _ _ (sym (in_add lim s t w ok good x) ∙ a) in
    ch.added x (not-true _ z) (alike.zones x ∙ y)) in
    omega (
      arith,
      go,
      put,
      drop,
      add,
      counted qs,
      length-append (map take_out (keep (lacks w) (holdings t)))
          (map drop_zone (keep (absent w) (ids_of t)) ++ (map add_zone (keep (absent t) (ids_of w)) ++ map put_in (keep (lacks t) (holdings w)))),
      length-append (map drop_zone (keep (absent w) (ids_of t)))
          (map add_zone (keep (absent t) (ids_of w)) ++ map put_in (keep (lacks t) (holdings w))),
      length-append (map add_zone (keep (absent t) (ids_of w))) (map put_in (keep (lacks t) (holdings w))),
      length-map (keep (lacks w) (holdings t)) take_out,
      length-map (keep (absent w) (ids_of t)) drop_zone,
      length-map (keep (absent t) (ids_of w)) add_zone,
      length-map (keep (lacks t) (holdings w)) put_in,
    )
  where
    distinct : (t : List Zone) → SoundUnder lim s t → Distinct same_holding (holdings t)
    distinct t ok =
        holdings_distinct lim (config_of s) (config_ok lim s t ok) t (table_ok lim s t ok).zones (table_ok lim s t ok).ids
