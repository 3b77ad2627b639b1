-- What each request leaves in which order, then each stretch by induction, then the four of them.
use Prim.Native.Nat.{ℕ}
use mathlib.Core.Bool.{Bool, true, false, cond, not, ◌&&◌, ◌||◌, true≢false}
use mathlib.Core.List.{List, [], ◌∷◌, ◌++◌, map, append_assoc, append-nil}
use mathlib.Core.Path.{◌≡◌, refl, sym, ap, ap₂, subst, ◌∙◌}
use borrow.Author.Tests.{eqb-true, eq-eqb, not-false}
use lib.Dec.{eqb}
use lib.ListN.{get_or}
use lib.Seq.{map-set_same}
use Rattle.lists.specs.First.{first_index, any}
use Rattle.lists.specs.Orders.{keep}
use Rattle.lists.specs.Room.{remove_at}
use Rattle.lists.proofs.Distinct.{keep_under, same_turned, out_first}
use Rattle.lists.proofs.First.{first_passes}
use Rattle.lists.proofs.Kept.{keep_twice, keep_whole}
use Rattle.lists.proofs.Rules.{test_of}
use Rattle.rules.specs.Changes.{region_set, with_side, put_set, pushed, cut, dropped}
use Rattle.rules.specs.Configuration.{config_of, Configuration, StoredConfig}
use Rattle.rules.specs.Limits.{Limits}
use Rattle.rules.specs.Regions.{region_eq}
use Rattle.rules.specs.Requests.{add_zone, drop_zone, find, present, held_in, remove_zone_rules, region_rules, set_rules}
use Rattle.rules.specs.Requests.{insert_rules, remove_rules, kind_rules, request_rules, refusal, after, next}
use Rattle.rules.specs.Run.{Run}
use Rattle.rules.specs.Tables.{no_zone, has_id, Zone}
use Rattle.rules.specs.Wanted.{holding, holdings, holds, ids_of, lacks, absent, take_out, put_in, requests_for, Holding}
use Rattle.rules.specs.declared.Kind.TheVariants.{RemoveZone, Insert, Remove}
use Rattle.rules.specs.declared.Region.{Region}
use Rattle.rules.specs.declared.Request.{Request}
use Rattle.rules.specs.declared.Side.{Side}
use Rattle.rules.specs.declared.Side.TheVariants.{Cpu, Iommu}
use Rattle.rules.proofs.Keeps.{id_kept}
use Rattle.rules.proofs.Requests.{none_applies, holds_nothing}
use Rattle.rules.proofs.Wanted.{same_id, same_id_law, same_region, same_side, side_equal, same_holding, in_ids, ids_distinct}
use Rattle.rules.proofs.Wanted.{set_distinct}
use Rattle.rules.proofs.WantedOrder.{set_by, set_added, set_put, set_dropped, side_with, ids_removed, ids_found, ids_added}
use Rattle.rules.proofs.WantedOrder.{pick, pick_holdings}
use Rattle.promises.specs.Tables.{SoundUnder}
use Rattle.promises.specs.WantedOrder.{InOrder, ListOrders}
use Rattle.promises.proofs.Closure.{config_ok, table_ok, there, set_ok}
use Rattle.promises.proofs.Wanted.{Leads, kept, leads_run, whole_list, in_go, in_drop}

-- neither of two tests
nor : (x y : Bool) → (not x && not y) ≡ not (x || y)
nor true y = refl
nor false y = refl

-- of what is in the first list, what is not both there and outside the second
kept_both : (x y : Bool) → x ≡ true → not (x && not y) ≡ y
kept_both true true e = refl
kept_both true false e = refl
kept_both false y e = absurd (true≢false (sym e))

module _ (lim : Limits) (s : StoredConfig) where
  abbrev c : Configuration
  c = config_of s

  -- a run in two parts
  leads_split : (qs ps : List Request) (u v : List Zone) → Leads lim s u (qs ++ ps) v
      → (m : List Zone) × Leads lim s u qs m × Leads lim s m ps v
  leads_split [] ps u v a = (u, refl, a)
  leads_split (q ∷ qs) ps u v a =
      let (m, b, d) = leads_split qs ps (next lim c u q) v a.1 in
      (m, (a.0, b), d)

  next_after : (t : List Zone) (q : Request) → refusal lim c t q ≡ 0 → next lim c t q ≡ after q.kind q.zone t
  unfolding next
  next_after t q e = ap (λ (b : Bool). cond b (after q.kind q.zone t) t) (eq-eqb (refusal lim c t q) 0 e)

  module _ (u : List Zone) (ok : SoundUnder lim s u) where
    own : (id : ℕ) → present id u ≡ true → (get_or u (find id u) no_zone).id ≡ id
    own id p = eqb-true _ _ (first_passes (has_id id) u no_zone (there lim s u ok id p))

    -- one set replaced
    put_ids : (h : Holding) (xs : List Region) → ids_of (put_set (find h.zone u) h.side xs u) ≡ ids_of u
    unfolding put_set
    put_ids h xs =
        map-set_same (λ (z : Zone). z.id) u (find h.zone u) _ no_zone
        (id_kept h.side xs (get_or u (find h.zone u) no_zone))

    put_sets : (h : Holding) (xs : List Region) → present h.zone u ≡ true → (id : ℕ) (side : Side)
        → set_by (put_set (find h.zone u) h.side xs u) id side
        ≡ cond (eqb h.zone id) (cond (same_side side h.side) xs (set_by u h.zone side)) (set_by u id side)
    unfolding put_set region_set
    put_sets h xs p id side =
        let z : Zone = get_or u (find h.zone u) no_zone in
        set_put u h.zone (with_side h.side xs z) id side (id_kept h.side xs z ∙ own h.zone p) p
        ∙ ap (λ (l : List Region). cond (eqb h.zone id) l (set_by u id side)) (side_with side h.side xs z)

    -- a region is taken out
    taken_facts : (h : Holding) → refusal lim c u (take_out h) ≡ 0
        → (present h.zone u ≡ true) × (held_in h.region (set_by u h.zone h.side) ≡ true)
    unfolding refusal request_rules kind_rules remove_rules test_of
    taken_facts h e =
        let q = none_applies lim c (Remove h.side h.region) h.zone u e in
        (not-false _ (q 6), not-false _ (q 17))

    taken_order : (h : Holding) → refusal lim c u (take_out h) ≡ 0
        → (ids_of (next lim c u (take_out h)) ≡ ids_of u)
        × ((id : ℕ) (side : Side)
        → set_by (next lim c u (take_out h)) id side
        ≡ keep (λ (r : Region). not (same_holding (holding id side r) h)) (set_by u id side))
    unfolding after cut same_holding
    taken_order h e = (
      ap ids_of (next_after u (take_out h) e) ∙ put_ids h _,
      λ id side. ap (λ (l : List Zone). set_by l id side) (next_after u (take_out h) e)
          ∙ put_sets h _ f.0 id side
          ∙ by id side (eqb h.zone id) refl (same_side side h.side) refl,
    )
      where
        f : (present h.zone u ≡ true) × (held_in h.region (set_by u h.zone h.side) ≡ true)
        f = taken_facts h e

        by : (id : ℕ) (side : Side) (d : Bool) → eqb h.zone id ≡ d → (m : Bool) → same_side side h.side ≡ m
            → cond d
            (cond m
            (remove_at (first_index (region_eq h.region) (set_by u h.zone h.side)) (set_by u h.zone h.side))
            (set_by u h.zone side)) (set_by u id side)
            ≡ keep (λ (r : Region). not (d && (m && region_eq r h.region))) (set_by u id side)
        by id side true p true q =
            out_first same_region h.region (set_by u h.zone h.side)
            (set_distinct lim c (config_ok lim s u ok) (set_by u h.zone h.side)
            (set_ok lim s u ok h.zone f.0 h.side)) f.1
            ∙ keep_under same_region (λ (r : Region). not (region_eq h.region r))
            (λ (r : Region). not (region_eq r h.region)) (set_by u h.zone h.side)
            (λ a w. ap not (same_turned same_region h.region a))
            ∙ ap₂ (λ (n : ℕ) (y : Side). keep (λ (r : Region). not (region_eq r h.region)) (set_by u n y))
            (eqb-true _ _ p) (sym (side_equal side h.side q))
        by id side true p false q =
            ap (λ (n : ℕ). set_by u n side) (eqb-true _ _ p)
            ∙ sym (keep_whole (λ (r : Region). true) (set_by u id side) (λ a. refl))
        by id side false p m q = sym (keep_whole (λ (r : Region). true) (set_by u id side) (λ a. refl))

    -- a region is put in
    put_facts : (h : Holding) → refusal lim c u (put_in h) ≡ 0 → present h.zone u ≡ true
    unfolding refusal request_rules kind_rules insert_rules region_rules set_rules test_of
    put_facts h e =
        let q = none_applies lim c (Insert h.side h.region) h.zone u e in
        not-false _ (q 6)

    put_order : (h : Holding) → refusal lim c u (put_in h) ≡ 0
        → (ids_of (next lim c u (put_in h)) ≡ ids_of u)
        × ((id : ℕ) (side : Side)
        → set_by (next lim c u (put_in h)) id side ≡ set_by u id side ++ pick id side (h ∷ []))
    unfolding after pushed pick
    put_order h e = (
      ap ids_of (next_after u (put_in h) e) ∙ put_ids h _,
      λ id side. ap (λ (l : List Zone). set_by l id side) (next_after u (put_in h) e)
          ∙ put_sets h _ (put_facts h e) id side
          ∙ by id side (eqb h.zone id) refl (same_side side h.side) refl,
    )
      where
        by : (id : ℕ) (side : Side) (d : Bool) → eqb h.zone id ≡ d → (m : Bool) → same_side side h.side ≡ m
            → cond d (cond m (set_by u h.zone h.side ++ h.region ∷ []) (set_by u h.zone side)) (set_by u id side)
            ≡ set_by u id side ++ cond (d && m) (h.region ∷ []) []
        by id side true p true q =
            ap₂ (λ (n : ℕ) (y : Side). set_by u n y ++ h.region ∷ []) (eqb-true _ _ p)
            (sym (side_equal side h.side q))
        by id side true p false q =
            ap (λ (n : ℕ). set_by u n side) (eqb-true _ _ p) ∙ sym (append-nil (set_by u id side))
        by id side false p m q = sym (append-nil (set_by u id side))

    -- a zone goes
    gone_facts : (id : ℕ) → refusal lim c u (drop_zone id) ≡ 0
        → (present id u ≡ true) × ((side : Side) → set_by u id side ≡ [])
    unfolding refusal request_rules kind_rules remove_zone_rules test_of
    gone_facts id e =
        let q = none_applies lim c RemoveZone id u e in
        let n = holds_nothing (find id u) u (q 8) in
        (not-false _ (q 6), elim [ Cpu ↦ n.0 | Iommu ↦ n.1 ])

    gone_order : (id : ℕ) → refusal lim c u (drop_zone id) ≡ 0
        → (ids_of (next lim c u (drop_zone id)) ≡ keep (λ (x : ℕ). not (same_id x id)) (ids_of u))
        × ((x : ℕ) (side : Side) → set_by (next lim c u (drop_zone id)) x side ≡ set_by u x side)
    unfolding after dropped
    gone_order id e =
        let (p, none) = gone_facts id e in (
          ap ids_of (next_after u (drop_zone id) e)
              ∙ ids_removed (find id u) u
              ∙ ap (λ (k : ℕ). remove_at k (ids_of u)) (ids_found id u)
              ∙ out_first same_id_law id (ids_of u) (ids_distinct u (table_ok lim s u ok).ids) (in_ids id u ∙ p)
              ∙ keep_under same_id_law (λ (x : ℕ). not (same_id id x)) (λ (x : ℕ). not (same_id x id)) (ids_of u)
              (λ a w. ap not (same_turned same_id_law id a)),
          λ x side. ap (λ (l : List Zone). set_by l x side) (next_after u (drop_zone id) e)
              ∙ set_dropped u id x side (table_ok lim s u ok).ids (none side),
        )

    -- a zone comes
    come_order : (id : ℕ) → refusal lim c u (add_zone id) ≡ 0
        → (ids_of (next lim c u (add_zone id)) ≡ ids_of u ++ (id ∷ []))
        × ((x : ℕ) (side : Side) → set_by (next lim c u (add_zone id)) x side ≡ set_by u x side)
    unfolding after
    come_order id e = (
      ap ids_of (next_after u (add_zone id) e) ∙ ids_added id u,
      λ x side. ap (λ (l : List Zone). set_by l x side) (next_after u (add_zone id) e) ∙ set_added u id x side,
    )

  leads_sound : (qs : List Request) (u v : List Zone) → SoundUnder lim s u → Leads lim s u qs v → SoundUnder lim s v
  leads_sound [] u v ok a = subst (SoundUnder lim s) a ok
  leads_sound (q ∷ qs) u v ok a = leads_sound qs (next lim c u q) v (kept lim s u ok q) a.1

  -- ---- each stretch
  -- what is in none of a list's elements
  abbrev outside : List Holding → ℕ → Side → Region → Bool
  outside hs id side r = not (any (same_holding (holding id side r)) hs)

  taken_all : (hs : List Holding) (u v : List Zone) → SoundUnder lim s u → Leads lim s u (map take_out hs) v
      → (ids_of v ≡ ids_of u) × ((id : ℕ) (side : Side) → set_by v id side ≡ keep (outside hs id side) (set_by u id side))
  unfolding any
  taken_all [] u v ok a = (
    ap ids_of (sym a),
    λ id side. ap (λ (l : List Zone). set_by l id side) (sym a)
        ∙ sym (keep_whole (λ (r : Region). true) (set_by u id side) (λ r. refl)),
  )
  taken_all (h ∷ hs) u v ok a =
      let g = taken_order u ok h a.0 in
      let f = taken_all hs (next lim c u (take_out h)) v (kept lim s u ok (take_out h)) a.1 in (
        f.0 ∙ g.0,
        λ id side. f.1 id side
            ∙ ap (keep (outside hs id side)) (g.1 id side)
            ∙ keep_twice (λ (r : Region). not (same_holding (holding id side r) h)) (outside hs id side) (set_by u id side)
            ∙ keep_under same_region
            (λ (r : Region). not (same_holding (holding id side r) h) && outside hs id side r)
            (outside (h ∷ hs) id side) (set_by u id side)
            (λ r m. nor (same_holding (holding id side r) h) (any (same_holding (holding id side r)) hs)),
      )

  gone_all : (ids : List ℕ) (u v : List Zone) → SoundUnder lim s u → Leads lim s u (map drop_zone ids) v
      → (ids_of v ≡ keep (λ (x : ℕ). not (any (same_id x) ids)) (ids_of u))
      × ((x : ℕ) (side : Side) → set_by v x side ≡ set_by u x side)
  unfolding any
  gone_all [] u v ok a = (
    ap ids_of (sym a) ∙ sym (keep_whole (λ (x : ℕ). true) (ids_of u) (λ x. refl)),
    λ x side. ap (λ (l : List Zone). set_by l x side) (sym a),
  )
  gone_all (n ∷ ids) u v ok a =
      let g = gone_order u ok n a.0 in
      let f = gone_all ids (next lim c u (drop_zone n)) v (kept lim s u ok (drop_zone n)) a.1 in (
        f.0
            ∙ ap (keep (λ (x : ℕ). not (any (same_id x) ids))) g.0
            ∙ keep_twice (λ (x : ℕ). not (same_id x n)) (λ (x : ℕ). not (any (same_id x) ids)) (ids_of u)
            ∙ keep_under same_id_law (λ (x : ℕ). not (same_id x n) && not (any (same_id x) ids))
            (λ (x : ℕ). not (any (same_id x) (n ∷ ids))) (ids_of u) (λ x m. nor (same_id x n) (any (same_id x) ids)),
        λ x side. f.1 x side ∙ g.1 x side,
      )

  come_all : (ids : List ℕ) (u v : List Zone) → SoundUnder lim s u → Leads lim s u (map add_zone ids) v
      → (ids_of v ≡ ids_of u ++ ids) × ((x : ℕ) (side : Side) → set_by v x side ≡ set_by u x side)
  come_all [] u v ok a =
      (ap ids_of (sym a) ∙ sym (append-nil (ids_of u)), λ x side. ap (λ (l : List Zone). set_by l x side) (sym a))
  come_all (n ∷ ids) u v ok a =
      let g = come_order u ok n a.0 in
      let f = come_all ids (next lim c u (add_zone n)) v (kept lim s u ok (add_zone n)) a.1 in (
        f.0 ∙ ap (λ (l : List ℕ). l ++ ids) g.0 ∙ append_assoc (ids_of u) (n ∷ []) ids,
        λ x side. f.1 x side ∙ g.1 x side,
      )

  put_all : (hs : List Holding) (u v : List Zone) → SoundUnder lim s u → Leads lim s u (map put_in hs) v
      → (ids_of v ≡ ids_of u) × ((id : ℕ) (side : Side) → set_by v id side ≡ set_by u id side ++ pick id side hs)
  unfolding pick
  put_all [] u v ok a = (
    ap ids_of (sym a),
    λ id side. ap (λ (l : List Zone). set_by l id side) (sym a) ∙ sym (append-nil (set_by u id side)),
  )
  put_all (h ∷ hs) u v ok a =
      let g = put_order u ok h a.0 in
      let f = put_all hs (next lim c u (put_in h)) v (kept lim s u ok (put_in h)) a.1 in (
        f.0 ∙ g.0,
        λ id side. f.1 id side
            ∙ ap (λ (l : List Region). l ++ pick id side hs) (g.1 id side)
            ∙ append_assoc (set_by u id side) (pick id side (h ∷ [])) (pick id side hs)
            ∙ ap (λ (l : List Region). set_by u id side ++ l)
            (by (eqb h.zone id && same_side side h.side) (pick id side hs)),
      )
    where
      by : (b : Bool) (l : List Region) → cond b (h.region ∷ []) [] ++ l ≡ cond b (h.region ∷ l) l
      by true l = refl
      by false l = refl

  -- ---- all four
  in_order_law : (t w : List Zone) → SoundUnder lim s t → SoundUnder lim s w → (v : List Zone)
      → Leads lim s t (requests_for t w) v → InOrder t w v
  unfolding requests_for holds
  in_order_law t w ok good v l =
      let (a, la, ra) = leads_split (map take_out (keep (lacks w) (holdings t))) _ t v l in
      let (b, lb, rb) = leads_split (map drop_zone (keep (absent w) (ids_of t))) _ a v ra in
      let (d, ld, rd) = leads_split (map add_zone (keep (absent t) (ids_of w))) (map put_in (keep (lacks t) (holdings w))) b v rb in
      let oka : SoundUnder lim s a = leads_sound (map take_out (keep (lacks w) (holdings t))) t a ok la in
      let okb : SoundUnder lim s b = leads_sound (map drop_zone (keep (absent w) (ids_of t))) a b oka lb in
      let okd : SoundUnder lim s d = leads_sound (map add_zone (keep (absent t) (ids_of w))) b d okb ld in
      let fa = taken_all (keep (lacks w) (holdings t)) t a ok la in
      let fb = gone_all (keep (absent w) (ids_of t)) a b oka lb in
      let fd = come_all (keep (absent t) (ids_of w)) b d okb ld in
      let fe = put_all (keep (lacks t) (holdings w)) d v okd rd in
      record {
        zones =
            fe.0
            ∙ fd.0
            ∙ ap (λ (l : List ℕ). l ++ keep (absent t) (ids_of w))
            (fb.0
            ∙ ap (keep (λ (x : ℕ). not (any (same_id x) (keep (absent w) (ids_of t))))) fa.0
            ∙ keep_under same_id_law _ (λ (id : ℕ). present id w) (ids_of t)
            (λ x h. ap not (in_drop lim s t w ok good x) ∙ kept_both (present x t) (present x w) (sym (in_ids x t) ∙ h)));
        sets = λ id side.
            fe.1 id side
            ∙ ap₂ (λ (x y : List Region). x ++ y)
            (fd.1 id side
            ∙ fb.1 id side
            ∙ fa.1 id side
            ∙ keep_under same_region _ (λ (r : Region). held_in r (set_by w id side)) (set_by t id side)
            (λ r h. ap not (in_go lim s t w ok good (holding id side r))
            ∙ kept_both (held_in r (set_by t id side)) (held_in r (set_by w id side)) h))
            (pick_holdings (lacks t) id side w (table_ok lim s w good).ids);
      }

module _ (lim : Limits) where
  pub list_orders : ListOrders lim
  list_orders s t w ok good =
      let (v, l, a) = whole_list lim s t w ok good in
      subst (InOrder t w) (sym (ap (λ (r : Run). r.table) (leads_run lim s 0 (requests_for t w) t v l)))
      (in_order_law lim s t w ok good v l)
