-- Each request keeps a sound table sound, and so does each run: a change touches one zone, whose part of soundness the
-- rules that were silent give, and of every other part only what stood before is asked.
use Prim.Native.Nat.{ℕ, ◌≤◌, ◌<◌}
use native.Mathlib.Omega.{arith}
use mathlib.Core.Bool.{Bool, true, false, cond, not, ◌&&◌}
use mathlib.Core.List.{List, [], ◌∷◌, ◌++◌}
use mathlib.Core.Path.{◌≡◌, refl, sym, ap, ◌∙◌}
use borrow.Author.Tests.{ltb-true, ltb-false, leb-true, leb-false, eqb-true, not-false, le-leb}
use lib.Dec.{leb, eqb}
use lib.ListN.{length, get_or, set, length-append, length-set}
use Rattle.lists.specs.First.{first_index, any, all}
use Rattle.lists.specs.Pairs.{pairwise}
use Rattle.lists.specs.Room.{room, remove_at}
use Rattle.lists.specs.Rules.{first_rule}
use Rattle.lists.specs.Runs.{runs}
use Rattle.lists.proofs.Every.{all_at, all_make, all_one, all_append, all_left, all_right, all_set, all_removed}
use Rattle.lists.proofs.Every.{none_at, none_make, none_others, any_append, none_all, all_from, all_same}
use Rattle.lists.proofs.First.{any_first}
use Rattle.lists.proofs.Pairs.{pairs_at, pairs_append, pairs_removed, pairs_set}
use Rattle.lists.proofs.Room.{length_removed}
use Rattle.lists.proofs.Rules.{test_of}
use Rattle.lists.proofs.Runs.{run_keeps}
use Rattle.lists.proofs.Tests.{both_false, false_both, not_fails, parts, whole}
use Rattle.rules.specs.Changes.{region_set, with_side, put_set, added, pushed, cut, dropped}
use Rattle.rules.specs.Configuration.{gic_of, Configuration}
use Rattle.rules.specs.Limits.{highest_id, Limits, page_of}
use Rattle.rules.specs.Regions.{well_formed, region_eq, phys_overlap, guest_overlap, no_region}
use Rattle.rules.specs.Requests.{find, present, held_in, on_gic, forbidden, add_rules, remove_zone_rules, region_rules}
use Rattle.rules.specs.Requests.{set_rules, insert_rules, remove_rules, kind_rules, no_request, request_rules, refusal}
use Rattle.rules.specs.Requests.{after, next}
use Rattle.rules.specs.Tables.{empty_zone, no_zone, side_of, has_id, regions_of, configured, guest_apart, off_gic, clash}
use Rattle.rules.specs.Tables.{excessive, modest, sound_set, sound_zone, ids_differ, zones_apart, sound, Zone}
use Rattle.rules.specs.declared.Kind.{Kind}
use Rattle.rules.specs.declared.Kind.TheVariants.{AddZone, RemoveZone, Insert, Remove, NoRequest}
use Rattle.rules.specs.declared.Region.{Region}
use Rattle.rules.specs.declared.Request.{Request}
use Rattle.rules.specs.declared.Side.{Side}
use Rattle.rules.specs.declared.Side.TheVariants.{Cpu, Iommu}
use Rattle.rules.proofs.Addresses.{overlap_symmetric}
use Rattle.rules.proofs.Requests.{none_applies}

-- ---- clashes go both ways, and there is none without an overlap
pub clash_symmetric : (c : Configuration) (a b : Region) → clash c a b ≡ clash c b a
unfolding clash
clash_symmetric c a b =
    ap (λ (o : Bool). not (region_eq a (gic_of c)) && (not (region_eq b (gic_of c)) && o)) (overlap_symmetric _ _ _ _)
    ∙ swap (not (region_eq a (gic_of c))) (not (region_eq b (gic_of c))) (phys_overlap b a)
  where
    swap : (x y o : Bool) → (x && (y && o)) ≡ (y && (x && o))
    swap true true o = refl
    swap true false o = refl
    swap false true o = refl
    swap false false o = refl

pub clear_clash : (c : Configuration) (a b : Region) → phys_overlap a b ≡ false → clash c a b ≡ false
unfolding clash
clear_clash c a b e = rw e (last (not (region_eq a (gic_of c))) (not (region_eq b (gic_of c))))
  where
    last : (x y : Bool) → (x && (y && false)) ≡ false
    last true true = refl
    last true false = refl
    last false y = refl

-- a test that every region of a zone passes, after one more is pushed and after one is cut
all_pushed : (p : Region → Bool) (s : Side) (z : Zone) (r : Region) → all p (regions_of z) ≡ true → p r ≡ true
    → all p (regions_of (with_side s (side_of s z ++ r ∷ []) z)) ≡ true
unfolding with_side side_of
all_pushed p Cpu z r e h =
    all_append p (z.cpu ++ r ∷ []) z.iommu
    (all_append p z.cpu (r ∷ []) (all_left p z.cpu z.iommu e) (all_one p r h))
    (all_right p z.cpu z.iommu e)
all_pushed p Iommu z r e h =
    all_append p z.cpu (z.iommu ++ r ∷ []) (all_left p z.cpu z.iommu e)
    (all_append p z.iommu (r ∷ []) (all_right p z.cpu z.iommu e) (all_one p r h))

all_cut : (p : Region → Bool) (s : Side) (z : Zone) (m : ℕ) → all p (regions_of z) ≡ true
    → all p (regions_of (with_side s (remove_at m (side_of s z)) z)) ≡ true
unfolding with_side side_of
all_cut p Cpu z m e =
    all_append p (remove_at m z.cpu) z.iommu (all_removed p z.cpu m (all_left p z.cpu z.iommu e))
    (all_right p z.cpu z.iommu e)
all_cut p Iommu z m e =
    all_append p z.cpu (remove_at m z.iommu) (all_left p z.cpu z.iommu e)
    (all_removed p z.iommu m (all_right p z.cpu z.iommu e))

pub id_kept : (s : Side) (xs : List Region) (z : Zone) → (with_side s xs z).id ≡ z.id
unfolding with_side
id_kept Cpu xs z = refl
id_kept Iommu xs z = refl

-- ---- 14 does not apply: r clashes with no region of another zone
others_clear : (c : Configuration) (k : ℕ) (s : Side) (r : Region) (t : List Zone) → forbidden c k s r t ≡ false
    → (j : ℕ) → j < length t → (j ≡ k → ⊥) → any (clash c r) (regions_of (get_or t j no_zone)) ≡ false
unfolding forbidden
others_clear c k Cpu r t e j h ne =
    let b = both_false _ _ e in
    let z : Zone = get_or t j no_zone in
    let in_cpu : any (phys_overlap r) z.cpu ≡ false =
    none_at (λ (y : Zone). any (phys_overlap r) y.cpu) t no_zone b.0 j h in
    let in_iommu : any (phys_overlap r) z.iommu ≡ false =
    none_others (λ (y : Zone). any (phys_overlap r) y.iommu) t k no_zone b.1 j h ne in
    let clear : any (phys_overlap r) (regions_of z) ≡ false =
    any_append (phys_overlap r) z.cpu z.iommu ∙ false_both _ _ in_cpu in_iommu in
    none_make (clash c r) (regions_of z) no_region
    (λ i l. clear_clash c r _ (none_at (phys_overlap r) (regions_of z) no_region clear i l))
others_clear c k Iommu r t e j h ne = none_others (λ (y : Zone). any (clash c r) (regions_of y)) t k no_zone e j h ne

-- ---- any step
pub found : (id : ℕ) (t : List Zone) → present id t ≡ true → find id t < length t
found id t e = ltb-true _ _ (sym (any_first (has_id id) t) ∙ e)

module _ (lim : Limits) where
  -- ---- a sound table, part by part
  pub record SoundTable (c : Configuration) (t : List Zone) : Type 0 where
    pub few : length t ≤ lim.zones
    pub zones : all (sound_zone lim c) t ≡ true
    pub ids : pairwise ids_differ t ≡ true
    pub disjoint : pairwise (zones_apart c) t ≡ true

  module _ (c : Configuration) (t : List Zone) where
    pub sound_parts : sound lim c t ≡ true → SoundTable c t
    unfolding sound
    sound_parts e =
        let h = parts _ e in record {
          few = leb-true _ _ h.0;
          zones = h.1.0;
          ids = h.1.1.0;
          disjoint = h.1.1.1.0;
        }

    pub parts_sound : SoundTable c t → sound lim c t ≡ true
    unfolding sound
    parts_sound s = whole _ (le-leb _ _ s.few, (s.zones, (s.ids, (s.disjoint, tt))))

  -- the set of a zone of a sound table
  pub set_sound : (c : Configuration) (t : List Zone) → SoundTable c t → (z : ℕ) (s : Side) → z < length t
      → sound_set lim c (region_set t z s) ≡ true
  unfolding sound_zone region_set side_of
  set_sound c t ok z Cpu h = (parts _ (all_at (sound_zone lim c) t no_zone ok.zones z h)).1.0
  set_sound c t ok z Iommu h = (parts _ (all_at (sound_zone lim c) t no_zone ok.zones z h)).1.1.0

  -- ---- one more region in a set
  set_pushed : (c : Configuration) (xs : List Region) (r : Region) → sound_set lim c xs ≡ true → configured c r ≡ true
      → any (guest_overlap r) xs ≡ false → leb lim.in_set (length xs) ≡ false → sound_set lim c (xs ++ r ∷ []) ≡ true
  unfolding sound_set
  set_pushed c xs r e conf guest room =
      let h = parts _ e in
      let few : length xs < lim.in_set = leb-false _ _ room in
      let len : length (xs ++ r ∷ []) ≤ lim.in_set = omega (arith, length-append xs (r ∷ [])) in
      let apart : all (λ (x : Region). guest_apart x r) xs ≡ true =
      all_same _ _ (λ x. ap not (overlap_symmetric _ _ _ _)) xs ∙ sym (none_all (guest_overlap r) xs) ∙ ap not guest in
      whole _ (
        le-leb _ _ len,
        (
          all_append (configured c) xs (r ∷ []) h.1.0 (all_one (configured c) r conf),
          (pairs_append guest_apart xs r h.1.1.0 apart, tt),
        ),
      )

  zone_pushed : (c : Configuration) (s : Side) (z : Zone) (r : Region) → sound_zone lim c z ≡ true
      → well_formed (page_of lim s) r ≡ true → configured c r ≡ true → excessive s r ≡ false → on_gic c s r ≡ false
      → any (guest_overlap r) (side_of s z) ≡ false → leb lim.in_set (length (side_of s z)) ≡ false
      → sound_zone lim c (with_side s (side_of s z ++ r ∷ []) z) ≡ true
  unfolding sound_zone with_side side_of on_gic page_of
  zone_pushed c Cpu z r e formed conf few gic guest room =
      let h = parts _ e in
      whole _ (
        h.0,
        (
          set_pushed c z.cpu r h.1.0 conf guest room,
          (
            h.1.1.0,
            (
              all_append (off_gic c) z.cpu (r ∷ []) h.1.1.1.0 (all_one (off_gic c) r (not_fails _ gic)),
              (
                h.1.1.1.1.0,
                (
                  all_append (modest Cpu) z.cpu (r ∷ []) h.1.1.1.1.1.0
                      (all_one (modest Cpu) r (not_fails _ few)),
                  (h.1.1.1.1.1.1.0, tt),
                ),
              ),
            ),
          ),
        ),
      )
  zone_pushed c Iommu z r e formed conf few gic guest room =
      let h = parts _ e in
      whole _ (
        h.0,
        (
          h.1.0,
          (
            set_pushed c z.iommu r h.1.1.0 conf guest room,
            (
              h.1.1.1.0,
              (
                all_append (well_formed lim.iommu_page) z.iommu (r ∷ []) h.1.1.1.1.0
                    (all_one (well_formed lim.iommu_page) r formed),
                (
                  h.1.1.1.1.1.0,
                  (
                    all_append (modest Iommu) z.iommu (r ∷ []) h.1.1.1.1.1.1.0
                        (all_one (modest Iommu) r (not_fails _ few)),
                    tt,
                  ),
                ),
              ),
            ),
          ),
        ),
      )

  -- ---- one region less
  set_cut : (c : Configuration) (xs : List Region) (m : ℕ) → m < length xs → sound_set lim c xs ≡ true
      → sound_set lim c (remove_at m xs) ≡ true
  unfolding sound_set
  set_cut c xs m lt e =
      let h = parts _ e in
      let few : length xs ≤ lim.in_set = leb-true _ _ h.0 in
      let fewer : length (remove_at m xs) ≤ lim.in_set = omega (arith, length_removed xs m lt) in
      whole _ (
        le-leb _ _ fewer,
        (all_removed (configured c) xs m h.1.0, (pairs_removed guest_apart xs m h.1.1.0, tt)),
      )

  zone_cut : (c : Configuration) (s : Side) (z : Zone) (m : ℕ) → m < length (side_of s z) → sound_zone lim c z ≡ true
      → sound_zone lim c (with_side s (remove_at m (side_of s z)) z) ≡ true
  unfolding sound_zone with_side side_of
  zone_cut c Cpu z m lt e =
      let h = parts _ e in
      whole _ (
        h.0,
        (
          set_cut c z.cpu m lt h.1.0,
          (
            h.1.1.0,
            (
              all_removed (off_gic c) z.cpu m h.1.1.1.0,
              (
                h.1.1.1.1.0,
                (all_removed (modest Cpu) z.cpu m h.1.1.1.1.1.0, (h.1.1.1.1.1.1.0, tt)),
              ),
            ),
          ),
        ),
      )
  zone_cut c Iommu z m lt e =
      let h = parts _ e in
      whole _ (
        h.0,
        (
          h.1.0,
          (
            set_cut c z.iommu m lt h.1.1.0,
            (
              h.1.1.1.0,
              (
                all_removed (well_formed lim.iommu_page) z.iommu m h.1.1.1.1.0,
                (h.1.1.1.1.1.0, (all_removed (modest Iommu) z.iommu m h.1.1.1.1.1.1.0, tt)),
              ),
            ),
          ),
        ),
      )

  -- ---- another zone in the place of zone k, with its id
  module _ (c : Configuration) (t : List Zone) (k : ℕ) (kin : k < length t) (ok : SoundTable c t) (new : Zone)
      (same : new.id ≡ (get_or t k no_zone).id) (fine : sound_zone lim c new ≡ true)
      (earlier : (j : ℕ) → j < length t → j < k → zones_apart c (get_or t j no_zone) new ≡ true)
      (later : (j : ℕ) → j < length t → k < j → zones_apart c new (get_or t j no_zone) ≡ true) where
    replace_keeps : SoundTable c (set t k new)
    replace_keeps = record {
      few = rw (length-set t k new) ok.few;
      zones = all_set (sound_zone lim c) t k new ok.zones fine;
      ids =
          pairs_set ids_differ t k new no_zone ok.ids
          (λ j h q. rw same (pairs_at ids_differ t no_zone ok.ids j k q kin))
          (λ j h q. rw same (pairs_at ids_differ t no_zone ok.ids k j q h));
      disjoint = pairs_set (zones_apart c) t k new no_zone ok.disjoint earlier later;
    }

  module _ (c : Configuration) (t : List Zone) (k : ℕ) (s : Side) (r : Region) (kin : k < length t)
      (ok : SoundTable c t) where
    here : Zone
    here = get_or t k no_zone

    here_sound : sound_zone lim c here ≡ true
    unfolding here
    here_sound = all_at (sound_zone lim c) t no_zone ok.zones k kin

    apart_at : (i j : ℕ) → i < j → j < length t → zones_apart c (get_or t i no_zone) (get_or t j no_zone) ≡ true
    apart_at = pairs_at (zones_apart c) t no_zone ok.disjoint

    -- an accepted insert
    pub insert_keeps : well_formed (page_of lim s) r ≡ true → configured c r ≡ true → excessive s r ≡ false
        → on_gic c s r ≡ false → forbidden c k s r t ≡ false → any (guest_overlap r) (region_set t k s) ≡ false
        → leb lim.in_set (length (region_set t k s)) ≡ false → SoundTable c (pushed k s r t)
    unfolding pushed put_set region_set zones_apart here
    insert_keeps formed conf few gic forb guest room =
        let z : Zone = here in
        let new : Zone = with_side s (side_of s z ++ r ∷ []) z in
        replace_keeps c t k kin ok new (id_kept s (side_of s z ++ r ∷ []) z)
        (zone_pushed c s z r here_sound formed conf few gic guest room)
        (λ j h q. all_from (λ (a : Region). not (any (clash c a) (regions_of z))) (λ (a : Region). not (clash c r a))
        (λ (a : Region). not (any (clash c a) (regions_of new)))
        (λ a x y. none_all (clash c a) (regions_of new)
        ∙ all_pushed (λ (b : Region). not (clash c a b)) s z r (sym (none_all (clash c a) (regions_of z)) ∙ x)
        (ap not (clash_symmetric c a r) ∙ y))
        (regions_of (get_or t j no_zone)) (apart_at j k q kin)
        (sym (none_all (clash c r) (regions_of (get_or t j no_zone)))
        ∙ ap not (others_clear c k s r t forb j h (omega arith))))
        (λ j h q. all_pushed (λ (a : Region). not (any (clash c a) (regions_of (get_or t j no_zone)))) s z r
        (apart_at k j q h) (ap not (others_clear c k s r t forb j h (omega arith))))

    -- an accepted removal
    pub remove_keeps : held_in r (region_set t k s) ≡ true → SoundTable c (cut k s (first_index (region_eq r) (region_set t k s)) t)
    unfolding cut put_set region_set zones_apart here
    remove_keeps there =
        let z : Zone = here in
        let m : ℕ = first_index (region_eq r) (side_of s z) in
        let new : Zone = with_side s (remove_at m (side_of s z)) z in
        let inside : m < length (side_of s z) = ltb-true _ _ (sym (any_first (region_eq r) (side_of s z)) ∙ there) in
        replace_keeps c t k kin ok new (id_kept s (remove_at m (side_of s z)) z) (zone_cut c s z m inside here_sound)
        (λ j h q. let old : Region → Bool = λ a. not (any (clash c a) (regions_of z)) in
        all_from old old (λ (a : Region). not (any (clash c a) (regions_of new)))
        (λ a x y. none_all (clash c a) (regions_of new)
        ∙ all_cut (λ (b : Region). not (clash c a b)) s z m (sym (none_all (clash c a) (regions_of z)) ∙ x))
        (regions_of (get_or t j no_zone)) (apart_at j k q kin) (apart_at j k q kin))
        (λ j h q. all_cut (λ (a : Region). not (any (clash c a) (regions_of (get_or t j no_zone)))) s z m
        (apart_at k j q h))

  -- ---- zones come and go
  pub remove_zone_keeps : (c : Configuration) (t : List Zone) (k : ℕ) → k < length t → SoundTable c t
      → SoundTable c (dropped k t)
  unfolding dropped
  remove_zone_keeps c t k h s = record {
    few = omega (arith, length_removed t k h, s.few);
    zones = all_removed (sound_zone lim c) t k s.zones;
    ids = pairs_removed ids_differ t k s.ids;
    disjoint = pairs_removed (zones_apart c) t k s.disjoint;
  }

  pub add_keeps : (c : Configuration) (t : List Zone) (id : ℕ) → id ≤ highest_id → length t < lim.zones
      → present id t ≡ false → SoundTable c t → SoundTable c (added id t)
  unfolding added sound_zone sound_set zones_apart all any pairwise
  add_keeps c t id h room fresh s =
      let none : leb 0 lim.in_set ≡ true = le-leb 0 lim.in_set (omega arith) in record {
        few = omega (arith, length-append t (empty_zone id ∷ []));
        zones =
            all_append (sound_zone lim c) t (empty_zone id ∷ []) s.zones
            (all_one (sound_zone lim c) (empty_zone id)
            (whole _ (
              le-leb _ _ h,
              (whole _ (none, (refl, (refl, tt))), (whole _ (none, (refl, (refl, tt))), (refl, (refl, (refl, (refl, tt)))))),
            )));
        ids = pairs_append ids_differ t (empty_zone id) s.ids (sym (none_all (has_id id) t) ∙ ap not fresh);
        disjoint =
            pairs_append (zones_apart c) t (empty_zone id) s.disjoint
            (all_make (λ (y : Zone). zones_apart c y (empty_zone id)) t no_zone
            (λ j q. all_make (λ (x : Region). not (any (clash c x) (regions_of (empty_zone id)))) (regions_of (get_or t j no_zone)) no_region (λ m w. refl)));
      }

  accepted_keeps : (c : Configuration) (t : List Zone) (k : Kind) (id : ℕ) → SoundTable c t
      → first_rule (request_rules lim c k id t) 0 ≡ 0 → SoundTable c (after k id t)
  unfolding after request_rules kind_rules add_rules remove_zone_rules insert_rules region_rules set_rules remove_rules
      no_request test_of
  accepted_keeps c t AddZone id s e =
      let h = none_applies lim c AddZone id t e in
      add_keeps c t id (ltb-false _ _ (h 4)) (leb-false _ _ (h 7)) (h 5) s
  accepted_keeps c t RemoveZone id s e =
      let h = none_applies lim c RemoveZone id t e in
      remove_zone_keeps c t (find id t) (found id t (not-false _ (h 6))) s
  accepted_keeps c t (Insert side r) id s e =
      let h = none_applies lim c (Insert side r) id t e in
      insert_keeps c t (find id t) side r (found id t (not-false _ (h 6))) s (not-false _ (h 9)) (not-false _ (h 11))
      (h 19) (h 12) (h 14) (h 15) (h 16)
  accepted_keeps c t (Remove side r) id s e =
      let h = none_applies lim c (Remove side r) id t e in
      remove_keeps c t (find id t) side r (found id t (not-false _ (h 6))) s (not-false _ (h 17))
  accepted_keeps c t NoRequest id s e = s

  pub next_keeps : (c : Configuration) (t : List Zone) (q : Request) → SoundTable c t → SoundTable c (next lim c t q)
  unfolding next refusal
  next_keeps c t q s = by (eqb (first_rule (request_rules lim c q.kind q.zone t) 0) 0) refl
    where
      by : (b : Bool) → eqb (first_rule (request_rules lim c q.kind q.zone t) 0) 0 ≡ b
          → SoundTable c (cond b (after q.kind q.zone t) t)
      by true e = accepted_keeps c t q.kind q.zone s (eqb-true _ _ e)
      by false e = s

  -- ---- and so any run
  pub runs_keep : (c : Configuration) (t : List Zone) (qs : List Request) → SoundTable c t
      → SoundTable c (runs (next lim c) t qs)
  runs_keep c t qs s = run_keeps (next lim c) (SoundTable c) (next_keeps c) t qs s
