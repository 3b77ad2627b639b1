-- A run that is tried: each accepted request leaves a table that its note leads back from, so the last undone first
-- gives back the first table.
use Prim.Native.Nat.{ℕ, zero, suc, ◌+◌, ◌-◌, ◌/◌, ◌≤◌, ◌<◌}
use native.Mathlib.Decide.{ℕ_discrete}
use native.Mathlib.Omega.{arith}
use mathlib.Core.Bool.{Bool, true, false, cond}
use mathlib.Core.List.{List, [], ◌∷◌, ◌++◌}
use mathlib.Core.Path.{◌≡◌, refl, sym, ap, ap₂, subst, transport, ◌∙◌}
use borrow.Author.Tests.{ltb-true, ltb-false, leb-false, le-ltb, lt-ltb, not-false, eqb-true, eq-eqb, ne_eqb}
use lib.Dec.{ltb, eqb}
use Rattle.std.specs.Prelude.{Ok, Err}
use lib.ListN.{length, get_or, set, length-append, length-set}
use lib.Seq.{get_or-set_same, get_or-set_other, set-set}
use Rattle.lists.specs.First.{first_index}
use Rattle.lists.specs.Room.{remove_at}
use Rattle.lists.specs.Rules.{◌when◌, first_rule}
use Rattle.lists.proofs.First.{any_first, first_passes}
use Rattle.lists.proofs.Places.{length_tab}
use Rattle.lists.proofs.Room.{length_removed}
use Rattle.lists.proofs.Tests.{both_false, not_fails, not_holds}
use Rattle.rules.specs.Applying.{plain}
use Rattle.rules.specs.Changes.{region_set, with_side, put_set, added, pushed, cut, dropped}
use Rattle.rules.specs.Configuration.{Configuration}
use Rattle.rules.specs.Limits.{most_zones, highest_id, most_in_set, most_requests, limits}
use Rattle.rules.specs.Numbers.{number}
use Rattle.rules.specs.Regions.{no_region, region_eq}
use Rattle.rules.specs.Requests.{find, present, holds_any, add_rules, remove_zone_rules, region_rules, set_rules}
use Rattle.rules.specs.Requests.{insert_rules, remove_rules, kind_rules, no_request, request_rules, refusal, after, next}
use Rattle.rules.specs.Requests.{standing}
use Rattle.rules.specs.Run.{request_size, requests_in, run, ended, Run}
use Rattle.rules.specs.Tables.{no_zone, empty_zone, has_id, side_of, Zone}
use Rattle.rules.specs.declared.Kind.{Kind}
use Rattle.rules.specs.declared.Kind.TheVariants.{AddZone, RemoveZone, Insert, Remove, NoRequest}
use Rattle.rules.specs.declared.Outcome.{Outcome}
use Rattle.rules.specs.declared.Region.{Region}
use Rattle.rules.specs.declared.Request.{Request}
use Rattle.rules.specs.declared.refusal.Refusal.{Refusal}
use Rattle.rules.specs.declared.Side.{Side}
use Rattle.rules.specs.declared.Side.TheVariants.{Cpu, Iommu}
use Rattle.rules.proofs.Regions.{equal_same}
use Rattle.rules.proofs.Requests.{none_applies}
use Rattle.lists.proofs.Rules.{test_of, above_zero}
use Rattle.lists.specs.First.{all}
use Rattle.zones.specs.Decide.{decided_add, decided_drop, decided_insert, decided_cut, decided_kind, decided, changed}
use Rattle.zones.specs.Decide.{Allowed, Ready}
use Rattle.zones.specs.Trial.{trial_answer, note_of, Undoable, Before, asks, tried, Trail, Noted, WithoutRegion}
use Rattle.zones.specs.Trial.{WithoutZone}
use Rattle.zones.specs.View.{config_in, zones_in, set_in, stored_config, stored_table}
use Rattle.zones.specs.Words.{words_of, Within, Packed}
use Rattle.zones.specs.declared.decide.Change.{Change}
use Rattle.zones.specs.declared.decide.Change.TheVariants.{Add, Drop, Push, Cut}
use Rattle.zones.proofs.Focus.{put_same, view_words, words_packed}
use Rattle.zones.proofs.Running.{ready_on, Left, run_on, run_stops, run_ends, after_within}
use Rattle.zones.proofs.Ruling.{passed, number_some}
use Rattle.zones.proofs.Stepping.{decided_none, decided_table, refused_number, refused_table, stands_same}
use Rattle.zones.proofs.Writers.{set_in_law}

-- ---- what is noted
module _ (ch : Change) where
  pub note_add : (id : ℕ) → ch ≡ Add id → 0 ≡ note_of ch
  unfolding note_of
  note_add id e = rw e refl

  pub note_push : (z : ℕ) (s : Side) (r : Region) → ch ≡ Push z s r → 0 ≡ note_of ch
  unfolding note_of
  note_push z s r e = rw e refl

  pub note_drop : (z : ℕ) → ch ≡ Drop z → z ≡ note_of ch
  unfolding note_of
  note_drop z e = rw e refl

  pub note_cut : (z : ℕ) (s : Side) (i : ℕ) → ch ≡ Cut z s i → i ≡ note_of ch
  unfolding note_of
  note_cut z s i e = rw e refl

-- ---- a table with another set at a side of one of its zones
module _ (b : List Zone) (z : ℕ) (s : Side) (h : z < length b) where
  side_with : (s : Side) (ys : List Region) (y : Zone) → side_of s (with_side s ys y) ≡ ys
  unfolding side_of with_side
  side_with Cpu ys y = refl
  side_with Iommu ys y = refl

  with_with : (s : Side) (xs ys : List Region) (y : Zone) → with_side s xs (with_side s ys y) ≡ with_side s xs y
  unfolding with_side
  with_with Cpu xs ys y = refl
  with_with Iommu xs ys y = refl

  with_id_law : (s : Side) (ys : List Region) (y : Zone) → (with_side s ys y).id ≡ y.id
  unfolding with_side
  with_id_law Cpu ys y = refl
  with_id_law Iommu ys y = refl

  set_put : (ys : List Region) → region_set (put_set z s ys b) z s ≡ ys
  unfolding region_set put_set
  set_put ys =
      ap (side_of s) (get_or-set_same b z (with_side s ys (get_or b z no_zone)) no_zone h) ∙ side_with s ys (get_or b z no_zone)

  put_put : (xs ys : List Region) → put_set z s xs (put_set z s ys b) ≡ put_set z s xs b
  unfolding put_set
  put_put xs ys =
      let y : Zone = get_or b z no_zone in
      ap (λ (x : Zone). set (set b z (with_side s ys y)) z (with_side s xs x))
      (get_or-set_same b z (with_side s ys y) no_zone h)
      ∙ set-set b z (with_side s ys y) (with_side s xs (with_side s ys y))
      ∙ ap (set b z) (with_with s xs ys y)

  put_long : (ys : List Region) → length (put_set z s ys b) ≡ length b
  unfolding put_set
  put_long ys = length-set b z (with_side s ys (get_or b z no_zone))

-- ids stay, and so does where a zone is found
first_set : {A : Type 0} (p : A → Bool) (l : List A) (i : ℕ) (y d : A) → p y ≡ p (get_or l i d)
    → first_index p (set l i y) ≡ first_index p l
unfolding first_index
first_set p [] i y d e = refl
first_set p (x ∷ l) zero y d e = ap (λ (t : Bool). cond t 0 (suc (first_index p l))) e
first_set p (x ∷ l) (suc i) y d e = ap (λ (n : ℕ). cond (p x) 0 (suc n)) (first_set p l i y d e)

found_put : (id : ℕ) (b : List Zone) (z : ℕ) (s : Side) (ys : List Region) → z < length b
    → find id (put_set z s ys b) ≡ find id b
unfolding put_set
found_put id b z s ys h =
    first_set (has_id id) b z (with_side s ys (get_or b z no_zone)) no_zone
    (ap (λ (n : ℕ). eqb n id) (with_id_law b z s h s ys (get_or b z no_zone)))

-- the last one goes
removed_last : {A : Type 0} (xs : List A) (x : A) → remove_at (length xs) (xs ++ x ∷ []) ≡ xs
unfolding remove_at
removed_last [] x = refl
removed_last (y ∷ xs) x = ap (λ (l : List _). y ∷ l) (removed_last xs x)

-- ---- undoing one request
module _ (w : List ℕ) (q : Request) (p : ℕ) where
  seen : (b : List Zone) → Before b q p w → zones_in w ≡ after q.kind q.zone b
  seen b h = ap zones_in h.words ∙ view_words (after q.kind q.zone b) h.made

  -- a zone that was added
  module _ (e : q.kind ≡ AddZone) where
    after_add : (b : List Zone) → Before b q p w → zones_in w ≡ b ++ empty_zone q.zone ∷ []
    unfolding after added
    after_add b h = seen b h ∙ ap (λ (k : Kind). after k q.zone b) e

    pub add_some : (b : List Zone) × Before b q p w → 1 ≤ length (zones_in w)
    add_some (b, h) = omega (arith, ap length (after_add b h), length-append b (empty_zone q.zone ∷ []))

    pub undo_add : (u : List ℕ) (n : ℕ) → n ≡ length (zones_in w) → u ≡ words_of (dropped (n - 1) (zones_in w))
        → (b : List Zone) → Before b q p w → u ≡ words_of b
    unfolding dropped
    undo_add u n en eu b h =
        let a = after_add b h in
        let m : n - 1 ≡ length b = omega (arith, ap length a, length-append b (empty_zone q.zone ∷ [])) in
        eu ∙ ap₂ (λ (k : ℕ) (t : List Zone). words_of (remove_at k t)) m a
        ∙ ap words_of (removed_last b (empty_zone q.zone))

  -- a zone that was removed
  module _ (e : q.kind ≡ RemoveZone) where
    can_drop : (b : List Zone) → Before b q p w
        → (find q.zone b ≡ p) × ((p < length b) × (get_or b p no_zone ≡ empty_zone q.zone))
    unfolding Undoable
    can_drop b h = subst (λ (k : Kind). Undoable k q.zone p b) e h.can

    after_drop : (b : List Zone) → Before b q p w → w ≡ words_of (dropped p b)
    unfolding after
    after_drop b h =
        h.words ∙ ap (λ (k : Kind). words_of (after k q.zone b)) e
        ∙ ap (λ (k : ℕ). words_of (dropped k b)) (can_drop b h).0

    pub drop_room : (b : List Zone) × Before b q p w → (p ≤ length (zones_in w)) × (length (zones_in w) < most_zones)
    unfolding after dropped
    drop_room (b, h) =
        let there : p < length b = (can_drop b h).1.0 in
        let few : length b ≤ most_zones = h.within.zones in
        let n : length (zones_in w) ≡ length b - 1 =
        ap length (seen b h ∙ ap (λ (k : Kind). after k q.zone b) e
        ∙ ap (λ (k : ℕ). remove_at k b) (can_drop b h).0)
        ∙ length_removed b p there in
        (omega arith, omega arith)

    pub undo_drop : (u : List ℕ) (id : ℕ) → id ≡ q.zone
        → ((b : List Zone) → WithoutZone b p id w → u ≡ words_of b) → (b : List Zone) → Before b q p w → u ≡ words_of b
    undo_drop u id ei f b h =
        f b
        (record {
          within = h.within;
          there = (can_drop b h).1.0;
          same = (can_drop b h).1.1 ∙ ap empty_zone (sym ei);
          words = after_drop b h;
        })

  -- a region that was inserted
  module _ (s : Side) (r : Region) (e : q.kind ≡ Insert s r) where
    can_push : (b : List Zone) → Before b q p w
        → (find q.zone b < length b) × (length (region_set b (find q.zone b) s) < most_in_set)
    unfolding Undoable
    can_push b h = subst (λ (k : Kind). Undoable k q.zone p b) e h.can

    after_push : (b : List Zone) → Before b q p w
        → zones_in w ≡ put_set (find q.zone b) s (region_set b (find q.zone b) s ++ r ∷ []) b
    unfolding after pushed
    after_push b h = seen b h ∙ ap (λ (k : Kind). after k q.zone b) e

    push_found : (id z : ℕ) → id ≡ q.zone → z ≡ first_index (has_id id) (zones_in w) → (b : List Zone) → Before b q p w
        → z ≡ find q.zone b
    push_found id z ei ez b h =
        ez ∙ ap₂ (λ (n : ℕ) (t : List Zone). first_index (has_id n) t) ei (after_push b h)
        ∙ found_put q.zone b (find q.zone b) s _ (can_push b h).0

    pub push_there : (id z : ℕ) → id ≡ q.zone → z ≡ first_index (has_id id) (zones_in w) → (b : List Zone) × Before b q p w
        → z < length (zones_in w)
    push_there id z ei ez (b, h) =
        omega (
          arith,
          push_found id z ei ez b h,
          (can_push b h).0,
          ap length (after_push b h) ∙ put_long b (find q.zone b) s (can_push b h).0 _,
        )

    pushed_set : (id z : ℕ) → id ≡ q.zone → z ≡ first_index (has_id id) (zones_in w) → (b : List Zone) (h : Before b q p w)
        → length (set_in w z s) ≡ length (region_set b (find q.zone b) s) + 1
    pushed_set id z ei ez b h =
        let k : ℕ = find q.zone b in
        ap length
        (sym (set_in_law w z s (push_there id z ei ez (b, h)))
        ∙ ap₂ (λ (t : List Zone) (n : ℕ). region_set t n s) (after_push b h) (push_found id z ei ez b h)
        ∙ set_put b k s (can_push b h).0 (region_set b k s ++ r ∷ []))
        ∙ length-append (region_set b k s) (r ∷ [])

    pub push_some : (id z : ℕ) → id ≡ q.zone → z ≡ first_index (has_id id) (zones_in w) → (b : List Zone) × Before b q p w
        → 1 ≤ length (set_in w z s)
    push_some id z ei ez (b, h) = omega (arith, pushed_set id z ei ez b h)

    pub undo_push : (u : List ℕ) (id z n : ℕ) → id ≡ q.zone → z ≡ first_index (has_id id) (zones_in w)
        → n ≡ length (set_in w z s) → u ≡ words_of (cut z s (n - 1) (zones_in w)) → (b : List Zone) → Before b q p w
        → u ≡ words_of b
    unfolding cut
    undo_push u id z n ei ez en eu b h =
        let k : ℕ = find q.zone b in
        let there : k < length b = (can_push b h).0 in
        let xs : List Region = region_set b k s in
        let m : n - 1 ≡ length xs = omega (arith, en ∙ pushed_set id z ei ez b h) in
        eu
        ∙ ap₂ (λ (i : ℕ) (t : List Zone). words_of (put_set i s (remove_at (n - 1) (region_set t i s)) t))
        (push_found id z ei ez b h) (after_push b h)
        ∙ ap₂ (λ (i : ℕ) (ys : List Region). words_of (put_set k s (remove_at i ys) (put_set k s (xs ++ r ∷ []) b))) m
        (set_put b k s there (xs ++ r ∷ []))
        ∙ ap (λ (ys : List Region). words_of (put_set k s ys (put_set k s (xs ++ r ∷ []) b))) (removed_last xs r)
        ∙ ap words_of (put_put b k s there xs (xs ++ r ∷ []) ∙ put_same b k s there h.within.zones)

  -- a region that was removed
  module _ (s : Side) (r : Region) (e : q.kind ≡ Remove s r) where
    can_cut : (b : List Zone) → Before b q p w
        → (find q.zone b < length b)
        × ((p < length (region_set b (find q.zone b) s))
        × ((get_or (region_set b (find q.zone b) s) p no_region ≡ r)
        × (after (Remove s r) q.zone b ≡ cut (find q.zone b) s p b)))
    unfolding Undoable
    can_cut b h = subst (λ (k : Kind). Undoable k q.zone p b) e h.can

    after_cut : (b : List Zone) → Before b q p w → zones_in w ≡ cut (find q.zone b) s p b
    after_cut b h = seen b h ∙ ap (λ (k : Kind). after k q.zone b) e ∙ (can_cut b h).1.1.1

    cut_found : (id z : ℕ) → id ≡ q.zone → z ≡ first_index (has_id id) (zones_in w) → (b : List Zone) → Before b q p w
        → z ≡ find q.zone b
    unfolding cut
    cut_found id z ei ez b h =
        ez ∙ ap₂ (λ (n : ℕ) (t : List Zone). first_index (has_id n) t) ei (after_cut b h)
        ∙ found_put q.zone b (find q.zone b) s _ (can_cut b h).0

    pub cut_there : (id z : ℕ) → id ≡ q.zone → z ≡ first_index (has_id id) (zones_in w) → (b : List Zone) × Before b q p w
        → z < length (zones_in w)
    unfolding cut
    cut_there id z ei ez (b, h) =
        omega (
          arith,
          cut_found id z ei ez b h,
          (can_cut b h).0,
          ap length (after_cut b h) ∙ put_long b (find q.zone b) s (can_cut b h).0 _,
        )

    pub cut_room : (id z : ℕ) → id ≡ q.zone → z ≡ first_index (has_id id) (zones_in w) → (b : List Zone) × Before b q p w
        → (p ≤ length (set_in w z s)) × (length (set_in w z s) < most_in_set)
    unfolding cut
    cut_room id z ei ez (b, h) =
        let k : ℕ = find q.zone b in
        let there : k < length b = (can_cut b h).0 in
        let inside : p < length (region_set b k s) = (can_cut b h).1.0 in
        let few : length (region_set b k s) ≤ most_in_set = h.within.sets k s there in
        let n : length (set_in w z s) ≡ length (region_set b k s) - 1 =
        ap length
        (sym (set_in_law w z s (cut_there id z ei ez (b, h)))
        ∙ ap₂ (λ (t : List Zone) (n : ℕ). region_set t n s) (after_cut b h) (cut_found id z ei ez b h)
        ∙ set_put b k s there (remove_at p (region_set b k s)))
        ∙ length_removed (region_set b k s) p inside in
        (omega arith, omega arith)

    pub undo_cut : (u : List ℕ) (id z : ℕ) → id ≡ q.zone → z ≡ first_index (has_id id) (zones_in w)
        → ((b : List Zone) → WithoutRegion b z s p r w → u ≡ words_of b) → (b : List Zone) → Before b q p w
        → u ≡ words_of b
    undo_cut u id z ei ez f b h =
        let k : z ≡ find q.zone b = cut_found id z ei ez b h in
        f b
        (rw k
        (record {
          within = h.within;
          there = (can_cut b h).0;
          inside = (can_cut b h).1.0;
          same = (can_cut b h).1.1.0;
          words =
              h.words
              ∙ ap (λ (k : Kind). words_of (after k q.zone b)) e
              ∙ ap words_of (can_cut b h).1.1.1;
        }))

  -- one that was none was not accepted
  pub undo_none : q.kind ≡ NoRequest → (b : List Zone) → Before b q p w → w ≡ words_of b
  unfolding Undoable
  undo_none e b h = absurd (subst (λ (k : Kind). Undoable k q.zone p b) e h.can)

-- ---- an accepted request, by its note
empty : (xs : List Region) → length xs ≤ 0 → xs ≡ []
empty [] h = refl
empty (x ∷ xs) h = absurd (omega arith)

-- a zone that may be removed is empty
empty_zone_law : (id : ℕ) (t : List Zone) → find id t < length t → holds_any (find id t) t ≡ false
    → get_or t (find id t) no_zone ≡ empty_zone id
unfolding holds_any region_set side_of
empty_zone_law id t h none =
    let z : Zone = get_or t (find id t) no_zone in
    let (a, b) = both_false (ltb 0 (length z.cpu)) (ltb 0 (length z.iommu)) none in
    let i : z.id ≡ id = eqb-true _ _ (first_passes (has_id id) t no_zone h) in
    let x : z.cpu ≡ [] = empty z.cpu (ltb-false _ _ a) in
    let y : z.iommu ≡ [] = empty z.iommu (ltb-false _ _ b) in
    (λ k. record { id = i k; cpu = x k; iommu = y k })

found : (id : ℕ) (t : List Zone) → present id t ≡ true → find id t < length t
found id t e = ltb-true _ _ (sym (any_first (has_id id) t) ∙ e)

kind_undoable : (c : Configuration) (t : List Zone) (k : Kind) (id : ℕ) (ch : Change) → Ok ch ≡ decided_kind c k id t
    → first_rule (request_rules limits c k id t) 0 ≡ 0 → Undoable k id (note_of ch) t
unfolding Undoable note_of decided_kind decided_add decided_drop decided_insert decided_cut request_rules kind_rules add_rules
    remove_zone_rules insert_rules region_rules set_rules remove_rules no_request after above_zero all first_rule test_of
kind_undoable c t AddZone id ch e z = leb-false _ _ (none_applies limits c AddZone id t z 7)
kind_undoable c t RemoveZone id ch e z =
    let q = none_applies limits c RemoveZone id t z in
    let h : find id t < length t = found id t (not-false _ (q 6)) in
    subst (λ (x : Change). (find id t ≡ note_of x)
    × ((note_of x < length t) × (get_or t (note_of x) no_zone ≡ empty_zone id)))
    (sym (passed (4 when ltb highest_id id ∷ remove_zone_rules id t) (Drop (find id t)) ch e).1)
    (refl, (h, empty_zone_law id t h (q 8)))
kind_undoable c t (Insert s r) id ch e z =
    let q = none_applies limits c (Insert s r) id t z in
    (found id t (not-false _ (q 6)), leb-false _ _ (q 16))
kind_undoable c t (Remove s r) id ch e z =
    let q = none_applies limits c (Remove s r) id t z in
    let xs : List Region = region_set t (find id t) s in
    let i : ℕ = first_index (region_eq r) xs in
    let h : i < length xs = ltb-true _ _ (sym (any_first (region_eq r) xs) ∙ not-false _ (q 17)) in
    subst (λ (x : Change). (find id t < length t)
    × ((note_of x < length xs)
    × ((get_or xs (note_of x) no_region ≡ r) × (cut (find id t) s i t ≡ cut (find id t) s (note_of x) t))))
    (sym (passed (4 when ltb highest_id id ∷ remove_rules id s r t) (Cut (find id t) s i) ch e).1) (
      found id t (not-false _ (q 6)),
      (h, (sym (equal_same r (get_or xs i no_region) (first_passes (region_eq r) xs no_region h)), refl)),
    )
kind_undoable c t NoRequest id ch e z = omega arith

-- what is noted fits a byte
pub note_small : (t : List Zone) (d : Change) → Allowed d t → Within t → note_of d < 256
unfolding note_of Allowed
note_small t (Add id) a w = omega arith
note_small t (Drop z) a w = let few : length t ≤ most_zones = w.zones in omega arith
note_small t (Push z s r) a w = omega arith
note_small t (Cut z s i) a w = let few : length (region_set t z s) ≤ most_in_set = w.sets z s a.0 in omega arith

-- ---- the trail of a run
module _ (c : List ℕ) (b : List Zone) (r notes w : List ℕ) (i : ℕ) (trail : Trail b r notes i w) where
  here : zones_in w ≡ tried r b i
  here = ap zones_in trail.words ∙ view_words (tried r b i) (trail.within i (omega arith))

  module _ (q : Request) (d : Change) (m : ℕ) (u : List ℕ) (ready : Ready c w) (eq : q ≡ asks r i)
      (ed : Ok d ≡ decided (config_in c) (zones_in w) q) (em : m ≡ note_of d)
      (eu : u ≡ words_of (changed d (zones_in w))) (room : i < length notes) where
    accepted : refusal limits (config_in c) (zones_in w) q ≡ 0
    accepted = sym (decided_none (config_in c) (zones_in w) q (Ok d) ed d refl)

    next_after : next limits (config_in c) (zones_in w) q ≡ after q.kind q.zone (zones_in w)
    unfolding next
    next_after =
        ap (λ (x : Bool). cond x (after q.kind q.zone (zones_in w)) (zones_in w)) (eq-eqb _ 0 accepted)

    left : u ≡ words_of (next limits (config_in c) (zones_in w) q)
    left = eu ∙ ap words_of (decided_table (config_in c) (zones_in w) q (Ok d) ed d refl)

    one_more_law : after q.kind q.zone (zones_in w) ≡ tried r b (suc i)
    unfolding tried
    one_more_law = λ j. after (eq j).kind (eq j).zone (here j)

    undoable : Undoable (asks r i).kind (asks r i).zone (get_or (set notes i m) i 0) (tried r b i)
    unfolding refusal decided
    undoable =
        let f : Undoable q.kind q.zone (note_of d) (zones_in w) =
        kind_undoable (config_in c) (zones_in w) q.kind q.zone d ed accepted in
        let n : note_of d ≡ get_or (set notes i m) i 0 = sym em ∙ sym (get_or-set_same notes i m 0 room) in
        transport (λ j. Undoable (eq j).kind (eq j).zone (n j) (here j)) f

    pub trail_on : Trail b r (set notes i m) (i + 1) u
    trail_on =
        let s : suc i ≡ i + 1 = omega arith in
        subst (λ (n : ℕ). Trail b r (set notes i m) n u) s
        (record {
          words = left ∙ ap words_of (next_after ∙ one_more_law);
          within =
              λ j h. elim (ℕ_discrete j (suc i)) [
                | yes e ↦ subst Within (next_after ∙ one_more_law ∙ ap (tried r b) (sym e)) (after_within c w u q ready left)
                | no ne ↦ trail.within j (omega arith)
              ];
          each =
              λ j h. elim (ℕ_discrete j i) [
                | yes e ↦ subst (λ (n : ℕ). Undoable (asks r n).kind (asks r n).zone (get_or (set notes i m) n 0)
                    (tried r b n)) (sym e) undoable
                | no ne ↦ subst (λ (n : ℕ). Undoable (asks r j).kind (asks r j).zone n (tried r b j))
                    (sym (get_or-set_other notes i j m 0 ne)) (trail.each j (omega arith))
              ];
        })

pub trail_none : (r notes t : List ℕ) → Packed t → Trail (zones_in t) r notes 0 t
unfolding tried
trail_none r notes t p = record {
  words = p.words;
  within = λ j h. (let e : 0 ≡ j = omega arith in subst (λ (n : ℕ). Within (tried r (zones_in t) n)) e p.within);
  each = λ j h. absurd (omega arith);
}

-- ---- the loop that notes: R is the whole run, and the notes are those of the requests so far
module _ (c t₀ r notes w : List ℕ) (n i : ℕ) (q : Request) (R : Run) (ready : Ready c w)
    (more : i < n) (left_over : Left c (asks r) n R w i) (trail : Trail (zones_in t₀) r notes i w)
    (eq : q ≡ asks r i) where
  module _ (u : List ℕ) (m : ℕ) (d : Change) (room : i < length notes) (ed : Ok d ≡ decided (config_in c) (zones_in w) q)
      (em : m ≡ note_of d) (eu : u ≡ words_of (changed d (zones_in w))) where
    words_so : u ≡ words_of (next limits (config_in c) (zones_in w) q)
    words_so = eu ∙ ap words_of (decided_table (config_in c) (zones_in w) q (Ok d) ed d refl)

    pub noting_on : (Ready c u × Left c (asks r) n R u (i + 1)) × Trail (zones_in t₀) r (set notes i m) (i + 1) u
    noting_on = (
      (
        ready_on c w u q ready words_so,
        run_on c (asks r) n R w u i 0 q left_over more eq
            (decided_none (config_in c) (zones_in w) q (Ok d) ed d refl) words_so ready refl,
      ),
      trail_on c (zones_in t₀) r notes w i trail q d m u ready eq ed em eu room,
    )

  -- a refused request leaves the words as they were
  pub noting_stops : (e : Refusal) → Err (number e) ≡ decided (config_in c) (zones_in w) q
      → R ≡ run limits (config_in c) (zones_in t₀) (requests_in r) → n ≡ length r / request_size
      → Noted c t₀ r (record { number = 27; place = i; inner = number e }) w notes
  noting_stops e ed er en =
      let stay : w ≡ words_of (next limits (config_in c) (zones_in w) q) =
      ready.words.words ∙ ap words_of (refused_table (config_in c) (zones_in w) q (Err e) ed e refl) in
      record {
        answer =
            run_stops c (asks r) n R w w i (number e) q left_over more eq
            (refused_number (config_in c) (zones_in w) q (Err e) ed e refl) stay (number_some e)
            ∙ ap ended er;
        few = omega arith;
        trail = trail;
      }

pub noting_ends : (c t₀ r notes w : List ℕ) (n i : ℕ) (R : Run) → Left c (asks r) n R w i
    → Trail (zones_in t₀) r notes i w → n ≤ i → i ≤ n → R ≡ run limits (config_in c) (zones_in t₀) (requests_in r)
    → n ≡ length r / request_size → Noted c t₀ r (record { number = 0; place = n; inner = 0 }) w notes
noting_ends c t₀ r notes w n i R left_over trail a z er en =
    let e : i ≡ n = omega arith in record {
      answer = run_ends c (asks r) n R w i left_over a z ∙ ap ended er;
      few = omega arith;
      trail = subst (λ (j : ℕ). Trail (zones_in t₀) r notes j w) e trail;
    }

-- ---- the loop that undoes
module _ (b : List Zone) (r notes w : List ℕ) (i : ℕ) (q : Request) (trail : Trail b r notes i w) (some : 0 < i)
    (eq : q ≡ asks r (i - 1)) where
  pub trail_packed : Packed w
  trail_packed = subst Packed (sym trail.words) (words_packed (tried r b i) (trail.within i (omega arith)))

  pub trail_before : Before (tried r b (i - 1)) q (get_or notes (i - 1) 0) w
  unfolding tried
  trail_before =
      let s : i ≡ suc (i - 1) = omega arith in
      let made : tried r b i ≡ after q.kind q.zone (tried r b (i - 1)) =
      ap (tried r b) s ∙ ap (λ (x : Request). after x.kind x.zone (tried r b (i - 1))) (sym eq) in
      record {
        within = trail.within (i - 1) (omega arith);
        can =
            subst (λ (x : Request). Undoable x.kind x.zone (get_or notes (i - 1) 0) (tried r b (i - 1))) (sym eq)
            (trail.each (i - 1) (omega arith));
        made = subst Within made (trail.within i (omega arith));
        words = trail.words ∙ ap words_of made;
      }

  pub trail_back : (u : List ℕ) → ((x : List Zone) → Before x q (get_or notes (i - 1) 0) w → u ≡ words_of x)
      → Trail b r notes (i - 1) u
  trail_back u f = record {
    words = f (tried r b (i - 1)) trail_before;
    within = λ j h. trail.within j (omega arith);
    each = λ j h. trail.each j (omega arith);
  }

pub trail_first : (b : List Zone) (r notes w : List ℕ) (i : ℕ) → Trail b r notes i w → i ≤ 0 → w ≡ words_of b
unfolding tried
trail_first b r notes w i trail h = let e : i ≡ 0 = omega arith in trail.words ∙ ap (λ (j : ℕ). words_of (tried r b j)) e

-- ---- undone
pub all_undone : (c t r : List ℕ) (o : Outcome) (u v x : List ℕ) → Noted c t r o u v → Packed t
    → ((b : List Zone) → Trail b r v o.place u → x ≡ words_of b) → x ≡ t
all_undone c t r o u v x h p f = f (zones_in t) h.trail ∙ sym p.words

-- ---- from outside
module _ (c t r : List ℕ) (n : ℕ) (e : n ≡ standing limits (stored_config c) (stored_table t)) where
  many : length (requests_in r) ≡ length r / request_size
  unfolding requests_in
  many = length_tab (length r / request_size) (asks r)

  pub trial_none : (n ≡ 0 → ⊥)
      → record { number = n; place = 0; inner = 0 }
      ≡ trial_answer limits (stored_config c) (stored_table t) (requests_in r)
  unfolding trial_answer first_rule
  trial_none ne = rw (not_fails _ (ne_eqb _ 0 (λ z. ne (e ∙ z)))) (λ i. plain (e i) 0)

  module _ (z : n ≡ 0) where
    pub trial_many : most_requests < length r / request_size
        → record { number = 29; place = 0; inner = 0 }
        ≡ trial_answer limits (stored_config c) (stored_table t) (requests_in r)
    unfolding trial_answer first_rule
    trial_many h =
        let l : most_requests < length (requests_in r) = omega (arith, many) in
        rw (not_holds _ (eq-eqb _ 0 (sym e ∙ z)), lt-ltb _ _ l)

    pub trial_run : (o : Outcome) → length r / request_size ≤ most_requests
        → o ≡ ended (run limits (config_in c) (zones_in t) (requests_in r))
        → o ≡ trial_answer limits (stored_config c) (stored_table t) (requests_in r)
    unfolding trial_answer first_rule
    trial_run o h g =
        let l : length (requests_in r) ≤ most_requests = omega (arith, many) in
        rw (not_holds _ (eq-eqb _ 0 (sym e ∙ z)), le-ltb _ _ l)
        (g ∙ ap (λ (x : List Zone). ended (run limits (config_in c) x (requests_in r))) (stands_same c t n e z))
