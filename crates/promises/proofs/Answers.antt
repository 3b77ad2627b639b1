-- The first number that applies: each test of the rules means its line of the document's table.
use Prim.Native.Nat.{ℕ, ◌+◌, ◌-◌, ◌≤◌, ◌<◌}
use native.Mathlib.Omega.{arith}
use mathlib.Core.Bool.{Bool, true, false, cond, not, ◌&&◌, ◌||◌, true≢false}
use mathlib.Core.List.{List, [], ◌∷◌, ◌++◌}
use mathlib.Core.Logic.{◌⊎◌, inl, inr, ⊎_elim}
use mathlib.Core.Path.{◌≡◌, refl, sym, ap, subst, ◌∙◌}
use borrow.Author.Tests.{ltb-true, ltb-false, leb-true, eqb-true, not-true, eqb-false, lt-ltb, le-leb, eq-eqb, ne_eqb}
use lib.Dec.{ltb, leb, eqb}
use lib.ListN.{length, get_or, drop, length-drop}
use Rattle.lists.specs.First.{first_index, any}
use Rattle.lists.specs.Lines.{FirstOf, Exactly}
use Rattle.lists.specs.Room.{remove_at}
use Rattle.lists.specs.Rules.{◌when◌, first_rule, Rule}
use Rattle.lists.proofs.Every.{any_make, any_at, none_at}
use Rattle.lists.proofs.First.{any_first, first_passes}
use Rattle.lists.proofs.Lines.{Tells, tells_not, exactly, exactly_of, first_of, first_map, all, ◌and◌, Matches, NoneOf}
use Rattle.lists.proofs.Places.{first_failing, other_at, other_make}
use Rattle.lists.proofs.Tests.{both_true, true_both, both_false, one_true, or_left, or_right, not_fails, not_holds}
use Rattle.lists.proofs.Tests.{true_of, false_of, parts, whole}
use Rattle.formats.specs.Formats.{Out, got, bad, left, then, at_end, read_file}
use Rattle.formats.proofs.Formats.{Part, part_at, Told}
use Rattle.rules.specs.Addresses.{Shared, overlaps}
use Rattle.rules.specs.Applying.{last_edition, same_list, same_zone, same_config, plain, judged_rules, judged, apply_read}
use Rattle.rules.specs.Applying.{apply, base_of, answer_read, answer_alone, Terminal}
use Rattle.rules.specs.Changes.{region_set}
use Rattle.rules.specs.Configuration.{gic_of, config_of, check, is_sound, check_number, check_place, check_earlier}
use Rattle.rules.specs.Configuration.{Configuration, StoredConfig}
use Rattle.rules.specs.Limits.{page_of, Limits}
use Rattle.rules.specs.Plan.{plan_format, read_plan, requests_of, Plan}
use Rattle.rules.specs.Regions.{well_formed, may_write, may_execute, in_reach, region_eq, phys_overlap, guest_overlap, no_region}
use Rattle.rules.specs.Requests.{find, present, held_in, holds_any, on_gic, forbidden, add_rules, remove_zone_rules}
use Rattle.rules.specs.Requests.{region_rules, set_rules, insert_rules, remove_rules, kind_rules, no_request, request_rules}
use Rattle.rules.specs.Requests.{refusal, standing_rules, standing, answer}
use Rattle.rules.specs.Run.{run, ended, run_answer, Run}
use Rattle.rules.specs.Tables.{no_zone, has_id, regions_of, configured, excessive, clash, table_of, check_table, Zone}
use Rattle.rules.specs.Tables.{StoredTable}
use Rattle.rules.specs.Translation.{covers_guest, covering_in, phys_in, remaining_in, translation_rules, translated_as}
use Rattle.rules.specs.Translation.{translation, translated}
use Rattle.rules.specs.declared.Checked.{Checked}
use Rattle.rules.specs.declared.Checked.TheVariants.{Sound, BadCount, BadGic, NotZero, Malformed, OutOfReach, Overlap}
use Rattle.rules.specs.declared.Guest.{Guest}
use Rattle.rules.specs.declared.Kind.{Kind}
use Rattle.rules.specs.declared.Kind.TheVariants.{AddZone, RemoveZone, Insert, Remove, NoRequest}
use Rattle.rules.specs.declared.Outcome.{Outcome}
use Rattle.rules.specs.declared.Region.{Region}
use Rattle.rules.specs.declared.Request.{Request}
use Rattle.rules.specs.declared.Side.{Side}
use Rattle.rules.specs.declared.Side.TheVariants.{Cpu, Iommu}
use Rattle.rules.proofs.Addresses.{overlap_shared}
use Rattle.rules.proofs.Applying.{same_list_law, list_same, same_zone_law, zone_same, outcome_by}
use Rattle.rules.proofs.Configuration.{sound_is, sound_answer}
use Rattle.rules.proofs.Keeps.{sound_parts, SoundTable}
use Rattle.rules.proofs.Plan.{lawful_plan}
use Rattle.rules.proofs.Regions.{equal_same, equal_refl}
use Rattle.rules.proofs.Run.{run_all, run_stops}
use Rattle.rules.proofs.Sections.{whole_read, own_config_law, own_zones}
use Rattle.rules.proofs.Translation.{covers_parts, parts_cover, same_distance, remains_to_end}
use Rattle.promises.specs.Answers.{HasTooMany, standing_lines, HasZone, IsWellFormed, IsInReach, MeetsPhys, MeetsGuest, SomeIn}
use Rattle.promises.specs.Answers.{SomeZone, ForbiddenFor, kind_lines, RequestSays, RefusalIsExact, AnswerIsExact}
use Rattle.promises.specs.Answers.{ComesOut, TranslatedIsExact, no_ask, number_at, RunAnswerIsExact, all_accepted}
use Rattle.promises.specs.Answers.{twenty_seven, Ends, twenty, twenty_one, twenty_two, reads, Reading, AtTerminal}
use Rattle.promises.specs.Answers.{ApplyIsExact, Alone, AloneIsExact, NeverAlone, StandingIsInside, Stands}
use Rattle.promises.specs.Answers.{nothing, c1, c2, c3, c4, c5, c6, Finds, CheckNumbersAreExact}
use Rattle.promises.specs.Configuration.{Means}
use Rattle.promises.specs.Tables.{In}
use Rattle.promises.specs.Translation.{CoversGuest}
use Rattle.promises.proofs.Configuration.{check_is_exact}
use Rattle.promises.proofs.Translation.{one_covers, set_there}

-- ---- what the tests mean
pub tells_lt : (a b : ℕ) → Tells (ltb a b) (a < b)
tells_lt a b = (ltb-true a b, lt-ltb a b)

tells_le : (a b : ℕ) → Tells (leb a b) (a ≤ b)
tells_le a b = (leb-true a b, le-leb a b)

pub tells_eq : (a b : ℕ) → Tells (eqb a b) (a ≡ b)
tells_eq a b = (eqb-true a b, eq-eqb a b)

-- what is not below is above, and what is below or equal and not equal is below
pub not_less : (a b : ℕ) → (a < b → ⊥) → b ≤ a
not_less a b n = ltb-false a b (false_of (ltb a b) (λ e. n (ltb-true a b e)))

pub not_equal : (a b : ℕ) → a ≤ b → (a ≡ b → ⊥) → a < b
not_equal a b h n =
    ltb-true a b (true_of (ltb a b) (λ e. let k : b ≤ a = ltb-false a b e in n (omega arith)))

pub tells_zone : (id : ℕ) (t : List Zone) → Tells (present id t) (HasZone id t)
tells_zone id t = (
  (λ e. let (z, h, q) = any_at (has_id id) t no_zone e in (z, h, eqb-true _ _ q)),
  (λ (z, h, q). any_make (has_id id) t no_zone z h (eq-eqb _ _ q)),
)

-- some element of a set, some zone, some other zone than the one at k
pub tells_some : (p : Region → Bool) (P : Region → Type 0) → ((x : Region) → Tells (p x) (P x)) → (xs : List Region)
    → Tells (any p xs) (SomeIn xs P)
tells_some p P f xs = (
  (λ e. let (i, h, q) = any_at p xs no_region e in (get_or xs i no_region, (i, h, refl), (f (get_or xs i no_region)).0 q)),
  (λ (x, (i, h, q), m). any_make p xs no_region i h (ap p q ∙ (f x).1 m)),
)

tells_any : (p : Zone → Bool) (P : Zone → Type 0) → ((y : Zone) → Tells (p y) (P y)) → (t : List Zone)
    → Tells (any p t) (SomeZone t (λ z y. P y))
tells_any p P f t = (
  (λ e. let (z, h, q) = any_at p t no_zone e in (z, h, (f (get_or t z no_zone)).0 q)),
  (λ (z, h, m). any_make p t no_zone z h ((f (get_or t z no_zone)).1 m)),
)

pub tells_other : (p : Zone → Bool) (P : Zone → Type 0) → ((y : Zone) → Tells (p y) (P y)) → (t : List Zone) (k : ℕ)
    → Tells (any p (remove_at k t)) (SomeZone t (λ z y. (z ≡ k → ⊥) × P y))
tells_other p P f t k = (
  (λ e. let (z, h, ne, q) = other_at p t k no_zone e in (z, h, (ne, (f (get_or t z no_zone)).0 q))),
  (λ (z, h, m). other_make p t k no_zone z h m.0 ((f (get_or t z no_zone)).1 m.1)),
)

pub tells_in : (r : Region) (xs : List Region) → Tells (held_in r xs) (In r xs)
tells_in r xs = (
  (λ e. let (i, h, q) = any_at (region_eq r) xs no_region e in (i, h, sym (equal_same r (get_or xs i no_region) q))),
  (λ (i, h, q). any_make (region_eq r) xs no_region i h (ap (region_eq r) q ∙ equal_refl r)),
)

tells_same : (r x : Region) → Tells (region_eq r x) (r ≡ x)
tells_same r x = (equal_same r x, λ e. ap (region_eq r) (sym e) ∙ equal_refl r)

tells_meets : (a m b n : ℕ) → Tells (overlaps a m b n) (Shared a m b n)
tells_meets a m b n = overlap_shared a m b n

-- two tests, of which one holds; that both hold
pub tells_either : (a b : Bool) (P Q : Type 0) → Tells a P → Tells b Q → Tells (a || b) (P ⊎ Q)
tells_either a b P Q f g = (
  (λ e. ⊎_elim (λ x. inl (f.0 x)) (λ y. inr (g.0 y)) (one_true a b e)),
  λ m. ⊎_elim (λ x. or_left a b (f.1 x)) (λ y. or_right a b (g.1 y)) m,
)

tells_both : (a b : Bool) (P Q : Type 0) → Tells a P → Tells b Q → Tells (a && b) (P × Q)
tells_both a b P Q f g =
    ((λ e. let (x, y) = both_true a b e in (f.0 x, g.0 y)), λ m. true_both a b (f.1 m.0) (g.1 m.1))

-- what cannot fail holds
pub twice : (t : Bool) {P : Type 0} → Tells t P → ((P → ⊥) → ⊥) → t ≡ true
twice t f n = true_of t (λ e. n (λ h. true≢false (sym (f.1 h) ∙ e)))

-- a set that is not empty, of two
none_in : (xs : List Region) → length xs ≤ 0 → xs ≡ []
none_in [] h = refl
none_in (x ∷ xs) h = absurd (omega arith)

tells_held : (xs ys : List Region) → Tells (ltb 0 (length xs) || ltb 0 (length ys)) ((xs ≡ []) × (ys ≡ []) → ⊥)
tells_held xs ys = (
  (λ e (p, q). ⊎_elim (λ a. let h : 0 < length xs = ltb-true _ _ a in omega (arith, ap length p))
      (λ a. let h : 0 < length ys = ltb-true _ _ a in omega (arith, ap length q))
      (one_true (ltb 0 (length xs)) (ltb 0 (length ys)) e)),
  (λ n. true_of _ (λ e. let (a, b) = both_false (ltb 0 (length xs)) (ltb 0 (length ys)) e in
      n (none_in xs (ltb-false _ _ a), none_in ys (ltb-false _ _ b)))),
)

tells_formed : (page : ℕ) (r : Region) → Tells (well_formed page r) (IsWellFormed page r)
unfolding well_formed
tells_formed page r = (
  (λ e. let p = parts _ e in (
    ltb-true _ _ p.0,
    eqb-true _ _ p.1.0,
    eqb-true _ _ p.1.1.0,
    eqb-true _ _ p.1.1.1.0,
    ltb-true _ _ p.1.1.1.1.0,
    leb-true _ _ p.1.1.1.1.1.0,
  )),
  (λ (a, b, c, d, e, f). whole _ (lt-ltb _ _ a, (eq-eqb _ _ b, (eq-eqb _ _ c, (eq-eqb _ _ d, (lt-ltb _ _ e, (le-leb _ _ f, tt))))))),
)

tells_reach : (l : Limits) (r : Region) → Tells (in_reach l r) (IsInReach l r)
unfolding in_reach
tells_reach l r = (
  (λ e. let p = parts _ e in (leb-true _ _ p.0, leb-true _ _ p.1.0)),
  λ (a, b). whole _ (le-leb _ _ a, (le-leb _ _ b, tt)),
)

tells_rights : (s : Side) (r : Region) → Tells (excessive s r) (HasTooMany s r)
unfolding excessive
tells_rights Cpu r = (
  (λ e. let (a, b) = both_true (may_write r) (may_execute r) e in (eqb-true _ _ a, eqb-true _ _ b)),
  λ (a, b). true_both (may_write r) (may_execute r) (eq-eqb _ _ a) (eq-eqb _ _ b),
)
tells_rights Iommu r = ((λ e. eqb-true _ _ e), λ a. eq-eqb _ _ a)

is_cpu : Side → Bool
is_cpu Cpu = true
is_cpu Iommu = false

tells_gic : (c : Configuration) (s : Side) (r : Region) → Tells (on_gic c s r) ((s ≡ Cpu) × MeetsPhys r (gic_of c))
unfolding on_gic is_cpu
tells_gic c Cpu r = ((λ e. (refl, (tells_meets _ _ _ _).0 e)), λ (q, m). (tells_meets _ _ _ _).1 m)
tells_gic c Iommu r = ((λ e. absurd (true≢false (sym e))), λ (q, m). absurd (true≢false (sym (ap is_cpu q))))

tells_clash : (c : Configuration) (r x : Region)
    → Tells (clash c r x) ((r ≡ gic_of c → ⊥) × ((x ≡ gic_of c → ⊥) × MeetsPhys r x))
unfolding clash
tells_clash c r x =
    tells_both _ _ _ _ (tells_not _ _ (tells_same r (gic_of c)))
    (tells_both _ _ _ _ (tells_not _ _ (tells_same x (gic_of c))) (tells_meets _ _ _ _))

tells_forbidden : (c : Configuration) (k : ℕ) (s : Side) (r : Region) (t : List Zone)
    → Tells (forbidden c k s r t) (ForbiddenFor c k s r t)
unfolding forbidden
tells_forbidden c k Cpu r t =
    tells_either _ _ _ _
    (tells_any (λ (y : Zone). any (phys_overlap r) y.cpu) (λ y. SomeIn y.cpu (MeetsPhys r))
    (λ y. tells_some (phys_overlap r) (MeetsPhys r) (λ x. tells_meets _ _ _ _) y.cpu) t)
    (tells_other (λ (y : Zone). any (phys_overlap r) y.iommu) (λ y. SomeIn y.iommu (MeetsPhys r))
    (λ y. tells_some (phys_overlap r) (MeetsPhys r) (λ x. tells_meets _ _ _ _) y.iommu) t k)
tells_forbidden c k Iommu r t =
    tells_other (λ (y : Zone). any (clash c r) (regions_of y))
    (λ y. SomeIn (regions_of y) (λ x. (r ≡ gic_of c → ⊥) × ((x ≡ gic_of c → ⊥) × MeetsPhys r x)))
    (λ y. tells_some (clash c r) (λ x. (r ≡ gic_of c → ⊥) × ((x ≡ gic_of c → ⊥) × MeetsPhys r x)) (tells_clash c r)
    (regions_of y)) t k

pub tells_kind : (k : Kind) → Tells (no_request k) (k ≡ NoRequest)
unfolding no_request
tells_kind AddZone = ((λ e. absurd (true≢false (sym e))), ap no_request)
tells_kind RemoveZone = ((λ e. absurd (true≢false (sym e))), ap no_request)
tells_kind (Insert s r) = ((λ e. absurd (true≢false (sym e))), ap no_request)
tells_kind (Remove s r) = ((λ e. absurd (true≢false (sym e))), ap no_request)
tells_kind NoRequest = ((λ e. refl), λ q. refl)

-- ---- requests
module _ (lim : Limits) where
  module _ (c : Configuration) (t : List Zone) (id : ℕ) where
    pub kind_matches : (k : Kind) → Matches (kind_rules lim c k id t) (kind_lines lim c t id k)
    unfolding kind_rules add_rules remove_zone_rules insert_rules region_rules set_rules remove_rules holds_any configured
    kind_matches AddZone = tells_zone id t and tells_le _ _ and all
    kind_matches RemoveZone =
        tells_not _ _ (tells_zone id t) and tells_held (region_set t (find id t) Cpu) (region_set t (find id t) Iommu) and all
    kind_matches (Insert s r) =
        let xs : List Region = region_set t (find id t) s in
        tells_not _ _ (tells_zone id t)
        and tells_not _ _ (tells_formed (page_of lim s) r)
        and tells_not _ _ (tells_reach lim r)
        and tells_not _ _ (tells_in r c.regions)
        and tells_rights s r
        and tells_gic c s r
        and tells_in r xs
        and tells_forbidden c (find id t) s r t
        and tells_some (guest_overlap r) (MeetsGuest r) (λ x. tells_meets _ _ _ _) xs
        and tells_le _ _
        and all
    kind_matches (Remove s r) =
        tells_not _ _ (tells_zone id t) and tells_not _ _ (tells_in r (region_set t (find id t) s)) and all
    kind_matches NoRequest = all

  pub refusal_is_exact : RefusalIsExact lim
  unfolding refusal request_rules
  refusal_is_exact c t q =
      first_of 0 (λ n. 0 ≡ n) (tells_kind q.kind and tells_lt _ _ and kind_matches c t q.zone q.kind)
      (λ none n. ((λ e. e), λ e. e))

  -- ---- 1 and 2
  module _ (c : StoredConfig) (t : StoredTable) where
    standing_as : {R : Type 0} → (ℕ → R) → List (Rule R)
    standing_as say = say 1 when not (is_sound (check lim c)) ∷ say 2 when not (check_table lim c t) ∷ []

    pub tells_unsound : Tells (not (is_sound (check lim c))) (check lim c ≡ Sound → ⊥)
    tells_unsound = tells_not _ _ (sound_answer (check lim c), λ e. ap is_sound e ∙ sound_is)

    pub tells_bad : Tells (not (check_table lim c t)) (check_table lim c t ≡ false)
    tells_bad = (not-true (check_table lim c t), not_fails (check_table lim c t))

    pub table_stands : check_table lim c t ≡ true → SoundTable lim (config_of c) (table_of t)
    unfolding check_table
    table_stands e = sound_parts lim (config_of c) (table_of t) (parts _ e).1.1.0

    standing_matches : {R : Type 0} (say : ℕ → R) → Matches (standing_as say) (standing_lines say lim c t)
    unfolding standing_as
    standing_matches say = tells_unsound and tells_bad and all

    -- put before what is answered at a table that stands
    standing_first : {R : Type 0} (say : ℕ → R) (x : R) (P : R → Type 0)
        → (NoneOf (standing_lines say lim c t) → Exactly x P)
        → Exactly (first_rule (standing_as say) x) (FirstOf (standing_lines say lim c t) P)
    standing_first say x P g = first_of x P (standing_matches say) g

    standing_as_law : {R : Type 0} (say : ℕ → R) (x : R)
        → cond (eqb (standing lim c t) 0) x (say (standing lim c t)) ≡ first_rule (standing_as say) x
    unfolding standing_rules standing_as first_rule
    standing_as_law {R} say x = by (not (is_sound (check lim c))) (not (check_table lim c t))
      where
        by : (a b : Bool)
            → cond (eqb (first_rule (1 when a ∷ 2 when b ∷ []) 0) 0) x (say (first_rule (1 when a ∷ 2 when b ∷ []) 0))
            ≡ first_rule (say 1 when a ∷ say 2 when b ∷ []) x
        by true b = refl
        by false true = refl
        by false false = refl

    pub standing_exactly : {R : Type 0} (say : ℕ → R) (x : R) (P : R → Type 0) → Exactly x P
        → Exactly (cond (eqb (standing lim c t) 0) x (say (standing lim c t))) (FirstOf (standing_lines say lim c t) P)
    standing_exactly say x P h = exactly_of (standing_as_law say x) (standing_first say x P (λ none. h))

  pub answer_is_exact : AnswerIsExact lim
  unfolding answer standing_rules standing_as
  answer_is_exact c t q =
      standing_first c t (λ n. n) (refusal lim (config_of c) (table_of t) q) (RequestSays lim (config_of c) (table_of t) q)
      (λ none. refusal_is_exact (config_of c) (table_of t) q)

  -- ---- translation
  module _ (c : Configuration) (t : List Zone) (ok : SoundTable lim c t) (id : ℕ) (side : Side) (a : ℕ) where
    unfoldable pub xs : List Region
    xs = region_set t (find id t) side

    -- the region that translation goes by is the one that covers the address
    covering : any (covers_guest a) xs ≡ true → In (covering_in a xs) xs × (covers_guest a (covering_in a xs) ≡ true)
    unfolding covering_in
    covering e =
        let h : first_index (covers_guest a) xs < length xs = ltb-true _ _ (sym (any_first (covers_guest a) xs) ∙ e) in
        ((first_index (covers_guest a) xs, h, refl), first_passes (covers_guest a) xs no_region h)

    the_one : (r : Region) → In r xs → CoversGuest r a → any (covers_guest a) xs ≡ true → covering_in a xs ≡ r
    unfolding xs
    the_one r (i, h, q) m e =
        let (j, l, k) = (covering e).0 in
        let there : find id t < length t = ltb-true _ _ (sym (any_first (has_id id) t) ∙ set_there t id side i h) in
        let one : j ≡ i =
        one_covers lim c t ok (find id t) side a j i there l h (ap (covers_guest a) k ∙ (covering e).1)
        (ap (covers_guest a) q ∙ parts_cover a r m) in
        sym k ∙ ap (λ (n : ℕ). get_or xs n no_region) one ∙ q

    pub comes_out : any (covers_guest a) xs ≡ true → Exactly (translated_as 0 a (covering_in a xs)) (ComesOut t id side a)
    unfolding xs translated_as
    comes_out e =
        exactly (translated_as 0 a (covering_in a xs)) (ComesOut t id side a) (
          translated_as 0 a (covering_in a xs),
          (
            covering_in a xs,
            (covering e).0,
            covers_parts a (covering_in a xs) (covering e).1,
            at (covering_in a xs) (covering e).1,
          ),
        )
        (λ o (r, m, k, q). ap (translated_as 0 a) (the_one r m k e) ∙ sym (at r (parts_cover a r k)) ∙ q)
      where
        at : (r : Region) → covers_guest a r ≡ true
            → record {
              number = 0;
              phys = record { 0 = r.p.0 + (a - r.v.0) };
              remaining = r.v.0 + r.size - a;
            }
            ≡ translated_as 0 a r
        at r k =
            let e : r.p.0 + (a - r.v.0) ≡ phys_in a r = sym (same_distance a r k) in
            let f : r.v.0 + r.size - a ≡ remaining_in a r = sym (remains_to_end a r k) in
            (λ i. record { number = 0; phys = record { 0 = e i }; remaining = f i })

  pub tells_covers : (a : ℕ) (r : Region) → Tells (covers_guest a r) (CoversGuest r a)
  tells_covers a r = (covers_parts a r, parts_cover a r)

  pub translated_is_exact : TranslatedIsExact lim
  unfolding translated translation_rules standing_rules translated_as xs
  translated_is_exact c t id side g =
      let a : ℕ = g.0 in
      let z : List Zone = table_of t in
      let some : List Region = region_set z (find id z) side in
      let r : Region = covering_in a some in
      exactly_of (first_map (λ n. translated_as n a r) (standing_rules lim c t ++ translation_rules z id side a) 0)
      (first_of (translated_as 0 a r) (ComesOut z id side a)
      (tells_unsound c t and tells_bad c t and tells_lt _ _ and tells_not _ _ (tells_zone id z)
      and tells_not _ _ (tells_some (covers_guest a) (λ x. CoversGuest x a) (tells_covers a) some) and all)
      (λ none. comes_out (config_of c) z (table_stands c t (true_of _ none.1.0)) id side a
      (twice (any (covers_guest a) some) (tells_some (covers_guest a) (λ x. CoversGuest x a) (tells_covers a) some)
      none.1.1.1.1.0)))

  -- ---- runs
  module _ (c : Configuration) (t : List Zone) (qs : List Request) where
    ends_so : (o : Outcome) → Ends lim c t qs o → ended (run lim c t qs) ≡ o
    unfolding ended
    ends_so o (all_accepted f) =
        let e : 0 + length qs ≡ length qs = omega arith in
        ap ended (run_all lim c no_ask 0 t qs f) ∙ ap (plain 0) e
    ends_so o (twenty_seven i h f ne) =
        let e : 0 + i ≡ i = omega arith in
        ap ended (run_stops lim c no_ask 0 t qs i h f ne)
        ∙ (λ x. record {
          number = cond (ne_eqb (number_at lim c t qs i) 0 ne x) 0 27;
          place = e x;
          inner = number_at lim c t qs i;
        })

    some_end : (o : Outcome) × Ends lim c t qs o
    some_end =
        ⊎_elim (λ f. (plain 0 (length qs), all_accepted (λ j h. eqb-true _ _ (f j h))))
        (λ (i, h, e, f). (
          record { number = 27; place = i; inner = number_at lim c t qs i },
          twenty_seven i h (λ j m. eqb-true _ _ (f j m)) (eqb-false _ _ e),
        ))
        (first_failing (λ j. eqb (number_at lim c t qs j) 0) (length qs))

    pub ends_exactly : Exactly (ended (run lim c t qs)) (Ends lim c t qs)
    ends_exactly = exactly (ended (run lim c t qs)) (Ends lim c t qs) some_end ends_so

  pub run_answer_is_exact : RunAnswerIsExact lim
  unfolding run_answer
  run_answer_is_exact c t qs =
      standing_exactly c t (λ n. plain n 0) (ended (run lim (config_of c) (table_of t) qs))
      (Ends lim (config_of c) (table_of t) qs) (ends_exactly (config_of c) (table_of t) qs)

  -- ---- reading
  module _ (b : List ℕ) (answered : Out Plan → Outcome)
      (refused : (k : ℕ) (t : List ℕ) → answered (bad k t) ≡ plain k (length b - length t))
      (Then : Plan → Outcome → Type 0)
      (then-exactly : (p : Plan) → read_plan lim b ≡ got p [] → Exactly (answered (got p [])) (Then p)) where
    at_place : (k at : ℕ) → at ≤ length b → read_plan lim b ≡ bad k (drop at b) → answered (read_plan lim b) ≡ plain k at
    at_place k at h e =
        let q : length b - length (drop at b) ≡ at = omega (arith, length-drop at b) in
        ap answered e ∙ refused k (drop at b) ∙ ap (plain k) q

    -- what the reader of the four sections gives, and the end of the file
    file_of : (o : Out Plan) → (plan_format lim).read b ≡ o → read_plan lim b ≡ then o at_end
    unfolding read_plan read_file
    file_of o e = ap (λ (x : Out Plan). then x at_end) e

    more_left : (p : Plan) (t : List ℕ) → 0 < length t → at_end p t ≡ bad 22 t
    unfolding at_end
    more_left p [] h = absurd (omega arith)
    more_left p (x ∷ t) h = refl

    reads_so : (o : Outcome) → Reading lim b Then o → answered (read_plan lim b) ≡ o
    unfolding then at_end
    reads_so o (twenty at h e) = at_place 20 at h (file_of (bad 20 (drop at b)) e)
    reads_so o (twenty_one at h e) = at_place 21 at h (file_of (bad 21 (drop at b)) e)
    reads_so o (twenty_two p at h e) =
        at_place 22 at (omega arith)
        (file_of (got p (drop at b)) e ∙ more_left p (drop at b) (omega (arith, length-drop at b)))
    reads_so o (reads p x e w) =
        let q : read_plan lim b ≡ got p [] = file_of (got p []) e in
        ap answered q ∙ (then-exactly p q x).1 w

    some_reading : (o : Outcome) × Reading lim b Then o
    unfolding then at_end left
    some_reading = by ((plan_format lim).read b) refl
      where
        told : (k : ℕ) (t : List ℕ) → (plan_format lim).read b ≡ bad k t → (at : ℕ) → at ≤ length b → t ≡ drop at b
            → Told k → (o : Outcome) × Reading lim b Then o
        told k t e at h q (inl n) = (plain 20 at, twenty at h (e ∙ (λ i. bad (n i) (q i))))
        told k t e at h q (inr n) = (plain 21 at, twenty_one at h (e ∙ (λ i. bad (n i) (q i))))

        by : (o : Out Plan) → (plan_format lim).read b ≡ o → (o : Outcome) × Reading lim b Then o
        by (bad k t) e =
            let (at, h, q) = part_at t b (subst (λ (x : Out Plan). Part (left x) b) e ((lawful_plan lim).part b)) in
            told k t e at h q ((lawful_plan lim).refuses b k t e)
        by (got p []) e =
            let q : read_plan lim b ≡ got p [] = file_of (got p []) e in
            (answered (got p []), reads p (answered (got p [])) e ((then-exactly p q (answered (got p []))).0 refl))
        by (got p (x ∷ t)) e =
            let (at, h, q) =
            part_at (x ∷ t) b (subst (λ (y : Out Plan). Part (left y) b) e ((lawful_plan lim).part b)) in
            (plain 22 at, twenty_two p at (omega (arith, ap length q, length-drop at b)) (e ∙ ap (got p) q))

    reading_exactly : Exactly (answered (read_plan lim b)) (Reading lim b Then)
    reading_exactly = exactly (answered (read_plan lim b)) (Reading lim b Then) some_reading reads_so

  -- ---- plans
  -- where 1 and 2 stand
  outcome_first : (s : Terminal) (b : List ℕ)
      → (apply lim s b).outcome
      ≡ first_rule (standing_as s.config s.table (λ n. plain n 0)) (apply_read lim s b (read_plan lim b)).outcome
  unfolding apply
  outcome_first s b =
      by (eqb (standing lim s.config s.table) 0)
      ∙ standing_as_law s.config s.table (λ n. plain n 0) (apply_read lim s b (read_plan lim b)).outcome
    where
      by : (c : Bool)
          → (cond c (apply_read lim s b (read_plan lim b))
          (record { outcome = plain (standing lim s.config s.table) 0; state = s })).outcome
          ≡ cond c (apply_read lim s b (read_plan lim b)).outcome (plain (standing lim s.config s.table) 0)
      by true = refl
      by false = refl

  -- bases that are the same
  tells_config : (c : Configuration) (p : Plan)
      → Tells (same_config c p) ((c.regions ≡ p.regions) × (c.gic ≡ p.marks.gic))
  unfolding same_config
  tells_config c p = (
    (λ e. let q = parts _ e in
        (same_list_law region_eq equal_same c.regions p.regions q.0, eqb-true _ _ q.1.0)),
    (λ (r, g). whole _ (
      ap (λ (xs : List Region). same_list region_eq xs p.regions) r ∙ list_same region_eq equal_refl p.regions,
      (eq-eqb _ _ g, tt),
    )),
  )

  tells_zones : (t u : List Zone) → Tells (same_list same_zone t u) (t ≡ u)
  tells_zones t u = (
    same_list_law same_zone same_zone_law t u,
    λ e. ap (λ (x : List Zone). same_list same_zone x u) e ∙ list_same same_zone zone_same u,
  )

  -- the run of a plan's requests at the terminal's table
  abbrev run_of : Terminal → Plan → Run
  run_of s p = run lim (config_of s.config) (table_of s.table) (requests_of p)

  judged_exactly : (s : Terminal) (p : Plan) → Exactly (judged s p (run_of s p)) (AtTerminal lim s p)
  unfolding judged judged_rules
  judged_exactly s p =
      first_of (ended (run_of s p)) (Ends lim (config_of s.config) (table_of s.table) (requests_of p))
      (tells_not _ _ (tells_config (config_of s.config) p) and tells_not _ _ (tells_eq _ _) and tells_eq _ _
      and tells_not _ _ (tells_zones (table_of s.table) p.zones) and all)
      (λ none. ends_exactly (config_of s.config) (table_of s.table) (requests_of p))

  pub apply_is_exact : ApplyIsExact lim
  unfolding apply_read
  apply_is_exact s b =
      exactly_of (outcome_first s b)
      (standing_first s.config s.table (λ n. plain n 0) (apply_read lim s b (read_plan lim b)).outcome
      (Reading lim b (AtTerminal lim s))
      (λ none. reading_exactly b (λ o. (apply_read lim s b o).outcome) (λ k t. refl) (AtTerminal lim s)
      (λ p e. exactly_of (outcome_by lim s (judged s p (run_of s p)) (run_of s p)) (judged_exactly s p))))

  -- at its own base a plan is not refused with 23, 24 or 26
  module _ (b : List ℕ) (p : Plan) (e : read_plan lim b ≡ got p []) where
    own : Configuration
    own = record { regions = p.regions; gic = p.marks.gic }

    own_judged : judged (base_of lim p) p (run_of (base_of lim p) p)
        ≡ first_rule (plain 25 0 when eqb p.marks.edition last_edition ∷ [])
        (ended (run lim own p.zones (requests_of p)))
    unfolding judged judged_rules first_rule own
    own_judged =
        let r = whole_read lim b p [] e in
        rw (
          not_holds _
              ((tells_config (config_of (base_of lim p).config) p).1 (
                ap (λ (c : Configuration). c.regions) (own_config_law lim b p [] r),
                ap (λ (c : Configuration). c.gic) (own_config_law lim b p [] r),
              )),
          not_holds _ (eq-eqb p.marks.edition p.marks.edition refl),
          not_holds _ ((tells_zones (table_of (base_of lim p).table) p.zones).1 (own_zones lim b p [] r)),
          own_config_law lim b p [] r,
          own_zones lim b p [] r,
        )

    alone_then : Exactly (apply lim (base_of lim p) b).outcome (Alone lim p)
    unfolding apply_read own
    alone_then =
        let s : Terminal = base_of lim p in
        let r : Run = run_of s p in
        exactly_of (outcome_first s b)
        (standing_first s.config s.table (λ n. plain n 0) (apply_read lim s b (read_plan lim b)).outcome _
        (λ none. exactly_of (ap (λ (o : Out Plan). (apply_read lim s b o).outcome) e
        ∙ outcome_by lim s (judged s p r) r
        ∙ own_judged)
        (first_of (ended (run lim own p.zones (requests_of p))) (Ends lim own p.zones (requests_of p))
        (tells_eq _ _ and all)
        (λ none. ends_exactly own p.zones (requests_of p)))))

  pub alone_is_exact : AloneIsExact lim
  unfolding answer_alone answer_read
  alone_is_exact b = reading_exactly b (answer_read lim b) (λ k t. refl) (Alone lim) (alone_then b)

  pub never_alone : NeverAlone lim
  unfolding any
  never_alone b = by (answer_alone lim b) ((alone_is_exact b (answer_alone lim b)).0 refl)
    where
      Others : ℕ → Type 0
      Others n = (n ≡ 23 → ⊥) × (n ≡ 24 → ⊥) × (n ≡ 26 → ⊥)

      others : (n : ℕ) → any (eqb n) (23 ∷ 24 ∷ 26 ∷ []) ≡ false → Others n
      others n e =
          let q = none_at (eqb n) (23 ∷ 24 ∷ 26 ∷ []) 0 e in
          (eqb-false _ _ (q 0 (omega arith)), eqb-false _ _ (q 1 (omega arith)), eqb-false _ _ (q 2 (omega arith)))

      of : (x o : Outcome) → x ≡ o → any (eqb x.number) (23 ∷ 24 ∷ 26 ∷ []) ≡ false → Others o.number
      of x o q e = subst (λ (y : Outcome). Others y.number) q (others x.number e)

      by_end : (c : Configuration) (t : List Zone) (qs : List Request) (o : Outcome) → Ends lim c t qs o
          → Others o.number
      by_end c t qs o (all_accepted f) = others 0 refl
      by_end c t qs o (twenty_seven i h f ne) = others 27 refl

      by : (o : Outcome) → Reading lim b (Alone lim) o → Others o.number
      by o (twenty at h e) = others 20 refl
      by o (twenty_one at h e) = others 21 refl
      by o (twenty_two p at h e) = others 22 refl
      by o (reads p x e (inl (h, q))) = of (plain 1 0) x q refl
      by o (reads p x e (inr (n, inl (h, q)))) = of (plain 2 0) x q refl
      by o (reads p x e (inr (n, inr (m, inl (h, q))))) = of (plain 25 0) x q refl
      by o (reads p x e (inr (n, inr (m, inr (k, w))))) =
          by_end (record { regions = p.regions; gic = p.marks.gic }) p.zones (requests_of p) x w

  -- ---- where neither 1 nor 2 applies
  module _ (c : StoredConfig) (t : StoredTable) (ok : Stands lim c t) where
    past_standing : {R : Type 0} (say : ℕ → R) (vs : List (Rule R)) (x : R)
        → first_rule (standing_as c t say ++ vs) x ≡ first_rule vs x
    unfolding standing_as first_rule
    past_standing say vs x = rw (not_holds _ (ap is_sound ok.config ∙ sound_is), not_holds _ ok.table)

    pub none_told : standing lim c t ≡ 0
    unfolding standing_rules standing_as first_rule
    none_told = past_standing (λ n. n) [] 0

    inside_request : (q : Request) → answer lim c t q ≡ refusal lim (config_of c) (table_of t) q
    unfolding answer standing_rules standing_as first_rule
    inside_request q = past_standing (λ n. n) [] (refusal lim (config_of c) (table_of t) q)

    inside_address : (id : ℕ) (side : Side) (g : Guest)
        → translated lim c t id side g ≡ translation (table_of t) id side g.0
    unfolding translated translation standing_rules standing_as
    inside_address id side g =
        let z : List Zone = table_of t in
        ap (λ (n : ℕ). translated_as n g.0 (covering_in g.0 (region_set z (find id z) side)))
        (past_standing (λ n. n) (translation_rules z id side g.0) 0)

    inside_run : (qs : List Request) → run_answer lim c t qs ≡ ended (run lim (config_of c) (table_of t) qs)
    unfolding run_answer standing_as first_rule
    inside_run qs =
        let r : Outcome = ended (run lim (config_of c) (table_of t) qs) in
        standing_as_law c t (λ n. plain n 0) r ∙ past_standing (λ n. plain n 0) [] r

  -- neither line of 1 and 2 holds
  pub stands_of : (c : StoredConfig) (t : StoredTable) → ((check lim c ≡ Sound → ⊥) → ⊥)
      → (check_table lim c t ≡ false → ⊥) → Stands lim c t
  stands_of c t n k = record {
    config =
        sound_answer (check lim c)
        (twice (is_sound (check lim c)) (sound_answer (check lim c), λ e. ap is_sound e ∙ sound_is) n);
    table = true_of _ k;
  }

  pub standing_is_inside : StandingIsInside lim
  standing_is_inside c t ok = record {
    none = none_told c t ok;
    request = inside_request c t ok;
    address = inside_address c t ok;
    requests = inside_run c t ok;
  }

  -- ---- the configuration's check, in numbers
  finds : (s : StoredConfig) (f : Checked) → Means lim s f → Finds lim s (check_number f) (check_place f) (check_earlier f)
  finds s Sound h = nothing h
  finds s BadCount h = c1 h
  finds s BadGic h = c2 h
  finds s (NotZero k) h = c3 k h
  finds s (Malformed i) h = c4 i h
  finds s (OutOfReach i) h = c5 i h
  finds s (Overlap i k) h = c6 i k h

  pub check_numbers_are_exact : CheckNumbersAreExact lim
  check_numbers_are_exact s full n i k = (
    (λ (a, b, c). rw (← a, ← b, ← c) (finds s (check lim s) ((check_is_exact lim s full (check lim s)).0 refl))),
    by n i k,
  )
    where
      is : (f : Checked) → Means lim s f
          → (check_number (check lim s) ≡ check_number f) × (check_place (check lim s) ≡ check_place f)
          × (check_earlier (check lim s) ≡ check_earlier f)
      is f h =
          let e : check lim s ≡ f = (check_is_exact lim s full f).1 h in
          (ap check_number e, ap check_place e, ap check_earlier e)

      by : (n i k : ℕ) → Finds lim s n i k
          → (check_number (check lim s) ≡ n) × (check_place (check lim s) ≡ i) × (check_earlier (check lim s) ≡ k)
      by n i k (nothing h) = is Sound h
      by n i k (c1 h) = is BadCount h
      by n i k (c2 h) = is BadGic h
      by n i k (c3 j h) = is (NotZero j) h
      by n i k (c4 j h) = is (Malformed j) h
      by n i k (c5 j h) = is (OutOfReach j) h
      by n i k (c6 j m h) = is (Overlap j m) h
