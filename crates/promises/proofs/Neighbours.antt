-- Neighbours: what a run leaves of a zone is what its own accepted requests make of it, by induction over the run; and
-- rules that go in step but for 7 and 14 give one answer, or one of these.
use Prim.Native.Nat.{ℕ, zero, suc, ◌≤◌, ◌<◌}
use native.Mathlib.Omega.{arith}
use native.Mathlib.Omega.{arith}
use mathlib.Core.Bool.{Bool, true, false, cond, not, ◌||◌, true≢false}
use mathlib.Core.List.{List, [], ◌∷◌, ◌++◌, map}
use mathlib.Core.Logic.{◌⊎◌, inl, inr, ⊎_elim}
use mathlib.Core.Option.{Option, none, some, some-injective, some-ne-none}
use mathlib.Core.Path.{◌≡◌, refl, sym, ap, ap₂, subst, ◌∙◌}
use borrow.Author.Tests.{eqb-true, eqb-false, not-false, eq-eqb, ne_eqb}
use lib.Dec.{ltb, leb, eqb}
use lib.ListN.{length, get_or}
use Rattle.lists.specs.First.{any, all}
use Rattle.lists.specs.Orders.{keep}
use Rattle.lists.specs.Pairs.{pairwise}
use Rattle.lists.specs.Rules.{Rule, ◌when◌, first_rule}
use Rattle.lists.specs.Runs.{runs}
use Rattle.lists.proofs.Orders.{keep_append}
use Rattle.lists.proofs.Rules.{test_of, above_zero, silent_number}
use Rattle.lists.proofs.Runs.{run_keeps, runs_append}
use Rattle.lists.proofs.Tests.{both_true, holds_or_fails}
use Rattle.formats.specs.Formats.{Out}
use Rattle.rules.specs.Applying.{last_edition, store, plain, Kept, judged_by, apply_read_by, apply_by, plain_steps, apply}
use Rattle.rules.specs.Applying.{AppliedOf}
use Rattle.rules.specs.Changes.{region_set}
use Rattle.rules.specs.Configuration.{config_of, check, Configuration, StoredConfig}
use Rattle.rules.specs.Limits.{Limits, Sayable}
use Rattle.rules.specs.Plan.{requests_from, Asked}
use Rattle.rules.specs.Regions.{guest_overlap}
use Rattle.rules.specs.Requests.{find, present, held_in, holds_any, add_rules, remove_zone_rules, region_rules, set_rules}
use Rattle.rules.specs.Requests.{insert_rules, remove_rules, kind_rules, request_rules, refusal, after, next_by, next}
use Rattle.rules.specs.Requests.{standing_rules, standing, answer}
use Rattle.rules.specs.Run.{run_by, ended, Run}
use Rattle.rules.specs.Steps.{ran_by, StepRule}
use Rattle.rules.specs.Tables.{no_zone, side_of, zone_in, table_of, ids_differ, Zone, StoredTable}
use Rattle.rules.specs.Translation.{translation_rules, translation, translated}
use Rattle.rules.specs.declared.Guest.{Guest}
use Rattle.rules.specs.declared.Kind.{Kind}
use Rattle.rules.specs.declared.Kind.TheVariants.{AddZone, RemoveZone, Insert, Remove, NoRequest}
use Rattle.rules.specs.declared.Outcome.{Outcome}
use Rattle.rules.specs.declared.Region.{Region}
use Rattle.rules.specs.declared.Request.{Request}
use Rattle.rules.specs.declared.Side.{Side}
use Rattle.rules.specs.declared.Side.TheVariants.{Cpu, Iommu}
use Rattle.rules.specs.declared.Translated.{Translated}
use Rattle.rules.proofs.Applying.{base_judged, outcome_by, SameBase}
use Rattle.rules.proofs.Configuration.{sound_answer}
use Rattle.rules.proofs.Keeps.{sound_parts, next_keeps, SoundTable}
use Rattle.rules.proofs.OneZone.{zone_there, zone_not, own_after, zone_after}
use Rattle.rules.proofs.Owners.{found_id}
use Rattle.rules.proofs.Run.{goes_on, stops_here, run_leads, stopped}
use Rattle.rules.proofs.Stored.{table_back, stands_well}
use Rattle.promises.specs.Answers.{Stands}
use Rattle.promises.specs.Neighbours.{Alike, TranslatesAlike, SevenOrFourteen, InStep, names, end_of, accepted}
use Rattle.promises.specs.Neighbours.{OwesNothing, OnlyTheseTell, AlikeOutside, bare, zones_after}
use Rattle.promises.specs.Neighbours.{requests_read, taken, PlansOweNothingBy, PlansTellBy, asked_up_to, HistoriesOweNothingBy}
use Rattle.promises.specs.Neighbours.{HistoriesOweNothing}
use Rattle.promises.specs.Neighbours.{PlainIsNeighbourly, PaymentZoneOwesNothing, PlansOweNothing, Neighbourly}
use Rattle.promises.specs.Neighbours.{SevenOrFourteenTells, PaymentZoneOutside, PlansTell, StandAlike}
use Rattle.promises.specs.Steps.{PlanForBy, run_of_by, terminals_by, planned_by, planner_by, PastBy, made_in_by, terminal_in_by}
use Rattle.promises.specs.Steps.{GoodConfig, Proper}
use Rattle.promises.proofs.Editions.{plans_made}
use Rattle.promises.proofs.Answers.{standing_is_inside}
use Rattle.promises.proofs.Steps.{accepted_stands_by, accepted_is_plan_by, plan_is_accepted_by, refusal_stays_by}
use Rattle.promises.proofs.Steps.{steps_are_lawful, steps_follow, planned_at_by_law}
use Rattle.promises.proofs.Tables.{empty_is_sound}
use Rattle.promises.proofs.Terminals.{plain_is_proper}

-- ---- one zone in two tables
-- the same zone, or none in both: they stand alike
zones_alike : (id : ℕ) (t u : List Zone) → zone_in t id ≡ zone_in u id → Alike id t u
unfolding region_set
zones_alike id t u e = ⊎_elim here away (holds_or_fails (present id t))
  where
    here : present id t ≡ true → Alike id t u
    here p =
        ⊎_elim
        (λ q. inr (
          p,
          (
            q,
            λ s. ap (side_of s) (some-injective _ _ (sym (zone_there id t p) ∙ e ∙ zone_there id u q)),
          ),
        ))
        (λ q. absurd (some-ne-none _ (sym (zone_there id t p) ∙ e ∙ (zone_not id u q).0)))
        (holds_or_fails (present id u))

    away : present id t ≡ false → Alike id t u
    away p =
        ⊎_elim (λ q. absurd (some-ne-none _ (sym (zone_there id u q) ∙ sym e ∙ (zone_not id t p).0)))
        (λ q. inl (p, q)) (holds_or_fails (present id u))

-- tables that stand alike have the zone or have it not, and the same sets at its place
alike_parts : (id : ℕ) (t u : List Zone) → Alike id t u
    → (present id t ≡ present id u) × ((s : Side) → region_set t (find id t) s ≡ region_set u (find id u) s)
unfolding region_set
alike_parts id t u (inl (p, q)) =
    (p ∙ sym q, λ s. ap (side_of s) ((zone_not id t p).1 ∙ sym (zone_not id u q).1))
alike_parts id t u (inr (p, (q, f))) = (p ∙ sym q, f)

-- translations go by the zone alone
alike_translates : (z : ℕ) (t u : List Zone) → Alike z t u → TranslatesAlike z t u
unfolding translation translation_rules
alike_translates z t u a s x = let (p, f) = alike_parts z t u a in rw (p, f s)

-- and what stands alike is the same zone
alike_zones : (id : ℕ) (t u : List Zone) → Alike id t u → zone_in t id ≡ zone_in u id
unfolding region_set side_of
alike_zones id t u (inl (p, q)) = (zone_not id t p).0 ∙ sym (zone_not id u q).0
alike_zones id t u (inr (p, (q, f))) = zone_there id t p ∙ ap some same ∙ sym (zone_there id u q)
  where
    same : get_or t (find id t) no_zone ≡ get_or u (find id u) no_zone
    same =
        let n : (get_or t (find id t) no_zone).id ≡ (get_or u (find id u) no_zone).id =
        found_id id t p ∙ sym (found_id id u q) in
        (λ i. record { id = n i; cpu = f Cpu i; iommu = f Iommu i })

-- ---- rules that go in step
-- their answers are one, or one of the two is 7 or 14
step_answers : (rs ss : List (Rule ℕ)) (n : ℕ) → InStep rs ss
    → (first_rule rs n ≡ first_rule ss n) ⊎ (SevenOrFourteen (first_rule rs n) ⊎ SevenOrFourteen (first_rule ss n))
unfolding first_rule
step_answers [] [] n h = inl refl
step_answers [] (s ∷ ss) n h = absurd h
step_answers (r ∷ rs) [] n h = absurd h
step_answers ((a, true) ∷ rs) ((b, true) ∷ ss) n (e, (f, h)) = inl e
step_answers ((a, false) ∷ rs) ((b, false) ∷ ss) n (e, (f, h)) = step_answers rs ss n h
step_answers ((a, true) ∷ rs) ((b, false) ∷ ss) n (e, (inl f, h)) = absurd (true≢false f)
step_answers ((a, true) ∷ rs) ((b, false) ∷ ss) n (e, (inr f, h)) = inr (inl f)
step_answers ((a, false) ∷ rs) ((b, true) ∷ ss) n (e, (inl f, h)) = absurd (true≢false (sym f))
step_answers ((a, false) ∷ rs) ((b, true) ∷ ss) n (e, (inr f, h)) = inr (inr (subst SevenOrFourteen e f))

-- rules are in step with themselves, and lists that are go on so
step_same : (rs : List (Rule ℕ)) → InStep rs rs
step_same [] = tt
step_same (r ∷ rs) = (refl, (inl refl, step_same rs))

step_append : (rs ss us vs : List (Rule ℕ)) → InStep rs ss → InStep us vs → InStep (rs ++ us) (ss ++ vs)
step_append [] [] us vs h k = k
step_append [] (s ∷ ss) us vs h k = absurd h
step_append (r ∷ rs) [] us vs h k = absurd h
step_append (r ∷ rs) (s ∷ ss) us vs (e, (f, h)) k = (e, (f, step_append rs ss us vs h k))

-- also where each test is changed by its number and by what does not hang on the table
pub step_map : (f : ℕ → Bool → Bool) (rs ss : List (Rule ℕ)) → InStep rs ss
    → InStep (map (λ (r : Rule ℕ). r.0 when f r.0 r.1) rs) (map (λ (r : Rule ℕ). r.0 when f r.0 r.1) ss)
step_map f [] [] h = tt
step_map f [] (s ∷ ss) h = absurd h
step_map f (r ∷ rs) [] h = absurd h
step_map f (r ∷ rs) (s ∷ ss) (e, (g, h)) = (e, (⊎_elim (λ x. inl (ap₂ f e x)) (λ o. inr o) g, step_map f rs ss h))

-- neither 7 nor 14 is an acceptance
not_accepted : (n : ℕ) → SevenOrFourteen n → n ≡ 0 → ⊥
not_accepted n (inl e) z = omega arith
not_accepted n (inr e) z = omega arith

-- ---- any step rule that has the laws
-- what an accepted request makes of the zone that it names
abbrev alone : Option Zone → Request → Option Zone
alone v q = own_after q.kind q.zone v

module _ (m : StepRule) (ok : Neighbourly m) (c : m.Config) where
  stays : (t : List Zone) (q : Request) → (m.refusal c t q ≡ 0 → ⊥) → m.next c t q ≡ t
  unfolding next_by
  stays t q ne =
      ok.does c t q ∙ ap (λ (b : Bool). cond b (after q.kind q.zone t) t) (ne_eqb (m.refusal c t q) 0 ne)

  -- a zone that a request does not name stays, and one that it names goes by itself
  accepted_zone : (z : ℕ) (t : List Zone) (q : Request) → ok.Sound c t → m.refusal c t q ≡ 0
      → zone_in (m.next c t q) z ≡ cond (names z q) (alone (zone_in t z) q) (zone_in t z)
  unfolding next_by
  accepted_zone z t q s e =
      let d : m.next c t q ≡ after q.kind q.zone t =
      ok.does c t q ∙ ap (λ (b : Bool). cond b (after q.kind q.zone t) t) (eq-eqb (m.refusal c t q) 0 e) in
      let one : pairwise ids_differ (after q.kind q.zone t) ≡ true =
      ap (pairwise ids_differ) (sym d) ∙ ok.ids c (m.next c t q) (ok.keeps c t q s) in
      ap (λ (u : List Zone). zone_in u z) d ∙ zone_after q.kind q.zone z t (ok.ids c t s) one
      ∙ by (names z q) refl
    where
      by : (b : Bool) → names z q ≡ b
          → cond b (alone (zone_in t q.zone) q) (zone_in t z) ≡ cond b (alone (zone_in t z) q) (zone_in t z)
      by true n = ap (λ (x : ℕ). alone (zone_in t x) q) (eqb-true _ _ n)
      by false n = refl

  -- so what a run leaves of the zone is what its own accepted requests make of it
  zone_of_run : (z : ℕ) (t : List Zone) (qs : List Request) → ok.Sound c t
      → zone_in (runs (m.next c) t qs) z ≡ runs alone (zone_in t z) (keep (names z) (accepted m c t qs))
  unfolding runs accepted keep
  zone_of_run z t [] s = refl
  zone_of_run z t (q ∷ qs) s =
      zone_of_run z (m.next c t q) qs (ok.keeps c t q s) ∙ by (eqb (m.refusal c t q) 0) refl
    where
      rest : List Request
      rest = accepted m c (m.next c t q) qs

      named : (b : Bool)
          → runs alone (cond b (alone (zone_in t z) q) (zone_in t z)) (keep (names z) rest)
          ≡ runs alone (zone_in t z) (cond b (q ∷ keep (names z) rest) (keep (names z) rest))
      named true = refl
      named false = refl

      by : (b : Bool) → eqb (m.refusal c t q) 0 ≡ b
          → runs alone (zone_in (m.next c t q) z) (keep (names z) rest)
          ≡ runs alone (zone_in t z) (keep (names z) (cond b (q ∷ rest) rest))
      by true e =
          ap (λ (v : Option Zone). runs alone v (keep (names z) rest)) (accepted_zone z t q s (eqb-true _ _ e))
          ∙ named (names z q)
      by false e = ap (λ (u : List Zone). runs alone (zone_in u z) (keep (names z) rest)) (stays t q (eqb-false _ _ e))

pub owes_nothing : (m : StepRule) → Neighbourly m → OwesNothing m
owes_nothing m ok c z qs us e =
    let same : zone_in (end_of m c qs) z ≡ zone_in (end_of m c us) z =
    zone_of_run m ok c z [] qs (ok.start c) ∙ ap (runs alone (zone_in [] z)) e
    ∙ sym (zone_of_run m ok c z [] us (ok.start c)) in
    let a : Alike z (end_of m c qs) (end_of m c us) = zones_alike z _ _ same in (a, alike_translates z _ _ a)

-- two answers are one, or one of the two is 7 or 14
answers_in_step : (m : StepRule) → Neighbourly m → (c : m.Config) (t u : List Zone) (q : Request) → Alike q.zone t u
    → (m.refusal c t q ≡ m.refusal c u q)
    ⊎ (SevenOrFourteen (m.refusal c t q) ⊎ SevenOrFourteen (m.refusal c u q))
answers_in_step m ok c t u q a =
    rw (ok.first c t q, ok.first c u q) (step_answers (ok.rules c t q) (ok.rules c u q) 0 (ok.own c t u q a))

pub only_these_tell : (m : StepRule) → Neighbourly m → OnlyTheseTell m
only_these_tell m ok c t u q a ne = ⊎_elim (λ e. absurd (ne e)) (λ o. o) (answers_in_step m ok c t u q a)

-- ---- from outside: where neither 1 nor 2 is answered, it is what is said inside
module _ (m : StepRule) (ok : Neighbourly m) (ask : m.Config → StoredTable → Request → ℕ)
    (look : m.Config → StoredTable → ℕ → Side → Guest → Translated) (Told : ℕ → Type 0)
    (asked : (c : m.Config) (t : StoredTable) (q : Request) → m.standing c t ≡ 0
    → ask c t q ≡ m.refusal c (table_of t) q)
    (looked : (c : m.Config) (t : StoredTable) (z : ℕ) (s : Side) (a : Guest) → m.standing c t ≡ 0
    → look c t z s a ≡ translation (table_of t) z s a.0)
    (told : (c : m.Config) (t : StoredTable) (q : Request) → m.Whole c → SevenOrFourteen (ask c t q)
    → Told (ask c t q)) where
  asked_alike : (c : m.Config) (t u : StoredTable) (q : Request) → StandAlike m c q.zone t u
      → (ask c t q ≡ ask c u q → ⊥) → Told (ask c t q) ⊎ Told (ask c u q)
  asked_alike c t u q st ne =
      let f : ask c t q ≡ m.refusal c (table_of t) q = asked c t q st.one in
      let g : ask c u q ≡ m.refusal c (table_of u) q = asked c u q st.other in
      ⊎_elim (λ e. absurd (ne (f ∙ e ∙ sym g)))
      (⊎_elim (λ o. inl (told c t q st.records (subst SevenOrFourteen (sym f) o)))
      (λ o. inr (told c u q st.records (subst SevenOrFourteen (sym g) o))))
      (answers_in_step m ok c (table_of t) (table_of u) q st.alike)

  pub alike_outside : AlikeOutside m ask look Told
  alike_outside = record {
    addresses =
        λ c z t u st s a. looked c t z s a st.one ∙ alike_translates z (table_of t) (table_of u) st.alike s a.0
        ∙ sym (looked c u z s a st.other);
    requests = asked_alike;
  }

-- ---- plans
module _ (m : StepRule) (proper : Proper m) (ok : Neighbourly m) where
  -- a run without a refusal accepts all its requests
  all_accepted_law : (c : m.Config) (i : ℕ) (t : List Zone) (qs : List Request)
      → (run_by (m.refusal c) (m.next c) i t qs).inner ≡ 0 → accepted m c t qs ≡ qs
  unfolding run_by accepted
  all_accepted_law c i t [] e = refl
  all_accepted_law c i t (q ∷ qs) e =
      by (all_accepted_law c (suc i) (m.next c t q) qs) (eqb (m.refusal c t q) 0) refl e
    where
      onward : Run
      onward = run_by (m.refusal c) (m.next c) (suc i) (m.next c t q) qs

      rest : List Request
      rest = accepted m c (m.next c t q) qs

      by : (onward.inner ≡ 0 → rest ≡ qs) → (b : Bool) → eqb (m.refusal c t q) 0 ≡ b
          → (cond b onward (stopped (m.refusal c) (m.next c) i t q)).inner ≡ 0 → cond b (q ∷ rest) rest ≡ q ∷ qs
      by f true h g = ap (λ (l : List Request). q ∷ l) (f g)
      by f false h g = absurd (eqb-false _ _ h g)

  -- an accepted plan makes of the zone what its requests that name it make of it
  accepted_delivery : (z : ℕ) (s : Kept m) (b : List ℕ) → (apply_by m s b).outcome.number ≡ 0
      → zone_in (table_of (apply_by m s b).state.table) z
      ≡ runs alone (zone_in (table_of s.table) z) (keep (names z) (requests_read m (m.read b)))
  unfolding requests_read
  accepted_delivery z s b e =
      let (p, (g, base), last, inner) = accepted_is_plan_by m proper s b e in
      let c : m.Config = s.config in
      let t : List Zone = table_of s.table in
      let qs : List Request = requests_from (m.asked p) in
      let st : m.standing c s.table ≡ 0 = accepted_stands_by m s b e in
      let good : ok.Sound c t = ok.stands c s.table st in
      let by : run_of_by m s p ≡ run_by (m.refusal c) (m.next c) 0 t qs = proper.runs_so c t qs in
      let none : (run_by (m.refusal c) (m.next c) 0 t qs).inner ≡ 0 = ap (λ (r : Run). r.inner) (sym by) ∙ inner in
      let ends : (run_of_by m s p).table ≡ runs (m.next c) t qs =
      ap (λ (r : Run). r.table) by ∙ run_leads (m.refusal c) (m.next c) 0 t qs none in
      ap (λ (a : AppliedOf m.Config). zone_in (table_of a.state.table) z)
      (plan_is_accepted_by m proper s b p st (g, base) last inner)
      ∙ ap (λ (u : List Zone). zone_in (table_of (store m.limits u)) z) ends
      ∙ ap (λ (u : List Zone). zone_in u z)
      (ok.back c (runs (m.next c) t qs) (run_keeps (m.next c) (ok.Sound c) (ok.keeps c) t qs good))
      ∙ zone_of_run m ok c z t qs good
      ∙ ap (λ (us : List Request). runs alone (zone_in t z) (keep (names z) us)) (all_accepted_law c 0 t qs none)
      ∙ ap (λ (o : Out m.Said). runs alone (zone_in t z) (keep (names z) (requests_read m o))) (sym g)

  -- and so do deliveries in turn: what is refused changes nothing
  zone_of_deliveries : (z : ℕ) (s : Kept m) (bs : List (List ℕ))
      → zone_in (zones_after m (apply_by m) s bs) z
      ≡ runs alone (zone_in (table_of s.table) z) (keep (names z) (taken m (apply_by m) s bs))
  unfolding runs taken keep
  zone_of_deliveries z s [] = refl
  zone_of_deliveries z s (b ∷ bs) =
      zone_of_deliveries z (apply_by m s b).state bs ∙ by (eqb (apply_by m s b).outcome.number 0) refl
    where
      v : Option Zone
      v = zone_in (table_of s.table) z

      mine : List Request
      mine = keep (names z) (taken m (apply_by m) (apply_by m s b).state bs)

      by : (a : Bool) → eqb (apply_by m s b).outcome.number 0 ≡ a
          → runs alone (zone_in (table_of (apply_by m s b).state.table) z) mine
          ≡ runs alone v
          (keep (names z) (cond a (requests_read m (m.read b)) [] ++ taken m (apply_by m) (apply_by m s b).state bs))
      by true e =
          ap (λ (w : Option Zone). runs alone w mine) (accepted_delivery z s b (eqb-true _ _ e))
          ∙ sym (runs_append alone v (keep (names z) (requests_read m (m.read b))) mine)
          ∙ ap (runs alone v)
          (sym
          (keep_append (names z) (requests_read m (m.read b)) (taken m (apply_by m) (apply_by m s b).state bs)))
      by false e =
          ap (λ (u : Kept m). runs alone (zone_in (table_of u.table) z) mine)
          (refusal_stays_by m s b (eqb-false _ _ e))

  pub plans_owe_nothing_by : PlansOweNothingBy m (apply_by m)
  plans_owe_nothing_by c d e z bs cs h =
      let s : Kept m = bare m c d in
      let u : Kept m = bare m c e in
      let same : zone_in (zones_after m (apply_by m) s bs) z ≡ zone_in (zones_after m (apply_by m) u cs) z =
      zone_of_deliveries z s bs ∙ ap (runs alone (zone_in (table_of s.table) z)) h
      ∙ sym (zone_of_deliveries z u cs) in
      let a : Alike z (zones_after m (apply_by m) s bs) (zones_after m (apply_by m) u cs) = zones_alike z _ _ same in
      (a, alike_translates z _ _ a)

  -- ---- histories
  -- where the plans up to made are accepted in turn, the planner's tables have the zone that its requests lead to
  module _ (c : m.Config) (asked : ℕ → List Asked) (made : ℕ)
      (may : (i : ℕ) → i < made → (ran_by m c (table_of (planned_by m c asked i).table) (asked (suc i))).inner ≡ 0) where
    zone_planned : (z k : ℕ) → k ≤ made
        → ok.Sound c (table_of (planned_by m c asked k).table)
        × (zone_in (table_of (planned_by m c asked k).table) z
        ≡ runs alone none (keep (names z) (asked_up_to m (apply_by m) asked k)))
    unfolding planned_by asked_up_to keep runs zone_in
    zone_planned z zero l =
        let e : table_of (store m.limits []) ≡ [] = ok.back c [] (ok.start c) in
        (subst (ok.Sound c) (sym e) (ok.start c), ap (λ (t : List Zone). zone_in t z) e)
    zone_planned z (suc k) l =
        let (good, same) = zone_planned z k (omega arith) in
        let t : List Zone = table_of (planned_by m c asked k).table in
        let qs : List Request = requests_from (asked (suc k)) in
        let by : m.run c t qs ≡ run_by (m.refusal c) (m.next c) 0 t qs = proper.runs_so c t qs in
        let clear : (run_by (m.refusal c) (m.next c) 0 t qs).inner ≡ 0 =
        ap (λ (r : Run). r.inner) (sym by) ∙ may k (omega arith) in
        let left : (m.run c t qs).table ≡ runs (m.next c) t qs =
        ap (λ (r : Run). r.table) by ∙ run_leads (m.refusal c) (m.next c) 0 t qs clear in
        let sound : ok.Sound c (runs (m.next c) t qs) =
        run_keeps (m.next c) (ok.Sound c) (ok.keeps c) t qs good in
        let back : table_of (store m.limits (m.run c t qs).table) ≡ runs (m.next c) t qs =
        ap (λ (u : List Zone). table_of (store m.limits u)) left ∙ ok.back c (runs (m.next c) t qs) sound in (
          subst (ok.Sound c) (sym back) sound,
          ap (λ (u : List Zone). zone_in u z) back
              ∙ zone_of_run m ok c z t qs good
              ∙ ap (λ (us : List Request). runs alone (zone_in t z) (keep (names z) us)) (all_accepted_law c 0 t qs clear)
              ∙ ap (λ (v : Option Zone). runs alone v (keep (names z) qs)) same
              ∙ sym (runs_append alone none (keep (names z) (asked_up_to m (apply_by m) asked k)) (keep (names z) qs))
              ∙ ap (runs alone none) (sym (keep_append (names z) (asked_up_to m (apply_by m) asked k) qs)),
        )

  pub planned_alike : (c : m.Config) (asked other : ℕ → List Asked) (j k : ℕ)
      → ((i : ℕ) → i < j → (ran_by m c (table_of (planned_by m c asked i).table) (asked (suc i))).inner ≡ 0)
      → ((i : ℕ) → i < k → (ran_by m c (table_of (planned_by m c other i).table) (other (suc i))).inner ≡ 0) → (z : ℕ)
      → keep (names z) (asked_up_to m (apply_by m) asked j) ≡ keep (names z) (asked_up_to m (apply_by m) other k)
      → Alike z (table_of (planned_by m c asked j).table) (table_of (planned_by m c other k).table)
      × TranslatesAlike z (table_of (planned_by m c asked j).table) (table_of (planned_by m c other k).table)
  planned_alike c asked other j k f g z e =
      let same =
      (zone_planned c asked j f z j (omega arith)).1 ∙ ap (runs alone none) e
      ∙ sym (zone_planned c other k g z k (omega arith)).1 in
      let a = zones_alike z _ _ same in
      (a, alike_translates z _ _ a)

  -- a terminal is at the planner's table of its edition
  module _ (say : Sayable m.limits) (c : m.Config) (good : GoodConfig m c) where
    planned_config : (asked : ℕ → List Asked) (i : ℕ) → (planned_by m c asked i).config ≡ c
    unfolding planned_by
    planned_config asked zero = refl
    planned_config asked (suc i) = refl

    zone_of_history : (z : ℕ) (asked : ℕ → List Asked) (h : PastBy m (apply_by m) c asked)
        → zone_in (table_of (terminal_in_by m (apply_by m) c asked h).table) z
        ≡ runs alone none
        (keep (names z) (asked_up_to m (apply_by m) asked (terminal_in_by m (apply_by m) c asked h).edition))
    zone_of_history z asked h =
        let (k, f) = steps_follow m proper say c good asked h in
        let at_k : (terminal_in_by m (apply_by m) c asked h).edition ≡ k =
        ap (λ (s : Kept m). s.edition) f.same ∙ planned_edition k in
        ap (λ (s : Kept m). zone_in (table_of s.table) z) f.same
        ∙ (zone_planned c asked (made_in_by m (apply_by m) c asked h) accepted_so z k f.behind).1
        ∙ ap (λ (j : ℕ). runs alone none (keep (names z) (asked_up_to m (apply_by m) asked j))) (sym at_k)
      where
        planned_edition : (k : ℕ) → (planned_by m c asked k).edition ≡ k
        planned_edition k = ap (λ (s : Kept m). s.edition) (planned_at_by_law m c asked k)

        accepted_so : (i : ℕ) → i < made_in_by m (apply_by m) c asked h
            → (ran_by m c (table_of (planned_by m c asked i).table) (asked (suc i))).inner ≡ 0
        accepted_so i l =
            let a =
            plans_made (terminals_by m (apply_by m)) (steps_are_lawful m proper say) (planner_by m (apply_by m) c asked) good
            h i l in
            let e = planned_at_by_law m c asked i in
            let same : (planned_by m c asked i).config ≡ c = planned_config asked i in
            ap (λ (x : m.Config). (ran_by m x (table_of (planned_by m c asked i).table) (asked (suc i))).inner) (sym same)
            ∙ ap (λ (s : Kept m). (ran_by m s.config (table_of s.table) (asked (suc i))).inner) e ∙ a.accepted

    pub histories_owe_nothing_at : (z : ℕ) (asked other : ℕ → List Asked) (g : PastBy m (apply_by m) c asked)
        (h : PastBy m (apply_by m) c other)
        → keep (names z) (asked_up_to m (apply_by m) asked (terminal_in_by m (apply_by m) c asked g).edition)
        ≡ keep (names z) (asked_up_to m (apply_by m) other (terminal_in_by m (apply_by m) c other h).edition)
        → Alike z (table_of (terminal_in_by m (apply_by m) c asked g).table)
        (table_of (terminal_in_by m (apply_by m) c other h).table)
        × TranslatesAlike z (table_of (terminal_in_by m (apply_by m) c asked g).table)
        (table_of (terminal_in_by m (apply_by m) c other h).table)
    histories_owe_nothing_at z asked other g h e =
        let same = zone_of_history z asked g ∙ ap (runs alone none) e ∙ sym (zone_of_history z other h) in
        let a = zones_alike z _ _ same in
        (a, alike_translates z _ _ a)

  pub histories_owe_nothing_by : Sayable m.limits → HistoriesOweNothingBy m (apply_by m)
  histories_owe_nothing_by say c good z asked other g h e = histories_owe_nothing_at say c good z asked other g h e

  -- ---- the zone's next plan
  -- a plan for the base, below the last edition, is answered as its run ends
  answered_as_run : (s : Kept m) (b : List ℕ) (p : m.Said) → m.standing s.config s.table ≡ 0
      → PlanForBy m s b p → (s.edition ≡ last_edition → ⊥) → (apply_by m s b).outcome ≡ ended (run_of_by m s p)
  unfolding apply_by apply_read_by
  answered_as_run s b p st (g, f) last =
      let r : Run = run_of_by m s p in
      let base : SameBase s (m.same s.config p) (m.edition p) (m.zones p) =
      record { config = (proper.tells s.config p).1 f.config; edition = f.edition; zones = f.zones } in
      ap (λ (x : Bool). (cond x (apply_read_by m s b (m.read b))
      (record { outcome = plain (m.standing s.config s.table) 0; state = s })).outcome) (eq-eqb _ 0 st)
      ∙ ap (λ (o : Out m.Said). (apply_read_by m s b o).outcome) g ∙ outcome_by m.limits s (judged_by m s p r) r
      ∙ base_judged s (m.same s.config p) (m.edition p) (m.zones p) r base last

  -- requests that all name the zone, at two tables that have the same: both runs end at one place with one number, or
  -- one of the two numbers is 7 or 14
  abbrev SameEnd : Run → Run → Type 0
  SameEnd r w = (r.place ≡ w.place) × (r.inner ≡ w.inner)

  module _ (c : m.Config) (z : ℕ) where
    abbrev from : ℕ → List Zone → List Request → Run
    from = run_by (m.refusal c) (m.next c)

    abbrev Ends : Run → Run → Type 0
    Ends r w = SameEnd r w ⊎ (SevenOrFourteen r.inner ⊎ SevenOrFourteen w.inner)

    -- a request that is answered 7 or 14 ends its run
    ends_told : (i : ℕ) (t : List Zone) (q : Request) (qs : List Request) → SevenOrFourteen (m.refusal c t q)
        → SevenOrFourteen (from i t (q ∷ qs)).inner
    ends_told i t q qs o =
        subst (λ (r : Run). SevenOrFourteen r.inner)
        (sym (stops_here (m.refusal c) (m.next c) i t q qs (not_accepted (m.refusal c t q) o))) o

    nothing_run : (i : ℕ) (t u : List Zone) → SameEnd (from i t []) (from i u [])
    unfolding run_by
    nothing_run i t u = (refl, refl)

    -- two that are answered alike: both go on, or both end
    both_run : (i : ℕ) (t u : List Zone) (q : Request) (qs : List Request) → m.refusal c t q ≡ m.refusal c u q
        → (m.refusal c t q ≡ 0 → m.refusal c u q ≡ 0
        → Ends (from (suc i) (m.next c t q) qs) (from (suc i) (m.next c u q) qs))
        → Ends (from i t (q ∷ qs)) (from i u (q ∷ qs))
    both_run i t u q qs e on = by (eqb (m.refusal c t q) 0) refl
      where
        by : (b : Bool) → eqb (m.refusal c t q) 0 ≡ b → Ends (from i t (q ∷ qs)) (from i u (q ∷ qs))
        by true h =
            let f : m.refusal c t q ≡ 0 = eqb-true _ _ h in
            let g : m.refusal c u q ≡ 0 = sym e ∙ f in
            rw (goes_on (m.refusal c) (m.next c) i t q qs f, goes_on (m.refusal c) (m.next c) i u q qs g) (on f g)
        by false h =
            let ne : m.refusal c t q ≡ 0 → ⊥ = eqb-false _ _ h in
            let r = stops_here (m.refusal c) (m.next c) i t q qs ne in
            let w = stops_here (m.refusal c) (m.next c) i u q qs (λ g. ne (e ∙ g)) in
            inl (
              ap (λ (x : Run). x.place) r ∙ ap (λ (x : Run). x.place) (sym w),
              ap (λ (x : Run). x.inner) r ∙ e ∙ ap (λ (x : Run). x.inner) (sym w),
            )

    ends_in_step : (i : ℕ) (t u : List Zone) (qs : List Request) → ok.Sound c t → ok.Sound c u
        → zone_in t z ≡ zone_in u z → all (names z) qs ≡ true → Ends (from i t qs) (from i u qs)
    unfolding all
    ends_in_step i t u [] s w same own = inl (nothing_run i t u)
    ends_in_step i t u (q ∷ qs) s w same own =
        let (n, rest) = both_true (names z q) (all (names z) qs) own in
        let here : q.zone ≡ z = eqb-true _ _ n in
        let a : Alike q.zone t u = subst (λ (x : ℕ). Alike x t u) (sym here) (zones_alike z t u same) in
        let left : (v : List Zone) → ok.Sound c v → m.refusal c v q ≡ 0
        → zone_in (m.next c v q) z ≡ alone (zone_in v z) q =
        (λ v k e. accepted_zone m ok c z v q k e
        ∙ ap (λ (b : Bool). cond b (alone (zone_in v z) q) (zone_in v z)) n) in
        let on : m.refusal c t q ≡ 0 → m.refusal c u q ≡ 0
        → Ends (from (suc i) (m.next c t q) qs) (from (suc i) (m.next c u q) qs) =
        (λ e f. ends_in_step (suc i) (m.next c t q) (m.next c u q) qs (ok.keeps c t q s) (ok.keeps c u q w)
        (left t s e ∙ ap (λ (v : Option Zone). alone v q) same ∙ sym (left u w f)) rest) in
        ⊎_elim (λ e. both_run i t u q qs e on)
        (⊎_elim (λ o. inr (inl (ends_told i t q qs o))) (λ o. inr (inr (ends_told i u q qs o))))
        (answers_in_step m ok c t u q a)

  same_ended : (r w : Run) → SameEnd r w → ended r ≡ ended w
  unfolding ended
  same_ended r w (p, n) = (λ i. record { number = cond (eqb (n i) 0) 0 27; place = p i; inner = n i })

  pub plans_tell_by : PlansTellBy m (apply_by m) SevenOrFourteen
  unfolding ended
  plans_tell_by z s u b d n ne =
      let c : m.Config = s.config in
      let t : List Zone = table_of s.table in
      let v : List Zone = table_of u.table in
      let qs : List Request = requests_from (m.asked n.one) in
      let like : StandAlike m c z s.table u.table = n.alike in
      let stands : m.standing u.config u.table ≡ 0 =
      ap (λ (x : m.Config). m.standing x u.table) (sym n.config) ∙ like.other in
      let f : (apply_by m s b).outcome ≡ ended (from c z 0 t qs) =
      answered_as_run s b n.one like.one n.plans.0 n.onward.0 ∙ ap ended (proper.runs_so c t qs) in
      let g : (apply_by m u d).outcome ≡ ended (from c z 0 v qs) =
      answered_as_run u d n.other stands n.plans.1 n.onward.1
      ∙ ap (λ (x : m.Config). ended (m.run x v (requests_from (m.asked n.other)))) (sym n.config)
      ∙ ap (λ (us : List Request). ended (m.run c v us)) (sym n.same) ∙ ap ended (proper.runs_so c v qs) in
      ⊎_elim (λ same. absurd (ne (f ∙ same_ended (from c z 0 t qs) (from c z 0 v qs) same ∙ sym g)))
      (⊎_elim (λ o. inl (subst SevenOrFourteen (ap (λ (x : Outcome). x.inner) (sym f)) o))
      (λ o. inr (subst SevenOrFourteen (ap (λ (x : Outcome). x.inner) (sym g)) o)))
      (ends_in_step c z 0 t v qs (ok.stands c s.table like.one) (ok.stands c u.table like.other)
      (alike_zones z t v like.alike) n.own)

-- ---- document 01's rules, at two tables that stand alike
module _ (lim : Limits) (c : Configuration) (id : ℕ) (t u : List Zone) (p : present id t ≡ present id u)
    (f : (s : Side) → region_set t (find id t) s ≡ region_set u (find id u) s) where
  -- of the rules of a set only 14 looks elsewhere
  set_in_step : (s : Side) (r : Region)
      → InStep (set_rules lim c (find id t) s r t) (set_rules lim c (find id u) s r u)
  unfolding set_rules
  set_in_step s r =
      let held : held_in r (region_set t (find id t) s) ≡ held_in r (region_set u (find id u) s) = ap (held_in r) (f s) in
      let guest : any (guest_overlap r) (region_set t (find id t) s) ≡ any (guest_overlap r) (region_set u (find id u) s) =
      ap (any (guest_overlap r)) (f s) in
      let many : leb lim.in_set (length (region_set t (find id t) s)) ≡ leb lim.in_set (length (region_set u (find id u) s)) =
      ap (λ (xs : List Region). leb lim.in_set (length xs)) (f s) in
      (refl, (inl held, (refl, (inr (inr refl), (refl, (inl guest, (refl, (inl many, tt))))))))

  kind_in_step : (k : Kind) → InStep (kind_rules lim c k id t) (kind_rules lim c k id u)
  unfolding kind_rules add_rules remove_zone_rules insert_rules remove_rules holds_any
  kind_in_step AddZone = (refl, (inl p, (refl, (inr (inl refl), tt))))
  kind_in_step RemoveZone =
      let held : (ltb 0 (length (region_set t (find id t) Cpu)) || ltb 0 (length (region_set t (find id t) Iommu)))
      ≡ (ltb 0 (length (region_set u (find id u) Cpu)) || ltb 0 (length (region_set u (find id u) Iommu))) =
      ap₂ (λ (xs ys : List Region). ltb 0 (length xs) || ltb 0 (length ys)) (f Cpu) (f Iommu) in
      (refl, (inl (ap not p), (refl, (inl held, tt))))
  kind_in_step (Insert s r) = (
    refl,
    (
      inl (ap not p),
      step_append (region_rules lim c s r) (region_rules lim c s r) (set_rules lim c (find id t) s r t)
          (set_rules lim c (find id u) s r u) (step_same (region_rules lim c s r)) (set_in_step s r),
    ),
  )
  kind_in_step (Remove s r) =
      (refl, (inl (ap not p), (refl, (inl (ap (λ (xs : List Region). not (held_in r xs)) (f s)), tt))))
  kind_in_step NoRequest = tt

pub request_in_step : (lim : Limits) (c : Configuration) (t u : List Zone) (q : Request) → Alike q.zone t u
    → InStep (request_rules lim c q.kind q.zone t) (request_rules lim c q.kind q.zone u)
unfolding request_rules
request_in_step lim c t u q a =
    let (p, f) = alike_parts q.zone t u a in
    (refl, (inl refl, (refl, (inl refl, kind_in_step lim c q.zone t u p f q.kind))))

-- ---- document 01's terminals
module _ (lim : Limits) where
  pub plain_is_neighbourly : PlainIsNeighbourly lim
  unfolding refusal next
  plain_is_neighbourly = record {
    rules = λ c t q. request_rules lim (config_of c) q.kind q.zone t;
    first = λ c t q. refl;
    does = λ c t q. refl;
    Sound = λ c t. SoundTable lim (config_of c) t;
    start = λ c. sound_parts lim (config_of c) [] (empty_is_sound lim (config_of c));
    keeps = λ c t q s. next_keeps lim (config_of c) t q s;
    stands = λ c t e. (stands_well lim c t e).1;
    ids = λ c t s. s.ids;
    back = λ c t s. table_back lim (config_of c) t s;
    own = λ c t u q a. request_in_step lim (config_of c) t u q a;
  }

  pub payment_zone_owes_nothing : PaymentZoneOwesNothing lim
  payment_zone_owes_nothing = owes_nothing (plain_steps lim) plain_is_neighbourly

  pub seven_or_fourteen_tells : SevenOrFourteenTells lim
  seven_or_fourteen_tells = only_these_tell (plain_steps lim) plain_is_neighbourly

  stands_plainly : (c : StoredConfig) (t : StoredTable) → standing lim c t ≡ 0 → Stands lim c t
  unfolding standing_rules above_zero all test_of
  stands_plainly c t e =
      let none = silent_number (standing_rules lim c t) refl e in
      record { config = sound_answer (check lim c) (not-false _ (none 1)); table = not-false _ (none 2) }

  pub payment_zone_outside : PaymentZoneOutside lim
  payment_zone_outside =
      alike_outside (plain_steps lim) plain_is_neighbourly (answer lim) (translated lim) SevenOrFourteen
      (λ c t q e. (standing_is_inside lim c t (stands_plainly c t e)).request q)
      (λ c t z s a e. (standing_is_inside lim c t (stands_plainly c t e)).address z s a) (λ c t q e o. o)

  pub plans_owe_nothing : PlansOweNothing lim
  unfolding apply
  plans_owe_nothing = plans_owe_nothing_by (plain_steps lim) (plain_is_proper lim) plain_is_neighbourly

  pub histories_owe_nothing : HistoriesOweNothing lim
  unfolding apply
  histories_owe_nothing = histories_owe_nothing_by (plain_steps lim) (plain_is_proper lim) plain_is_neighbourly

  pub plans_tell : PlansTell lim
  unfolding apply
  plans_tell = plans_tell_by (plain_steps lim) (plain_is_proper lim) plain_is_neighbourly
