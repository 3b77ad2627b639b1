-- Editions: every event keeps that the plans were accepted where they were made, and that the terminal's states, now
-- and before, are each the planner's of some edition. A plan names its base's edition, so it fits no other of these
-- states.
use Prim.Native.Nat.{ℕ, zero, suc, ◌+◌, ◌-◌, ◌≤◌, ◌<◌}
use native.Mathlib.Decide.{ℕ_discrete}
use native.Mathlib.Omega.{arith}
use mathlib.Core.List.{List, [], ◌∷◌, map}
use mathlib.Core.Path.{◌≡◌, refl, sym, ap, subst, ◌∙◌}
use lib.ListN.{length, get_or}
use Rattle.lists.specs.Places.{places}
use Rattle.lists.specs.Runs.{runs}
use Rattle.promises.specs.Editions.{makes, plan, noise, restart, table_at, at, plan_of, begin, taken, happens}
use Rattle.promises.specs.Editions.{Legal, AllLegal, History, world, Refuses, AlwaysInStep, PlannersTable}
use Rattle.promises.specs.Editions.{EqualEditionsEqualTables, missing, NeverAhead, LowerIsBehind, State, Machine}
use Rattle.promises.specs.Editions.{Lawful, Event, Planner, World, InStep}

module _ (m : Machine) (law : Lawful m) (p : Planner m) (ok : m.Sound p.start) where
  -- plans 1 to n were made where the rules accept them
  abbrev Told : ℕ → Type 0
  Told n = (i : ℕ) → i < n → m.Accepts (at m p i) (p.asked (suc i))

  -- the planner's table of some edition up to n
  abbrev Known : ℕ → State m.Table → Type 0
  Known n s = (k : ℕ) × (k ≤ n) × (s ≡ at m p k)

  module _ (n : ℕ) (told : Told n) where
    table_sound : (k : ℕ) → k ≤ n → m.Sound (table_at m p k)
    unfolding table_at
    table_sound zero h = ok
    table_sound (suc k) h =
        law.keeps (at m p k) (p.asked (suc k)) (table_sound k (omega arith)) (told k (omega arith))

    plan_leads : (k : ℕ) → k < n
        → (m.number (at m p k) (plan_of m p (suc k)) ≡ 0) × (m.after (at m p k) (plan_of m p (suc k)) ≡ at m p (suc k))
    unfolding table_at
    plan_leads k h =
        let e : k ≡ suc k - 1 = omega arith in
        subst (λ (j : ℕ). (m.number (at m p k) (m.encode (at m p j) (p.asked (suc k))) ≡ 0)
        × (m.after (at m p k) (m.encode (at m p j) (p.asked (suc k))) ≡ at m p (suc k))) e
        (law.leads (at m p k) (p.asked (suc k)) (table_sound k (omega arith)) (told k h))

    plan_refused : (k i : ℕ) → 1 ≤ i → i ≤ n → (i ≡ suc k → ⊥) → Refuses m (at m p k) (plan_of m p i)
    plan_refused k zero low high ne = absurd (omega arith)
    plan_refused k (suc i) low high ne =
        let no_plan : m.number (at m p k) (plan_of m p (suc i)) ≡ 0 → ⊥ =
        (λ e. let f : m.PlanFor (at m p i) (plan_of m p (suc i)) =
        law.fits (at m p i) (plan_of m p (suc i)) (plan_leads i (omega arith)).0 in
        ne (ap suc
        (law.tells (at m p i) (at m p k) (plan_of m p (suc i)) f (law.fits (at m p k) (plan_of m p (suc i)) e)))) in
        (no_plan, law.stays (at m p k) (plan_of m p (suc i)) no_plan)

    noise_refused : (s : State m.Table) (b : m.Bytes) → (m.PlanFor s b → ⊥) → Refuses m s b
    noise_refused s b ne =
        let no_plan : m.number s b ≡ 0 → ⊥ = (λ e. ne (law.fits s b e)) in
        (no_plan, law.stays s b no_plan)

    in_step : (k : ℕ) → k ≤ n → InStep m p n (at m p k) k
    in_step k h = record {
      behind = h;
      same = refl;
      onward = plan_leads k;
      others = plan_refused k;
      stray = noise_refused (at m p k);
    }

    -- a delivery leads from a known state to a known one
    plan_known : (s : State m.Table) → Known n s → (i : ℕ) → 1 ≤ i → i ≤ n → Known n (m.after s (plan_of m p i))
    plan_known s (k, h, e) i low high =
        subst (λ (t : State m.Table). Known n (m.after t (plan_of m p i))) (sym e)
        (elim (ℕ_discrete i (suc k)) [
          | yes q ↦
              (suc k, omega arith, ap (λ (j : ℕ). m.after (at m p k) (plan_of m p j)) q ∙ (plan_leads k (omega arith)).1)
          | no ne ↦ (k, h, (plan_refused k i low high ne).1)
        ])

    noise_known : (s : State m.Table) → Known n s → (b : m.Bytes) → (m.PlanFor s b → ⊥) → Known n (m.after s b)
    noise_known s (k, h, e) b ne = (k, h, (noise_refused s b ne).1 ∙ e)

  -- ---- what every event keeps: plans are accepted where they were made, and
  -- the terminal's states, now and before, are the planner's
  record Kept (w : World m) : Type 0 where
    told : Told w.made
    now : Known w.made w.state
    before : (i : ℕ) → i < length w.held → Known w.made (get_or w.held i (at m p 0))

  later : (n : ℕ) (s : State m.Table) → Known n s → Known (suc n) s
  later n s (k, h, e) = (k, omega arith, e)

  told_on : (n : ℕ) → Told n → m.Accepts (at m p n) (p.asked (suc n)) → Told (suc n)
  told_on n told a i h =
      elim (ℕ_discrete i n) [
        | yes e ↦ subst (λ (j : ℕ). m.Accepts (at m p j) (p.asked (suc j)))
            (sym e) a
        | no ne ↦ told i (omega arith)
      ]

  held_on_law : (n : ℕ) (s : State m.Table) (l : List (State m.Table)) → Known n s
      → ((i : ℕ) → i < length l → Known n (get_or l i (at m p 0))) → (i : ℕ) → i < length (s ∷ l)
      → Known n (get_or (s ∷ l) i (at m p 0))
  held_on_law n s l a f zero h = a
  held_on_law n s l a f (suc i) h = f i (omega arith)

  taken_keeps : (w : World m) (b : m.Bytes) → Kept w → Known w.made (m.after w.state b) → Kept (taken m w b)
  taken_keeps w b c a = record {
    told = c.told;
    now = a;
    before = held_on_law w.made (m.after w.state b) w.held a c.before;
  }

  event_keeps : (w : World m) (e : Event m.Bytes) → Legal m p w e → Kept w → Kept (happens m p w e)
  unfolding happens
  event_keeps w makes a c = record {
    told = told_on w.made c.told a;
    now = later w.made w.state c.now;
    before = λ i h. later w.made (get_or w.held i (at m p 0)) (c.before i h);
  }
  event_keeps w (plan i) (low, high) c =
      taken_keeps w (plan_of m p i) c (plan_known w.made c.told w.state c.now i low high)
  event_keeps w (noise b) ne c = taken_keeps w b c (noise_known w.made c.told w.state c.now b ne)
  event_keeps w (restart i) h c = record { told = c.told; now = c.before i h; before = c.before }

  events_keep : (w : World m) (es : List (Event m.Bytes)) → AllLegal m p w es → Kept w
      → Kept (runs (happens m p) w es)
  unfolding runs
  events_keep w [] l c = c
  events_keep w (e ∷ es) (a, l) c = events_keep (happens m p w e) es l (event_keeps w e a c)

  history_kept : (h : History m p) → Kept (world m p h)
  history_kept (es, l) =
      events_keep (begin m p) es l
      (record {
        told = λ i h. absurd (omega arith);
        now = (0, omega arith, refl);
        before = λ i h. held_on_law 0 (at m p 0) [] (0, omega arith, refl) (λ j q. absurd (omega arith)) i h;
      })

  -- plans j + 1 to k bring the planner's state of j to that of k
  caught_up : (n j : ℕ) → Told (j + n)
      → runs m.after (at m p j) (map (plan_of m p) (places (suc j) n)) ≡ at m p (j + n)
  unfolding runs places
  caught_up zero j told = let e : j ≡ j + 0 = omega arith in ap (at m p) e
  caught_up (suc n) j told =
      let e : suc j + n ≡ j + suc n = omega arith in
      ap (λ (s : State m.Table). runs m.after s (map (plan_of m p) (places (suc (suc j)) n)))
      (plan_leads (j + suc n) told j (omega arith)).1
      ∙ caught_up n (suc j) (λ i h. told i (omega arith)) ∙ ap (at m p) e

  -- from a known state, to any edition whose plans were made
  catches_up : (s : State m.Table) (k : ℕ) → Known k s → Told k
      → runs m.after s (missing m p s.edition k) ≡ at m p k
  catches_up s k (j, h, e) told =
      let d : j + (k - j) ≡ k = omega arith in
      subst (λ (t : State m.Table). runs m.after t (missing m p t.edition k) ≡ at m p k) (sym e)
      (caught_up (k - j) j (λ i l. told i (omega arith)) ∙ ap (at m p) d)

  abbrev edition_in : (s : State m.Table) → ℕ
  edition_in s = s.edition

  -- a known state is that of its edition
  known_at : (n : ℕ) (s : State m.Table) → Known n s → s ≡ at m p s.edition
  known_at n s (k, h, e) = e ∙ ap (at m p) (sym (ap edition_in e))

  known_below : (n : ℕ) (s : State m.Table) → Known n s → s.edition ≤ n
  known_below n s (k, h, e) = let q : s.edition ≡ k = ap edition_in e in omega arith

pub always_in_step : (m : Machine) → Lawful m → (p : Planner m) → AlwaysInStep m p
always_in_step m law p ok h =
    let c = history_kept m law p ok h in
    let (k, l, e) = c.now in (
      k,
      subst (λ (s : State m.Table). InStep m p (world m p h).made s k) (sym e)
          (in_step m law p ok (world m p h).made c.told k l),
    )

pub planners_table : (m : Machine) → Lawful m → (p : Planner m) → PlannersTable m p
planners_table m law p ok h k q =
    let c = history_kept m law p ok h in
    ap (λ (s : State m.Table). s.table)
    (known_at m law p ok (world m p h).made (world m p h).state c.now ∙ ap (at m p) q)

pub equal_editions_equal_tables : (m : Machine) → Lawful m → (p : Planner m) → EqualEditionsEqualTables m p
equal_editions_equal_tables m law p ok g h q =
    planners_table m law p ok g (world m p h).state.edition q
    ∙ sym (planners_table m law p ok h (world m p h).state.edition refl)

-- every plan that was made asks for what the rules accept
pub plans_made : (m : Machine) → Lawful m → (p : Planner m) → m.Sound p.start → (h : History m p) (i : ℕ)
    → i < (world m p h).made → m.Accepts (at m p i) (p.asked (suc i))
plans_made m law p ok h i l = (history_kept m law p ok h).told i l

pub never_ahead : (m : Machine) → Lawful m → (p : Planner m) → NeverAhead m p
never_ahead m law p ok h =
    let c = history_kept m law p ok h in (
      known_below m law p ok (world m p h).made (world m p h).state c.now,
      catches_up m law p ok (world m p h).state (world m p h).made c.now c.told,
    )

pub lower_is_behind : (m : Machine) → Lawful m → (p : Planner m) → LowerIsBehind m p
lower_is_behind m law p ok g h l =
    let a = history_kept m law p ok g in
    let b = history_kept m law p ok h in
    let k : ℕ = (world m p h).state.edition in
    let (j, low, e) = a.now in
    let q : (world m p g).state.edition ≡ j = ap (edition_in m law p ok) e in
    let high : k ≤ (world m p h).made = known_below m law p ok (world m p h).made (world m p h).state b.now in
    catches_up m law p ok (world m p g).state k (j, omega arith, e) (λ i r. b.told i (omega arith))
    ∙ sym (known_at m law p ok (world m p h).made (world m p h).state b.now)
