-- Storing: whatever the mark may be read as, what is read is a state that a terminal of Editions held. A start adds
-- nothing to what such a terminal did; a delivery, done or cut, adds a restart and that delivery.
use Prim.Native.Nat.{ℕ, suc, ◌≤◌, ◌<◌}
use native.Mathlib.Omega.{arith}
use mathlib.Core.Bool.{Bool, true, false, cond, not}
use mathlib.Core.List.{List, [], ◌∷◌, ◌++◌}
use mathlib.Core.Logic.{◌⊎◌, inl, inr}
use mathlib.Core.Path.{◌≡◌, refl, sym, ap, subst, ◌∙◌}
use borrow.Author.Tests.{eqb-true, eqb-false}
use lib.Dec.{eqb}
use lib.ListN.{length, get_or}
use Rattle.lists.specs.Runs.{runs}
use Rattle.lists.proofs.Runs.{runs_append}
use Rattle.formats.specs.Formats.{All}
use Rattle.rules.specs.Storing.{fills, turn, acted, told_by, booting, delivering, readings, Fine, Safe}
use Rattle.rules.specs.Storing.{other_slot, raising, staying, refusing, Sure, Slot, Store, Act, Ok}
use Rattle.rules.proofs.Storing.{filled_other, filled_own, safe_start, safe_delivery}
use Rattle.promises.specs.Editions.{makes, plan, noise, restart, table_at, at, plan_of, begin, happens, Legal}
use Rattle.promises.specs.Editions.{AllLegal, History, world, State, Machine, Lawful, Event, Planner, World, InStep}
use Rattle.promises.specs.Storing.{brings, strays, boots, takes, prepares, does, cut, state_with, read}
use Rattle.promises.specs.Storing.{current, other, taking}
use Rattle.promises.specs.Storing.{bytes_in, acts, fresh, comes, Apt, May, AllMay, stored, StoredGoesAlong}
use Rattle.promises.specs.Storing.{StoredInStep, NeverTakenBack, StartsAsItWas, DeliveryDone, DeliveryCut}
use Rattle.promises.specs.Storing.{StoredFollows, NextComesThrough, Slots, Works, Mail, Task, Happening, Stored, StoredPast}
use Rattle.promises.proofs.Editions.{always_in_step}

-- one that is cut has not started
abbrev Down : Bool → Type 0
Down true = ⊥
Down false = Unit {0}

pub no_up : false ≡ true → ⊥
no_up e = subst Down e tt

-- ---- histories of Editions, event by event
module _ (m : Machine) (p : Planner m) where
  legal_on : (w : World m) (es : List (Event m.Bytes)) (e : Event m.Bytes) → AllLegal m p w es
      → Legal m p (runs (happens m p) w es) e → AllLegal m p w (es ++ e ∷ [])
  unfolding runs
  legal_on w [] e l a = (a, tt)
  legal_on w (x ∷ es) e (b, l) a = (b, legal_on (happens m p w x) es e l a)

  grown : (g : History m p) (e : Event m.Bytes) → Legal m p (world m p g) e → History m p
  grown (es, l) e a = (es ++ e ∷ [], legal_on (begin m p) es e l a)

  world_grown : (g : History m p) (e : Event m.Bytes) (a : Legal m p (world m p g) e)
      → world m p (grown g e a) ≡ happens m p (world m p g) e
  unfolding runs grown
  world_grown (es, l) e a = runs_append (happens m p) (begin m p) es (e ∷ [])

  -- a state that was held
  abbrev Held : World m → State m.Table → Type 0
  Held w s = (i : ℕ) × (i < length w.held) × (get_or w.held i (at m p 0) ≡ s)

  -- a terminal that held s may be at s, and has held it
  back_at : (g : History m p) (s : State m.Table) → Held (world m p g) s
      → (f : History m p) × ((world m p f).made ≡ (world m p g).made) × ((world m p f).state ≡ s) × Held (world m p f) s
  unfolding happens
  back_at g s (i, l, e) =
      let w = world_grown g (restart i) l in (
        grown g (restart i) l,
        ap (λ (v : World m). v.made) w,
        ap (λ (v : World m). v.state) w ∙ e,
        subst (λ (v : World m). Held v s) (sym w) (i, l, e),
      )

  -- and then bytes come: both states were held
  both_held : (f : History m p) (e : Event m.Bytes) (b : m.Bytes) (s : State m.Table) (n : ℕ)
      → (a : Legal m p (world m p f) e)
      → happens m p (world m p f) e
      ≡ record {
        made = (world m p f).made;
        state = m.after (world m p f).state b;
        held = m.after (world m p f).state b ∷ (world m p f).held;
      }
      → (world m p f).made ≡ n → (world m p f).state ≡ s → Held (world m p f) s
      → (g : History m p) × ((world m p g).made ≡ n) × Held (world m p g) s × Held (world m p g) (m.after s b)
  both_held f e b s n a h made st (i, l, q) =
      let w = world_grown f e a ∙ h in (
        grown f e a,
        ap (λ (v : World m). v.made) w ∙ made,
        subst (λ (v : World m). Held v s) (sym w) (suc i, omega arith, q),
        subst (λ (v : World m). Held v (m.after s b)) (sym w)
            (0, omega arith, ap (λ (z : State m.Table). m.after z b) st),
      )

  -- what is asked of what comes to a state
  abbrev Due : ℕ → State m.Table → Mail m.Bytes → Type 0
  Due n s (brings i) = (1 ≤ i) × (i ≤ n)
  Due n s (strays b) = m.PlanFor s b → ⊥

  comes_at : (g : History m p) (s : State m.Table) (n : ℕ) → (world m p g).made ≡ n → Held (world m p g) s
      → (k : Slots m) (c : Mail m.Bytes) → Due n s c
      → (f : History m p) × ((world m p f).made ≡ n) × Held (world m p f) s
      × Held (world m p f) (m.after s (bytes_in m k p c))
  unfolding happens
  comes_at g s n q h k (brings i) (low, high) =
      let (f, made, st, held) = back_at g s h in
      let all : (world m p f).made ≡ n = made ∙ q in
      both_held f (plan i) (plan_of m p i) s n (low, omega arith) refl all st held
  comes_at g s n q h k (strays b) ne =
      let (f, made, st, held) = back_at g s h in
      both_held f (noise b) b s n (λ x. ne (subst (λ (z : State m.Table). m.PlanFor z b) st x)) refl (made ∙ q) st
      held

-- ---- a history of the storage
module _ (m : Machine) (k : Slots m) (p : Planner m) (works : Works m k) where
  -- of an edition and a slot's words, that the terminal held this state
  abbrev HeldAs : History m p → ℕ → k.Words → Type 0
  HeldAs g e x = Held m p (world m p g) (state_with m k e x)

  -- what every event keeps
  record Kept (w : Stored m k) : Type 0 where
    past : History m p
    made : (world m p past).made ≡ w.made
    fine : Fine (HeldAs past) w.told w.store
    ready : w.up ≡ true → Sure w.store

  -- bytes taken by a terminal that has started
  taking_safe : (P : State m.Table → Type 0) (told : List ℕ) (d : Store k.Words) (b : m.Bytes) → Sure d
      → Ok (λ e x. P (state_with m k e x)) told d d.mark
      → (m.number (read m k d) b ≡ 0 → P (m.after (read m k d) b))
      → Safe (λ e x. P (state_with m k e x)) told d (taking m k d b)
  taking_safe P told d b e o next =
      safe_delivery (λ e x. P (state_with m k e x)) told d (k.touched d.mark (current m k d) b) (m.number (read m k d) b)
      (k.worked d.mark (current m k d) (other m k d) b) e o
      (λ z. subst P (works.accepted d.mark (current m k d) (other m k d) b z) (next z))

  -- the past of Editions with what a task may add to it, and that the task is safe
  record Going (w : Stored m k) (t : Task m.Bytes) : Type 0 where
    past : History m p
    made : (world m p past).made ≡ w.made
    safe : Safe (HeldAs past) w.told w.store (acts m k p w.store t)

  takes_goes : (w : Stored m k) → Kept w → (c : Mail m.Bytes) → w.up ≡ true → Due m p w.made (read m k w.store) c
      → Going w (takes c)
  unfolding acts
  takes_goes w g c up due =
      let o = g.fine.0 in
      let (f, made, before, after) =
      comes_at m p g.past (read m k w.store) w.made g.made o.known k c due in
      record {
        past = f;
        made = made;
        safe =
            taking_safe (Held m p (world m p f)) w.told w.store (bytes_in m k p c) (g.ready up)
            (record { lasts = o.lasts; known = before; above = o.above }) (λ z. after);
      }

  goes : (w : Stored m k) → Kept w → (t : Task m.Bytes) → Apt m k p w t → Going w t
  unfolding acts
  goes w g boots a = record {
    past = g.past;
    made = g.made;
    safe = safe_start (HeldAs g.past) w.told w.store g.fine;
  }
  goes w g (takes (brings i)) (up, low, high) = takes_goes w g (brings i) up (low, high)
  goes w g (takes (strays b)) (up, ne) = takes_goes w g (strays b) up ne

  -- ---- a task that is done: the mark lasts, what is read then, and what was told
  boot_done : (d : Store k.Words)
      → Sure (runs acted d (booting d)) × (read m k (runs acted d (booting d)) ≡ read m k d)
      × (told_by (booting d) ≡ d.mark ∷ [])
  unfolding booting acted runs told_by
  boot_done d = ((refl, refl), refl, refl)

  module _ (law : Lawful m) (d : Store k.Words) (b : m.Bytes) where
    abbrev e : ℕ
    e = d.mark

    abbrev words : k.Words
    words = k.worked e (current m k d) (other m k d) b

    abbrev next : State m.Table
    next = m.after (read m k d) b

    -- a refusal, whether or not it touched the other slot
    refused_done : Sure d → next ≡ read m k d → (touched : Bool)
        → Sure (runs acted d (refusing touched words e)) × (read m k (runs acted d (refusing touched words e)) ≡ next)
        × (told_by (refusing touched words e) ≡ next.edition ∷ [])
    unfolding refusing staying acted runs told_by turn
    refused_done q to true = (
      q,
      ap (λ (s : Slot k.Words). state_with m k e s.words) (filled_other d.slot words (turn e)) ∙ sym to,
      ap (λ (s : State m.Table). s.edition ∷ []) (sym to),
    )
    refused_done q to false = (q, sym to, ap (λ (s : State m.Table). s.edition ∷ []) (sym to))

    abbrev doing : Bool → List (Act k.Words)
    doing c =
        cond c (fills (other_slot e) words ∷ raising e) (refusing (k.touched e (current m k d) b) words e)

    take_done : Sure d
        → Sure (runs acted d (taking m k d b)) × (read m k (runs acted d (taking m k d b)) ≡ next)
        × (told_by (taking m k d b) ≡ next.edition ∷ [])
    unfolding delivering raising acted runs told_by turn
    take_done q = by (eqb (m.number (read m k d) b) 0) refl
      where
        by : (c : Bool) → eqb (m.number (read m k d) b) 0 ≡ c
            → Sure (runs acted d (doing c)) × (read m k (runs acted d (doing c)) ≡ next)
            × (told_by (doing c) ≡ next.edition ∷ [])
        by true h =
            let to : next ≡ state_with m k (suc e) words =
            works.accepted e (current m k d) (other m k d) b (eqb-true _ _ h) in (
              (refl, refl),
              ap (λ (s : Slot k.Words). state_with m k (suc e) s.words) (filled_own d.slot words (not (turn e)))
                  ∙ sym to,
              ap (λ (s : State m.Table). s.edition ∷ []) (sym to),
            )
        by false h =
            refused_done q (law.stays (read m k d) b (eqb-false _ _ h)) (k.touched e (current m k d) b)

  -- ---- every event keeps it
  module _ (law : Lawful m) where
    done_ready : (w : Stored m k) → Kept w → (t : Task m.Bytes) → Apt m k p w t
        → Sure (runs acted w.store (acts m k p w.store t))
    unfolding acts
    done_ready w g boots a = (boot_done w.store).0
    done_ready w g (takes (brings i)) (up, low, high) = (take_done law w.store (plan_of m p i) (g.ready up)).0
    done_ready w g (takes (strays b)) (up, ne) = (take_done law w.store b (g.ready up)).0

    more_made : (v : World m) → (happens m p v makes).made ≡ suc v.made
    unfolding happens
    more_made v = refl

    makes_fine : (v : World m) (told : List ℕ) (d : Store k.Words) (rs : List ℕ)
        → All (Ok (λ e x. Held m p v (state_with m k e x)) told d) rs
        → All (Ok (λ e x. Held m p (happens m p v makes) (state_with m k e x)) told d) rs
    unfolding happens
    makes_fine v told d [] h = tt
    makes_fine v told d (r ∷ rs) (h, i) =
        (record { lasts = h.lasts; known = h.known; above = h.above }, makes_fine v told d rs i)

    event_keeps : (w : Stored m k) (e : Happening m.Bytes k.Words) → May m k p w e → Kept w → Kept (comes m k p w e)
    unfolding comes
    event_keeps w prepares a g =
        let b : Legal m p (world m p g.past) makes =
        subst (λ (n : ℕ). m.Accepts (at m p n) (p.asked (suc n))) (sym g.made) a in
        let to = world_grown m p g.past makes b in
        record {
          past = grown m p g.past makes b;
          made = ap (λ (v : World m). v.made) to ∙ more_made (world m p g.past) ∙ ap suc g.made;
          fine =
              subst (λ (v : World m). Fine (λ e x. Held m p v (state_with m k e x)) w.told w.store) (sym to)
              (makes_fine (world m p g.past) w.told w.store (readings w.store) g.fine);
          ready = g.ready;
        }
    event_keeps w (does t) a g =
        let f = goes w g t a in
        record { past = f.past; made = f.made; fine = f.safe.1; ready = λ up. done_ready w g t a }
    event_keeps w (cut t n u) (a, l) g =
        let f = goes w g t a in
        record { past = f.past; made = f.made; fine = f.safe.0 n u l; ready = λ z. absurd (no_up z) }

    events_keep : (w : Stored m k) (es : List (Happening m.Bytes k.Words)) → AllMay m k p w es → Kept w
        → Kept (runs (comes m k p) w es)
    unfolding runs
    events_keep w [] l g = g
    events_keep w (e ∷ es) (a, l) g = events_keep (comes m k p w e) es l (event_keeps w e a g)

    kept : (h : StoredPast m k p) → Kept (stored m k p h)
    unfolding runs table_at turn
    kept h =
        events_keep (fresh m k p h.first h.second) h.events h.may
        (record {
          past = ([], tt);
          made = refl;
          fine = (
            record {
              lasts = refl;
              known = (0, omega arith, λ i. record { edition = 0; table = sym h.starts i });
              above = tt;
            },
            tt,
          );
          ready = λ z. (refl, refl);
        })

    -- ---- the promises
    along_with_editions : StoredGoesAlong m k p
    along_with_editions h =
        let g = kept h in
        let (f, made, st, held) = back_at m p g.past (read m k (stored m k p h).store) g.fine.0.known in
        (f, made ∙ g.made, st)

    stored_in_step : StoredInStep m k p
    stored_in_step ok h =
        let (g, made, st) = along_with_editions h in
        let (e, s) = always_in_step m law p ok g in (
          e,
          subst (λ (x : State m.Table). InStep m p (stored m k p h).made x e) st
              (subst (λ (n : ℕ). InStep m p n (world m p g).state e) made s),
        )

    never_taken_back : NeverTakenBack m k p
    never_taken_back h = (kept h).fine.0.above

    starts_as_it_was : StartsAsItWas m k p
    unfolding comes acts
    starts_as_it_was h =
        let (s, r, t) = boot_done (stored m k p h).store in
        (r, ap (λ (l : List ℕ). l ++ (stored m k p h).told) t)

    delivery_done : DeliveryDone m k p
    unfolding comes acts
    delivery_done h up c =
        let (s, r, t) = take_done law (stored m k p h).store (bytes_in m k p c) ((kept h).ready up) in
        (r, ap (λ (l : List ℕ). l ++ (stored m k p h).told) t)

    -- whatever both states are, and where it is refused the first
    delivery_cut : DeliveryCut m k p
    delivery_cut h up c n u l = (
      read_as_law
          (λ s. (s ≡ read m k (stored m k p h).store)
          ⊎ (s ≡ m.after (read m k (stored m k p h).store) (bytes_in m k p c))) (inl refl) (λ z. inr refl),
      λ ne. read_as_law (λ s. s ≡ read m k (stored m k p h).store) refl (λ z. absurd (ne z)),
    )
      where
        read_as_law : (P : State m.Table → Type 0) → P (read m k (stored m k p h).store)
            → (m.number (read m k (stored m k p h).store) (bytes_in m k p c) ≡ 0
            → P (m.after (read m k (stored m k p h).store) (bytes_in m k p c)))
            → P (read m k u)
        read_as_law P before next =
            let g = kept h in
            ((taking_safe P [] (stored m k p h).store (bytes_in m k p c) (g.ready up)
            (record { lasts = g.fine.0.lasts; known = before; above = tt }) next
            ).0 n u l).0.known

    next_comes_through : NextComesThrough m k p
    unfolding comes acts
    next_comes_through ok h l =
        let d = (stored m k p h).store in
        let started : Store k.Words = runs acted d (booting d) in
        let (sure, same, told) = boot_done d in
        let (e, step) = stored_in_step ok h in
        let at_e : d.mark ≡ e = ap (λ (s : State m.Table). s.edition) step.same in
        let goes = (take_done law started (plan_of m p (suc d.mark)) sure).1 in
        goes ∙ ap (λ (s : State m.Table). m.after s (plan_of m p (suc d.mark))) same
        ∙ subst (λ (n : ℕ). m.after (read m k d) (plan_of m p (suc n)) ≡ at m p (suc n)) (sym at_e)
        (step.onward (subst (λ (n : ℕ). n < (stored m k p h).made) at_e l)).1

pub stored_follows : (m : Machine) (k : Slots m) (p : Planner m) → StoredFollows m k p
stored_follows m k p law works = (
  along_with_editions m k p works law,
  stored_in_step m k p works law,
  never_taken_back m k p works law,
  starts_as_it_was m k p works law,
  delivery_done m k p works law,
  delivery_cut m k p works law,
  next_comes_through m k p works law,
)
