-- Demand 3 for a terminal that keeps its state in storage, where the power may be cut at any time: what the storage is
-- read as is always a state that the terminal of Editions could have, and an edition that was told is never taken back.
use Rattle.std.specs.Prelude.{ℕ, suc, ◌≤◌, ◌<◌, Bool, true, false, cond, List, [], ◌∷◌, ◌++◌, ◌⊎◌, ◌≡◌, take}
use Rattle.lists.specs.Runs.{runs}
use Rattle.formats.specs.Formats.{All}
use Rattle.rules.specs.Storing.{turn, acted, told_by, other_slot, booting, delivering, Slot, Store, Act, Left}
use Rattle.promises.specs.Editions.{at, plan_of, History, world, State, Machine, Lawful, Planner, InStep}

-- ---- the slots of a kind of terminal
pub record Slots (m : Machine) : Type 1 where
  -- the words of a slot, and what they are read as, with the configuration that is never written beside
  pub Words : Type 0
  pub holds : Words → m.Table
  -- the words that the other slot has after bytes were applied there: to those of the current edition, over what lay there
  pub worked : ℕ → Words → Words → m.Bytes → Words
  -- whether bytes that are refused have touched the other slot: always where they are applied there; never where they are
  -- applied to a copy elsewhere; or where they were not refused by their base before
  pub touched : ℕ → Words → m.Bytes → Bool

-- the state that words are, at an edition
abbrev pub state_with : (m : Machine) (k : Slots m) → ℕ → k.Words → State m.Table
state_with m k e x = record { edition = e; table = k.holds x }

-- what is asked of them: after an acceptance they hold the next state, one edition higher. Of a refusal nothing is asked
pub record Works (m : Machine) (k : Slots m) : Type 0 where
  pub accepted : (e : ℕ) (x y : k.Words) (b : m.Bytes) → m.number (state_with m k e x) b ≡ 0
      → m.after (state_with m k e x) b ≡ state_with m k (suc e) (k.worked e x y b)

-- ---- what happens
-- what is delivered: plan i, or other bytes
pub data Mail (Bytes : Type 0) : Type 0 where
  brings : ℕ → Mail Bytes
  strays : Bytes → Mail Bytes

-- what a terminal does: it starts, or it takes what is delivered
pub data Task (Bytes : Type 0) : Type 0 where
  boots : Task Bytes
  takes : Mail Bytes → Task Bytes

pub data Happening (Bytes W : Type 0) : Type 0 where
  -- the planner makes its next plan
  prepares : Happening Bytes W
  -- a task is done to its end
  does : Task Bytes → Happening Bytes W
  -- the power is cut in a task, after so many of its acts; and what that leaves in the storage
  cut : Task Bytes → ℕ → Store W → Happening Bytes W

module _ (m : Machine) (k : Slots m) where
  -- what the storage is read as, where the mark reads as e; and now
  abbrev pub read_as : Store k.Words → ℕ → State m.Table
  read_as d e = state_with m k e (d.slot (turn e)).words

  abbrev pub read : Store k.Words → State m.Table
  read d = read_as d d.mark

  -- a slot with words that last
  abbrev pub lasting : k.Words → Slot k.Words
  lasting x = record { words = x; lasts = true; due = false }

  -- how many plans there are, the storage, whether the terminal has started, and the editions that it told, the latest
  -- first
  pub record Stored : Type 0 where
    pub made : ℕ
    pub store : Store k.Words
    pub up : Bool
    pub told : List ℕ

  -- the words of the current slot, and of the other
  abbrev pub current : Store k.Words → k.Words
  current d = (d.slot (turn d.mark)).words

  abbrev pub other : Store k.Words → k.Words
  other d = (d.slot (other_slot d.mark)).words

  -- what is done with bytes
  abbrev pub taking : Store k.Words → m.Bytes → List (Act k.Words)
  taking d b =
      delivering (k.touched d.mark (current d) b) (m.number (read d) b)
      (k.worked d.mark (current d) (other d) b) d

  module _ (p : Planner m) where
    abbrev pub bytes_in : Mail m.Bytes → m.Bytes
    bytes_in (brings i) = plan_of m p i
    bytes_in (strays b) = b

    unfoldable pub acts : Store k.Words → Task m.Bytes → List (Act k.Words)
    acts d boots = booting d
    acts d (takes c) = taking d (bytes_in c)

    -- the factory's storage: edition 0 with the words that both start from, and anything in the other slot
    abbrev pub fresh : k.Words → Slot k.Words → Stored
    fresh x s = record {
      made = 0;
      store = record { mark = 0; wavers = []; due = false; slot = λ h. cond h s (lasting x) };
      up = false;
      told = [];
    }

    -- afterwards
    unfoldable pub comes : Stored → Happening m.Bytes k.Words → Stored
    comes w prepares = record { made = suc w.made; store = w.store; up = w.up; told = w.told }
    comes w (does t) = record {
      made = w.made;
      store = runs acted w.store (acts w.store t);
      up = true;
      told = told_by (acts w.store t) ++ w.told;
    }
    comes w (cut t n u) = record {
      made = w.made;
      store = u;
      up = false;
      told = told_by (take n (acts w.store t)) ++ w.told;
    }

    -- a start may come at any time; a delivery where the terminal has started: one of the plans made so far, or what is
    -- no plan for its base
    abbrev pub Apt : Stored → Task m.Bytes → Type 0
    Apt w boots = Unit {0}
    Apt w (takes (brings i)) = (w.up ≡ true) × (1 ≤ i) × (i ≤ w.made)
    Apt w (takes (strays b)) = (w.up ≡ true) × (m.PlanFor (read w.store) b → ⊥)

    -- a cut leaves what it may leave
    abbrev pub May : Stored → Happening m.Bytes k.Words → Type 0
    May w prepares = m.Accepts (at m p w.made) (p.asked (suc w.made))
    May w (does t) = Apt w t
    May w (cut t n u) = Apt w t × Left (runs acted w.store (take n (acts w.store t))) u

    abbrev pub AllMay : Stored → List (Happening m.Bytes k.Words) → Type 0
    AllMay w [] = Unit {0}
    AllMay w (e ∷ es) = May w e × AllMay (comes w e) es

    -- from the factory on
    pub record StoredPast : Type 0 where
      pub first : k.Words
      pub starts : k.holds first ≡ p.start
      pub second : Slot k.Words
      pub events : List (Happening m.Bytes k.Words)
      pub may : AllMay (fresh first second) events

    abbrev pub stored : StoredPast → Stored
    stored h = runs comes (fresh h.first h.second) h.events

    -- ---- the promises
    -- whatever happened, the storage is read as the state of a terminal of demand 3 with as many plans: all that is said
    -- of those is said of what is stored
    abbrev pub StoredGoesAlong : Type 0
    StoredGoesAlong =
        (h : StoredPast)
        → (g : History m p) × ((world m p g).made ≡ (stored h).made) × ((world m p g).state ≡ read (stored h).store)

    -- so it is at some edition with exactly the planner's table
    abbrev pub StoredInStep : Type 0
    StoredInStep =
        m.Sound p.start → (h : StoredPast)
        → (e : ℕ) × InStep m p (stored h).made (read (stored h).store) e

    -- no edition that was told is ever taken back: it is at most what the storage is read as, now and after more happened
    abbrev pub NeverTakenBack : Type 0
    NeverTakenBack = (h : StoredPast) → All (λ (e : ℕ). e ≤ (read (stored h).store).edition) (stored h).told

    -- ---- one task
    -- a start that is done to its end changes nothing of what is read, and the terminal has started
    abbrev pub StartsAsItWas : Type 0
    StartsAsItWas =
        (h : StoredPast)
        → (read (comes (stored h) (does boots)).store ≡ read (stored h).store)
        × ((comes (stored h) (does boots)).told ≡ (stored h).store.mark ∷ (stored h).told)

    -- a delivery to a terminal that has started: done to its end, it leads where the machine says, and that edition is
    -- told
    abbrev pub DeliveryDone : Type 0
    DeliveryDone =
        (h : StoredPast) → (stored h).up ≡ true → (c : Mail m.Bytes)
        → (read (comes (stored h) (does (takes c))).store ≡ m.after (read (stored h).store) (bytes_in c))
        × ((comes (stored h) (does (takes c))).told
        ≡ (m.after (read (stored h).store) (bytes_in c)).edition ∷ (stored h).told)

    -- cut anywhere, whatever the cut leaves is read as the state before or as that; and where it is refused, as the state
    -- before
    abbrev pub DeliveryCut : Type 0
    DeliveryCut =
        (h : StoredPast) → (stored h).up ≡ true → (c : Mail m.Bytes) (n : ℕ) (u : Store k.Words)
        → Left (runs acted (stored h).store (take n (taking (stored h).store (bytes_in c)))) u
        → ((read u ≡ read (stored h).store) ⊎ (read u ≡ m.after (read (stored h).store) (bytes_in c)))
        × ((m.number (read (stored h).store) (bytes_in c) ≡ 0 → ⊥) → read u ≡ read (stored h).store)

    -- so the next plan comes through, whatever happened before: a start and its delivery, both done, bring it
    abbrev pub NextComesThrough : Type 0
    NextComesThrough =
        m.Sound p.start → (h : StoredPast) → (stored h).store.mark < (stored h).made
        → read (comes (comes (stored h) (does boots)) (does (takes (brings (suc (stored h).store.mark))))).store
        ≡ at m p (suc (stored h).store.mark)

    -- what is asked of the machine and its slots
    abbrev pub StoredFollows : Type 0
    StoredFollows =
        Lawful m → Works m k
        → StoredGoesAlong × StoredInStep × NeverTakenBack × StartsAsItWas × DeliveryDone × DeliveryCut × NextComesThrough
