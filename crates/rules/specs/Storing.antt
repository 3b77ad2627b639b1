-- A terminal's state in storage: a mark, which is the edition, and two slots for the words of a table. What writing and
-- a cut in power do to them, and in which order a terminal writes.
use Rattle.std.specs.Prelude.{ℕ, zero, suc, ◌≤◌, Bool, true, false, cond, not, List, [], ◌∷◌, ◌++◌, ◌⊎◌, ◌≡◌, eqb, take}
use Rattle.lists.specs.Runs.{runs}
use Rattle.formats.specs.Formats.{All}

-- ---- the storage
-- a slot: what reading it gives, whether that lasts over a cut, and whether it was written and not waited for since
pub record Slot (W : Type 0) : Type 0 where
  pub words : W
  pub lasts : Bool
  pub due : Bool

-- what reading the mark gives; what else it may give after a cut, which is nothing where the mark lasts; whether it was
-- written and not waited for since; and two slots
pub record Store (W : Type 0) : Type 0 where
  pub mark : ℕ
  pub wavers : List ℕ
  pub due : Bool
  pub slot : Bool → Slot W

-- the slot of an edition: they take turns
unfoldable pub turn : ℕ → Bool
turn zero = false
turn (suc k) = not (turn k)

-- ---- writing
-- what a terminal does, one thing after another
pub data Act (W : Type 0) : Type 0 where
  -- it works in a slot, which holds those words in the end
  fills : Bool → W → Act W
  -- it writes the mark
  marks : ℕ → Act W
  -- it waits until all that was written lasts
  waits : Act W
  -- it tells others its edition, in an answer or after a start
  tells : ℕ → Act W

-- that slot, worked in: what it holds does not last
unfoldable pub filled : {W : Type 0} → (Bool → Slot W) → Bool → W → Bool → Slot W
filled s false x false = record { words = x; lasts = false; due = true }
filled s false x true = s true
filled s true x false = s false
filled s true x true = record { words = x; lasts = false; due = true }

-- a slot that was waited for: what was written lasts; what was not is as it was
abbrev pub waited : {W : Type 0} → Slot W → Slot W
waited s = record { words = s.words; lasts = cond s.due true s.lasts; due = false }

-- the storage afterwards. A mark that is written may be read as what it was until the terminal has waited; and waiting
-- does nothing for one that was not written
unfoldable pub acted : {W : Type 0} → Store W → Act W → Store W
acted d (fills h x) = record { mark = d.mark; wavers = d.wavers; due = d.due; slot = filled d.slot h x }
acted d (marks e) = record { mark = e; wavers = d.mark ∷ d.wavers; due = true; slot = d.slot }
acted d waits = record {
  mark = d.mark;
  wavers = cond d.due [] d.wavers;
  due = false;
  slot = λ h. waited (d.slot h);
}
acted d (tells e) = d

-- the editions that others were told
unfoldable pub told_by : {W : Type 0} → List (Act W) → List ℕ
told_by [] = []
told_by (fills h x ∷ es) = told_by es
told_by (marks e ∷ es) = told_by es
told_by (waits ∷ es) = told_by es
told_by (tells e ∷ es) = told_by es ++ e ∷ []

-- ---- a cut in power
-- x is one of those
abbrev pub Among : ℕ → List ℕ → Type 0
Among x [] = ⊥
Among x (y ∷ ys) = (x ≡ y) ⊎ Among x ys

-- what readings of the mark may give
abbrev pub readings : {W : Type 0} → Store W → List ℕ
readings d = d.mark ∷ d.wavers

-- the mark lasts
abbrev pub Sure : {W : Type 0} → Store W → Type 0
Sure d = (d.wavers ≡ []) × (d.due ≡ false)

-- u may be what a cut leaves of d: a slot whose words last has them, any other has any words; the mark reads as it might
-- have before, now the one way and at another time the other; and what was written is waited for no more
pub record Left {W : Type 0} (d u : Store W) : Type 0 where
  pub slots : (h : Bool) → (d.slot h).lasts ≡ true → (u.slot h).words ≡ (d.slot h).words
  pub last : (h : Bool) → (d.slot h).lasts ≡ true → (u.slot h).lasts ≡ true
  pub marks : All (λ (e : ℕ). Among e (readings d)) (readings u)
  pub none : u.due ≡ false
  pub none_due : (h : Bool) → (u.slot h).due ≡ false

-- ---- what a terminal does
-- at a start: the mark that was read is written again, so that it lasts, before anything else
unfoldable pub booting : {W : Type 0} → Store W → List (Act W)
booting d = marks d.mark ∷ waits ∷ tells d.mark ∷ []

-- at a delivery the current table is copied to the other slot, and the plan is applied there
abbrev pub other_slot : ℕ → Bool
other_slot e = turn (suc e)

-- after 0 the mark follows when that slot lasts, and then the answer when the mark lasts
unfoldable pub raising : {W : Type 0} → ℕ → List (Act W)
raising e = waits ∷ marks (suc e) ∷ waits ∷ tells (suc e) ∷ []

-- after any other number the mark stays
unfoldable pub staying : {W : Type 0} → ℕ → List (Act W)
staying e = tells e ∷ []

-- and the other slot was worked in where the plan was applied there; not where it was judged before, or applied to a copy
-- elsewhere that is put there only after 0
unfoldable pub refusing : {W : Type 0} → Bool → W → ℕ → List (Act W)
refusing touched x e = cond touched (fills (other_slot e) x ∷ staying e) (staying e)

-- one that is answered n, and leaves x in the other slot; where it is refused, if that was touched
unfoldable pub delivering : {W : Type 0} → Bool → ℕ → W → Store W → List (Act W)
delivering touched n x d =
    cond (eqb n 0) (fills (other_slot d.mark) x ∷ raising d.mark) (refusing touched x d.mark)

-- ---- what is kept, whatever P says of an edition and a table's words
module _ {W : Type 0} (P : ℕ → W → Type 0) where
  -- where the mark is read as r, the slot of r lasts and P holds of its words, and no edition that was told is above r
  pub record Ok (told : List ℕ) (d : Store W) (r : ℕ) : Type 0 where
    pub lasts : (d.slot (turn r)).lasts ≡ true
    pub known : P r (d.slot (turn r)).words
    pub above : All (λ (e : ℕ). e ≤ r) told

  -- however the mark is read
  abbrev pub Fine : List ℕ → Store W → Type 0
  Fine told d = All (Ok told d) (readings d)

  -- after a cut anywhere in a task, whatever it leaves
  abbrev pub CutAnywhere : List ℕ → Store W → List (Act W) → Type 0
  CutAnywhere told d es =
      (n : ℕ) (u : Store W) → Left (runs acted d (take n es)) u → Fine (told_by (take n es) ++ told) u

  -- and where it is done
  abbrev pub Safe : List ℕ → Store W → List (Act W) → Type 0
  Safe told d es = CutAnywhere told d es × Fine (told_by es ++ told) (runs acted d es)

  -- a start is safe; and a delivery is where the mark lasts and, if it is accepted, P holds of the next edition and of what
  -- the other slot then has
  abbrev pub SafeStart : Type 0
  SafeStart = (told : List ℕ) (d : Store W) → Fine told d → Safe told d (booting d)

  abbrev pub SafeDelivery : Type 0
  SafeDelivery =
      (told : List ℕ) (d : Store W) (touched : Bool) (n : ℕ) (x : W) → Sure d → Ok told d d.mark
      → (n ≡ 0 → P (suc d.mark) x) → Safe told d (delivering touched n x d)
