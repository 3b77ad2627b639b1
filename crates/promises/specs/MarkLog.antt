-- A mark where no word can be written twice, as in flash: a page of entries, each of three words that are programmed once, in
-- turn. It is a mark as Storing has it: a cut anywhere in a write leaves a page that is read as before or as what was
-- written, and one that is done is read as that, from then on.
use Rattle.std.specs.Prelude.{ℕ, List, [], ◌∷◌, ◌++◌, ◌≡◌}
use Rattle.formats.specs.Formats.{All}
use Rattle.rules.specs.Storing.{marks, waits, acted, readings, Among, Store}

-- ---- the page
-- a word: blank; programmed, and waited for; or one at which a cut came between the two, which may be read as blank or as
-- anything, each time anew
pub data Cell : Type 0 where
  blank : Cell
  holds : ℕ → Cell
  torn : Cell

pub record Entry : Type 0 where
  pub claim : Cell
  pub value : Cell
  pub finished : Cell

-- no word of it was touched
abbrev pub unused : Entry
unused = record { claim = blank; value = blank; finished = blank }

-- a word that may be read as blank
abbrev pub MayBeBlank : Cell → Type 0
MayBeBlank blank = Unit {0}
MayBeBlank (holds v) = ⊥
MayBeBlank torn = Unit {0}

-- a word that may be read as not blank
abbrev pub MayBeThere : Cell → Type 0
MayBeThere blank = ⊥
MayBeThere (holds v) = Unit {0}
MayBeThere torn = Unit {0}

-- ---- reading
-- a page is a list of entries, the last one first. It is read as the value of the last entry whose third word is not blank,
-- whatever that word is; so these are the numbers that it may be read as
unfoldable pub value_in : Cell → List ℕ → List ℕ
value_in (holds v) rs = v ∷ rs
value_in blank rs = rs
value_in torn rs = rs

unfoldable pub seen_in : Cell → Cell → List ℕ → List ℕ
seen_in blank v rs = rs
seen_in (holds x) v rs = value_in v []
seen_in torn v rs = value_in v rs

unfoldable pub readings_in : List Entry → List ℕ
readings_in [] = []
readings_in (x ∷ xs) = seen_in x.finished x.value (readings_in xs)

-- what every write keeps: where the third word may be there, the value is, for good; and where the claim may be read as
-- blank, the two words behind it are
pub record Formed (x : Entry) : Type 0 where
  pub believed : MayBeThere x.finished → (v : ℕ) × (x.value ≡ holds v)
  pub guarded : MayBeBlank x.claim → (x.value ≡ blank) × (x.finished ≡ blank)

abbrev pub Tidy : List Entry → Type 0
Tidy page = All Formed page

-- ---- writing
-- a place that is free: its claim, and that of every later entry, may be read as blank. A terminal takes the entry after the
-- last whose claim it reads as not blank, and has just read that one and all later ones as blank
pub record Place (page : List Entry) : Type 0 where
  pub later : List Entry
  pub own : Entry
  pub earlier : List Entry
  pub whole : page ≡ later ++ own ∷ earlier
  pub free : All (λ (x : Entry). MayBeBlank x.claim) (later ++ own ∷ [])

-- how far a write has come; each word is waited for before the next is programmed
pub data Stage : Type 0 where
  not_begun : Stage
  at_claim : Stage
  claimed : Stage
  at_value : Stage
  valued : Stage
  at_finished : Stage
  done : Stage

-- what an entry then is, where it was x and e is written
unfoldable pub written : Entry → ℕ → Stage → Entry
written x e not_begun = x
written x e at_claim = record { claim = torn; value = x.value; finished = x.finished }
written x e claimed = record { claim = holds 0; value = x.value; finished = x.finished }
written x e at_value = record { claim = holds 0; value = torn; finished = x.finished }
written x e valued = record { claim = holds 0; value = holds e; finished = x.finished }
written x e at_finished = record { claim = holds 0; value = holds e; finished = torn }
written x e done = record { claim = holds 0; value = holds e; finished = holds 0 }

abbrev pub page_after : {page : List Entry} → Place page → ℕ → Stage → List Entry
page_after p e s = p.later ++ written p.own e s ∷ p.earlier

-- ---- what is promised
-- the page is read as the mark of that storage may be
abbrev pub StandsFor : {W : Type 0} → Store W → List Entry → Type 0
StandsFor d page = All (λ (r : ℕ). Among r (readings d)) (readings_in page)

pub record IsAMark : Type 1 where
  -- the two words behind the claim are programmed once: they were blank, for good
  pub once : (page : List Entry) → Tidy page → (p : Place page) → (p.own.value ≡ blank) × (p.own.finished ≡ blank)
  -- a cut anywhere leaves a page that can be written again
  pub tidy : (page : List Entry) → Tidy page → (p : Place page) (e : ℕ) (s : Stage) → Tidy (page_after p e s)
  -- and that is read as the mark which was being written may be
  pub cut : {W : Type 0} (d : Store W) (page : List Entry) → Tidy page → StandsFor d page
      → (p : Place page) (e : ℕ) (s : Stage) → StandsFor (acted d (marks e)) (page_after p e s)
  -- done, as one that was written and waited for: as e only
  pub wrote : (page : List Entry) → Tidy page → (p : Place page) (e : ℕ) → readings_in (page_after p e done) ≡ e ∷ []
  pub waited : {W : Type 0} (d : Store W) (page : List Entry) → Tidy page
      → (p : Place page) (e : ℕ) → StandsFor (acted (acted d (marks e)) waits) (page_after p e done)
  -- a page that was erased is tidy
  pub erased : (n : List Entry) → All (λ (x : Entry). x ≡ unused) n → Tidy n
