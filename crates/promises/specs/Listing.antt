-- The map listing: what is printed reads back; the shift; what two tables with one listing have in common; what the
-- library and the program answer, and how much room they need.
use Rattle.std.specs.Prelude.{ℕ, zero, suc, ◌^◌, ◌≤◌, ◌<◌, Bool, true, false, cond, ◌≡◌, eqb, ℤ, length, get_or}
use mathlib.Core.List.{List, [], ◌∷◌, foldr}
use Rattle.lists.specs.Lines.{◌given◌, FirstOf, Exactly, Line}
use Rattle.formats.specs.Formats.{got}
use Rattle.formats.specs.Texts.{decimal, signed, hex, read_decimal, read_signed, read_hex, leading_words, past_words}
use Rattle.rules.specs.Applying.{plain, apply, base_of, answer_alone}
use Rattle.rules.specs.Configuration.{StoredConfig}
use Rattle.rules.specs.Fields.{region_of}
use Rattle.rules.specs.Limits.{Limits, Sayable}
use Rattle.rules.specs.Listing.{shift, side_word, listing, list, list_alone, longest_listing, PagesFrom, FromTo}
use Rattle.rules.specs.Listing.{lowest_shift, highest_shift, Reaches}
use Rattle.rules.specs.Plan.{read_plan, Plan}
use Rattle.rules.specs.Regions.{well_formed, in_reach}
use Rattle.rules.specs.Requests.{standing}
use Rattle.rules.specs.Tables.{empty_zone, regions_of, table_of, Zone, StoredTable}
use Rattle.rules.specs.declared.Outcome.{Outcome}
use Rattle.rules.specs.declared.Region.{Region}
use Rattle.rules.specs.declared.Side.{Side}
use Rattle.rules.specs.declared.Side.TheVariants.{Cpu, Iommu}
use Rattle.promises.specs.Answers.{standing_lines}
use Rattle.promises.specs.Tables.{SoundUnder}
use Rattle.promises.specs.Filling.{Fills}

-- ---- numbers
-- each is read back
abbrev pub PrintedReadsBack : Type 0
PrintedReadsBack =
    ((n : ℕ) → read_decimal (decimal n) ≡ n)
    × ((z : ℤ) → read_signed (signed z) ≡ z)
    × ((n : ℕ) → n < 2 ^ 64 → read_hex (hex n) ≡ n)

-- so no two print alike
abbrev pub NoTwoPrintAlike : Type 0
NoTwoPrintAlike =
    ((m n : ℕ) → decimal m ≡ decimal n → m ≡ n)
    × ((y z : ℤ) → signed y ≡ signed z → y ≡ z)
    × ((m n : ℕ) → m < 2 ^ 64 → n < 2 ^ 64 → hex m ≡ hex n → m ≡ n)

-- ---- the shift of a region that is well formed and in reach
-- physical start and guest start lie exactly so many pages apart
abbrev pub ShiftIsExact : Limits → Type 0
ShiftIsExact l =
    (r : Region) → well_formed l.page r ≡ true → PagesFrom l.page r.v.0 r.p.0 (shift l.page r)

-- it lies from -(2^28 - 1) to 2^36 - 1
abbrev pub ShiftInRange : Limits → Type 0
ShiftInRange l =
    Reaches l → (r : Region) → well_formed l.page r ≡ true → in_reach l r ≡ true
    → FromTo lowest_shift highest_shift (shift l.page r)

-- ---- a listing read back: what its lines speak of, and the zones that these make
-- some element is there
unfoldable pub some : {A : Type 0} → List A → Bool
some [] = false
some (x ∷ xs) = true

pub record Entry : Type 0 where
  pub zone : ℕ
  pub side : Side
  pub region : Region

unfoldable pub side_read : List ℕ → Side
side_read w = cond (eqb (length w) (length (side_word Cpu))) Cpu Iommu

-- of a line's seven words; the last, the shift, follows from the others
unfoldable pub entry_read : List (List ℕ) → Entry
entry_read ws = record {
  zone = read_decimal (get_or ws 0 []);
  side = side_read (get_or ws 1 []);
  region =
      region_of (read_hex (get_or ws 2 [])) (read_hex (get_or ws 3 [])) (read_hex (get_or ws 4 [])) (read_decimal (get_or ws 5 []));
}

-- up to k lines
unfoldable pub entries_read : ℕ → List ℕ → List Entry
entries_read zero b = []
entries_read (suc k) b = cond (some b) (entry_read (leading_words 7 b) ∷ entries_read k (past_words 7 b)) []

-- a region in front of a set of a zone
unfoldable pub on_side : Side → Region → Zone → Zone
on_side Cpu r z = record { id = z.id; cpu = r ∷ z.cpu; iommu = z.iommu }
on_side Iommu r z = record { id = z.id; cpu = z.cpu; iommu = r ∷ z.iommu }

-- an entry before zones: it goes to the first where that has its id, else to a zone of its own
unfoldable pub place : Entry → List Zone → List Zone
place e [] = on_side e.side e.region (empty_zone e.zone) ∷ []
place e (z ∷ zs) =
    cond (eqb z.id e.zone) (on_side e.side e.region z ∷ zs)
    (on_side e.side e.region (empty_zone e.zone) ∷ z ∷ zs)

abbrev pub zones_made : List Zone → List Entry → List Zone
zones_made zs es = foldr place zs es

unfoldable pub listing_read : List ℕ → List Zone
listing_read b = zones_made [] (entries_read (length b) b)

-- the zones that hold a region; the others have no line
unfoldable pub with_regions : List Zone → List Zone
with_regions [] = []
with_regions (z ∷ t) = cond (some (regions_of z)) (z ∷ with_regions t) (with_regions t)

-- the listing of a sound table reads back to its zones that hold a region, with every number of each
abbrev pub ListingReadsBack : Limits → Type 0
ListingReadsBack l =
    Sayable l → (s : StoredConfig) (t : List Zone) → SoundUnder l s t → listing_read (listing l t) ≡ with_regions t

-- so one listing means the same zones that hold regions, in one order, with the same sets in one order
abbrev pub ListingTells : Limits → Type 0
ListingTells l =
    Sayable l → (s q : StoredConfig) (t u : List Zone) → SoundUnder l s t → SoundUnder l q u → listing l t ≡ listing l u
    → with_regions t ≡ with_regions u

-- a zone that holds nothing has no line
abbrev pub EmptyUnlisted : Limits → Type 0
EmptyUnlisted l = (t : List Zone) → listing l t ≡ listing l (with_regions t)

-- ---- the library's answer
-- 28 after 1 and 2
abbrev pub room_lines : Limits → List Zone → ℕ → List (Line Outcome)
room_lines l t room = plain 28 0 given (room < length (listing l t)) ∷ []

abbrev pub ListIsExact : Limits → Type 0
ListIsExact l =
    (c : StoredConfig) (t : StoredTable) (w : List ℕ)
    → Exactly (list l c t w).outcome
    (FirstOf (standing_lines (λ n. plain n 0) l c t)
    (FirstOf (room_lines l (table_of t) (length w)) (λ o. plain 0 (length (listing l (table_of t))) ≡ o)))

-- a buffer of the longest listing's length is always long enough: it is refused only with 1 or 2
abbrev pub LongestSuffices : Limits → Type 0
LongestSuffices l =
    Reaches l → (c : StoredConfig) → length c.records ≡ l.regions → (t : StoredTable) (w : List ℕ)
    → longest_listing l ≤ length w → (list l c t w).outcome.number ≡ standing l c t

-- a refusal changes no byte of the buffer
abbrev pub ListRefusalLeaves : Limits → Type 0
ListRefusalLeaves l =
    (c : StoredConfig) (t : StoredTable) (w : List ℕ) → ((list l c t w).outcome.number ≡ 0 → ⊥)
    → (list l c t w).buffer ≡ w

-- success puts the listing at its start, and the place is its length
abbrev pub ListSuccessFills : Limits → Type 0
ListSuccessFills l =
    (c : StoredConfig) (t : StoredTable) (w : List ℕ) → (list l c t w).outcome.number ≡ 0
    → Fills (listing l (table_of t)) w (list l c t w).outcome (list l c t w).buffer

-- ---- the program's
-- a refused plan has the answer of document 01's program, and no byte is changed
abbrev pub AloneRefused : Limits → Type 0
AloneRefused l =
    (b w : List ℕ) → ((answer_alone l b).number ≡ 0 → ⊥)
    → list_alone l b w ≡ record { outcome = answer_alone l b; buffer = w }

-- an accepted one has the listing of the table that it leaves, in a buffer of the longest one's length
abbrev pub AloneListed : Limits → Type 0
AloneListed l =
    Reaches l → (b w : List ℕ) → (answer_alone l b).number ≡ 0 → longest_listing l ≤ length w
    → (p : Plan) × (read_plan l b ≡ got p [])
    × Fills (listing l (table_of (apply l (base_of l p) b).state.table)) w (list_alone l b w).outcome
    (list_alone l b w).buffer
