-- What the library's functions answer, in numbers that C can hold.
use Rattle.std.specs.Prelude.{ℕ, ◌-◌, List, [], ◌∷◌, ◌≡◌, Ok, Err, length, get_or}
use Rattle.formats.specs.Formats.{Out, got, bad}
use Rattle.rules.specs.Configuration.{check_place, check_earlier}
use Rattle.rules.specs.Differing.{zones_of}
use Rattle.rules.specs.Filling.{Filled}
use Rattle.rules.specs.Limits.{most_regions, most_zones, most_in_set, most_requests, limits}
use Rattle.rules.specs.Listing.{list, longest_listing}
use Rattle.rules.specs.Logs.{read_log, longest_log, check_log}
use Rattle.rules.specs.Plan.{read_plan, Plan}
use Rattle.rules.specs.Receiving.{take_piece}
use Rattle.rules.specs.Sizes.{longest_size, zones_at}
use Rattle.rules.specs.declared.Checked.{Checked}
use Rattle.rules.specs.declared.Receiver.{Receiver}
use Rattle.zones.specs.Layout.{region_words}
use Rattle.zones.specs.View.{stored_config, stored_table}
use Rattle.lent.specs.Lent.{told_number, told_by}
use Rattle.logs.specs.Logs.{config_left, table_left, CheckedIn}
use Rattle.plan.specs.Applying.{applied, state_in}
use Rattle.plan.specs.Found.{found_in}
use Rattle.plan.specs.Told.{Told}
use Rattle.receiver.specs.Words.{ended_in, TakesIn}
use Rattle.terminal.specs.Terminal.{Applies}
use Rattle.wanted.specs.Wanted.{listed_in, ListsIn}
use Rattle.writer.specs.Writer.{writes_in, WritesIn, writes_zones_in, WritesZonesIn}

-- what a header must have for the library: the most regions, zones, regions in a set and requests, the words of a
-- region, the longest plan, the longest listing, the longest log
abbrev pub layout : List ℕ
layout =
    most_regions ∷ most_zones ∷ most_in_set ∷ most_requests ∷ region_words ∷ longest_size limits ∷ longest_listing limits ∷ longest_log limits ∷ []

-- the two places of a configuration's check
unfoldable pub places_of : Checked → List ℕ
places_of f = check_place f ∷ check_earlier f ∷ []

-- of a plan that is only read: the number, and its offset or that of the first request
abbrev pub reading_number : List ℕ → ℕ
reading_number b = told_number (found_in (length b) (read_plan limits b))

abbrev pub reading_place : List ℕ → ℕ
reading_place b = told_by (λ f. f.requests) (found_in (length b) (read_plan limits b))

-- of a plan's base edition: the number, and the edition or an offset
abbrev pub edition_number : Told ℕ → ℕ
edition_number e = told_number e

abbrev pub edition_value : Told ℕ → ℕ
edition_value (Ok e) = e
edition_value (Err r) = r.1

-- a plan at a state that is lent in three parts: the number, what then lies at the table and at the edition, and the
-- place and inner number
pub record AppliesWords (c t : List ℕ) (e : ℕ) (b : List ℕ) (n : ℕ) (u : List ℕ) (d : ℕ) (a : List ℕ) : Type 0 where
  pub number : n ≡ (applied (state_in c t e) b).outcome.number
  pub table : u ≡ (applied (state_in c t e) b).state.table.words
  pub edition : d ≡ (applied (state_in c t e) b).state.edition
  pub places : a ≡ (applied (state_in c t e) b).outcome.place ∷ (applied (state_in c t e) b).outcome.inner ∷ []

-- so the three parts are a state to which the plan is applied: what is proved of any code that meets `Applies` is true
-- of such calls
abbrev pub PartsAreAState : Type 0
PartsAreAState =
    (c t : List ℕ) (e : ℕ) (b : List ℕ) (n : ℕ) (u : List ℕ) (d : ℕ) (a : List ℕ) → AppliesWords c t e b n u d a
    → Applies (state_in c t e) b (state_in c u d) (record { number = n; place = get_or a 0 0; inner = get_or a 1 0 })

-- ---- a plan in pieces
-- the receiver that two words are, and its words
abbrev pub receiver_in : List ℕ → Receiver
receiver_in k = record { stored = get_or k 0 0; more = get_or k 1 0 }

abbrev pub words_of_receiver : Receiver → List ℕ
words_of_receiver r = r.stored ∷ r.more ∷ []

-- a piece call: the number, and what then lies at the receiver and in the buffer
pub record TakesWords (k w p : List ℕ) (n : ℕ) (j v : List ℕ) : Type 0 where
  pub number : n ≡ (take_piece limits (receiver_in k) w p).number
  pub receiver : j ≡ words_of_receiver (take_piece limits (receiver_in k) w p).receiver
  pub buffer : v ≡ (take_piece limits (receiver_in k) w p).buffer

-- the end call: the number, what then lies at the table, at the edition and at the receiver, and the place and inner
-- number
pub record EndsWords (c t : List ℕ) (e : ℕ) (k w : List ℕ) (n : ℕ) (u : List ℕ) (d : ℕ) (j a : List ℕ) : Type 0 where
  pub number : n ≡ (ended_in (state_in c t e) (receiver_in k) w).outcome.number
  pub table : u ≡ (ended_in (state_in c t e) (receiver_in k) w).state.table.words
  pub edition : d ≡ (ended_in (state_in c t e) (receiver_in k) w).state.edition
  pub receiver : j ≡ words_of_receiver (ended_in (state_in c t e) (receiver_in k) w).receiver
  pub places : a
      ≡ (ended_in (state_in c t e) (receiver_in k) w).outcome.place
      ∷ (ended_in (state_in c t e) (receiver_in k) w).outcome.inner ∷ []

-- so the words are a receiver's and the three parts a state: what is proved of piece calls and end calls is true of
-- such calls
abbrev pub WordsAreAPiece : Type 0
WordsAreAPiece =
    (k w p : List ℕ) (n : ℕ) (j v : List ℕ) → TakesWords k w p n j v
    → TakesIn (receiver_in k) w p n (receiver_in j) v

abbrev pub WordsAreAnEnd : Type 0
WordsAreAnEnd =
    (c t : List ℕ) (e : ℕ) (k w : List ℕ) (n : ℕ) (u : List ℕ) (d : ℕ) (j a : List ℕ)
    → EndsWords c t e k w n u d j a
    → record {
      outcome = record { number = n; place = get_or a 0 0; inner = get_or a 1 0 };
      state = state_in c u d;
      receiver = receiver_in j;
    }
    ≡ ended_in (state_in c t e) (receiver_in k) w

-- the writer: the number, what then lies at the table and in the buffer, and the place and inner number
pub record WritesWords (c t : List ℕ) (e : ℕ) (r w : List ℕ) (n : ℕ) (u v a : List ℕ) : Type 0 where
  pub number : n ≡ (writes_in c t e r w).outcome.number
  pub table : u ≡ t
  pub buffer : v ≡ (writes_in c t e r w).buffer
  pub places : a ≡ (writes_in c t e r w).outcome.place ∷ (writes_in c t e r w).outcome.inner ∷ []

-- so what is proved of any code that meets `WritesIn` is true of such calls
abbrev pub WordsAreAWrite : Type 0
WordsAreAWrite =
    (c t : List ℕ) (e : ℕ) (r w : List ℕ) (n : ℕ) (u v a : List ℕ) → WritesWords c t e r w n u v a
    → WritesIn c t e r w (record { number = n; place = get_or a 0 0; inner = get_or a 1 0 }) u v

-- ---- where bases differ
-- a terminal's zones: the number, what then lies in the buffer, and the place
pub record WritesZonesWords (c t w : List ℕ) (n : ℕ) (v a : List ℕ) : Type 0 where
  pub number : n ≡ (writes_zones_in c t w).outcome.number
  pub buffer : v ≡ (writes_zones_in c t w).buffer
  pub place : a ≡ (writes_zones_in c t w).outcome.place ∷ []

-- so what is proved of any code that meets `WritesZonesIn` is true of such calls
abbrev pub WordsAreZones : Type 0
WordsAreZones =
    (c t w : List ℕ) (n : ℕ) (v a : List ℕ) → WritesZonesWords c t w n v a
    → WritesZonesIn c t w (record { number = n; place = get_or a 0 0; inner = 0 }) v

-- where a plan's zones section begins, or the offset of its refusal; and how long the section is
unfoldable pub base_at : ℕ → Out Plan → ℕ
base_at n (got p left) = zones_at limits p
base_at n (bad k left) = n - length left

unfoldable pub base_stretch : List ℕ → List ℕ
base_stretch b = base_at (length b) (read_plan limits b) ∷ length (zones_of limits b) ∷ []

-- what is told of a place that has no byte
abbrev pub no_byte : ℕ
no_byte = 256

-- the list from two tables: the number, what then lies in the buffer, and how many requests there are
pub record ListsWords (c t w b : List ℕ) (n : ℕ) (v a : List ℕ) : Type 0 where
  pub number : n ≡ (listed_in c t w b).number
  pub buffer : v ≡ (listed_in c t w b).buffer
  pub count : a ≡ (listed_in c t w b).count ∷ []

-- so what is proved of any code that meets `ListsIn` is true of such calls
abbrev pub WordsAreAList : Type 0
WordsAreAList =
    (c t w b : List ℕ) (n : ℕ) (v a : List ℕ) → ListsWords c t w b n v a
    → ListsIn c t w b (record { number = n; count = get_or a 0 0 }) v

-- ---- the listing: the number, what then lies in the buffer, and the place
abbrev pub listing_in : List ℕ → List ℕ → List ℕ → Filled
listing_in c t w = list limits (stored_config c) (stored_table t) w

pub record ListingWords (c t w : List ℕ) (n : ℕ) (v a : List ℕ) : Type 0 where
  pub number : n ≡ (listing_in c t w).outcome.number
  pub buffer : v ≡ (listing_in c t w).buffer
  pub place : a ≡ (listing_in c t w).outcome.place ∷ []

-- ---- the check of a log: the number, what then lies at the configuration, at the table and in the buffer, and the place,
-- what the rules answer and what was claimed
pub record ChecksWords (c t b w : List ℕ) (n : ℕ) (d u v a : List ℕ) : Type 0 where
  pub number : n ≡ (check_log limits b w).answer.outcome.number
  pub config : d ≡ config_left c (read_log limits b)
  pub table : u ≡ table_left t (read_log limits b)
  pub buffer : v ≡ (check_log limits b w).buffer
  pub places : a
      ≡ (check_log limits b w).answer.outcome.place
      ∷ (check_log limits b w).answer.outcome.inner
      ∷ (check_log limits b w).answer.claimed
      ∷ []

-- so what is proved of any code that meets `CheckedIn` is true of such calls
abbrev pub WordsAreACheck : Type 0
WordsAreACheck =
    (c t b w : List ℕ) (n : ℕ) (d u v a : List ℕ) → ChecksWords c t b w n d u v a
    → CheckedIn c t b w
    (record { outcome = record { number = n; place = get_or a 0 0; inner = get_or a 1 0 }; claimed = get_or a 2 0 }) d u v
