-- How far a translation goes: as many bytes as remain come out one after another, and no more of that region follow.
use Rattle.std.specs.Prelude.{ℕ, ◌+◌, ◌-◌, ◌≤◌, ◌<◌, List, ◌↔◌, ◌≡◌, get_or}
use Rattle.lists.specs.First.{first_index}
use Rattle.rules.specs.Changes.{region_set}
use Rattle.rules.specs.Configuration.{StoredConfig}
use Rattle.rules.specs.Limits.{Limits}
use Rattle.rules.specs.Regions.{no_region}
use Rattle.rules.specs.Requests.{find}
use Rattle.rules.specs.Tables.{Zone, StoredTable}
use Rattle.rules.specs.Translation.{covers_guest, translation, translated}
use Rattle.rules.specs.declared.Guest.{Guest}
use Rattle.rules.specs.declared.Region.{Region}
use Rattle.rules.specs.declared.Side.{Side}
use Rattle.rules.specs.declared.Translated.{Translated}
use Rattle.promises.specs.Tables.{In, SoundUnder}
use Rattle.promises.specs.Translation.{CoversGuest, TranslatesTo}

-- the answer for the address i bytes on, if the stretch goes on that far: i bytes further, with i fewer that remain
abbrev pub further : ℕ → Translated → Translated
further i o = record { number = 0; phys = record { 0 = o.phys.0 + i }; remaining = o.remaining - i }

-- ---- from outside
-- for every i below what remains, address + i translates to physical + i, with what remains less i; of any words
abbrev pub StretchIsConsecutive : Limits → Type 0
StretchIsConsecutive l =
    (c : StoredConfig) (t : StoredTable) (id : ℕ) (s : Side) (a : Guest) (i : ℕ)
    → i < (translated l c t id s a).remaining
    → translated l c t id s (record { 0 = a.0 + i }) ≡ further i (translated l c t id s a)

-- nothing remains on refusal, and only then
abbrev pub NothingRemains : Limits → Type 0
NothingRemains l =
    (c : StoredConfig) (t : StoredTable) (id : ℕ) (s : Side) (a : Guest)
    → ((translated l c t id s a).remaining ≡ 0) ↔ ((translated l c t id s a).number ≡ 0 → ⊥)

-- ---- in any table, sound or not
-- the region that puts the address there covers as many bytes from it on as remain, and none after them
abbrev pub RemainingIs : Type 0
RemainingIs =
    (t : List Zone) (id : ℕ) (side : Side) (a x : ℕ) → TranslatesTo t id side a x
    → (r : Region) × In r (region_set t (find id t) side) × (r.p.0 + (a - r.v.0) ≡ x)
    × ((i : ℕ) → CoversGuest r (a + i) ↔ (i < (translation t id side a).remaining))

-- the stretch goes on to address + i, unless a region that stands before the covering one covers that
abbrev pub StretchGoesOn : Type 0
StretchGoesOn =
    (t : List Zone) (id : ℕ) (side : Side) (a i : ℕ) → i < (translation t id side a).remaining
    → ((j : ℕ) → j < first_index (covers_guest a) (region_set t (find id t) side)
    → CoversGuest (get_or (region_set t (find id t) side) j no_region) (a + i) → ⊥)
    → translation t id side (a + i) ≡ further i (translation t id side a)

-- ---- in a sound table
-- the stretch ends within both reaches, so no sum of an address and what remains wraps
abbrev pub StretchInReach : Limits → Type 0
StretchInReach l =
    (s : StoredConfig) (t : List Zone) → SoundUnder l s t → (id : ℕ) (side : Side) (a x : ℕ)
    → TranslatesTo t id side a x
    → (a + (translation t id side a).remaining ≤ l.guest_reach)
    × (x + (translation t id side a).remaining ≤ l.phys_reach)
