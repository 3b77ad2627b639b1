-- Where the sections of a plan begin, of what the format reads: n is the number of the plan's bytes.
use Rattle.std.specs.Prelude.{ℕ, ◌+◌, ◌-◌, ◌*◌, ◌<◌, ◌≤◌, ◌≡◌, Result, cond, List, [], ◌∷◌, ltb, Ok, Err, length, drop}
use Rattle.std.specs.Result.{IsErrAnd}
use Rattle.formats.specs.Formats.{Out, got, bad}
use Rattle.rules.specs.Fields.{region_size}
use Rattle.rules.specs.Limits.{limits, in_format}
use Rattle.rules.specs.Plan.{marks_section, regions_section, zones_section, requests_section, Asked, Marks, Plan}
use Rattle.rules.specs.Run.{request_size}
use Rattle.rules.specs.Sizes.{marks_size, zones_at}
use Rattle.rules.specs.Tables.{Zone}
use Rattle.rules.specs.declared.Region.{Region}
use Rattle.rules.specs.declared.refusal.Refusal.TheVariants.{Trailing}
use Rattle.plan.specs.Told.{Told, answer_by}
use Rattle.plan.specs.declared.finding.Found.{Found}
use Rattle.plan.specs.declared.finding.Four.{Four}
use Rattle.plan.specs.declared.finding.Parts.{Parts}
use Rattle.plan.specs.declared.refused.Refused.{Refused}

-- bytes of the marks with their count
abbrev pub marks_bytes : ℕ
marks_bytes = marks_size limits

-- the marks, and where the zones and the first request begin
abbrev pub found_at : ℕ → ℕ → ℕ → ℕ → Found
found_at gic e z requests = record { gic = gic; edition = e; zones = z; requests = requests }

-- the parts of the bytes b that begin where it says: the regions follow the marks
pub record FitsIn (b : List ℕ) (f : Found) : Type 0 where
  pub regions : marks_bytes ≤ length b
  pub zones : f.zones ≤ length b
  pub requests : f.requests ≤ length b

pub record PartsOf (b : List ℕ) (f : Found) (p : Parts) : Type 0 where
  pub gic : p.gic ≡ f.gic
  pub edition : p.edition ≡ f.edition
  pub regions : p.regions.now ≡ drop marks_bytes b
  pub zones : p.zones.now ≡ drop f.zones b
  pub requests : p.requests.now ≡ drop f.requests b

-- what any kind of terminal's plans read to: the plan in it, and where the zones begin. The requests are the last of the
-- bytes of one that reads whole
abbrev pub found_of : {S : Type 0} → (S → Plan) → (S → ℕ) → ℕ → Out S → Told Found
found_of plan zones n o =
    answer_by (λ p left. found_at (plan p).marks.gic (plan p).marks.edition (zones p)
    (n - length (plan p).asked * request_size)) n o

-- document 01's: the regions follow the marks, and the zones the regions
abbrev pub found_in : ℕ → Out Plan → Told Found
found_in n o = found_of (λ (p : Plan). p) (zones_at limits) n o

-- bytes that begin with such a plan: its requests end where it ends
abbrev pub four_at : ℕ → ℕ → ℕ → ℕ → ℕ → Four
four_at gic e z requests end = record { found = found_at gic e z requests; end = end }

abbrev pub four_of : {S : Type 0} → (S → Plan) → (S → ℕ) → ℕ → Out S → Told Four
four_of plan zones n o =
    answer_by (λ p left. four_at (plan p).marks.gic (plan p).marks.edition (zones p)
    (n - length left - length (plan p).asked * request_size) (n - length left)) n o

abbrev pub four_in : ℕ → Out Plan → Told Four
four_in n o = four_of (λ (p : Plan). p) (zones_at limits) n o

-- nothing may follow them
unfoldable pub whole_of : ℕ → Told Four → Told Found
whole_of n (Ok f) = cond (ltb f.end n) (Err (22, f.end)) (Ok f.found)
whole_of n (Err r) = Err r

-- the same of refusals of any type: one that came goes on as it is, and at bytes after the sections one is made, as `gives`
-- has it, of this crate's
abbrev pub trailing_at : ℕ → Refused
trailing_at n = record { why = Trailing; at = n }

abbrev pub WholeAt : {E : Type 0} → (Refused → E → Type 0) → ℕ → Result Four E → Result Found E → Type 0
WholeAt gives n (Ok f) r = (n ≤ f.end → r ≡ Ok f.found) × (f.end < n → IsErrAnd r (gives (trailing_at f.end)))
WholeAt gives n (Err e) r = r ≡ Err e

-- ---- the same, section by section
-- what a section leads to, where it reads
unfoldable pub leading : {A : Type 0} → (A → List ℕ → Told Four) → ℕ → Out A → Told Four
leading f n (got x left) = f x left
leading f n (bad k left) = Err (k, n - length left)

unfoldable pub after_requests : ℕ → ℕ → ℕ → ℕ → List Asked → List ℕ → Told Four
after_requests gic e z n asked left =
    Ok (four_at gic e z (n - length left - length asked * request_size) (n - length left))

-- the zones begin at byte z
abbrev pub requests_found : ℕ → ℕ → ℕ → ℕ → List ℕ → Told Four
requests_found gic e z n b = leading (after_requests gic e z n) n ((requests_section limits).read b)

unfoldable pub after_zones : ℕ → ℕ → ℕ → ℕ → List Zone → List ℕ → Told Four
after_zones gic e z n zs left = requests_found gic e z n left

abbrev pub zones_found : ℕ → ℕ → ℕ → ℕ → List ℕ → Told Four
zones_found gic e z n b = leading (after_zones gic e z n) n ((zones_section limits).read b)

-- the regions begin at byte a
unfoldable pub after_regions : ℕ → ℕ → ℕ → ℕ → List Region → List ℕ → Told Four
after_regions gic e a n rs left = zones_found gic e (a + (4 + length rs * region_size)) n left

abbrev pub regions_found : ℕ → ℕ → ℕ → ℕ → List ℕ → Told Four
regions_found gic e a n b = leading (after_regions gic e a n) n ((regions_section limits).read b)

unfoldable pub after_marks : ℕ → Marks → List ℕ → Told Four
after_marks n m left = regions_found m.gic m.edition marks_bytes n left

-- the marks of the format with the mark m
abbrev pub marks_found : ℕ → ℕ → List ℕ → Told Four
marks_found m n b = leading (after_marks n) n ((marks_section (in_format (m ∷ []) limits)).read b)
