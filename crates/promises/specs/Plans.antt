-- Plans of document 01's terminals: bytes that are no plan for a terminal's base change nothing,
-- and those that are one lead exactly where the rules say.
use Rattle.std.specs.Prelude.{ℕ, ◌≤◌, ◌<◌, List, [], ◌≡◌, length, take, drop}
use Rattle.lists.specs.Bytes.{Bytes}
use Rattle.formats.specs.Formats.{got, bad}
use Rattle.rules.specs.Applying.{plain_steps, apply, answer_alone, Terminal}
use Rattle.rules.specs.Limits.{Limits, Sayable}
use Rattle.rules.specs.Logs.{read_log, encode_log, LogFits, Log}
use Rattle.rules.specs.OwnedPlan.{read_owned, encode_owned, OwnedPlanFits, OwnedPlan}
use Rattle.rules.specs.Plan.{marks_section, read_plan, encode, PlanFits, Plan}
use Rattle.rules.specs.Sizes.{longest_size, least_size}
use Rattle.promises.specs.Steps.{PlanForBy, RefusalStaysBy, ConfigurationStaysBy, ApplyKeepsSoundBy}
use Rattle.promises.specs.Steps.{AcceptedIsPlanBy, PlanIsAcceptedBy, PastTheLongestBy}

-- the bytes are a plan for the state's base
abbrev pub PlanFor : Limits → Terminal → List ℕ → Plan → Type 0
PlanFor l s b p = PlanForBy (plain_steps l) s b p

-- a refusal leaves the state as it was; the configuration stays whatever is delivered; and so does that neither 1 nor 2
-- is answered
abbrev pub RefusalStays : Limits → Type 0
RefusalStays l = RefusalStaysBy (plain_steps l) (apply l)

abbrev pub ConfigurationStays : Limits → Type 0
ConfigurationStays l = ConfigurationStaysBy (plain_steps l) (apply l)

abbrev pub ApplyKeepsSound : Limits → Type 0
ApplyKeepsSound l = ApplyKeepsSoundBy (plain_steps l) (apply l)

-- what is accepted is a plan for the base, and such a plan is accepted
abbrev pub AcceptedIsPlan : Limits → Type 0
AcceptedIsPlan l = AcceptedIsPlanBy (plain_steps l) (apply l)

abbrev pub PlanIsAccepted : Limits → Type 0
PlanIsAccepted l = PlanIsAcceptedBy (plain_steps l) (apply l)

-- the marks section alone says which edition a plan is for
pub record MarksTell (l : Limits) : Type 0 where
  -- a plan that reads whole has the marks that the section says
  pub whole : (b : List ℕ) (p : Plan) → read_plan l b ≡ got p []
      → (t : List ℕ) × ((marks_section l).read b ≡ got p.marks t)
  -- and marks that are refused are the plan's first fault
  pub refused : (b : List ℕ) (k : ℕ) (t : List ℕ) → (marks_section l).read b ≡ bad k t → read_plan l b ≡ bad k t

-- no shorter than the least plan and no longer than the longest, as the limits give them
abbrev pub OfPlanLength : Limits → List ℕ → Type 0
OfPlanLength l b = (least_size l ≤ length b) × (length b ≤ longest_size l)

-- some plan within the limits has that many bytes
abbrev pub IsMet : Limits → ℕ → Type 0
IsMet l n = (p : Plan) × PlanFits l p × (length (encode l p) ≡ n)

-- how long plans are; the document's two numbers are the least and the
-- longest of its limits by computation (`SizesShown`: rules, Sizes)
pub record PlanLengths (l : Limits) : Type 0 where
  -- every plan within the limits has such a length, and so has whatever reads whole
  pub written : (p : Plan) → PlanFits l p → OfPlanLength l (encode l p)
  pub whole : (b : List ℕ) (p : Plan) → Bytes b → read_plan l b ≡ got p [] → OfPlanLength l b
  -- and both lengths are met, where a region is allowed and a plan's fields can say the limits
  pub least_met : 1 ≤ l.regions → Sayable l → IsMet l (least_size l)
  pub longest_met : 1 ≤ l.regions → Sayable l → IsMet l (longest_size l)

-- every proper beginning of a plan is 20, at a field that is not wholly there: so a plan that is cut is never taken for
-- another one, nor told as a count out of range
abbrev pub CutIsTwenty : Limits → Type 0
CutIsTwenty l =
    (p : Plan) → PlanFits l p → (n : ℕ) → n < length (encode l p)
    → (at : ℕ) × (at ≤ n) × (read_plan l (take n (encode l p)) ≡ bad 20 (drop at (take n (encode l p))))

-- and so with owners
abbrev pub OwnedCutIsTwenty : Limits → Type 0
OwnedCutIsTwenty l =
    (p : OwnedPlan) → OwnedPlanFits l p → (n : ℕ) → n < length (encode_owned l p)
    → (at : ℕ) × (at ≤ n) × (read_owned l (take n (encode_owned l p)) ≡ bad 20 (drop at (take n (encode_owned l p))))

-- and of a log
abbrev pub LogCutIsTwenty : Limits → Type 0
LogCutIsTwenty l =
    (g : Log) → LogFits l g → (n : ℕ) → n < length (encode_log l g)
    → (at : ℕ) × (at ≤ n) × (read_log l (take n (encode_log l g)) ≡ bad 20 (drop at (take n (encode_log l g))))

-- what lies past the longest plan and one byte more changes nothing
abbrev pub PastTheLongest : Limits → Type 0
PastTheLongest l = PastTheLongestBy (plain_steps l) (apply l) (answer_alone l) (longest_size l)
