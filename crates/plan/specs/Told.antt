-- Bytes that are refused, as the document says it: by a number, at a place.
use Rattle.std.specs.Prelude.{ℕ, Result, ◌-◌, ◌≡◌, List, Ok, Err, length}
use Rattle.formats.specs.Formats.{Out, got, bad}
use Rattle.rules.specs.Numbers.{number}
use Rattle.plan.specs.declared.refused.Numbered.{Numbered}
use Rattle.plan.specs.declared.refused.Refused.{Refused}

-- what is answered, or a number and a place
abbrev pub Told : Type 0 → Type 0
Told A = Result A (ℕ × ℕ)

abbrev pub told : {A : Type 0} → Result A Refused → Told A
told (Ok x) = Ok x
told (Err r) = Err (number r.why, r.at)

-- ---- the same of refusals of any type, by what tells their number and place: this crate's, and those by any number
abbrev pub by_reason : Refused → ℕ × ℕ
by_reason r = (number r.why, r.at)

abbrev pub by_number : Numbered → ℕ × ℕ
by_number r = (r.number, r.at)

abbrev pub told_by : {A E : Type 0} → (E → ℕ × ℕ) → Result A E → Told A
told_by t (Ok x) = Ok x
told_by t (Err e) = Err (t e)

-- of one that is made of this crate's, as `gives` has it, t tells what that one tells
abbrev pub TellsAs : {E : Type 0} → (Refused → E → Type 0) → (E → ℕ × ℕ) → Type 0
TellsAs gives t = (r : Refused) (e : _) → gives r e → t e ≡ by_reason r

-- what is answered of what the format reads in n bytes, by f: the place of a refusal is where what is left begins
unfoldable pub answer_by : {A B : Type 0} → (A → List ℕ → B) → ℕ → Out A → Told B
answer_by f n (got x left) = Ok (f x left)
answer_by f n (bad k left) = Err (k, n - length left)
