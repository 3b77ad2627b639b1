-- C3, and anything else that the check finds.
use Prim.Native.Nat.{ℕ}
use mathlib.Core.Path.{◌≡◌, refl, sym, ap}
use Rattle.std.specs.Prelude.{None}
use Rattle.rules.specs.declared.Checked.{Checked}
use Rattle.rules.specs.declared.Checked.TheVariants.{Sound, BadCount, BadGic, NotZero, Malformed, OutOfReach, Overlap}
use Rattle.owners.specs.Fitting.{used_record}
use Rattle.owners.proofs.check.used_record.Goals as goal

other_fault : (f : Checked) → ((k : ℕ) → f ≡ NotZero k → ⊥) → None ≡ used_record f
unfolding used_record
other_fault Sound n = refl
other_fault BadCount n = refl
other_fault BadGic n = refl
other_fault (NotZero k) n = absurd (n k refl)
other_fault (Malformed i) n = refl
other_fault (OutOfReach i) n = refl
other_fault (Overlap i k) n = refl

pub returns-in-NotZero : goal.returns-in-NotZero
unfolding used_record
returns-in-NotZero c = sym (ap used_record c.in-NotZero.is)

pub returns-in_default : goal.returns-in_default
returns-in_default c = other_fault c.args.found c.in_default.not-NotZero
