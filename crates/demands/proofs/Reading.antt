-- A plan's requests are the last of its bytes, so where they begin follows from how many there are.
use Prim.Native.Nat.{ℕ, ◌+◌, ◌-◌, ◌*◌}
use native.Mathlib.Omega.{arith}
use mathlib.Core.List.{List, []}
use mathlib.Core.Path.{◌≡◌, ap, ◌∙◌}
use lib.ListN.{length, drop, length-drop}
use Rattle.lists.specs.Bytes.{Bytes}
use Rattle.formats.specs.Formats.{Out, got, bad}
use Rattle.rules.specs.Fields.{short_size}
use Rattle.rules.specs.Limits.{limits}
use Rattle.rules.specs.Plan.{read_plan, encode, Plan}
use Rattle.rules.specs.Run.{request_size, requests_in}
use Rattle.rules.specs.Sizes.{plan_size, requests_at}
use Rattle.rules.proofs.Plan.{no_slack}
use Rattle.rules.proofs.Sizes.{encoded_length}
use Rattle.plan.specs.Read.{read_answer, stretch_of, records_in}
use Rattle.plan.specs.Told.{answer_by}
use Rattle.plan.proofs.Bases.{requests_same}
use Rattle.demands.specs.Reading.{RequestsHandedBack}

module _ (b : List ℕ) (p : Plan) (e : read_plan limits b ≡ got p []) where
  begins : records_in b ≡ drop (length b - length p.asked * request_size) b
  unfolding answer_by stretch_of
  begins = ap (λ (o : Out Plan). stretch_of (read_answer (length b) o) b) e

  pub long : Bytes b → length b ≡ requests_at limits p + short_size + length p.asked * request_size
  unfolding plan_size
  long bytes =
      ap length (no_slack limits b p [] bytes e).0 ∙ encoded_length limits p ∙ omega arith

pub requests_handed_back : RequestsHandedBack
unfolding answer_by stretch_of
requests_handed_back = record {
  whole = λ b bytes p e.
      let n : length b ≡ requests_at limits p + short_size + length p.asked * request_size = long b p e bytes in
      let at : length b - length p.asked * request_size ≡ requests_at limits p + short_size = omega arith in (
        ap requests_in (begins b p e) ∙ requests_same b p [] e,
        ap length (begins b p e) ∙ omega (arith, length-drop (length b - length p.asked * request_size) b),
        begins b p e ∙ ap (λ (i : ℕ). drop i b) at,
      );
  refused = λ b k t e. ap (λ (o : Out Plan). stretch_of (read_answer (length b) o) b) e;
}
