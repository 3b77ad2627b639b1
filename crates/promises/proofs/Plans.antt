-- Plans of document 01's terminals: what holds of every proper step rule holds of theirs; and how long plans are, from
-- what each part takes.
use Prim.Native.Nat.{ℕ}
use native.Mathlib.Omega.{arith}
use mathlib.Core.List.{[]}
use Rattle.formats.specs.Formats.{then, read_both, read_as, read_file}
use Rattle.rules.specs.Applying.{plain_steps, apply, answer_alone}
use Rattle.rules.specs.Limits.{Limits}
use Rattle.rules.specs.Plan.{read_plan}
use Rattle.rules.specs.Sizes.{longest_size, plan_with}
use Rattle.rules.proofs.Sections.{whole_read, sections}
use Rattle.rules.proofs.Sizes.{least_length, most_length, whole_length, counts_length, counts_fit, plan_past}
use Rattle.promises.specs.Plans.{RefusalStays, ConfigurationStays, ApplyKeepsSound, AcceptedIsPlan}
use Rattle.promises.specs.Plans.{PlanIsAccepted, PlanLengths, PastTheLongest, MarksTell}
use Rattle.promises.proofs.Steps.{refusal_stays_by, configuration_stays_by, apply_keeps_sound_by}
use Rattle.promises.proofs.Steps.{accepted_is_plan_by, plan_is_accepted_by, past_the_longest_by}
use Rattle.promises.proofs.Terminals.{plain_is_proper}

module _ (lim : Limits) where
  pub refusal_stays : RefusalStays lim
  unfolding apply
  refusal_stays = refusal_stays_by (plain_steps lim)

  pub configuration_stays : ConfigurationStays lim
  unfolding apply
  configuration_stays = configuration_stays_by (plain_steps lim)

  pub apply_keeps_sound : ApplyKeepsSound lim
  unfolding apply
  apply_keeps_sound = apply_keeps_sound_by (plain_steps lim) (plain_is_proper lim)

  pub accepted_is_plan : AcceptedIsPlan lim
  unfolding apply
  accepted_is_plan = accepted_is_plan_by (plain_steps lim) (plain_is_proper lim)

  pub plan_is_accepted : PlanIsAccepted lim
  unfolding apply
  plan_is_accepted = plan_is_accepted_by (plain_steps lim) (plain_is_proper lim)

  -- ---- the marks
  pub marks_tell : MarksTell lim
  unfolding read_plan read_file read_as read_both then
  marks_tell = record {
    whole = λ b p e. let h = sections lim b p [] (whole_read lim b p [] e) in (h.after_marks, h.marks);
    refused = λ b k t e. rw e;
  }

  -- ---- lengths
  pub plan_lengths : PlanLengths lim
  plan_lengths = record {
    written = λ p h. (least_length lim p h, most_length lim p h);
    whole = λ b p h e. whole_length lim b p [] h e;
    least_met =
        λ r say. (
          plan_with 1 0 0 0 0,
          counts_fit lim say 1 0 0 0 0 (omega arith) r (omega arith) (omega arith) (omega arith) (omega arith),
          counts_length lim 1 0 0 0 0,
        );
    longest_met = λ r say.
        let n : ℕ = lim.regions in
        let z : ℕ = lim.zones in
        let k : ℕ = lim.in_set in
        let q : ℕ = lim.requests in (
          plan_with n z k k q,
          counts_fit lim say n z k k q r (omega arith) (omega arith) (omega arith) (omega arith) (omega arith),
          counts_length lim n z k k q,
        );
  }

  pub past_the_longest : PastTheLongest lim
  unfolding answer_alone apply
  past_the_longest = past_the_longest_by (plain_steps lim) (longest_size lim) (plan_past lim)
