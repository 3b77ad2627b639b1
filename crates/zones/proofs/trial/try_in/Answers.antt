-- 1 and 2 first, then 29; a table that stands is ready for the run.
use borrow.Author.Rules.{rules}
use mathlib.Core.Path.{refl, ◌∙◌}
use Rattle.zones.proofs.Ruling.{number_some}
use Rattle.zones.proofs.Stepping.{stands_ready}
use Rattle.zones.proofs.Trying.{trial_none, trial_many, trial_run}
use Rattle.zones.proofs.trial.try_in.Goals as goal

pub returns-in-Err : goal.returns-in-Err
returns-in-Err c = (c.refused.ensures ∙ trial_none c.args.c.now c.args.t.now c.args.requests.now _ c.in-Err.ensures (number_some _), refl)

pub returns-then-requests-gt-NOTES : goal.returns-then-requests-gt-NOTES
returns-then-requests-gt-NOTES c = (
  c.refused-then-requests-gt-NOTES.ensures
      ∙ trial_many c.args.c.now c.args.t.now c.args.requests.now 0 c.in_default.ensures refl c.if-requests-gt-NOTES.true,
  refl,
)

pub try_ready-requires : goal.try_ready-requires
try_ready-requires c = (stands_ready c.args.c.now c.args.t.now 0 c.in_default.ensures refl (search rules), c.if-requests-gt-NOTES.false)

pub returns : goal.returns
returns c = (
  trial_run c.args.c.now c.args.t.now c.args.requests.now 0 c.in_default.ensures refl _ c.if-requests-gt-NOTES.false c.try_ready.ensures.0,
  c.try_ready.ensures.1,
)
