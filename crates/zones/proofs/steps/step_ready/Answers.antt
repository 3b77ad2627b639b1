-- What is decided can be made, and leaves the rules' table; a refusal leaves it as it was.
use borrow.Author.Rules.{rules}
use mathlib.Core.Path.{refl, ap, ◌∙◌}
use Rattle.std.proofs.lemmas.Result.{err_from_is_err_and}
use Rattle.std.specs.Prelude.{Err, Ok}
use Rattle.zones.specs.Words.{words_of}
use Rattle.zones.proofs.Stepping.{decided_allowed, decided_none, decided_table, refused_number, refused_table}
use Rattle.zones.proofs.steps.step_ready.Goals as goal

pub returns-in_err-change : goal.returns-in_err-change
returns-in_err-change c = let p = err_from_is_err_and c.from_residual.result c.from_residual.ensures.1 in
    rw (p.1, p.2) (
      refused_number _ _ _ (Err _) c.in_err-change.ensures _ refl,
      c.requires.words.words ∙ ap words_of (refused_table _ _ _ (Err _) c.in_err-change.ensures _ refl),
    )

pub commit-requires : goal.commit-requires
commit-requires c = (search rules, decided_allowed _ _ _ (Ok _) c.in_ok-change.ensures _ refl)

pub returns : goal.returns
returns c = (
  decided_none _ _ _ (Ok _) c.in_ok-change.ensures _ refl,
  c.commit.ensures ∙ ap words_of (decided_table _ _ _ (Ok _) c.in_ok-change.ensures _ refl),
)
