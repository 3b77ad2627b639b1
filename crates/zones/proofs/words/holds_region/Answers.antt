-- Two tests ask whether the record is there, without a sum that could wrap.
use native.Mathlib.Omega.{arith}
use borrow.Author.Rules.{rules}
use borrow.Author.Tests.{lt-leb}
use mathlib.Core.Path.{◌∙◌}
use Rattle.zones.proofs.Records.{not_there, is_held}
use Rattle.zones.proofs.words.holds_region.Goals as goal

pub returns-then-s-lt-REGION_WORDS : goal.returns-then-s-lt-REGION_WORDS
returns-then-s-lt-REGION_WORDS c = not_there _ _ _ (omega arith)

pub returns-then-k-s : goal.returns-then-k-s
returns-then-k-s c = search (is_held, rules)

pub returns-else-k-s : goal.returns-else-k-s
returns-else-k-s c = lt-leb _ _ c.if-k-s.false ∙ not_there _ _ _ (omega arith)
