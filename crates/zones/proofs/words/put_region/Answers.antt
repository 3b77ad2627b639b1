-- Two tests ask for room, without a sum that could wrap.
use native.Mathlib.Omega.{arith}
use borrow.Author.Rules.{rules}
use Rattle.zones.proofs.Records.{no_room, has_room}
use Rattle.zones.proofs.words.put_region.Goals as goal

pub returns-then-s-lt-REGION_WORDS : goal.returns-then-s-lt-REGION_WORDS
returns-then-s-lt-REGION_WORDS c = no_room _ _ _ _ (omega arith) (search rules)

pub returns-then-s-k : goal.returns-then-s-k
returns-then-s-k c = no_room _ _ _ _ (omega arith) (search rules)

pub returns : goal.returns
returns c = has_room _ _ _ _ (omega arith) (search rules)
