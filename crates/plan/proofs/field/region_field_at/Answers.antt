-- Two cases: fewer bytes than a region's are left, or it is read from its own.
use borrow.Author.Rules.{rules}
use Rattle.plan.proofs.Fields.{region_missing, region_is}
use Rattle.plan.proofs.field.region_field_at.Goals as goal

pub returns-then-s-at-lt-REGION_BYTES : goal.returns-then-s-at-lt-REGION_BYTES
returns-then-s-at-lt-REGION_BYTES c = search (region_missing, rules)

pub returns : goal.returns
returns c = search (region_is, rules)
