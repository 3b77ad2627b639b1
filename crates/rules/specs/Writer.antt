-- The planner's writer: from a configuration, a table, an edition and a list of requests, the plan into a lent buffer.
use Rattle.std.specs.Prelude.{ℕ, ◌+◌, ◌*◌, ◌/◌, not, List, [], ◌∷◌, ltb, eqb, length}
use Rattle.lists.specs.Places.{tab}
use Rattle.lists.specs.Rules.{Rule, ◌when◌}
use Rattle.rules.specs.Applying.{last_edition, plain, Kept, plain_steps, Terminal}
use Rattle.rules.specs.Fields.{short_size}
use Rattle.rules.specs.Filling.{standing_rule, filling, Filled}
use Rattle.rules.specs.Limits.{Limits}
use Rattle.rules.specs.Plan.{Asked}
use Rattle.rules.specs.Planner.{plan_bytes_by}
use Rattle.rules.specs.Run.{request_size, number_at, region_in, ended, Run}
use Rattle.rules.specs.Steps.{ran_by, StepRule}
use Rattle.rules.specs.Tables.{table_of}
use Rattle.rules.specs.declared.Outcome.{Outcome}

-- ---- by a step rule
module _ (m : StepRule) where
  -- 1 or 2; no next edition; more requests than a plan may have; a request is refused, with its index and its number
  unfoldable pub writer_rules_by : Kept m → List Asked → List (Rule Outcome)
  writer_rules_by s q =
      let r : Run = ran_by m s.config (table_of s.table) q in
      standing_rule (m.standing s.config s.table)
      ∷ plain 25 0 when eqb s.edition last_edition
      ∷ plain 29 0 when ltb m.limits.requests (length q)
      ∷ ended r when not (eqb r.inner 0)
      ∷ []

  -- then 28, or the plan for the terminal's base: it carries the edition that was given
  unfoldable pub write_by : Kept m → List Asked → List ℕ → Filled
  write_by s q w = filling (writer_rules_by s q) (plan_bytes_by m s q) w

-- ---- for document 01's terminals
abbrev pub writer_rules : Limits → Terminal → List Asked → List (Rule Outcome)
writer_rules l s q = writer_rules_by (plain_steps l) s q

abbrev pub write : Limits → Terminal → List Asked → List ℕ → Filled
write l s q w = write_by (plain_steps l) s q w

-- ---- a list of requests as it is lent: the bytes that a plan holds them as
-- the numbers of the request at a place
abbrev pub asked_at : List ℕ → ℕ → Asked
asked_at b at = record {
  kind = number_at short_size b at;
  zone = number_at short_size b (at + 4);
  region = region_in b (at + 8);
}

-- all that are wholly there
unfoldable pub asked_of : List ℕ → List Asked
asked_of b = tab (length b / request_size) (λ i. asked_at b (i * request_size))
