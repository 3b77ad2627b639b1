-- Filling a lent buffer: what is answered, and what the whole buffer then is. Every writer into lent bytes goes by it.
use Rattle.std.specs.Prelude.{ℕ, cond, not, List, [], ◌∷◌, ◌++◌, ltb, eqb, length, drop}
use Rattle.lists.specs.Rules.{Rule, ◌when◌, first_rule}
use Rattle.rules.specs.Applying.{plain}
use Rattle.rules.specs.Configuration.{StoredConfig}
use Rattle.rules.specs.Limits.{Limits}
use Rattle.rules.specs.Requests.{standing}
use Rattle.rules.specs.Tables.{StoredTable}
use Rattle.rules.specs.declared.Outcome.{Outcome}

-- 1 or 2 of the state that is lent, before all else: the number that tells them, or 0
abbrev pub standing_rule : ℕ → Rule Outcome
standing_rule n = plain n 0 when not (eqb n 0)

abbrev pub own_rule : Limits → StoredConfig → StoredTable → Rule Outcome
own_rule l c t = standing_rule (standing l c t)

pub record Filled : Type 0 where
  pub outcome : Outcome
  pub buffer : List ℕ

-- the writer's own refusals in their order; 28 after them, where its bytes do not fit into so much room; else 0, and
-- the place is how many bytes there are
unfoldable pub fill_answer : List (Rule Outcome) → List ℕ → ℕ → Outcome
fill_answer rs b room = first_rule (rs ++ (plain 28 0 when ltb room (length b) ∷ [])) (plain 0 (length b))

-- on 0 the bytes stand at the buffer's start, and what lies behind them stays; a refusal changes no byte
unfoldable pub fill_leaves : Outcome → List ℕ → List ℕ → List ℕ
fill_leaves o b w = cond (eqb o.number 0) (b ++ drop (length b) w) w

abbrev pub filling : List (Rule Outcome) → List ℕ → List ℕ → Filled
filling rs b w = record {
  outcome = fill_answer rs b (length w);
  buffer = fill_leaves (fill_answer rs b (length w)) b w;
}
