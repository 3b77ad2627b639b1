-- The check of a log where configuration and table are lent words: what is answered, and what then lies there.
use Rattle.std.specs.Prelude.{ℕ, cond, List, ◌≡◌, eqb}
use Rattle.formats.specs.Formats.{Out, got, bad}
use Rattle.rules.specs.Applying.{plan_config}
use Rattle.rules.specs.Limits.{limits}
use Rattle.rules.specs.Logs.{read_log, audit_log, claimless, check_log, LogChecked, Log}
use Rattle.rules.specs.Plan.{regions_section, zones_section}
use Rattle.rules.specs.declared.LogAnswer.{LogAnswer}
use Rattle.zones.specs.Audit.{audit_in, audit_words}
use Rattle.zones.specs.Words.{words_of_config, words_of}
use Rattle.plan.specs.Sections.{config_answer, table_answer}
use Rattle.writer.specs.Writer.{writes_zones_in}

-- of a log that reads whole its configuration, and the table at which the check ended; else what lay there
unfoldable pub config_left : List ℕ → Out Log → List ℕ
config_left c (got g left) = words_of_config (plan_config g.plan)
config_left c (bad k left) = c

unfoldable pub table_left : List ℕ → Out Log → List ℕ
table_left t (got g left) = words_of (audit_log limits g).table
table_left t (bad k left) = t

-- r is answered to the log b, and d, u and v are what then lies at the configuration, at the table and in the buffer
pub record CheckedIn (c t b w : List ℕ) (r : LogAnswer) (d u v : List ℕ) : Type 0 where
  pub answer : r ≡ (check_log limits b w).answer
  pub config : d ≡ config_left c (read_log limits b)
  pub table : u ≡ table_left t (read_log limits b)
  pub buffer : v ≡ (check_log limits b w).buffer

-- ---- how the code goes about it
-- the requests in q and the claims in a, at the words c and t: what the audit finds; or the zones that it leaves, written
unfoldable pub judged_in : List ℕ → List ℕ → List ℕ → List ℕ → List ℕ → LogChecked
judged_in c t q a w =
    cond (eqb (audit_in c t q a).answer.outcome.number 0)
    (record {
      answer = claimless (writes_zones_in c (audit_words c t q a) w).outcome;
      buffer = (writes_zones_in c (audit_words c t q a) w).buffer;
    })
    (record { answer = (audit_in c t q a).answer; buffer = w })

-- the words of the configuration and the zones that bytes give
abbrev pub config_read : ℕ → List ℕ → List ℕ
config_read gic rs = (config_answer gic ((regions_section limits).read rs)).words

abbrev pub zones_read : List ℕ → List ℕ
zones_read zs = (table_answer ((zones_section limits).read zs)).words

pub record JudgedIn (gic : ℕ) (rs zs q a w : List ℕ) (r : LogAnswer) (d u v : List ℕ) : Type 0 where
  pub answer : r ≡ (judged_in (config_read gic rs) (zones_read zs) q a w).answer
  pub config : d ≡ config_read gic rs
  pub table : u ≡ audit_words (config_read gic rs) (zones_read zs) q a
  pub buffer : v ≡ (judged_in (config_read gic rs) (zones_read zs) q a w).buffer
