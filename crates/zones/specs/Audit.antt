-- The claims of a log judged from lent bytes: the answer, and the words of the table afterwards.
use Rattle.std.specs.Prelude.{ℕ, ◌*◌, cond, List, ◌≡◌, eqb}
use Rattle.rules.specs.Fields.{short_size}
use Rattle.rules.specs.Limits.{limits}
use Rattle.rules.specs.Logs.{audit, claims_in, Audit}
use Rattle.rules.specs.Requests.{standing}
use Rattle.rules.specs.Run.{number_at, requests_in}
use Rattle.rules.specs.declared.LogAnswer.{LogAnswer}
use Rattle.zones.specs.View.{stored_config, stored_table}
use Rattle.zones.specs.Words.{words_of}

-- claim i of the bytes
abbrev pub claims : List ℕ → ℕ → ℕ
claims a i = number_at short_size a (i * short_size)

-- the requests in r and the claims in a, at the state that the words are
abbrev pub audit_in : List ℕ → List ℕ → List ℕ → List ℕ → Audit
audit_in c t r a = audit limits (stored_config c) (stored_table t) (requests_in r) (claims_in a)

-- the words of the table at which the audit ends, or those that were given
unfoldable pub audit_words : List ℕ → List ℕ → List ℕ → List ℕ → List ℕ
audit_words c t r a =
    cond (eqb (standing limits (stored_config c) (stored_table t)) 0) (words_of (audit_in c t r a).table) t

pub record AuditedIn (c t r a : List ℕ) (o : LogAnswer) (u : List ℕ) : Type 0 where
  pub answer : o ≡ (audit_in c t r a).answer
  pub table : u ≡ audit_words c t r a
