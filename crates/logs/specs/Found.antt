-- Where the parts of a log begin, of what the format reads: n is the number of the log's bytes.
use Rattle.std.specs.Prelude.{ℕ, ◌-◌, ◌*◌, length}
use Rattle.formats.specs.Formats.{Out}
use Rattle.rules.specs.Limits.{limits}
use Rattle.rules.specs.Logs.{claims_size, Log}
use Rattle.rules.specs.Run.{request_size}
use Rattle.rules.specs.Sizes.{zones_at}
use Rattle.plan.specs.Told.{Told, answer_by}
use Rattle.logs.specs.declared.finding.FoundLog.{FoundLog}

-- the GIC's position, where the zones and the first request begin, and where the requests end
abbrev pub log_at : ℕ → ℕ → ℕ → ℕ → FoundLog
log_at gic z q e = record { gic = gic; zones = z; requests = q; end = e }

-- a log that reads whole: its claims are the last of its bytes, and its requests stand before their count
abbrev pub found_log : ℕ → Out Log → Told FoundLog
found_log n o =
    answer_by (λ g left. log_at g.plan.marks.gic (zones_at limits g.plan)
    (n - claims_size (length g.claims) - length g.plan.asked * request_size) (n - claims_size (length g.claims))) n o
