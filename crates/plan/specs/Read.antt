-- What reading a whole plan answers, of what the format reads: n is the number of the plan's bytes.
use Rattle.std.specs.Prelude.{ℕ, ◌-◌, ◌*◌, List, [], Ok, Err, length, drop}
use Rattle.formats.specs.Formats.{Out}
use Rattle.rules.specs.Limits.{limits}
use Rattle.rules.specs.Plan.{read_plan, Plan}
use Rattle.rules.specs.Run.{request_size}
use Rattle.plan.specs.Told.{Told, answer_by}
use Rattle.plan.specs.Sections.{config_for, table_for}
use Rattle.plan.specs.declared.read.Read.{Read}

-- a plan that reads whole: its requests are the last of its bytes
abbrev pub read_answer : ℕ → Out Plan → Told Read
read_answer n o =
    answer_by (λ p left. record {
      requests = n - length p.asked * request_size;
      edition = p.marks.edition;
      config = config_for p.marks.gic p.regions;
      table = table_for p.zones;
    }) n o

-- the stretch of the plan's bytes that holds its requests: none where it was refused
unfoldable pub stretch_of : Told Read → List ℕ → List ℕ
stretch_of (Ok r) b = drop r.requests b
stretch_of (Err r) b = []

-- those of a plan: empty where it does not read whole
abbrev pub records_in : List ℕ → List ℕ
records_in b = stretch_of (read_answer (length b) (read_plan limits b)) b
