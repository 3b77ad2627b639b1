-- From two tables to a plan by two calls: what the list's call leaves in its buffer is lent to the writer's call, and
-- what that wrote is the plan. The words are any words.
use Rattle.std.specs.Prelude.{ℕ, ◌*◌, ◌≤◌, ◌<◌, List, ◌≡◌, length, take}
use Rattle.rules.specs.Applying.{last_edition, apply}
use Rattle.rules.specs.Limits.{limits}
use Rattle.rules.specs.Run.{request_size}
use Rattle.rules.specs.declared.Outcome.{Outcome}
use Rattle.promises.specs.WantedPlans.{plan_to, Led}
use Rattle.zones.specs.View.{stored_table}
use Rattle.writer.specs.Writer.{lent_in, WritesIn}
use Rattle.wanted.specs.Wanted.{ListsIn, Listing}

-- the requests that a call of the list says stand in the buffer v
abbrev pub requests_left : Listing → List ℕ → List ℕ
requests_left o v = take (o.count * request_size) v

-- c, t and w are the words of a configuration, of a terminal's table and of the wanted one. Where the list's call
-- answers 0 and there is a next edition, the writer's call with a buffer d that is long enough answers 0, and the
-- terminal accepts what it wrote; then its table has the wanted zones and sets
abbrev pub CallsLead : Type 0
CallsLead =
    (c t w b d : List ℕ) (e : ℕ) (o : Listing) (v : List ℕ) (p : Outcome) (u x : List ℕ) → ListsIn c t w b o v
    → o.number ≡ 0 → e < last_edition → WritesIn c t e (requests_left o v) d p u x
    → length (plan_to limits (lent_in c t e) (stored_table w)) ≤ length d
    → (p.number ≡ 0)
    × Led (lent_in c t e) (stored_table w) o.count (apply limits (lent_in c t e) (take p.place x))
