-- The stretch of a plan's bytes that reading hands back: `plan::find_requests` and the library's `peatmitten_read` say that it
-- is `records_in`.
use Rattle.std.specs.Prelude.{ℕ, ◌+◌, ◌*◌, List, [], ◌≡◌, length, drop}
use Rattle.lists.specs.Bytes.{Bytes}
use Rattle.formats.specs.Formats.{got, bad}
use Rattle.rules.specs.Fields.{short_size}
use Rattle.rules.specs.Limits.{limits}
use Rattle.rules.specs.Plan.{requests_of, read_plan, Plan}
use Rattle.rules.specs.Run.{request_size, requests_in}
use Rattle.rules.specs.Sizes.{requests_at}
use Rattle.plan.specs.Read.{records_in}

pub record RequestsHandedBack : Type 0 where
  -- of bytes that are a plan it holds the plan's requests, as a run reads them, and nothing else: it begins behind their
  -- count and goes to the end
  pub whole : (b : List ℕ) → Bytes b → (p : Plan) → read_plan limits b ≡ got p []
      → (requests_in (records_in b) ≡ requests_of p)
      × (length (records_in b) ≡ length p.asked * request_size)
      × (records_in b ≡ drop (requests_at limits p + short_size) b)
  -- of others it is empty
  pub refused : (b : List ℕ) (k : ℕ) (t : List ℕ) → read_plan limits b ≡ bad k t → records_in b ≡ []
