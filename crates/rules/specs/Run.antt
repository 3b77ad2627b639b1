-- Requests by their numbers and as bytes; and a run of requests, up to the first that is refused.
use Rattle.std.specs.Prelude.{ℕ, suc, ◌+◌, ◌*◌, ◌/◌, cond, List, [], ◌∷◌, eqb, length}
use Rattle.lists.specs.Bytes.{little}
use Rattle.lists.specs.Places.{tab}
use Rattle.lists.specs.Rules.{◌when◌, first_rule}
use Rattle.lists.specs.Words.{part}
use Rattle.rules.specs.Limits.{Limits}
use Rattle.rules.specs.Configuration.{config_of, Configuration, StoredConfig}
use Rattle.rules.specs.Fields.{short_size, long_size, region_size, region_by}
use Rattle.rules.specs.Regions.{used}
use Rattle.rules.specs.Requests.{standing, refusal, next}
use Rattle.rules.specs.Tables.{table_of, Zone, StoredTable}
use Rattle.rules.specs.declared.Kind.{Kind}
use Rattle.rules.specs.declared.Kind.TheVariants.{AddZone, RemoveZone, Insert, Remove, NoRequest}
use Rattle.rules.specs.declared.Outcome.{Outcome}
use Rattle.rules.specs.declared.Region.{Region}
use Rattle.rules.specs.declared.Request.{Request}
use Rattle.rules.specs.declared.Side.TheVariants.{Cpu, Iommu}

-- ---- a request by its numbers
-- a kind that takes no region: with a nonzero one it is no request
abbrev pub bare : Kind → Region → Kind
bare k r = cond (used r) NoRequest k

-- the kind with a number, and the region that came with it
unfoldable pub make_kind : ℕ → Region → Kind
make_kind n r =
    first_rule
    (bare AddZone r when eqb n 1
    ∷ bare RemoveZone r when eqb n 2
    ∷ Insert Cpu r when eqb n 3
    ∷ Remove Cpu r when eqb n 4
    ∷ Insert Iommu r when eqb n 5
    ∷ Remove Iommu r when eqb n 6
    ∷ [])
    NoRequest

unfoldable pub make_request : ℕ → ℕ → Region → Request
make_request kind zone r = record { zone = zone; kind = make_kind kind r }

-- ---- requests as bytes: kind, zone id, region
abbrev pub request_size : ℕ
request_size = 2 * short_size + region_size

-- the number of so many bytes at a place; the region there, its numbers one after another
abbrev pub number_at : ℕ → List ℕ → ℕ → ℕ
number_at width b at = little (part at width b)

unfoldable pub region_in : List ℕ → ℕ → Region
region_in b at = region_by (λ i. number_at long_size b (at + i * long_size))

unfoldable pub request_from : List ℕ → ℕ → Request
request_from b at = make_request (number_at 4 b at) (number_at 4 b (at + 4)) (region_in b (at + 8))

-- all that are wholly there
unfoldable pub requests_in : List ℕ → List Request
requests_in b = tab (length b / request_size) (λ i. request_from b (i * request_size))

-- ---- a run
-- how many were accepted before the first refusal, the number of that one or 0, and the table that they leave
pub record Run : Type 0 where
  pub place : ℕ
  pub inner : ℕ
  pub table : List Zone

-- by what a request is answered at a table, and the table after it
module _ (number : List Zone → Request → ℕ) (after : List Zone → Request → List Zone) where
  unfoldable pub run_by : ℕ → List Zone → List Request → Run
  run_by i t [] = record { place = i; inner = 0; table = t }
  run_by i t (q ∷ qs) =
      cond (eqb (number t q) 0) (run_by (suc i) (after t q) qs) (record { place = i; inner = number t q; table = t })

unfoldable pub run_from : Limits → Configuration → ℕ → List Zone → List Request → Run
unfolding run_by
run_from l c i t qs = run_by (refusal l c) (next l c) i t qs

abbrev pub run : Limits → Configuration → List Zone → List Request → Run
run l c t qs = run_from l c 0 t qs

-- ---- a run from outside: 1 and 2 come first; 27 where a request was refused
unfoldable pub ended : Run → Outcome
ended r = record { number = cond (eqb r.inner 0) 0 27; place = r.place; inner = r.inner }

abbrev pub ended_after : ℕ → Run → Outcome
ended_after n r = cond (eqb n 0) (ended r) (record { number = n; place = 0; inner = 0 })

unfoldable pub run_answer : Limits → StoredConfig → StoredTable → List Request → Outcome
run_answer l c t qs = ended_after (standing l c t) (run l (config_of c) (table_of t) qs)
