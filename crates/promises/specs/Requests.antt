-- Requests: soundness is kept, and each number is the first that applies.
use Rattle.std.specs.Prelude.{ℕ, ◌<◌, true, false, List, ◌⊎◌, ◌↔◌, ◌≡◌, length, get_or}
use Rattle.lists.specs.Rules.{◌when◌, Silent, Applies}
use Rattle.lists.specs.Runs.{runs}
use Rattle.rules.specs.Limits.{Limits}
use Rattle.rules.specs.Configuration.{Configuration}
use Rattle.rules.specs.Regions.{no_region}
use Rattle.rules.specs.Requests.{add_zone, drop_zone, insert, remove, request_rules, refusal, next}
use Rattle.rules.specs.Run.{make_request, run_from}
use Rattle.rules.specs.Tables.{sound, Zone}
use Rattle.rules.specs.declared.Kind.TheVariants.{NoRequest}
use Rattle.rules.specs.declared.Region.{Region}
use Rattle.rules.specs.declared.Request.{Request}
use Rattle.rules.specs.declared.Side.TheVariants.{Cpu, Iommu}

-- upstream's six inductive steps: from a sound table every request leads to a sound table
abbrev pub NextKeepsSound : Limits → Type 0
NextKeepsSound l =
    (c : Configuration) (t : List Zone) (q : Request) → sound l c t ≡ true → sound l c (next l c t q) ≡ true

-- and so does every run of requests
abbrev pub RunKeepsSound : Limits → Type 0
RunKeepsSound l =
    (c : Configuration) (t : List Zone) (qs : List Request) → sound l c t ≡ true
    → sound l c (runs (next l c) t qs) ≡ true

-- and so does a run that stops at its first refusal, wherever it ends and whatever index its first request has
abbrev pub StoppedRunKeepsSound : Limits → Type 0
StoppedRunKeepsSound l =
    (c : Configuration) (i : ℕ) (t : List Zone) (qs : List Request) → sound l c t ≡ true
    → sound l c (run_from l c i t qs).table ≡ true

-- the number is that of rule k exactly when its test holds and no earlier one does, and 0 exactly when none does
abbrev pub NumberIsFirst : Limits → Type 0
NumberIsFirst l = (c : Configuration) (t : List Zone) (q : Request)
    → ((k : ℕ) → k < length (request_rules l c q.kind q.zone t)
    → (refusal l c t q ≡ (get_or (request_rules l c q.kind q.zone t) k (0 when false)).0)
    ↔ Applies (request_rules l c q.kind q.zone t) (0 when false) k)
    × ((refusal l c t q ≡ 0) ↔ Silent (request_rules l c q.kind q.zone t) (0 when false))

-- ---- what numbers make a request
-- none of the six kinds: 0, above 6, or a kind that takes no region with one that is not zero
abbrev pub NoKind : ℕ → Region → Type 0
NoKind n r = (n ≡ 0) ⊎ ((6 < n) ⊎ (((n ≡ 1) ⊎ (n ≡ 2)) × (r ≡ no_region → ⊥)))

-- numbers make no request, which is answered 3, exactly then
abbrev pub ThreeIsExact : Type 0
ThreeIsExact = (n id : ℕ) (r : Region) → ((make_request n id r).kind ≡ NoRequest) ↔ NoKind n r

-- and else that of their kind
pub record SixKinds : Type 0 where
  pub one : (id : ℕ) → make_request 1 id no_region ≡ add_zone id
  pub two : (id : ℕ) → make_request 2 id no_region ≡ drop_zone id
  pub three : (id : ℕ) (r : Region) → make_request 3 id r ≡ insert Cpu r id
  pub four : (id : ℕ) (r : Region) → make_request 4 id r ≡ remove Cpu r id
  pub five : (id : ℕ) (r : Region) → make_request 5 id r ≡ insert Iommu r id
  pub six : (id : ℕ) (r : Region) → make_request 6 id r ≡ remove Iommu r id
