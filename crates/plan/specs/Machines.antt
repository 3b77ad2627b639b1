-- What every kind of terminal gives, by its step rule, so that a plan is judged and applied once for all kinds.
use Rattle.std.specs.Prelude.{ℕ, ◌≤◌, Bool, true, List, ◌≡◌, Ok, Err}
use Rattle.std.specs.Prelude.{Result}
use Rattle.rules.specs.Numbers.{number}
use Rattle.rules.specs.Steps.{StepRule}
use Rattle.rules.specs.declared.Outcome.{Outcome}
use Rattle.plan.specs.Found.{FitsIn, PartsOf}
use Rattle.plan.specs.Held.{table_held}
use Rattle.plan.specs.Steps.{away_with, base_number, own_by, AppliedBy, RanOrUndoneBy, FoundBy, Stood}
use Rattle.plan.specs.Told.{Told}
use Rattle.plan.specs.declared.finding.Found.{Found}
use Rattle.plan.specs.declared.finding.Parts.{Parts}
use Rattle.plan.specs.declared.refused.Refused.{Refused}

-- what judging answers, by where the sections of the bytes b are found, what is held of the configuration, and the state's own
-- number: bytes that do not read whole are turned away, and so is a plan for another base; any other is its parts
unfoldable pub Judged : Told Found → (List ℕ → ℕ → Bool) → ℕ → List ℕ → ℕ → List ℕ → Result Parts Outcome → Type 0
Judged (Err (k, a)) given own t e b r = r ≡ Err (away_with own k a)
Judged (Ok f) given own t e b r =
    (p : Parts)
    × (PartsOf b f p
    × ((base_number (given p.regions.now p.gic) t e p.edition p.zones.now ≡ 0 → r ≡ Ok p)
    × ((base_number (given p.regions.now p.gic) t e p.edition p.zones.now ≡ 0 → ⊥)
    → r ≡ Err (away_with own (base_number (given p.regions.now p.gic) t e p.edition p.zones.now) 0))))

module _ (m : StepRule) (c : m.Config) where
  -- where the sections of the bytes b begin, as the rules apply plans: bytes that do not read whole are turned away with
  -- the refusal, and a plan that does is judged by what is held of its base
  unfoldable pub FindsBy : (List ℕ → ℕ → Bool) → List ℕ → Result Found Refused → Type 0
  FindsBy given b (Err r) =
      (t : List ℕ) (e : ℕ) → AppliedBy m c t e b (away_with (own_by m c t) (number r.why) r.at) t
  FindsBy given b (Ok f) =
      FitsIn b f
      × ((p : Parts) → PartsOf b f p → (t : List ℕ) (e : ℕ) (r : Outcome) (u : List ℕ)
      → FoundBy m c t (base_number (given p.regions.now p.gic) t e p.edition p.zones.now) p.requests.now r u
      → AppliedBy m c t e b r u)

  -- the state's own number is 1, 2 or none; and what is asked of a state that stands
  pub record StandsBy (t : List ℕ) : Type 0 where
    pub own : own_by m c t ≤ 2
    pub stood : own_by m c t ≡ 0 → Stood m c t

  -- what a plan is answered that is turned away; or its parts, of a plan for the state's own base: to apply it is to run
  -- its requests
  unfoldable pub JudgedBy : List ℕ → ℕ → List ℕ → Result Parts Outcome → Type 0
  JudgedBy t e b (Ok p) =
      (table_held p.zones.now t ≡ true)
      × ((r : Outcome) (u : List ℕ) → RanOrUndoneBy m c t p.requests.now r u → AppliedBy m c t e b r u)
  JudgedBy t e b (Err o) = AppliedBy m c t e b o t × (o.number ≡ 0 → ⊥)
