-- A run stops at the first request that is refused, and leaves what the requests
-- before it leave: by induction, one request taken off at a time.
use Prim.Native.Nat.{ℕ, zero, suc, ◌+◌, ◌<◌}
use native.Mathlib.Omega.{arith}
use mathlib.Core.Bool.{Bool, true, false, cond}
use mathlib.Core.List.{List, [], ◌∷◌}
use mathlib.Core.Path.{◌≡◌, refl, ap, ◌∙◌}
use borrow.Author.Tests.{eqb-false, eq-eqb, ne_eqb}
use lib.Dec.{eqb}
use lib.ListN.{length, get_or, take}
use Rattle.lists.specs.Runs.{runs}
use Rattle.rules.specs.Configuration.{Configuration}
use Rattle.rules.specs.Limits.{Limits}
use Rattle.rules.specs.Requests.{refusal, next}
use Rattle.rules.specs.Run.{run_by, run_from, Run}
use Rattle.rules.specs.Tables.{Zone}
use Rattle.rules.specs.declared.Request.{Request}

-- ---- by any step
module _ (number : List Zone → Request → ℕ) (after : List Zone → Request → List Zone) where
  abbrev onward : ℕ → List Zone → List Request → Run
  onward = run_by number after

  abbrev pub stopped : ℕ → List Zone → Request → Run
  stopped k t q = record { place = k; inner = number t q; table = t }

  -- the first request is accepted; it is refused
  module _ (k : ℕ) (t : List Zone) (q : Request) (qs : List Request) where
    pub goes_on : number t q ≡ 0 → onward k t (q ∷ qs) ≡ onward (suc k) (after t q) qs
    unfolding run_by
    goes_on e = ap (λ (b : Bool). cond b (onward (suc k) (after t q) qs) (stopped k t q)) (eq-eqb (number t q) 0 e)

    pub stops_here : (number t q ≡ 0 → ⊥) → onward k t (q ∷ qs) ≡ stopped k t q
    unfolding run_by
    stops_here ne = ap (λ (b : Bool). cond b (onward (suc k) (after t q) qs) (stopped k t q)) (ne_eqb (number t q) 0 ne)

  -- what every step keeps a run keeps, wherever it ends
  pub run_by_keeps : (P : List Zone → Type 0) → ((t : List Zone) (q : Request) → P t → P (after t q)) → (i : ℕ)
      (t : List Zone) (qs : List Request) → P t → P (onward i t qs).table
  unfolding run_by
  run_by_keeps P keeps i t [] ok = ok
  run_by_keeps P keeps i t (q ∷ qs) ok =
      by (run_by_keeps P keeps (suc i) (after t q) qs (keeps t q ok)) (eqb (number t q) 0)
    where
      by : P (onward (suc i) (after t q) qs).table → (b : Bool)
          → P (cond b (onward (suc i) (after t q) qs) (stopped i t q)).table
      by f true = f
      by f false = ok

  -- a run without a refusal goes through all requests
  pub run_through : (i : ℕ) (t : List Zone) (qs : List Request) → (onward i t qs).inner ≡ 0
      → (onward i t qs).place ≡ i + length qs
  unfolding run_by
  run_through i t [] e = omega arith
  run_through i t (q ∷ qs) e = by (run_through (suc i) (after t q) qs) (eqb (number t q) 0) refl e
    where
      by : ((onward (suc i) (after t q) qs).inner ≡ 0 → (onward (suc i) (after t q) qs).place ≡ suc i + length qs)
          → (b : Bool) → eqb (number t q) 0 ≡ b
          → (cond b (onward (suc i) (after t q) qs) (stopped i t q)).inner ≡ 0
          → (cond b (onward (suc i) (after t q) qs) (stopped i t q)).place ≡ i + length (q ∷ qs)
      by f true h g = f g ∙ omega arith
      by f false h g = absurd (eqb-false _ _ h g)

  -- and leaves what the steps leave
  pub run_leads : (i : ℕ) (t : List Zone) (qs : List Request) → (onward i t qs).inner ≡ 0
      → (onward i t qs).table ≡ runs after t qs
  unfolding run_by runs
  run_leads i t [] e = refl
  run_leads i t (q ∷ qs) e = by (run_leads (suc i) (after t q) qs) (eqb (number t q) 0) refl e
    where
      by : ((onward (suc i) (after t q) qs).inner ≡ 0 → (onward (suc i) (after t q) qs).table ≡ runs after (after t q) qs)
          → (b : Bool) → eqb (number t q) 0 ≡ b
          → (cond b (onward (suc i) (after t q) qs) (stopped i t q)).inner ≡ 0
          → (cond b (onward (suc i) (after t q) qs) (stopped i t q)).table ≡ runs after (after t q) qs
      by f true h g = f g
      by f false h g = absurd (eqb-false _ _ h g)

  module _ (d : Request) where
    -- the number of request i, at the table that the requests before it leave
    abbrev pub number_of : List Zone → List Request → ℕ → ℕ
    number_of t qs i = number (runs after t (take i qs)) (get_or qs i d)

    -- all are accepted
    pub run_by_all : (k : ℕ) (t : List Zone) (qs : List Request) → ((j : ℕ) → j < length qs → number_of t qs j ≡ 0)
        → onward k t qs ≡ record { place = k + length qs; inner = 0; table = runs after t qs }
    unfolding run_by runs
    run_by_all k t [] f = let e : k ≡ k + 0 = omega arith in (λ i. record { place = e i; inner = 0; table = t })
    run_by_all k t (q ∷ qs) f =
        let e : suc k + length qs ≡ k + suc (length qs) = omega arith in
        goes_on k t q qs (f 0 (omega arith)) ∙ run_by_all (suc k) (after t q) qs (λ j h. f (suc j) (omega arith))
        ∙ (λ i. record { place = e i; inner = 0; table = runs after (after t q) qs })

    -- request i is the first that is refused
    pub run_by_stops : (k : ℕ) (t : List Zone) (qs : List Request) (i : ℕ) → i < length qs
        → ((j : ℕ) → j < i → number_of t qs j ≡ 0) → (number_of t qs i ≡ 0 → ⊥)
        → onward k t qs ≡ record { place = k + i; inner = number_of t qs i; table = runs after t (take i qs) }
    unfolding runs
    run_by_stops k t [] i h f ne = absurd (omega arith)
    run_by_stops k t (q ∷ qs) zero h f ne =
        let e : k ≡ k + 0 = omega arith in
        stops_here k t q qs ne ∙ (λ i. record { place = e i; inner = number t q; table = t })
    run_by_stops k t (q ∷ qs) (suc i) h f ne =
        let e : suc k + i ≡ k + suc i = omega arith in
        goes_on k t q qs (f 0 (omega arith))
        ∙ run_by_stops (suc k) (after t q) qs i (omega arith) (λ j m. f (suc j) (omega arith)) ne
        ∙ (λ x. record {
          place = e x;
          inner = number_of (after t q) qs i;
          table = runs after (after t q) (take i qs);
        })

-- ---- by the rules of document 01
module _ (l : Limits) (c : Configuration) (d : Request) where
  abbrev answer_to : List Zone → List Request → ℕ → ℕ
  answer_to = number_of (refusal l c) (next l c) d

  pub run_all : (k : ℕ) (t : List Zone) (qs : List Request) → ((j : ℕ) → j < length qs → answer_to t qs j ≡ 0)
      → run_from l c k t qs ≡ record { place = k + length qs; inner = 0; table = runs (next l c) t qs }
  unfolding run_from
  run_all k t qs f = run_by_all (refusal l c) (next l c) d k t qs f

  pub run_stops : (k : ℕ) (t : List Zone) (qs : List Request) (i : ℕ) → i < length qs
      → ((j : ℕ) → j < i → answer_to t qs j ≡ 0) → (answer_to t qs i ≡ 0 → ⊥)
      → run_from l c k t qs ≡ record { place = k + i; inner = answer_to t qs i; table = runs (next l c) t (take i qs) }
  unfolding run_from
  run_stops k t qs i h f ne = run_by_stops (refusal l c) (next l c) d k t qs i h f ne
