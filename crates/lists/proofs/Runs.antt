-- What each step keeps, a run keeps.
use mathlib.Core.List.{List, [], ◌∷◌, ◌++◌}
use mathlib.Core.Path.{◌≡◌, refl, ap, ap₂, ◌∙◌}
use Rattle.lists.specs.Runs.{none, call, runs, told, InTurn}

module _ {S Q : Type 0} (step : S → Q → S) (Kept : S → Type 0)
    (keeps : (s : S) (q : Q) → Kept s → Kept (step s q)) where
  pub run_keeps : (s : S) (qs : List Q) → Kept s → Kept (runs step s qs)
  unfolding runs
  run_keeps s [] h = h
  run_keeps s (q ∷ qs) h = run_keeps (step s q) qs (keeps s q h)

-- one list after another
pub runs_append : {S Q : Type 0} (step : S → Q → S) (s : S) (qs us : List Q)
    → runs step s (qs ++ us) ≡ runs step (runs step s qs) us
unfolding runs
runs_append step s [] us = refl
runs_append step s (q ∷ qs) us = runs_append step (step s q) qs us

-- ---- steps that, seen through `view`, are other steps: so are runs
module _ {S T Q : Type 0} (view : S → T) (step : S → Q → S) (seen : T → Q → T)
    (same : (s : S) (q : Q) → view (step s q) ≡ seen (view s) q) where
  pub runs_seen : (s : S) (qs : List Q) → view (runs step s qs) ≡ runs seen (view s) qs
  unfolding runs
  runs_seen s [] = refl
  runs_seen s (q ∷ qs) = runs_seen (step s q) qs ∙ ap (λ (x : T). runs seen x qs) (same s q)

-- ---- calls that, seen through `view`, say and do what the rules say and do: so do calls in turn
pub record Seen {S T Q A : Type 0} (view : S → T) (say : T → Q → A) (step : T → Q → T) (Kept : S → Type 0) (s : S)
    (q : Q) (a : A) (t : S) : Type 0 where
  pub says : a ≡ say (view s) q
  pub does : view t ≡ step (view s) q
  pub keeps : Kept t

module _ {S T Q A : Type 0} (view : S → T) (say : T → Q → A) (step : T → Q → T) (Kept : S → Type 0)
    (Call : S → Q → A → S → Type 0)
    (one : (s : S) (q : Q) (a : A) (t : S) → Call s q a t → Kept s → Seen view say step Kept s q a t) where
  pub in_turn : {s u : S} {qs : List Q} {os : List A} → InTurn Call s qs os u → Kept s
      → (os ≡ told say step (view s) qs) × (view u ≡ runs step (view s) qs) × Kept u
  unfolding runs told
  in_turn none h = (refl, refl, h)
  in_turn (call {s} {t} {u} {q} {qs} {a} {os} c cs) h =
      let f = one s q a t c h in
      let r = in_turn cs f.keeps in (
        ap₂ (λ (x : A) (xs : List A). x ∷ xs) f.says (r.0 ∙ ap (λ (x : T). told say step x qs) f.does),
        r.1 ∙ ap (λ (x : T). runs step x qs) f.does,
        r.2,
      )
