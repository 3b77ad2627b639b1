-- Requests: soundness part by part is kept by each kind of change, and so
-- by any run; each number stands once in its kind's order.
use Prim.Native.Nat.{ℕ, zero, suc, ◌<◌}
use native.Mathlib.Omega.{arith}
use mathlib.Core.Bool.{Bool, true, false, cond, true≢false}
use mathlib.Core.Logic.{inl, inr}
use mathlib.Core.Path.{◌≡◌, refl, sym, ap, ◌∙◌}
use borrow.Author.Tests.{ne_eqb}
use Rattle.lists.specs.Rules.{◌when◌, first_rule, numbered}
use Rattle.lists.specs.Runs.{runs}
use Rattle.lists.proofs.Rules.{number_exactly, zero_exactly}
use Rattle.lists.proofs.Tests.{true_of}
use Rattle.rules.specs.Limits.{Limits}
use Rattle.rules.specs.Regions.{no_region, used}
use Rattle.rules.specs.Requests.{no_request, request_rules, refusal, next}
use Rattle.rules.specs.Run.{bare, make_kind, make_request, run_from}
use Rattle.rules.specs.declared.Kind.{Kind}
use Rattle.rules.specs.declared.Kind.TheVariants.{AddZone, RemoveZone, NoRequest}
use Rattle.rules.specs.declared.Region.{Region}
use Rattle.rules.proofs.Computing.{request_parts}
use Rattle.rules.proofs.Keeps.{sound_parts, parts_sound, next_keeps, runs_keep}
use Rattle.rules.proofs.Requests.{request_numbered}
use Rattle.rules.proofs.Stored.{run_from_keeps}
use Rattle.promises.specs.Requests.{NextKeepsSound, RunKeepsSound, StoppedRunKeepsSound, NumberIsFirst, NoKind}
use Rattle.promises.specs.Requests.{ThreeIsExact, SixKinds}
use Rattle.promises.proofs.Configuration.{zero_unused, unused_zero}

module _ (lim : Limits) where
  pub next_keeps_sound : NextKeepsSound lim
  next_keeps_sound c t q e = parts_sound lim c (next lim c t q) (next_keeps lim c t q (sound_parts lim c t e))

  pub run_keeps_sound : RunKeepsSound lim
  run_keeps_sound c t qs e = parts_sound lim c (runs (next lim c) t qs) (runs_keep lim c t qs (sound_parts lim c t e))

  pub stopped_run_keeps_sound : StoppedRunKeepsSound lim
  stopped_run_keeps_sound c i t qs e =
      parts_sound lim c (run_from lim c i t qs).table (run_from_keeps lim c i t qs (sound_parts lim c t e))

  pub number_is_first : NumberIsFirst lim
  unfolding refusal
  number_is_first c t q = (
    number_exactly (request_rules lim c q.kind q.zone t) (0 when false) numbers,
    zero_exactly (request_rules lim c q.kind q.zone t) (0 when false) numbers,
  )
    where
      numbers : numbered (request_rules lim c q.kind q.zone t) ≡ true
      numbers = request_numbered lim c q.kind q.zone t

-- ---- what numbers make a request
-- a kind that is a request is none that is not
is_none : (k : Kind) → no_request k ≡ false → k ≡ NoRequest → ⊥
unfolding no_request
is_none k e q = true≢false (sym (ap no_request q) ∙ e)

bare_none : (k : Kind) (r : Region) → no_request k ≡ false → (r ≡ no_region → ⊥) → bare k r ≡ NoRequest
bare_none k r e ne = ap (λ (b : Bool). cond b NoRequest k) (true_of (used r) (λ u. ne (unused_zero r u)))

none_bare : (k : Kind) (r : Region) → no_request k ≡ false → bare k r ≡ NoRequest → r ≡ no_region → ⊥
none_bare k r e q z = is_none k e (sym (ap (λ (b : Bool). cond b NoRequest k) (zero_unused r z)) ∙ q)

out : (n : ℕ) → 2 < n → n < 7 → (r : Region) → NoKind n r → ⊥
out n a b r (inl z) = omega arith
out n a b r (inr (inl z)) = omega arith
out n a b r (inr (inr (inl z, ne))) = omega arith
out n a b r (inr (inr (inr z, ne))) = omega arith

one : (n : ℕ) → 0 < n → n < 7 → (k : Kind) (r : Region) → NoKind n r → no_request k ≡ false → bare k r ≡ NoRequest
one n a b k r (inl z) e = absurd (omega arith)
one n a b k r (inr (inl z)) e = absurd (omega arith)
one n a b k r (inr (inr (z, ne))) e = bare_none k r e ne

high : (n : ℕ) (r : Region) → 6 < n → make_kind n r ≡ NoRequest
unfolding make_kind first_rule
high n r h =
    rw (ne_eqb n 1 (λ e. omega arith), ne_eqb n 2 (λ e. omega arith), ne_eqb n 3 (λ e. omega arith), ne_eqb n 4 (λ e. omega arith), ne_eqb n 5 (λ e. omega arith), ne_eqb n 6 (λ e. omega arith))

pub three_is_exact : ThreeIsExact
unfolding make_request make_kind first_rule no_request
three_is_exact zero id r = ((λ e. inl refl), λ h. refl)
three_is_exact (suc zero) id r = (
  (λ e. inr (inr (inl refl, none_bare AddZone r refl e))),
  λ h. one 1 (omega arith) (omega arith) AddZone r h refl,
)
three_is_exact (suc (suc zero)) id r = (
  (λ e. inr (inr (inr refl, none_bare RemoveZone r refl e))),
  λ h. one 2 (omega arith) (omega arith) RemoveZone r h refl,
)
three_is_exact (suc (suc (suc zero))) id r = ((λ e. absurd (is_none _ refl e)), λ h. absurd (out 3 (omega arith) (omega arith) r h))
three_is_exact (suc (suc (suc (suc zero)))) id r = ((λ e. absurd (is_none _ refl e)), λ h. absurd (out 4 (omega arith) (omega arith) r h))
three_is_exact (suc (suc (suc (suc (suc zero))))) id r = ((λ e. absurd (is_none _ refl e)), λ h. absurd (out 5 (omega arith) (omega arith) r h))
three_is_exact (suc (suc (suc (suc (suc (suc zero)))))) id r = ((λ e. absurd (is_none _ refl e)), λ h. absurd (out 6 (omega arith) (omega arith) r h))
three_is_exact (suc (suc (suc (suc (suc (suc (suc n))))))) id r = ((λ e. inr (inl (omega arith))), λ h. high (suc (suc (suc (suc (suc (suc (suc n))))))) r (omega arith))

pub six_kinds : SixKinds
unfolding request_parts
six_kinds = record {
  one = λ id. refl;
  two = λ id. refl;
  three = λ id r. refl;
  four = λ id r. refl;
  five = λ id r. refl;
  six = λ id r. refl;
}
