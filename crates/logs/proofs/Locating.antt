-- A log is a plan in its own format, and claims after it: where the plan ends, the claims' count stands.
use Prim.Native.Nat.{ℕ, ◌+◌, ◌-◌, ◌*◌, ◌/◌, ◌^◌, ◌≤◌, ◌<◌}
use native.Mathlib.Omega.{arith}
use mathlib.Core.List.{List, [], ◌∷◌}
use mathlib.Core.Path.{◌≡◌, refl, sym, ap, ap₂, subst, ◌∙◌}
use lib.ListN.{length, drop, length-append, length-drop}
use lib.Seq.{drop_at}
use Rattle.formats.specs.Formats.{Out, got, bad, left, then}
use Rattle.formats.specs.Formats.{read_with, read_as, at_end, read_file}
use Rattle.formats.proofs.Formats.{Part}
use Rattle.rules.specs.Limits.{most_requests, limits}
use Rattle.rules.specs.Logs.{log_limits, claims_section, claims_size, log_to, read_log}
use Rattle.rules.specs.Plan.{plan_format, Plan}
use Rattle.rules.specs.Run.{request_size}
use Rattle.rules.specs.Sizes.{zones_at}
use Rattle.rules.proofs.Plan.{lawful_plan}
use Rattle.rules.proofs.Sections.{few_requests}
use Rattle.plan.specs.Found.{four_in}
use Rattle.plan.specs.Sections.{section_answer, numbers_section}
use Rattle.plan.specs.declared.finding.Four.{Four}
use Rattle.plan.specs.Told.{Told, answer_by}
use Rattle.std.specs.Prelude.{Ok, Err}
use Rattle.plan.proofs.Bases.{requests_within}
use Rattle.plan.proofs.Numbers.{numbers_read}
use Rattle.logs.specs.Found.{log_at, found_log}
use Rattle.logs.specs.declared.finding.FoundLog.{FoundLog}

-- what is left after its plan is the end of its bytes
pub log_after : (b : List ℕ) (p : Plan) (t : List ℕ) → (plan_format (log_limits limits)).read b ≡ got p t
    → (length t ≤ length b) × (t ≡ drop (length b - length t) b)
unfolding left
log_after b p t e =
    let (w, q) = subst (λ (o : Out Plan). Part (left o) b) e ((lawful_plan (log_limits limits)).part b) in
    let n : length b ≡ length w + length t = ap length q ∙ length-append w t in
    let m : length b - length t ≡ length w = omega arith in
    (omega arith, sym (ap₂ drop m q ∙ drop_at w t (length w) refl))

-- ---- the whole log, by what was found of its plan
module _ (b : List ℕ) where
  abbrev read : Out Plan
  read = (plan_format (log_limits limits)).read b

  abbrev whole : Told FoundLog
  whole = found_log (length b) (read_log limits b)

  pub log_refused : (k a : ℕ) → ◌≡◌ {A = Told Four} (Err (k, a)) (four_in (length b) read) → ◌≡◌ {A = Told FoundLog} (Err (k, a)) whole
  unfolding answer_by read_log read_file read_as read_with then
  log_refused k a f = by read f
    where
      turned : Told Four → ℕ × ℕ
      turned (Ok x) = (k, a)
      turned (Err x) = x

      by : (o : Out Plan) → ◌≡◌ {A = Told Four} (Err (k, a)) (four_in (length b) o)
          → ◌≡◌ {A = Told FoundLog} (Err (k, a)) (found_log (length b) (then (then (then o (λ p s. then ((claims_section p).read s)
          (λ ns t. got (p, ns) t))) (λ x t. got (log_to x) t)) at_end))
      by (got p t) e = absurd (cc)
      by (bad j t) e = ap (λ (x : Told Four). Err (turned x)) e

  module _ (r : Four) (f : ◌≡◌ {A = Told Four} (Ok r) (four_in (length b) read)) where
    -- the plan that was found
    pub record Begun (p : Plan) : Type 0 where
      pub reads : read ≡ got p (drop r.end b)
      pub ends : r.end ≤ length b
      pub gic_is : r.found.gic ≡ p.marks.gic
      pub zones_is : r.found.zones ≡ zones_at limits p
      pub asked_is : r.found.requests + length p.asked * request_size ≡ r.end

    pub begun : (p : Plan) × Begun p
    unfolding answer_by
    begun = by read refl f
      where
        there : Told Four → Four
        there (Ok x) = x
        there (Err x) = r

        by : (o : Out Plan) → read ≡ o → ◌≡◌ {A = Told Four} (Ok r) (four_in (length b) o) → (p : Plan) × Begun p
        by (got p t) q e =
            let (l, d) = log_after b p t q in
            let n : r.end ≡ length b - length t = ap (λ (x : Told Four). (there x).end) e in
            let m : r.found.requests ≡ length b - length t - length p.asked * request_size =
            ap (λ (x : Told Four). (there x).found.requests) e in (
              p,
              record {
                reads = q ∙ ap (got p) (d ∙ ap (λ (j : ℕ). drop j b) (sym n));
                ends = omega arith;
                gic_is = ap (λ (x : Told Four). (there x).found.gic) e;
                zones_is = ap (λ (x : Told Four). (there x).found.zones) e;
                asked_is = (let h = requests_within 3 b p t q in omega arith);
              },
            )
        by (bad j t) q e = absurd (cc)

    pub end_there : r.end ≤ length b
    end_there = begun.1.ends

    pub requests_before : r.found.requests ≤ r.end
    requests_before = let q = begun.1.asked_is in omega arith

    pub claims_few : (r.end - r.found.requests) / request_size < 2 ^ 32
    claims_few =
        let (p, g) = begun in
        let few : length p.asked ≤ most_requests = few_requests (log_limits limits) b p (drop r.end b) g.reads in
        let q : r.found.requests + length p.asked * request_size ≡ r.end = g.asked_is in
        omega arith

    -- ---- the claims behind them
    abbrev claims : Out (List ℕ)
    claims = (numbers_section ((r.end - r.found.requests) / request_size)).read (drop r.end b)

    -- a log is its plan and what is read of the claims
    log_by : Plan → Out (List ℕ) → Told FoundLog
    log_by p o = found_log (length b) (then (then (then o (λ ns t. got (p, ns) t)) (λ x t. got (log_to x) t)) at_end)

    log_of : (p : Plan) → Begun p → whole ≡ log_by p claims
    unfolding log_by read_log read_file read_as read_with then
    log_of p g =
        let many : length p.asked ≡ (r.end - r.found.requests) / request_size =
        (let q : r.found.requests + length p.asked * request_size ≡ r.end = g.asked_is in omega arith) in
        ap (λ (o : Out Plan). found_log (length b) (then (then (then o (λ p s. then ((claims_section p).read s)
        (λ ns t. got (p, ns) t))) (λ x t. got (log_to x) t)) at_end)) g.reads
        ∙ ap (λ (m : ℕ). log_by p ((numbers_section m).read (drop r.end b))) many

    pub claims_refused : (k a : ℕ) → ◌≡◌ {A = Told ℕ} (Err (k, a)) (section_answer (length b) claims)
        → ◌≡◌ {A = Told FoundLog} (Err (k, a)) whole
    unfolding answer_by log_by then
    claims_refused k a h = by claims h ∙ sym (log_of begun.0 begun.1)
      where
        turned : Told ℕ → ℕ × ℕ
        turned (Ok x) = (k, a)
        turned (Err x) = x

        by : (o : Out (List ℕ)) → ◌≡◌ {A = Told ℕ} (Err (k, a)) (section_answer (length b) o)
            → ◌≡◌ {A = Told FoundLog} (Err (k, a)) (log_by begun.0 o)
        by (got ns t) e = absurd (cc)
        by (bad j t) e = ap (λ (x : Told ℕ). Err (turned x)) e

    module _ (e : ℕ) (h : ◌≡◌ {A = Told ℕ} (Ok e) (section_answer (length b) claims)) where
      pub claims_more : e < length b → ◌≡◌ {A = Told FoundLog} (Err (22, e)) whole
      unfolding answer_by log_by then at_end
      claims_more l = by claims h ∙ sym (log_of begun.0 begun.1)
        where
          by : (o : Out (List ℕ)) → ◌≡◌ {A = Told ℕ} (Ok e) (section_answer (length b) o)
              → ◌≡◌ {A = Told FoundLog} (Err (22, e)) (log_by begun.0 o)
          by (got ns []) g = absurd (let q : e ≡ length b - 0 = cc in omega arith)
          by (got ns (x ∷ t)) g =
              let q : e ≡ length b - length (x ∷ t) = cc in ap (λ (k : ℕ). Err (22, k)) q
          by (bad j t) g = absurd (cc)

      pub claims_whole : length b ≤ e
          → ◌≡◌ {A = Told FoundLog} (Ok (log_at r.found.gic r.found.zones r.found.requests r.end)) whole
      unfolding answer_by log_by then at_end
      claims_whole l =
          let (p, g) = begun in
          by p g claims refl h ∙ sym (log_of p g)
        where
          by : (p : Plan) → Begun p → (o : Out (List ℕ)) → claims ≡ o
              → ◌≡◌ {A = Told ℕ} (Ok e) (section_answer (length b) o)
              → ◌≡◌ {A = Told FoundLog} (Ok (log_at r.found.gic r.found.zones r.found.requests r.end)) (log_by p o)
          by p g (bad j t) q d = absurd (cc)
          by p g (got ns (x ∷ t)) q d =
              let m : e ≡ length b - length (x ∷ t) = cc in
              let n = numbers_read ((r.end - r.found.requests) / request_size) (drop r.end b) ns (x ∷ t) q in
              let k : r.end ≤ length b = g.ends in
              absurd (omega (arith, ap length n.rest, length-drop (4 + length ns * 4) (drop r.end b), length-drop r.end b))
          by p g (got ns []) q d =
              let n = numbers_read ((r.end - r.found.requests) / request_size) (drop r.end b) ns [] q in
              let k : r.end ≤ length b = g.ends in
              let i : r.found.requests + length p.asked * request_size ≡ r.end = g.asked_is in
              let last : r.end ≡ length b - claims_size (length ns) =
              omega (
                arith,
                n.there,
                ap length n.rest,
                length-drop (4 + length ns * 4) (drop r.end b),
                length-drop r.end b,
              ) in
              let first : r.found.requests ≡ length b - claims_size (length ns) - length p.asked * request_size = omega arith in
              (λ i. Ok (log_at (g.gic_is i) (g.zones_is i) (first i) (last i)))
