-- A log that reads whole, judged in words: they hold its own contents, so the audit there is its audit, and what is written is what
-- the rules write.
use Prim.Native.Nat.{ℕ, suc, ◌+◌, ◌-◌, ◌*◌, ◌/◌, ◌^◌, ◌≤◌, ◌<◌}
use native.Mathlib.Omega.{arith}
use mathlib.Core.Bool.{Bool, true, false, cond, not}
use mathlib.Core.List.{List, [], ◌∷◌, ◌++◌}
use mathlib.Core.Path.{◌≡◌, refl, sym, ap, ap₂, ◌∙◌}
use borrow.Author.Tests.{eqb-true, eqb-false, eq-eqb, ne_eqb}
use lib.Dec.{eqb}
use lib.ListN.{length, take, drop, length-drop}
use lib.Seq.{drop-drop}
use Rattle.lists.specs.Bytes.{little}
use Rattle.lists.specs.Places.{tab}
use Rattle.lists.specs.Rules.{◌when◌, first_rule}
use Rattle.lists.specs.Words.{part}
use Rattle.lists.proofs.Tests.{not_holds}
use Rattle.formats.specs.Formats.{Out, got, bad}
use Rattle.rules.specs.Applying.{store, plain, plan_config}
use Rattle.rules.specs.Configuration.{config_of, Configuration, StoredConfig}
use Rattle.rules.specs.Differing.{write_zones}
use Rattle.rules.specs.Filling.{fill_answer, fill_leaves, filling, Filled}
use Rattle.rules.specs.Limits.{limits}
use Rattle.rules.specs.Logs.{log_limits, claims_size, read_log, claimless, audit_from, audit, claims_in, own_config, own_table}
use Rattle.rules.specs.Logs.{audit_log, settled_log, check_read, Audit, LogChecked, Log}
use Rattle.rules.specs.Plan.{requests_of, zones_section, plan_format, Plan}
use Rattle.rules.specs.Requests.{refusal, next, standing}
use Rattle.rules.specs.Run.{request_size, requests_in}
use Rattle.rules.specs.Sizes.{zones_at}
use Rattle.rules.specs.Tables.{table_of, Zone, StoredTable}
use Rattle.rules.specs.declared.LogAnswer.{LogAnswer}
use Rattle.rules.specs.declared.Outcome.{Outcome}
use Rattle.rules.specs.declared.Region.{Region}
use Rattle.rules.specs.declared.Request.{Request}
use Rattle.rules.proofs.Logs.{log_parts, log_zones, audit_keeps, audit_inside, audit_away, audit_stands}
use Rattle.rules.proofs.Stored.{table_back, stands_well}
use Rattle.zones.specs.Audit.{audit_in, audit_words, AuditedIn}
use Rattle.zones.specs.View.{stored_config, stored_table}
use Rattle.zones.specs.Words.{words_of_config, words_of}
use Rattle.zones.proofs.Spelling.{config_view, table_view}
use Rattle.plan.specs.Sections.{config_answer, table_answer, RegionsIn, ZonesIn}
use Rattle.plan.specs.Told.{Told, answer_by}
use Rattle.plan.specs.declared.refused.Refused.{Refused}
use Rattle.std.specs.Prelude.{Result, Ok, Err}
use Rattle.plan.proofs.Bases.{requests_within, four_requests, four_marks_within, four_zones_there, four_regions_at}
use Rattle.plan.proofs.Bases.{four_zones_at}
use Rattle.plan.proofs.Numbers.{numbers_read}
use Rattle.plan.proofs.Offsets.{rest_of}
use Rattle.writer.specs.Writer.{writes_zones_in, WritesZonesIn}
use Rattle.logs.specs.Found.{found_log}
use Rattle.logs.specs.Logs.{config_left, table_left, judged_in, config_read, zones_read, CheckedIn, JudgedIn}
use Rattle.logs.specs.declared.finding.FoundLog.{FoundLog}
use Rattle.logs.proofs.Locating.{log_after}

-- ---- judged where the words lie
module _ (gic : ℕ) (rs zs q a w : List ℕ) (r x : Result ℕ Refused) (c t u : List ℕ) (o : LogAnswer) (eo : Outcome)
    (config : RegionsIn gic rs r c) (base : ZonesIn zs x t) (done : AuditedIn c t q a o u) (same : eo ≡ o.outcome) where
  abbrev cw : List ℕ
  cw = config_read gic rs

  abbrev tw : List ℕ
  tw = zones_read zs

  answered : o ≡ (audit_in cw tw q a).answer
  answered = done.answer ∙ ap₂ (λ (d e : List ℕ). (audit_in d e q a).answer) config.words base.words

  left_table : u ≡ audit_words cw tw q a
  left_table = done.table ∙ ap₂ (λ (d e : List ℕ). audit_words d e q a) config.words base.words

  abbrev written : Filled
  written = writes_zones_in cw (audit_words cw tw q a) w

  abbrev either : Bool → LogChecked
  either b =
      cond b (record { answer = claimless written.outcome; buffer = written.buffer })
      (record { answer = (audit_in cw tw q a).answer; buffer = w })

  audit_number : eo.number ≡ (audit_in cw tw q a).answer.outcome.number
  audit_number = ap (λ (y : Outcome). y.number) same ∙ ap (λ (y : LogAnswer). y.outcome.number) answered

  pub judge_found : (eo.number ≡ 0 → ⊥) → JudgedIn gic rs zs q a w o c u w
  unfolding judged_in
  judge_found ne =
      let e : judged_in cw tw q a w ≡ either false = ap either (ne_eqb _ 0 (λ z. ne (audit_number ∙ z))) in record {
        answer = answered ∙ ap (λ (y : LogChecked). y.answer) (sym e);
        config = config.words;
        table = left_table;
        buffer = ap (λ (y : LogChecked). y.buffer) (sym e);
      }

  pub judge_written : eo.number ≡ 0 → (y : Outcome) (v : List ℕ) → WritesZonesIn c u w y v
      → JudgedIn gic rs zs q a w (claimless y) c u v
  unfolding judged_in
  judge_written z y v h =
      let e : judged_in cw tw q a w ≡ either true = ap either (eq-eqb _ 0 (sym audit_number ∙ z)) in
      let f : writes_zones_in c u w ≡ written =
      ap₂ (λ (d e : List ℕ). writes_zones_in d e w) config.words left_table in
      record {
        answer =
            ap claimless (h.answer ∙ ap (λ (k : Filled). k.outcome) f)
            ∙ ap (λ (k : LogChecked). k.answer) (sym e);
        config = config.words;
        table = left_table;
        buffer = h.buffer ∙ ap (λ (k : Filled). k.buffer) f ∙ ap (λ (k : LogChecked). k.buffer) (sym e);
      }

-- ---- an answer without a false claim has nothing claimed
from_claimless : (c : Configuration) (i : ℕ) (t : List Zone) (qs : List Request) (ns : List ℕ)
    → (audit_from limits c i t qs ns).answer.outcome.number ≡ 0 → (audit_from limits c i t qs ns).answer.claimed ≡ 0
unfolding audit_from
from_claimless c i t [] ns e = refl
from_claimless c i t (q ∷ qs) [] e = refl
from_claimless c i t (q ∷ qs) (n ∷ ns) e =
    by (from_claimless c (suc i) (next limits c t q) qs ns) (eqb (refusal limits c t q) n) e
  where
    on : Audit
    on = audit_from limits c (suc i) (next limits c t q) qs ns

    no : Audit
    no = record {
      answer = record { outcome = record { number = 30; place = i; inner = refusal limits c t q }; claimed = n };
      table = t;
    }

    by : ((audit_from limits c (suc i) (next limits c t q) qs ns).answer.outcome.number ≡ 0
        → (audit_from limits c (suc i) (next limits c t q) qs ns).answer.claimed ≡ 0)
        → (b : Bool)
        → (cond b (audit_from limits c (suc i) (next limits c t q) qs ns) (record {
          answer = record { outcome = record { number = 30; place = i; inner = refusal limits c t q }; claimed = n };
          table = t;
        })).answer.outcome.number ≡ 0
        → (cond b (audit_from limits c (suc i) (next limits c t q) qs ns) (record {
          answer = record { outcome = record { number = 30; place = i; inner = refusal limits c t q }; claimed = n };
          table = t;
        })).answer.claimed ≡ 0
    by f true h = f h
    by f false h = absurd (omega arith)

-- ---- two fillers that nothing refuses are one
quiet_filling : (o : Outcome) (x : Bool) (b w : List ℕ) → x ≡ false → filling (o when x ∷ []) b w ≡ filling [] b w
unfolding fill_answer first_rule
quiet_filling o x b w e =
    ap (λ (y : Bool). let a : Outcome = cond y o (fill_answer [] b (length w)) in
    record { outcome = a; buffer = fill_leaves a b w }) e

-- an audit that found something is the answer, and leaves the buffer
found_settled : (A : Audit) (w : List ℕ) → (A.answer.outcome.number ≡ 0 → ⊥)
    → settled_log limits A w ≡ record { answer = A.answer; buffer = w }
unfolding settled_log fill_answer first_rule fill_leaves
found_settled A w ne =
    let x : eqb A.answer.outcome.number 0 ≡ false = ne_eqb _ 0 ne in
    ap (λ (y : Bool). let o : Outcome = cond (not y) A.answer.outcome
    (fill_answer [] ((zones_section limits).write A.table) (length w)) in
    record {
      answer = record { outcome = o; claimed = A.answer.claimed };
      buffer = fill_leaves o ((zones_section limits).write A.table) w;
    }) x
    ∙ ap (λ (y : Bool). record {
      answer = A.answer;
      buffer = cond y ((zones_section limits).write A.table ++ drop (length ((zones_section limits).write A.table)) w) w;
    }) x

-- else its zones are written
held_settled : (A : Audit) (w : List ℕ) → A.answer.outcome.number ≡ 0 → A.answer.claimed ≡ 0
    → settled_log limits A w
    ≡ record {
      answer = claimless (filling [] ((zones_section limits).write A.table) w).outcome;
      buffer = (filling [] ((zones_section limits).write A.table) w).buffer;
    }
unfolding settled_log
held_settled A w z k =
    ap (λ (f : Filled). record { answer = record { outcome = f.outcome; claimed = A.answer.claimed }; buffer = f.buffer })
    (quiet_filling A.answer.outcome (not (eqb A.answer.outcome.number 0)) ((zones_section limits).write A.table) w
    (not_holds _ (eq-eqb _ 0 z)))
    ∙ (λ i. record {
      answer = record {
        outcome = (filling [] ((zones_section limits).write A.table) w).outcome;
        claimed = k i;
      };
      buffer = (filling [] ((zones_section limits).write A.table) w).buffer;
    })

-- ---- a log that reads whole
module _ (b : List ℕ) (g : Log) (t : List ℕ) (e : read_log limits b ≡ got g t) where
  abbrev A : Audit
  A = audit_log limits g

  abbrev own : ℕ
  own = standing limits (own_config limits g) (own_table limits g)

  -- the audit at the words of its own contents is its own
  module _ (q a : List ℕ) (rq : requests_in q ≡ requests_of g.plan) (ca : claims_in a ≡ g.claims) where
    abbrev C : List ℕ
    C = words_of_config (plan_config g.plan)

    abbrev T : List ℕ
    T = words_of g.plan.zones

    own_audit : audit_in C T q a ≡ A
    own_audit =
        (λ i. audit limits (config_view (plan_config g.plan) i) (table_view g.plan.zones i) (rq i) (ca i))

    own_standing : standing limits (stored_config C) (stored_table T) ≡ own
    own_standing = ap₂ (standing limits) (config_view (plan_config g.plan)) (table_view g.plan.zones)

    own_words : audit_words C T q a ≡ words_of A.table
    unfolding audit_words
    own_words = by (eqb own 0) refl
      where
        by : (x : Bool) → eqb own 0 ≡ x → audit_words C T q a ≡ words_of A.table
        by true h =
            ap (λ (y : Bool). cond y (words_of (audit_in C T q a).table) T) (ap (λ (n : ℕ). eqb n 0) own_standing ∙ h)
            ∙ ap (λ (y : Audit). words_of y.table) own_audit
        by false h =
            ap (λ (y : Bool). cond y (words_of (audit_in C T q a).table) T) (ap (λ (n : ℕ). eqb n 0) own_standing ∙ h)
            ∙ ap words_of (sym (log_zones limits b g t e))
            ∙ sym (ap (λ (y : Audit). words_of y.table)
            (audit_away limits (own_config limits g) (own_table limits g) (requests_of g.plan) g.claims
            (eqb-false _ _ h)))

    -- neither 1 nor 2, where nothing was found; and then nothing is claimed
    own_stands : A.answer.outcome.number ≡ 0 → own ≡ 0
    own_stands z = by (eqb own 0) refl
      where
        by : (x : Bool) → eqb own 0 ≡ x → own ≡ 0
        by true h = eqb-true _ _ h
        by false h =
            sym (ap (λ (y : Audit). y.answer.outcome.number)
            (audit_away limits (own_config limits g) (own_table limits g) (requests_of g.plan) g.claims
            (eqb-false _ _ h))) ∙ z

    own_claimless : A.answer.outcome.number ≡ 0 → A.answer.claimed ≡ 0
    own_claimless z =
        let q = audit_inside limits (own_config limits g) (own_table limits g) (requests_of g.plan) g.claims
        (own_stands z) in
        ap (λ (y : Audit). y.answer.claimed) q
        ∙ from_claimless _ 0 _ (requests_of g.plan) g.claims
        (sym (ap (λ (y : Audit). y.answer.outcome.number) q) ∙ z)

    -- what stands at its beginning stands at its end, so its zones are written as they are
    end_written : (w : List ℕ) → own ≡ 0
        → writes_zones_in C (audit_words C T q a) w ≡ filling [] ((zones_section limits).write A.table) w
    unfolding write_zones
    end_written w z =
        let (passed, ok) = stands_well limits (own_config limits g) (own_table limits g) z in
        let inside = audit_inside limits (own_config limits g) (own_table limits g) (requests_of g.plan) g.claims z in
        let kept : table_of (store limits A.table) ≡ A.table =
        ap (λ (y : Audit). table_of (store limits y.table)) inside
        ∙ table_back limits (config_of (own_config limits g)) _
        (audit_keeps limits (config_of (own_config limits g)) 0 (table_of (own_table limits g)) (requests_of g.plan)
        g.claims ok)
        ∙ ap (λ (y : Audit). y.table) (sym inside) in
        ap₂ (λ (c : StoredConfig) (t : StoredTable). write_zones limits c t w) (config_view (plan_config g.plan))
        (ap stored_table own_words ∙ table_view A.table)
        ∙ quiet_filling (plain (standing limits (own_config limits g) (store limits A.table)) 0) _
        ((zones_section limits).write (table_of (store limits A.table))) w
        (not_holds _ (eq-eqb _ 0 (audit_stands limits (own_config limits g) (own_table limits g) (requests_of g.plan)
        g.claims z)))
        ∙ ap (λ (y : List Zone). filling [] ((zones_section limits).write y) w) kept

    own_judged : (w : List ℕ) → judged_in C T q a w ≡ settled_log limits A w
    unfolding judged_in
    own_judged w = by (eqb A.answer.outcome.number 0) refl
      where
        same_number : (audit_in C T q a).answer.outcome.number ≡ A.answer.outcome.number
        same_number = ap (λ (y : Audit). y.answer.outcome.number) own_audit

        by : (x : Bool) → eqb A.answer.outcome.number 0 ≡ x → judged_in C T q a w ≡ settled_log limits A w
        by false h =
            ap (λ (y : Bool). cond y (record {
              answer = claimless (writes_zones_in C (audit_words C T q a) w).outcome;
              buffer = (writes_zones_in C (audit_words C T q a) w).buffer;
            }) (record { answer = (audit_in C T q a).answer; buffer = w })) (ap (λ (n : ℕ). eqb n 0) same_number ∙ h)
            ∙ ap (λ (y : Audit). record { answer = y.answer; buffer = w }) own_audit
            ∙ sym (found_settled A w (eqb-false _ _ h))
        by true h =
            ap (λ (y : Bool). cond y (record {
              answer = claimless (writes_zones_in C (audit_words C T q a) w).outcome;
              buffer = (writes_zones_in C (audit_words C T q a) w).buffer;
            }) (record { answer = (audit_in C T q a).answer; buffer = w })) (ap (λ (n : ℕ). eqb n 0) same_number ∙ h)
            ∙ ap (λ (f : Filled). record { answer = claimless f.outcome; buffer = f.buffer })
            (end_written w (own_stands (eqb-true _ _ h)))
            ∙ sym (held_settled A w (eqb-true _ _ h) (own_claimless (eqb-true _ _ h)))

  -- ---- where its parts begin
  abbrev p : Plan
  p = g.plan

  abbrev n : ℕ
  n = length g.claims

  -- what follows its plan: the claims and nothing else
  rest : (s : List ℕ) × ((plan_format (log_limits limits)).read b ≡ got p s) × (s ≡ drop (length b - claims_size n) b)
      × (length s ≡ claims_size n) × (claims_in (drop 4 s) ≡ g.claims)
  unfolding claims_in part
  rest =
      let (s, ep, ec) = log_parts limits b g t e in
      let h = numbers_read (length p.asked) s g.claims [] ec in
      let l : length s ≡ claims_size n = omega (arith, h.there, ap length h.rest, length-drop (4 + n * 4) s) in
      let m : length (drop 4 s) / 4 ≡ n =
      (let k : length (drop 4 s) ≡ n * 4 = omega (arith, length-drop 4 s) in
      omega arith) in (
        s,
        ep,
        (log_after b p s ep).1 ∙ ap (λ (j : ℕ). drop (length b - j) b) l,
        l,
        ap (λ (k : ℕ). tab k (λ i. little (take 4 (drop (i * 4) (drop 4 s))))) m ∙ sym h.each,
      )

-- ---- by what was found of the bytes
module _ (b : List ℕ) where
  pub check_refused : (c t w : List ℕ) (k a : ℕ)
      → ◌≡◌ {A = Told FoundLog} (Err (k, a)) (found_log (length b) (read_log limits b))
      → CheckedIn c t b w (claimless (plain k a)) c t w
  unfolding answer_by check_read config_left table_left
  check_refused c t w k a q = by (read_log limits b) refl q
    where
      turned : Told FoundLog → ℕ × ℕ
      turned (Ok x) = (k, a)
      turned (Err x) = x

      by : (o : Out Log) → read_log limits b ≡ o → ◌≡◌ {A = Told FoundLog} (Err (k, a)) (found_log (length b) o)
          → CheckedIn c t b w (claimless (plain k a)) c t w
      by (got g s) e d = absurd (cc)
      by (bad j s) e d =
          record {
            answer =
                ap (λ (x : Told FoundLog). claimless (plain (turned x).0 (turned x).1)) d
                ∙ ap (λ (o : Out Log). (check_read limits b w o).answer) (sym e);
            config = ap (config_left c) (sym e);
            table = ap (table_left t) (sym e);
            buffer = ap (λ (o : Out Log). (check_read limits b w o).buffer) (sym e);
          }

  module _ (f : FoundLog) (ef : ◌≡◌ {A = Told FoundLog} (Ok f) (found_log (length b) (read_log limits b))) where
    -- the log that was found, and where its parts lie
    pub record Whole (g : Log) : Type 0 where
      pub after : List ℕ
      pub reads : read_log limits b ≡ got g after
      pub gic_is : f.gic ≡ g.plan.marks.gic
      pub zones_is : f.zones ≡ zones_at limits g.plan
      pub first_is : f.requests ≡ length b - claims_size (length g.claims) - length g.plan.asked * request_size
      pub end_is : f.end ≡ length b - claims_size (length g.claims)

    pub whole : (g : Log) × Whole g
    unfolding answer_by
    whole = by (read_log limits b) refl ef
      where
        there : Told FoundLog → FoundLog
        there (Ok x) = x
        there (Err x) = f

        by : (o : Out Log) → read_log limits b ≡ o → ◌≡◌ {A = Told FoundLog} (Ok f) (found_log (length b) o) → (g : Log) × Whole g
        by (got g s) e d = (
          g,
          record {
            after = s;
            reads = e;
            gic_is = ap (λ (x : Told FoundLog). (there x).gic) d;
            zones_is = ap (λ (x : Told FoundLog). (there x).zones) d;
            first_is = ap (λ (x : Told FoundLog). (there x).requests) d;
            end_is = ap (λ (x : Told FoundLog). (there x).end) d;
          },
        )
        by (bad j s) e d = absurd (cc)

    -- they lie among the bytes
    pub marks_there : 16 ≤ length b
    marks_there =
        let (g, h) = whole in
        let (s, ep, es, l, cl) = rest b g h.after h.reads in
        four_marks_within 3 b g.plan s ep

    pub zones_there : f.zones ≤ length b
    zones_there =
        let (g, h) = whole in
        let (s, ep, es, l, cl) = rest b g h.after h.reads in
        let ez : f.zones ≡ zones_at limits g.plan = h.zones_is in
        omega (arith, four_zones_there 3 b g.plan s ep)

    claims_after : (f.requests ≤ f.end) × (f.end + 4 ≤ length b)
    claims_after =
        let (g, h) = whole in
        let (s, ep, es, l, cl) = rest b g h.after h.reads in
        let m = requests_within 3 b g.plan s ep in
        let er = h.first_is in
        let ee = h.end_is in
        (omega arith, omega arith)

    pub requests_before : f.requests ≤ f.end
    requests_before = claims_after.0

    pub claims_there : f.end + 4 ≤ length b
    claims_there = claims_after.1

    pub end_there : f.end ≤ length b
    end_there = let l = claims_there in omega arith

    pub claims_place : length b < 2 ^ 64 → f.end + 4 < 2 ^ 64
    claims_place h = let l = claims_there in omega arith

    pub check_judged : (c t w : List ℕ) (r : LogAnswer) (d u v : List ℕ)
        → JudgedIn f.gic (take (length b - 16) (drop 16 b)) (take (length b - f.zones) (drop f.zones b))
        (take (f.end - f.requests) (drop f.requests b)) (take (length b - (f.end + 4)) (drop (f.end + 4) b)) w r d u v
        → CheckedIn c t b w r d u v
    unfolding check_read config_left table_left config_answer table_answer
    check_judged c t w r d u v j =
        let (g, h) = whole in
        let (s, ep, es, l, cl) = rest b g h.after h.reads in
        let m = requests_within 3 b g.plan s ep in
        let er = h.first_is in
        let ee = h.end_is in
        let Q : List ℕ = take (f.end - f.requests) (drop f.requests b) in
        let K : List ℕ = take (length b - (f.end + 4)) (drop (f.end + 4) b) in
        let C : List ℕ = words_of_config (plan_config g.plan) in
        let T : List ℕ = words_of g.plan.zones in
        let config : config_read f.gic (take (length b - 16) (drop 16 b)) ≡ C =
        ap (config_read f.gic) (rest_of b 16)
        ∙ ap (λ (o : Out (List Region)). (config_answer f.gic o).words) (four_regions_at 3 b g.plan s ep)
        ∙ ap (λ (k : ℕ). words_of_config (record { regions = g.plan.regions; gic = k })) h.gic_is in
        let base : zones_read (take (length b - f.zones) (drop f.zones b)) ≡ T =
        ap zones_read (rest_of b f.zones ∙ ap (λ (k : ℕ). drop k b) h.zones_is)
        ∙ ap (λ (o : Out (List Zone)). (table_answer o).words) (four_zones_at 3 b g.plan s ep) in
        let many : f.end - f.requests ≡ length g.plan.asked * request_size = omega arith in
        let first : f.requests ≡ length b - length s - length g.plan.asked * request_size = omega arith in
        let rq : requests_in Q ≡ requests_of g.plan =
        ap₂ (λ (x y : ℕ). requests_in (take x (drop y b))) many first ∙ four_requests 3 b g.plan s ep in
        let last : drop (f.end + 4) b ≡ drop 4 s =
        sym (drop-drop 4 f.end b) ∙ ap (λ (x : List ℕ). drop 4 x) (ap (λ (k : ℕ). drop k b) ee ∙ sym es) in
        let ca : claims_in K ≡ g.claims = ap claims_in (rest_of b (f.end + 4) ∙ last) ∙ cl in
        let judged : judged_in (config_read f.gic (take (length b - 16) (drop 16 b)))
        (zones_read (take (length b - f.zones) (drop f.zones b))) Q K w ≡ settled_log limits (audit_log limits g) w =
        ap₂ (λ (x y : List ℕ). judged_in x y Q K w) config base ∙ own_judged b g h.after h.reads Q K rq ca w in
        record {
          answer =
              j.answer ∙ ap (λ (x : LogChecked). x.answer) judged
              ∙ ap (λ (o : Out Log). (check_read limits b w o).answer) (sym h.reads);
          config = j.config ∙ config ∙ ap (config_left c) (sym h.reads);
          table =
              j.table ∙ ap₂ (λ (x y : List ℕ). audit_words x y Q K) config base
              ∙ own_words b g h.after h.reads Q K rq ca
              ∙ ap (table_left t) (sym h.reads);
          buffer =
              j.buffer ∙ ap (λ (x : LogChecked). x.buffer) judged
              ∙ ap (λ (o : Out Log). (check_read limits b w o).buffer) (sym h.reads);
        }
