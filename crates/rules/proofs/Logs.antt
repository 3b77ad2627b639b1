-- The log's format has its laws from the plan's and from a list's; and an audit, by induction, one claim taken off at a
-- time, stops at the first that is not what the rules answer.
use Prim.Native.Nat.{ℕ, zero, suc, ◌+◌, ◌≤◌, ◌<◌}
use native.Mathlib.Decide.{ℕ_discrete}
use native.Mathlib.Omega.{arith}
use mathlib.Core.Bool.{Bool, true, false, cond}
use mathlib.Core.List.{List, [], ◌∷◌, ◌++◌}
use mathlib.Core.Logic.{◌⊎◌, inl, inr}
use mathlib.Core.Path.{◌≡◌, refl, ap, ◌∙◌}
use borrow.Author.Tests.{eq-eqb, ne_eqb}
use lib.Dec.{eqb}
use lib.ListN.{length, get_or, take}
use Rattle.lists.specs.Bytes.{Bytes}
use Rattle.lists.specs.Runs.{runs}
use Rattle.formats.specs.Formats.{got, bad, with, ListFits}
use Rattle.formats.proofs.Formats.{Told, Lawful, lawful_number, lawful_with, lawful_as, file_back, file_tight}
use Rattle.formats.proofs.Formats.{file_refuses, file_ends, file_got, with_got, as_got}
use Rattle.formats.proofs.Most.{most_number, most_with, most_as, most_listed, most_wider, file_past, Most}
use Rattle.formats.proofs.Sizes.{sized_with}
use Rattle.rules.specs.Applying.{store, plain, plan_config}
use Rattle.rules.specs.Configuration.{config_of, Configuration, StoredConfig}
use Rattle.rules.specs.Fields.{short_size}
use Rattle.rules.specs.Limits.{Limits}
use Rattle.rules.specs.Logs.{log_limits, claims_section, log_to, log_from, log_format, read_log, encode_log, LogFits, Log}
use Rattle.rules.specs.Logs.{claims_size, log_size, longest_log, least_log, LogSizesShown, claimless, false_claim}
use Rattle.rules.specs.Logs.{audit_from, audit, own_config, own_table, Audit}
use Rattle.rules.specs.Plan.{short, plan_format, encode, Short, PlanFits}
use Rattle.rules.specs.Requests.{refusal, next, standing}
use Rattle.rules.specs.Sizes.{plan_size, longest_size}
use Rattle.rules.specs.Tables.{table_of, Zone, StoredTable}
use Rattle.rules.specs.declared.Request.{Request}
use Rattle.rules.proofs.Keeps.{next_keeps, SoundTable}
use Rattle.rules.proofs.Plan.{lawful_list, lawful_plan}
use Rattle.rules.proofs.Run.{number_of}
use Rattle.rules.proofs.Sections.{few_requests, own_config_law, own_zones}
use Rattle.rules.proofs.Stored.{stands_well, stored_stands}
use Rattle.rules.proofs.Sizes.{encoded_length, least_length, most_length, plan_most, sized_list, sized_short}

-- ---- the format
module _ (l : Limits) where
  pub lawful_log : Lawful (log_format l) (LogFits l)
  lawful_log =
      lawful_as (with (plan_format (log_limits l)) claims_section) (λ t. LogFits l (log_to t))
      (lawful_with (plan_format (log_limits l)) claims_section (PlanFits (log_limits l))
      (λ p. ListFits 4 (length p.asked) (length p.asked) Short) (lawful_plan (log_limits l))
      (λ p. lawful_list (length p.asked) (length p.asked) short Short (lawful_number 4)))
      log_to log_from (λ g. refl) (λ t h. refl)

  pub read_encoded_log : (g : Log) → LogFits l g → read_log l (encode_log l g) ≡ got g []
  unfolding read_log encode_log
  read_encoded_log g h = file_back (log_format l) (LogFits l) lawful_log g h

  pub no_slack_log : (b : List ℕ) (g : Log) (t : List ℕ) → Bytes b → read_log l b ≡ got g t
      → (b ≡ encode_log l g) × LogFits l g
  unfolding read_log encode_log
  no_slack_log b g t h e = file_tight (log_format l) (LogFits l) lawful_log b g t h e

  pub log_ends : (b : List ℕ) (g : Log) (t : List ℕ) → read_log l b ≡ got g t → t ≡ []
  unfolding read_log
  log_ends b g t e = file_ends (log_format l) b g t e

  -- a log that reads whole is a plan in the format of logs, and claims after it to the end; its own contents are what it
  -- says
  module _ (b : List ℕ) (g : Log) (t : List ℕ) (e : read_log l b ≡ got g t) where
    pub log_parts : (s : List ℕ) × ((plan_format (log_limits l)).read b ≡ got g.plan s)
        × ((claims_section g.plan).read s ≡ got g.claims [])
    unfolding read_log
    log_parts =
        with_got (plan_format (log_limits l)) claims_section b g.plan g.claims []
        (as_got (with (plan_format (log_limits l)) claims_section) log_to log_from (λ x. refl) b g []
        (file_got (log_format l) b g t e))

    pub log_config : config_of (own_config l g) ≡ plan_config g.plan
    log_config = own_config_law (log_limits l) b g.plan log_parts.0 log_parts.1

    pub log_zones : table_of (own_table l g) ≡ g.plan.zones
    log_zones = own_zones (log_limits l) b g.plan log_parts.0 log_parts.1

  -- 20, 21 and 22 are its refusals
  pub log_refuses : (b : List ℕ) (k : ℕ) (t : List ℕ) → read_log l b ≡ bad k t → Told k ⊎ (k ≡ 22)
  unfolding read_log
  log_refuses b k t e = file_refuses (log_format l) (LogFits l) lawful_log b k t e

  -- ---- how long it is
  -- what is written of a log, whether it fits or not, has the size that its contents give
  pub log_length : (g : Log) → length (encode_log l g) ≡ log_size l g
  unfolding encode_log log_size encode
  log_length g =
      sized_with (plan_format (log_limits l)) claims_section (λ p. plan_size (log_limits l) p)
      (λ p ns. claims_size (length ns)) (encoded_length (log_limits l))
      (λ p. sized_list (length p.asked) (length p.asked) short_size short sized_short) (log_from g)

  pub least_log_law : (g : Log) → LogFits l g → least_log l ≤ length (encode_log l g)
  unfolding log_size
  least_log_law g (p, a) =
      omega (arith, log_length g, least_length (log_limits l) g.plan p, encoded_length (log_limits l) g.plan)

  pub most_log : (g : Log) → LogFits l g → length (encode_log l g) ≤ longest_log l
  unfolding log_size
  most_log g (p, a) =
      omega (
        arith,
        log_length g,
        most_length (log_limits l) g.plan p,
        encoded_length (log_limits l) g.plan,
        a.most,
        p.1.1.1.most,
      )

  log_most : Most (log_format l) (longest_log l)
  log_most =
      most_as (with (plan_format (log_limits l)) claims_section) log_to log_from (longest_log l)
      (most_with (plan_format (log_limits l)) claims_section (longest_size (log_limits l)) (claims_size l.requests)
      (plan_most (log_limits l))
      (λ b p t e. let few = few_requests (log_limits l) b p t e in
      most_wider (claims_section p) (claims_size (length p.asked)) (claims_size l.requests) (omega (arith, few))
      (most_listed 4 (length p.asked) (length p.asked) short 4 (most_number 4))))

  -- more than the longest log is refused, and by the first of those bytes: what lies behind them changes nothing
  pub log_past : (u v : List ℕ) → longest_log l < length u
      → (k : ℕ) × (t : List ℕ) × (read_log l u ≡ bad k t) × (read_log l (u ++ v) ≡ bad k (t ++ v))
  unfolding read_log
  log_past u v h = file_past (log_format l) (longest_log l) log_most u v h

-- whatever reads whole lies between
pub whole_log : (l : Limits) (b : List ℕ) (g : Log) (t : List ℕ) → Bytes b → read_log l b ≡ got g t
    → (least_log l ≤ length b) × (length b ≤ longest_log l)
whole_log l b g t h e =
    let (w, f) = no_slack_log l b g t h e in
    rw w (least_log_law l g f, most_log l g f)

pub log_sizes_shown : LogSizesShown
log_sizes_shown = (refl, refl)

-- ---- the claims in turn
module _ (l : Limits) (c : Configuration) where
  abbrev onward : ℕ → List Zone → List Request → List ℕ → Audit
  onward = audit_from l c

  abbrev pub wrong_at : ℕ → List Zone → Request → ℕ → Audit
  wrong_at k t q a = record { answer = false_claim k a (refusal l c t q); table = t }

  -- the first claim holds; it does not
  module _ (k : ℕ) (t : List Zone) (q : Request) (qs : List Request) (a : ℕ) (ns : List ℕ) where
    pub claim_holds : refusal l c t q ≡ a → onward k t (q ∷ qs) (a ∷ ns) ≡ onward (suc k) (next l c t q) qs ns
    unfolding audit_from
    claim_holds e =
        ap (λ (b : Bool). cond b (onward (suc k) (next l c t q) qs ns) (wrong_at k t q a)) (eq-eqb (refusal l c t q) a e)

    pub claim_fails : (refusal l c t q ≡ a → ⊥) → onward k t (q ∷ qs) (a ∷ ns) ≡ wrong_at k t q a
    unfolding audit_from
    claim_fails ne =
        ap (λ (b : Bool). cond b (onward (suc k) (next l c t q) qs ns) (wrong_at k t q a)) (ne_eqb (refusal l c t q) a ne)

  -- where either list ends, all hold
  pub claims_end : (k : ℕ) (t : List Zone) (qs : List Request) (ns : List ℕ) → (qs ≡ []) ⊎ (ns ≡ [])
      → onward k t qs ns ≡ record { answer = claimless (plain 0 k); table = t }
  unfolding audit_from
  claims_end k t [] ns h = refl
  claims_end k t (q ∷ qs) [] h = refl
  claims_end k t (q ∷ qs) (a ∷ ns) (inl e) = absurd (let z : ◌≡◌ {A = ℕ} 0 1 = cc in omega arith)
  claims_end k t (q ∷ qs) (a ∷ ns) (inr e) = absurd (let z : ◌≡◌ {A = ℕ} 0 1 = cc in omega arith)

  -- what every step keeps an audit keeps, wherever it ends
  pub audit_keeps : (k : ℕ) (t : List Zone) (qs : List Request) (ns : List ℕ) → SoundTable l c t
      → SoundTable l c (onward k t qs ns).table
  unfolding audit_from
  audit_keeps k t [] ns ok = ok
  audit_keeps k t (q ∷ qs) [] ok = ok
  audit_keeps k t (q ∷ qs) (a ∷ ns) ok =
      by (audit_keeps (suc k) (next l c t q) qs ns (next_keeps l c t q ok)) (eqb (refusal l c t q) a)
    where
      by : SoundTable l c (onward (suc k) (next l c t q) qs ns).table → (b : Bool)
          → SoundTable l c (cond b (onward (suc k) (next l c t q) qs ns) (wrong_at k t q a)).table
      by f true = f
      by f false = ok

  module _ (d : Request) where
    -- what the rules answer to request i, at the table that the requests before it leave
    abbrev right_at : List Zone → List Request → ℕ → ℕ
    right_at = number_of (refusal l c) (next l c) d

    -- all hold
    pub audit_all : (k : ℕ) (t : List Zone) (qs : List Request) (ns : List ℕ) → length ns ≡ length qs
        → ((j : ℕ) → j < length qs → right_at t qs j ≡ get_or ns j 0)
        → onward k t qs ns
        ≡ record { answer = claimless (plain 0 (k + length qs)); table = runs (next l c) t qs }
    unfolding audit_from runs
    audit_all k t [] ns n f =
        let e : k ≡ k + 0 = omega arith in
        (λ i. record { answer = claimless (plain 0 (e i)); table = t })
    audit_all k t (q ∷ qs) [] n f = absurd (omega arith)
    audit_all k t (q ∷ qs) (a ∷ ns) n f =
        let e : suc k + length qs ≡ k + suc (length qs) = omega arith in
        claim_holds k t q qs a ns (f 0 (omega arith))
        ∙ audit_all (suc k) (next l c t q) qs ns (omega arith) (λ j h. f (suc j) (omega arith))
        ∙ (λ i. record { answer = claimless (plain 0 (e i)); table = runs (next l c) (next l c t q) qs })

    -- claim i is the first that does not
    pub audit_stops : (k : ℕ) (t : List Zone) (qs : List Request) (ns : List ℕ) (i : ℕ) → i < length qs
        → i < length ns → ((j : ℕ) → j < i → right_at t qs j ≡ get_or ns j 0) → (right_at t qs i ≡ get_or ns i 0 → ⊥)
        → onward k t qs ns
        ≡ record {
          answer = false_claim (k + i) (get_or ns i 0) (right_at t qs i);
          table = runs (next l c) t (take i qs);
        }
    unfolding runs
    audit_stops k t [] ns i h m f ne = absurd (omega arith)
    audit_stops k t (q ∷ qs) [] i h m f ne = absurd (omega arith)
    audit_stops k t (q ∷ qs) (a ∷ ns) zero h m f ne =
        let e : k ≡ k + 0 = omega arith in
        claim_fails k t q qs a ns ne ∙ (λ i. record { answer = false_claim (e i) a (refusal l c t q); table = t })
    audit_stops k t (q ∷ qs) (a ∷ ns) (suc i) h m f ne =
        let e : suc k + i ≡ k + suc i = omega arith in
        claim_holds k t q qs a ns (f 0 (omega arith))
        ∙ audit_stops (suc k) (next l c t q) qs ns i (omega arith) (omega arith) (λ j z. f (suc j) (omega arith)) ne
        ∙ (λ x. record {
          answer = false_claim (e x) (get_or ns i 0) (right_at (next l c t q) qs i);
          table = runs (next l c) (next l c t q) (take i qs);
        })

    -- one or the other
    pub record FirstWrong (t : List Zone) (qs : List Request) (ns : List ℕ) (i : ℕ) : Type 0 where
      pub there : i < length qs
      pub claimed : i < length ns
      pub before : (j : ℕ) → j < i → right_at t qs j ≡ get_or ns j 0
      pub wrong : right_at t qs i ≡ get_or ns i 0 → ⊥

    pub all_or_first : (t : List Zone) (qs : List Request) (ns : List ℕ) → length ns ≡ length qs
        → ((j : ℕ) → j < length qs → right_at t qs j ≡ get_or ns j 0) ⊎ ((i : ℕ) × FirstWrong t qs ns i)
    unfolding runs
    all_or_first t [] ns n = inl (λ j h. absurd (omega arith))
    all_or_first t (q ∷ qs) [] n = absurd (omega arith)
    all_or_first t (q ∷ qs) (a ∷ ns) n =
        elim (ℕ_discrete (refusal l c t q) a) [
          | yes e ↦ by e (all_or_first (next l c t q) qs ns (omega arith))
          | no ne ↦
              inr (
                0,
                record { there = omega arith; claimed = omega arith; before = λ j h. absurd (omega arith); wrong = ne },
              )
        ]
      where
        by : refusal l c t q ≡ a
            → ((j : ℕ) → j < length qs → right_at (next l c t q) qs j ≡ get_or ns j 0)
            ⊎ ((i : ℕ) × FirstWrong (next l c t q) qs ns i)
            → ((j : ℕ) → j < length (q ∷ qs) → right_at t (q ∷ qs) j ≡ get_or (a ∷ ns) j 0)
            ⊎ ((i : ℕ) × FirstWrong t (q ∷ qs) (a ∷ ns) i)
        by e (inl f) = inl (λ j h. each j h)
          where
            each : (j : ℕ) → j < suc (length qs) → right_at t (q ∷ qs) j ≡ get_or (a ∷ ns) j 0
            each zero h = e
            each (suc j) h = f j (omega arith)
        by e (inr (i, w)) =
            inr (
              suc i,
              record {
                there = omega (arith, w.there);
                claimed = omega (arith, w.claimed);
                before = λ j h. each j h;
                wrong = w.wrong;
              },
            )
          where
            each : (j : ℕ) → j < suc i → right_at t (q ∷ qs) j ≡ get_or (a ∷ ns) j 0
            each zero h = e
            each (suc j) h = w.before j (omega arith)

-- ---- from outside
module _ (l : Limits) (c : StoredConfig) (t : StoredTable) (qs : List Request) (ns : List ℕ) where
  pub audit_inside : standing l c t ≡ 0 → audit l c t qs ns ≡ audit_from l (config_of c) 0 (table_of t) qs ns
  unfolding audit
  audit_inside e =
      ap (λ (b : Bool). cond b (audit_from l (config_of c) 0 (table_of t) qs ns) (record
      { answer = claimless (plain (standing l c t) 0); table = table_of t })) (eq-eqb (standing l c t) 0 e)

  pub audit_away : (standing l c t ≡ 0 → ⊥)
      → audit l c t qs ns ≡ record { answer = claimless (plain (standing l c t) 0); table = table_of t }
  unfolding audit
  audit_away ne =
      ap (λ (b : Bool). cond b (audit_from l (config_of c) 0 (table_of t) qs ns) (record
      { answer = claimless (plain (standing l c t) 0); table = table_of t })) (ne_eqb (standing l c t) 0 ne)

  -- what stands at the beginning stands where the audit ends
  pub audit_stands : standing l c t ≡ 0 → standing l c (store l (audit l c t qs ns).table) ≡ 0
  audit_stands e =
      let (passed, ok) = stands_well l c t e in
      ap (λ (a : Audit). standing l c (store l a.table)) (audit_inside e)
      ∙ stored_stands l c (audit_from l (config_of c) 0 (table_of t) qs ns).table passed
      (audit_keeps l (config_of c) 0 (table_of t) qs ns ok)
