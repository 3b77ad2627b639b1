-- An audit: at claim i the words hold the table that the requests before it leave, and what is left of both lists gives
-- the whole audit.
use Prim.Native.Nat.{ℕ, suc, ◌+◌, ◌-◌, ◌/◌, ◌≤◌, ◌<◌, min}
use native.Mathlib.Decide.{dec_lt}
use native.Mathlib.Omega.{arith}
use mathlib.Core.Bool.{Bool, cond}
use mathlib.Core.List.{List, [], ◌∷◌, map}
use mathlib.Core.Logic.{◌⊎◌, inl, inr}
use mathlib.Core.Path.{◌≡◌, sym, ap, ap₂, ◌∙◌}
use borrow.Author.Tests.{eq-eqb, ne_eqb}
use lib.ListN.{length}
use Rattle.std.specs.Prelude.{Result, Ok, Err}
use Rattle.lists.specs.Places.{places, tab}
use Rattle.lists.proofs.Places.{places_step, places_end}
use Rattle.rules.specs.Applying.{plain}
use Rattle.rules.specs.Fields.{short_size}
use Rattle.rules.specs.Limits.{limits}
use Rattle.rules.specs.Logs.{claimless, false_claim, audit_from, claims_in, Audit}
use Rattle.rules.specs.Numbers.{code}
use Rattle.rules.specs.Requests.{refusal, next, standing}
use Rattle.rules.specs.Run.{request_size, requests_in}
use Rattle.rules.specs.Tables.{Zone}
use Rattle.rules.specs.declared.LogAnswer.{LogAnswer}
use Rattle.rules.specs.declared.Request.{Request}
use Rattle.rules.specs.declared.refusal.Refusal.{Refusal}
use Rattle.rules.proofs.Logs.{claim_holds, claim_fails, claims_end, audit_inside, audit_away}
use Rattle.zones.specs.Audit.{claims, audit_in, audit_words, AuditedIn}
use Rattle.zones.specs.Decide.{in_numbers, decided, changed, Ready}
use Rattle.zones.specs.Trial.{asks}
use Rattle.zones.specs.View.{stored_config, config_in, stored_table, zones_in}
use Rattle.zones.specs.Words.{words_of}
use Rattle.zones.specs.declared.decide.Change.{Change}
use Rattle.zones.proofs.Running.{after_view, ready_on}
use Rattle.zones.proofs.Stepping.{decided_number, decided_table, refused_table, stands_same}

-- ---- m requests in b and k claims in a, of which i are judged
module _ (c b a : List ℕ) (m k : ℕ) (R : Audit) where
  abbrev pub Due : List ℕ → ℕ → Type 0
  Due w i =
      audit_from limits (config_in c) i (zones_in w) (map (asks b) (places i (m - i))) (map (claims a) (places i (k - i))) ≡ R

  module _ (w : List ℕ) (i n right x : ℕ) (q : Request) (d : Result Change Refusal) (ready : Ready c w) (h : i < n) (en : n ≡ min m k)
      (eq : q ≡ asks b i) (ed : in_numbers d ≡ decided (config_in c) (zones_in w) q) (er : right ≡ code d)
      (ex : x ≡ claims a i) (due : Due w i) where
    abbrev asked : List Request
    asked = map (asks b) (places (i + 1) (m - (i + 1)))

    abbrev told : List ℕ
    told = map (claims a) (places (i + 1) (k - (i + 1)))

    turn : audit_from limits (config_in c) i (zones_in w) (q ∷ asked) (x ∷ told) ≡ R
    turn =
        rw (eq, ex)
        (sym (ap₂ (λ (y z : List ℕ). audit_from limits (config_in c) i (zones_in w) (map (asks b) y) (map (claims a) z))
        (places_step i m (omega arith)) (places_step i k (omega arith)))
        ∙ due)

    by_rules : right ≡ refusal limits (config_in c) (zones_in w) q
    by_rules = er ∙ decided_number (config_in c) (zones_in w) q d ed

    module _ (ne : right ≡ x → ⊥) where
      wrong : R ≡ record { answer = false_claim i x right; table = zones_in w }
      wrong =
          sym turn
          ∙ claim_fails limits (config_in c) i (zones_in w) q asked x told (λ z. ne (by_rules ∙ z))
          ∙ (λ y. record { answer = false_claim i x (sym by_rules y); table = zones_in w })

      pub claim_stops : (r : LogAnswer) → r ≡ false_claim i x right → (r ≡ R.answer) × (w ≡ words_of R.table)
      claim_stops r e = (
        e ∙ ap (λ (y : Audit). y.answer) (sym wrong),
        ready.words.words ∙ ap (λ (y : Audit). words_of y.table) (sym wrong),
      )

    module _ (e : right ≡ x) where
      claim_next : (u : List ℕ) → u ≡ words_of (next limits (config_in c) (zones_in w) q) → Ready c u × Due u (i + 1)
      claim_next u eu =
          let s : i + 1 ≡ suc i = omega arith in (
            ready_on c w u q ready eu,
            ap₂ (λ (n : ℕ) (y : List Zone). audit_from limits (config_in c) n y asked told) s (after_view c w u q ready eu)
                ∙ sym (claim_holds limits (config_in c) i (zones_in w) q asked x told (sym by_rules ∙ e))
                ∙ turn,
          )

      pub claim_on : (ch : Change) → d ≡ Ok ch → (u : List ℕ) → u ≡ words_of (changed ch (zones_in w))
          → Ready c u × Due u (i + 1)
      claim_on ch g u eu = claim_next u (eu ∙ ap words_of (decided_table (config_in c) (zones_in w) q d ed ch g))

      pub claim_stays : (r : Refusal) → d ≡ Err r → Ready c w × Due w (i + 1)
      claim_stays r g =
          claim_next w (ready.words.words ∙ ap words_of (refused_table (config_in c) (zones_in w) q d ed r g))

  module _ (w : List ℕ) (i n : ℕ) (ready : Ready c w) (due : Due w i) (h : n ≤ i) (l : i ≤ n) (en : n ≡ min m k) where
    over : (map (asks b) (places i (m - i)) ≡ []) ⊎ (map (claims a) (places i (k - i)) ≡ [])
    over =
        elim (dec_lt i m) [
          | yes y ↦ inr (ap (map (claims a)) (places_end i k (omega arith)))
          | no y ↦ inl (ap (map (asks b)) (places_end i m (omega arith)))
        ]

    all_held : R ≡ record { answer = claimless (plain 0 n); table = zones_in w }
    all_held =
        let s : i ≡ n = omega arith in
        sym due
        ∙ claims_end limits (config_in c) i (zones_in w) (map (asks b) (places i (m - i)))
        (map (claims a) (places i (k - i))) over
        ∙ (λ x. record { answer = claimless (plain 0 (s x)); table = zones_in w })

    pub claims_hold : (r : LogAnswer) → r ≡ claimless (plain 0 n) → (r ≡ R.answer) × (w ≡ words_of R.table)
    claims_hold r e = (
      e ∙ ap (λ (x : Audit). x.answer) (sym all_held),
      ready.words.words ∙ ap (λ (x : Audit). words_of x.table) (sym all_held),
    )

-- the requests and the claims of the bytes, none of them judged
pub claims_start : (c t b a : List ℕ) (m k : ℕ) → m ≡ length b / request_size → k ≡ length a / short_size
    → Due c b a m k (audit_from limits (config_in c) 0 (zones_in t) (requests_in b) (claims_in a)) t 0
unfolding requests_in claims_in tab
claims_start c t b a m k em ek =
    let x : m - 0 ≡ length b / request_size = omega arith in
    let y : k - 0 ≡ length a / short_size = omega arith in
    ap₂ (λ (v z : ℕ). audit_from limits (config_in c) 0 (zones_in t) (map (asks b) (places 0 v)) (map (claims a) (places 0 z)))
    x y

-- ---- from outside
module _ (c t b a : List ℕ) (n : ℕ) (e : n ≡ standing limits (stored_config c) (stored_table t)) where
  pub none_audited : (n ≡ 0 → ⊥) → (r : LogAnswer) → r ≡ claimless (plain n 0) → AuditedIn c t b a r t
  unfolding audit_words
  none_audited ne r er =
      let own : standing limits (stored_config c) (stored_table t) ≡ 0 → ⊥ = λ y. ne (e ∙ y) in
      record {
        answer =
            er ∙ (λ i. claimless (plain (e i) 0))
            ∙ sym (ap (λ (x : Audit). x.answer)
            (audit_away limits (stored_config c) (stored_table t) (requests_in b) (claims_in a) own));
        table = sym (ap (λ (x : Bool). cond x (words_of (audit_in c t b a).table) t) (ne_eqb _ 0 own));
      }

  pub all_audited : n ≡ 0 → (r : LogAnswer) (u : List ℕ)
      → r ≡ (audit_from limits (config_in c) 0 (zones_in t) (requests_in b) (claims_in a)).answer
      → u ≡ words_of (audit_from limits (config_in c) 0 (zones_in t) (requests_in b) (claims_in a)).table
      → AuditedIn c t b a r u
  unfolding audit_words
  all_audited y r u er eu =
      let own : standing limits (stored_config c) (stored_table t) ≡ 0 = sym e ∙ y in
      let inside : audit_from limits (config_in c) 0 (zones_in t) (requests_in b) (claims_in a) ≡ audit_in c t b a =
      ap (λ (x : List Zone). audit_from limits (config_in c) 0 x (requests_in b) (claims_in a)) (stands_same c t n e y)
      ∙ sym (audit_inside limits (stored_config c) (stored_table t) (requests_in b) (claims_in a) own) in
      record {
        answer = er ∙ ap (λ (x : Audit). x.answer) inside;
        table =
            eu ∙ ap (λ (x : Audit). words_of x.table) inside
            ∙ sym (ap (λ (x : Bool). cond x (words_of (audit_in c t b a).table) t) (eq-eqb _ 0 own));
      }
