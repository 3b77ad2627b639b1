-- After a call the words hold what the rules leave, and stand: an accepted request writes the words of a sound table, a
-- refused one nothing; calls in turn follow from one call.
use Prim.Native.Nat.{ℕ}
use native.Mathlib.Decide.{ℕ_discrete}
use mathlib.Core.Bool.{Bool, false, cond}
use mathlib.Core.List.{List, [], ◌∷◌}
use mathlib.Core.Path.{◌≡◌, refl, sym, ap, subst, ◌∙◌}
use borrow.Author.Tests.{eq-eqb, ne_eqb}
use lib.Dec.{eqb}
use Rattle.lists.specs.Runs.{told}
use Rattle.lists.proofs.Rules.{hit_whatever, quiet_answer}
use Rattle.lists.proofs.Runs.{in_turn, Seen}
use Rattle.rules.specs.Applying.{store}
use Rattle.rules.specs.Limits.{limits}
use Rattle.rules.specs.Requests.{refusal, after, next, answers, standing_rules, standing, answer}
use Rattle.rules.specs.Run.{requests_in, ended, run_answer}
use Rattle.rules.specs.Tables.{table_of, Zone, StoredTable}
use Rattle.rules.specs.declared.Outcome.{Outcome}
use Rattle.rules.specs.declared.Request.{Request}
use Rattle.rules.proofs.Keeps.{next_keeps, SoundTable}
use Rattle.rules.proofs.Stored.{table_back, stands_well, stored_stands, run_from_keeps}
use Rattle.zones.specs.Kept.{table_in, standing_in, Stands, StepHolds, StepKeepsStanding, RefusedStepStays}
use Rattle.zones.specs.Kept.{UnsoundStepRefused, run_in, RunHolds, RunKeepsStanding, UnsoundRunStays, StepsHold}
use Rattle.zones.specs.Kept.{RunsHold}
use Rattle.zones.specs.Run.{run_words, RanIn}
use Rattle.zones.specs.Step.{afterwards, Stepped}
use Rattle.zones.specs.View.{stored_config, config_in, stored_table}
use Rattle.zones.specs.Words.{words_of}
use Rattle.zones.proofs.Spelling.{table_view}
use Rattle.zones.proofs.Stepping.{neither}

-- ---- words that were made from a sound table
module _ (c t : List ℕ) (z : Stands c t) (m : List Zone) (ok : SoundTable limits (config_in c) m) (u : List ℕ)
    (e : u ≡ words_of m) where
  made : stored_table u ≡ store limits m
  made = ap stored_table e ∙ table_view m

  made_holds : table_in u ≡ m
  made_holds = ap table_of made ∙ table_back limits (config_in c) m ok

  pub made_stands : Stands c u
  made_stands =
      ap (λ (x : StoredTable). standing limits (stored_config c) x) made
      ∙ stored_stands limits (stored_config c) m (stands_well limits (stored_config c) (stored_table t) z).0 ok

-- ---- one request
module _ (c t : List ℕ) (q : Request) (n : ℕ) (u : List ℕ) (h : Stepped c t q n u) where
  stays : (n ≡ 0 → ⊥) → u ≡ t
  unfolding afterwards
  stays ne =
      h.table
      ∙ ap (λ (x : Bool). cond x (words_of (after q.kind q.zone (table_in t))) t)
      (ne_eqb _ 0 (λ z. ne (h.number ∙ z)))

  unsound : (Stands c t → ⊥) → n ≡ standing_in c t
  unfolding answer
  unsound ne =
      h.number
      ∙ sym (hit_whatever (standing_rules limits (stored_config c) (stored_table t)) (standing_in c t) 0
      (refusal limits (config_in c) (table_in t) q) refl ne)

  module _ (z : Stands c t) where
    step_number : n ≡ refusal limits (config_in c) (table_in t) q
    unfolding answer
    step_number =
        h.number
        ∙ sym (quiet_answer (standing_rules limits (stored_config c) (stored_table t))
        (refusal limits (config_in c) (table_in t) q) (neither c t (standing_in c t) refl z))

    ok : SoundTable limits (config_in c) (table_in t)
    ok = (stands_well limits (stored_config c) (stored_table t) z).1

    -- accepted, the words are made from the next table; refused, both the words and the table are what they were
    accepted : n ≡ 0 → u ≡ words_of (next limits (config_in c) (table_in t) q)
    unfolding afterwards next
    accepted a =
        h.table
        ∙ ap (λ (x : Bool). cond x (words_of (after q.kind q.zone (table_in t))) t)
        (eq-eqb _ 0 (sym h.number ∙ a))
        ∙ sym (ap (λ (x : Bool). words_of (cond x (after q.kind q.zone (table_in t)) (table_in t)))
        (eq-eqb _ 0 (sym step_number ∙ a)))

    refused : (n ≡ 0 → ⊥) → table_in t ≡ next limits (config_in c) (table_in t) q
    unfolding next
    refused ne =
        sym (ap (λ (x : Bool). cond x (after q.kind q.zone (table_in t)) (table_in t))
        (ne_eqb _ 0 (λ a. ne (step_number ∙ a))))

    step_seen : Seen table_in (refusal limits (config_in c)) (next limits (config_in c)) (Stands c) t q n u
    step_seen = elim (ℕ_discrete n 0) [
      | yes a ↦ let m : SoundTable limits (config_in c) (next limits (config_in c) (table_in t) q) =
          next_keeps limits (config_in c) (table_in t) q ok in
          record {
            says = step_number;
            does = made_holds c t z (next limits (config_in c) (table_in t) q) m u (accepted a);
            keeps = made_stands c t z (next limits (config_in c) (table_in t) q) m u (accepted a);
          }
      | no ne ↦ let e : u ≡ t = stays ne in
          record {
            says = step_number;
            does = ap (λ (x : List ℕ). table_in x) e ∙ refused ne;
            keeps = subst (Stands c) (sym e) z;
          }
    ]

pub step_holds : StepHolds
step_holds c t q n u h z = (step_seen c t q n u h z).does

pub step_keeps_standing : StepKeepsStanding
step_keeps_standing c t q n u h z = (step_seen c t q n u h z).keeps

pub refused_step_stays : RefusedStepStays
refused_step_stays c t q n u h ne = stays c t q n u h ne

pub unsound_step_refused : UnsoundStepRefused
unsound_step_refused c t q n u h ne = unsound c t q n u h ne

-- ---- a run
module _ (c t b : List ℕ) (r : Outcome) (u : List ℕ) (h : RanIn c t b r u) where
  none_run : (Stands c t → ⊥) → (r.number ≡ standing_in c t) × (u ≡ t)
  unfolding run_answer run_words
  none_run ne =
      let f : eqb (standing_in c t) 0 ≡ false = ne_eqb _ 0 ne in (
        ap (λ (o : Outcome). o.number) h.answer
            ∙ ap (λ (x : Bool). (cond x (ended (run_in c (table_in t) b)) (record
            { number = standing_in c t; place = 0; inner = 0 })).number) f,
        h.table ∙ ap (λ (x : Bool). cond x (words_of (run_in c (table_in t) b).table) t) f,
      )

  module _ (z : Stands c t) where
    abbrev left : List Zone
    left = (run_in c (table_in t) b).table

    run_words_law : u ≡ words_of left
    unfolding run_words
    run_words_law = h.table ∙ ap (λ (x : Bool). cond x (words_of left) t) (eq-eqb _ 0 z)

    left_sound : SoundTable limits (config_in c) left
    left_sound =
        run_from_keeps limits (config_in c) 0 (table_in t) (requests_in b)
        (stands_well limits (stored_config c) (stored_table t) z).1

    run_seen : Seen table_in (λ t b. ended (run_in c t b)) (λ t b. (run_in c t b).table) (Stands c) t b r u
    unfolding run_answer
    run_seen = record {
      says =
          h.answer
          ∙ ap (λ (x : Bool). cond x (ended (run_in c (table_in t) b)) (record
          { number = standing_in c t; place = 0; inner = 0 })) (eq-eqb _ 0 z);
      does = made_holds c t z left left_sound u run_words_law;
      keeps = made_stands c t z left left_sound u run_words_law;
    }

pub run_holds : RunHolds
run_holds c t b r u h z = (run_seen c t b r u h z).does

pub run_keeps_standing : RunKeepsStanding
run_keeps_standing c t b r u h z = (run_seen c t b r u h z).keeps

pub unsound_run_stays : UnsoundRunStays
unsound_run_stays c t b r u h ne = none_run c t b r u h ne

-- ---- calls in turn
answers_told : (c : List ℕ) (t : List Zone) (qs : List Request)
    → told (refusal limits (config_in c)) (next limits (config_in c)) t qs ≡ answers limits (config_in c) t qs
unfolding told answers
answers_told c t [] = refl
answers_told c t (q ∷ qs) =
    ap (λ (ns : List ℕ). refusal limits (config_in c) t q ∷ ns) (answers_told c (next limits (config_in c) t q) qs)

pub steps_hold : StepsHold
steps_hold c t qs ns u h z =
    let r =
    in_turn table_in (refusal limits (config_in c)) (next limits (config_in c)) (Stands c) (λ t q n u. Stepped c t q n u)
    (step_seen c) h z in
    (r.0 ∙ answers_told c (table_in t) qs, r.1, r.2)

pub runs_hold : RunsHold
runs_hold c t bs rs u h z =
    in_turn table_in (λ t b. ended (run_in c t b)) (λ t b. (run_in c t b).table) (Stands c) (λ t b r u. RanIn c t b r u)
    (run_seen c) h z
