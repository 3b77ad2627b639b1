-- Applying a plan by any step rule: the code judges the bytes first and the terminal's own state last, and answers as the
-- rules, which judge them the other way round, since a state that does not stand is answered 1 or 2 either way.
use Prim.Native.Nat.{ℕ, ◌+◌, ◌-◌, ◌^◌, ◌<◌}
use native.Mathlib.Omega.{arith}
use mathlib.Core.Bool.{Bool, true, false, cond, not}
use mathlib.Core.List.{List, [], ◌∷◌}
use mathlib.Core.Path.{◌≡◌, refl, sym, ap, subst, ◌∙◌}
use borrow.Author.Tests.{eqb-true, eqb-false, eq-eqb, ne_eqb}
use lib.Dec.{eqb}
use lib.ListN.{length}
use Rattle.lists.specs.Rules.{◌when◌, first_rule}
use Rattle.formats.specs.Formats.{Out, got, bad}
use Rattle.rules.specs.Applying.{last_edition, store, same_list, same_zone, plain, base_rules, moved, settled, Kept, judged_by}
use Rattle.rules.specs.Applying.{apply_read_by, apply_by, base_by, answer_read_by, answer_alone_by, AppliedOf}
use Rattle.rules.specs.Limits.{limits, Limits}
use Rattle.rules.specs.Plan.{requests_from}
use Rattle.rules.specs.Requests.{standing}
use Rattle.rules.specs.Run.{requests_in, ended, Run}
use Rattle.rules.specs.Steps.{ran_by, StepRule}
use Rattle.rules.specs.Tables.{table_of}
use Rattle.rules.specs.declared.Outcome.{Outcome}
use Rattle.rules.specs.declared.Request.{Request}
use Rattle.rules.proofs.Applying.{accepted_base, outcome_by, unsound_by, refused_by}
use Rattle.rules.proofs.Keeps.{parts_sound, SoundTable}
use Rattle.rules.proofs.Stored.{table_back}
use Rattle.zones.specs.Layout.{table_words}
use Rattle.zones.specs.View.{stored_config, stored_table, config_in, zones_in}
use Rattle.zones.specs.Words.{words_of, Within}
use Rattle.zones.proofs.Stepping.{sound_within, stands_same, stands_ready}
use Rattle.plan.specs.Held.{table_held}
use Rattle.plan.specs.Steps.{away_with, base_number, kept_in, own_by, done_by, AppliedBy, RanOrUndoneBy, FoundBy}
use Rattle.plan.specs.Steps.{Stood}

-- ---- 23 to 26 as numbers, and as answers
judged_by_law : (u v w x : Bool) (o : Outcome)
    → first_rule (plain 23 0 when u ∷ plain 24 0 when v ∷ plain 25 0 when w ∷ plain 26 0 when x ∷ []) o
    ≡ cond (eqb (first_rule (23 when u ∷ 24 when v ∷ 25 when w ∷ 26 when x ∷ []) 0) 0) o
    (plain (first_rule (23 when u ∷ 24 when v ∷ 25 when w ∷ 26 when x ∷ []) 0) 0)
unfolding first_rule
judged_by_law true v w x o = refl
judged_by_law false true w x o = refl
judged_by_law false false true x o = refl
judged_by_law false false false true o = refl
judged_by_law false false false false o = refl

module _ (m : StepRule) where
  -- a state stands where document 01's terminal with the configuration w stands, and runs leave tables that are sound there
  pub stood_by : m.limits ≡ limits → (c : m.Config) (t w : List ℕ)
      → standing limits (stored_config w) (stored_table t) ≡ 0
      → ((qs : List Request) → SoundTable limits (config_in w) (m.run c (table_of (stored_table t)) qs).table)
      → Stood m c t
  stood_by at c t w z sound = record {
    zones = stands_same w t 0 (sym z) refl;
    words = λ l. (stands_ready w t 0 (sym z) refl l).words.words;
    within = λ qs. sound_within (config_in w) _ (parts_sound limits (config_in w) _ (sound qs));
    back =
        λ qs. subst (λ (l : Limits). table_of (store l (m.run c (table_of (stored_table t)) qs).table)
        ≡ (m.run c (table_of (stored_table t)) qs).table) (sym at) (table_back limits (config_in w) _ (sound qs));
  }

  module _ (c : m.Config) (t : List ℕ) (ed : ℕ) (b : List ℕ) where
    abbrev s : Kept m
    s = kept_in m c t ed

    abbrev own : ℕ
    own = own_by m c t

    abbrev answer : Bool → Out m.Said → AppliedOf m.Config
    answer x o = cond x (apply_read_by m s b o) (record { outcome = plain own 0; state = s })

    sound_reads : (o : Out m.Said) → m.read b ≡ o → own ≡ 0 → apply_by m s b ≡ apply_read_by m s b o
    unfolding apply_by
    sound_reads o e z = ap (λ (x : Bool). answer x (m.read b)) (eq-eqb _ 0 z) ∙ ap (apply_read_by m s b) e

    -- an answer that leaves the state
    stays : (o : Outcome) → (o.number ≡ 0 → ⊥) → apply_by m s b ≡ record { outcome = o; state = s }
        → AppliedBy m c t ed b o t
    stays o ne e = record {
      answer = sym (ap (λ (a : AppliedOf m.Config). a.outcome) e);
      table = sym (ap (λ (x : Bool). cond x (words_of (table_of (apply_by m s b).state.table)) t) (ne_eqb _ 0 ne));
    }

    -- turned away with a number that a state that stands is answered
    away_in : (k place : ℕ) (v : Outcome) → (k ≡ 0 → ⊥) → v ≡ away_with own k place
        → (own ≡ 0 → apply_by m s b ≡ record { outcome = plain k place; state = s }) → AppliedBy m c t ed b v t
    unfolding away_with
    away_in k place v ne h sound = subst (λ (o : Outcome). AppliedBy m c t ed b o t) (sym h) (by (eqb own 0) refl)
      where
        by : (x : Bool) → eqb own 0 ≡ x → AppliedBy m c t ed b (cond (eqb own 0) (plain k place) (plain own 0)) t
        by true g =
            subst (λ (x : Bool). AppliedBy m c t ed b (cond x (plain k place) (plain own 0)) t) (sym g)
            (stays (plain k place) ne (sound (eqb-true _ _ g)))
        by false g =
            subst (λ (x : Bool). AppliedBy m c t ed b (cond x (plain k place) (plain own 0)) t) (sym g)
            (stays (plain own 0) (eqb-false _ _ g) (unsound_by m s b (eqb-false _ _ g)))

    -- ---- bytes that do not read whole
    pub cut_by : (k : ℕ) (l : List ℕ) → m.read b ≡ bad k l → (k ≡ 0 → ⊥) → (v : Outcome)
        → v ≡ away_with own k (length b - length l) → AppliedBy m c t ed b v t
    unfolding apply_read_by
    cut_by k l e ne v h = away_in k (length b - length l) v ne h (sound_reads (bad k l) e)

    -- ---- a plan that reads whole: its base held against the state, and its requests
    module _ (p : m.Said) (l : List ℕ) (e : m.read b ≡ got p l) (same : Bool) (base : ℕ) (zs stretch : List ℕ)
        (base-is : base ≡ m.edition p) (config_same : own ≡ 0 → same ≡ m.same c p)
        (zones_same : own ≡ 0 → table_held zs t ≡ same_list same_zone (table_of (stored_table t)) (m.zones p))
        (requests_same : requests_in stretch ≡ requests_from (m.asked p)) (stood : own ≡ 0 → Stood m c t) where
      abbrev number : ℕ
      number = base_number same t ed base zs

      abbrev done : Run
      done = ran_by m c (table_of (stored_table t)) (m.asked p)

      module _ (z : own ≡ 0) where
        judged_is : judged_by m s p done ≡ cond (eqb number 0) (ended done) (plain number 0)
        unfolding base_rules base_number
        judged_is =
            (λ i. first_rule (plain 23 0 when not (sym (config_same z) i)
            ∷ plain 24 0 when not (eqb ed (sym base-is i)) ∷ plain 25 0 when eqb ed last_edition
            ∷ plain 26 0 when not (sym (zones_same z) i) ∷ []) (ended done))
            ∙ judged_by_law _ _ _ _ (ended done)

        settles : (x : Bool) → eqb number 0 ≡ x
            → apply_by m s b ≡ settled m.limits s (cond x (ended done) (plain number 0)) done
        unfolding apply_read_by
        settles x h =
            sound_reads (got p l) e z
            ∙ ap (λ (o : Outcome). settled m.limits s o done)
            (judged_is ∙ ap (λ (y : Bool). cond y (ended done) (plain number 0)) h)

        other_base : (number ≡ 0 → ⊥) → apply_by m s b ≡ record { outcome = plain number 0; state = s }
        unfolding settled
        other_base ne =
            settles false (ne_eqb _ 0 ne)
            ∙ ap (λ (x : Bool). cond x (record { outcome = plain number 0; state = moved m.limits s done }) (record
            { outcome = plain number 0; state = s })) (ne_eqb _ 0 ne)

        moved_table : number ≡ 0 → (ended done).number ≡ 0 → done.table ≡ table_of (apply_by m s b).state.table
        unfolding settled moved
        moved_table n q =
            sym (ap (λ (a : AppliedOf m.Config). table_of a.state.table) (settles true (eq-eqb _ 0 n))
            ∙ ap (λ (x : Bool). table_of (ends x).state.table) (eq-eqb _ 0 q)
            ∙ (stood z).back (requests_from (m.asked p)))
          where
            ends : Bool → AppliedOf m.Config
            ends x =
                cond x (record { outcome = ended done; state = moved m.limits s done }) (record
                { outcome = ended done; state = s })

        ran_sound : number ≡ 0 → (v : Outcome) (u : List ℕ) → RanOrUndoneBy m c t stretch v u → AppliedBy m c t ed b v u
        ran_sound n v u r = record {
          answer =
              answered
              ∙ sym (outcome_by m.limits s (ended done) done)
              ∙ sym (ap (λ (a : AppliedOf m.Config). a.outcome) (settles true (eq-eqb _ 0 n)));
          table =
              r.table
              ∙ ap (λ q. cond (eqb v.number 0) (words_of (m.run c (table_of (stored_table t)) q).table) t) requests_same
              ∙ by (eqb v.number 0) refl;
        }
          where
            answered : v ≡ ended done
            answered =
                r.answer
                ∙ ap (λ (x : Bool). cond x (ended (done_by m c t stretch)) (plain own 0)) (eq-eqb _ 0 z)
                ∙ ap (λ q. ended (m.run c (table_of (stored_table t)) q)) requests_same

            by : (x : Bool) → eqb v.number 0 ≡ x
                → cond x (words_of done.table) t ≡ cond x (words_of (table_of (apply_by m s b).state.table)) t
            by true h =
                ap words_of (moved_table n (sym (ap (λ (o : Outcome). o.number) answered) ∙ eqb-true _ _ h))
            by false h = refl

      ran_unsound : (own ≡ 0 → ⊥) → (v : Outcome) (u : List ℕ) → RanOrUndoneBy m c t stretch v u
          → AppliedBy m c t ed b v u
      ran_unsound ne v u r =
          let answered : v ≡ plain own 0 =
          r.answer ∙ ap (λ (x : Bool). cond x (ended (done_by m c t stretch)) (plain own 0)) (ne_eqb _ 0 ne) in
          let words : u ≡ t =
          r.table
          ∙ ap (λ (o : Outcome). cond (eqb o.number 0) (words_of (done_by m c t stretch).table) t) answered
          ∙ ap (λ (x : Bool). cond x (words_of (done_by m c t stretch).table) t) (ne_eqb _ 0 ne) in
          subst (AppliedBy m c t ed b v) (sym words)
          (subst (λ (o : Outcome). AppliedBy m c t ed b o t) (sym answered) (stays (plain own 0) ne (unsound_by m s b ne)))

      pub found_by : (v : Outcome) (u : List ℕ) → FoundBy m c t number stretch v u → AppliedBy m c t ed b v u
      found_by v u f = by (eqb number 0) refl (eqb own 0) refl
        where
          by : (x : Bool) → eqb number 0 ≡ x → (y : Bool) → eqb own 0 ≡ y → AppliedBy m c t ed b v u
          by true n true z = ran_sound (eqb-true _ _ z) (eqb-true _ _ n) v u (f.base_same (eqb-true _ _ n))
          by true n false z = ran_unsound (eqb-false _ _ z) v u (f.base_same (eqb-true _ _ n))
          by false n y z =
              let (h, w) = f.base_other (eqb-false _ _ n) in
              subst (AppliedBy m c t ed b v) (sym w)
              (away_in number 0 v (eqb-false _ _ n) h (λ q. other_base q (eqb-false _ _ n)))

    -- ---- the plan's own base
    pub alone_by : (p : m.Said) (l : List ℕ) → m.read b ≡ got p l → s ≡ base_by m p → (v : Outcome) (u : List ℕ)
        → AppliedBy m c t ed b v u → v ≡ answer_alone_by m b
    unfolding answer_alone_by answer_read_by
    alone_by p l e base v u h =
        h.answer ∙ ap (λ (x : Kept m). (apply_by m x b).outcome) base ∙ sym (ap (answer_read_by m b) e)

  -- ---- what is accepted is below the last edition and then at the next
  module _ (s : Kept m) (b : List ℕ) where
    abbrev either : Bool → Out m.Said → AppliedOf m.Config
    either x o = cond x (apply_read_by m s b o) (record { outcome = plain (m.standing s.config s.table) 0; state = s })

    module _ (refuses : (b : List ℕ) (k : ℕ) (l : List ℕ) → m.read b ≡ bad k l → k ≡ 0 → ⊥) where
      abbrev Good : AppliedOf m.Config → Type 0
      Good a = a.outcome.number ≡ 0 → (s.edition ≡ last_edition → ⊥) × (a.state.edition ≡ s.edition + 1)

      settled_good : (p : m.Said) (r : Run) → Good (settled m.limits s (judged_by m s p r) r)
      unfolding settled moved
      settled_good p r = by (eqb (judged_by m s p r).number 0) refl
        where
          by : (x : Bool) → eqb (judged_by m s p r).number 0 ≡ x
              → Good (cond x (record { outcome = judged_by m s p r; state = moved m.limits s r }) (record
              { outcome = judged_by m s p r; state = s }))
          by true h z = ((accepted_base s (m.same s.config p) (m.edition p) (m.zones p) r z).1, refl)
          by false h z = absurd (eqb-false _ _ h z)

      pub accepted_by : Good (apply_by m s b)
      unfolding apply_by apply_read_by
      accepted_by = by (eqb (m.standing s.config s.table) 0) refl (m.read b) refl
        where
          by : (x : Bool) → eqb (m.standing s.config s.table) 0 ≡ x → (o : Out m.Said) → m.read b ≡ o
              → Good (either x o)
          by false h o e = λ z. absurd (eqb-false _ _ h z)
          by true h (bad k l) e = λ z. absurd (refuses b k l e z)
          by true h (got p l) e = settled_good p (ran_by m s.config (table_of s.table) (m.asked p))

  -- the edition that is lent beside the words
  module _ (c : m.Config) (t : List ℕ) (e : ℕ) (b : List ℕ) (v : Outcome) (u : List ℕ)
      (done : AppliedBy m c t e b v u) where
    number_is : (apply_by m (kept_in m c t e) b).outcome.number ≡ v.number
    number_is = sym (ap (λ (o : Outcome). o.number) done.answer)

    pub edition_kept : (v.number ≡ 0 → ⊥) → e ≡ (apply_by m (kept_in m c t e) b).state.edition
    edition_kept ne =
        sym (ap (λ (k : Kept m). k.edition) (refused_by m (kept_in m c t e) b (λ z. ne (sym number_is ∙ z))))

    module _ (refuses : (b : List ℕ) (k : ℕ) (l : List ℕ) → m.read b ≡ bad k l → k ≡ 0 → ⊥) (z : v.number ≡ 0) where
      pub edition_raised : e + 1 ≡ (apply_by m (kept_in m c t e) b).state.edition
      edition_raised = sym (accepted_by (kept_in m c t e) b refuses (number_is ∙ z)).1

      pub edition_next : e < 2 ^ 32 → e + 1 < 2 ^ 32
      edition_next l = below e l (accepted_by (kept_in m c t e) b refuses (number_is ∙ z)).0
        where
          below : (n : ℕ) → n < 2 ^ 32 → (n ≡ last_edition → ⊥) → n + 1 < 2 ^ 32
          below n l ne = omega (arith, ne)
