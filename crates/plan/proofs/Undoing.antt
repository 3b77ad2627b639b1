-- After a refused request the table is read back from the base zones that the plan gives: they are the table's own, so
-- every word is what it was.
use Prim.Native.Nat.{ℕ, ◌-◌, ◌*◌, ◌≤◌}
use native.Mathlib.Omega.{arith}
use mathlib.Core.Bool.{Bool, true, false, cond, not}
use mathlib.Core.List.{List, [], ◌∷◌, flat_map}
use mathlib.Core.Path.{◌≡◌, refl, sym, ap, subst, ◌∙◌}
use borrow.Author.Tests.{eqb-true, eqb-false, ne_eqb}
use lib.Dec.{eqb}
use lib.ListN.{length, drop, replicate}
use Rattle.lists.specs.Rules.{◌when◌, first_rule}
use Rattle.lists.proofs.Words.{counted_words}
use Rattle.formats.specs.Formats.{Out, got, bad}
use Rattle.rules.specs.Applying.{same_list, same_zone, plain, plain_steps}
use Rattle.rules.specs.Configuration.{check, is_sound}
use Rattle.rules.specs.Limits.{most_zones, limits}
use Rattle.rules.specs.Plan.{zones_section}
use Rattle.rules.specs.Requests.{standing_rules, standing}
use Rattle.rules.specs.Run.{requests_in, ended, run_answer, Run}
use Rattle.rules.specs.Steps.{StepRule}
use Rattle.rules.specs.Tables.{table_of, check_table, no_zone, Zone}
use Rattle.rules.specs.declared.Outcome.{Outcome}
use Rattle.rules.proofs.Applying.{same_list_law, same_zone_law}
use Rattle.rules.proofs.Stored.{stands_well, run_from_keeps}
use Rattle.zones.specs.Layout.{zone_words, table_words}
use Rattle.zones.specs.Run.{run_words, RanIn}
use Rattle.zones.specs.View.{stored_config, stored_table, config_in, zones_in}
use Rattle.zones.specs.Words.{words_of_zone, words_of, emptied, Within}
use Rattle.zones.proofs.Focus.{zero_zone_law}
use Rattle.zones.proofs.Free.{emptied_words}
use Rattle.plan.specs.Applying.{RanOrUndone, Refilled}
use Rattle.plan.specs.Held.{held_answer, table_held}
use Rattle.plan.specs.Into.{zones_into, Reads}
use Rattle.plan.specs.Machines.{StandsBy}
use Rattle.plan.specs.Steps.{own_by, done_by, RanBy, RanOrUndoneBy, Stood}
use Rattle.plan.specs.Sections.{table_answer}
use Rattle.std.proofs.Common.{Result, Ok, Err, Some, None, is_some}
use Rattle.plan.specs.declared.refused.Refused.{Refused}
use Rattle.plan.proofs.Agreeing.{zones_agree}
use Rattle.plan.proofs.Answers.{reads_bad, zones_read_law}
use Rattle.plan.proofs.Steps.{stood_by}

-- zones that are held are what the section reads to
held_zones : (s w : List ℕ) → table_held s w ≡ true → (t : List ℕ) × ((zones_section limits).read s ≡ got (zones_in w) t)
unfolding table_held held_answer
held_zones s w h = by ((zones_section limits).read s) refl h
  where
    told : (zs : List Zone) (t : List ℕ) (b : Bool) → same_list same_zone (zones_in w) zs ≡ b
        → (zones_section limits).read s ≡ got zs t → is_some (cond b (Some (length s - length t)) None) ≡ true
        → (t : List ℕ) × ((zones_section limits).read s ≡ got (zones_in w) t)
    told zs t true f e g =
        (t, e ∙ ap (λ (x : List Zone). got x t) (sym (same_list_law same_zone same_zone_law (zones_in w) zs f)))
    told zs t false f e g = absurd (let z : ◌≡◌ {A = ℕ} 0 1 = cc in omega arith)

    by : (o : Out (List Zone)) → (zones_section limits).read s ≡ o
        → is_some (held_answer (length s) (same_list same_zone (zones_in w)) o) ≡ true
        → (t : List ℕ) × ((zones_section limits).read s ≡ got (zones_in w) t)
    by (got zs t) e g = told zs t (same_list same_zone (zones_in w) zs) refl e g
    by (bad k t) e g = absurd (let z : ◌≡◌ {A = ℕ} 0 1 = cc in omega arith)

-- ---- zones read into the words of a table that has lost its own
no_zones_law : words_of [] ≡ replicate table_words 0
unfolding words_of flat_map
no_zones_law =
    counted_words words_of_zone zone_words most_zones no_zone zero_zone_law [] (omega arith)
    ∙ (let h : (most_zones - length {A = Zone} []) * zone_words ≡ most_zones * zone_words = omega arith in
    ap (λ (n : ℕ). 0 ∷ replicate n 0) h)

pub refill_by : (s w x v : List ℕ) (r : Result ℕ Refused) → x ≡ emptied w → Reads s v r (zones_into x s) → Refilled s w v
refill_by s w x v r e q = (r, subst (λ (l : List ℕ). Reads s v r (zones_into l s)) e q)

refilled : (s v : List ℕ) (zs ys : List Zone) (u : List ℕ) → Refilled s (words_of zs) v → Within zs
    → (zones_section limits).read s ≡ got ys u → v ≡ words_of ys
unfolding table_answer
refilled s v zs ys u (r, read) fits e =
    by r (subst (λ (w : List ℕ). Reads s v r (zones_into w s)) (emptied_words zs fits ∙ no_zones_law) read)
  where
    by : (r : Result ℕ Refused) → Reads s v r (zones_into (replicate table_words 0) s) → v ≡ words_of ys
    by (Ok a) q = (zones_read_law s v a q).words ∙ ap (λ (o : Out (List Zone)). (table_answer o).words) e
    by (Err r) q =
        absurd (let (o, l) = reads_bad _ _ s v _ (zones_agree (replicate table_words 0) s) r q in
        let f : bad _ (drop r.at s) ≡ got ys u = sym o ∙ e in
        cc)

-- ---- the numbers of a run: 1 or 2 of a state that does not stand, else 0 or 27
pub own_small : (x y : Bool) → first_rule (1 when x ∷ 2 when y ∷ []) 0 ≤ 2
unfolding first_rule
own_small true y = omega arith
own_small false true = omega arith
own_small false false = omega arith

ended_else : (r : Run) → ((ended r).number ≡ 27 → ⊥) → (ended r).number ≡ 0
unfolding ended
ended_else r ne = by (eqb r.inner 0) ne
  where
    by : (x : Bool) → (◌≡◌ {A = ℕ} (cond x 0 27) 27 → ⊥) → ◌≡◌ {A = ℕ} (cond x 0 27) 0
    by true h = refl
    by false h = absurd (h refl)

-- ---- after a run by any step rule that answered o and left u
module _ (m : StepRule) (c : m.Config) (t b : List ℕ) (o : Outcome) (u : List ℕ) (ran : RanBy m c t b o u)
    (stood : own_by m c t ≡ 0 → Stood m c t) (below : own_by m c t ≡ 27 → ⊥) where
  abbrev own : ℕ
  own = own_by m c t

  abbrev done : Run
  done = done_by m c t b

  answered : (x : Bool) → eqb own 0 ≡ x → o ≡ cond x (ended done) (plain own 0)
  answered x h = ran.answer ∙ ap (λ (x : Bool). cond x (ended done) (plain own 0)) h

  left : (x : Bool) → eqb own 0 ≡ x → u ≡ cond x (words_of done.table) t
  left x h = ran.table ∙ ap (λ (x : Bool). cond x (words_of done.table) t) h

  -- no request was refused: the words are what they must be
  pub run_kept_by : (o.number ≡ 27 → ⊥) → RanOrUndoneBy m c t b o u
  run_kept_by ne = record { answer = ran.answer; table = by (eqb own 0) refl (eqb o.number 0) refl }
    where
      number : (x : Bool) → eqb own 0 ≡ x → o.number ≡ (cond x (ended done) (plain own 0)).number
      number x h = ap (λ (v : Outcome). v.number) (answered x h)

      by : (x : Bool) → eqb own 0 ≡ x → (y : Bool) → eqb o.number 0 ≡ y
          → u ≡ cond (eqb o.number 0) (words_of done.table) t
      by true h true g = left true h ∙ sym (ap (λ (y : Bool). cond y (words_of done.table) t) g)
      by true h false g =
          absurd (eqb-false _ _ g (number true h ∙ ended_else done (λ k. ne (number true h ∙ k))))
      by false h true g = absurd (eqb-false _ _ h (sym (number false h) ∙ eqb-true _ _ g))
      by false h false g = left false h ∙ sym (ap (λ (y : Bool). cond y (words_of done.table) t) g)

  -- a request was refused: the zones that the plan gives are read back
  module _ (h : o.number ≡ 27) (s : List ℕ) (held : table_held s t ≡ true) (l : length t ≡ table_words) where
    stands : eqb own 0 ≡ true
    stands = by (eqb own 0) refl
      where
        by : (x : Bool) → eqb own 0 ≡ x → eqb own 0 ≡ true
        by true g = g
        by false g = absurd (below (sym (ap (λ (v : Outcome). v.number) (answered false g)) ∙ h))

    pub run_undone_by : (v : List ℕ) → Refilled s u v → RanOrUndoneBy m c t b o v
    run_undone_by v f = record {
      answer = ran.answer;
      table =
          back
          ∙ sym (ap (λ (y : Bool). cond y (words_of done.table) t) (ne_eqb o.number 0 (λ z. omega (arith, h, z))));
    }
      where
        ok : Stood m c t
        ok = stood (eqb-true _ _ stands)

        back : v ≡ t
        back =
            let (rest, read) = held_zones s t held in
            refilled s v done.table (zones_in t) rest
            (subst (λ (w : List ℕ). Refilled s w v) (left true stands) f) (ok.within (requests_in b)) read
            ∙ sym (ok.words l)

pub own_below : (m : StepRule) (c : m.Config) (t : List ℕ) → StandsBy m c t → own_by m c t ≡ 27 → ⊥
own_below m c t stands z = omega (arith, stands.own, z)

-- ---- and by document 01's
module _ (c t : List ℕ) where
  pub plainly_stood : standing limits (stored_config c) (stored_table t) ≡ 0
      → Stood (plain_steps limits) (stored_config c) t
  plainly_stood z =
      let (ok, sound) = stands_well limits (stored_config c) (stored_table t) z in
      stood_by (plain_steps limits) refl (stored_config c) t c z
      (λ qs. run_from_keeps limits (config_in c) 0 (table_of (stored_table t)) qs sound)

  pub plainly_stands : StandsBy (plain_steps limits) (stored_config c) t
  unfolding standing_rules
  plainly_stands = record {
    own = own_small (not (is_sound (check limits (stored_config c)))) (not (check_table limits (stored_config c) (stored_table t)));
    stood = plainly_stood;
  }

  pub plainly_ran : (b : List ℕ) (o : Outcome) (u : List ℕ) → RanIn c t b o u
      → RanBy (plain_steps limits) (stored_config c) t b o u
  unfolding run_answer run_words
  plainly_ran b o u ran = record { answer = ran.answer; table = ran.table }

  pub run_undone : (b : List ℕ) (o : Outcome) (u : List ℕ) → RanIn c t b o u → o.number ≡ 27 → (s : List ℕ)
      → table_held s t ≡ true → length t ≡ table_words → (v : List ℕ) → Refilled s u v → RanOrUndone c t b o v
  run_undone b o u ran =
      run_undone_by (plain_steps limits) (stored_config c) t b o u (plainly_ran b o u ran) plainly_stood
      (own_below (plain_steps limits) (stored_config c) t plainly_stands)
