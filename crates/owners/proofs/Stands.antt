-- 1 and 2: where the owners fit and every zone holds what it may, they are as the first machine has them; else the
-- configuration or, if that is sound, the table is at fault.
use Prim.Native.Nat.{ℕ}
use native.Mathlib.Omega.{arith}
use mathlib.Core.Bool.{Bool, true, false, not, ◌&&◌, true≢false}
use mathlib.Core.List.{List, [], ◌∷◌}
use mathlib.Core.Path.{◌≡◌, refl, sym, ap, ap₂, ◌∙◌}
use borrow.Author.Tests.{ne_eqb}
use lib.Dec.{eqb}
use Rattle.std.specs.Prelude.{Result, Ok, Err, is_ok}
use Rattle.lists.specs.First.{all}
use Rattle.lists.specs.Rules.{◌when◌, first_rule, Rule}
use Rattle.lists.specs.Tests.{all_of}
use Rattle.lists.proofs.Every.{all_from}
use Rattle.lists.proofs.Rules.{rule_hit, rule_skip}
use Rattle.lists.proofs.Tests.{false_of, same_test, parts, whole}
use Rattle.rules.specs.Configuration.{check, is_sound, Configuration}
use Rattle.rules.specs.Limits.{limits}
use Rattle.rules.specs.Owners.{holds_own, owned_sound, owned_check_table, owned_check, is_owned_sound, owned_of}
use Rattle.rules.specs.Owners.{owned_standing_rules, owned_standing, Owned}
use Rattle.rules.specs.Requests.{standing_rules, standing}
use Rattle.rules.specs.Tables.{sound_set, sound_zone, sound, tidy, check_table, table_of, Zone}
use Rattle.rules.specs.Numbers.{number, code}
use Rattle.rules.specs.declared.Checked.{Checked}
use Rattle.rules.specs.declared.Checked.TheVariants.{Sound}
use Rattle.rules.specs.declared.refusal.Refusal.{Refusal}
use Rattle.rules.proofs.Configuration.{sound_is, fault_unsound}
use Rattle.zones.specs.View.{stored_config, stored_table, config_in, zones_in}
use Rattle.zones.proofs.Ruling.{number_some}
use Rattle.zones.proofs.Stored.{passed_same}
use Rattle.owners.specs.Fitting.{in_range, owners_fit, own_set, own_zone, own_table, Told}
use Rattle.owners.specs.View.{stored_owned, owned_in}
use Rattle.owners.proofs.Checking.{fit_plain, unfit_fault}
use Rattle.owners.proofs.Fitting.{none_fits, fit_range}

-- ---- a zone holds no other's region exactly where it holds what it may, within limits
own_zone_law : (o : Owned) (z : Zone) → own_zone o z ≡ true → holds_own o z ≡ true
unfolding own_zone own_set holds_own
own_zone_law o z e =
    let p = parts _ e in
    whole _ ((parts _ p.0).1.0, ((parts _ p.1.0).1.0, tt))

zone_own : (c : Configuration) (o : Owned) (z : Zone) → sound_zone limits c z ≡ true → holds_own o z ≡ true
    → own_zone o z ≡ true
unfolding own_zone own_set holds_own sound_zone sound_set
zone_own c o z s e =
    let p = parts _ e in
    let q = parts _ s in
    whole _ (
      whole _ ((parts _ q.1.0).0, (p.0, tt)),
      (whole _ ((parts _ q.1.1.0).0, (p.1.0, tt)), tt),
    )

own_table_law : (o : Owned) (t : List Zone) → own_table o t ≡ true → all (holds_own o) t ≡ true
unfolding own_table
own_table_law o t e =
    let p = parts _ e in
    all_from (own_zone o) (own_zone o) (holds_own o) (λ z a b. own_zone_law o z a) t p.1.0 p.1.0

table_own : (c : Configuration) (o : Owned) (t : List Zone) → sound limits c t ≡ true → all (holds_own o) t ≡ true
    → own_table o t ≡ true
unfolding own_table sound
table_own c o t s e =
    let p = parts _ s in
    whole _ (p.0, (all_from (sound_zone limits c) (holds_own o) (own_zone o) (zone_own c o) t p.1.0 e, tt))

module _ (c o t : List ℕ) where
  -- ---- owners that fit
  module _ (fit : owners_fit c o ≡ true) where
    sound_same : is_owned_sound (owned_check limits (stored_owned c o)) ≡ is_sound (check limits (stored_config c))
    unfolding is_owned_sound
    sound_same = ap is_owned_sound (fit_plain c o fit)

    -- what is sound here is sound there
    first_passed : owned_check_table limits (stored_owned c o) (stored_table t) ≡ true
        → check_table limits (stored_config c) (stored_table t) ≡ true
    unfolding owned_check_table check_table owned_sound owned_of
    first_passed e =
        let p = parts _ e in
        whole _ (sym sound_same ∙ p.0, (p.1.0, ((parts _ p.1.1.0).0, tt)))

    all_own : owned_check_table limits (stored_owned c o) (stored_table t) ≡ true
        → own_table (owned_in c o) (zones_in t) ≡ true
    unfolding owned_check_table owned_sound owned_of
    all_own e =
        let p = parts _ (parts _ e).1.1.0 in
        ap (own_table (owned_in c o)) (passed_same (stored_config c) t (first_passed e))
        ∙ table_own (config_in c) (owned_in c o) (table_of (stored_table t)) p.0 p.1.0

    owned_passed : own_table (owned_in c o) (zones_in t) ≡ true → check_table limits (stored_config c) (stored_table t) ≡ true
        → owned_check_table limits (stored_owned c o) (stored_table t) ≡ true
    unfolding owned_check_table check_table owned_sound owned_of
    owned_passed own e =
        let p = parts _ e in
        let q : all (holds_own (owned_in c o)) (table_of (stored_table t)) ≡ true =
        ap (all (holds_own (owned_in c o))) (sym (passed_same (stored_config c) t e))
        ∙ own_table_law (owned_in c o) (zones_in t) own in
        whole _ (sound_same ∙ p.0, (p.1.0, (whole _ (p.1.1.0, (q, tt)), tt)))

    table_same : own_table (owned_in c o) (zones_in t) ≡ true
        → owned_check_table limits (stored_owned c o) (stored_table t) ≡ check_table limits (stored_config c) (stored_table t)
    table_same own = same_test _ _ first_passed (owned_passed own)

  -- ---- what each return tells
  unsound_first : is_owned_sound (owned_check limits (stored_owned c o)) ≡ false
      → 1 ≡ owned_standing limits (stored_owned c o) (stored_table t)
  unfolding owned_standing_rules
  unsound_first e = rule_hit _ _ _ _ _ (ap not e) refl

  told_one : is_owned_sound (owned_check limits (stored_owned c o)) ≡ false → Told c o t 1
  told_one e = record {
    number = λ ne. unsound_first e;
    range = λ z. absurd (omega arith);
    rules = λ z. absurd (omega arith);
  }

  pub told_early : in_range c ≡ false → Told c o t 1
  told_early h = told_one (unfit_fault c o (none_fits c o h))

  -- x and y are the configuration and the owners under other names
  module _ (x y : List ℕ) (ex : x ≡ c) (ey : y ≡ o) where
    named_fit : owners_fit x y ≡ owners_fit c o
    named_fit = ap₂ owners_fit ex ey

    pub told_unfit : (b : Bool) → b ≡ owners_fit x y → b ≡ false → Told c o t 1
    told_unfit b e f = told_one (unfit_fault c o (sym (e ∙ named_fit) ∙ f))

    module _ (b : Bool) (eb : b ≡ owners_fit x y) (fb : b ≡ true) where
      fit : owners_fit c o ≡ true
      fit = sym (eb ∙ named_fit) ∙ fb

      module _ (h : Bool) (en : h ≡ own_table (owned_in x y) (zones_in t)) where
        eh : h ≡ own_table (owned_in c o) (zones_in t)
        eh = en ∙ ap₂ (λ (a b : List ℕ). own_table (owned_in a b) (zones_in t)) ex ey

        pub told_own : h ≡ true → Told c o t 0
        unfolding owned_standing_rules standing_rules
        told_own g = record {
          number = λ ne. absurd (ne refl);
          range = λ z. fit_range c o fit;
          rules = λ z. ap₂ (λ (x y : Bool). 1 when not x ∷ 2 when not y ∷ []) (sound_same fit)
              (table_same fit (sym eh ∙ g));
        }

        module _ (g : h ≡ false) (f : Checked) (ef : f ≡ check limits (stored_config c)) where
          pub told_fault : (f ≡ Sound → ⊥) → Told c o t 1
          told_fault bad = told_one (sound_same fit ∙ ap is_sound (sym ef) ∙ fault_unsound f bad)

          pub told_foreign : f ≡ Sound → Told c o t 2
          unfolding owned_standing_rules
          told_foreign k = record {
            number = λ ne.
                rule_skip _ _ _ _ _ (ap not (sound_same fit ∙ ap is_sound (sym ef ∙ k) ∙ sound_is))
                (rule_hit _ _ _ _ _ (ap not (false_of _ (λ e. true≢false (sym (all_own fit e) ∙ sym eh ∙ g)))) refl);
            range = λ z. absurd (omega arith);
            rules = λ z. absurd (omega arith);
          }

  -- ---- the number, and the check
  pub own_stands : (r : Refusal) → Told c o t (number r)
      → number r ≡ owned_standing limits (stored_owned c o) (stored_table t)
  own_stands r told = told.number (number_some r)

  pub plain_stands : Told c o t 0 → (m : ℕ) → m ≡ standing limits (stored_config c) (stored_table t)
      → m ≡ owned_standing limits (stored_owned c o) (stored_table t)
  plain_stands told m e = e ∙ ap (λ (rs : List (Rule ℕ)). first_rule rs 0) (sym (told.rules refl))

  pub stands_told : (r : Result (Unit {0}) Refusal) → code r ≡ owned_standing limits (stored_owned c o) (stored_table t)
      → is_ok r ≡ owned_check_table limits (stored_owned c o) (stored_table t)
  unfolding owned_standing_rules owned_check_table all_of first_rule
  stands_told r e =
      ok_none r
      ∙ ap (λ (m : ℕ). eqb m 0) e
      ∙ by (is_owned_sound (owned_check limits (stored_owned c o)))
      (tidy (stored_table t) && (owned_sound limits (owned_in c o) (table_of (stored_table t)) && true))
    where
      ok_none : (x : Result (Unit {0}) Refusal) → is_ok x ≡ eqb (code x) 0
      ok_none (Ok u) = refl
      ok_none (Err w) = sym (ne_eqb (number w) 0 (number_some w))

      by : (x y : Bool) → eqb (first_rule (1 when not x ∷ 2 when not (x && y) ∷ []) 0) 0 ≡ (x && y)
      by true true = refl
      by true false = refl
      by false y = refl
