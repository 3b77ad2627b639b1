-- The plan with owners: its laws come from those of its sections; a sound state's plan can be written; and what is
-- sound, stored, is answered neither 1 nor 2.
use Prim.Native.Nat.{ℕ, ◌≤◌, ◌<◌}
use native.Mathlib.Decide.{ℕ_discrete}
use native.Mathlib.Omega.{arith}
use mathlib.Core.Bool.{true}
use mathlib.Core.List.{List, []}
use mathlib.Core.Logic.{◌⊎◌, inl, inr, ◌↔◌}
use mathlib.Core.Path.{◌≡◌, refl, sym, ap, ◌∙◌}
use borrow.Author.Tests.{eqb-true, eq-eqb, not-false}
use lib.Dec.{eqb}
use lib.ListN.{length, get_or}
use Rattle.lists.specs.Bytes.{Bytes}
use Rattle.lists.specs.First.{all}
use Rattle.lists.proofs.Rules.{test_of, quiet_answer, above_zero, silent_number}
use Rattle.lists.proofs.Tests.{not_holds, parts, whole}
use Rattle.formats.specs.Formats.{got, bad, ListFits, AsManyFit}
use Rattle.formats.proofs.Formats.{Told, Lawful, lawful_number, lawful_as, lawful_as_many, file_back}
use Rattle.formats.proofs.Formats.{file_tight, file_refuses, file_ends}
use Rattle.rules.specs.Applying.{last_edition, store, same_list, plan_at}
use Rattle.rules.specs.Limits.{highest_id, Limits, Sayable}
use Rattle.rules.specs.OwnedPlan.{owned_regions, owned_to, owned_from, owned_format, read_owned, encode_owned}
use Rattle.rules.specs.OwnedPlan.{same_owned}
use Rattle.rules.specs.OwnedPlan.{OwnedPlanFits, OwnedPlan, GivesOwned}
use Rattle.rules.specs.Owners.{gic_owner, owned_of, owned_check, is_owned_sound, owned_sound, owned_check_table}
use Rattle.rules.specs.Owners.{owned_standing_rules, owned_standing, Owned, StoredOwned}
use Rattle.rules.specs.Plan.{sections_with}
use Rattle.rules.specs.Plan.{short, regions_section, Short}
use Rattle.rules.specs.Plan.{RegionFits}
use Rattle.rules.specs.Plan.{AskedFits, Asked}
use Rattle.rules.specs.Tables.{table_of, Zone, StoredTable}
use Rattle.rules.specs.declared.Checked.TheVariants.{Sound}
use Rattle.rules.specs.declared.OwnedChecked.TheVariants.{Plain}
use Rattle.rules.specs.declared.Region.{Region}
use Rattle.rules.proofs.Applying.{list_same, same_list_law, same_config_law}
use Rattle.rules.proofs.Keeps.{SoundTable}
use Rattle.rules.proofs.OwnedCheck.{owned_sound_is, owned_sound_answer, SoundOwned}
use Rattle.rules.proofs.Owners.{owned_parts_law, parts_owned, OwnedTable}
use Rattle.rules.proofs.Plan.{lawful_regions, lawful_sections}
use Rattle.rules.proofs.Planner.{all_places, regions_fit, zones_fit, marks_fit}
use Rattle.rules.proofs.Stored.{table_back, store_tidy}

-- ---- the format
module _ (l : Limits) where
  abbrev Owners : List Region × List ℕ → Type 0
  Owners = AsManyFit 4 (ListFits 4 1 l.regions RegionFits) Short

  abbrev Requests : List Asked → Type 0
  Requests = ListFits 4 0 l.requests AskedFits

  lawful_owned_regions : Lawful (owned_regions l) Owners
  lawful_owned_regions =
      lawful_as_many 4 (regions_section l) (ListFits 4 1 l.regions RegionFits) (lawful_regions l) short Short
      (lawful_number 4)

  pub lawful_owned : Lawful (owned_format l) (OwnedPlanFits l)
  lawful_owned =
      lawful_as (sections_with l (owned_regions l)) _ (lawful_sections l (owned_regions l) Owners lawful_owned_regions)
      owned_to owned_from (λ p. refl) (λ t h. refl)

  pub read_encoded_owned : (p : OwnedPlan) → OwnedPlanFits l p → read_owned l (encode_owned l p) ≡ got p []
  unfolding read_owned encode_owned
  read_encoded_owned p h = file_back (owned_format l) (OwnedPlanFits l) lawful_owned p h

  pub no_slack_owned : (b : List ℕ) (p : OwnedPlan) (t : List ℕ) → Bytes b → read_owned l b ≡ got p t
      → (b ≡ encode_owned l p) × OwnedPlanFits l p
  unfolding read_owned encode_owned
  no_slack_owned b p t h e = file_tight (owned_format l) (OwnedPlanFits l) lawful_owned b p t h e

  pub owned_ends : (b : List ℕ) (p : OwnedPlan) (t : List ℕ) → read_owned l b ≡ got p t → t ≡ []
  unfolding read_owned
  owned_ends b p t e = file_ends (owned_format l) b p t e

  -- no refusal has number 0
  pub owned_refuses : (b : List ℕ) (k : ℕ) (t : List ℕ) → read_owned l b ≡ bad k t → k ≡ 0 → ⊥
  unfolding read_owned
  owned_refuses b k t e z = by (file_refuses (owned_format l) (OwnedPlanFits l) lawful_owned b k t e)
    where
      by : Told k ⊎ (k ≡ 22) → ⊥
      by (inl (inl h)) = omega arith
      by (inl (inr h)) = omega arith
      by (inr h) = omega arith

  -- ---- what is sound fits
  owner_fits : (o : Owned) → SoundOwned l o → (i : ℕ) → i < length o.owners → Short (get_or o.owners i gic_owner)
  owner_fits o ok i h =
      let n : length o.owners ≡ length o.config.regions = ok.many in
      elim (ℕ_discrete i o.config.gic) [
        | yes q ↦
            (let g : get_or o.owners i gic_owner
            ≡ gic_owner = ap (λ (j : ℕ). get_or o.owners j gic_owner) q ∙ ok.gic in
            omega arith)
        | no ne ↦ (let g : get_or o.owners i gic_owner ≤ highest_id = ok.ids i (omega arith) ne in omega arith)
      ]

  pub owned_fits : Sayable l → (o : Owned) → SoundOwned l o → (e : ℕ) → e < last_edition → (t : List Zone)
      → SoundTable l o.config t → (q : List Asked) → Requests q
      → OwnedPlanFits l (record { plan = plan_at o.config e t q; owners = o.owners })
  owned_fits say o ok e low t tab q fits =
      let n : length o.owners ≡ length o.config.regions = ok.many in
      let r = regions_fit l say o.config ok.config in (
        marks_fit l say o.config ok.config e low,
        (
          (
            r,
            record {
              said = omega (arith, r.said);
              least = omega arith;
              most = omega arith;
              fits = (refl, all_places Short o.owners gic_owner (owner_fits o ok));
            },
          ),
          (zones_fit l say o.config ok.config t tab, fits),
        ),
      )

-- ---- the same base
pub same_owned_law : (o : Owned) (p : OwnedPlan) → (same_owned o p ≡ true) ↔ GivesOwned o p
unfolding same_owned
same_owned_law o p = (
  λ e. (let h = parts _ e in
      record { config = (same_config_law o.config p.plan).0 h.0; owners = same_list_law eqb eqb-true _ _ h.1.0 }),
  λ g. whole _ (
    (same_config_law o.config p.plan).1 g.config,
    (
      ap (λ (l : List ℕ). same_list eqb l p.owners) g.owners ∙ list_same eqb (λ i. eq-eqb i i refl) p.owners,
      tt,
    ),
  ),
)

-- ---- standing: neither 1 nor 2
module _ (lim : Limits) where
  pub owned_stands_well : (c : StoredOwned) (t : StoredTable) → owned_standing lim c t ≡ 0
      → (owned_check lim c ≡ Plain Sound) × OwnedTable lim (owned_of c) (table_of t)
  unfolding owned_standing_rules above_zero all owned_check_table test_of
  owned_stands_well c t e =
      let h = silent_number (owned_standing_rules lim c t) refl e in (
        owned_sound_answer _ (not-false _ (h 1)),
        owned_parts_law lim (owned_of c) (table_of t) (parts _ (not-false _ (h 2))).1.1.0,
      )

  pub owned_stored_stands : (c : StoredOwned) (t : List Zone) → owned_check lim c ≡ Plain Sound
      → OwnedTable lim (owned_of c) t → owned_standing lim c (store lim t) ≡ 0
  unfolding owned_standing_rules owned_check_table
  owned_stored_stands c t e ok =
      let s : is_owned_sound (owned_check lim c) ≡ true = ap is_owned_sound e ∙ owned_sound_is in
      let back : owned_sound lim (owned_of c) (table_of (store lim t)) ≡ true =
      ap (owned_sound lim (owned_of c)) (table_back lim (owned_of c).config t ok.table)
      ∙ parts_owned lim (owned_of c) t ok in
      sym (quiet_answer (owned_standing_rules lim c (store lim t)) 0 (
        not_holds _ s,
        (not_holds _ (whole _ (s, (store_tidy lim (owned_of c).config t ok.table, (back, tt)))), tt),
      ))
