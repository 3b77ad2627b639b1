-- Rights: a sound table has none in excess, and requests and plans leave sound tables.
use mathlib.Core.Bool.{true, true≢false}
use mathlib.Core.List.{List}
use mathlib.Core.Path.{◌≡◌, sym, ◌∙◌}
use borrow.Author.Tests.{eq-eqb}
use Rattle.lists.proofs.Tests.{true_both}
use Rattle.rules.specs.Applying.{apply}
use Rattle.rules.specs.Configuration.{config_of, Configuration}
use Rattle.rules.specs.Limits.{Limits}
use Rattle.rules.specs.Regions.{may_write, may_execute}
use Rattle.rules.specs.Requests.{next}
use Rattle.rules.specs.Tables.{table_of, side_of, excessive, sound, Zone}
use Rattle.rules.specs.declared.Side.TheVariants.{Cpu, Iommu}
use Rattle.rules.proofs.Keeps.{sound_parts, parts_sound, next_keeps}
use Rattle.rules.proofs.Stored.{stands_well}
use Rattle.promises.specs.Rights.{RightsHold, RightsAreKept}
use Rattle.promises.proofs.Plans.{apply_keeps_sound}
use Rattle.promises.proofs.Tables.{rights_modest}

module _ (lim : Limits) where
  pub rights_hold : (c : Configuration) (t : List Zone) → sound lim c t ≡ true → RightsHold t
  unfolding excessive side_of
  rights_hold c t ok z r h = (
    (λ m w x. true≢false (sym (true_both (may_write r) (may_execute r) (eq-eqb _ _ w) (eq-eqb _ _ x))
        ∙ rights_modest lim c t ok z Cpu r h m)),
    λ m x. true≢false (sym (eq-eqb _ _ x) ∙ rights_modest lim c t ok z Iommu r h m),
  )

  pub rights_are_kept : RightsAreKept lim
  rights_are_kept = record {
    tables = rights_hold;
    requests =
        λ c t q ok. rights_hold c (next lim c t q)
        (parts_sound lim c (next lim c t q) (next_keeps lim c t q (sound_parts lim c t ok)));
    plans = λ s b st.
        let (c, t) = stands_well lim _ _ (apply_keeps_sound lim s b st) in
        rights_hold (config_of (apply lim s b).state.config) (table_of (apply lim s b).state.table)
        (parts_sound lim _ _ t);
  }
