-- Where the check finds a configuration sound its count and GIC position are within limits, so what the readers return
-- is what the configuration says.
use Prim.Native.Nat.{ℕ, ◌≤◌, ◌<◌}
use native.Mathlib.Omega.{arith}
use mathlib.Core.Bool.{true, true≢false}
use mathlib.Core.List.{List}
use mathlib.Core.Path.{◌≡◌, refl, sym, ap, ◌∙◌}
use lib.ListN.{length, get_or}
use Rattle.std.specs.declared.option.Option.{Option}
use Rattle.std.specs.declared.option.Option.TheVariants.{None, Some}
use Rattle.std.specs.Option.{IfSome, is_some}
use Rattle.std.specs.Prelude.{Bool, position}
use Rattle.lists.specs.First.{any}
use Rattle.zones.proofs.Finding.{some_any}
use Rattle.lists.specs.Places.{tab}
use Rattle.lists.proofs.Places.{length_tab, get_d_tab, take_tab}
use Rattle.lists.proofs.Room.{length_room, room_take}
use Rattle.rules.specs.Configuration.{gic_of, config_of}
use Rattle.rules.specs.Limits.{most_regions, limits}
use Rattle.rules.specs.Regions.{region_eq, no_region}
use Rattle.rules.specs.Tables.{configured}
use Rattle.rules.specs.declared.Region.{Region}
use Rattle.rules.proofs.Configuration.{passed, SoundConfiguration}
use Rattle.rules.proofs.Tables.{position_configured}
use Rattle.zones.specs.Layout.{config_count, config_gic, config_records}
use Rattle.zones.specs.Records.{record_at, records_at}
use Rattle.zones.specs.View.{all_records, stored_config, config_in, ConfigPassed}

module _ (w : List ℕ) (ok : ConfigPassed w) where
  recs_long : length (all_records w) ≡ most_regions
  unfolding records_at
  recs_long = length_tab most_regions (record_at w config_records)

  pub config_sound : SoundConfiguration limits (config_in w)
  config_sound = passed limits (stored_config w) recs_long ok

  count_long : length (config_in w).regions ≡ get_or w config_count 0
  unfolding config_of
  count_long = length_room (get_or w config_count 0) no_region (all_records w)

  few : get_or w config_count 0 ≤ most_regions
  few = let m : length (config_in w).regions ≤ most_regions = config_sound.most in omega (arith, count_long)

  pub count_is : (get_or w config_count 0 ≡ length (config_in w).regions) × (get_or w config_count 0 ≤ most_regions)
  count_is = (sym count_long, few)

  gic_same : get_or w config_gic 0 ≡ (config_in w).gic
  unfolding config_of
  gic_same = refl

  pub gic_is : (get_or w config_gic 0 ≡ (config_in w).gic) × (get_or w config_gic 0 < most_regions)
  gic_is = (
    gic_same,
    (let g : (config_in w).gic < length (config_in w).regions = config_sound.gic in
        omega (arith, gic_same, count_long, few)),
  )

  -- its regions are its first records
  pub regions_in : (config_in w).regions ≡ records_at w config_records (length (config_in w).regions)
  unfolding config_of records_at
  regions_in =
      let n : ℕ = get_or w config_count 0 in
      let f : n ≤ most_regions = few in
      room_take n no_region (all_records w) (omega (arith, recs_long))
      ∙ take_tab most_regions n (record_at w config_records) f
      ∙ ap (λ (m : ℕ). tab m (record_at w config_records)) (sym count_long)

  pub position_in : (i : ℕ) → i < length (config_in w).regions → i < most_regions
  position_in i h = let m : length (config_in w).regions ≤ most_regions = config_sound.most in omega arith

  pub region_is : (i : ℕ) (r : Region) → i < length (config_in w).regions → r ≡ record_at w config_records i
      → r ≡ get_or (config_in w).regions i no_region
  unfolding records_at
  region_is i r h e =
      e ∙ sym (ap (λ (rs : List Region). get_or rs i no_region) regions_in
      ∙ get_d_tab (length (config_in w).regions) (record_at w config_records) i no_region h)

  pub gic_region_is : (i : ℕ) (r : Region) → i ≡ (config_in w).gic → r ≡ record_at w config_records i
      → r ≡ gic_of (config_in w)
  unfolding gic_of
  gic_region_is i r e f =
      let g : (config_in w).gic < length (config_in w).regions = config_sound.gic in
      region_is i r (omega arith) f ∙ ap (λ (j : ℕ). get_or (config_in w).regions j no_region) e

  pub configured_is : (r : Region) (n : ℕ) (o : Option ℕ) (b : Bool) → n ≡ length (config_in w).regions
      → o ≡ position (region_eq r) (records_at w config_records n) → b ≡ is_some o → b ≡ configured (config_in w) r
  unfolding configured
  configured_is r n o b en eo eb =
      let same : records_at w config_records n ≡ (config_in w).regions =
      ap (records_at w config_records) en ∙ sym regions_in in
      eb ∙ ap is_some eo ∙ some_any (region_eq r) (records_at w config_records n) ∙ ap (any (region_eq r)) same

  -- a position of it tells that a region is configured
  pub configured_there : (r : Region) (o : Option ℕ)
      → IfSome o (λ k. (k < length (config_in w).regions) × (r ≡ get_or (config_in w).regions k no_region))
      → is_some o ≡ true → true ≡ configured (config_in w) r
  configured_there r None there h = absurd (true≢false (sym h))
  configured_there r (Some k) there h =
      sym (ap (configured (config_in w)) there.1 ∙ position_configured limits (config_in w) config_sound k there.0)
