-- The planner's plans: what is sound fits into a plan's bytes; so does the plan for a sound base, which is for that base.
use Prim.Native.Nat.{ℕ, suc, ◌+◌, ◌^◌, ◌≤◌, ◌<◌}
use native.Mathlib.Omega.{arith}
use mathlib.Core.Bool.{Bool, true}
use mathlib.Core.List.{List, [], ◌∷◌}
use mathlib.Core.Path.{◌≡◌, refl, ap, ◌∙◌}
use borrow.Author.Tests.{leb-true}
use lib.ListN.{length, get_or}
use Rattle.lists.specs.First.{all}
use Rattle.lists.proofs.Tests.{both_true, parts}
use Rattle.formats.specs.Formats.{All, ListFits}
use Rattle.rules.specs.Applying.{last_edition, plan_at, plain_steps, Terminal, ForBaseBy}
use Rattle.rules.specs.Configuration.{Configuration}
use Rattle.rules.specs.Limits.{highest_id, limits, Limits, Sayable}
use Rattle.rules.specs.Fields.{numbers_of}
use Rattle.rules.specs.Planner.{plan_for}
use Rattle.rules.specs.Plan.{RegionFits, AskedFits, MarksFit, SetFits, ZoneFits, PlanFits, Asked}
use Rattle.rules.specs.Regions.{all_rights, well_formed, in_reach, no_region}
use Rattle.rules.specs.Tables.{configured, sound_set, sound_zone, Zone}
use Rattle.rules.specs.declared.Region.{Region}
use Rattle.rules.proofs.Configuration.{SoundConfiguration}
use Rattle.rules.proofs.Keeps.{SoundTable}
use Rattle.rules.proofs.Tables.{configured_at}

-- ---- every element, by its place or by a test
module _ {A : Type 0} (P : A → Type 0) where
  pub all_places : (xs : List A) (d : A) → ((i : ℕ) → i < length xs → P (get_or xs i d)) → All P xs
  all_places [] d f = tt
  all_places (x ∷ xs) d f = (f 0 (omega arith), all_places xs d (λ i h. f (suc i) (omega arith)))

  pub all_passing : (p : A → Bool) → ((x : A) → p x ≡ true → P x) → (xs : List A) → all p xs ≡ true → All P xs
  unfolding all
  all_passing p f [] e = tt
  all_passing p f (x ∷ xs) e = let h = both_true (p x) (all p xs) e in (f x h.0, all_passing p f xs h.1)

module _ (lim : Limits) (say : Sayable lim) where
  -- ---- what is sound fits
  -- v, p and size because they are in reach, rights because they are well formed
  pub sound_fits : (r : Region) → well_formed lim.page r ≡ true → in_reach lim r ≡ true → RegionFits r
  unfolding well_formed in_reach numbers_of
  sound_fits r f e =
      let h = parts _ e in
      let x : r.rights.0 ≤ all_rights = leb-true _ _ (parts _ f).1.1.1.1.1.0 in
      let a : r.v.0 + r.size ≤ lim.guest_reach = leb-true _ _ h.0 in
      let b : r.p.0 + r.size ≤ lim.phys_reach = leb-true _ _ h.1.0 in
      let g : lim.guest_reach < 256 ^ 8 = say.guest_reach in
      let f : lim.phys_reach < 256 ^ 8 = say.phys_reach in
      (omega arith, (omega arith, (omega arith, (omega arith, tt))))

  module _ (c : Configuration) (ok : SoundConfiguration lim c) where
    pub configured_fits : (r : Region) → configured c r ≡ true → RegionFits r
    configured_fits r e =
        let (i, h, q) = configured_at lim c ok r e in
        sound_fits r (ap (well_formed lim.page) q ∙ ok.formed i h) (ap (in_reach lim) q ∙ ok.near i h)

    pub regions_fit : ListFits 4 1 lim.regions RegionFits c.regions
    regions_fit =
        let m : length c.regions ≤ lim.regions = ok.most in
        let s : lim.regions < 256 ^ 4 = say.regions in record {
          said = omega arith;
          least = (let g : c.gic < length c.regions = ok.gic in omega arith);
          most = ok.most;
          fits = (
            refl,
            all_places RegionFits c.regions no_region
                (λ i h. sound_fits (get_or c.regions i no_region) (ok.formed i h) (ok.near i h)),
          );
        }

    set_fits : (xs : List Region) → sound_set lim c xs ≡ true → SetFits lim xs
    unfolding sound_set
    set_fits xs e =
        let h = parts _ e in
        let m : length xs ≤ lim.in_set = leb-true _ _ h.0 in
        let s : lim.in_set < 256 ^ 4 = say.in_set in
        record {
          said = omega arith;
          least = omega arith;
          most = m;
          fits = (refl, all_passing RegionFits (configured c) configured_fits xs h.1.0);
        }

    zone_fits : (z : Zone) → sound_zone lim c z ≡ true → ZoneFits lim z
    unfolding sound_zone
    zone_fits z e =
        let h = parts _ e in
        let i : z.id ≤ highest_id = leb-true _ _ h.0 in
        (omega arith, (set_fits z.cpu h.1.0, set_fits z.iommu h.1.1.0))

    pub zones_fit : (t : List Zone) → SoundTable lim c t → ListFits 4 0 lim.zones (ZoneFits lim) t
    zones_fit t s =
        let m : length t ≤ lim.zones = s.few in
        let n : lim.zones < 256 ^ 4 = say.zones in record {
          said = omega arith;
          least = omega arith;
          most = s.few;
          fits = (refl, all_passing (ZoneFits lim) (sound_zone lim c) zone_fits t s.zones);
        }

  -- ---- the plan for a sound base
  module _ (c : Configuration) (ok : SoundConfiguration lim c) (e : ℕ) (low : e < last_edition) where
    pub marks_fit : MarksFit lim (record { gic = c.gic; edition = e })
    marks_fit =
        let g : c.gic < length c.regions = ok.gic in
        let l : length c.regions ≤ lim.regions = ok.most in
        let m : lim.regions < 256 ^ 4 = say.regions in
        record {
          said = say.mark_count;
          least = omega arith;
          most = omega arith;
          fits = (omega arith, (omega arith, say.last_marks));
        }

    pub plan_fits : (t : List Zone) → SoundTable lim c t → (q : List Asked) → ListFits 4 0 lim.requests AskedFits q
        → PlanFits lim (plan_at c e t q)
    plan_fits t tab q fits = (marks_fit, (regions_fit c ok, (zones_fit c ok t tab, fits)))

-- it is for its base
pub plan_for_base : {l : Limits} (s : Terminal) (q : List Asked) → ForBaseBy (plain_steps l) s (plan_for s q)
plan_for_base s q = record { config = record { regions = refl; gic = refl }; edition = refl; zones = refl }

pub limits_sayable : Sayable limits
limits_sayable = record {
  guest_reach = omega arith;
  phys_reach = omega arith;
  regions = omega arith;
  zones = omega arith;
  in_set = omega arith;
  requests = omega arith;
  mark_count = omega arith;
  last_marks = (omega arith, tt);
}
