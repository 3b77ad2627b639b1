-- The length of a plan's bytes with owners: what its contents say, and between the least and the longest.
use Prim.Native.Nat.{ℕ, ◌+◌, ◌*◌, ◌^◌, ◌≤◌, ◌<◌}
use native.Mathlib.Omega.{arith}
use mathlib.Core.List.{List, ◌++◌}
use mathlib.Core.Path.{◌≡◌, refl, ◌∙◌}
use lib.ListN.{length, length-replicate}
use Rattle.lists.specs.Bytes.{Bytes}
use Rattle.formats.specs.Formats.{got, bad, listed}
use Rattle.formats.proofs.Formats.{listed_got}
use Rattle.formats.proofs.Most.{most_number, most_with, most_as, most_listed, most_wider, file_past, Most}
use Rattle.formats.proofs.Sizes.{sized_with, all_replicate, Sized}
use Rattle.rules.specs.Fields.{short_size, region_size}
use Rattle.rules.specs.Limits.{Limits, Sayable}
use Rattle.rules.specs.OwnedPlan.{owned_regions, owned_to, owned_from, owned_format, read_owned, encode_owned}
use Rattle.rules.specs.OwnedPlan.{OwnedPlanFits, OwnedPlan}
use Rattle.rules.specs.OwnedSizes.{owners_size, owned_plan_size, longest_owned_size, least_owned_size, OwnedSizesShown}
use Rattle.rules.specs.OwnedSizes.{owned_with}
use Rattle.rules.specs.Plan.{sections_with}
use Rattle.rules.specs.Plan.{short, region_field, regions_section}
use Rattle.rules.specs.Plan.{Short}
use Rattle.rules.specs.Regions.{no_region}
use Rattle.rules.specs.Sizes.{marks_size, regions_size, requests_size, sets_size, plan_size}
use Rattle.rules.specs.Sizes.{plan_with}
use Rattle.rules.proofs.OwnedPlan.{no_slack_owned}
use Rattle.rules.proofs.Sizes.{sized_sections, most_sections}
use Rattle.rules.proofs.Sizes.{sized_short, sized_region, sized_list}
use Rattle.rules.proofs.Sizes.{of_regions, encoded_length, least_length, most_length}
use Rattle.rules.proofs.Sizes.{counts_length, counts_fit, region_field_most}

module _ (l : Limits) where
  sized_owned_regions : Sized (owned_regions l) (λ p. regions_size (length p.0) + owners_size (length p.1))
  sized_owned_regions =
      sized_with (regions_section l) (λ xs. listed 4 (length xs) (length xs) short) (of_regions l)
      (λ xs ns. owners_size (length ns)) (sized_list 1 l.regions region_size region_field sized_region)
      (λ xs. sized_list (length xs) (length xs) short_size short sized_short)

  -- what is written of a plan, whether it fits or not, has the size that its contents give
  pub owned_length : (p : OwnedPlan) → length (encode_owned l p) ≡ owned_plan_size l p
  unfolding encode_owned owned_plan_size plan_size
  owned_length p =
      sized_sections l (owned_regions l) (λ t. regions_size (length t.0) + owners_size (length t.1))
      sized_owned_regions (owned_from p)
      ∙ omega arith

  -- ---- between the least and the longest
  pub least_owned : (p : OwnedPlan) → OwnedPlanFits l p → least_owned_size l ≤ length (encode_owned l p)
  unfolding owned_plan_size
  least_owned p (m, ((r, o), (z, q))) =
      omega (
        arith,
        owned_length p,
        least_length l p.plan (m, (r, (z, q))),
        encoded_length l p.plan,
      )

  pub most_owned : (p : OwnedPlan) → OwnedPlanFits l p → length (encode_owned l p) ≤ longest_owned_size l
  unfolding owned_plan_size
  most_owned p (m, ((r, o), (z, q))) =
      omega (
        arith,
        owned_length p,
        most_length l p.plan (m, (r, (z, q))),
        encoded_length l p.plan,
      )

-- whatever reads whole lies between
pub whole_owned : (l : Limits) (b : List ℕ) (p : OwnedPlan) (t : List ℕ) → Bytes b → read_owned l b ≡ got p t
    → (least_owned_size l ≤ length b) × (length b ≤ longest_owned_size l)
whole_owned l b p t h e =
    let (w, f) = no_slack_owned l b p t h e in
    rw w (least_owned l p f, most_owned l p f)

-- ---- a plan with so many of each
pub owned_counts_length : (l : Limits) (r z c i q : ℕ)
    → length (encode_owned l (owned_with r z c i q))
    ≡ (marks_size l + (regions_size r + ((short_size + z * sets_size c i) + requests_size q))) + owners_size r
unfolding owned_plan_size
owned_counts_length l r z c i q =
    omega (
      arith,
      owned_length l (owned_with r z c i q),
      encoded_length l (plan_with r z c i q),
      counts_length l r z c i q,
      length-replicate {A = ℕ} r 0,
    )

pub owned_counts_fit : (l : Limits) → Sayable l → (r z c i q : ℕ) → 1 ≤ r → r ≤ l.regions → z ≤ l.zones
    → c ≤ l.in_set → i ≤ l.in_set → q ≤ l.requests → OwnedPlanFits l (owned_with r z c i q)
owned_counts_fit l say r z c i q one mr mz mc mi mq =
    let (m, (rs, (zs, qs))) = counts_fit l say r z c i q one mr mz mc mi mq in
    let s : l.regions < 256 ^ 4 = say.regions in
    let n = length-replicate r no_region in
    let k = length-replicate {A = ℕ} r 0 in (
      m,
      (
        (
          rs,
          record {
            said = omega arith;
            least = omega arith;
            most = omega arith;
            fits = (refl, all_replicate Short r 0 (omega arith));
          },
        ),
        (zs, qs),
      ),
    )

-- ---- the most that reading takes
module _ (l : Limits) where
  owned_regions_most : Most (owned_regions l) (regions_size l.regions + owners_size l.regions)
  owned_regions_most =
      most_with (regions_section l) (λ xs. listed 4 (length xs) (length xs) short) (regions_size l.regions)
      (owners_size l.regions) (most_listed 4 1 l.regions region_field region_size region_field_most)
      (λ b xs t e. let few : length xs ≤ l.regions =
      (listed_got region_field (λ x. Unit {0}) (λ b x t e. tt) 4 1 l.regions b xs t e).0 in
      most_wider (listed 4 (length xs) (length xs) short) (owners_size (length xs)) (owners_size l.regions) (omega arith)
      (most_listed 4 (length xs) (length xs) short 4 (most_number 4)))

  owned_most : Most (owned_format l) (longest_owned_size l)
  owned_most =
      let regions : ℕ = regions_size l.regions + owners_size l.regions in
      most_wider (owned_format l) _ (longest_owned_size l) (omega arith)
      (most_as (sections_with l (owned_regions l)) owned_to owned_from _
      (most_sections l (owned_regions l) regions owned_regions_most))

  -- more than the longest plan is refused, and by the first of those bytes: what lies behind them changes nothing
  pub owned_past : (u v : List ℕ) → longest_owned_size l < length u
      → (k : ℕ) × (t : List ℕ) × (read_owned l u ≡ bad k t) × (read_owned l (u ++ v) ≡ bad k (t ++ v))
  unfolding read_owned
  owned_past u v h = file_past (owned_format l) (longest_owned_size l) owned_most u v h

-- ---- by computation
pub owned_sizes_shown : OwnedSizesShown
owned_sizes_shown = (refl, refl)
