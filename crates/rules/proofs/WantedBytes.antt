-- The list's requests as a plan holds them: each is made again of its numbers, and all fit into their bytes, since the
-- ids are those of zones and the regions are configured.
use Prim.Native.Nat.{ℕ, ◌*◌, ◌≤◌}
use native.Mathlib.Omega.{arith}
use mathlib.Core.Bool.{Bool, true}
use mathlib.Core.List.{List, [], ◌∷◌, ◌++◌, map, flat_map}
use mathlib.Core.Path.{◌≡◌, refl, ap, ap₂, ◌∙◌}
use borrow.Author.Tests.{leb-true}
use lib.ListN.{length, length-map}
use Rattle.lists.specs.First.{all}
use Rattle.lists.specs.Orders.{keep}
use Rattle.lists.specs.Rules.{first_rule}
use Rattle.lists.specs.Tests.{all_of, each_two}
use Rattle.lists.proofs.Tests.{both_true, parts}
use Rattle.formats.specs.Formats.{All}
use Rattle.formats.proofs.Bounds.{all_image, all_kept, all_joined}
use Rattle.formats.proofs.Sizes.{sized_many, total_same}
use Rattle.rules.specs.Configuration.{Configuration}
use Rattle.rules.specs.Fields.{numbers_of}
use Rattle.rules.specs.Limits.{highest_id, Limits, Sayable}
use Rattle.rules.specs.Plan.{requests_from, asked_field, AskedFits}
use Rattle.rules.specs.Regions.{region_eq}
use Rattle.rules.specs.Requests.{add_zone, drop_zone}
use Rattle.rules.specs.Run.{make_kind, make_request, request_size}
use Rattle.rules.specs.Tables.{side_of, configured, sound_set, sound_zone, Zone}
use Rattle.rules.specs.Wanted.{holding, held_on, holdings, ids_of, lacks, absent, take_out, put_in, requests_for}
use Rattle.rules.specs.Wanted.{kind_number, kind_region, asked_as, records_of, Holding}
use Rattle.rules.specs.declared.Kind.{Kind}
use Rattle.rules.specs.declared.Kind.TheVariants.{AddZone, RemoveZone, Insert, Remove, NoRequest}
use Rattle.rules.specs.declared.Region.{Region}
use Rattle.rules.specs.declared.Request.{Request}
use Rattle.rules.specs.declared.Side.{Side}
use Rattle.rules.specs.declared.Side.TheVariants.{Cpu, Iommu}
use Rattle.rules.proofs.Configuration.{SoundConfiguration}
use Rattle.rules.proofs.Keeps.{SoundTable}
use Rattle.rules.proofs.Plan.{none_fits}
use Rattle.rules.proofs.Planner.{configured_fits}
use Rattle.rules.proofs.Sizes.{sized_asked}

-- ---- a request is made again of its numbers
kind_again : (k : Kind) → make_kind (kind_number k) (kind_region k) ≡ k
unfolding make_kind kind_number kind_region first_rule region_eq all_of each_two numbers_of
kind_again AddZone = refl
kind_again RemoveZone = refl
kind_again (Insert Cpu r) = refl
kind_again (Insert Iommu r) = refl
kind_again (Remove Cpu r) = refl
kind_again (Remove Iommu r) = refl
kind_again NoRequest = refl

pub requests_again : (qs : List Request) → requests_from (map asked_as qs) ≡ qs
unfolding make_request
requests_again [] = refl
requests_again (q ∷ qs) =
    ap₂ (λ (k : Kind) (l : List Request). record { zone = q.zone; kind = k } ∷ l) (kind_again q.kind)
    (requests_again qs)

-- ---- how many bytes they take
pub records_length : (qs : List Request) → length (records_of qs) ≡ length qs * request_size
unfolding records_of
records_length qs =
    sized_many asked_field (λ a. request_size) sized_asked (map asked_as qs) ∙ total_same request_size (map asked_as qs)
    ∙ ap (λ (n : ℕ). n * request_size) (length-map qs asked_as)

-- ---- what the list names: ids that a zone may have, and configured regions
abbrev Low : ℕ → Type 0
Low id = id ≤ highest_id

module _ (lim : Limits) (c : Configuration) where
  abbrev Known : Holding → Type 0
  Known h = Low h.zone × (configured c h.region ≡ true)

  side_known : (id : ℕ) (s : Side) → id ≤ highest_id → (xs : List Region) → all (configured c) xs ≡ true
      → All Known (map (holding id s) xs)
  unfolding all
  side_known id s low [] e = tt
  side_known id s low (x ∷ xs) e =
      let h = both_true (configured c x) (all (configured c) xs) e in
      ((low, h.0), side_known id s low xs h.1)

  zone_known : (z : Zone) → sound_zone lim c z ≡ true → All Known (held_on Cpu z ++ held_on Iommu z)
  unfolding sound_zone sound_set side_of
  zone_known z e =
      let h = parts _ e in
      let low : z.id ≤ highest_id = leb-true _ _ h.0 in
      all_joined Known (held_on Cpu z) (held_on Iommu z)
      (side_known z.id Cpu low z.cpu (parts _ h.1.0).1.0)
      (side_known z.id Iommu low z.iommu (parts _ h.1.1.0).1.0)

  holdings_known : (t : List Zone) → all (sound_zone lim c) t ≡ true → All Known (holdings t)
  unfolding all holdings flat_map
  holdings_known [] e = tt
  holdings_known (z ∷ t) e =
      let h = both_true (sound_zone lim c z) (all (sound_zone lim c) t) e in
      all_joined Known (held_on Cpu z ++ held_on Iommu z) (holdings t) (zone_known z h.0) (holdings_known t h.1)

  ids_low : (t : List Zone) → all (sound_zone lim c) t ≡ true → All Low (ids_of t)
  unfolding all sound_zone
  ids_low [] e = tt
  ids_low (z ∷ t) e =
      let h = both_true (sound_zone lim c z) (all (sound_zone lim c) t) e in
      (leb-true _ _ (parts _ h.0).0, ids_low t h.1)

-- ---- their numbers fit
abbrev Fits : Request → Type 0
Fits q = AskedFits (asked_as q)

zone_fits : (id : ℕ) → id ≤ highest_id → Fits (add_zone id) × Fits (drop_zone id)
unfolding kind_number kind_region
zone_fits id low = ((omega arith, (omega arith, none_fits)), (omega arith, (omega arith, none_fits)))

module _ (lim : Limits) (say : Sayable lim) (c : Configuration) (ok : SoundConfiguration lim c) where
  region_fits : (id : ℕ) (s : Side) (r : Region) → id ≤ highest_id → configured c r ≡ true
      → Fits (take_out (holding id s r)) × Fits (put_in (holding id s r))
  unfolding kind_number kind_region
  region_fits id Cpu r low e =
      let f = configured_fits lim say c ok r e in
      ((omega arith, (omega arith, f)), (omega arith, (omega arith, f)))
  region_fits id Iommu r low e =
      let f = configured_fits lim say c ok r e in
      ((omega arith, (omega arith, f)), (omega arith, (omega arith, f)))

  -- a stretch of the list
  stretch_fits : {A : Type 0} (P : A → Type 0) (f : A → Request) → ((x : A) → P x → Fits (f x)) → (p : A → Bool)
      → (xs : List A) → All P xs → All Fits (map f (keep p xs))
  stretch_fits P f g p xs h = all_image P Fits f g (keep p xs) (all_kept P p xs h)

  pub list_fits : (t w : List Zone) → SoundTable lim c t → SoundTable lim c w
      → All AskedFits (map asked_as (requests_for t w))
  unfolding requests_for
  list_fits t w st sw =
      all_image Fits AskedFits asked_as (λ q h. h) (requests_for t w)
      (all_joined Fits (map take_out (keep (lacks w) (holdings t))) _
      (stretch_fits (Known lim c) take_out
      (λ h k. (region_fits h.zone h.side h.region k.0 k.1).0) (lacks w) (holdings t)
      (holdings_known lim c t st.zones))
      (all_joined Fits (map drop_zone (keep (absent w) (ids_of t))) _
      (stretch_fits Low drop_zone (λ id k. (zone_fits id k).1) (absent w) (ids_of t) (ids_low lim c t st.zones))
      (all_joined Fits (map add_zone (keep (absent t) (ids_of w))) _
      (stretch_fits Low add_zone (λ id k. (zone_fits id k).0) (absent t) (ids_of w) (ids_low lim c w sw.zones))
      (stretch_fits (Known lim c) put_in
      (λ h k. (region_fits h.zone h.side h.region k.0 k.1).1) (lacks t) (holdings w)
      (holdings_known lim c w sw.zones)))))
