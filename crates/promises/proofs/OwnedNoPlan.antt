-- A plan with owners is no plan without: where the owners stand the other reader takes zones, and no four bytes of a sound
-- table's section say the GIC's owner.
use Prim.Native.Nat.{ℕ, zero, suc, ◌+◌, ◌*◌, ◌/◌, ◌%◌, ◌^◌, ◌≤◌, ◌<◌}
use native.Mathlib.Omega.{arith}
use mathlib.Core.Bool.{true}
use mathlib.Core.List.{List, [], ◌∷◌, ◌++◌, append_assoc}
use mathlib.Core.Path.{◌≡◌, refl, sym, ap, subst, ◌∙◌}
use borrow.Author.Tests.{leb-true, eqb-true}
use lib.ListN.{length, get_or, take, drop, length-append}
use lib.Seq.{take_at, drop_at, drop-drop}
use Rattle.lists.specs.Bytes.{little, bytes_of, Bytes}
use Rattle.lists.proofs.Bytes.{length_bytes, little_bytes}
use Rattle.formats.specs.Formats.{got, write_many, write_with, write_both, write_headed, both, All, Format}
use Rattle.rules.specs.Applying.{apply, plain_steps, Terminal}
use Rattle.lists.proofs.Every.{all_at}
use Rattle.lists.proofs.Tests.{parts}
use Rattle.formats.proofs.Sizes.{sized_many, total_same}
use Rattle.rules.specs.Configuration.{config_of, StoredConfig}
use Rattle.rules.specs.Fields.{numbers_of, region_size}
use Rattle.rules.specs.Limits.{page_of, limits}
use Rattle.rules.specs.OwnedPlan.{read_owned, encode_owned, owned_steps, OwnedPlanFits, OwnedPlan}
use Rattle.rules.specs.Owners.{gic_owner, owned_of, Owned}
use Rattle.rules.specs.Plan.{short, region_field, marks_section, set_format, zone_format, zones_section, requests_section, encode, Plan, PlanFits, Short}
use Rattle.rules.specs.Regions.{well_formed, in_reach, no_region}
use Rattle.rules.specs.Tables.{no_zone, side_of, sound_set, sound_zone, table_of, Zone}
use Rattle.rules.specs.declared.Region.{Region}
use Rattle.rules.specs.declared.Side.{Side}
use Rattle.rules.specs.declared.Side.TheVariants.{Cpu, Iommu}
use Rattle.rules.proofs.OwnedCheck.{owned_passed}
use Rattle.rules.proofs.OwnedPlan.{no_slack_owned, owned_stands_well}
use Rattle.rules.proofs.Plan.{no_slack}
use Rattle.rules.proofs.Planner.{all_places}
use Rattle.rules.proofs.Sizes.{sized_marks, sized_region}
use Rattle.promises.specs.Owned.{OwnedIsNoPlan}
use Rattle.promises.specs.Tables.{SoundUnder}
use Rattle.promises.proofs.Closure.{table_ok}
use Rattle.promises.proofs.Owned.{owned_is_proper}
use Rattle.promises.proofs.Plans.{accepted_is_plan}
use Rattle.promises.proofs.Standing.{stands_is_sound}
use Rattle.promises.proofs.Steps.{accepted_stands_by, accepted_is_plan_by}
use Rattle.promises.proofs.Tables.{inv_zones_wf}

-- ---- words of four bytes, none of which says 2^32 - 1
NotGic : List ℕ → Type 0
NotGic w = little w ≡ gic_owner → ⊥

data Low : List ℕ → Type 0 where
  no_word : Low []
  word : (w bs : List ℕ) → length w ≡ 4 → NotGic w → Low bs → Low (w ++ bs)

low_append : (a b : List ℕ) → Low a → Low b → Low (a ++ b)
low_append a b no_word l = l
low_append a b (word w bs n h v) l = subst Low (sym (append_assoc w bs b)) (word w (bs ++ b) n h (low_append bs b v l))

nil : (xs : List ℕ) → xs ++ [] ≡ xs
nil [] = refl
nil (y ∷ ys) = ap (λ (zs : List ℕ). y ∷ zs) (nil ys)

low_one : (w : List ℕ) → length w ≡ 4 → NotGic w → Low w
low_one w n h = subst Low (nil w) (word w [] n h no_word)

-- a small number; a multiple of a page
small : (x : ℕ) → x < gic_owner → NotGic (bytes_of 4 x)
unfolding NotGic
small x h e = omega (arith, e, little_bytes 4 x (omega arith))

paged : (x : ℕ) → x % 4096 ≡ 0 → NotGic (bytes_of 4 x)
unfolding NotGic bytes_of little
paged x h e =
    let z : x % 256 ≡ 0 = omega arith in
    let k : ℕ = little (bytes_of 3 (x / 256)) in
    let q : x % 256 + 256 * k ≡ gic_owner = e in
    omega (arith, z, q)

low_short : (x : ℕ) → x < gic_owner → Low (bytes_of 4 x)
low_short x h = low_one (bytes_of 4 x) (length_bytes 4 x) (small x h)

-- a number of eight bytes is two words
two_words : (x : ℕ) → bytes_of 8 x ≡ bytes_of 4 x ++ bytes_of 4 (x / 256 / 256 / 256 / 256)
unfolding bytes_of
two_words x = refl

low_long : (x : ℕ) → NotGic (bytes_of 4 x) → x < 2 ^ 60 → Low (bytes_of 8 x)
low_long x h l =
    subst Low (sym (two_words x))
    (word (bytes_of 4 x) (bytes_of 4 (x / 256 / 256 / 256 / 256)) (length_bytes 4 x) h
    (low_short (x / 256 / 256 / 256 / 256) (omega arith)))

low_at : (b : List ℕ) → Low b → (i : ℕ) (t : List ℕ) → 4 * i < length b → NotGic (take 4 (drop (4 * i) (b ++ t)))
low_at b no_word i t h = absurd (omega arith)
low_at b (word w bs n l v) zero t h =
    subst NotGic (sym (ap (take 4) (append_assoc w bs t) ∙ take_at w (bs ++ t) 4 n)) l
low_at b (word w bs n l v) (suc i) t h =
    let m : length (w ++ bs) ≡ 4 + length bs = omega (arith, length-append w bs, n) in
    let k : 4 * suc i ≡ 4 + 4 * i = omega arith in
    let e : drop (4 * suc i) ((w ++ bs) ++ t) ≡ drop (4 * i) (bs ++ t) =
    ap (λ (j : ℕ). drop j ((w ++ bs) ++ t)) k ∙ sym (drop-drop (4 * i) 4 ((w ++ bs) ++ t))
    ∙ ap (drop (4 * i)) (ap (drop 4) (append_assoc w bs t) ∙ drop_at w (bs ++ t) 4 n) in
    subst (λ (u : List ℕ). NotGic (take 4 u)) (sym e) (low_at bs v i t (omega arith))

-- ---- a section of zones
module _ {A : Type 0} (F : Format A) (P : A → Type 0) (each : (x : A) → P x → Low (F.write x)) where
  low_many : (xs : List A) → All P xs → Low (write_many F xs)
  unfolding write_many
  low_many [] f = no_word
  low_many (x ∷ xs) (h, f) = low_append (F.write x) (write_many F xs) (each x h) (low_many xs f)

record RegionLow (r : Region) : Type 0 where
  pub v : (r.v.0 % 4096 ≡ 0) × (r.v.0 < 2 ^ 60)
  pub p : (r.p.0 % 4096 ≡ 0) × (r.p.0 < 2 ^ 60)
  pub size : (r.size % 4096 ≡ 0) × (r.size < 2 ^ 60)
  pub rights : r.rights.0 ≤ 7

low_region : (r : Region) → RegionLow r → Low (region_field.write r)
unfolding numbers_of write_many
low_region r h =
    low_append (bytes_of 8 r.v.0) _ (low_long r.v.0 (paged r.v.0 h.v.0) h.v.1)
    (low_append (bytes_of 8 r.p.0) _ (low_long r.p.0 (paged r.p.0 h.p.0) h.p.1)
    (low_append (bytes_of 8 r.size) _ (low_long r.size (paged r.size h.size.0) h.size.1)
    (low_append (bytes_of 8 r.rights.0) [] (low_long r.rights.0
    (small r.rights.0 (let g = h.rights in omega arith)) (let g = h.rights in omega arith)) no_word)))

record ZoneLow (z : Zone) : Type 0 where
  pub id : z.id ≤ 255
  pub few : (length z.cpu ≤ 16) × (length z.iommu ≤ 16)
  pub cpu : All RegionLow z.cpu
  pub iommu : All RegionLow z.iommu

low_zone : (z : Zone) → ZoneLow z → Low ((zone_format limits).write z)
unfolding write_both write_with write_headed
low_zone z h =
    low_append (bytes_of 4 z.id) _ (low_short z.id (let g = h.id in omega arith))
    (low_append (bytes_of 4 (length z.cpu) ++ write_many region_field z.cpu) _
    (low_append (bytes_of 4 (length z.cpu)) _ (low_short (length z.cpu) (let g = h.few.0 in omega arith))
    (low_many region_field RegionLow low_region z.cpu h.cpu))
    (low_append (bytes_of 4 (length z.iommu)) _ (low_short (length z.iommu) (let g = h.few.1 in omega arith))
    (low_many region_field RegionLow low_region z.iommu h.iommu)))

-- that of a sound table
formed_low : (r : Region) → well_formed 4096 r ≡ true → in_reach limits r ≡ true → RegionLow r
unfolding well_formed in_reach
formed_low r f i =
    let p = parts _ f in
    let q = parts _ i in
    let a : r.v.0 + r.size ≤ 2 ^ 40 = leb-true _ _ q.0 in
    let b : r.p.0 + r.size ≤ 2 ^ 48 = leb-true _ _ q.1.0 in
    record {
      v = (eqb-true _ _ p.1.0, omega arith);
      p = (eqb-true _ _ p.1.1.0, omega arith);
      size = (eqb-true _ _ p.1.1.1.0, omega arith);
      rights = leb-true _ _ p.1.1.1.1.1.0;
    }

region_low : (side : Side) (r : Region) → well_formed (page_of limits side) r ≡ true → in_reach limits r ≡ true → RegionLow r
unfolding page_of
region_low Cpu r f i = formed_low r f i
region_low Iommu r f i = formed_low r f i

module _ (s : StoredConfig) (t : List Zone) (ok : SoundUnder limits s t) where
  zone_low : (z : ℕ) → z < length t → ZoneLow (get_or t z no_zone)
  unfolding sound_zone sound_set side_of
  zone_low z h =
      let y : Zone = get_or t z no_zone in
      let q = parts _ (all_at (sound_zone limits (config_of s)) t no_zone (table_ok limits s t ok).zones z h) in
      record {
        id = leb-true _ _ q.0;
        few = (leb-true _ _ (parts _ q.1.0).0, leb-true _ _ (parts _ q.1.1.0).0);
        cpu = all_places RegionLow y.cpu no_region (λ i l.
            let w = (inv_zones_wf limits s t ok z Cpu h).0 (get_or y.cpu i no_region) (i, l, refl) in
            region_low Cpu (get_or y.cpu i no_region) w.0 w.1);
        iommu = all_places RegionLow y.iommu no_region (λ i l.
            let w = (inv_zones_wf limits s t ok z Iommu h).0 (get_or y.iommu i no_region) (i, l, refl) in
            region_low Iommu (get_or y.iommu i no_region) w.0 w.1);
      }

  table_low : Low (write_many (zone_format limits) t)
  table_low = low_many (zone_format limits) ZoneLow low_zone t (all_places ZoneLow t no_zone zone_low)

-- each zone has a word at least
zones_long : (t : List Zone) → 4 * length t ≤ length (write_many (zone_format limits) t)
unfolding write_many write_both write_with
zones_long [] = omega arith
zones_long (z ∷ t) =
    omega (
      arith,
      zones_long t,
      length-append ((zone_format limits).write z) (write_many (zone_format limits) t),
      length_bytes 4 z.id,
      length-append (bytes_of 4 z.id) ((both (set_format limits) (set_format limits)).write (z.cpu, z.iommu)),
    )

-- ---- owners, one after another
owners_at_law : (os : List ℕ) → All Short os → (i : ℕ) → i < length os → (t : List ℕ)
    → little (take 4 (drop (4 * i) (write_many short os ++ t))) ≡ get_or os i gic_owner
unfolding write_many
owners_at_law [] f i h t = absurd (omega arith)
owners_at_law (x ∷ os) (l, f) zero h t =
    ap little (ap (take 4) (append_assoc (bytes_of 4 x) (write_many short os) t)
    ∙ take_at (bytes_of 4 x) (write_many short os ++ t) 4 (length_bytes 4 x))
    ∙ little_bytes 4 x l
owners_at_law (x ∷ os) (l, f) (suc i) h t =
    let k : 4 * suc i ≡ 4 + 4 * i = omega arith in
    let whole : List ℕ = (bytes_of 4 x ++ write_many short os) ++ t in
    ap (λ (u : List ℕ). little (take 4 u))
    (ap (λ (j : ℕ). drop j whole) k ∙ sym (drop-drop (4 * i) 4 whole)
    ∙ ap (drop (4 * i)) (ap (drop 4) (append_assoc (bytes_of 4 x) (write_many short os) t)
    ∙ drop_at (bytes_of 4 x) (write_many short os ++ t) 4 (length_bytes 4 x)))
    ∙ owners_at_law os f i (omega arith) t

-- ---- two ways to read the same bytes
count_same : (n m : ℕ) (x y : List ℕ) → n < 256 ^ 4 → m < 256 ^ 4 → bytes_of 4 n ++ x ≡ bytes_of 4 m ++ y
    → (n ≡ m) × (x ≡ y)
count_same n m x y a b e = (
  sym (little_bytes 4 n a)
      ∙ ap little (sym (take_at (bytes_of 4 n) x 4 (length_bytes 4 n)) ∙ ap (take 4) e
      ∙ take_at (bytes_of 4 m) y 4 (length_bytes 4 m))
      ∙ little_bytes 4 m b,
  sym (drop_at (bytes_of 4 n) x 4 (length_bytes 4 n)) ∙ ap (drop 4) e ∙ drop_at (bytes_of 4 m) y 4 (length_bytes 4 m),
)

behind : (a b x y : List ℕ) → length a ≡ length b → a ++ x ≡ b ++ y → x ≡ y
behind a b x y n e =
    sym (drop_at a x (length a) refl) ∙ ap (drop (length a)) e ∙ ap (λ (k : ℕ). drop k (b ++ y)) n ∙ drop_at b y (length b) refl

module _ (q : Plan) (p : OwnedPlan) (fq : PlanFits limits q) (fp : OwnedPlanFits limits p)
    (e : encode limits q ≡ encode_owned limits p) where
  abbrev zb : List ℕ
  zb = write_many (zone_format limits) q.zones

  abbrev aq : List ℕ
  aq = (requests_section limits).write q.asked

  abbrev ob : List ℕ
  ob = write_many short p.owners

  abbrev rest : List ℕ
  rest = (zones_section limits).write p.plan.zones ++ (requests_section limits).write p.plan.asked

  -- behind the regions
  meet : (length q.zones ≡ length p.owners) × (zb ++ aq ≡ ob ++ rest)
  unfolding encode encode_owned write_both write_with write_headed
  meet =
      let wq : List ℕ = write_many region_field q.regions in
      let wp : List ℕ = write_many region_field p.plan.regions in
      let no : List ℕ = bytes_of 4 (length p.owners) in
      let nz : List ℕ = bytes_of 4 (length q.zones) in
      let np : List ℕ = bytes_of 4 (length p.plan.regions) in
      let nq : List ℕ = bytes_of 4 (length q.regions) in
      let one = behind ((marks_section limits).write q.marks) ((marks_section limits).write p.plan.marks) _ _
      (sized_marks limits q.marks ∙ sym (sized_marks limits p.plan.marks)) e in
      let two : nq ++ (wq ++ ((nz ++ zb) ++ aq)) ≡ np ++ (wp ++ ((no ++ ob) ++ rest)) =
      sym (append_assoc nq wq ((nz ++ zb) ++ aq)) ∙ one ∙ append_assoc (np ++ wp) (no ++ ob) rest ∙ append_assoc np wp ((no ++ ob) ++ rest) in
      let (n, three) = count_same (length q.regions) (length p.plan.regions) _ _ fq.1.0.said fp.1.0.0.said two in
      let four = behind wq wp ((nz ++ zb) ++ aq) ((no ++ ob) ++ rest) (same_length q.regions p.plan.regions n) three in
      count_same (length q.zones) (length p.owners) (zb ++ aq) (ob ++ rest) fq.1.1.0.said fp.1.0.1.said
      (sym (append_assoc nz zb aq) ∙ four ∙ append_assoc no ob rest)
    where
      same_length : (a b : List Region) → length a ≡ length b
          → length (write_many region_field a) ≡ length (write_many region_field b)
      same_length a b n =
          sized_many region_field (λ r. region_size) sized_region a ∙ total_same region_size a
          ∙ ap (λ (k : ℕ). k * region_size) n
          ∙ sym (sized_many region_field (λ r. region_size) sized_region b ∙ total_same region_size b)

no_plan : (s : Terminal) (b : List ℕ) (p : OwnedPlan) (i : ℕ) → length s.config.records ≡ limits.regions → Bytes b
    → read_owned limits b ≡ got p [] → i < length p.owners → get_or p.owners i gic_owner ≡ gic_owner
    → (apply limits s b).outcome.number ≡ 0 → ⊥
unfolding NotGic apply
no_plan s b p i full bytes e h g z =
    let (q, (read, base), last, inner) = accepted_is_plan limits s b z in
    let sound : SoundUnder limits s.config (table_of s.table) =
    stands_is_sound limits s.config s.table full (accepted_stands_by (plain_steps limits) s b z) in
    let (sameq, fq) = no_slack limits b q [] bytes read in
    let (samep, fp) = no_slack_owned limits b p [] bytes e in
    let (n, m) = meet q p fq fp (sym sameq ∙ samep) in
    let low : Low (zb q p fq fp (sym sameq ∙ samep)) =
    subst (λ (t : List Zone). Low (write_many (zone_format limits) t)) base.zones (table_low s.config (table_of s.table) sound) in
    low_at (write_many (zone_format limits) q.zones) low i ((requests_section limits).write q.asked)
    (omega (arith, zones_long q.zones, n, h))
    (ap (λ (u : List ℕ). little (take 4 (drop (4 * i) u))) m ∙ owners_at_law p.owners fp.1.0.1.fits.1 i h _ ∙ g)

pub owned_is_no_plan : OwnedIsNoPlan
unfolding owned_of
owned_is_no_plan = record {
  plain = no_plan;
  both = λ s u b full whole bytes z y.
      let (p, (read, base), last, inner) = accepted_is_plan_by (owned_steps limits) (owned_is_proper limits) u b y in
      let (passes, tab) = owned_stands_well limits u.config u.table (accepted_stands_by (owned_steps limits) u b y) in
      let good = owned_passed limits u.config whole passes in
      let o : Owned = owned_of u.config in
      let same : o.owners ≡ p.owners = base.config.owners in
      let many : length o.owners ≡ length o.config.regions = good.many in
      let within : o.config.gic < length o.config.regions = good.config.gic in
      no_plan s b p o.config.gic full bytes read (omega (arith, ap length same, many, within))
      (ap (λ (os : List ℕ). get_or os o.config.gic gic_owner) (sym same) ∙ good.gic) z;
}
