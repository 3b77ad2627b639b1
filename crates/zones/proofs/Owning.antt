-- One pass over what the zones hold: a zone that holds a region has its position, and keeps it. No position but the
-- GIC's is two zones', and no two positions have one region; so of any two zones at most one holds it.
use Prim.Native.Nat.{ℕ, ◌+◌, ◌≤◌, ◌<◌}
use native.Mathlib.Decide.{dec_lt, ℕ_discrete}
use native.Mathlib.Omega.{arith}
use mathlib.Core.Bool.{Bool, true, false, not, ◌&&◌, ◌||◌, true≢false}
use mathlib.Core.List.{List}
use mathlib.Core.Logic.{◌⊎◌, inl, inr}
use mathlib.Core.Path.{◌≡◌, sym, ap, subst, ◌∙◌}
use borrow.Author.Tests.{eq-eqb}
use lib.Dec.{eqb}
use lib.ListN.{length, get_or, set}
use lib.Seq.{get_or-set_same, get_or-set_other}
use Rattle.std.specs.declared.option.Option.{Option}
use Rattle.std.specs.declared.option.Option.TheVariants.{None, Some}
use Rattle.lists.specs.First.{any, all}
use Rattle.lists.proofs.Every.{any_at, all_at, all_make}
use Rattle.lists.proofs.Pairs.{pairs_make}
use Rattle.lists.proofs.Places.{every_make}
use Rattle.lists.proofs.Tests.{both_true, or_left, or_right, not_fails, false_of, holds_or_fails}
use Rattle.rules.specs.Configuration.{Configuration}
use Rattle.rules.specs.Limits.{most_regions, limits}
use Rattle.rules.specs.Regions.{region_eq, no_region}
use Rattle.rules.specs.Tables.{configured, no_zone, sound_zone, Zone}
use Rattle.rules.specs.declared.Region.{Region}
use Rattle.rules.specs.declared.Side.{Side}
use Rattle.rules.specs.declared.Side.TheVariants.{Cpu, Iommu}
use Rattle.rules.proofs.Regions.{equal_same}
use Rattle.rules.proofs.Tables.{one_position, position_configured}
use Rattle.zones.specs.Holding.{holds, held_once, held_at, held_apart}
use Rattle.zones.specs.Owners.{Owns, Has, Keeps, HasSet, HasZone, HasZones, ZoneConfigured}
use Rattle.zones.specs.View.{config_in, ConfigPassed, record_in, set_in, zone_in, zones_in}
use Rattle.zones.proofs.Checking.{holds_sides, record_at_law, zone_at_law}
use Rattle.zones.proofs.ConfigReaders.{config_sound}

-- ---- what is somebody's stays so
pub keeps_same : (o : List (Option ℕ)) → Keeps o o
unfolding Keeps
keeps_same o k z h = h

pub keeps_set : (o : List (Option ℕ)) (k : ℕ) (x : Option ℕ) → get_or o k None ≡ None → Keeps o (set o k x)
unfolding Keeps
keeps_set o k x e j z h =
    elim (ℕ_discrete j k) [
      | yes q ↦ (let no : None ≡ Some z = sym e ∙ ap (λ (i : ℕ). get_or o i None) (sym q) ∙ h in cc)
      | no ne ↦ get_or-set_other o k j x None ne ∙ h
    ]

pub keeps_on : (o p q : List (Option ℕ)) → Keeps o p → Keeps p q → Keeps o q
unfolding Keeps
keeps_on o p q a b k z h = b k z (a k z h)

-- ---- one position
module _ (c : Configuration) (z k : ℕ) where
  pub owns_gic : (o : List (Option ℕ)) (g : ℕ) → g ≡ c.gic → k ≡ g → Owns c o z k
  unfolding Owns
  owns_gic o g e q ne = absurd (ne (q ∙ e))

  pub owns_mine : (o : List (Option ℕ)) (x : ℕ) → get_or o k None ≡ Some x → x ≡ z → Owns c o z k
  unfolding Owns
  owns_mine o x q e ne = q ∙ ap Some e

  pub owns_set : (o : List (Option ℕ)) → k < most_regions → most_regions ≤ length o → Owns c (set o k (Some z)) z k
  unfolding Owns
  owns_set o h l ne = get_or-set_same o k (Some z) None (omega arith)

  owns_kept : (o p : List (Option ℕ)) → Keeps o p → Owns c o z k → Owns c p z k
  unfolding Owns Keeps
  owns_kept o p a b ne = a k z (b ne)

-- ---- a set, record by record
module _ (c : Configuration) (w : List ℕ) (z : ℕ) (s : Side) where
  pub set_none : (o : List (Option ℕ)) → HasSet c w o z s 0
  unfolding HasSet
  set_none o i h = absurd (omega arith)

  pub set_all : (o : List (Option ℕ)) (i n : ℕ) → HasSet c w o z s i → n ≡ length (set_in w z s) → n ≤ i
      → HasSet c w o z s (length (set_in w z s))
  unfolding HasSet
  set_all o i n has e h j l = has j (omega arith)

  set_kept_owned : (o p : List (Option ℕ)) (n : ℕ) → Keeps o p → HasSet c w o z s n → HasSet c w p z s n
  unfolding HasSet Has
  set_kept_owned o p n a b i h = let (k, l, q, e) = b i h in (k, l, q, owns_kept c z k o p a e)

module _ (v w : List ℕ) (z : ℕ) (s : Side) where
  pub set_more : (o p : List (Option ℕ)) (i k : ℕ) (r : Region) (t : Bool) → HasSet (config_in v) w o z s i → Keeps o p
      → r ≡ record_in w z s i → k < length (config_in v).regions → r ≡ get_or (config_in v).regions k no_region
      → (t ≡ true → Owns (config_in v) p z k) → t ≡ true → HasSet (config_in v) w p z s (i + 1)
  unfolding HasSet Has
  set_more o p i k r t has kept er l there told f j h =
      elim (dec_lt j i) [
        | yes a ↦ set_kept_owned (config_in v) w z s o p i kept has j a
        | no a ↦
            (let e : j ≡ i = omega arith in (k, l, ap (record_in w z s) e ∙ sym er ∙ there, told f))
      ]

-- ---- zone by zone
module _ (c : Configuration) (w : List ℕ) where
  pub zones_none : (o : List (Option ℕ)) → HasZones c w o 0
  unfolding HasZones
  zones_none o z h = absurd (omega arith)

  pub zones_more : (o p : List (Option ℕ)) (z : ℕ) → HasZones c w o z → Keeps o p → HasZone c w p z → HasZones c w p (z + 1)
  unfolding HasZones HasZone
  zones_more o p z has kept mine y h s =
      elim (dec_lt y z) [
        | yes l ↦ set_kept_owned c w y s o p (length (set_in w y s)) kept (has y l s)
        | no l ↦
            (let e : y ≡ z = omega arith in
            subst (λ (x : ℕ). HasSet c w p x s (length (set_in w x s))) (sym e) (mine s))
      ]

  pub zone_has_both : (o p : List (Option ℕ)) (z : ℕ) → Keeps o p → HasSet c w o z Cpu (length (set_in w z Cpu))
      → HasSet c w p z Iommu (length (set_in w z Iommu)) → HasZone c w p z
  unfolding HasZone
  zone_has_both o p z kept cpu iommu Cpu = set_kept_owned c w z Cpu o p (length (set_in w z Cpu)) kept cpu
  zone_has_both o p z kept cpu iommu Iommu = iommu

-- ---- zone by zone, whether each is sound
module _ (c : Configuration) (w : List ℕ) where
  -- each zone below n is sound
  abbrev pub SoundBelow : ℕ → Type 0
  SoundBelow n = (y : ℕ) → y < n → sound_zone limits c (zone_in w y) ≡ true

  pub sound_none : SoundBelow 0
  sound_none y h = absurd (omega arith)

  pub sound_more : (z : ℕ) (b : Bool) → SoundBelow z → b ≡ sound_zone limits c (zone_in w z) → b ≡ true
      → SoundBelow (z + 1)
  sound_more z b below e f y h =
      elim (dec_lt y z) [
        | yes l ↦ below y l
        | no l ↦
            (let q : y ≡ z = omega arith in
            ap (λ (x : ℕ). sound_zone limits c (zone_in w x)) q ∙ sym e ∙ f)
      ]

  pub sound_every : (i n : ℕ) → SoundBelow i → n ≡ length (zones_in w) → n ≤ i → all (sound_zone limits c) (zones_in w) ≡ true
  sound_every i n below e h =
      all_make (sound_zone limits c) (zones_in w) no_zone
      (λ y l. ap (sound_zone limits c) (zone_at_law w y l) ∙ below y (omega arith))

  pub sound_stops : (z n : ℕ) (b : Bool) → z < n → n ≡ length (zones_in w) → b ≡ sound_zone limits c (zone_in w z)
      → b ≡ false → all (sound_zone limits c) (zones_in w) ≡ false
  sound_stops z n b h e eb f =
      let l : z < length (zones_in w) = omega arith in
      false_of _ (λ q. true≢false (sym (all_at (sound_zone limits c) (zones_in w) no_zone q z l)
      ∙ ap (sound_zone limits c) (zone_at_law w z l) ∙ sym eb ∙ f))

-- ---- what the pass shows
module _ (v : List ℕ) (ok : ConfigPassed v) (w : List ℕ) (o : List (Option ℕ)) where
  -- a zone that has its regions has configured ones
  pub zone_configured : (z : ℕ) → HasZone (config_in v) w o z → ZoneConfigured (config_in v) w z
  unfolding HasZone HasSet Has
  zone_configured z has s =
      all_make (configured (config_in v)) (set_in w z s) no_region
      (λ i h. let (k, l, q, e) = has s i h in
      ap (configured (config_in v)) (record_at_law w z s i h ∙ q)
      ∙ position_configured limits (config_in v) (config_sound v ok) k l)

module _ (v : List ℕ) (ok : ConfigPassed v) (w : List ℕ) (o : List (Option ℕ)) (m n : ℕ) (em : m ≡ length (zones_in w)) (every : m ≤ n)
    (has : HasZones (config_in v) w o n) where
  -- a zone that holds a region has a position of it
  set_has : (z : ℕ) → z < m → (s : Side) (r : Region) → any (region_eq r) (set_in w z s) ≡ true → Has (config_in v) o z r
  unfolding HasZones HasSet
  set_has z h s r e =
      let (i, l, q) = any_at (region_eq r) (set_in w z s) no_region e in
      subst (Has (config_in v) o z) (sym (equal_same r (get_or (set_in w z s) i no_region) q ∙ record_at_law w z s i l))
      (has z (omega arith) s i l)

  zone_has : (z : ℕ) → z < m → (r : Region) → holds r (zone_in w z) ≡ true → Has (config_in v) o z r
  zone_has z h r e = by (holds_or_fails (any (region_eq r) (set_in w z Cpu)))
    where
      by : (any (region_eq r) (set_in w z Cpu) ≡ true) ⊎ (any (region_eq r) (set_in w z Cpu) ≡ false)
          → Has (config_in v) o z r
      by (inl t) = set_has z h Cpu r t
      by (inr f) =
          set_has z h Iommu r
          (ap (λ (x : Bool). x || any (region_eq r) (set_in w z Iommu)) (sym f) ∙ sym (holds_sides w z r) ∙ e)

  -- so its position is that zone's
  owner : (k : ℕ) → k < length (config_in v).regions → (k ≡ (config_in v).gic → ⊥) → (z : ℕ) → z < m
      → holds (get_or (config_in v).regions k no_region) (get_or (zones_in w) z no_zone) ≡ true → get_or o k None ≡ Some z
  unfolding Has Owns
  owner k h ne z l e =
      let r : Region = get_or (config_in v).regions k no_region in
      let (j, lj, q, own) = zone_has z l r (ap (holds r) (sym (zone_at_law w z (omega arith))) ∙ e) in
      let same : k ≡ j = one_position limits (config_in v) (config_sound v ok) k j h lj q in
      ap (λ (i : ℕ). get_or o i None) same ∙ own (λ g. ne (same ∙ g))

  pub owned_apart : held_apart (config_in v) (zones_in w) ≡ true
  unfolding held_apart held_at held_once
  owned_apart =
      every_make (held_at (config_in v) (zones_in w)) 0 (length (config_in v).regions)
      (λ k h l. elim (ℕ_discrete k (config_in v).gic) [
        | yes g ↦ or_left (eqb k (config_in v).gic) _ (eq-eqb k (config_in v).gic g)
        | no ne ↦ or_right (eqb k (config_in v).gic) _ (once k (omega arith) ne)
      ])
    where
      once : (k : ℕ) → k < length (config_in v).regions → (k ≡ (config_in v).gic → ⊥)
          → held_once (get_or (config_in v).regions k no_region) (zones_in w) ≡ true
      once k h ne =
          let r : Region = get_or (config_in v).regions k no_region in
          pairs_make (λ (y z : Zone). not (holds r y && holds r z)) (zones_in w) no_zone
          (λ y z a b. not_fails _ (false_of _ (λ q.
          let both = both_true (holds r (get_or (zones_in w) y no_zone)) _ q in
          let e : get_or o k None ≡ Some y = owner k h ne y (omega arith) both.0 in
          let f : get_or o k None ≡ Some z = owner k h ne z (omega arith) both.1 in
          let one : y ≡ z = cc in
          omega arith)))
