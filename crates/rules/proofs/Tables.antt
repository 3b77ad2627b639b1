-- Tables under a sound configuration: two held regions overlap physically exactly when they are equal.
use Prim.Native.Nat.{ℕ, ◌<◌}
use native.Mathlib.Decide.{ℕ_discrete}
use native.Mathlib.Omega.{arith}
use mathlib.Core.Bool.{true, true≢false}
use mathlib.Core.Path.{◌≡◌, sym, ap, ap₂, ◌∙◌}
use borrow.Author.Tests.{ltb-true}
use lib.ListN.{length, get_or}
use Rattle.lists.proofs.Every.{any_make, any_at}
use Rattle.lists.proofs.Tests.{parts}
use Rattle.rules.specs.Limits.{Limits}
use Rattle.rules.specs.Addresses.{overlaps}
use Rattle.rules.specs.Configuration.{gic_of, Configuration}
use Rattle.rules.specs.Regions.{well_formed, region_eq, phys_overlap, guest_overlap, no_region}
use Rattle.rules.specs.Tables.{configured}
use Rattle.rules.specs.declared.Region.{Region}
use Rattle.rules.proofs.Addresses.{overlap_shared}
use Rattle.rules.proofs.Configuration.{SoundConfiguration}
use Rattle.rules.proofs.Regions.{equal_same, equal_refl}

module _ (lim : Limits) where
  module _ (c : Configuration) (ok : SoundConfiguration lim c) where
    -- a configured region is that at some position
    pub configured_at : (r : Region) → configured c r ≡ true
        → (i : ℕ) × (i < length c.regions) × (r ≡ get_or c.regions i no_region)
    unfolding configured
    configured_at r e =
        let (i, h, q) = any_at (region_eq r) c.regions no_region e in
        (i, h, equal_same r (get_or c.regions i no_region) q)

    pub position_configured : (i : ℕ) → i < length c.regions → configured c (get_or c.regions i no_region) ≡ true
    unfolding configured
    position_configured i h =
        any_make (region_eq (get_or c.regions i no_region)) c.regions no_region i h
        (equal_refl (get_or c.regions i no_region))

    -- it is not empty, so it overlaps itself, in either kind of address
    not_empty : (r : Region) → configured c r ≡ true → 0 < r.size
    unfolding well_formed
    not_empty r e =
        let (i, h, q) = configured_at r e in
        ltb-true _ _ (parts _ (ap (well_formed lim.page) q ∙ ok.formed i h)).0

    self_overlap : (a : ℕ) (r : Region) → configured c r ≡ true → overlaps a r.size a r.size ≡ true
    self_overlap a r e =
        let s : 0 < r.size = not_empty r e in
        (overlap_shared a r.size a r.size).1 (a, ((omega arith, omega arith), (omega arith, omega arith)))

    pub overlaps_itself : (r : Region) → configured c r ≡ true → phys_overlap r r ≡ true
    overlaps_itself r e = self_overlap r.p.0 r e

    pub guest_overlaps_itself : (r : Region) → configured c r ≡ true → guest_overlap r r ≡ true
    guest_overlaps_itself r e = self_overlap r.v.0 r e

    -- two that overlap are one
    pub overlap_same : (a b : Region) → configured c a ≡ true → configured c b ≡ true → phys_overlap a b ≡ true → a ≡ b
    overlap_same a b ea eb e =
        let (i, h, q) = configured_at a ea in
        let (j, l, r) = configured_at b eb in
        elim (ℕ_discrete i j) [
          | yes s ↦ q ∙ ap (λ (k : ℕ). get_or c.regions k no_region) s ∙ sym r
          | no ne ↦
              absurd (true≢false (sym e ∙ ap₂ phys_overlap q r ∙ ok.apart i j h l ne))
        ]

    -- no two positions have one region; so only the GIC's has the GIC
    pub one_position : (i j : ℕ) → i < length c.regions → j < length c.regions
        → get_or c.regions i no_region ≡ get_or c.regions j no_region → i ≡ j
    one_position i j h l e =
        elim (ℕ_discrete i j) [
          | yes s ↦ s
          | no ne ↦
              absurd (true≢false
              (sym (overlaps_itself (get_or c.regions i no_region) (position_configured i h))
              ∙ ap (phys_overlap (get_or c.regions i no_region)) e ∙ ok.apart i j h l ne))
        ]

    pub gic_position : (i : ℕ) → i < length c.regions → get_or c.regions i no_region ≡ gic_of c → i ≡ c.gic
    unfolding gic_of
    gic_position i h e = one_position i c.gic h ok.gic e
