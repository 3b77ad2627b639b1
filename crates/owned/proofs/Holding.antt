-- Owners held against words: the section's count is the regions', and each id is that of its position, or not.
use Prim.Native.Nat.{ℕ, ◌-◌, ◌≤◌}
use native.Mathlib.Omega.{arith}
use mathlib.Core.Bool.{Bool, true, false, not}
use mathlib.Core.List.{List, [], ◌∷◌}
use mathlib.Core.Path.{◌≡◌, refl, sym, ap, ap₂, ◌∙◌}
use denote.Param.Members.{Mut}
use lib.Dec.{eqb}
use Rattle.std.proofs.Common.{Option, Ok, Err, is_some}
use Rattle.std.specs.declared.ops.Range.{Range}
use lib.ListN.{length, get_or, take, drop}
use Rattle.lists.specs.Bytes.{little}
use Rattle.lists.specs.First.{all}
use Rattle.lists.specs.Places.{places, tab}
use Rattle.lists.specs.Room.{room}
use Rattle.lists.specs.Tests.{all_of}
use Rattle.lists.specs.Words.{part}
use Rattle.lists.proofs.Room.{room_tab}
use Rattle.lists.proofs.Tests.{all_miss, all_pass, all_last, told_off, told_on}
use Rattle.formats.specs.Formats.{Out, got, bad}
use Rattle.rules.specs.Applying.{same_list}
use Rattle.rules.specs.Fields.{region_size}
use Rattle.rules.specs.Limits.{most_regions, limits}
use Rattle.rules.specs.Plan.{region_format, regions_section}
use Rattle.rules.specs.declared.Region.{Region}
use Rattle.rules.proofs.Plan.{lawful_regions}
use Rattle.zones.proofs.Ranges.{RanOver, Tells, every_place}
use Rattle.plan.specs.Held.{config_held}
use Rattle.plan.specs.Sections.{section_answer}
use Rattle.plan.specs.Told.{answer_by}
use Rattle.plan.proofs.Bases.{held_value}
use Rattle.plan.proofs.Fields.{region_value, wide_region}
use Rattle.plan.proofs.Holding.{held_refused, same_tabs}
use Rattle.plan.proofs.Numbers.{lawful_numbers}
use Rattle.plan.proofs.Offsets.{rest_of, end_within, ends_with}
use Rattle.plan.proofs.Passing.{list_read_law}
use Rattle.owned.specs.Held.{same_owner, owners_held, owners_behind, owned_held}
use Rattle.owned.specs.Section.{owners_section, id_at}
use Rattle.owned.proofs.Passing.{owners_are}

-- ---- ids one after another
pub ids_told : {F : Type 0} {g : Mut F (ℕ × Unit {0}) Bool} {f : F} (s o : List ℕ) (n : ℕ) (u : Range ℕ) (r : Bool)
    → RanOver g f 0 n u r → Tells g f (same_owner s o) → r ≡ all (same_owner s o) (places 0 n)
ids_told s o n u r ran told =
    let e : n - 0 ≡ n = omega arith in
    every_place (same_owner s o) 0 n u r ran told ∙ ap (λ (m : ℕ). all (same_owner s o) (places 0 m)) e

-- ---- a section of n owners
pub held_owners : (s : List ℕ) (n : ℕ) (o os t : List ℕ) → (owners_section n).read s ≡ got os t
    → owners_held s n o ≡ same_list eqb (room n 0 o) os
unfolding owners_held
held_owners s n o os t e = held_value (length s) (same_list eqb (room n 0 o)) ((owners_section n).read s) os t e

-- by where it ends
module _ (s : List ℕ) (n : ℕ) (o : List ℕ) where
  pub owners_other : (e : ℕ × ℕ) → Err e ≡ section_answer (length s) ((owners_section n).read s) → false ≡ owners_held s n o
  unfolding owners_held
  owners_other e g =
      sym (ap (λ (x : Option ℕ). is_some x)
      (held_refused (length s) (same_list eqb (room n 0 o)) ((owners_section n).read s) e g))

  pub owners_same : (e : ℕ) → Ok e ≡ section_answer (length s) ((owners_section n).read s) → (b : Bool)
      → b ≡ all (same_owner s o) (places 0 n) → b ≡ owners_held s n o
  unfolding same_owner tab
  owners_same e g b eb =
      let (os, q) = ends_with s ((owners_section n).read s) ((lawful_numbers n).part s) e g in
      eb
      ∙ sym (same_tabs eqb (λ i. get_or o i 0) (id_at s) 0 n)
      ∙ ap₂ (λ (xs ys : List ℕ). same_list eqb xs ys) (sym (room_tab n 0 o)) (sym (owners_are n s os (drop e s) q))
      ∙ sym (held_owners s n o os (drop e s) q)

-- ---- behind the regions, which end at byte e
module _ (s : List ℕ) (e : ℕ) (g : Ok e ≡ section_answer (length s) ((regions_section limits).read s)) where
  pub behind_within : e ≤ length s
  behind_within = end_within s _ ((lawful_regions limits).part s) e g

  module _ (n : ℕ) (en : n ≡ little (part 0 4 s)) where
    pub counted : (rs : List Region) × ((regions_section limits).read s ≡ got rs (drop e s)) × (n ≡ length rs)
        × (n ≤ most_regions)
    unfolding part
    counted =
        let (rs, q) = ends_with s _ ((lawful_regions limits).part s) e g in
        let read = list_read_law region_format region_size region_value wide_region 1 most_regions s rs (drop e s) q in
        let m : n ≡ length rs = en ∙ sym read.count in
        (rs, q, m, omega (arith, read.most))

    pub owners_few : n ≤ most_regions
    owners_few = counted.3

-- a is what comparing the configuration answered
module _ (s : List ℕ) (gic : ℕ) (c o : List ℕ) (a : Bool) (ea : a ≡ config_held s gic c) where
  pub owned_config : not a ≡ true → false ≡ owned_held s gic c o
  unfolding owned_held
  owned_config h = all_miss _ _ (told_off a _ ea h)

  pub owned_none : (e : ℕ × ℕ) → Err e ≡ section_answer (length s) ((regions_section limits).read s)
      → false ≡ owned_held s gic c o
  unfolding owned_held owners_behind answer_by all_of
  owned_none e g = by (config_held s gic c) ((regions_section limits).read s) g
    where
      by : (x : Bool) (y : Out (List Region)) → Err e ≡ section_answer (length s) y
          → false ≡ all_of (x ∷ owners_behind o y ∷ [])
      by false y d = refl
      by true (got rs t) d = absurd (cc)
      by true (bad j t) d = refl

  pub owned_behind : (e : ℕ) → Ok e ≡ section_answer (length s) ((regions_section limits).read s) → (n : ℕ)
      → n ≡ little (part 0 4 s) → not a ≡ false → (b : Bool)
      → b ≡ owners_held (take (length s - e) (drop e s)) n o → b ≡ owned_held s gic c o
  unfolding owned_held owners_behind
  owned_behind e g n en h b eb =
      let (rs, q, m, l) = counted s e g n en in
      all_pass b _ _ (told_on a _ ea h) (all_last b _
      (eb
      ∙ ap₂ (λ (x : List ℕ) (k : ℕ). owners_held x k o) (rest_of s e) m
      ∙ sym (ap (owners_behind o) q)))
