-- How far a translation goes: from an address on, its region covers as many bytes as remain; in a sound table no other
-- region covers one of them, so each is translated by the same region.
use Prim.Native.Nat.{ℕ, ◌+◌, ◌-◌, ◌≤◌, ◌<◌}
use native.Mathlib.Omega.{arith}
use mathlib.Core.Bool.{Bool, true, false, cond}
use mathlib.Core.List.{List, ◌++◌}
use mathlib.Core.Path.{◌≡◌, refl, sym, ap, ◌∙◌}
use borrow.Author.Tests.{ltb-true, leb-true, lt-ltb, eqb-true, not-false}
use lib.Dec.{eqb}
use lib.ListN.{length, get_or}
use Rattle.lists.specs.First.{first_index, all}
use Rattle.lists.specs.Rules.{Rule, first_rule}
use Rattle.lists.proofs.Every.{any_make}
use Rattle.lists.proofs.First.{any_first, first_is}
use Rattle.lists.proofs.Rules.{test_of, above_zero, silent_number}
use Rattle.lists.proofs.Tests.{parts, false_of}
use Rattle.rules.specs.Changes.{region_set}
use Rattle.rules.specs.Configuration.{check, config_of, Configuration, StoredConfig}
use Rattle.rules.specs.Limits.{Limits}
use Rattle.rules.specs.Regions.{in_reach, no_region}
use Rattle.rules.specs.Requests.{find, standing_rules}
use Rattle.rules.specs.Tables.{table_of, has_id, Zone, StoredTable}
use Rattle.rules.specs.Translation.{covers_guest, covering_in, phys_in, remaining_in, translation_rules, translated_as}
use Rattle.rules.specs.Translation.{translation, translated}
use Rattle.rules.specs.declared.Guest.{Guest}
use Rattle.rules.specs.declared.Region.{Region}
use Rattle.rules.specs.declared.Side.{Side}
use Rattle.rules.specs.declared.Translated.{Translated}
use Rattle.rules.proofs.Configuration.{sound_answer}
use Rattle.rules.proofs.Keeps.{SoundTable}
use Rattle.rules.proofs.Translation.{covers_parts, parts_cover, same_distance, remains_to_end, covers_on, goes_on}
use Rattle.rules.proofs.Translation.{remains_less, none_told}
use Rattle.promises.specs.Answers.{Stands}
use Rattle.promises.specs.Stretches.{further, RemainingIs, StretchGoesOn, StretchIsConsecutive, NothingRemains}
use Rattle.promises.specs.Stretches.{StretchInReach}
use Rattle.promises.specs.Translation.{CoversGuest}
use Rattle.promises.proofs.Answers.{table_stands, standing_is_inside}
use Rattle.promises.proofs.Closure.{there}
use Rattle.promises.proofs.Tables.{inv_zones_wf}
use Rattle.promises.proofs.Translation.{xs, low_enough, zone_there, within, covers, comes_out, remains}
use Rattle.promises.proofs.Translation.{translates, one_covers}

-- something remains only where the number is 0
pub accepted : (n a i : ℕ) (r : Region) → i < (translated_as n a r).remaining → n ≡ 0
unfolding translated_as
accepted n a i r h = by (eqb n 0) refl h
  where
    by : (b : Bool) → eqb n 0 ≡ b → i < cond b (remaining_in a r) 0 → n ≡ 0
    by true e l = eqb-true n 0 e
    by false e l = absurd (omega arith)

-- ---- in any table
pub remaining_is : RemainingIs
unfolding xs covering_in
remaining_is t id side a x (e, h) =
    let r : Region = covering_in a (region_set t (find id t) side) in
    let k : covers_guest a r ≡ true = covers t id side a e in
    let n : (translation t id side a).remaining ≡ remaining_in a r = remains t id side a e in (
      r,
      (first_index (covers_guest a) (region_set t (find id t) side), within t id side a e, refl),
      sym (same_distance a r k) ∙ sym (comes_out t id side a e) ∙ h,
      λ i. (
        (λ c. let l : i < remaining_in a r = ltb-true _ _ (sym (covers_on a i r k) ∙ parts_cover (a + i) r c) in
            omega (arith, n)),
        λ l. covers_parts (a + i) r (covers_on a i r k ∙ lt-ltb i (remaining_in a r) (omega (arith, n))),
      ),
    )

module _ (t : List Zone) (id : ℕ) (side : Side) (a i : ℕ) (h : i < (translation t id side a).remaining) where
  zs : List Region
  zs = region_set t (find id t) side

  answered : (translation t id side a).number ≡ 0
  unfolding translation translated_as
  answered = accepted (first_rule (translation_rules t id side a) 0) a i (covering_in a (region_set t (find id t) side)) h

  -- the region covers the address i bytes on too
  still_covers : covers_guest (a + i) (covering_in a zs) ≡ true
  unfolding xs zs
  still_covers =
      let r : Region = covering_in a zs in
      covers_on a i r (covers t id side a answered)
      ∙ lt-ltb i (remaining_in a r) (omega (arith, remains t id side a answered))

  module _ (miss : (j : ℕ) → j < first_index (covers_guest a) zs → CoversGuest (get_or zs j no_region) (a + i) → ⊥) where
    first_on : first_index (covers_guest (a + i)) zs ≡ first_index (covers_guest a) zs
    unfolding xs zs covering_in
    first_on =
        first_is (covers_guest (a + i)) zs no_region (first_index (covers_guest a) zs) (within t id side a answered)
        still_covers (λ j l. false_of _ (λ c. miss j l (covers_parts (a + i) (get_or zs j no_region) c)))

    region_on : covering_in (a + i) zs ≡ covering_in a zs
    unfolding covering_in
    region_on = ap (λ (k : ℕ). get_or zs k no_region) first_on

    number_on : (translation t id side (a + i)).number ≡ 0
    unfolding xs zs covering_in
    number_on =
        translates t id side (a + i) (low_enough t id side a answered) (zone_there t id side a answered)
        (any_make (covers_guest (a + i)) zs no_region (first_index (covers_guest a) zs) (within t id side a answered)
        still_covers)

    goes_further : translation t id side (a + i) ≡ further i (translation t id side a)
    unfolding xs zs
    goes_further =
        let r : Region = covering_in a zs in
        let k : covers_guest a r ≡ true = covers t id side a answered in
        let at : (translation t id side (a + i)).phys.0 ≡ (translation t id side a).phys.0 + i =
        comes_out t id side (a + i) number_on ∙ ap (phys_in (a + i)) region_on ∙ goes_on a i r k
        ∙ ap (λ (x : ℕ). x + i) (sym (comes_out t id side a answered)) in
        let left : (translation t id side (a + i)).remaining ≡ (translation t id side a).remaining - i =
        remains t id side (a + i) number_on ∙ ap (remaining_in (a + i)) region_on ∙ remains_less a i r k
        ∙ ap (λ (x : ℕ). x - i) (sym (remains t id side a answered)) in
        (λ n. record { number = number_on n; phys = record { 0 = at n }; remaining = left n })

pub stretch_goes_on : StretchGoesOn
unfolding zs
stretch_goes_on t id side a i h miss = goes_further t id side a i h miss

module _ (lim : Limits) where
  -- ---- in a sound table
  pub stretch_in_reach : StretchInReach lim
  unfolding xs covering_in in_reach region_set
  stretch_in_reach s t ok id side a x (e, h) =
      let r : Region = covering_in a (region_set t (find id t) side) in
      let k : covers_guest a r ≡ true = covers t id side a e in
      let (l, u) = covers_parts a r k in
      let z : find id t < length t = there lim s t ok id (zone_there t id side a e) in
      let p =
      parts _ ((inv_zones_wf lim s t ok (find id t) side z).0 r (
        first_index (covers_guest a) (region_set t (find id t) side),
        within t id side a e,
        refl,
      )
      ).1 in
      let v : r.v.0 + r.size ≤ lim.guest_reach = leb-true _ _ p.0 in
      let w : r.p.0 + r.size ≤ lim.phys_reach = leb-true _ _ p.1.0 in
      let n : (translation t id side a).remaining ≡ r.v.0 + r.size - a =
      remains t id side a e ∙ remains_to_end a r k in
      let y : x ≡ r.p.0 + (a - r.v.0) = sym h ∙ comes_out t id side a e ∙ same_distance a r k in
      (omega arith, omega arith)

  -- in a sound table no other region covers an address of the stretch
  pub sound_further : (c : Configuration) (t : List Zone) → SoundTable lim c t → (id : ℕ) (side : Side) (a i : ℕ)
      → i < (translation t id side a).remaining → translation t id side (a + i) ≡ further i (translation t id side a)
  unfolding xs zs covering_in
  sound_further c t ok id side a i h =
      let here = answered t id side a i h in
      let z : find id t < length t = ltb-true _ _ (sym (any_first (has_id id) t) ∙ zone_there t id side a here) in
      let k = within t id side a here in
      stretch_goes_on t id side a i h
      (λ j l m.
      let one : j ≡ first_index (covers_guest a) (region_set t (find id t) side) =
      one_covers lim c t ok (find id t) side (a + i) j _ z (omega arith) k
      (parts_cover (a + i) (get_or (region_set t (find id t) side) j no_region) m) (still_covers t id side a i h) in
      omega arith)

  -- ---- from outside
  module _ (c : StoredConfig) (t : StoredTable) (id : ℕ) (side : Side) (g : Guest) where
    rules : List (Rule ℕ)
    rules = standing_rules lim c t ++ translation_rules (table_of t) id side g.0

    region : Region
    region = covering_in g.0 (region_set (table_of t) (find id (table_of t)) side)

    stands : first_rule rules 0 ≡ 0 → Stands lim c t
    unfolding rules standing_rules translation_rules test_of above_zero all
    stands e =
        let none = silent_number rules refl e in
        record { config = sound_answer (check lim c) (not-false _ (none 1)); table = not-false _ (none 2) }

    further_outside : (i : ℕ) → i < (translated lim c t id side g).remaining
        → translated lim c t id side (record { 0 = g.0 + i }) ≡ further i (translated lim c t id side g)
    unfolding translated rules region
    further_outside i h =
        let ok : Stands lim c t = stands (accepted (first_rule rules 0) g.0 i region h) in
        let inside = (standing_is_inside lim c t ok).address id side in
        inside (record { 0 = g.0 + i })
        ∙ sound_further (config_of c) (table_of t) (table_stands lim c t ok.table) id side g.0 i
        (omega (arith, ap (λ (o : Translated). o.remaining) (inside g)))
        ∙ ap (further i) (sym (inside g))

    none_refused : ((translated lim c t id side g).number ≡ 0 → ⊥) → (translated lim c t id side g).remaining ≡ 0
    unfolding translated translated_as rules region
    none_refused ne = sym (ap (λ (o : Translated). o.remaining) (none_told (first_rule rules 0) g.0 region ne))

    some_accepted : (translated lim c t id side g).number ≡ 0 → (translated lim c t id side g).remaining ≡ 0 → ⊥
    unfolding translated translated_as rules xs
    some_accepted e z =
        let inside = (standing_is_inside lim c t (stands e)).address id side g in
        let a : (translation (table_of t) id side g.0).number ≡ 0 =
        sym (ap (λ (o : Translated). o.number) inside) ∙ e in
        let r : Region = covering_in g.0 (region_set (table_of t) (find id (table_of t)) side) in
        let k : covers_guest g.0 r ≡ true = covers (table_of t) id side g.0 a in
        let (l, u) = covers_parts g.0 r k in
        omega (
          arith,
          z,
          ap (λ (o : Translated). o.remaining) inside,
          remains (table_of t) id side g.0 a ∙ remains_to_end g.0 r k,
        )

  pub stretch_is_consecutive : StretchIsConsecutive lim
  stretch_is_consecutive = further_outside

  pub nothing_remains : NothingRemains lim
  nothing_remains c t id side g = ((λ z e. some_accepted c t id side g e z), none_refused c t id side g)
