-- Terminals with owners: their rules are the first machine's with one test widened, so what they accept it accepts; and
-- an accepted insert is of a region that the zone may hold, so no zone comes to hold another's.
use Prim.Native.Nat.{ℕ, ◌≤◌}
use mathlib.Core.Bool.{Bool, true, false, cond, not, ◌&&◌}
use mathlib.Core.List.{List, [], ◌∷◌, ◌++◌, map}
use mathlib.Core.Path.{◌≡◌, refl, sym, ap, subst, ◌∙◌}
use borrow.Author.Tests.{eqb-true, ltb-false, not-false}
use lib.Dec.{eqb}
use lib.ListN.{get_or}
use Rattle.lists.specs.First.{first_index, all}
use Rattle.lists.specs.Room.{remove_at}
use Rattle.lists.specs.Pairs.{pairwise}
use Rattle.lists.specs.Rules.{Rule, first_rule, numbered}
use Rattle.lists.specs.Tests.{all_of}
use Rattle.lists.proofs.Every.{all_at, all_map, all_one, all_append, all_set, all_removed}
use Rattle.lists.proofs.First.{first_passes}
use Rattle.lists.proofs.Rules.{Quiet, quiet, quiet_answer, test_of, silent, above_zero, numbers_tell}
use Rattle.lists.proofs.Tests.{both_false, parts, whole}
use Rattle.rules.specs.Changes.{region_set, with_side, put_set, added, pushed, cut, dropped}
use Rattle.rules.specs.Limits.{highest_id, Limits}
use Rattle.rules.specs.Owners.{may_hold, holds_own, owned_sound, stranger, eleven_too, owned_rules, owned_refusal}
use Rattle.rules.specs.Owners.{owned_next, Owned}
use Rattle.rules.specs.Requests.{find, present, insert_rules, region_rules, set_rules, remove_rules, kind_rules}
use Rattle.rules.specs.Requests.{request_rules, refusal, after, next_by, next}
use Rattle.rules.specs.Regions.{region_eq}
use Rattle.rules.specs.Tables.{empty_zone, no_zone, side_of, has_id, configured, Zone}
use Rattle.rules.specs.declared.Kind.{Kind}
use Rattle.rules.specs.declared.Kind.TheVariants.{AddZone, RemoveZone, Insert, Remove, NoRequest}
use Rattle.rules.specs.declared.Region.{Region}
use Rattle.rules.specs.declared.Request.{Request}
use Rattle.rules.specs.declared.Side.{Side}
use Rattle.rules.specs.declared.Side.TheVariants.{Cpu, Iommu}
use Rattle.rules.proofs.Keeps.{found, sound_parts, parts_sound, next_keeps, SoundTable}
use Rattle.rules.proofs.Requests.{request_numbered, request_above, none_applies}

-- ---- rules of which one test is wider
-- the numbers are as they were
wider_above : (b : Bool) (rs : List (Rule ℕ)) → above_zero (map (eleven_too b) rs) ≡ above_zero rs
unfolding above_zero eleven_too
wider_above b rs = all_map (eleven_too b) _ rs

-- where none applies now, none did
quiet_less : (b : Bool) (rs : List (Rule ℕ)) → Quiet (map (eleven_too b) rs) → Quiet rs
unfolding eleven_too
quiet_less b [] h = tt
quiet_less b (r ∷ rs) h = ((both_false r.1 (eqb r.0 11 && b) h.0).0, quiet_less b rs h.1)

same_numbers : (b : Bool) (rs : List (Rule ℕ))
    → map (λ (r : Rule ℕ). r.0) (map (eleven_too b) rs) ≡ map (λ (r : Rule ℕ). r.0) rs
unfolding eleven_too
same_numbers b [] = refl
same_numbers b (r ∷ rs) = ap (λ (ns : List ℕ). r.0 ∷ ns) (same_numbers b rs)

module _ (lim : Limits) where
  -- each number stands once
  pub owned_numbered : (o : Owned) (k : Kind) (id : ℕ) (t : List Zone) → numbered (owned_rules lim o k id t) ≡ true
  unfolding numbered owned_rules
  owned_numbered o k id t =
      ap (λ (ns : List ℕ). pairwise (λ (m n : ℕ). not (eqb m n)) (0 ∷ ns))
      (same_numbers (stranger o k id) (request_rules lim o.config k id t))
      ∙ request_numbered lim o.config k id t

  -- no rule applies to an accepted request
  owned_quiet : (o : Owned) (k : Kind) (id : ℕ) (t : List Zone) → first_rule (owned_rules lim o k id t) 0 ≡ 0
      → Quiet (owned_rules lim o k id t)
  unfolding owned_rules
  owned_quiet o k id t e =
      quiet (owned_rules lim o k id t) 0
      (numbers_tell (owned_rules lim o k id t)
      (wider_above (stranger o k id) (request_rules lim o.config k id t) ∙ request_above lim o.config k id t)) e

  -- ---- accepted here, accepted by the first machine, with the same next table
  kind_accepts : (o : Owned) (t : List Zone) (k : Kind) (id : ℕ) → first_rule (owned_rules lim o k id t) 0 ≡ 0
      → first_rule (request_rules lim o.config k id t) 0 ≡ 0
  unfolding owned_rules
  kind_accepts o t k id e =
      sym (quiet_answer (request_rules lim o.config k id t) 0
      (quiet_less (stranger o k id) (request_rules lim o.config k id t) (owned_quiet o k id t e)))

  pub first_accepts : (o : Owned) (t : List Zone) (q : Request) → owned_refusal lim o t q ≡ 0
      → refusal lim o.config t q ≡ 0
  unfolding owned_refusal refusal
  first_accepts o t q e = kind_accepts o t q.kind q.zone e

  pub same_next : (o : Owned) (t : List Zone) (q : Request) → owned_refusal lim o t q ≡ 0
      → owned_next lim o t q ≡ next lim o.config t q
  unfolding owned_next next
  same_next o t q e = ap (λ (n : ℕ). next_by n t q) (e ∙ sym (first_accepts o t q e))

  -- an accepted insert: an id, a zone that is there, a configured region, and one that the zone may hold
  pub record Inserted (o : Owned) (t : List Zone) (s : Side) (r : Region) (id : ℕ) : Type 0 where
    pub low : id ≤ highest_id
    pub there : present id t ≡ true
    pub conf : configured o.config r ≡ true
    pub may : may_hold o id s r ≡ true

  pub accepted_insert : (o : Owned) (t : List Zone) (s : Side) (r : Region) (id : ℕ)
      → first_rule (owned_rules lim o (Insert s r) id t) 0 ≡ 0 → Inserted o t s r id
  unfolding request_rules kind_rules insert_rules region_rules set_rules stranger owned_rules eleven_too test_of
  accepted_insert o t s r id e =
      let h = none_applies lim o.config (Insert s r) id t (kind_accepts o t (Insert s r) id e) in
      let g = silent (λ m. m) (owned_rules lim o (Insert s r) id t) (owned_quiet o (Insert s r) id t e) in
      record {
        low = ltb-false _ _ (h 4);
        there = not-false _ (h 6);
        conf = not-false _ (h 11);
        may = not-false _ (both_false (not (configured o.config r)) (not (may_hold o id s r)) (g 11)).1;
      }

-- ---- no zone comes to hold another's region
-- a zone with one more region, and with one less
own_pushed : (o : Owned) (s : Side) (z : Zone) (r : Region) → holds_own o z ≡ true → may_hold o z.id s r ≡ true
    → holds_own o (with_side s (side_of s z ++ r ∷ []) z) ≡ true
unfolding holds_own with_side side_of
own_pushed o Cpu z r e h =
    let p = parts _ e in
    let may = may_hold o z.id Cpu in
    whole _ (all_append may z.cpu (r ∷ []) p.0 (all_one may r h), (p.1.0, tt))
own_pushed o Iommu z r e h =
    let p = parts _ e in
    let may = may_hold o z.id Iommu in
    whole _ (p.0, (all_append may z.iommu (r ∷ []) p.1.0 (all_one may r h), tt))

own_cut : (o : Owned) (s : Side) (z : Zone) (m : ℕ) → holds_own o z ≡ true
    → holds_own o (with_side s (remove_at m (side_of s z)) z) ≡ true
unfolding holds_own with_side side_of
own_cut o Cpu z m e =
    let p = parts _ e in
    whole _ (all_removed (may_hold o z.id Cpu) z.cpu m p.0, (p.1.0, tt))
own_cut o Iommu z m e =
    let p = parts _ e in
    whole _ (p.0, (all_removed (may_hold o z.id Iommu) z.iommu m p.1.0, tt))

own_empty : (o : Owned) (id : ℕ) → holds_own o (empty_zone id) ≡ true
unfolding holds_own all all_of
own_empty o id = refl

-- the zone that was found has the id
pub found_id : (id : ℕ) (t : List Zone) → present id t ≡ true → (get_or t (find id t) no_zone).id ≡ id
found_id id t e = eqb-true _ _ (first_passes (has_id id) t no_zone (found id t e))

module _ (lim : Limits) where
  module _ (o : Owned) (t : List Zone) (id : ℕ) (own : all (holds_own o) t ≡ true) (there : present id t ≡ true) where
    abbrev here : Zone
    here = get_or t (find id t) no_zone

    here_own : holds_own o here ≡ true
    here_own = all_at (holds_own o) t no_zone own (find id t) (found id t there)

    push_own : (s : Side) (r : Region) → may_hold o id s r ≡ true → all (holds_own o) (pushed (find id t) s r t) ≡ true
    unfolding pushed put_set region_set
    push_own s r may =
        all_set (holds_own o) t (find id t) (with_side s (side_of s here ++ r ∷ []) here) own
        (own_pushed o s here r here_own (ap (λ (n : ℕ). may_hold o n s r) (found_id id t there) ∙ may))

    cut_own : (s : Side) (m : ℕ) → all (holds_own o) (cut (find id t) s m t) ≡ true
    unfolding cut put_set region_set
    cut_own s m =
        all_set (holds_own o) t (find id t) (with_side s (remove_at m (side_of s here)) here) own
        (own_cut o s here m here_own)

  accepted_own : (o : Owned) (t : List Zone) (k : Kind) (id : ℕ) → all (holds_own o) t ≡ true
      → first_rule (owned_rules lim o k id t) 0 ≡ 0 → all (holds_own o) (after k id t) ≡ true
  unfolding after added dropped request_rules kind_rules remove_rules test_of
  accepted_own o t AddZone id own e =
      all_append (holds_own o) t (empty_zone id ∷ []) own (all_one (holds_own o) (empty_zone id) (own_empty o id))
  accepted_own o t RemoveZone id own e = all_removed (holds_own o) t (find id t) own
  accepted_own o t (Insert s r) id own e =
      let h = accepted_insert lim o t s r id e in
      push_own o t id own h.there s r h.may
  accepted_own o t (Remove s r) id own e =
      let h = none_applies lim o.config (Remove s r) id t (kind_accepts lim o t (Remove s r) id e) in
      cut_own o t id own (not-false _ (h 6)) s (first_index (region_eq r) (region_set t (find id t) s))
  accepted_own o t NoRequest id own e = own

  -- ---- a sound table, part by part, stays sound
  pub record OwnedTable (o : Owned) (t : List Zone) : Type 0 where
    pub table : SoundTable lim o.config t
    pub own : all (holds_own o) t ≡ true

  pub owned_parts_law : (o : Owned) (t : List Zone) → owned_sound lim o t ≡ true → OwnedTable o t
  unfolding owned_sound
  owned_parts_law o t e = let h = parts _ e in record { table = sound_parts lim o.config t h.0; own = h.1.0 }

  pub parts_owned : (o : Owned) (t : List Zone) → OwnedTable o t → owned_sound lim o t ≡ true
  unfolding owned_sound
  parts_owned o t s = whole _ (parts_sound lim o.config t s.table, (s.own, tt))

  pub owned_keeps : (o : Owned) (t : List Zone) (q : Request) → OwnedTable o t → OwnedTable o (owned_next lim o t q)
  unfolding owned_next owned_refusal
  owned_keeps o t q s = by (eqb (owned_refusal lim o t q) 0) refl
    where
      by : (b : Bool) → eqb (owned_refusal lim o t q) 0 ≡ b → OwnedTable o (cond b (after q.kind q.zone t) t)
      by true e =
          let z : owned_refusal lim o t q ≡ 0 = eqb-true _ _ e in
          let n : next lim o.config t q ≡ after q.kind q.zone t =
          sym (same_next lim o t q z) ∙ ap (λ (m : ℕ). next_by m t q) z in
          record {
            table = subst (SoundTable lim o.config) n (next_keeps lim o.config t q s.table);
            own = accepted_own o t q.kind q.zone s.own z;
          }
      by false e = s
