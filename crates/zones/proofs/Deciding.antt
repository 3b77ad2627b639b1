-- Each return of `decide` is one rule: the search before it says whether the
-- rule's test holds, and the rules before it are known to be silent.
use Prim.Native.Nat.{ℕ, ◌≤◌, ◌<◌}
use native.Mathlib.Omega.{arith}
use mathlib.Core.Bool.{Bool, true, false, not, ◌&&◌, ◌||◌}
use mathlib.Core.List.{List, [], ◌∷◌}
use mathlib.Core.Path.{◌≡◌, refl, sym, ap, ap₂, ◌∙◌}
use borrow.Author.Tests.{ltb-true, not-false, lt-ltb, le-ltb, le-leb, lt-leb}
use lib.Dec.{ltb, leb}
use lib.ListN.{length}
use Rattle.std.specs.Prelude.{Result, Ok, Err, position, is_some}
use Rattle.std.specs.declared.option.Option.{Option}
use Rattle.std.specs.declared.option.Option.TheVariants.{Some, None}
use Rattle.lists.specs.First.{first_index, first_from, any, all}
use Rattle.lists.specs.Rules.{Rule, ◌when◌, first_rule}
use Rattle.lists.proofs.First.{any_first, from_zero}
use Rattle.lists.proofs.Rules.{test_of, silent, above_zero}
use Rattle.lists.proofs.Tests.{or_left}
use Rattle.rules.specs.Changes.{region_set}
use Rattle.rules.specs.Configuration.{gic_of, Configuration}
use Rattle.rules.specs.Limits.{most_zones, highest_id, most_in_set, limits}
use Rattle.rules.specs.Regions.{region_eq, phys_overlap}
use Rattle.rules.specs.Requests.{find, others, held_in, holds_any, on_gic, forbidden, region_rules, set_rules}
use Rattle.rules.specs.Tables.{has_id, configured, Zone}
use Rattle.rules.specs.declared.Kind.TheVariants.{AddZone, RemoveZone, Insert, Remove, NoRequest}
use Rattle.rules.specs.declared.Region.{Region}
use Rattle.rules.specs.declared.Request.{Request}
use Rattle.rules.specs.declared.Side.{Side}
use Rattle.rules.specs.declared.refusal.Refusal.{Refusal}
use Rattle.rules.specs.declared.refusal.Refusal.TheVariants.{NoZone}
use Rattle.std.specs.Option.{ok_or}
use Rattle.rules.specs.declared.Side.TheVariants.{Cpu, Iommu}
use Rattle.zones.specs.Decide.{in_numbers, ruled, id_rules, name_rules, decided_add, decided_drop, decided_insert, decided_cut, decided_kind, decided}
use Rattle.zones.specs.Decide.{shared_elsewhere, Ready}
use Rattle.zones.specs.Holding.{holds}
use Rattle.zones.specs.View.{config_in, set_in, zones_in}
use Rattle.zones.specs.Words.{Within}
use Rattle.zones.specs.declared.decide.Change.{Change}
use Rattle.zones.specs.declared.decide.Change.TheVariants.{Drop, Push, Cut}
use Rattle.zones.proofs.ConfigReaders.{config_sound}
use Rattle.zones.proofs.Finding.{some_any, found_first, found_none}
use Rattle.zones.proofs.Forbidden.{forbidden_shared}
use Rattle.zones.proofs.Ruling.{passed, stage_refuses}
use Rattle.zones.proofs.Writers.{set_in_law}

-- ---- what is found: the answer of a search, and whether it found anything
module _ {A : Type 0} (p : A → Bool) (xs : List A) (o : Option ℕ) (eo : o ≡ position p xs) (b : Bool) (eb : b ≡ is_some o) where
  pub some_told : (v : Bool) → b ≡ v → any p xs ≡ v
  some_told v e = sym (eb ∙ ap is_some eo ∙ some_any p xs) ∙ e

-- the search for a zone refuses by 6
pub zone_named : (t : List Zone) (id : ℕ) (o : Option ℕ) → o ≡ position (has_id id) t → (r : Result ℕ Refusal) → r ≡ ok_or o NoZone
    → in_numbers r ≡ ruled (6 when not (any (has_id id) t) ∷ []) (find id t)
unfolding first_rule
zone_named t id None eo r er = rw (er, found_none (has_id id) t eo)
zone_named t id (Some z) eo r er =
    rw (er, sym (ap is_some eo ∙ some_any (has_id id) t)) (ap (λ (k : ℕ). Ok k) (found_first (has_id id) t z eo).0)

module _ (t : List Zone) (n : ℕ) (en : n ≡ length t) where
  pub table_full : most_zones ≤ n → leb most_zones (length t) ≡ true
  table_full h = le-leb most_zones (length t) (omega arith)

  pub table_not_full : n < most_zones → leb most_zones (length t) ≡ false
  table_not_full h = lt-leb most_zones (length t) (omega arith)

-- ---- what looks at an id, and what looks for its zone
pub low_id : (id : ℕ) (u : Unit {0}) → ◌≡◌ {A = Result (Unit {0}) ℕ} (Ok u) (ruled (id_rules id) tt) → ltb highest_id id ≡ false
low_id id u e = (passed (id_rules id) tt u e).0.0

module _ {B : Type 0} (vs : List (Rule ℕ)) (y : B) (n : ℕ) (id : ℕ) where
  pub id_refused : ◌≡◌ {A = Result (Unit {0}) ℕ} (Err n) (ruled (id_rules id) tt)
      → Err n ≡ ruled (4 when ltb highest_id id ∷ vs) y
  id_refused e = stage_refuses (id_rules id) vs tt y n e

  pub name_refused : (t : List Zone) → ◌≡◌ {A = Result ℕ ℕ} (Err n) (ruled (name_rules id t) (find id t))
      → Err n ≡ ruled (4 when ltb highest_id id ∷ 6 when not (any (has_id id) t) ∷ vs) y
  name_refused t e = stage_refuses (name_rules id t) vs (find id t) y n e

-- a zone that the rules for an id let pass is there
module _ (t : List Zone) (id z : ℕ) (e : Ok z ≡ ruled (name_rules id t) (find id t)) where
  pub named_is : z ≡ find id t
  named_is = (passed (name_rules id t) (find id t) z e).1

  pub named_low : ltb highest_id id ≡ false
  named_low = (passed (name_rules id t) (find id t) z e).0.0

  pub named_present : not (any (has_id id) t) ≡ false
  named_present = (passed (name_rules id t) (find id t) z e).0.1.0

  pub named_there : z < length t
  named_there =
      let h : find id t < length t = ltb-true _ _ (sym (any_first (has_id id) t) ∙ not-false _ named_present) in
      omega (arith, named_is)

-- ---- the set of a zone that is there
module _ (w : List ℕ) (z : ℕ) (s : Side) (h : z < length (zones_in w)) where
  module _ (n : ℕ) (en : n ≡ length (set_in w z s)) where
    long : n ≡ length (region_set (zones_in w) z s)
    long = en ∙ ap length (sym (set_in_law w z s h))

    pub no_room : most_in_set ≤ n → leb most_in_set (length (region_set (zones_in w) z s)) ≡ true
    no_room q = le-leb most_in_set (length (region_set (zones_in w) z s)) (omega (arith, long))

    pub some_room : n < most_in_set → leb most_in_set (length (region_set (zones_in w) z s)) ≡ false
    some_room q = lt-leb most_in_set (length (region_set (zones_in w) z s)) (omega (arith, long))

  module _ (p : Region → Bool) (o : Option ℕ) (eo : o ≡ position p (set_in w z s)) where
    index : any p (region_set (zones_in w) z s) ≡ is_some o
    index = ap (any p) (set_in_law w z s h) ∙ sym (some_any p (set_in w z s)) ∙ ap is_some (sym eo)

    pub set_told : (b v : Bool) → b ≡ is_some o → b ≡ v → any p (region_set (zones_in w) z s) ≡ v
    set_told b v eb e = index ∙ sym eb ∙ e

-- either set holds a region
module _ (w : List ℕ) (z : ℕ) (h : z < length (zones_in w)) (n : ℕ) (en : n ≡ length (set_in w z Cpu)) where
  pub cpu_holds : 0 < n → true ≡ holds_any z (zones_in w)
  unfolding holds_any
  cpu_holds q = sym (or_left _ _ (lt-ltb 0 (length (region_set (zones_in w) z Cpu)) (omega (arith, long w z Cpu h n en))))

  pub iommu_holds : (m : ℕ) → n ≤ 0 → m ≡ length (set_in w z Iommu) → ltb 0 m ≡ holds_any z (zones_in w)
  unfolding holds_any
  iommu_holds m q em =
      ap (ltb 0) (long w z Iommu h m em)
      ∙ sym (ap (λ (b : Bool). b || ltb 0 (length (region_set (zones_in w) z Iommu)))
      (le-ltb 0 (length (region_set (zones_in w) z Cpu)) (omega (arith, long w z Cpu h n en))))

-- the same where the zone was looked for by its id
module _ (w : List ℕ) (id z : ℕ) (named : Ok z ≡ ruled (name_rules id (zones_in w)) (find id (zones_in w))) where
  ez : z ≡ find id (zones_in w)
  ez = named_is (zones_in w) id z named

  here : z < length (zones_in w)
  here = named_there (zones_in w) id z named

  pub holds_told : (b v : Bool) → b ≡ holds_any z (zones_in w) → b ≡ v → holds_any (find id (zones_in w)) (zones_in w) ≡ v
  holds_told b v e f = ap (λ (k : ℕ). holds_any k (zones_in w)) (sym ez) ∙ sym e ∙ f

  pub dropped_there : ◌≡◌ {A = Result Change ℕ} (Ok (Drop z)) (Ok (Drop (find id (zones_in w))))
  dropped_there = ap (λ (k : ℕ). Ok (Drop k)) ez

  module _ (s : Side) (r : Region) where
    pub region_not_held : ◌≡◌ {A = Option ℕ} None (position (region_eq r) (set_in w z s))
        → not (held_in r (region_set (zones_in w) (find id (zones_in w)) s)) ≡ true
    region_not_held eo =
        ap not (ap (λ (k : ℕ). held_in r (region_set (zones_in w) k s)) (sym ez) ∙ index w z s here (region_eq r) None eo)

    module _ (i : ℕ) (eo : ◌≡◌ {A = Option ℕ} (Some i) (position (region_eq r) (set_in w z s))) where
      pub region_held : not (held_in r (region_set (zones_in w) (find id (zones_in w)) s)) ≡ false
      region_held =
          ap not (ap (λ (k : ℕ). held_in r (region_set (zones_in w) k s)) (sym ez)
          ∙ index w z s here (region_eq r) (Some i) eo)

      pub cut_there : ◌≡◌ {A = Result Change ℕ} (Ok (Cut z s i)) (Ok (Cut (find id (zones_in w)) s
          (first_index (region_eq r) (region_set (zones_in w) (find id (zones_in w)) s))))
      cut_there =
          ap₂ (λ (k j : ℕ). Ok (Cut k s j)) ez ((found_first (region_eq r) (set_in w z s) i eo).0
          ∙ ap (first_index (region_eq r)) (sym (set_in_law w z s here))
          ∙ ap (λ (k : ℕ). first_index (region_eq r) (region_set (zones_in w) k s)) ez)

  -- the last stage of an insert looks at the position
  pub last_at : (c : Configuration) (s : Side) (r : Region) (d : Result Change ℕ)
      → d ≡ ruled (set_rules limits c z s r (zones_in w)) (Push z s r)
      → d ≡ ruled (set_rules limits c (find id (zones_in w)) s r (zones_in w)) (Push (find id (zones_in w)) s r)
  last_at c s r d e = e ∙ ap (λ (k : ℕ). ruled (set_rules limits c k s r (zones_in w)) (Push k s r)) ez

-- ---- what 9 to 12 leave
module _ (c : Configuration) (s : Side) (r : Region) (none : ◌≡◌ {A = Result (Unit {0}) ℕ} (Ok tt) (ruled (region_rules limits c s r) tt)) where
  clear : (m : ℕ) → test_of (λ k. k) m (region_rules limits c s r) ≡ false
  clear = silent (λ k. k) (region_rules limits c s r) (passed (region_rules limits c s r) tt tt none).0

  pub region_configured : configured c r ≡ true
  unfolding region_rules test_of
  region_configured = not-false _ (clear 11)

  pub region_off_gic : on_gic c s r ≡ false
  unfolding region_rules test_of
  region_off_gic = clear 12

-- 12
pub gic_cpu : (c : Configuration) (s : Side) (r g : Region) (t : Bool) → s ≡ Cpu → g ≡ gic_of c → t ≡ phys_overlap r g
    → t ≡ on_gic c s r
unfolding on_gic
gic_cpu c s r g t e q h = rw e (h ∙ ap (phys_overlap r) q)

pub gic_iommu : (c : Configuration) (s : Side) (r : Region) → s ≡ Iommu → false ≡ on_gic c s r
unfolding on_gic
gic_iommu c s r e = rw e

-- ---- 14
module _ (c t : List ℕ) (ok : Ready c t) (z : ℕ) (s : Side) (r : Region) (h : z < length (zones_in t))
    (there : configured (config_in c) r ≡ true) (off : on_gic (config_in c) s r ≡ false)
    (o : Option ℕ) (eo : o ≡ position (region_eq r) (set_in t z s)) (f : Bool) (ef : f ≡ is_some o) (none : f ≡ false)
    (b v : Bool) where
  pub forbidden_told : b ≡ shared_elsewhere (config_in c) z r (zones_in t) → b ≡ v
      → forbidden (config_in c) z s r (zones_in t) ≡ v
  forbidden_told e g =
      forbidden_shared (config_in c) (zones_in t) z s r (config_sound c ok.config) ok.table h there off
      (set_told t z s h (region_eq r) o eo f false ef none)
      ∙ sym e
      ∙ g

module _ (c : Configuration) (k : ℕ) (r g : Region) (t : List Zone) (b : Bool) (eg : g ≡ gic_of c)
    (eb : b ≡ region_eq r g) where
  pub gic_shared : b ≡ true → false ≡ shared_elsewhere c k r t
  unfolding shared_elsewhere
  gic_shared f = sym (ap (λ (x : Bool). not x && any (holds r) (others k t)) (ap (region_eq r) (sym eg) ∙ sym eb ∙ f))

  pub private_shared : b ≡ false → (x : Bool) → x ≡ any (holds r) (others k t) → x ≡ shared_elsewhere c k r t
  unfolding shared_elsewhere
  private_shared f x e =
      e ∙ sym (ap (λ (y : Bool). not y && any (holds r) (others k t)) (ap (region_eq r) (sym eg) ∙ sym eb ∙ f))

-- ---- by the kind of a request
module _ (c : Configuration) (t : List Zone) (q : Request) (d : Result Change ℕ) where
  pub kind_add : q.kind ≡ AddZone → d ≡ decided_add q.zone t → d ≡ decided c t q
  unfolding decided decided_kind
  kind_add e h = rw e h

  pub kind_drop : q.kind ≡ RemoveZone → d ≡ decided_drop q.zone t → d ≡ decided c t q
  unfolding decided decided_kind
  kind_drop e h = rw e h

  pub kind_insert : (s : Side) (r : Region) → q.kind ≡ Insert s r → d ≡ decided_insert c q.zone s r t
      → d ≡ decided c t q
  unfolding decided decided_kind
  kind_insert s r e h = rw e h

  pub kind_cut : (s : Side) (r : Region) → q.kind ≡ Remove s r → d ≡ decided_cut q.zone s r t → d ≡ decided c t q
  unfolding decided decided_kind
  kind_cut s r e h = rw e h

  pub kind_none : q.kind ≡ NoRequest → d ≡ Err 3 → d ≡ decided c t q
  unfolding decided decided_kind
  kind_none e h = rw e h

-- what `decide` asks is at hand
pub ready_within : (c t : List ℕ) → Ready c t → Within (zones_in t)
ready_within c t r = r.words.within

-- no rule of a region, or of a set, has the number 0
pub region_above : (c : Configuration) (s : Side) (r : Region) → above_zero (region_rules limits c s r) ≡ true
unfolding region_rules above_zero all
region_above c s r = refl

pub set_above : (c : Configuration) (k : ℕ) (s : Side) (r : Region) (t : List Zone) → above_zero (set_rules limits c k s r t) ≡ true
unfolding set_rules above_zero all
set_above c k s r t = refl
