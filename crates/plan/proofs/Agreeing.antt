-- What reading into words leaves is what the format reads: where it reads a value, that value is stored; where it
-- refuses, so does this, with the same number at the same place.
use Prim.Native.Nat.{ℕ, zero, suc, ◌+◌, ◌*◌}
use mathlib.Core.List.{List, [], ◌∷◌}
use mathlib.Core.Path.{◌≡◌, refl, sym, ap, subst, ◌∙◌}
use lib.ListN.{length, set}
use lib.Seq.{sets}
use Rattle.formats.specs.Formats.{Out, got, bad, then, Format, read_number, read_both, read_as, read_many, read_count}
use Rattle.formats.specs.Formats.{read_headed, listed, number}
use Rattle.formats.proofs.Formats.{many_got}
use Rattle.rules.specs.Limits.{most_in_set, most_zones, limits}
use Rattle.rules.specs.Plan.{region_field, set_format, zone_to, zone_format, zones_section}
use Rattle.rules.specs.Tables.{Zone}
use Rattle.rules.specs.declared.Region.{Region}
use Rattle.zones.specs.Layout.{region_words, set_words, zone_base}
use Rattle.zones.specs.Records.{words_of_region}
use Rattle.plan.specs.Held.{two_sets}
use Rattle.plan.specs.Into.{Step, on, stop, given, and_then, times, put_record, record_into, put_set, set_into}
use Rattle.plan.specs.Into.{sets_into, put_zone, zone_into, put_zones, zones_into}

-- S is what becomes of words and bytes when a reader of o stores what it reads by p
unfoldable pub Agrees : {A : Type 0} → (A → List ℕ) → Out A → Step → Type 0
Agrees p (got x t) S = S ≡ on (p x) t
Agrees p (bad k t) S = (w : List ℕ) × (S ≡ stop w k t)

-- one value after another, from index i on
unfoldable pub put_all : {A : Type 0} → (ℕ → List ℕ → A → List ℕ) → ℕ → List ℕ → List A → List ℕ
put_all p i w [] = w
put_all p i w (x ∷ xs) = put_all p (suc i) (p i w x) xs

-- ---- how agreement is put together
agrees_given : {A B : Type 0} (q : B → List ℕ) (w : List ℕ) (o : Out A) (g : A → List ℕ → Out B) (f : A → List ℕ → Step)
    → ((x : A) (t : List ℕ) → Agrees q (g x t) (f x t)) → Agrees q (then o g) (given w o f)
unfolding Agrees then given
agrees_given q w (got x t) g f h = h x t
agrees_given q w (bad k t) g f h = (w, refl)

agrees_then : {A B : Type 0} (p : A → List ℕ) (q : B → List ℕ) (o : Out A) (g : A → List ℕ → Out B) (S : Step)
    (f : List ℕ → List ℕ → Step)
    → Agrees p o S → ((x : A) (t : List ℕ) → Agrees q (g x t) (f (p x) t)) → Agrees q (then o g) (and_then S f)
unfolding Agrees then and_then
agrees_then p q (got x t) g S f a h = subst (λ (r : Step). Agrees q (g x t) (and_then r f)) (sym a) (h x t)
agrees_then p q (bad k t) g S f a h = (a.0, ap (λ (r : Step). and_then r f) a.1)

-- the value seen as another
agrees_as : {A B : Type 0} (p : A → List ℕ) (q : B → List ℕ) (to : A → B) (o : Out A) (S : Step)
    → ((x : A) (t : List ℕ) → o ≡ got x t → p x ≡ q (to x)) → Agrees p o S → Agrees q (then o (λ x t. got (to x) t)) S
unfolding Agrees then
agrees_as p q to (got x t) S e a = a ∙ ap (λ (w : List ℕ). on w t) (e x t refl)
agrees_as p q to (bad k t) S e a = a

agrees_same : {A : Type 0} (p q : A → List ℕ) (o : Out A) (S : Step) → ((x : A) (t : List ℕ) → o ≡ got x t → p x ≡ q x)
    → Agrees p o S → Agrees q o S
unfolding Agrees
agrees_same p q (got x t) S h a = a ∙ ap (λ (w : List ℕ). on w t) (h x t refl)
agrees_same p q (bad k t) S h a = a

module _ {A : Type 0} (F : Format A) (p : ℕ → List ℕ → A → List ℕ) (f : ℕ → List ℕ → List ℕ → Step)
    (each : (i : ℕ) (w b : List ℕ) → Agrees (p i w) (F.read b) (f i w b)) where
  agrees_times : (n i : ℕ) (w b : List ℕ) → Agrees (put_all p i w) (read_many F n b) (times f n i w b)
  unfolding Agrees read_many times put_all
  agrees_times zero i w b = refl
  agrees_times (suc n) i w b =
      agrees_then (p i w) (put_all p i w) (F.read b) (λ x s. then (read_many F n s) (λ xs t. got (x ∷ xs) t)) (f i w b)
      (times f n (suc i)) (each i w b)
      (λ x t. agrees_as (put_all p (suc i) (p i w x)) (put_all p i w) (λ xs. x ∷ xs) (read_many F n t)
      (times f n (suc i) (p i w x) t) (λ xs u e. refl) (agrees_times n (suc i) (p i w x) t))

  -- after a count, which goes into word k
  agrees_listed : (lo hi k : ℕ) (w b : List ℕ)
      → Agrees (λ xs. put_all p 0 (set w k (length xs)) xs) ((listed 4 lo hi F).read b)
      (given w (read_count 4 lo hi b) (λ n t. times f n 0 (set w k n) t))
  unfolding read_headed
  agrees_listed lo hi k w b =
      agrees_given (λ xs. put_all p 0 (set w k (length xs)) xs) w (read_count 4 lo hi b) (λ n t. read_many F n t)
      (λ n t. times f n 0 (set w k n) t)
      (λ n t. agrees_same (put_all p 0 (set w k n)) (λ xs. put_all p 0 (set w k (length xs)) xs) (read_many F n t)
      (times f n 0 (set w k n) t)
      (λ xs u e. ap (λ (m : ℕ). put_all p 0 (set w k m) xs)
      (sym (many_got F (λ x. Unit {0}) (λ b x t e. tt) n t xs u e).0)) (agrees_times n 0 (set w k n) t))

-- ---- records, sets, zones
unfoldable pub store_record : ℕ → ℕ → List ℕ → Region → List ℕ
store_record a i w r = sets w (a + i * region_words) (words_of_region r)

unfoldable pub store_set : ℕ → ℕ → List ℕ → List Region → List ℕ
store_set k a w rs = put_all (store_record a) 0 (set w k (length rs)) rs

unfoldable pub store_sets : ℕ → List ℕ → List Region × List Region → List ℕ
store_sets k w y = store_set (k + set_words) (k + set_words + 1) (store_set k (k + 1) w y.0) y.1

unfoldable pub store_zone : ℕ → List ℕ → Zone → List ℕ
store_zone i w z = store_sets (zone_base i + 1) (set w (zone_base i) z.id) (z.cpu, z.iommu)

unfoldable pub store_zones : List ℕ → List Zone → List ℕ
store_zones w zs = put_all store_zone 0 (set w 0 (length zs)) zs

record_agrees : (a i : ℕ) (w b : List ℕ) → Agrees (store_record a i w) (region_field.read b) (record_into a i w b)
unfolding record_into store_record Agrees given put_record
record_agrees a i w b = by (region_field.read b)
  where
    by : (o : Out Region) → Agrees (λ r. sets w (a + i * region_words) (words_of_region r)) o (given w o (put_record a i w))
    by (got r t) = refl
    by (bad k t) = (w, refl)

pub set_agrees : (lo hi k a : ℕ) (w b : List ℕ)
    → Agrees (store_set k a w) ((listed 4 lo hi region_field).read b) (set_into lo hi k a w b)
unfolding set_into put_set store_set
set_agrees lo hi k a w b = agrees_listed region_field (store_record a) (record_into a) (record_agrees a) lo hi k w b

sets_agree : (k : ℕ) (w b : List ℕ) → Agrees (store_sets k w) (two_sets.read b) (sets_into k w b)
unfolding read_both store_sets sets_into
sets_agree k w b =
    agrees_then (store_set k (k + 1) w) (store_sets k w) ((set_format limits).read b)
    (λ x s. then ((set_format limits).read s) (λ y u. got (x, y) u))
    (set_into 0 most_in_set k (k + 1) w b) (set_into 0 most_in_set (k + set_words) (k + set_words + 1))
    (set_agrees 0 most_in_set k (k + 1) w b)
    (λ x s. agrees_as (store_set (k + set_words) (k + set_words + 1) (store_set k (k + 1) w x)) (store_sets k w)
    (λ y. (x, y)) ((set_format limits).read s)
    (set_into 0 most_in_set (k + set_words) (k + set_words + 1) (store_set k (k + 1) w x) s) (λ y u e. refl)
    (set_agrees 0 most_in_set (k + set_words) (k + set_words + 1) (store_set k (k + 1) w x) s))

zone_agrees : (i : ℕ) (w b : List ℕ) → Agrees (store_zone i w) ((zone_format limits).read b) (zone_into i w b)
unfolding read_as read_both zone_into put_zone store_zone
zone_agrees i w b =
    agrees_as (λ t. store_zone i w (zone_to t)) (store_zone i w) zone_to (read_both (number 4) two_sets b) (zone_into i w b)
    (λ t u e. refl)
    (agrees_given (λ t. store_zone i w (zone_to t)) w (read_number 4 b)
    (λ x s. then (two_sets.read s) (λ y t. got (x, y) t)) (put_zone i w)
    (λ id t. agrees_as (store_sets (zone_base i + 1) (set w (zone_base i) id)) (λ t. store_zone i w (zone_to t))
    (λ y. (id, y)) (two_sets.read t) (sets_into (zone_base i + 1) (set w (zone_base i) id) t) (λ y u e. refl)
    (sets_agree (zone_base i + 1) (set w (zone_base i) id) t)))

pub zones_agree : (w b : List ℕ) → Agrees (store_zones w) ((zones_section limits).read b) (zones_into w b)
unfolding zones_into put_zones store_zones
zones_agree w b = agrees_listed (zone_format limits) store_zone zone_into zone_agrees 0 most_zones 0 w b
