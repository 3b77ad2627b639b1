-- Reading into words, whatever is read: S is the whole of what becomes of the words and the bytes, and what is left to
-- be read from a place on gives it.
use Prim.Native.Nat.{ℕ, suc, ◌+◌, ◌-◌, ◌*◌, ◌≤◌, ◌<◌}
use native.Mathlib.Omega.{arith}
use mathlib.Core.List.{List}
use mathlib.Core.Path.{◌≡◌, refl, sym, ap, subst, ◌∙◌}
use lib.ListN.{length, drop, set, length-set}
use lib.Seq.{sets}
use Rattle.formats.specs.Formats.{Out, read_number, read_count}
use Rattle.formats.proofs.Formats.{count_got}
use Rattle.rules.specs.Fields.{region_size, short_size}
use Rattle.rules.specs.Limits.{most_in_set, most_zones}
use Rattle.rules.specs.Plan.{region_field}
use Rattle.rules.specs.declared.Region.{Region}
use Rattle.zones.specs.Layout.{region_words, set_words, table_words, zone_base, zone_start}
use Rattle.zones.specs.Records.{words_of_region, placed}
use Rattle.zones.proofs.Readers.{start_is}
use Rattle.zones.proofs.Records.{has_room}
use Rattle.plan.specs.Fields.{field_out, field_end, FieldRead}
use Rattle.plan.specs.Into.{Step, on, given, and_then, times, put_record, record_into, put_set, set_into}
use Rattle.plan.specs.Into.{sets_into, put_zone, zone_into, put_zones, zones_into, step_of, section_place, Reads}
use Rattle.plan.specs.declared.refused.Refused.{Refused}
use Rattle.std.proofs.Common.{Result, Ok, Err}
use Rattle.plan.proofs.Fields.{field_is}

-- ---- where a reader ends
ends_here : (s w : List ℕ) (S : Step) (at : ℕ) → S ≡ on w (drop at s) → at ≤ length s → Reads s w (Ok at) S
unfolding step_of section_place
ends_here s w S at e h = record { step = e; within = h }

-- a count that was read is no more than it may be
pub count_most : (s : List ℕ) (at lo hi n : ℕ) → FieldRead short_size s at (read_count 4 lo hi (drop at s)) (Ok n) → n ≤ hi
count_most s at lo hi n read =
    (count_got 4 lo hi (drop at s) n (drop (at + 4) s)
    (field_is short_size s at (read_count 4 lo hi (drop at s)) n read)).1.1

-- ---- after a field of m bytes
module _ {A : Type 0} (m : ℕ) (s w : List ℕ) (at : ℕ) (o : Out A) (f : A → List ℕ → Step) where
  given_stops : (r : Refused) → FieldRead m s at o (Err r) → Reads s w (Err r) (given w o f)
  unfolding given field_out field_end step_of section_place
  given_stops r read = record { step = ap (λ (x : Out A). given w x f) read.read; within = read.within }

  given_leads : (x : A) → FieldRead m s at o (Ok x) → (v : List ℕ) (r : Result ℕ Refused)
      → Reads s v r (f x (drop (at + m) s)) → Reads s v r (given w o f)
  unfolding given field_out
  given_leads x read v r q = record { step = ap (λ (x : Out A). given w x f) read.read ∙ q.step; within = q.within }

-- as long as before, after a store and then a call
pub kept_after : (v w : List ℕ) (k x : ℕ) → length v ≡ length (set w k x) → length v ≡ length w
kept_after v w k x e = e ∙ length-set w k x

-- ---- a region, into record i of those from word a on
module _ (s w : List ℕ) (at a i : ℕ) where
  pub record_stops : (e : Refused) → FieldRead region_size s at (region_field.read (drop at s)) (Err e)
      → Reads s w (Err e) (record_into a i w (drop at s))
  unfolding record_into
  record_stops e = given_stops region_size s w at (region_field.read (drop at s)) (put_record a i w) e

  pub record_ends : (r : Region) (v : List ℕ) → FieldRead region_size s at (region_field.read (drop at s)) (Ok r)
      → v ≡ placed w (a + i * region_words) r → a + (i + 1) * region_words ≤ length w
      → Reads s v (Ok (at + region_size)) (record_into a i w (drop at s))
  unfolding record_into put_record field_end
  record_ends r v read p room =
      given_leads region_size s w at (region_field.read (drop at s)) (put_record a i w) r read v (Ok (at + region_size))
      (ends_here s v (put_record a i w r (drop (at + region_size) s)) (at + region_size)
      (ap (λ (u : List ℕ). on u (drop (at + region_size) s))
      (has_room w (a + i * region_words) r (sets w (a + i * region_words) (words_of_region r)) (omega arith) refl ∙ sym p))
      read.within)

-- ---- a set, after its count; a zone, after its id
module _ (s w : List ℕ) (at : ℕ) where
  module _ (lo hi k a : ℕ) where
    pub set_stops : (e : Refused) → FieldRead short_size s at (read_count 4 lo hi (drop at s)) (Err e)
        → Reads s w (Err e) (set_into lo hi k a w (drop at s))
    unfolding set_into
    set_stops e = given_stops short_size s w at (read_count 4 lo hi (drop at s)) (put_set k a w) e

    module _ (n : ℕ) (read : FieldRead short_size s at (read_count 4 lo hi (drop at s)) (Ok n)) where
      pub set_leads : (v : List ℕ) (r : Result ℕ Refused)
          → Reads s v r (times (record_into a) n 0 (set w k n) (drop (at + 4) s))
          → Reads s v r (set_into lo hi k a w (drop at s))
      unfolding set_into put_set
      set_leads = given_leads short_size s w at (read_count 4 lo hi (drop at s)) (put_set k a w) n read

      pub records_room : a + hi * region_words ≤ length w → a + n * region_words ≤ length (set w k n)
      records_room h = omega (arith, length-set w k n, count_most s at lo hi n read)

  pub zone_stops : (i : ℕ) (e : Refused) → FieldRead short_size s at (read_number 4 (drop at s)) (Err e)
      → Reads s w (Err e) (zone_into i w (drop at s))
  unfolding zone_into
  zone_stops i e = given_stops short_size s w at (read_number 4 (drop at s)) (put_zone i w) e

  pub zone_leads : (i z n : ℕ) (v : List ℕ) (r : Result ℕ Refused) → z ≡ zone_start i → i < most_zones
      → FieldRead short_size s at (read_number 4 (drop at s)) (Ok n)
      → Reads s v r (sets_into (z + 1) (set w z n) (drop (at + 4) s)) → Reads s v r (zone_into i w (drop at s))
  unfolding zone_into put_zone
  zone_leads i z n v r q h read g =
      given_leads short_size s w at (read_number 4 (drop at s)) (put_zone i w) n read v r
      (subst (λ (k : ℕ). Reads s v r (sets_into (k + 1) (set w k n) (drop (at + 4) s))) (start_is i z q h) g)

-- the zones' section, after its count
module _ (s w : List ℕ) where
  pub zones_stop : (e : Refused) → FieldRead short_size s 0 (read_count 4 0 most_zones (drop 0 s)) (Err e)
      → Reads s w (Err e) (zones_into w s)
  unfolding zones_into
  zones_stop e = given_stops short_size s w 0 (read_count 4 0 most_zones s) (put_zones w) e

  module _ (n : ℕ) (read : FieldRead short_size s 0 (read_count 4 0 most_zones (drop 0 s)) (Ok n)) where
    pub zones_lead : (v : List ℕ) (r : Result ℕ Refused)
        → Reads s v r (times zone_into n 0 (set w 0 n) (drop 4 s)) → Reads s v r (zones_into w s)
    unfolding zones_into put_zones
    zones_lead = given_leads short_size s w 0 (read_count 4 0 most_zones s) (put_zones w) n read

    pub zones_room : table_words ≤ length w → zone_base n ≤ length (set w 0 n)
    zones_room h = omega (arith, length-set w 0 n, count_most s 0 0 most_zones n read)

-- ---- one after another
module _ (s v : List ℕ) (S : Step) (f : List ℕ → List ℕ → Step) where
  pub then_stops : (e : Refused) → Reads s v (Err e) S → Reads s v (Err e) (and_then S f)
  unfolding and_then step_of
  then_stops e read = record { step = ap (λ (x : Step). and_then x f) read.step; within = read.within }

  pub then_goes : (a : ℕ) → Reads s v (Ok a) S → (u : List ℕ) (q : Result ℕ Refused) → Reads s u q (f v (drop a s))
      → Reads s u q (and_then S f)
  unfolding and_then step_of
  then_goes a read u q g = record { step = ap (λ (x : Step). and_then x f) read.step ∙ g.step; within = g.within }

-- two sets
module _ (s w v : List ℕ) (start k : ℕ) where
  pub sets_stop : (e : Refused) → Reads s v (Err e) (set_into 0 most_in_set k (k + 1) w (drop start s))
      → Reads s v (Err e) (sets_into k w (drop start s))
  unfolding sets_into
  sets_stop =
      then_stops s v (set_into 0 most_in_set k (k + 1) w (drop start s))
      (set_into 0 most_in_set (k + set_words) (k + set_words + 1))

  pub sets_go : (a : ℕ) → Reads s v (Ok a) (set_into 0 most_in_set k (k + 1) w (drop start s))
      → (u : List ℕ) (q : Result ℕ Refused)
      → Reads s u q (set_into 0 most_in_set (k + set_words) (k + set_words + 1) v (drop a s))
      → Reads s u q (sets_into k w (drop start s))
  unfolding sets_into
  sets_go =
      then_goes s v (set_into 0 most_in_set k (k + 1) w (drop start s))
      (set_into 0 most_in_set (k + set_words) (k + set_words + 1))

-- ---- a loop: what becomes of those from i on is what becomes of all of them
module _ (f : ℕ → List ℕ → List ℕ → Step) (s w : List ℕ) (n i at : ℕ) (R : Step)
    (inv : times f (n - i) i w (drop at s) ≡ R) where
  pub loop_ends : n ≤ i → at ≤ length s → Reads s w (Ok at) R
  unfolding times
  loop_ends h l =
      let e : n - i ≡ 0 = omega arith in
      ends_here s w R at (sym inv ∙ ap (λ (m : ℕ). times f m i w (drop at s)) e) l

  turn : i < n → and_then (f i w (drop at s)) (times f (n - (i + 1)) (suc i)) ≡ R
  unfolding times
  turn h = let e : n - i ≡ suc (n - (i + 1)) = omega arith in sym (ap (λ (m : ℕ). times f m i w (drop at s)) e) ∙ inv

  module _ (h : i < n) (v : List ℕ) where
    pub loop_stops : (e : Refused) → Reads s v (Err e) (f i w (drop at s)) → Reads s v (Err e) R
    loop_stops e read =
        subst (Reads s v (Err e)) (turn h) (then_stops s v (f i w (drop at s)) (times f (n - (i + 1)) (suc i)) e read)

    pub loop_goes : (a : ℕ) → Reads s v (Ok a) (f i w (drop at s)) → times f (n - (i + 1)) (i + 1) v (drop a s) ≡ R
    unfolding and_then step_of
    loop_goes a read =
        let z : i + 1 ≡ suc i = omega arith in
        ap (λ (j : ℕ). times f (n - (i + 1)) j v (drop a s)) z
        ∙ sym (ap (λ (x : Step). and_then x (times f (n - (i + 1)) (suc i))) read.step)
        ∙ turn h

pub loop_starts : (f : ℕ → List ℕ → List ℕ → Step) (n : ℕ) (w b : List ℕ) → times f (n - 0) 0 w b ≡ times f n 0 w b
loop_starts f n w b = let e : n - 0 ≡ n = omega arith in ap (λ (m : ℕ). times f m 0 w b) e

-- an answer's offset lies among the bytes
pub within_end : (s v : List ℕ) (S : Step) (a : ℕ) → Reads s v (Ok a) S → a ≤ length s
unfolding section_place
within_end s v S a q = q.within
