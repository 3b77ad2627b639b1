-- A run: at request i the words hold the table that the requests before it
-- leave, and what is left of the requests gives the whole outcome.
use Prim.Native.Nat.{ℕ, zero, suc, ◌+◌, ◌-◌, ◌*◌, ◌/◌, ◌≤◌, ◌<◌}
use native.Mathlib.Omega.{arith}
use mathlib.Core.Bool.{Bool, true, false, cond}
use mathlib.Core.List.{List, [], ◌∷◌, map}
use mathlib.Core.Path.{◌≡◌, refl, sym, ap, ap₂, subst, ◌∙◌}
use borrow.Author.Tests.{eq-eqb, ne_eqb}
use lib.Dec.{eqb}
use lib.ListN.{length, take, drop, length-take, length-drop}
use lib.Seq.{take-take, drop-drop}
use Rattle.lists.specs.Bytes.{little}
use Rattle.lists.specs.Places.{places, tab}
use Rattle.lists.specs.Words.{part}
use Rattle.lists.proofs.Places.{places_step, places_end}
use Rattle.rules.specs.Fields.{long_size, region_size, region_of}
use Rattle.rules.specs.Limits.{limits}
use Rattle.rules.specs.Regions.{used}
use Rattle.rules.specs.Requests.{refusal, after, next, standing}
use Rattle.rules.specs.Run.{bare, make_kind, make_request, request_size, number_at, region_in, request_from, requests_in, run_from}
use Rattle.rules.specs.Run.{run, ended, run_answer, Run}
use Rattle.rules.specs.Tables.{table_of, sound, Zone}
use Rattle.rules.specs.declared.Kind.{Kind}
use Rattle.rules.specs.declared.Kind.TheVariants.{NoRequest}
use Rattle.rules.specs.declared.Outcome.{Outcome}
use Rattle.rules.specs.declared.Region.{Region}
use Rattle.rules.specs.declared.Request.{Request}
use Rattle.rules.proofs.Fields.{by_same}
use Rattle.rules.proofs.Keeps.{sound_parts, parts_sound, next_keeps}
use Rattle.zones.specs.Decide.{Ready}
use Rattle.zones.specs.Run.{run_words, RanIn}
use Rattle.zones.specs.View.{stored_config, config_in, stored_table, zones_in}
use Rattle.zones.specs.Words.{words_of, Within, Packed}
use Rattle.zones.proofs.Focus.{view_words, words_packed}
use Rattle.zones.proofs.Stepping.{sound_within, stands_same}

-- ---- a request from its numbers
module _ (k : Kind) (r : Region) (b : Bool) (e : b ≡ used r) where
  pub bare_used : b ≡ true → NoRequest ≡ bare k r
  bare_used h = sym (ap (λ (x : Bool). cond x NoRequest k) (sym e ∙ h))

  pub bare_zero : b ≡ false → k ≡ bare k r
  bare_zero h = sym (ap (λ (x : Bool). cond x NoRequest k) (sym e ∙ h))

pub made : (kind zone : ℕ) (r : Region) (k : Kind) → k ≡ make_kind kind r
    → record { zone = zone; kind = k } ≡ make_request kind zone r
unfolding make_request
made kind zone r k e = λ i. record { zone = zone; kind = e i }

-- what stands among bytes is that of its own bytes
pub part_take : (k n m : ℕ) (l : List ℕ) → k + n ≤ m → part k n (take m l) ≡ part k n l
unfolding part
part_take zero n m l h = take-take n m l (omega arith)
part_take (suc k) n zero l h = absurd (omega arith)
part_take (suc k) n (suc m) [] h = refl
part_take (suc k) n (suc m) (x ∷ l) h = part_take k n m l (omega arith)

module _ (b : List ℕ) (at e : ℕ) where
  pub own_number_law : (k n : ℕ) → k + n ≤ e - at → number_at n (take (e - at) (drop at b)) k ≡ number_at n b (at + k)
  unfolding part
  own_number_law k n l = ap little (part_take k n (e - at) (drop at b) l ∙ ap (take n) (drop-drop k at b))

  pub own_region : (k : ℕ) → k + region_size ≤ e - at → region_in (take (e - at) (drop at b)) k ≡ region_in b (at + k)
  unfolding region_in
  own_region k l =
      by_same (λ i. number_at long_size (take (e - at) (drop at b)) (k + i * long_size))
      (λ i. number_at long_size b (at + k + i * long_size))
      (λ i h.
      let m : at + (k + i * long_size) ≡ at + k + i * long_size = omega arith in
      own_number_law (k + i * long_size) long_size (omega arith) ∙ ap (number_at long_size b) m)

  pub region_within : at + region_size ≤ e → region_in (take (e - at) (drop at b)) 0 ≡ region_in b at
  region_within h =
      let z : at + 0 ≡ at = omega arith in
      own_region 0 (omega arith) ∙ ap (region_in b) z

  pub request_within : (q : Request) → at + request_size ≤ e → q ≡ request_from (take (e - at) (drop at b)) 0
      → q ≡ request_from b at
  unfolding request_from
  request_within q h g =
      let z : at + 0 ≡ at = omega arith in
      let kind : number_at 4 (take (e - at) (drop at b)) 0 ≡ number_at 4 b at =
      own_number_law 0 4 (omega arith) ∙ ap (number_at 4 b) z in
      let zone : number_at 4 (take (e - at) (drop at b)) 4 ≡ number_at 4 b (at + 4) = own_number_law 4 4 (omega arith) in
      let region : region_in (take (e - at) (drop at b)) 8 ≡ region_in b (at + 8) = own_region 8 (omega arith) in
      g ∙ (λ i. make_request (kind i) (zone i) (region i))

-- a region, from what is read of its own bytes
pub bytes_read : (b : List ℕ) (v p size rights : ℕ) → v ≡ little (part 0 8 b) → p ≡ little (part 8 8 b)
    → size ≡ little (part 16 8 b) → rights ≡ little (part 24 8 b) → region_of v p size rights ≡ region_in b 0
unfolding region_in
bytes_read b v p size rights ev ep es er = λ i. region_of (ev i) (ep i) (es i) (er i)

-- ---- a step leaves a table that is ready for the next
module _ (c w u : List ℕ) (q : Request) (r : Ready c w) (e : u ≡ words_of (next limits (config_in c) (zones_in w) q)) where
  after_sound : sound limits (config_in c) (next limits (config_in c) (zones_in w) q) ≡ true
  after_sound =
      parts_sound limits (config_in c) (next limits (config_in c) (zones_in w) q)
      (next_keeps limits (config_in c) (zones_in w) q (sound_parts limits (config_in c) (zones_in w) r.table))

  pub after_within : Within (next limits (config_in c) (zones_in w) q)
  after_within = sound_within (config_in c) (next limits (config_in c) (zones_in w) q) after_sound

  pub after_view : zones_in u ≡ next limits (config_in c) (zones_in w) q
  after_view = ap zones_in e ∙ view_words (next limits (config_in c) (zones_in w) q) after_within

  pub ready_on : Ready c u
  ready_on = record {
    config = r.config;
    words = subst Packed (sym e) (words_packed (next limits (config_in c) (zones_in w) q) after_within);
    table = ap (sound limits (config_in c)) after_view ∙ after_sound;
  }

-- ---- the run, request by request: n of them, of which i are done
module _ (c : List ℕ) (f : ℕ → Request) (n : ℕ) (R : Run) where
  abbrev pub Left : List ℕ → ℕ → Type 0
  Left w i = run_from limits (config_in c) i (zones_in w) (map f (places i (n - i))) ≡ R

  module _ (w u : List ℕ) (i m : ℕ) (q : Request) (left : Left w i) (h : i < n) (g : q ≡ f i)
      (e : m ≡ refusal limits (config_in c) (zones_in w) q)
      (k : u ≡ words_of (next limits (config_in c) (zones_in w) q)) where
    turn : run_from limits (config_in c) i (zones_in w) (q ∷ map f (places (i + 1) (n - (i + 1)))) ≡ R
    turn =
        rw g (ap (λ (l : List ℕ). run_from limits (config_in c) i (zones_in w) (map f l)) (sym (places_step i n h)) ∙ left)

    pub run_on : Ready c w → m ≡ 0 → Left u (i + 1)
    unfolding run_from
    run_on r z =
        let s : i + 1 ≡ suc i = omega arith in
        ap₂ (λ (j : ℕ) (x : List Zone). run_from limits (config_in c) j x (map f (places (i + 1) (n - (i + 1))))) s
        (after_view c w u q r k)
        ∙ sym (ap (λ (b : Bool). cond b (run_from limits (config_in c) (suc i) (next limits (config_in c) (zones_in w) q)
        (map f (places (i + 1) (n - (i + 1))))) (record
        { place = i; inner = refusal limits (config_in c) (zones_in w) q; table = zones_in w })) (eq-eqb _ 0 (sym e
        ∙ z)))
        ∙ turn

    module _ (ne : m ≡ 0 → ⊥) where
      refused : eqb (refusal limits (config_in c) (zones_in w) q) 0 ≡ false
      refused = ne_eqb _ 0 (λ z. ne (e ∙ z))

      stopped : R ≡ record { place = i; inner = m; table = zones_in w }
      unfolding run_from
      stopped =
          sym turn
          ∙ ap (λ (b : Bool). cond b (run_from limits (config_in c) (suc i) (next limits (config_in c) (zones_in w) q)
          (map f (places (i + 1) (n - (i + 1))))) (record
          { place = i; inner = refusal limits (config_in c) (zones_in w) q; table = zones_in w })) refused
          ∙ (λ j. record { place = i; inner = sym e j; table = zones_in w })

      pub run_stops : record { number = 27; place = i; inner = m } ≡ ended R
      unfolding ended
      run_stops =
          ap (λ (b : Bool). record { number = cond b 0 27; place = i; inner = m }) (sym (ne_eqb m 0 ne))
          ∙ ap ended (sym stopped)

      pub run_stays : u ≡ words_of R.table
      unfolding next
      run_stays =
          k ∙ ap (λ (b : Bool). words_of (cond b (after q.kind q.zone (zones_in w)) (zones_in w))) refused
          ∙ ap (λ (x : Run). words_of x.table) (sym stopped)

  module _ (w : List ℕ) (i : ℕ) (left : Left w i) (h : n ≤ i) (l : i ≤ n) where
    done : R ≡ record { place = n; inner = 0; table = zones_in w }
    unfolding run_from
    done =
        let s : i ≡ n = omega arith in
        sym left
        ∙ ap (λ (p : List ℕ). run_from limits (config_in c) i (zones_in w) (map f p)) (places_end i n h)
        ∙ (λ j. record { place = s j; inner = 0; table = zones_in w })

    pub run_ends : record { number = 0; place = n; inner = 0 } ≡ ended R
    unfolding ended
    run_ends = ap ended (sym done)

    pub run_leaves : Ready c w → w ≡ words_of R.table
    run_leaves r = r.words.words ∙ ap (λ (x : Run). words_of x.table) (sym done)

-- the requests of the bytes, none of them done
pub run_starts : (c t b : List ℕ) (n : ℕ) → n ≡ length b / request_size
    → Left c (λ j. request_from b (j * request_size)) n (run limits (config_in c) (zones_in t) (requests_in b)) t 0
unfolding requests_in tab
run_starts c t b n e =
    let z : n - 0 ≡ length b / request_size = omega arith in
    ap (λ (m : ℕ). run_from limits (config_in c) 0 (zones_in t) (map (λ j. request_from b (j * request_size)) (places 0 m)))
    z

-- ---- a run from outside
module _ (c t b : List ℕ) (n : ℕ) (e : n ≡ standing limits (stored_config c) (stored_table t)) where
  pub none_run : (n ≡ 0 → ⊥) → RanIn c t b (record { number = n; place = 0; inner = 0 }) t
  unfolding run_answer run_words
  none_run ne =
      let z : eqb (standing limits (stored_config c) (stored_table t)) 0 ≡ false = ne_eqb _ 0 (λ y. ne (e ∙ y)) in
      record {
        answer =
            (λ i. record { number = e i; place = 0; inner = 0 })
            ∙ sym (ap (λ (x : Bool). cond x (ended (run limits (config_in c) (table_of (stored_table t))
            (requests_in b))) (record {
              number = standing limits (stored_config c) (stored_table t);
              place = 0;
              inner = 0;
            })) z);
        table =
            sym (ap (λ (x : Bool). cond x (words_of (run limits (config_in c) (table_of (stored_table t))
            (requests_in b)).table) t) z);
      }

  pub all_run : n ≡ 0 → (r : Outcome) (u : List ℕ) → r ≡ ended (run limits (config_in c) (zones_in t) (requests_in b))
      → u ≡ words_of (run limits (config_in c) (zones_in t) (requests_in b)).table → RanIn c t b r u
  unfolding run_answer run_words
  all_run y r u k l =
      let z : eqb (standing limits (stored_config c) (stored_table t)) 0 ≡ true = eq-eqb _ 0 (sym e ∙ y) in
      let s : zones_in t ≡ table_of (stored_table t) = stands_same c t n e y in
      record {
        answer =
            k ∙ ap (λ (x : List Zone). ended (run limits (config_in c) x (requests_in b))) s
            ∙ sym (ap (λ (x : Bool). cond x (ended (run limits (config_in c) (table_of (stored_table t))
            (requests_in b))) (record {
              number = standing limits (stored_config c) (stored_table t);
              place = 0;
              inner = 0;
            })) z);
        table =
            l ∙ ap (λ (x : List Zone). words_of (run limits (config_in c) x (requests_in b)).table) s
            ∙ sym (ap (λ (x : Bool). cond x (words_of
            (run limits (config_in c) (table_of (stored_table t)) (requests_in b)).table) t) z);
      }
