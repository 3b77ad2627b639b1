-- A run: up to the first stranger both machines answer alike, so the first machine's run on the requests before it is
-- this one's; and the stranger, if the run comes to it, is refused.
use Prim.Native.Nat.{ℕ, suc, ◌+◌, ◌-◌, ◌*◌, ◌/◌, ◌≤◌, ◌<◌}
use native.Mathlib.Decide.{dec_lt}
use native.Mathlib.Omega.{arith}
use mathlib.Core.Bool.{Bool, true, false, cond, true≢false}
use mathlib.Core.List.{List, [], ◌∷◌, ◌++◌}
use mathlib.Core.Logic.{◌⊎◌, inl, inr}
use mathlib.Core.Path.{◌≡◌, refl, sym, ap, ap₂, ◌∙◌}
use borrow.Author.Tests.{eqb-true, eq-eqb, ne_eqb, le-ltb}
use lib.Dec.{eqb}
use lib.ListN.{length, get_or, take, drop, length-take, take-append-drop}
use lib.Seq.{get_or-take, drop-cons}
use Rattle.std.specs.Prelude.{Option, Some, None, MatchOption}
use Rattle.lists.specs.First.{first_index, any}
use Rattle.lists.specs.Places.{tab}
use Rattle.lists.specs.Rules.{Rule, first_rule}
use Rattle.lists.proofs.Every.{none_make}
use Rattle.lists.proofs.First.{any_first, first_is, first_within, first_passes, before_fails}
use Rattle.lists.proofs.Places.{length_tab, get_d_tab, take_tab, tab_same}
use Rattle.lists.proofs.Rules.{quiet_answer}
use Rattle.lists.proofs.Tests.{both_false, holds_or_fails}
use Rattle.rules.specs.Fields.{region_size}
use Rattle.rules.specs.Limits.{limits}
use Rattle.rules.specs.Owners.{stranger, eleven_over, owned_of, owned_refusal, owned_next, owned_standing}
use Rattle.rules.specs.Owners.{owned_run, owned_run_answer}
use Rattle.rules.specs.Requests.{refusal, next_by, next, standing_rules, answer}
use Rattle.rules.specs.Run.{make_request, request_size, number_at, region_in, request_from, requests_in, run_by, Run}
use Rattle.rules.specs.Run.{run_from, run, ended, ended_after, run_answer}
use Rattle.rules.specs.Tables.{table_of, Zone}
use Rattle.rules.specs.Numbers.{number}
use Rattle.rules.specs.declared.refusal.Refusal.{Refusal}
use Rattle.rules.specs.declared.Outcome.{Outcome}
use Rattle.rules.specs.declared.Request.{Request}
use Rattle.rules.proofs.OwnedOver.{owned_over}
use Rattle.rules.proofs.Run.{stopped, stops_here, run_through}
use Rattle.zones.specs.Kept.{table_in, standing_in}
use Rattle.zones.specs.Run.{words_run, run_words, RanIn}
use Rattle.zones.specs.View.{stored_config, config_in, stored_table}
use Rattle.zones.specs.Words.{words_of}
use Rattle.zones.proofs.Kept.{run_holds, run_keeps_standing}
use Rattle.zones.proofs.Running.{own_number_law, own_region, request_within}
use Rattle.zones.proofs.Ruling.{number_some}
use Rattle.zones.proofs.Stepping.{neither}
use Rattle.owners.specs.Fitting.{Told}
use Rattle.owners.specs.Run.{owned_run_words, strange, first_stranger, OwnedRan}
use Rattle.owners.specs.View.{stored_owned, owned_in}
use Rattle.owners.proofs.Answering.{over_refuses}
use Rattle.owners.proofs.Fitting.{below_there, below_none, found_below, none_below}

-- ---- a request among bytes
pub request_there : (b : List ℕ) (at : ℕ) (q : Request) → q ≡ request_from (take (at + request_size - at) (drop at b)) 0
    → q ≡ request_from b at
request_there b at q e = let h : at + request_size ≤ at + request_size = omega arith in
    request_within b at (at + request_size) q h e

-- ---- the first stranger
module _ (c o b : List ℕ) where
  abbrev nth : ℕ → Request
  nth j = request_from b (j * request_size)

  abbrev many : ℕ
  many = length b / request_size

  abbrev pub strange_at : ℕ → Bool
  strange_at j = strange c o (nth j)

  pub asked : (i : ℕ) (q : Request) (t : Bool)
      → q ≡ request_from (take (i * request_size + request_size - i * request_size) (drop (i * request_size) b)) 0
      → t ≡ stranger (owned_in c o) q.kind q.zone → t ≡ strange_at i
  unfolding strange
  asked i q t eq et =
      et ∙ ap (λ (x : Request). stranger (owned_in c o) x.kind x.zone) (request_there b (i * request_size) q eq)

  -- what `find` says of the requests
  pub stranger_told : (f : Option ℕ)
      → MatchOption f ((j : ℕ) → 0 ≤ j → j < many → strange_at j ≡ false)
      (λ i. (0 ≤ i) × (i < many) × (strange_at i ≡ true) × ((j : ℕ) → 0 ≤ j → j < i → strange_at j ≡ false))
      → f ≡ first_stranger c o b
  unfolding requests_in
  stranger_told None h =
      below_none (length (requests_in b)) (first_index (strange c o) (requests_in b))
      (elim (dec_lt (first_index (strange c o) (requests_in b)) (length (requests_in b))) [
        | yes l ↦ absurd
            (true≢false
            (sym (first_passes (strange c o) (requests_in b) (nth 0) l)
            ∙ ap (strange c o) (get_d_tab many nth (first_index (strange c o) (requests_in b)) (nth 0) (omega (arith, count)))
            ∙ h (first_index (strange c o) (requests_in b)) (omega arith) (omega (arith, count))))
        | no l ↦ omega arith
      ])
    where
      count : length (requests_in b) ≡ many
      count = length_tab many nth
  stranger_told (Some i) (z, l, hit, before) =
      below_there (length (requests_in b)) i (first_index (strange c o) (requests_in b))
      (sym
      (first_is (strange c o) (requests_in b) (nth 0) i (omega (arith, count))
      (ap (strange c o) (get_d_tab many nth i (nth 0) l) ∙ hit)
      (λ j x. ap (strange c o) (get_d_tab many nth j (nth 0) (omega arith)) ∙ before j (omega arith) x)))
      (omega (arith, count))
    where
      count : length (requests_in b) ≡ many
      count = length_tab many nth

abbrev stranger_at : List ℕ → List ℕ → List ℕ → ℕ
stranger_at c o b = first_index (strange c o) (requests_in b)

pub stranger_within : (c o b : List ℕ) (k : ℕ) → k ≡ stranger_at c o b → k ≤ length b / request_size
unfolding requests_in
stranger_within c o b k e =
    omega (
      arith,
      first_within (strange c o) (requests_in b),
      length_tab (length b / request_size) (λ i. request_from b (i * request_size)),
    )

-- the first stranger, where there is one: x and y are the configuration and the owners under other names
pub stranger_found : (c o b x y : List ℕ) → x ≡ c → y ≡ o → (f : Option ℕ) → f ≡ first_stranger x y b → (k : ℕ)
    → f ≡ Some k → (k ≡ stranger_at c o b) × (k < length b / request_size)
unfolding requests_in
stranger_found c o b x y ex ey f ef k n =
    let m : length (requests_in b) ≡ length b / request_size =
    length_tab (length b / request_size) (λ i. request_from b (i * request_size)) in
    let p = found_below (length (requests_in b)) (stranger_at c o b) f
    (ef ∙ ap₂ (λ (v w : List ℕ). first_stranger v w b) ex ey) k n in
    (p.0, omega (arith, p.1, m))

-- ---- the requests before one of them are those of the bytes before it
module _ (b : List ℕ) (k : ℕ) (h : k ≤ length b / request_size) where
  abbrev before : List ℕ
  before = take (k * request_size) b

  before_long : length before ≡ k * request_size
  before_long = omega (arith, length-take (k * request_size) b)

  pub bytes_before : k * request_size ≡ length (take (k * request_size) b)
  bytes_before = sym before_long

  number_before : (width at : ℕ) → at + width ≤ k * request_size → number_at width before at ≡ number_at width b at
  number_before width at l =
      let z : 0 + at ≡ at = omega arith in
      let e : k * request_size ≡ k * request_size - 0 = omega arith in
      ap (λ (m : ℕ). number_at width (take m b) at) e ∙ own_number_law b 0 (k * request_size) at width (omega arith)
      ∙ ap (number_at width b) z

  region_before : (at : ℕ) → at + region_size ≤ k * request_size → region_in before at ≡ region_in b at
  region_before at l =
      let z : 0 + at ≡ at = omega arith in
      let e : k * request_size ≡ k * request_size - 0 = omega arith in
      ap (λ (m : ℕ). region_in (take m b) at) e ∙ own_region b 0 (k * request_size) at (omega arith) ∙ ap (region_in b) z

  request_before : (i : ℕ) → i < k → request_from before (i * request_size) ≡ request_from b (i * request_size)
  unfolding request_from
  request_before i l =
      (λ j. make_request (number_before 4 (i * request_size) (omega arith) j)
      (number_before 4 (i * request_size + 4) (omega arith) j) (region_before (i * request_size + 8) (omega arith) j))

  pub requests_before : requests_in (take (k * request_size) b) ≡ take k (requests_in b)
  unfolding requests_in
  requests_before =
      let n : length before / request_size ≡ k = omega (arith, before_long) in
      ap (λ (m : ℕ). tab m (λ i. request_from before (i * request_size))) n
      ∙ tab_same k (λ i. request_from before (i * request_size)) (λ i. request_from b (i * request_size)) request_before
      ∙ sym (take_tab (length b / request_size) k (λ i. request_from b (i * request_size)) h)

-- ---- runs by any step: a run of two stretches is that of the first, and that of the second if all were accepted
module _ (number : List Zone → Request → ℕ) (after : List Zone → Request → List Zone) where
  abbrev goes : ℕ → List Zone → List Request → Run
  goes = run_by number after

  pub run_split : (i : ℕ) (t : List Zone) (xs ys : List Request)
      → goes i t (xs ++ ys) ≡ cond (eqb (goes i t xs).inner 0) (goes (goes i t xs).place (goes i t xs).table ys)
      (goes i t xs)
  unfolding run_by
  run_split i t [] ys = refl
  run_split i t (q ∷ xs) ys =
      by (eqb (number t q) 0) refl (goes (suc i) (after t q) xs) (goes (suc i) (after t q) (xs ++ ys))
      (run_split (suc i) (after t q) xs ys)
    where
      by : (b : Bool) → eqb (number t q) 0 ≡ b → (rest all : Run)
          → all ≡ cond (eqb rest.inner 0) (goes rest.place rest.table ys) rest
          → cond b all (stopped number after i t q)
          ≡ cond (eqb (cond b rest (stopped number after i t q)).inner 0)
          (goes (cond b rest (stopped number after i t q)).place (cond b rest (stopped number after i t q)).table ys)
          (cond b rest (stopped number after i t q))
      by true e rest all later = later
      by false e rest all later = sym (ap (λ (x : Bool). cond x (goes i t ys) (stopped number after i t q)) e)

-- ---- without strangers both machines run alike
module _ (c o : List ℕ) where
  abbrev owned : ℕ → List Zone → List Request → Run
  owned = run_by (owned_refusal limits (owned_in c o)) (owned_next limits (owned_in c o))

  abbrev first : ℕ → List Zone → List Request → Run
  first = run_by (refusal limits (config_in c)) (next limits (config_in c))

  number_same : (t : List Zone) (q : Request) → strange c o q ≡ false
      → owned_refusal limits (owned_in c o) t q ≡ refusal limits (config_in c) t q
  unfolding strange owned_of eleven_over
  number_same t q e =
      owned_over limits (owned_in c o) t q
      ∙ ap (λ (b : Bool). eleven_over b (refusal limits (config_in c) t q)) e

  next_same : (t : List Zone) (q : Request) → owned_refusal limits (owned_in c o) t q ≡ refusal limits (config_in c) t q
      → owned_next limits (owned_in c o) t q ≡ next limits (config_in c) t q
  unfolding owned_next next
  next_same t q n = ap (λ (m : ℕ). next_by m t q) n

  run_same : (i : ℕ) (t : List Zone) (qs : List Request) → any (strange c o) qs ≡ false → owned i t qs ≡ first i t qs
  unfolding run_by any
  run_same i t [] e = refl
  run_same i t (q ∷ qs) e =
      let (f, g) = both_false (strange c o q) (any (strange c o) qs) e in
      let n : owned_refusal limits (owned_in c o) t q ≡ refusal limits (config_in c) t q = number_same t q f in
      let m : owned_next limits (owned_in c o) t q ≡ next limits (config_in c) t q = next_same t q n in
      (λ j. cond (eqb (n j) 0) (owned (suc i) (m j) qs) (record { place = i; inner = n j; table = t }))
      ∙ ap (λ (r : Run). cond (eqb (refusal limits (config_in c) t q) 0) r (record
      { place = i; inner = refusal limits (config_in c) t q; table = t })) (run_same (suc i) (next limits (config_in c) t q) qs g)

-- ---- a run from outside
module _ (c o t b : List ℕ) where
  abbrev zones : List Zone
  zones = table_of (stored_table t)

  abbrev qs : List Request
  qs = requests_in b

  -- 1 or 2 of the owners
  pub own_run : (r : Refusal) → Told c o t (number r) → (v : Outcome) → v ≡ record { number = number r; place = 0; inner = 0 }
      → OwnedRan c o t b v t
  unfolding owned_run_answer owned_run_words
  own_run r told v ev =
      let e : number r ≡ owned_standing limits (stored_owned c o) (stored_table t) = told.number (number_some r) in
      let z : eqb (owned_standing limits (stored_owned c o) (stored_table t)) 0 ≡ false =
      ne_eqb _ 0 (λ y. number_some r (e ∙ y)) in
      record {
        answer =
            ev ∙ (λ i. record { number = e i; place = 0; inner = 0 })
            ∙ sym (ap (λ (x : Bool). cond x (ended (owned_run limits (owned_in c o) zones qs)) (record {
              number = owned_standing limits (stored_owned c o) (stored_table t);
              place = 0;
              inner = 0;
            })) z);
        table = sym (ap (λ (x : Bool). cond x (words_of (owned_run limits (owned_in c o) zones qs).table) t) z);
      }

  module _ (told : Told c o t 0) where
    stands : owned_standing limits (stored_owned c o) (stored_table t) ≡ standing_in c t
    stands = ap (λ (rs : List (Rule ℕ)). first_rule rs 0) (told.rules refl)

    -- an outcome and words that a run gives, which is this machine's
    ran_as : (u : List ℕ) (v : Outcome) (w : Run) → owned_run limits (owned_in c o) zones qs ≡ w
        → v ≡ ended_after (standing_in c t) w → u ≡ words_run (standing_in c t) w t → OwnedRan c o t b v u
    unfolding owned_run_answer owned_run_words
    ran_as u v w e f g = record {
      answer = f ∙ (λ i. ended_after (sym stands i) (sym e i));
      table = g ∙ (λ i. words_run (sym stands i) (sym e i) t);
    }

    -- no request is a stranger
    pub none_stranger : (x y : List ℕ) → x ≡ c → y ≡ o → (f : Option ℕ) → f ≡ first_stranger x y b → f ≡ None
        → (r : Outcome) (u : List ℕ) → RanIn c t b r u → OwnedRan c o t b r u
    unfolding run_answer run_words run_from
    none_stranger x y ex ey f ef n r u ran =
        let l : length qs ≤ first_index (strange c o) qs =
        none_below (length qs) (first_index (strange c o) qs) f
        (ef ∙ ap₂ (λ (v w : List ℕ). first_stranger v w b) ex ey) n in
        ran_as u r (run limits (config_in c) zones qs)
        (run_same c o 0 zones qs (any_first (strange c o) qs ∙ le-ltb _ _ l)) ran.answer ran.table

    module _ (k : ℕ) (ek : k ≡ stranger_at c o b) where
      within : k ≤ length b / request_size
      within = stranger_within c o b k ek

      module _ (r : Outcome) (u : List ℕ) (ran : RanIn c t (take (k * request_size) b) r u) where
        -- the first machine's run on the requests before the first stranger
        abbrev done : Run
        done = run limits (config_in c) zones (take k qs)

        same_requests : requests_in (take (k * request_size) b) ≡ take k qs
        same_requests = requests_before b k within

        ran_answer : r ≡ ended_after (standing_in c t) done
        unfolding run_answer
        ran_answer =
            ran.answer
            ∙ ap (λ (x : List Request). ended_after (standing_in c t) (run limits (config_in c) zones x)) same_requests

        ran_table : u ≡ words_run (standing_in c t) done t
        unfolding run_words
        ran_table =
            ran.table
            ∙ ap (λ (x : List Request). words_run (standing_in c t) (run limits (config_in c) zones x) t) same_requests

        none_strange : any (strange c o) (take k qs) ≡ false
        none_strange =
            none_make (strange c o) (take k qs) (request_from b 0)
            (λ i h. let l : i < k = omega (arith, length-take k qs) in
            ap (strange c o) (get_or-take k qs i (request_from b 0) l)
            ∙ before_fails (strange c o) qs (request_from b 0) i (omega arith))

        split : owned_run limits (owned_in c o) zones qs
            ≡ cond (eqb done.inner 0) (owned c o done.place done.table (drop k qs)) done
        unfolding run_from
        split =
            ap (owned c o 0 zones) (sym (take-append-drop k qs))
            ∙ run_split (owned_refusal limits (owned_in c o)) (owned_next limits (owned_in c o)) 0 zones (take k qs)
            (drop k qs)
            ∙ ap (λ (w : Run). cond (eqb w.inner 0) (owned c o w.place w.table (drop k qs)) w)
            (run_same c o 0 zones (take k qs) none_strange)

        stands_then : r.number ≡ 0 → standing_in c t ≡ 0
        stands_then z = by (holds_or_fails (eqb (standing_in c t) 0))
          where
            by : (eqb (standing_in c t) 0 ≡ true) ⊎ (eqb (standing_in c t) 0 ≡ false) → standing_in c t ≡ 0
            by (inl e) = eqb-true _ _ e
            by (inr e) =
                sym (ap (λ (x : Outcome). x.number) (ran_answer ∙ ap (λ (x : Bool). cond x (ended done)
                (record { number = standing_in c t; place = 0; inner = 0 })) e)) ∙ z

        -- how it ended
        ended_then : standing_in c t ≡ 0 → r ≡ ended done
        ended_then s =
            ran_answer
            ∙ ap (λ (x : Bool). cond x (ended done) (record { number = standing_in c t; place = 0; inner = 0 }))
            (eq-eqb _ 0 s)

        accepted_then : r.number ≡ 0 → done.inner ≡ 0
        unfolding ended
        accepted_then z =
            by (holds_or_fails (eqb done.inner 0))
          where
            by : (eqb done.inner 0 ≡ true) ⊎ (eqb done.inner 0 ≡ false) → done.inner ≡ 0
            by (inl e) = eqb-true _ _ e
            by (inr e) =
                absurd (let f : 0 ≡ 27 = sym z ∙ ap (λ (x : Outcome). x.number) (ended_then (stands_then z))
                ∙ ap (λ (x : Bool). cond x 0 27) e in omega arith)

        on_then : r.number ≡ 0
            → owned_run limits (owned_in c o) zones qs ≡ owned c o done.place done.table (drop k qs)
        on_then z =
            split
            ∙ ap (λ (x : Bool). cond x (owned c o done.place done.table (drop k qs)) done)
            (eq-eqb _ 0 (accepted_then z))

        -- ---- what each return answers
        pub before_refused : (r.number ≡ 0 → ⊥) → OwnedRan c o t b r u
        unfolding ended
        before_refused ne = by (holds_or_fails (eqb (standing_in c t) 0))
          where
            by : (eqb (standing_in c t) 0 ≡ true) ⊎ (eqb (standing_in c t) 0 ≡ false) → OwnedRan c o t b r u
            by (inl e) =
                let f : eqb done.inner 0 ≡ false =
                ne_eqb done.inner 0 (λ y. ne (ap (λ (x : Outcome). x.number) (ended_then (eqb-true (standing_in c t) 0 e))
                ∙ ap (λ (x : Bool). cond x 0 27) (eq-eqb done.inner 0 y))) in
                ran_as u r done
                (split ∙ ap (λ (x : Bool). cond x (owned c o done.place done.table (drop k qs)) done) f) ran_answer
                ran_table
            by (inr e) =
                ran_as u r (owned_run limits (owned_in c o) zones qs) refl
                (ran_answer ∙ ap (λ (x : Bool). cond x (ended done) (record
                { number = standing_in c t; place = 0; inner = 0 })) e
                ∙ sym (ap (λ (x : Bool). cond x (ended (owned_run limits (owned_in c o) zones qs)) (record
                { number = standing_in c t; place = 0; inner = 0 })) e))
                (ran_table ∙ ap (λ (x : Bool). cond x (words_of done.table) t) e
                ∙ sym (ap (λ (x : Bool). cond x (words_of (owned_run limits (owned_in c o) zones qs).table) t) e))

        module _ (z : r.number ≡ 0) where
          module _ (h : k < length b / request_size) (q : Request) (eq : q ≡ request_from b (k * request_size)) where
            there : k < length qs
            unfolding requests_in
            there = omega (arith, length_tab (length b / request_size) (λ i. request_from b (i * request_size)))

            is_there : get_or qs k q ≡ q
            unfolding requests_in
            is_there = get_d_tab (length b / request_size) (λ i. request_from b (i * request_size)) k q h ∙ sym eq

            is_strange : strange c o q ≡ true
            is_strange =
                ap (strange c o) (sym (ap (λ (j : ℕ). get_or qs j q) (sym ek) ∙ is_there))
                ∙ first_passes (strange c o) qs q (omega (arith, there))

            number_there : owned_refusal limits (owned_in c o) done.table q
                ≡ eleven_over true (refusal limits (config_in c) done.table q)
            unfolding strange owned_of
            number_there =
                owned_over limits (owned_in c o) done.table q
                ∙ ap (λ (x : Bool). eleven_over x (refusal limits (config_in c) done.table q)) is_strange

            -- the table stands where the run has come to
            table_then : table_in u ≡ done.table
            table_then =
                run_holds c t (take (k * request_size) b) r u ran (stands_then z)
                ∙ ap (λ (x : List Request). (run limits (config_in c) zones x).table) same_requests

            answer_then : answer limits (stored_config c) (stored_table u) q ≡ refusal limits (config_in c) done.table q
            unfolding answer
            answer_then =
                sym (quiet_answer (standing_rules limits (stored_config c) (stored_table u))
                (refusal limits (config_in c) (table_in u) q)
                (neither c u (standing_in c u) refl
                (run_keeps_standing c t (take (k * request_size) b) r u ran (stands_then z))))
                ∙ ap (λ (x : List Zone). refusal limits (config_in c) x q) table_then

            place_then : done.place ≡ k
            unfolding run_from
            place_then =
                run_through (refusal limits (config_in c)) (next limits (config_in c)) 0 zones (take k qs) (accepted_then z)
                ∙ (let l : 0 + length (take k qs) ≡ k = omega (arith, length-take k qs, there) in l)

            pub stranger_stops : (a m : ℕ) → a ≡ answer limits (stored_config c) (stored_table u) q → m ≡ eleven_over true a
                → OwnedRan c o t b (record { number = 27; place = k; inner = m }) u
            unfolding ended
            stranger_stops a m ea em =
                let n : owned_refusal limits (owned_in c o) done.table q ≡ m =
                number_there ∙ ap (eleven_over true) (sym (ea ∙ answer_then)) ∙ sym em in
                let s : eqb (standing_in c t) 0 ≡ true = eq-eqb _ 0 (stands_then z) in
                let ne : eqb m 0 ≡ false = ne_eqb m 0 (λ y. over_refuses a (sym em ∙ y)) in
                ran_as u (record { number = 27; place = k; inner = m })
                (record { place = k; inner = m; table = done.table })
                (on_then z
                ∙ ap (owned c o done.place done.table) (drop-cons qs k q there
                ∙ ap (λ (x : Request). x ∷ drop (suc k) qs) is_there)
                ∙ stops_here (owned_refusal limits (owned_in c o)) (owned_next limits (owned_in c o)) done.place
                done.table q (drop (suc k) qs) (λ y. over_refuses a (sym em ∙ sym n ∙ y))
                ∙ (λ i. record { place = place_then i; inner = n i; table = done.table }))
                (sym (ap (λ (x : Bool). cond x (record { number = cond (eqb m 0) 0 27; place = k; inner = m }) (record
                { number = standing_in c t; place = 0; inner = 0 })) s
                ∙ ap (λ (x : Bool). record { number = cond x 0 27; place = k; inner = m }) ne))
                (ran_table ∙ ap (λ (x : Bool). cond x (words_of done.table) t) s
                ∙ sym (ap (λ (x : Bool). cond x (words_of done.table) t) s))
