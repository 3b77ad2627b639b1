-- What each return answers: one case of the receiver, the buffer and what the bytes read to.
use Prim.Native.Nat.{ℕ, suc, ◌+◌, ◌-◌, ◌≤◌, ◌<◌, min}
use native.Mathlib.Omega.{arith}
use mathlib.Core.Bool.{Bool, true, false, cond, not, ◌||◌}
use mathlib.Core.List.{List, [], ◌∷◌, ◌++◌, append-nil}
use mathlib.Core.Logic.{◌⊎◌, inl, inr}
use mathlib.Core.Path.{◌≡◌, refl, sym, ap, subst, ◌∙◌}
use borrow.Author.Tests.{lt-ltb, le-ltb, eq-eqb, ne_eqb}
use lib.Dec.{ltb}
use Rattle.std.proofs.Common.{Ok, Err}
use lib.ListN.{length, get_or, take, drop, set}
use lib.Seq.{paste, paste-suc, length-take-le, take-take}
use Rattle.lists.specs.Rules.{first_rule}
use Rattle.formats.specs.Formats.{Out, got, bad}
use Rattle.rules.specs.Applying.{plain, plain_steps}
use Rattle.plan.specs.Steps.{AppliedBy}
use Rattle.rules.specs.Limits.{limits}
use Rattle.rules.specs.Numbers.{number}
use Rattle.rules.specs.Plan.{read_plan, Plan}
use Rattle.rules.specs.Requests.{standing}
use Rattle.rules.specs.declared.Outcome.{Outcome}
use Rattle.rules.specs.declared.refusal.Refusal.{Refusal}
use Rattle.rules.proofs.Receiving.{stored_most, fitting_room, fitting_part}
use Rattle.zones.specs.View.{stored_config, stored_table}
use Rattle.plan.specs.Applying.{applied, state_in, turned_away, AppliedIn}
use Rattle.plan.specs.Found.{found_in}
use Rattle.plan.specs.declared.applying.State.{State}
use Rattle.plan.specs.declared.finding.Found.{Found}
use Rattle.plan.specs.Told.{answer_by}
use Rattle.plan.proofs.Deliveries.{apply_is_faithful}
use Rattle.zones.proofs.Ruling.{number_some}
use Rattle.plan.proofs.Judging.{away_own, away_plan}
use Rattle.plan.proofs.Outcomes.{applied_in, turned_by}
use Rattle.rules.specs.Receiving.{full, no_bytes, is_over, stored_in, is_short, fitting, grown, take_piece, received}
use Rattle.rules.specs.Receiving.{Taken}
use Rattle.rules.specs.Sizes.{longest_size}
use Rattle.receiver.specs.Words.{over_number, over_place, over_away, ended_in, TakesIn, EndedWords, EndsIn}
use Rattle.rules.specs.declared.Receiver.{Receiver}
use Rattle.receiver.proofs.Reading.{over_read}

-- the longest plan
abbrev longest : ℕ
longest = longest_size limits

-- ---- the receiver
module _ (r : Receiver) where
  pub more_came : (r.more ≡ 0 → ⊥) → true ≡ is_over limits r
  unfolding is_over
  more_came ne = sym (ap (λ (t : Bool). not t || ltb longest r.stored) (ne_eqb _ 0 ne))

  pub none_came : r.more ≡ 0 → ltb longest r.stored ≡ is_over limits r
  unfolding is_over
  none_came e = sym (ap (λ (t : Bool). not t || ltb longest r.stored) (eq-eqb _ 0 e))

  module _ (b : Bool) (eb : b ≡ is_over limits r) where
    pub stored_over : b ≡ true → longest ≡ stored_in limits r
    unfolding stored_in
    stored_over h = sym (ap (λ (t : Bool). cond t longest r.stored) (sym eb ∙ h))

    pub stored_under : b ≡ false → r.stored ≡ stored_in limits r
    unfolding stored_in
    stored_under h = sym (ap (λ (t : Bool). cond t longest r.stored) (sym eb ∙ h))

  module _ (n : ℕ) (en : n ≡ stored_in limits r) where
    pub stored_room : n ≤ longest
    stored_room = omega (arith, en, stored_most limits r)

    pub stored_there : (w : List ℕ) → longest ≤ length w → n ≤ length w
    stored_there w h = omega (arith, stored_room)

    pub fits : (m : ℕ) → min m (longest - n) ≡ fitting limits r m
    unfolding fitting
    fits m = ap (λ (k : ℕ). min m (longest - k)) en

-- the receiver after m bytes
module _ (r : Receiver) (m : ℕ) (b : Bool) (eb : b ≡ is_over limits r) where
  abbrev after : Bool → Bool → Receiver
  after o f = cond o (full limits) (cond f (full limits) (record { stored = stored_in limits r + m; more = 0 }))

  by_test : (v : Bool) → b ≡ v → after v (ltb (longest - stored_in limits r) m) ≡ grown limits r m
  unfolding grown first_rule
  by_test v h = ap (λ (o : Bool). after o (ltb (longest - stored_in limits r) m)) (sym h ∙ eb)

  pub grown_over : b ≡ true → full limits ≡ grown limits r m
  grown_over h = by_test true h

  module _ (h : b ≡ false) (n : ℕ) (en : n ≡ stored_in limits r) where
    pub grown_full : longest - n < m → full limits ≡ grown limits r m
    grown_full k =
        ap (after false) (sym (lt-ltb _ m (subst (λ (x : ℕ). longest - x < m) en k))) ∙ by_test false h

    pub grown_on : m ≤ longest - n → ◌≡◌ {A = Receiver} (record { stored = n + m; more = 0 }) (grown limits r m)
    grown_on k =
        ap (λ (x : ℕ). record { stored = x + m; more = 0 }) en
        ∙ ap (after false) (sym (le-ltb _ m (subst (λ (x : ℕ). m ≤ longest - x) en k)))
        ∙ by_test false h

-- ---- the buffer
-- the loop of `put_bytes`: its store takes the copy of i bytes to the copy of i + 1
pub put_step : (d t : List ℕ) (at : ℕ) (s : List ℕ) (i : ℕ) → t ≡ paste d at s i → i < length s → at + length s ≤ length d
    → set t (at + i) (get_or s i 0) ≡ paste d at s (i + 1)
put_step d t at s i inv h b =
    ap (λ (l : List ℕ). set l (at + i) (get_or s i 0)) inv
    ∙ paste-suc d at s i 0 (omega arith) (omega arith)
    ∙ ap (paste d at s) (let e : suc i ≡ i + 1 = omega arith in e)

-- of a piece as many bytes are put as there are
pub pasted : (w : List ℕ) (n : ℕ) (p : List ℕ) (m : ℕ) → m ≤ length p
    → paste w n (take m p) (length (take m p)) ≡ paste w n p m
pasted w n p m h =
    let e : length (take m p) ≡ m = length-take-le m p h in
    let q : take m (take m p) ≡ take m p = take-take m m p (omega arith) in
    let f : paste w n (take m p) m ≡ paste w n p m = ap (λ (s : List ℕ). take n w ++ s ++ drop (n + m) w) q in
    ap (λ (k : ℕ). paste w n (take m p) k) e ∙ f

-- a piece fits into what is left of the buffer
module _ (r : Receiver) (n m : ℕ) (en : n ≡ stored_in limits r) (k : ℕ) (em : m ≡ fitting limits r k) where
  pub piece_part : m ≤ k
  piece_part = omega (arith, em, fitting_part limits r k)

  pub piece_room : (w p : List ℕ) → k ≡ length p → longest ≤ length w → n + length (take m p) ≤ length w
  piece_room w p ek h =
      omega (arith, en, em, fitting_room limits r k, ek, length-take-le m p (omega (arith, ek, piece_part)))

-- ---- a piece call
module _ (r : Receiver) (w p : List ℕ) where
  abbrev takes : Bool → Taken
  takes s =
      cond s (record { number = 28; receiver = r; buffer = w })
      (record {
        number = 0;
        receiver = grown limits r (length p);
        buffer = paste w (stored_in limits r) p (fitting limits r (length p));
      })

  pub takes_short : length w < longest → TakesIn r w p 28 r w
  unfolding take_piece is_short
  takes_short h =
      let e : true ≡ ltb (length w) longest = sym (lt-ltb _ longest h) in
      record {
        number = ap (λ (s : Bool). (takes s).number) e;
        receiver = ap (λ (s : Bool). (takes s).receiver) e;
        buffer = ap (λ (s : Bool). (takes s).buffer) e;
      }

  pub takes_piece : (n m : ℕ) (g : Receiver) (v : List ℕ) → longest ≤ length w → n ≡ stored_in limits r
      → m ≡ fitting limits r (length p) → g ≡ grown limits r (length p)
      → v ≡ paste w n (take m p) (length (take m p))
      → TakesIn r w p 0 g v
  unfolding take_piece is_short
  takes_piece n m g v h en em eg ev =
      let e : false ≡ ltb (length w) longest = sym (le-ltb _ longest h) in
      record {
        number = ap (λ (s : Bool). (takes s).number) e;
        receiver = eg ∙ ap (λ (s : Bool). (takes s).receiver) e;
        buffer =
            ev ∙ pasted w n p m (omega (arith, em, fitting_part limits r (length p)))
            ∙ (λ i. paste w (en i) p (em i)) ∙ ap (λ (s : Bool). (takes s).buffer) e;
      }

-- ---- bytes after which more came
module _ (c t b : List ℕ) where
  pub over_own : (r : Refusal) → number r ≡ standing limits (stored_config c) (stored_table t)
      → plain (number r) 0 ≡ over_away c t b
  unfolding over_away
  over_own r en =
      away_own c t (over_number (read_plan limits b)) (over_place (length b) (read_plan limits b)) (number r) en
      (number_some r)

  module _ (z : 0 ≡ standing limits (stored_config c) (stored_table t)) where
    away : (k a : ℕ) → (over_number (read_plan limits b) ≡ k) → (over_place (length b) (read_plan limits b) ≡ a)
        → plain k a ≡ over_away c t b
    unfolding over_away
    away k a ek ea = away_plan c t k a 0 z refl ∙ (λ i. turned_away c t (sym ek i) (sym ea i))

    pub over_bad : (k a : ℕ) → Err (k, a) ≡ found_in (length b) (read_plan limits b) → plain k a ≡ over_away c t b
    unfolding answer_by over_number over_place
    over_bad k a f = by (read_plan limits b) f (away k a)
      where
        by : (o : Out Plan) → Err (k, a) ≡ found_in (length b) o
            → ((over_number o ≡ k) → (over_place (length b) o ≡ a) → plain k a ≡ over_away c t b)
            → plain k a ≡ over_away c t b
        by (got p s) q g = absurd (cc)
        by (bad j s) q g =
            let m : ◌≡◌ {A = ℕ × ℕ} (k, a) (j, length b - length s) = cc in
            g (sym (ap (λ (x : ℕ × ℕ). x.0) m)) (sym (ap (λ (x : ℕ × ℕ). x.1) m))

    pub over_whole : (r : Found) → Ok r ≡ found_in (length b) (read_plan limits b)
        → plain 22 (length b) ≡ over_away c t b
    unfolding answer_by over_number over_place
    over_whole r f = by (read_plan limits b) f (away 22 (length b))
      where
        by : (o : Out Plan) → Ok r ≡ found_in (length b) o
            → ((over_number o ≡ 22) → (over_place (length b) o ≡ length b) → plain 22 (length b) ≡ over_away c t b)
            → plain 22 (length b) ≡ over_away c t b
        by (got p s) q g = g refl refl
        by (bad j s) q g = absurd (cc)

-- so they are answered as with one byte more
over_in : (c t : List ℕ) (e : ℕ) (b : List ℕ) (x : ℕ) (o : Outcome) → longest ≤ length b → o ≡ over_away c t b
    → AppliedIn c t e (b ++ (x ∷ [])) o t
unfolding over_away answer_by turned_away
over_in c t e b x o h eo =
    let (s, er, es) = over_read limits b x [] h in
    let k : ℕ = over_number (read_plan limits b) in
    let a : ℕ = over_place (length b) (read_plan limits b) in
    let f : Err (k, a) ≡ found_in (length (b ++ (x ∷ []))) (read_plan limits (b ++ (x ∷ []))) =
    sym (ap (found_in (length (b ++ (x ∷ [])))) er ∙ ap (λ (p : ℕ). Err (k, p)) es) in
    applied_in c t e (b ++ (x ∷ [])) o t
    (subst (λ (v : Outcome). AppliedBy (plain_steps limits) (stored_config c) t e (b ++ (x ∷ [])) v t) (sym eo)
    (turned_by (b ++ (x ∷ [])) k a f c t e))

-- ---- the end call
module _ (c t : List ℕ) (e : ℕ) (r : Receiver) (w : List ℕ) where
  abbrev ends : Bool → EndedWords
  ends s =
      cond s (record { outcome = plain 28 0; state = state_in c t e; receiver = r })
      (record {
        outcome = (applied (state_in c t e) (received limits r w)).outcome;
        state = (applied (state_in c t e) (received limits r w)).state;
        receiver = no_bytes;
      })

  pub ends_short : length w < longest → EndsIn c t e r w (record { outcome = plain 28 0; receiver = r }) t
  unfolding ended_in is_short
  ends_short h =
      let q : true ≡ ltb (length w) longest = sym (lt-ltb _ longest h) in
      record {
        outcome = ap (λ (s : Bool). (ends s).outcome) q;
        receiver = ap (λ (s : Bool). (ends s).receiver) q;
        table = ap (λ (s : Bool). (ends s).state.table.words) q;
      }

  module _ (h : longest ≤ length w) where
    applied_ends : (b : List ℕ) (o : Outcome) (u : List ℕ) → b ≡ received limits r w → AppliedIn c t e b o u
        → EndsIn c t e r w (record { outcome = o; receiver = no_bytes }) u
    unfolding ended_in is_short
    applied_ends b o u eb done =
        let q : false ≡ ltb (length w) longest = sym (le-ltb _ longest h) in
        record {
          outcome =
              done.answer ∙ ap (λ (x : List ℕ). (applied (state_in c t e) x).outcome) eb
              ∙ ap (λ (s : Bool). (ends s).outcome) q;
          receiver = ap (λ (s : Bool). (ends s).receiver) q;
          table =
              done.table ∙ ap (λ (x : List ℕ). (applied (state_in c t e) x).state.table.words) eb
              ∙ ap (λ (s : Bool). (ends s).state.table.words) q;
        }

    module _ (n : ℕ) (en : n ≡ stored_in limits r) (b : Bool) (eb : b ≡ is_over limits r) where
      came : (v : Bool) → b ≡ v → take n w ++ cond v (0 ∷ []) [] ≡ received limits r w
      unfolding received
      came v ev = (λ i. take (en i) w ++ cond ((sym ev ∙ eb) i) (0 ∷ []) [])

      pub ends_over : b ≡ true → (o : Outcome) → o ≡ over_away c t (take n w)
          → EndsIn c t e r w (record { outcome = o; receiver = no_bytes }) t
      ends_over v o eo =
          let l : longest ≡ n = stored_over r b eb v ∙ sym en in
          applied_ends (take n w ++ (0 ∷ [])) o t (came true v)
          (over_in c t e (take n w) 0 o (omega (arith, l, length-take-le n w (omega (arith, l)))) eo)

      pub ends_whole : b ≡ false → (o : Outcome) (u : List ℕ) → AppliedIn c t e (take n w) o u
          → EndsIn c t e r w (record { outcome = o; receiver = no_bytes }) u
      ends_whole v o u done = applied_ends (take n w) o u (sym (append-nil (take n w)) ∙ came false v) done

-- ---- what an end call leaves, by the buffer
abbrev pub EndedCases : State → Receiver → List ℕ → Type 0
EndedCases s r w =
    (ended_in s r w ≡ record { outcome = plain 28 0; state = s; receiver = r })
    ⊎ (ended_in s r w
    ≡ record {
      outcome = (applied s (received limits r w)).outcome;
      state = (applied s (received limits r w)).state;
      receiver = no_bytes;
    })

pub ended_cases : (s : State) (r : Receiver) (w : List ℕ) → EndedCases s r w
unfolding ended_in
ended_cases s r w = by (is_short limits w) refl
  where
    by : (t : Bool) → is_short limits w ≡ t → EndedCases s r w
    by true e = inl (ap (ends s.config.words s.table.words s.edition r w) e)
    by false e = inr (ap (ends s.config.words s.table.words s.edition r w) e)

pub config_stays : (s : State) (r : Receiver) (w : List ℕ) → (ended_in s r w).state.config ≡ s.config
config_stays s r w = by (ended_cases s r w)
  where
    by : EndedCases s r w → (ended_in s r w).state.config ≡ s.config
    by (inl q) = ap (λ (x : EndedWords). x.state.config) q
    by (inr q) =
        ap (λ (x : EndedWords). x.state.config) q
        ∙ apply_is_faithful.config s (received limits r w) (applied s (received limits r w)).outcome
        (applied s (received limits r w)).state refl

pub ended_enough : (s : State) (r : Receiver) (w : List ℕ) → longest ≤ length w
    → ended_in s r w
    ≡ record {
      outcome = (applied s (received limits r w)).outcome;
      state = (applied s (received limits r w)).state;
      receiver = no_bytes;
    }
unfolding ended_in is_short
ended_enough s r w h =
    ap (ends s.config.words s.table.words s.edition r w) (le-ltb (length w) longest h)
