-- Plans in pieces: after each piece the receiver holds the bytes that came, as far as the longest plan goes, and says
-- whether there were more; and more bytes than those change no answer.
use Prim.Native.Nat.{ℕ, ◌+◌, ◌-◌, ◌≤◌, ◌<◌, min}
use native.Mathlib.Decide.{dec_lt}
use native.Mathlib.Omega.{arith}
use mathlib.Core.Bool.{Bool, true, false, cond}
use mathlib.Core.List.{List, [], ◌∷◌, ◌++◌, flat_map, append_assoc, append-nil}
use mathlib.Core.Path.{◌≡◌, refl, sym, ap, subst, ◌∙◌}
use borrow.Author.Tests.{ltb-true, ltb-false, eqb-false, lt-ltb, le-ltb}
use lib.Dec.{ltb, eqb}
use lib.ListN.{length, take, drop, length-append, length-drop, take-append-drop}
use lib.Seq.{length-take-le, take-append-le, take-append-add, take-length, paste, paste-zero, length-paste, take-paste}
use lib.Seq.{drop-paste, take_at}
use Rattle.lists.specs.Rules.{first_rule}
use Rattle.lists.specs.Runs.{runs}
use Rattle.formats.specs.Formats.{Out, got, bad, at_end}
use Rattle.rules.specs.Applying.{plain, apply_read, apply, Terminal, Applied}
use Rattle.rules.specs.Limits.{Limits}
use Rattle.rules.specs.Plan.{read_plan, Plan}
use Rattle.rules.specs.Receiving.{no_bytes, full, is_over, stored_in, is_short, fitting, grown, take_piece, received}
use Rattle.rules.specs.Receiving.{end_pieces, Taken, Ended}
use Rattle.rules.specs.Requests.{standing}
use Rattle.rules.specs.Sizes.{longest_size}
use Rattle.rules.specs.declared.Receiver.{Receiver}
use Rattle.rules.proofs.Plan.{plan_refuses, plan_ends}
use Rattle.rules.proofs.Receiving.{followed, read_followed, stored_most, fitting_room, fitting_part}
use Rattle.promises.specs.Receiving.{PieceCalls, Receipt, took, took_all, joined, HoweverCut}

-- ---- as many bytes as the longest plan has, and more: which they are changes nothing
module _ (l : Limits) (u : List ℕ) (h : longest_size l ≤ length u) (s : Terminal) where
  -- the number and the place, by those bytes alone
  refused : Out Plan → Applied
  refused (got p t) = record { outcome = plain 22 (length u); state = s }
  refused (bad k t) = record { outcome = plain k (length u - length t); state = s }

  read_over : (x : ℕ) (v : List ℕ)
      → apply_read l s (u ++ (x ∷ v)) (read_plan l (u ++ (x ∷ v))) ≡ refused (read_plan l u)
  unfolding apply_read refused followed at_end
  read_over x v =
      ap (apply_read l s (u ++ (x ∷ v))) (read_followed l u (x ∷ v) h) ∙ by (read_plan l u) refl
    where
      by : (o : Out Plan) → read_plan l u ≡ o → apply_read l s (u ++ (x ∷ v)) (followed (x ∷ v) o) ≡ refused o
      by (got p t) e =
          let n : t ≡ [] = plan_ends l u p t e in
          let a : length (u ++ (x ∷ v)) - length (x ∷ v) ≡ length u = omega (arith, length-append u (x ∷ v)) in
          ap (λ (r : List ℕ). apply_read l s (u ++ (x ∷ v)) (at_end p (r ++ (x ∷ v)))) n
          ∙ (λ i. record { outcome = plain 22 (a i); state = s })
      by (bad k t) e =
          let a : length (u ++ (x ∷ v)) - length (t ++ (x ∷ v)) ≡ length u - length t =
          omega (arith, length-append u (x ∷ v), length-append t (x ∷ v)) in
          (λ i. record { outcome = plain k (a i); state = s })

  abbrev answer : Applied → Applied
  answer a =
      cond (eqb (standing l s.config s.table) 0) a
      (record { outcome = plain (standing l s.config s.table) 0; state = s })

  over_is : (x : ℕ) (v : List ℕ) → apply l s (u ++ (x ∷ v)) ≡ answer (refused (read_plan l u))
  unfolding apply
  over_is x v = ap answer (read_over x v)

  over_any : (v : List ℕ) → 0 < length v → apply l s (u ++ v) ≡ answer (refused (read_plan l u))
  over_any [] k = absurd (omega arith)
  over_any (x ∷ v) k = over_is x v

  -- they are refused
  away : ((answer (refused (read_plan l u))).outcome.number ≡ 0 → ⊥) × ((answer (refused (read_plan l u))).state ≡ s)
  unfolding refused
  away = by (eqb (standing l s.config s.table) 0) refl (read_plan l u) refl
    where
      own : Applied
      own = record { outcome = plain (standing l s.config s.table) 0; state = s }

      by : (b : Bool) → eqb (standing l s.config s.table) 0 ≡ b → (o : Out Plan) → read_plan l u ≡ o
          → ((cond b (refused o) own).outcome.number ≡ 0 → ⊥) × ((cond b (refused o) own).state ≡ s)
      by true e (got p t) q = ((λ z. omega (arith, z)), refl)
      by true e (bad k t) q = (plan_refuses l u k t q, refl)
      by false e o q = (eqb-false _ 0 e, refl)

-- ---- one call
module _ (l : Limits) where
  module _ (r : Receiver) (w p : List ℕ) where
    -- by the test of the buffer
    abbrev takes : Bool → Taken
    takes t =
        cond t (record { number = 28; receiver = r; buffer = w })
        (record {
          number = 0;
          receiver = grown l r (length p);
          buffer = paste w (stored_in l r) p (fitting l r (length p));
        })

    takes_by : (t : Bool) → is_short l w ≡ t → take_piece l r w p ≡ takes t
    unfolding take_piece
    takes_by t e = ap takes e

    -- the buffer, where a piece is put, and where it is not
    module _ (P : List ℕ → Type 0) (stay : P w)
        (put : longest_size l ≤ length w → P (paste w (stored_in l r) p (fitting l r (length p)))) where
      buffer_is : P (take_piece l r w p).buffer
      unfolding is_short
      buffer_is = by (is_short l w) refl
        where
          by : (t : Bool) → is_short l w ≡ t → P (take_piece l r w p).buffer
          by true e = subst (λ (x : Taken). P x.buffer) (sym (takes_by true e)) stay
          by false e =
              subst (λ (x : Taken). P x.buffer) (sym (takes_by false e)) (put (ltb-false (length w) (longest_size l) e))

  module _ (s : Terminal) (r : Receiver) (w : List ℕ) where
    abbrev ends : Bool → Ended
    ends t =
        cond t (record { outcome = plain 28 0; state = s; receiver = r })
        (record {
          outcome = (apply l s (received l r w)).outcome;
          state = (apply l s (received l r w)).state;
          receiver = no_bytes;
        })

    ends_by : (t : Bool) → is_short l w ≡ t → end_pieces l s r w ≡ ends t
    unfolding end_pieces
    ends_by t e = ap ends e

  short : (w : List ℕ) → length w < longest_size l → is_short l w ≡ true
  unfolding is_short
  short w h = lt-ltb (length w) (longest_size l) h

  enough : (w : List ℕ) → longest_size l ≤ length w → is_short l w ≡ false
  unfolding is_short
  enough w h = le-ltb (length w) (longest_size l) h

  -- a receiver that grew has stored what fits
  grown_counts : (r : Receiver) (n : ℕ) → stored_in l (grown l r n) ≡ stored_in l r + fitting l r n
  unfolding grown fitting first_rule stored_in is_over
  grown_counts r n = by (is_over l r) refl (ltb (longest_size l - stored_in l r) n) refl
    where
      next : Bool → Bool → Receiver
      next t f = cond t (full l) (cond f (full l) (record { stored = stored_in l r + n; more = 0 }))

      by : (t : Bool) → is_over l r ≡ t → (f : Bool) → ltb (longest_size l - stored_in l r) n ≡ f
          → stored_in l (next (is_over l r) (ltb (longest_size l - stored_in l r) n)) ≡ stored_in l r + fitting l r n
      by true e f q =
          let all : stored_in l r ≡ longest_size l = ap (λ (t : Bool). cond t (longest_size l) r.stored) e in
          ap (λ (t : Bool). stored_in l (next t (ltb (longest_size l - stored_in l r) n))) e
          ∙ omega (arith, all, fitting_room l r n)
      by false e true q =
          let more : longest_size l - stored_in l r < n = ltb-true _ _ q in
          (λ i. stored_in l (next (e i) (q i))) ∙ omega (arith, more, stored_most l r)
      by false e false q =
          let less : n ≤ longest_size l - stored_in l r = ltb-false _ _ q in
          let under : is_over l (next false false) ≡ false =
          le-ltb (longest_size l) (stored_in l r + n) (omega (arith, less, stored_most l r)) in
          (λ i. stored_in l (next (e i) (q i)))
          ∙ ap (λ (t : Bool). cond t (longest_size l) (stored_in l r + n)) under
          ∙ omega (arith, less)

  -- where more came, the bytes are refused
  came_over : (r : Receiver) (w : List ℕ) → is_over l r ≡ true → received l r w ≡ take (longest_size l) w ++ (0 ∷ [])
  unfolding received stored_in
  came_over r w o = (λ i. take (cond (o i) (longest_size l) r.stored) w ++ cond (o i) (0 ∷ []) [])

  over_calls : (s : Terminal) (r : Receiver) (w : List ℕ) → is_over l r ≡ true
      → ((end_pieces l s r w).outcome.number ≡ 0 → ⊥) × ((end_pieces l s r w).state ≡ s)
  unfolding is_short
  over_calls s r w o = by (is_short l w) refl
    where
      by : (t : Bool) → is_short l w ≡ t
          → ((end_pieces l s r w).outcome.number ≡ 0 → ⊥) × ((end_pieces l s r w).state ≡ s)
      by true e =
          subst (λ (x : Ended). (x.outcome.number ≡ 0 → ⊥) × (x.state ≡ s)) (sym (ends_by s r w true e))
          ((λ z. omega (arith, z)), refl)
      by false e =
          let k : longest_size l ≤ length w = ltb-false (length w) (longest_size l) e in
          let u : longest_size l ≤ length (take (longest_size l) w) =
          omega (arith, length-take-le (longest_size l) w k) in
          subst (λ (x : Ended). (x.outcome.number ≡ 0 → ⊥) × (x.state ≡ s)) (sym (ends_by s r w false e))
          (subst (λ (a : Applied). (a.outcome.number ≡ 0 → ⊥) × (a.state ≡ s))
          (sym (ap (apply l s) (came_over r w o) ∙ over_is l (take (longest_size l) w) u s 0 []))
          (away l (take (longest_size l) w) u s))

  kept_before : (w : List ℕ) (at : ℕ) (p : List ℕ) (n : ℕ) → at ≤ length w → take at (paste w at p n) ≡ take at w
  kept_before w at p n h =
      let e : length (take at w) ≡ at = length-take-le at w h in
      ap (take at) (append_assoc (take at w) (take n p) (drop (at + n) w))
      ∙ take_at (take at w) (take n p ++ drop (at + n) w) at e

  pub piece_calls : PieceCalls l
  piece_calls = record {
    short_piece = λ r w p h. takes_by r w p true (short w h);
    short_end = λ s r w h. ends_by s r w true (short w h);
    taken = λ r w p h. ap (λ (x : Taken). x.number) (takes_by r w p false (enough w h));
    long =
        λ r w p. buffer_is r w p (λ (v : List ℕ). length v ≡ length w) refl
        (λ h. length-paste w (stored_in l r) p (fitting l r (length p))
        (omega (arith, fitting_room l r (length p))) (fitting_part l r (length p)));
    before =
        λ r w p. buffer_is r w p (λ (v : List ℕ). take (stored_in l r) v ≡ take (stored_in l r) w) refl
        (λ h. kept_before w (stored_in l r) p (fitting l r (length p)) (omega (arith, stored_most l r)));
    behind =
        λ r w p. buffer_is r w p
        (λ (v : List ℕ). drop (stored_in l r + fitting l r (length p)) v ≡ drop (stored_in l r + fitting l r (length p)) w)
        refl
        (λ h. drop-paste w (stored_in l r) p (fitting l r (length p)) (omega (arith, stored_most l r))
        (fitting_part l r (length p)));
    added =
        λ r w p h. ap (λ (x : Taken). take (stored_in l r + fitting l r (length p)) x.buffer)
        (takes_by r w p false (enough w h))
        ∙ take-paste w (stored_in l r) p (fitting l r (length p)) (omega (arith, stored_most l r))
        (fitting_part l r (length p));
    counted =
        λ r w p h. ap (λ (x : Taken). stored_in l x.receiver) (takes_by r w p false (enough w h))
        ∙ grown_counts r (length p);
    within = λ r n. fitting_room l r n;
    emptied = λ s r w h. ap (λ (x : Ended). x.receiver) (ends_by s r w false (enough w h));
    over = over_calls;
  }

  -- ---- pieces one after another: b came
  data Holds (k : Receipt) (b : List ℕ) : Type 0 where
    -- it is stored; more came, and the longest plan's bytes of it are stored
    all : length b ≤ longest_size l → k.receiver ≡ record { stored = length b; more = 0 } → take (length b) k.buffer ≡ b
        → Holds k b
    most : longest_size l < length b → k.receiver ≡ full l → take (longest_size l) k.buffer ≡ take (longest_size l) b
        → Holds k b

  -- a piece after bytes that are all stored
  module _ (w b p : List ℕ) (long : longest_size l ≤ length w) (h : length b ≤ longest_size l) (e : take (length b) w ≡ b)
    where
      abbrev held : Receiver
      held = record { stored = length b; more = 0 }

      under : is_over l held ≡ false
      unfolding is_over
      under = le-ltb (longest_size l) (length b) h

      stored_is : stored_in l held ≡ length b
      unfolding stored_in
      stored_is = ap (λ (t : Bool). cond t (longest_size l) (length b)) under

      -- the receiver, by the tests
      abbrev next : Bool → Bool → ℕ → Receiver
      next o f n = cond o (full l) (cond f (full l) (record { stored = n + length p; more = 0 }))

      grows : (f : Bool) → ltb (longest_size l - length b) (length p) ≡ f → grown l held (length p) ≡ next false f (length b)
      unfolding grown first_rule
      grows f q =
          (λ i. next (under i) (ltb (longest_size l - stored_is i) (length p)) (stored_is i))
          ∙ ap (λ (t : Bool). next false t (length b)) q

      taken_is : take_piece l held w p ≡ takes held w p false
      taken_is = takes_by held w p false (enough w long)

      put : (n : ℕ) → fitting l held (length p) ≡ n → (take_piece l held w p).buffer ≡ paste w (length b) p n
      put n f = ap (λ (x : Taken). x.buffer) taken_is ∙ (λ i. paste w (stored_is i) p (f i))

      fits : fitting l held (length p) ≡ min (length p) (longest_size l - length b)
      unfolding fitting
      fits = ap (λ (n : ℕ). min (length p) (longest_size l - n)) stored_is

      after : (n : ℕ) → fitting l held (length p) ≡ n → n ≤ length p
          → take (length b + n) (take_piece l held w p).buffer ≡ b ++ take n p
      after n f k =
          ap (take (length b + n)) (put n f)
          ∙ take-paste w (length b) p n (omega arith) k
          ∙ ap (λ (x : List ℕ). x ++ take n p) e

      all_step : Holds (took l (record { receiver = held; buffer = w }) p) (b ++ p)
      all_step =
          elim (dec_lt (longest_size l - length b) (length p)) [
            | yes k ↦
                (let n : ℕ = longest_size l - length b in
                let f : fitting l held (length p) ≡ n = fits ∙ omega arith in
                let a : length b + n ≡ longest_size l = omega arith in
                most (omega (arith, length-append b p))
                (ap (λ (x : Taken). x.receiver) taken_is ∙ grows true (lt-ltb n (length p) k))
                (ap (λ (m : ℕ). take m (take_piece l held w p).buffer) (sym a)
                ∙ after n f (omega arith) ∙ sym (take-append-add b p n) ∙ ap (λ (m : ℕ). take m (b ++ p)) a))
            | no k ↦
                (let f : fitting l held (length p) ≡ length p = fits ∙ omega arith in
                let a : length b + length p ≡ length (b ++ p) = sym (length-append b p) in
                all (omega (arith, a))
                (ap (λ (x : Taken). x.receiver) taken_is
                ∙ grows false (le-ltb (longest_size l - length b) (length p) (omega arith))
                ∙ ap (λ (m : ℕ). record { stored = m; more = 0 }) a)
                (ap (λ (m : ℕ). take m (take_piece l held w p).buffer) (sym a)
                ∙ after (length p) f (omega arith) ∙ ap (λ (x : List ℕ). b ++ x) (take-length p)))
          ]

  -- a piece after more than the longest plan has
  module _ (w b p : List ℕ) (long : longest_size l ≤ length w) (h : longest_size l < length b)
      (e : take (longest_size l) w ≡ take (longest_size l) b) where
    none_fits : fitting l (full l) (length p) ≡ 0
    unfolding fitting stored_in is_over
    none_fits = omega arith

    stays_full : grown l (full l) (length p) ≡ full l
    unfolding grown first_rule is_over
    stays_full = refl

    all_stored : stored_in l (full l) ≡ longest_size l
    unfolding stored_in is_over
    all_stored = refl

    buffer_stays : (take_piece l (full l) w p).buffer ≡ w
    buffer_stays =
        ap (λ (x : Taken). x.buffer) (takes_by (full l) w p false (enough w long))
        ∙ ap (paste w (stored_in l (full l)) p) none_fits
        ∙ sym (paste-zero w (stored_in l (full l)) p)

    most_step : Holds (took l (record { receiver = full l; buffer = w }) p) (b ++ p)
    most_step =
        most (omega (arith, length-append b p))
        (ap (λ (x : Taken). x.receiver) (takes_by (full l) w p false (enough w long)) ∙ stays_full)
        (ap (take (longest_size l)) buffer_stays ∙ e ∙ sym (take-append-le (longest_size l) b p (omega arith)))

  piece_step : (k : Receipt) (b p : List ℕ) → longest_size l ≤ length k.buffer → Holds k b
      → Holds (took l k p) (b ++ p)
  piece_step k b p long (all h e f) =
      subst (λ (r : Receiver). Holds (took l (record { receiver = r; buffer = k.buffer }) p) (b ++ p)) (sym e)
      (all_step k.buffer b p long h f)
  piece_step k b p long (most h e f) =
      subst (λ (r : Receiver). Holds (took l (record { receiver = r; buffer = k.buffer }) p) (b ++ p)) (sym e)
      (most_step k.buffer b p long h f)

  pieces_held : (k : Receipt) (b : List ℕ) (ps : List (List ℕ)) → longest_size l ≤ length k.buffer → Holds k b
      → Holds (runs (took l) k ps) (b ++ joined ps) × (longest_size l ≤ length (runs (took l) k ps).buffer)
  unfolding runs flat_map
  pieces_held k b [] long h = (subst (Holds k) (sym (append-nil b)) h, long)
  pieces_held k b (p ∷ ps) long h =
      let m : length (took l k p).buffer ≡ length k.buffer = piece_calls.long k.receiver k.buffer p in
      let r = pieces_held (took l k p) (b ++ p) ps (omega (arith, m)) (piece_step k b p long h) in
      (subst (Holds (runs (took l) (took l k p) ps)) (append_assoc b p (joined ps)) r.0, r.1)

  -- ---- the end call
  abbrev answered : Terminal → List ℕ → Ended
  answered s b = record { outcome = (apply l s b).outcome; state = (apply l s b).state; receiver = no_bytes }

  came_all : (w b : List ℕ) → length b ≤ longest_size l → take (length b) w ≡ b
      → received l (record { stored = length b; more = 0 }) w ≡ b
  unfolding received stored_in is_over
  came_all w b h e =
      (λ i. take (cond (le-ltb (longest_size l) (length b) h i) (longest_size l) (length b)) w
      ++ cond (le-ltb (longest_size l) (length b) h i) (0 ∷ []) [])
      ∙ append-nil (take (length b) w) ∙ e

  over_full : is_over l (full l) ≡ true
  unfolding is_over
  over_full = refl

  applied_same : (s : Terminal) (k : Receipt) (b : List ℕ) → Holds k b
      → apply l s (received l k.receiver k.buffer) ≡ apply l s b
  applied_same s k b (all h e f) =
      ap (λ (r : Receiver). apply l s (received l r k.buffer)) e
      ∙ ap (apply l s) (came_all k.buffer b h f)
  applied_same s k b (most h e f) =
      let u : List ℕ = take (longest_size l) b in
      let n : longest_size l ≤ length u = omega (arith, length-take-le (longest_size l) b (omega arith)) in
      let m : 0 < length (drop (longest_size l) b) = omega (arith, length-drop (longest_size l) b) in
      ap (λ (r : Receiver). apply l s (received l r k.buffer)) e
      ∙ ap (apply l s) (came_over (full l) k.buffer over_full ∙ ap (λ (x : List ℕ). x ++ (0 ∷ [])) f)
      ∙ over_is l u n s 0 []
      ∙ sym (over_any l u n s (drop (longest_size l) b) m)
      ∙ ap (apply l s) (take-append-drop (longest_size l) b)

  module _ (w : List ℕ) (ps : List (List ℕ)) (long : longest_size l ≤ length w) where
    held_all : Holds (took_all l w ps) (joined ps) × (longest_size l ≤ length (took_all l w ps).buffer)
    held_all = pieces_held (record { receiver = no_bytes; buffer = w }) [] ps long (all (omega arith) refl refl)

    pub still_long : longest_size l ≤ length (took_all l w ps).buffer
    still_long = held_all.1

  pub came_whole : (s : Terminal) (w : List ℕ) (ps : List (List ℕ)) → longest_size l ≤ length w
      → apply l s (received l (took_all l w ps).receiver (took_all l w ps).buffer) ≡ apply l s (joined ps)
  came_whole s w ps long = applied_same s (took_all l w ps) (joined ps) (held_all w ps long).0

  pub however_cut : HoweverCut l
  however_cut s w ps long =
      let k : Receipt = took_all l w ps in
      let e : apply l s (received l k.receiver k.buffer) ≡ apply l s (joined ps) = came_whole s w ps long in
      ends_by s k.receiver k.buffer false (enough k.buffer (still_long w ps long))
      ∙ (λ i. record { outcome = (e i).outcome; state = (e i).state; receiver = no_bytes })
