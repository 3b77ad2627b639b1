-- The writer: 0 is answered exactly where none of its numbers applies, and then its bytes are those of the planner's
-- plan, whose format has no slack.
use Prim.Native.Nat.{ℕ, ◌^◌, ◌≤◌, ◌<◌}
use native.Mathlib.Decide.{dec_lt}
use native.Mathlib.Omega.{arith}
use mathlib.Core.Bool.{Bool, true, false, cond, not}
use mathlib.Core.List.{List, [], ◌∷◌, ◌++◌}
use mathlib.Core.Logic.{inl, inr, ⊎_elim}
use mathlib.Core.Path.{◌≡◌, refl, sym, ap, ◌∙◌}
use borrow.Author.Tests.{ltb-true, ltb-false, lt-ltb, le-ltb, eq-eqb, ne_eqb}
use lib.Dec.{ltb, eqb}
use lib.ListN.{length, take, drop, length-map}
use Rattle.lists.specs.Lines.{FirstOf, Exactly}
use Rattle.lists.specs.Rules.{first_rule, ◌when◌}
use Rattle.lists.proofs.Lines.{exactly, exactly_of, first_of, all, ◌and◌}
use Rattle.formats.specs.Formats.{ListFits}
use Rattle.lists.proofs.Tests.{holds_or_fails, not_fails, not_holds}
use Rattle.rules.specs.Applying.{last_edition, plain, Kept, apply_by, plain_steps, apply, Terminal}
use Rattle.rules.specs.Configuration.{config_of}
use Rattle.rules.specs.Filling.{fill_answer, Filled}
use Rattle.rules.specs.Limits.{Limits, Sayable}
use Rattle.rules.specs.Plan.{requests_from, AskedFits, Asked}
use Rattle.rules.specs.Planner.{plan_bytes_by, plan_for, plan_bytes, ran_at, MayAskBy}
use Rattle.rules.specs.Requests.{standing}
use Rattle.rules.specs.Sizes.{longest_size}
use Rattle.rules.specs.Run.{ended, Run}
use Rattle.rules.specs.Steps.{StepRule}
use Rattle.rules.specs.Tables.{table_of}
use Rattle.rules.specs.Writer.{writer_rules_by, write_by, writer_rules, write}
use Rattle.rules.specs.declared.Outcome.{Outcome}
use Rattle.rules.proofs.Configuration.{passed}
use Rattle.rules.proofs.Filling.{leaves_all}
use Rattle.rules.proofs.Planner.{plan_fits}
use Rattle.rules.proofs.Sizes.{most_length}
use Rattle.rules.proofs.Writer.{Writable, zero_writable, writable_written, writer_refuses}
use Rattle.promises.specs.Answers.{standing_lines, all_accepted, twenty_seven as refusedAt, Ends, Stands}
use Rattle.promises.specs.Steps.{Proper}
use Rattle.promises.specs.Writing.{written_by, WrittenIsAcceptedBy, AcceptedIsWrittenBy, WritesWhenMayAskBy}
use Rattle.promises.specs.Writing.{RefusalLeavesBufferBy, SuccessFillsBy, LendableBy, WrittenIsAccepted}
use Rattle.promises.specs.Writing.{AcceptedIsWritten, WritesWhenMayAsk, RefusalLeavesBuffer, SuccessFills}
use Rattle.promises.specs.Writing.{twenty_seven, twenty_eight, fits, writer_lines, Writes, WriteIsExact, WriterLongestSuffices}
use Rattle.promises.proofs.Answers.{tells_lt, tells_eq, standing_exactly, ends_exactly, stands_of, table_stands}
use Rattle.promises.proofs.Answers.{not_less, not_equal}
use Rattle.promises.proofs.Filling.{filled}
use Rattle.promises.proofs.Steps.{accepted_is_plan_by, accepted_stands_by, asked_is_accepted_by}
use Rattle.promises.proofs.Terminals.{plain_is_proper}

-- ---- for the terminals of any step rule
module _ (m : StepRule) where
  -- the buffer
  pub refusal_leaves_buffer_by : RefusalLeavesBufferBy m
  unfolding write_by
  refusal_leaves_buffer_by s q w ne = leaves_all _ (plan_bytes_by m s q) w ne

  pub success_fills_by : SuccessFillsBy m
  unfolding write_by
  success_fills_by s q w e = filled (writer_rules_by m s q) (plan_bytes_by m s q) w (writer_refuses m s q) e

  pub written_plan : (s : Kept m) (q : List Asked) (w : List ℕ) → (write_by m s q w).outcome.number ≡ 0
      → written_by m s q w ≡ plan_bytes_by m s q
  written_plan s q w e =
      let h = success_fills_by s q w e in
      ap (λ (o : Outcome). take o.place (write_by m s q w).buffer) h.place ∙ h.front

  -- when it writes
  pub may_ask : Sayable m.limits → (s : Kept m) (q : List Asked) → LendableBy m s q → (room : ℕ)
      → Writable m s q room → MayAskBy m s q
  may_ask say s q can room h =
      let most : s.edition ≤ last_edition = can.edition in
      let few : length q ≤ m.limits.requests = h.few in
      let said : m.limits.requests < 256 ^ 4 = say.requests in
      record {
        edition = below s.edition last_edition h.edition most;
        fits = record { said = omega arith; least = omega arith; most = few; fits = (refl, can.numbers) };
        accepted = h.accepted;
      }
    where
      below : (a b : ℕ) → (a ≡ b → ⊥) → a ≤ b → a < b
      below a b ne k = elim (dec_lt a b) [ yes h ↦ h | no h ↦ absurd (ne (omega arith)) ]

  pub writes_when_may_ask_by : WritesWhenMayAskBy m
  writes_when_may_ask_by say s q w can = (
    (λ e. let h = zero_writable m s q w e in (h.stands, (may_ask say s q can (length w) h, h.fits))),
    (λ (st, (may, room)).
        let below : s.edition < last_edition = may.edition in
        ap (λ (x : Filled). x.outcome.number)
        (writable_written m s q w
        (record {
          stands = st;
          edition = λ l. omega arith;
          few = may.fits.most;
          accepted = may.accepted;
          fits = room;
        }))),
  )

  -- what was written, and what is accepted
  module _ (ok : Proper m) where
    pub written_is_accepted_by : WrittenIsAcceptedBy m (apply_by m)
    written_is_accepted_by say s q w can e =
        let h : Writable m s q (length w) = zero_writable m s q w e in
        let may : MayAskBy m s q = may_ask say s q can (length w) h in
        ap (apply_by m s) (written_plan s q w e) ∙ asked_is_accepted_by m ok say s q can.records h.stands may

    pub accepted_is_written_by : AcceptedIsWrittenBy m (apply_by m)
    accepted_is_written_by s b bytes e =
        let (p, (g, f), last, inner) = accepted_is_plan_by m ok s b e in
        let (t, few) = ok.tight b p [] bytes g in
        let same : b ≡ plan_bytes_by m s (m.asked p) = t ∙ ap m.write (ok.only s p f) in (
          p,
          g,
          λ w room. writable_written m s (m.asked p) w
              (record {
                stands = accepted_stands_by m s b e;
                edition = last;
                few = few;
                accepted = inner;
                fits = rw (← same) room;
              })
              ∙ (λ i. record {
                outcome = plain 0 (length (sym same i));
                buffer = sym same i ++ drop (length (sym same i)) w;
              }),
        )

-- ---- for document 01's terminals
module _ (lim : Limits) where
  pub refusal_leaves_buffer : RefusalLeavesBuffer lim
  refusal_leaves_buffer = refusal_leaves_buffer_by (plain_steps lim)

  pub success_fills : SuccessFills lim
  success_fills = success_fills_by (plain_steps lim)

  pub writes_when_may_ask : WritesWhenMayAsk lim
  writes_when_may_ask = writes_when_may_ask_by (plain_steps lim)

  pub written_is_accepted : WrittenIsAccepted lim
  unfolding apply
  written_is_accepted = written_is_accepted_by (plain_steps lim) (plain_is_proper lim)

  pub accepted_is_written : AcceptedIsWritten lim
  unfolding apply
  accepted_is_written = accepted_is_written_by (plain_steps lim) (plain_is_proper lim)

  -- ---- the first number that applies
  module _ (s : Terminal) (q : List Asked) (room : ℕ) where
    n : ℕ
    n = length (plan_bytes lim s q)

    r : Run
    r = ran_at lim s.config s.table q

    -- 27, 28 or 0, where no number before them applies
    last : Outcome
    last = first_rule (ended r when not (eqb r.inner 0) ∷ plain 28 0 when ltb room n ∷ []) (plain 0 n)

    Ended : Outcome → Type 0
    Ended = Ends lim (config_of s.config) (table_of s.table) (requests_from q)

    as_ended : (o : Outcome) → Ended o → ended r ≡ o
    unfolding r Ended
    as_ended o h = (ends_exactly lim (config_of s.config) (table_of s.table) (requests_from q) o).1 h

    refused : (o : Outcome) → ended r ≡ o → (o.inner ≡ 0 → ⊥) → last ≡ o
    unfolding last first_rule ended
    refused o e ne =
        let i : r.inner ≡ o.inner = ap (λ (x : Outcome). x.inner) e in
        ap (λ (b : Bool). cond b (ended r) (cond (ltb room n) (plain 28 0) (plain 0 n)))
        (not_fails _ (ne_eqb r.inner 0 (λ z. ne (sym i ∙ z))))
        ∙ e

    accepted : (k : ℕ) → ended r ≡ plain 0 k → last ≡ cond (ltb room n) (plain 28 0) (plain 0 n)
    unfolding last first_rule ended
    accepted k e =
        let i : r.inner ≡ 0 = ap (λ (x : Outcome). x.inner) e in
        ap (λ (b : Bool). cond b (ended r) (cond (ltb room n) (plain 28 0) (plain 0 n)))
        (not_holds _ (eq-eqb r.inner 0 i))

    as_many : length (requests_from q) ≡ length q
    as_many = length-map q _

    writes_so : (o : Outcome) → Writes lim s q room o → last ≡ o
    unfolding Ended n
    writes_so o (twenty_seven i h f ne) = refused o (as_ended o (refusedAt i (omega (arith, as_many)) f ne)) ne
    writes_so o (twenty_eight f h) =
        accepted _ (as_ended _ (all_accepted (λ j m. f j (omega (arith, as_many)))))
        ∙ ap (λ (b : Bool). cond b (plain 28 0) (plain 0 n)) (lt-ltb room n h)
    writes_so o (fits f h) =
        accepted _ (as_ended _ (all_accepted (λ j m. f j (omega (arith, as_many)))))
        ∙ ap (λ (b : Bool). cond b (plain 28 0) (plain 0 n)) (le-ltb room n h)

    some_writes : (o : Outcome) → Ended o → (a : Outcome) × Writes lim s q room a
    unfolding Ended n
    some_writes o (refusedAt i h f ne) = (o, twenty_seven i (omega (arith, as_many)) f ne)
    some_writes o (all_accepted f) =
        ⊎_elim
        (λ e. (plain 28 0, twenty_eight (λ j m. f j (omega (arith, as_many))) (ltb-true room n e)))
        (λ e. (plain 0 n, fits (λ j m. f j (omega (arith, as_many))) (ltb-false room n e)))
        (holds_or_fails (ltb room n))

    writes_exactly : Exactly last (Writes lim s q room)
    unfolding r Ended
    writes_exactly =
        exactly last (Writes lim s q room)
        (some_writes (ended r)
        ((ends_exactly lim (config_of s.config) (table_of s.table) (requests_from q) (ended r)).0 refl))
        writes_so

    in_order_law : fill_answer (writer_rules lim s q) (plan_bytes lim s q) room
        ≡ cond (eqb (standing lim s.config s.table) 0)
        (first_rule (plain 25 0 when eqb s.edition last_edition ∷ plain 29 0 when ltb lim.requests (length q) ∷ [])
        last)
        (plain (standing lim s.config s.table) 0)
    unfolding fill_answer writer_rules_by first_rule last r n
    in_order_law = by _ _ (eqb (standing lim s.config s.table) 0)
      where
        by : (x y : Outcome) (b : Bool) → cond (not b) x y ≡ cond b y x
        by x y true = refl
        by x y false = refl

  pub write_is_exact : WriteIsExact lim
  unfolding write_by
  write_is_exact s q w =
      exactly_of (in_order_law s q (length w))
      (standing_exactly lim s.config s.table (λ k. plain k 0) _ _
      (first_of (last s q (length w)) (Writes lim s q (length w)) (tells_eq _ _ and tells_lt _ _ and all)
      (λ none. writes_exactly s q (length w))))

  -- the plan for a sound state is within the longest one
  pub plan_within : Sayable lim → (s : Terminal) (q : List Asked) → length s.config.records ≡ lim.regions
      → Stands lim s.config s.table → s.edition < last_edition → ListFits 4 0 lim.requests AskedFits q
      → length (plan_bytes lim s q) ≤ longest_size lim
  plan_within say s q full st low fit =
      most_length lim (plan_for s q)
      (plan_fits lim say (config_of s.config) (passed lim s.config full st.config) s.edition low
      (table_of s.table) (table_stands lim s.config s.table st.table) q fit)

  pub writer_longest_suffices : WriterLongestSuffices lim
  writer_longest_suffices say s q w ok long e =
      by (write lim s q w).outcome e ((write_is_exact s q w (write lim s q w).outcome).0 refl)
    where
      never : (n : ℕ) (o : Outcome) → plain n 0 ≡ o → o.number ≡ 28 → (n ≡ 28 → ⊥) → ⊥
      never n o q f ne = ne (ap (λ (x : Outcome). x.number) q ∙ f)

      last_of : (o : Outcome) → o.number ≡ 28 → Stands lim s.config s.table → (s.edition ≡ last_edition → ⊥)
          → (lim.requests < length q → ⊥) → Writes lim s q (length w) o → ⊥
      last_of o f st low few (twenty_seven i h g ne) = omega arith
      last_of o f st low few (twenty_eight g h) =
          let below : s.edition < last_edition = not_equal s.edition last_edition ok.edition low in
          let most : length q ≤ lim.requests = not_less lim.requests (length q) few in
          let asked : ListFits 4 0 lim.requests AskedFits q =
          record {
            said = omega (arith, most, say.requests);
            least = omega arith;
            most = most;
            fits = (refl, ok.numbers);
          } in
          omega (arith, h, long, plan_within say s q ok.records st below asked)
      last_of o f st low few (fits g h) = omega arith

      by : (o : Outcome) → o.number ≡ 28
          → FirstOf (standing_lines (λ n. plain n 0) lim s.config s.table)
          (FirstOf (writer_lines lim s q) (Writes lim s q (length w))) o
          → ⊥
      by o f (inl (h, q)) = never 1 o q f (λ z. omega arith)
      by o f (inr (h, inl (k, q))) = never 2 o q f (λ z. omega arith)
      by o f (inr (h, inr (k, inl (i, q)))) = never 25 o q f (λ z. omega arith)
      by o f (inr (h, inr (k, inr (i, inl (j, q))))) = never 29 o q f (λ z. omega arith)
      by o f (inr (h, inr (k, inr (i, inr (j, d))))) =
          last_of o f (stands_of lim s.config s.table h k) i j d
