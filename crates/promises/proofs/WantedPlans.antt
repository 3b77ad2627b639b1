-- The list in a buffer, by the four tests that decide; and its plan, which the planner may ask for, since the list is
-- accepted in turn and every number of it fits.
use Prim.Native.Nat.{ℕ, ◌+◌, ◌*◌, ◌^◌, ◌≤◌, ◌<◌}
use native.Mathlib.Omega.{arith}
use mathlib.Core.Bool.{Bool, true, false, cond, not}
use mathlib.Core.List.{List, [], ◌∷◌, ◌++◌, map}
use mathlib.Core.Logic.{inl, inr}
use mathlib.Core.Path.{◌≡◌, refl, sym, ap, subst, ◌∙◌}
use borrow.Author.Tests.{eqb-true, eqb-false, not-true, not-false, le-ltb}
use lib.Dec.{ltb, eqb}
use lib.ListN.{length, take, drop, length-map}
use lib.Seq.{take_at}
use Rattle.lists.specs.Bytes.{bytes_of}
use Rattle.lists.specs.Lines.{◌given◌, FirstOf}
use Rattle.lists.specs.Rules.{◌when◌, first_rule, Rule}
use Rattle.lists.proofs.Lines.{first_of, first_map, exactly_of, all, ◌and◌}
use Rattle.formats.specs.Formats.{write_many, write_headed}
use Rattle.rules.specs.Applying.{last_edition, store, plain, plain_steps, apply, Terminal}
use Rattle.rules.specs.Configuration.{config_of, StoredConfig}
use Rattle.rules.specs.Fields.{short_size}
use Rattle.rules.specs.Filling.{fill_answer, fill_leaves, filling, Filled}
use Rattle.rules.specs.Limits.{Limits, Sayable}
use Rattle.rules.specs.Plan.{Asked}
use Rattle.rules.specs.Planner.{plan_bytes, ran_at, MayAsk}
use Rattle.rules.specs.Requests.{standing}
use Rattle.rules.specs.Run.{request_size, requests_in, run, Run}
use Rattle.rules.specs.Tables.{table_of, Zone, StoredTable}
use Rattle.rules.specs.Wanted.{requests_for, work_rules, worked, asked_as, records_of, listed, Listed, Worked}
use Rattle.rules.specs.Writer.{write, asked_of}
use Rattle.rules.specs.declared.Outcome.{Outcome}
use Rattle.rules.specs.declared.Request.{Request}
use Rattle.rules.proofs.Filling.{zero_fits}
use Rattle.rules.proofs.Records.{asked_read, records_read}
use Rattle.rules.proofs.Stored.{table_back, run_from_keeps}
use Rattle.rules.proofs.WantedBytes.{requests_again, records_length, list_fits}
use Rattle.promises.specs.Tables.{SoundUnder}
use Rattle.promises.specs.Wanted.{work_lines, Alike}
use Rattle.promises.specs.WantedOrder.{InOrder}
use Rattle.promises.specs.WantedPlans.{unlisted, all_listed, ListedIsExact, ListedRoomSuffices, ListedIsRead, SectionIsList, PlanLeads, asked_for, list_bytes, WriterLeads}
use Rattle.promises.specs.WantedPlans.{Led}
use Rattle.promises.specs.Writing.{written}
use Rattle.promises.proofs.Answers.{tells_lt, not_less}
use Rattle.promises.proofs.Closure.{config_ok, table_ok}
use Rattle.promises.proofs.Steps.{asked_is_accepted_by}
use Rattle.promises.proofs.Terminals.{plain_is_proper}
use Rattle.promises.proofs.Wanted.{list_leads, work_as, work_matches, granted, worked_list}
use Rattle.promises.proofs.Wanted.{granted_stands, sound_there, Granted}
use Rattle.promises.proofs.WantedOrder.{list_orders}
use Rattle.promises.proofs.Writing.{written_plan, writes_when_may_ask}

module _ (lim : Limits) where
  -- ---- in a lent buffer
  module _ (c : StoredConfig) (t w : StoredTable) (b : List ℕ) where
    abbrev qs : List Request
    qs = requests_for (table_of t) (table_of w)

    abbrev last : List (Rule Listed)
    last = unlisted b 28 when ltb (length b) (length qs * request_size) ∷ []

    -- what is made of an answer: it goes into the buffer, or is refused
    filled : Worked → Listed
    filled r =
        let f : Filled = filling (plain r.number 0 when not (eqb r.number 0) ∷ []) (records_of r.requests) b in
        record {
          number = f.outcome.number;
          count = cond (eqb f.outcome.number 0) (length r.requests) 0;
          buffer = f.buffer;
        }

    filled_list : filled (record { number = 0; requests = qs }) ≡ first_rule last (all_listed qs b)
    unfolding filled first_rule fill_answer fill_leaves
    filled_list =
        by (ltb (length b) (length (records_of qs)))
        ∙ ap (λ (n : ℕ). cond (ltb (length b) n) (unlisted b 28) (onto n)) (records_length qs)
      where
        onto : ℕ → Listed
        onto n = record { number = 0; count = length qs; buffer = records_of qs ++ drop n b }

        said : Bool → Outcome
        said d = cond d (plain 28 0) (plain 0 (length (records_of qs)))

        by : (d : Bool)
            → record {
              number = (said d).number;
              count = cond (eqb (said d).number 0) (length qs) 0;
              buffer =
                  cond (eqb (said d).number 0) (records_of qs ++ drop (length (records_of qs)) b) b;
            }
            ≡ cond d (unlisted b 28) (onto (length (records_of qs)))
        by true = refl
        by false = refl

    listed_rules : listed lim c t w b ≡ first_rule (work_as lim (unlisted b) c t w) (first_rule last (all_listed qs b))
    unfolding listed worked work_rules filled first_rule fill_answer fill_leaves records_of write_many
    listed_rules =
        first_map filled (work_rules lim c t w) (record { number = 0; requests = qs })
        ∙ ap (first_rule (work_as lim (unlisted b) c t w)) filled_list

    -- where it is not refused
    filled_zero : (r : Worked) → (filled r).number ≡ 0 → (r.number ≡ 0) × (length (records_of r.requests) ≤ length b)
    unfolding filled
    filled_zero r e =
        let (q, l) =
        zero_fits (records_of r.requests) (length b) (plain r.number 0 when not (eqb r.number 0) ∷ [])
        ((λ t z. eqb-false _ _ (not-true _ t) z), tt) e in
        (eqb-true _ _ (not-false _ q.0), l)

    listed_all : (listed lim c t w b).number ≡ 0 → Granted lim c t w × (listed lim c t w b ≡ all_listed qs b)
    unfolding listed filled first_rule
    listed_all e =
        let (z, l) = filled_zero (worked lim c t w) e in
        let g = granted lim c t w z in
        let same : worked lim c t w ≡ record { number = 0; requests = qs } = worked_list lim c t w g in
        let fits : length qs * request_size ≤ length b =
        omega (arith, l, ap (λ (a : Worked). length (records_of a.requests)) same, records_length qs) in (
          g,
          ap filled same
              ∙ filled_list
              ∙ ap (λ (d : Bool). cond d (unlisted b 28) (all_listed qs b))
              (le-ltb (length b) (length qs * request_size) fits),
        )

  pub listed_is_exact : ListedIsExact lim
  listed_is_exact c t w b =
      exactly_of (listed_rules c t w b)
      (first_of _ _ (work_matches lim (unlisted b) c t w)
      (λ none. first_of _ (λ a. all_listed (requests_for (table_of t) (table_of w)) b ≡ a) (tells_lt _ _ and all)
      (λ none a. ((λ e. e), λ e. e))))

  pub listed_room_suffices : ListedRoomSuffices lim
  listed_room_suffices c t w b room e = by (listed lim c t w b) e ((listed_is_exact c t w b (listed lim c t w b)).0 refl)
    where
      never : (n : ℕ) (a : Listed) → unlisted b n ≡ a → a.number ≡ 28 → (n ≡ 28 → ⊥) → ⊥
      never n a q f ne = ne (ap (λ (x : Listed). x.number) q ∙ f)

      by : (a : Listed) → a.number ≡ 28
          → FirstOf (work_lines (unlisted b) lim c t w)
          (FirstOf (unlisted b 28 given (length b < length (requests_for (table_of t) (table_of w)) * request_size) ∷ [])
          (λ x. all_listed (requests_for (table_of t) (table_of w)) b ≡ x)) a
          → ⊥
      by a f (inl (h, q)) = never 1 a q f (λ z. omega arith)
      by a f (inr (h, inl (k, q))) = never 2 a q f (λ z. omega arith)
      by a f (inr (h, inr (k, inl (i, q)))) = never 29 a q f (λ z. omega arith)
      by a f (inr (h, inr (k, inr (few, inl (short, q))))) =
          let most : length (requests_for (table_of t) (table_of w)) ≤ lim.requests = not_less _ _ few in
          omega (arith, most, short, room)
      by a f (inr (h, inr (k, inr (few, inr (j, q))))) =
          let z : ◌≡◌ {A = ℕ} 0 28 = ap (λ (x : Listed). x.number) q ∙ f in omega arith

  pub listed_is_read : ListedIsRead lim
  unfolding records_of
  listed_is_read say c t w b len e =
      let (g, same) = listed_all c t w b e in
      let qs : List Request = requests_for (table_of t) (table_of w) in
      let ok : SoundUnder lim c (table_of t) = sound_there lim c t w len t g.first in
      let good : SoundUnder lim c (table_of w) = sound_there lim c t w len w g.second in
      ap (λ (a : Listed). requests_in (take (a.count * request_size) a.buffer)) same
      ∙ ap requests_in (take_at (records_of qs) _ (length qs * request_size) (records_length qs))
      ∙ records_read (map asked_as qs)
      (list_fits lim say (config_of c) (config_ok lim c (table_of t) ok) (table_of t) (table_of w)
      (table_ok lim c (table_of t) ok) (table_ok lim c (table_of w) good))
      ∙ requests_again qs

  -- ---- as a plan
  pub section_is_list : SectionIsList lim
  unfolding write_headed records_of
  section_is_list qs = ap (λ (n : ℕ). bytes_of short_size n ++ records_of qs) (length-map qs asked_as)

  module _ (say : Sayable lim) (s : Terminal) (w : StoredTable) (len : length s.config.records ≡ lim.regions)
      (low : s.edition < last_edition) (g : Granted lim s.config s.table w) where
    abbrev list : List Request
    list = requests_for (table_of s.table) (table_of w)

    abbrev asked : List Asked
    asked = map asked_as list

    ok : SoundUnder lim s.config (table_of s.table)
    ok = sound_there lim s.config s.table w len s.table g.first

    good : SoundUnder lim s.config (table_of w)
    good = sound_there lim s.config s.table w len w g.second

    stands : standing lim s.config s.table ≡ 0
    stands = granted_stands lim s.config s.table w g

    -- the run of the plan's requests is that of the list
    ran : ran_at lim s.config s.table asked ≡ run lim (config_of s.config) (table_of s.table) list
    ran = ap (run lim (config_of s.config) (table_of s.table)) (requests_again list)

    many : length asked ≡ length list
    many = length-map list asked_as

    may : MayAsk lim s asked
    may =
        let few : length list ≤ lim.requests = g.few in
        let most : length asked ≤ lim.requests = omega (arith, many) in
        let said : lim.requests < 256 ^ 4 = say.requests in record {
          edition = low;
          fits = record {
            said = omega arith;
            least = omega arith;
            most = most;
            fits = (
              refl,
              list_fits lim say (config_of s.config) (config_ok lim s.config (table_of s.table) ok)
                  (table_of s.table) (table_of w) (table_ok lim s.config (table_of s.table) ok)
                  (table_ok lim s.config (table_of w) good),
            );
          };
          accepted =
              ap (λ (r : Run). r.inner) ran ∙ (list_leads lim s.config (table_of s.table) (table_of w) ok good).0;
        }

    applied : apply lim s (plan_bytes lim s asked)
        ≡ record {
          outcome = plain 0 (length asked);
          state = record {
            config = s.config;
            table = store lim (run lim (config_of s.config) (table_of s.table) list).table;
            edition = s.edition + 1;
          };
        }
    unfolding apply
    applied =
        asked_is_accepted_by (plain_steps lim) (plain_is_proper lim) say s asked len stands may
        ∙ ap (λ (r : Run). record {
          outcome = plain 0 (length asked);
          state = record { config = s.config; table = store lim r.table; edition = s.edition + 1 };
        }) ran

    -- what is stored is the table that the run leaves
    back : table_of (store lim (run lim (config_of s.config) (table_of s.table) list).table)
        ≡ (run lim (config_of s.config) (table_of s.table) list).table
    back =
        table_back lim (config_of s.config) _
        (run_from_keeps lim (config_of s.config) 0 (table_of s.table) list
        (table_ok lim s.config (table_of s.table) ok))

    led : Led s w (length asked) (apply lim s (plan_bytes lim s asked))
    led =
        subst (Led s w (length asked)) (sym applied)
        (record {
          outcome = refl;
          config = refl;
          edition = refl;
          alike =
              subst (λ (v : List Zone). Alike v (table_of w)) (sym back)
              (list_leads lim s.config (table_of s.table) (table_of w) ok good).2;
          order =
              subst (InOrder (table_of s.table) (table_of w)) (sym back)
              (list_orders lim s.config (table_of s.table) (table_of w) ok good);
        })

  pub plan_leads : PlanLeads lim
  plan_leads say s w len low e =
      let g = granted lim s.config s.table w e in
      subst (λ (q : List Asked). MayAsk lim s q × Led s w (length q) (apply lim s (plan_bytes lim s q)))
      (ap (λ (a : Worked). map asked_as a.requests) (sym (worked_list lim s.config s.table w g)))
      (may say s w len low g, led say s w len low g)

  -- ---- by the planner's writer
  module _ (say : Sayable lim) (s : Terminal) (w : StoredTable) (len : length s.config.records ≡ lim.regions)
      (low : s.edition < last_edition) (g : Granted lim s.config s.table w) where
    abbrev q : List Asked
    q = map asked_as (requests_for (table_of s.table) (table_of w))

    plan_written : (d : List ℕ) → length (plan_bytes lim s q) ≤ length d
        → ((write lim s q d).outcome.number ≡ 0) × (written lim s q d ≡ plan_bytes lim s q)
    plan_written d h =
        let m = may say s w len low g in
        let z = (writes_when_may_ask lim say s q d
        (record { edition = omega arith; numbers = m.fits.fits.1; records = len })).1
        (granted_stands lim s.config s.table w g, (m, h)) in
        (z, written_plan (plain_steps lim) s q d z)

    listed_asked : (b : List ℕ) → listed lim s.config s.table w b ≡ all_listed (list say s w len low g) b
        → ((listed lim s.config s.table w b).count ≡ length q) × (asked_of (list_bytes lim s w b) ≡ q)
    unfolding records_of
    listed_asked b same =
        let qs : List Request = requests_for (table_of s.table) (table_of w) in (
          ap (λ (a : Listed). a.count) same ∙ sym (length-map qs asked_as),
          ap (λ (a : Listed). asked_of (take (a.count * request_size) a.buffer)) same
              ∙ ap asked_of (take_at (records_of qs) _ (length qs * request_size) (records_length qs))
              ∙ asked_read q (may say s w len low g).fits.fits.1,
        )

  pub writer_leads : WriterLeads lim
  writer_leads say s w b d len low e h =
      let (g, same) = listed_all s.config s.table w b e in
      let (many, asks) = listed_asked say s w len low g b same in
      let eq : asked_for lim s w ≡ q say s w len low g =
      ap (λ (a : Worked). map asked_as a.requests) (worked_list lim s.config s.table w g) in
      let room : length (plan_bytes lim s (q say s w len low g)) ≤ length d =
      subst (λ (x : List Asked). length (plan_bytes lim s x) ≤ length d) eq h in
      let (z, p) = plan_written say s w len low g d room in (
        subst (λ (x : List Asked). (write lim s x d).outcome.number ≡ 0) (sym asks) z,
        subst (λ (n : ℕ). Led s w n (apply lim s (written lim s (asked_of (list_bytes lim s w b)) d))) (sym many)
            (subst (λ (x : List Asked). Led s w (length (q say s w len low g)) (apply lim s (written lim s x d))) (sym asks)
            (subst (λ (x : List ℕ). Led s w (length (q say s w len low g)) (apply lim s x)) (sym p)
            (led say s w len low g))),
      )
