-- What the writer wrote is the plan that the planner may ask for, so the laws of the code's terminals are laws of these,
-- and the demand follows by the same argument.
use Prim.Native.Nat.{ℕ, suc, ◌+◌, ◌*◌, ◌≤◌}
use native.Mathlib.Omega.{arith}
use mathlib.Core.List.{List, [], ◌++◌, append_assoc}
use mathlib.Core.Path.{◌≡◌, refl, sym, ap, ap₂, subst, ◌∙◌}
use lib.ListN.{length, take, drop, length-append}
use lib.Seq.{drop_at}
use Rattle.lists.specs.Bytes.{bytes_of, Bytes}
use Rattle.formats.specs.Formats.{got, write_many, write_both, write_with, write_headed}
use Rattle.formats.proofs.Sizes.{sized_many, total_same}
use Rattle.rules.specs.Applying.{plain_steps, apply, Terminal}
use Rattle.rules.specs.Fields.{short_size}
use Rattle.rules.specs.Filling.{Filled}
use Rattle.rules.specs.Limits.{limits}
use Rattle.rules.specs.Planner.{plan_bytes, MayAsk}
use Rattle.rules.specs.Plan.{asked_field, marks_section, regions_section, zones_section, read_plan, encode, Asked, Plan}
use Rattle.rules.specs.Run.{request_size}
use Rattle.rules.specs.Sizes.{requests_at}
use Rattle.rules.specs.Writer.{write, asked_of}
use Rattle.rules.specs.declared.Outcome.{Outcome}
use Rattle.rules.proofs.Plan.{no_slack}
use Rattle.rules.proofs.Planner.{limits_sayable}
use Rattle.rules.proofs.Records.{asked_read}
use Rattle.rules.proofs.Sizes.{sized_asked}
use Rattle.rules.proofs.Writer.{zero_writable}
use Rattle.promises.specs.Editions as editions
use Rattle.promises.specs.Outside.{plain_outside}
use Rattle.promises.specs.Editions.{Lawful}
use Rattle.promises.specs.Writing.{Lendable}
use Rattle.promises.proofs.Outside.{stands_by, plain_is_honest}
use Rattle.promises.proofs.Editions.{always_in_step, equal_editions_equal_tables, lower_is_behind}
use Rattle.promises.proofs.Writing.{may_ask, written_plan, writes_when_may_ask, accepted_is_written, plan_within}
use Rattle.plan.specs.Applying.{terminal_in}
use Rattle.plan.specs.Read.{records_in}
use Rattle.writer.proofs.Bytes.{asked_fit}
use Rattle.demands.specs.Following.{Code, Meets, lent, terminals_of, Words}
use Rattle.demands.specs.Writing.{Pen, PenMeets, Writes, wrote, terminals_by, WriterIsLawful, InStepWithWriter}
use Rattle.demands.specs.Writing.{EqualEditionsByWriter, LowerIsBehindByWriter, StartStands, WriterAsksAlike, AcceptedIsWrittenByCalls}
use Rattle.demands.proofs.Following.{now, all_records_law, start_stands, code_is_lawful, calls_meet}
use Rattle.demands.proofs.Reading.{long, requests_handed_back}

module _ (f : Code) (g : Pen) (meets : Meets f) (pen : PenMeets g) (w : List ℕ) where
  module _ (s : editions.State Words) (r : List ℕ) (h : Writes g (lent s) r w) where
    -- the rules' writer answers 0 there too
    answered : (write limits (now s) (asked_of r) w).outcome.number ≡ 0
    answered = ap (λ (o : Outcome). o.number) (sym (pen (lent s) r w).answer) ∙ h.answer

    may : MayAsk limits (now s) (asked_of r)
    may =
        may_ask (plain_steps limits) limits_sayable (now s) (asked_of r)
        (record {
          edition = h.edition;
          numbers = asked_fit r h.bytes;
          records = all_records_law s.table.config.words;
        })
        (length w) (zero_writable (plain_steps limits) (now s) (asked_of r) w answered)

    wrote_plan : wrote g (lent s) r w ≡ plan_bytes limits (now s) (asked_of r)
    wrote_plan =
        ap₂ (λ (o : Outcome) (v : List ℕ). take o.place v) (pen (lent s) r w).answer (pen (lent s) r w).buffer
        ∙ written_plan (plain_steps limits) (now s) (asked_of r) w answered

  pub writer_laws : Lawful (terminals_by f g w)
  writer_laws =
      let law : Lawful (terminals_of f) = code_is_lawful f meets in record {
        stays = law.stays;
        fits = law.fits;
        tells = law.tells;
        leads =
            λ s r ok h. subst (λ (b : List ℕ). ((terminals_of f).number s b ≡ 0)
            × ((terminals_of f).after s b
            ≡ record { edition = suc s.edition; table = (terminals_of f).next s.table (asked_of r) }))
            (sym (wrote_plan s r h)) (law.leads s (asked_of r) ok (may s r h));
        keeps = λ s r ok h. law.keeps s (asked_of r) ok (may s r h);
      }

pub writer_is_lawful : WriterIsLawful
writer_is_lawful f g meets pen w = writer_laws f g meets pen w

pub in_step_with_writer : InStepWithWriter
in_step_with_writer f g meets pen w c asked = always_in_step _ (writer_laws f g meets pen w) _

pub equal_editions_by_writer : EqualEditionsByWriter
equal_editions_by_writer f g meets pen w c asked = equal_editions_equal_tables _ (writer_laws f g meets pen w) _

pub lower_is_behind_by_writer : LowerIsBehindByWriter
lower_is_behind_by_writer f g meets pen w c asked = lower_is_behind _ (writer_laws f g meets pen w) _

pub start_stands_too : StartStands
start_stands_too f g w c asked ok = start_stands c (λ i. []) f ok

-- ---- the writer and the planner of the rules
pub writer_asks_alike : WriterAsksAlike
writer_asks_alike g pen s r w st low bytes long = (
  (λ h. ((writes_when_may_ask limits limits_sayable t (asked_of r) w lendable).0
      (ap (λ (o : Outcome). o.number) (sym (pen s r w).answer) ∙ h.answer)).1.0),
  (λ h. record {
    edition = low;
    bytes = bytes;
    answer =
        ap (λ (o : Outcome). o.number) (pen s r w).answer
        ∙ (writes_when_may_ask limits limits_sayable t (asked_of r) w lendable).1 (st, (h, fits h));
  }),
)
  where
    t : Terminal
    t = terminal_in s

    lendable : Lendable limits (terminal_in s) (asked_of r)
    lendable = record { edition = low; numbers = asked_fit r bytes; records = all_records_law s.config.words }

    fits : MayAsk limits (terminal_in s) (asked_of r) → length (plan_bytes limits (terminal_in s) (asked_of r)) ≤ length w
    fits h =
        let stands = stands_by (plain_steps limits) (plain_outside limits) (plain_is_honest limits) (terminal_in s).config
        (terminal_in s).table st in
        let most = plan_within limits limits_sayable (terminal_in s) (asked_of r) (all_records_law s.config.words)
        (record { config = stands.0; table = stands.1 }) h.edition h.fits in
        omega (arith, most, long)

-- ---- what is accepted is what is written
module _ (p : Plan) where
  abbrev records : List ℕ
  records = write_many asked_field p.asked

  -- a plan's bytes end with its requests
  front : (w : List ℕ) × (encode limits p ≡ w ++ records)
  unfolding encode write_both write_with write_headed
  front =
      let M : List ℕ = (marks_section limits).write p.marks in
      let R : List ℕ = (regions_section limits).write p.regions in
      let Z : List ℕ = (zones_section limits).write p.zones in
      let n : List ℕ = bytes_of 4 (length p.asked) in (
        M ++ (R ++ (Z ++ n)),
        sym (append_assoc M (R ++ (Z ++ n)) records
            ∙ ap (λ (x : List ℕ). M ++ x) (append_assoc R (Z ++ n) records
            ∙ ap (λ (x : List ℕ). R ++ x) (append_assoc Z n records))),
      )

  asked_again : (b : List ℕ) → Bytes b → read_plan limits b ≡ got p [] → asked_of (records_in b) ≡ p.asked
  asked_again b bytes e =
      let (same, fit) = no_slack limits b p [] bytes e in
      let (w, q) = front in
      let whole = requests_handed_back.whole b bytes p e in
      let n : length records ≡ length p.asked * request_size =
      sized_many asked_field (λ a. request_size) sized_asked p.asked ∙ total_same request_size p.asked in
      let at : requests_at limits p + short_size ≡ length w =
      omega (arith, n, ap length (same ∙ q), length-append w records, long b p e bytes) in
      ap asked_of (whole.2 ∙ ap (λ (k : ℕ). drop k b) at ∙ ap (drop (length w)) (same ∙ q) ∙ drop_at w records (length w) refl)
      ∙ asked_read p.asked fit.1.1.1.fits.1

pub accepted_is_written_by_calls : AcceptedIsWrittenByCalls
unfolding apply
accepted_is_written_by_calls f g meets pen s b bytes e w long =
    let zero = ap (λ (o : Outcome). o.number) (sym (calls_meet f meets s b).answer) ∙ e in
    let (p, read, writes) = accepted_is_written limits (terminal_in s) b bytes zero in
    let is = writes w long in
    let again : asked_of (records_in b) ≡ p.asked = asked_again p b bytes read in
    let done = ap (λ (q : List Asked). write limits (terminal_in s) q w) again ∙ is in
    (λ i. record { outcome = ((pen s (records_in b) w).answer ∙ ap (λ (x : Filled). x.outcome) done) i; buffer = ((pen s (records_in b) w).buffer ∙ ap (λ (x : Filled). x.buffer) done) i })
