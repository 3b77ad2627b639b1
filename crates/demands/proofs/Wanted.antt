-- The two calls are those of the rules' list and of the rules' writer, each at what the other left.
use Prim.Native.Nat.{ℕ, ◌*◌}
use mathlib.Core.List.{List}
use mathlib.Core.Path.{◌≡◌, sym, ap, ap₂, subst, ◌∙◌}
use lib.ListN.{take}
use Rattle.rules.specs.Applying.{apply}
use Rattle.rules.specs.Limits.{limits}
use Rattle.rules.specs.Run.{request_size}
use Rattle.rules.specs.Writer.{asked_of}
use Rattle.rules.specs.declared.Outcome.{Outcome}
use Rattle.rules.proofs.Planner.{limits_sayable}
use Rattle.promises.specs.WantedPlans.{list_bytes, Led}
use Rattle.promises.specs.Writing.{written}
use Rattle.promises.proofs.WantedPlans.{writer_leads}
use Rattle.zones.specs.View.{stored_table}
use Rattle.writer.specs.Writer.{lent_in, writes_in}
use Rattle.wanted.specs.Wanted.{listed_in}
use Rattle.demands.specs.Wanted.{requests_left, CallsLead}
use Rattle.demands.proofs.Following.{all_records_law}

pub calls_lead : CallsLead
calls_lead c t w b d e o v p u x lists zero low writes room =
    let bytes : requests_left o v ≡ list_bytes limits (lent_in c t e) (stored_table w) b =
    ap₂ (λ (k : ℕ) (l : List ℕ). take (k * request_size) l) lists.count lists.buffer in
    let leads =
    writer_leads limits limits_sayable (lent_in c t e) (stored_table w) b d (all_records_law c) low
    (sym lists.number ∙ zero) room in
    let answer : p ≡ (writes_in c t e (list_bytes limits (lent_in c t e) (stored_table w) b) d).outcome =
    writes.answer ∙ ap (λ (r : List ℕ). (writes_in c t e r d).outcome) bytes in
    let plan : take p.place x
    ≡ written limits (lent_in c t e) (asked_of (list_bytes limits (lent_in c t e) (stored_table w) b)) d =
    ap₂ (λ (q : Outcome) (l : List ℕ). take q.place l) answer
    (writes.buffer ∙ ap (λ (r : List ℕ). (writes_in c t e r d).buffer) bytes) in (
      ap (λ (q : Outcome). q.number) answer ∙ leads.0,
      subst (λ (n : ℕ). Led (lent_in c t e) (stored_table w) n (apply limits (lent_in c t e) (take p.place x)))
          (sym lists.count)
          (subst (λ (l : List ℕ). Led (lent_in c t e) (stored_table w) (listed_in c t w b).count
          (apply limits (lent_in c t e) l)) (sym plan) leads.1),
    )
