-- Demand 2 of what is stored: where neither 1 nor 2 is answered the table is sound, so what holds of sound tables holds.
use Prim.Native.Nat.{ℕ}
use mathlib.Core.Bool.{true}
use mathlib.Core.List.{List}
use mathlib.Core.Path.{◌≡◌, sym, ap, subst, ◌∙◌}
use Rattle.rules.specs.Applying.{plain_steps, apply_by, Kept, AppliedOf}
use Rattle.rules.specs.Closure.{state_of, Transition}
use Rattle.rules.specs.Configuration.{config_of, StoredConfig}
use Rattle.rules.specs.Limits.{Limits}
use Rattle.rules.specs.OwnedPlan.{owned_steps}
use Rattle.rules.specs.Owners.{owned_of, owned_sound, owned_standing, StoredOwned}
use Rattle.rules.specs.Steps.{StepRule}
use Rattle.rules.specs.Tables.{table_of, Zone, StoredTable}
use Rattle.rules.specs.declared.Translated.{Translated}
use Rattle.rules.proofs.Keeps.{parts_sound}
use Rattle.rules.proofs.OwnedPlan.{owned_stands_well}
use Rattle.rules.proofs.Owners.{parts_owned}
use Rattle.promises.specs.Outside.{plain_outside, Outside}
use Rattle.promises.specs.Closure.{Corrections}
use Rattle.promises.specs.Owned.{owned_outside}
use Rattle.promises.specs.OwnedConfiguration.{OwnedPassed}
use Rattle.promises.specs.Standing.{StandsIsSoundBy, IsolationIsKeptBy, ZonesMeetOutsideBy, AnsweredIsUpstreamBy}
use Rattle.promises.specs.Standing.{StandsIsSound, IsolationIsKept, ZonesMeetOutside, AnsweredIsUpstream}
use Rattle.promises.specs.Standing.{UpstreamIsAnswered, OwnedStandsIsSound, OwnedIsolationIsKept}
use Rattle.promises.specs.Standing.{OwnedZonesMeetOutside, OwnedAnsweredIsUpstream, AnsweredIsBudget}
use Rattle.promises.specs.Standing.{AllRecords, RightsAreKeptBy, OwnedRightsAreKept, OwnedStretchIsConsecutive, OwnedNothingRemains}
use Rattle.promises.specs.Standing.{BudgetIsAnswered, KeptApart}
use Rattle.promises.specs.Rights.{RightsHold}
use Rattle.promises.specs.Tables.{SoundUnder}
use Rattle.promises.proofs.Outside.{stands_by, answered_stands, translated_stands, inside_request_by}
use Rattle.promises.proofs.Outside.{inside_address_by, plain_is_honest, Honest}
use Rattle.promises.proofs.Budget.{accepted_is_budget, budget_is_accepted}
use Rattle.promises.proofs.Closure.{accepted_is_upstream, upstream_is_accepted}
use Rattle.promises.proofs.Owned.{owned_is_honest}
use Rattle.promises.proofs.Rights.{rights_hold}
use Rattle.promises.proofs.Outside.{stretch_is_consecutive_by, nothing_remains_by}
use Rattle.promises.proofs.Steps.{configuration_stays_by, apply_keeps_sound_by}
use Rattle.promises.proofs.Tables.{no_address_in_two_zones, no_cpu_on_gic}
use Rattle.promises.proofs.Translation.{zones_meet_on_gic}

-- a sound table keeps zones apart
pub kept_apart : (lim : Limits) (s : StoredConfig) (t : List Zone) → SoundUnder lim s t → KeptApart s t
kept_apart lim s t ok = record {
  apart = no_address_in_two_zones lim s t ok;
  off_gic_law = no_cpu_on_gic lim s t ok;
  rights = rights_hold lim (config_of s) t ok.table;
}

module _ (m : StepRule) (o : Outside m) (ok : Honest m o) where
  pub stands_is_sound_by : StandsIsSoundBy m o
  stands_is_sound_by c t full e =
      let (a, b) = stands_by m o ok c t e in
      record {
        config = ok.passed_there c full a;
        table = parts_sound m.limits (config_of (o.first c)) (table_of t) (ok.sound_there c t b);
      }

  -- the table after any bytes is sound
  sound_after : (s : Kept m) (b : List ℕ) → AllRecords m o s.config → m.standing s.config s.table ≡ 0
      → SoundUnder m.limits (o.first s.config) (table_of (apply_by m s b).state.table)
  sound_after s b full e =
      stands_is_sound_by s.config (apply_by m s b).state.table full
      (subst (λ (c : m.Config). m.standing c (apply_by m s b).state.table ≡ 0) (configuration_stays_by m s b)
      (apply_keeps_sound_by m ok.proper s b e))

  pub isolation_is_kept_by : IsolationIsKeptBy m o
  isolation_is_kept_by s b full e =
      let left : List Zone = table_of (apply_by m s b).state.table in
      subst (λ (r : AppliedOf m.Config). KeptApart (o.first s.config) (table_of r.state.table))
      (sym (ok.deliver_so s b))
      (kept_apart m.limits (o.first s.config) left (sound_after s b full e))

  pub rights_are_kept_by : RightsAreKeptBy m o
  rights_are_kept_by s b e =
      let u : Kept m = (apply_by m s b).state in
      let stood = stands_by m o ok u.config u.table (apply_keeps_sound_by m ok.proper s b e) in
      subst (λ (r : AppliedOf m.Config). RightsHold (table_of r.state.table)) (sym (ok.deliver_so s b))
      (rights_hold m.limits (config_of (o.first u.config)) (table_of u.table)
      (parts_sound m.limits (config_of (o.first u.config)) (table_of u.table)
      (ok.sound_there u.config u.table stood.1)))

  pub zones_meet_outside_by : ZonesMeetOutsideBy m o
  zones_meet_outside_by c t full y z one other a b x ne e f p q =
      let st = translated_stands m o ok c t y one a e in
      let first = inside_address_by m o ok c t st y one a in
      let second = inside_address_by m o ok c t st z other b in
      zones_meet_on_gic m.limits (o.first c) (table_of t) (stands_is_sound_by c t full st) y z one other a.0 b.0 x
      ne
      (sym (ap (λ (r : Translated). r.number) first) ∙ e, sym (ap (λ (r : Translated). r.phys.0) first) ∙ p)
      (sym (ap (λ (r : Translated). r.number) second) ∙ f, sym (ap (λ (r : Translated). r.phys.0) second) ∙ q)

  pub answered_is_upstream_by : AnsweredIsUpstreamBy m o
  answered_is_upstream_by c t q full e =
      let st = answered_stands m o ok c t q e in
      let (z, same) = ok.accepted_there c (table_of t) q (sym (inside_request_by m o ok c t st q) ∙ e) in
      subst (λ (u : List Zone).
      Transition m.limits (config_of (o.first c)) q.kind q.zone (state_of (table_of t)) (state_of u)
      × Corrections m.limits q.kind q.zone (table_of t)) (sym same)
      (accepted_is_upstream m.limits (o.first c) (table_of t) q (stands_is_sound_by c t full st) z)

module _ (lim : Limits) where
  -- ---- document 01's terminals
  pub stands_is_sound : StandsIsSound lim
  stands_is_sound = stands_is_sound_by (plain_steps lim) (plain_outside lim) (plain_is_honest lim)

  pub isolation_is_kept : IsolationIsKept lim
  isolation_is_kept = isolation_is_kept_by (plain_steps lim) (plain_outside lim) (plain_is_honest lim)

  pub zones_meet_outside : ZonesMeetOutside lim
  zones_meet_outside = zones_meet_outside_by (plain_steps lim) (plain_outside lim) (plain_is_honest lim)

  pub answered_is_upstream : AnsweredIsUpstream lim
  answered_is_upstream = answered_is_upstream_by (plain_steps lim) (plain_outside lim) (plain_is_honest lim)

  pub upstream_is_answered : UpstreamIsAnswered lim
  upstream_is_answered c t q u full st tr co =
      let (z, w) = upstream_is_accepted lim c (table_of t) q u (stands_is_sound c t full st) tr co in
      (inside_request_by (plain_steps lim) (plain_outside lim) (plain_is_honest lim) c t st q ∙ z, w)

  -- ---- terminals with owners
  pub owned_stands_is_sound : OwnedStandsIsSound lim
  owned_stands_is_sound = stands_is_sound_by (owned_steps lim) (owned_outside lim) (owned_is_honest lim)

  pub owned_isolation_is_kept : OwnedIsolationIsKept lim
  owned_isolation_is_kept = isolation_is_kept_by (owned_steps lim) (owned_outside lim) (owned_is_honest lim)

  pub owned_zones_meet_outside : OwnedZonesMeetOutside lim
  owned_zones_meet_outside = zones_meet_outside_by (owned_steps lim) (owned_outside lim) (owned_is_honest lim)

  pub owned_answered_is_upstream : OwnedAnsweredIsUpstream lim
  owned_answered_is_upstream = answered_is_upstream_by (owned_steps lim) (owned_outside lim) (owned_is_honest lim)

  pub owned_rights_are_kept : OwnedRightsAreKept lim
  owned_rights_are_kept = rights_are_kept_by (owned_steps lim) (owned_outside lim) (owned_is_honest lim)

  pub owned_stretch_is_consecutive : OwnedStretchIsConsecutive lim
  owned_stretch_is_consecutive = stretch_is_consecutive_by (owned_steps lim) (owned_outside lim) (owned_is_honest lim)

  pub owned_nothing_remains : OwnedNothingRemains lim
  owned_nothing_remains = nothing_remains_by (owned_steps lim) (owned_outside lim) (owned_is_honest lim)

  -- the configuration passed, and the table is sound with owners
  owned_well : (c : StoredOwned) (t : StoredTable) → (owned_steps lim).Whole c → owned_standing lim c t ≡ 0
      → OwnedPassed lim c × (owned_sound lim (owned_of c) (table_of t) ≡ true)
  owned_well c t full st =
      let (a, tab) = owned_stands_well lim c t st in
      ((full.0, full.1, a), parts_owned lim (owned_of c) (table_of t) tab)

  pub answered_is_budget : AnsweredIsBudget lim
  answered_is_budget c t q full e =
      let st = answered_stands (owned_steps lim) (owned_outside lim) (owned_is_honest lim) c t q e in
      let (a, b) = owned_well c t full st in
      accepted_is_budget lim c (table_of t) q a b
      (sym (inside_request_by (owned_steps lim) (owned_outside lim) (owned_is_honest lim) c t st q) ∙ e)

  pub budget_is_answered : BudgetIsAnswered lim
  budget_is_answered c t q u full st tr co formed =
      let (a, b) = owned_well c t full st in
      let (z, w) = budget_is_accepted lim c (table_of t) q u a b tr co formed in
      (inside_request_by (owned_steps lim) (owned_outside lim) (owned_is_honest lim) c t st q ∙ z, w)
