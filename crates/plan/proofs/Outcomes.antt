-- Applying a plan to document 01's terminals: by what was found, by value, and at the plan's own base.
use Prim.Native.Nat.{ℕ, ◌+◌, ◌-◌, ◌*◌, ◌^◌, ◌≤◌, ◌<◌}
use native.Mathlib.Omega.{arith}
use mathlib.Core.Bool.{Bool, true, false, cond}
use mathlib.Core.List.{List, []}
use mathlib.Core.Path.{◌≡◌, refl, sym, ap, ap₂, subst, ◌∙◌}
use borrow.Author.Tests.{eq-eqb, ne_eqb}
use lib.Dec.{eqb}
use Rattle.std.proofs.Common.{Result, Ok, Err, IsOk}
use lib.ListN.{length, take, drop}
use Rattle.lists.specs.Bytes.{Bytes}
use Rattle.formats.specs.Formats.{Out, got, bad}
use Rattle.rules.specs.Applying as rules
use Rattle.rules.specs.Applying.{last_edition, plain, plain_steps, apply, base_of, answer_read}
use Rattle.rules.specs.Applying.{answer_alone, Terminal}
use Rattle.rules.specs.Differing.{zones_part, zones_of}
use Rattle.rules.specs.Limits.{limits}
use Rattle.rules.specs.Numbers.{number}
use Rattle.rules.specs.Plan.{regions_section, zones_section, read_plan, Plan}
use Rattle.rules.specs.Requests.{standing}
use Rattle.rules.specs.Run.{request_size, requests_in}
use Rattle.rules.specs.Sizes.{zones_size, plan_size, zones_at, requests_at}
use Rattle.rules.specs.Tables.{table_of}
use Rattle.rules.specs.declared.Outcome.{Outcome}
use Rattle.rules.proofs.Plan.{plan_refuses, no_slack}
use Rattle.rules.proofs.Sizes.{encoded_length}
use Rattle.zones.specs.View.{stored_config, stored_table}
use Rattle.zones.specs.Words.{words_of}
use Rattle.plan.specs.Applying.{terminal_in, state_for, in_words, applied, state_in, turned_away, AppliedIn, FoundIn}
use Rattle.plan.specs.Found.{found_in, FitsIn, PartsOf}
use Rattle.plan.specs.Held.{config_held, table_held}
use Rattle.plan.specs.Read.{records_in, stretch_of, read_answer}
use Rattle.plan.specs.Sections.{RegionsIn, ZonesIn, config_answer, table_answer}
use Rattle.rules.specs.Tables.{Zone}
use Rattle.rules.specs.declared.Region.{Region}
use Rattle.plan.specs.Sections.{config_for, table_for, regions_answer, zones_answer}
use Rattle.plan.specs.declared.sections.Regions.{Regions}
use Rattle.plan.specs.declared.sections.Zones.{Zones}
use Rattle.plan.specs.Machines.{FindsBy}
use Rattle.plan.specs.Steps.{away_with, base_number, own_by, AppliedBy, FoundBy}
use Rattle.plan.specs.Told.{Told, told as told_of, answer_by}
use Rattle.plan.specs.declared.applying.Applied.{Applied}
use Rattle.plan.specs.declared.applying.State.{State}
use Rattle.plan.specs.declared.finding.Found.{Found}
use Rattle.plan.specs.declared.finding.Parts.{Parts}
use Rattle.plan.specs.declared.read.Read.{Read}
use Rattle.plan.specs.declared.refused.Refused.{Refused}
use Rattle.plan.proofs.Bases.{marks_within, zones_there, regions_at_law, zones_at_law, config_same, zones_same}
use Rattle.plan.proofs.Bases.{requests_same}
use Rattle.plan.proofs.Locating.{refusal_by, whole_by, Whole}
use Rattle.plan.proofs.Offsets.{rest_of}
use Rattle.plan.proofs.Steps.{cut_by, found_by, accepted_by}
use Rattle.plan.proofs.Undoing.{plainly_stood}
use Rattle.zones.proofs.Spelling.{config_view, table_view}

-- ---- where the words lie
-- what is answered by the step rule
pub applied_in : (c t : List ℕ) (ed : ℕ) (b : List ℕ) (v : Outcome) (u : List ℕ)
    → AppliedBy (plain_steps limits) (stored_config c) t ed b v u → AppliedIn c t ed b v u
unfolding applied in_words apply
applied_in c t ed b v u h = record {
  answer = h.answer;
  table =
      h.table
      ∙ ap (λ (o : Outcome). cond (eqb o.number 0) (words_of (table_of told.state.table)) t) h.answer
      ∙ by (eqb told.outcome.number 0);
}
  where
    told : rules.Applied
    told = apply limits (terminal_in (state_in c t ed)) b

    by : (x : Bool) → cond x (words_of (table_of told.state.table)) t
        ≡ (cond x (state_for (state_in c t ed) told.state) (state_in c t ed)).table.words
    by true = refl
    by false = refl

-- ---- by what was found: a refusal
module _ (b : List ℕ) (k a : ℕ) (f : Err (k, a) ≡ found_in (length b) (read_plan limits b)) where
  refusal : (t : List ℕ) × (read_plan limits b ≡ bad k t) × (a ≡ length b - length t)
  refusal = refusal_by (λ (p : Plan). p) (zones_at limits) (length b) (read_plan limits b) k a f

  pub turned_by : (c w : List ℕ) (ed : ℕ)
      → AppliedBy (plain_steps limits) (stored_config c) w ed b (away_with (own_by (plain_steps limits) (stored_config c) w) k a) w
  turned_by c w ed =
      let (t, e, n) = refusal in
      cut_by (plain_steps limits) (stored_config c) w ed b k t e (plan_refuses limits b k t e) _
      (ap (away_with (own_by (plain_steps limits) (stored_config c) w) k) n)

  pub apply_away : (c w : List ℕ) (ed : ℕ) (v : Outcome) → v ≡ turned_away c w k a → AppliedIn c w ed b v w
  unfolding turned_away
  apply_away c w ed v h =
      applied_in c w ed b v w
      (subst (λ (o : Outcome). AppliedBy (plain_steps limits) (stored_config c) w ed b o w) (sym h) (turned_by c w ed))

  pub read_away : Err (k, a) ≡ read_answer (length b) (read_plan limits b)
  unfolding answer_by
  read_away =
      let (t, e, n) = refusal in ap (λ (p : ℕ). Err (k, p)) n ∙ sym (ap (read_answer (length b)) e)

  pub none_found : [] ≡ records_in b
  unfolding answer_by stretch_of
  none_found = let (t, e, n) = refusal in sym (ap (λ (o : Out Plan). stretch_of (read_answer (length b) o) b) e)

  pub no_base : [] ≡ zones_of limits b
  unfolding zones_of zones_part
  no_base = let (t, e, n) = refusal in sym (ap (zones_part limits b) e)

-- a plan that reads whole
module _ (b : List ℕ) (r : Found) (f : Ok r ≡ found_in (length b) (read_plan limits b)) where
  pub whole : Whole (λ (p : Plan). p) (zones_at limits) (length b) (read_plan limits b) r
  whole = whole_by (λ (p : Plan). p) (zones_at limits) (length b) (read_plan limits b) r f

  pub fits : FitsIn b r
  fits = record {
    regions = marks_within b whole.said whole.left whole.read;
    zones = omega (arith, whole.zones_is, zones_there b whole.said whole.left whole.read);
    requests = omega (arith, whole.requests_is);
  }

  pub base_within : r.requests - 4 ≤ length b
  base_within = omega (arith, fits.requests)

  pub found_whole : (c : List ℕ) (p : Parts) → PartsOf b r p → (w : List ℕ) (ed : ℕ) (v : Outcome) (u : List ℕ)
      → FoundBy (plain_steps limits) (stored_config c) w
      (base_number (config_held p.regions.now p.gic c) w ed p.edition p.zones.now) p.requests.now v u
      → AppliedBy (plain_steps limits) (stored_config c) w ed b v u
  found_whole c p of w ed v u h =
      let q = whole in
      found_by (plain_steps limits) (stored_config c) w ed b q.said q.left q.read
      (config_held p.regions.now p.gic c) p.edition p.zones.now p.requests.now (of.edition ∙ q.edition_is)
      (λ z. ap₂ (λ (s : List ℕ) (g : ℕ). config_held s g c) of.regions (of.gic ∙ q.gic_is)
      ∙ config_same b q.said q.left q.read c w z)
      (λ z. ap (λ (s : List ℕ). table_held s w) (of.zones ∙ ap (λ (i : ℕ). drop i b) q.zones_is)
      ∙ zones_same b q.said q.left q.read c w z)
      (ap requests_in (of.requests ∙ ap (λ (i : ℕ). drop i b) q.requests_is)
      ∙ requests_same b q.said q.left q.read) (plainly_stood c w) v u h

  pub apply_found : (c w : List ℕ) (ed : ℕ) (p : Parts) → PartsOf b r p → (v : Outcome) (u : List ℕ)
      → FoundIn c w ed p v u → AppliedIn c w ed b v u
  apply_found c w ed p of v u h = applied_in c w ed b v u (found_whole c p of w ed v u h)

  -- its sections read where they begin
  regions_read : (t : List ℕ) × ((regions_section limits).read (take (length b - 16) (drop 16 b)) ≡ got whole.said.regions t)
  regions_read = (
    _,
    ap (λ (l : List ℕ). (regions_section limits).read l) (rest_of b 16)
        ∙ regions_at_law b whole.said whole.left whole.read,
  )

  zones_read : (t : List ℕ)
      × ((zones_section limits).read (take (length b - r.zones) (drop r.zones b)) ≡ got whole.said.zones t)
  zones_read = (
    _,
    ap (λ (l : List ℕ). (zones_section limits).read l) (rest_of b r.zones ∙ ap (λ (i : ℕ). drop i b) whole.zones_is)
        ∙ zones_at_law b whole.said whole.left whole.read,
  )

  -- what it says, as words
  pub plan_read : (x y : Result ℕ Refused) (u v : List ℕ) → RegionsIn r.gic (take (length b - 16) (drop 16 b)) x u
      → ZonesIn (take (length b - r.zones) (drop r.zones b)) y v
      → ◌≡◌ {A = Told Read}
      (Ok (record {
        requests = r.requests;
        edition = r.edition;
        config = record { words = u };
        table = record { words = v };
      }))
      (read_answer (length b) (read_plan limits b))
  unfolding answer_by config_answer table_answer
  plan_read x y u v rs zs =
      let q = whole in
      let config : u ≡ (config_for q.said.marks.gic q.said.regions).words =
      rs.words ∙ ap (λ (o : Out (List Region)). (config_answer r.gic o).words) regions_read.1
      ∙ ap (λ (g : ℕ). (config_for g q.said.regions).words) q.gic_is in
      let table : v ≡ (table_for q.said.zones).words =
      zs.words ∙ ap (λ (o : Out (List Zone)). (table_answer o).words) zones_read.1 in
      (λ i. Ok (record {
        requests = q.requests_is i;
        edition = q.edition_is i;
        config = record { words = config i };
        table = record { words = table i };
      }))
      ∙ sym (ap (read_answer (length b)) q.read)

  pub requests_found_law : take (length b - r.requests) (drop r.requests b) ≡ records_in b
  unfolding answer_by stretch_of
  requests_found_law =
      let q = whole in
      rest_of b r.requests
      ∙ ap (λ (i : ℕ). drop i b) q.requests_is
      ∙ sym (ap (λ (o : Out Plan). stretch_of (read_answer (length b) o) b) q.read)

  -- its zones go from their count as far as that of its requests
  module _ (bytes : Bytes b) where
    base_end : r.requests ≡ 4 + requests_at limits whole.said
    unfolding plan_size
    base_end =
        let q = whole in
        omega (
          arith,
          q.requests_is,
          ap length (no_slack limits b q.said q.left bytes q.read).0,
          encoded_length limits q.said,
        )

    pub base_four : 4 ≤ r.requests
    base_four = omega (arith, base_end)

    pub base_fits : r.zones ≤ r.requests - 4
    base_fits = omega (arith, base_end, whole.zones_is)

    pub base_found : take (r.requests - 4 - r.zones) (drop r.zones b) ≡ zones_of limits b
    unfolding zones_of zones_part
    base_found =
        let q = whole in
        let n : r.requests - 4 - r.zones ≡ zones_size q.said.zones = omega (arith, base_end, whole.zones_is) in
        ap₂ (λ (i j : ℕ). take i (drop j b)) n q.zones_is ∙ sym (ap (zones_part limits b) q.read)

-- ---- by value: o was answered where the words lie, and u are the table's then
accepted : (t : Terminal) (b : List ℕ) → (apply limits t b).outcome.number ≡ 0
    → (t.edition ≡ last_edition → ⊥) × ((apply limits t b).state.edition ≡ t.edition + 1)
unfolding apply
accepted t b = accepted_by (plain_steps limits) t b (plan_refuses limits)

module _ (s : State) (b : List ℕ) (o : Outcome) (u : List ℕ)
    (done : AppliedIn s.config.words s.table.words s.edition b o u) where
  abbrev told : rules.Applied
  told = apply limits (terminal_in s) b

  answered : o ≡ told.outcome
  unfolding applied in_words
  answered = done.answer

  pub value_refused : (o.number ≡ 0 → ⊥) → ◌≡◌ {A = Applied} (record { outcome = o; state = s }) (applied s b)
  unfolding applied in_words
  value_refused ne =
      sym (ap (λ (x : Bool). record { outcome = o; state = cond x (state_for s told.state) s }) (ne_eqb _ 0 ne))
      ∙ ap (λ (v : Outcome). record { outcome = v; state = cond (eqb v.number 0) (state_for s told.state) s })
      answered

  module _ (z : o.number ≡ 0) where
    zero_told : told.outcome.number ≡ 0
    zero_told = sym (ap (λ (v : Outcome). v.number) answered) ∙ z

    pub edition_room : s.edition < 2 ^ 32 → s.edition + 1 < 2 ^ 32
    edition_room l = omega (arith, ne_below s.edition l (accepted (terminal_in s) b zero_told).0)
      where
        ne_below : (n : ℕ) → n < 2 ^ 32 → (n ≡ last_edition → ⊥) → n + 1 < 2 ^ 32
        ne_below n l ne = omega (arith, ne)

    pub value_accepted : ◌≡◌ {A = Applied} (record
        { outcome = o; state = record { config = s.config; table = record { words = u }; edition = s.edition + 1 } })
        (applied s b)
    unfolding applied in_words
    value_accepted =
        let taken : eqb told.outcome.number 0 ≡ true = eq-eqb _ 0 zero_told in
        let words : u ≡ words_of (table_of told.state.table) =
        done.table ∙ ap (λ (x : Bool). (cond x (state_for s told.state) s).table.words) taken in
        (λ i. record {
          outcome = answered i;
          state = record {
            config = s.config;
            table = record { words = words i };
            edition = sym (accepted (terminal_in s) b zero_told).1 i;
          };
        })
        ∙ sym (ap (λ (x : Bool). record { outcome = told.outcome; state = cond x (state_for s told.state) s }) taken)

-- ---- the plan's own base
module _ (b : List ℕ) where
  pub alone_away : (e : Refused) → told_of (Err e) ≡ read_answer (length b) (read_plan limits b)
      → plain (number e.why) e.at ≡ answer_alone limits b
  unfolding answer_by answer_alone answer_read
  alone_away e f = by (read_plan limits b) refl f
    where
      by : (o : Out Plan) → read_plan limits b ≡ o → told_of (Err e) ≡ read_answer (length b) o
          → plain (number e.why) e.at ≡ answer_read limits b (read_plan limits b)
      by (got p t) q g = absurd (cc)
      by (bad j t) q g =
          let m : ◌≡◌ {A = ℕ × ℕ} (number e.why, e.at) (j, length b - length t) = cc in
          ap (λ (x : ℕ × ℕ). plain x.0 x.1) m ∙ sym (ap (answer_read limits b) q)

  pub alone_reads : (r : Read) → Ok r ≡ read_answer (length b) (read_plan limits b) → (v : Outcome) (u : List ℕ)
      → AppliedIn r.config.words r.table.words r.edition b v u → v ≡ answer_alone limits b
  unfolding answer_by answer_alone answer_read applied in_words
  alone_reads r f v u h = by (read_plan limits b) refl f
    where
      by : (o : Out Plan) → read_plan limits b ≡ o → Ok r ≡ read_answer (length b) o
          → v ≡ answer_read limits b (read_plan limits b)
      by (got p t) e g =
          let q : r ≡ record {
            requests = length b - length p.asked * request_size;
            edition = p.marks.edition;
            config = config_for p.marks.gic p.regions;
            table = table_for p.zones;
          } = cc in
          let base : terminal_in (state_in r.config.words r.table.words r.edition) ≡ base_of limits p =
          ap (λ (x : Read). terminal_in (state_in x.config.words x.table.words x.edition)) q
          ∙ (λ i. record {
            config = config_view (record { regions = p.regions; gic = p.marks.gic }) i;
            table = table_view p.zones i;
            edition = p.marks.edition;
          }) in
          h.answer ∙ ap (λ (x : Terminal). (apply limits x b).outcome) base ∙ sym (ap (answer_read limits b) e)
      by (bad j t) e g = absurd (cc)

-- so the sections are found as the rules apply plans
pub plainly_finds : (c b : List ℕ) (r : Result Found Refused) → told_of r ≡ found_in (length b) (read_plan limits b)
    → FindsBy (plain_steps limits) (stored_config c) (λ (rs : List ℕ) (gic : ℕ). config_held rs gic c) b r
unfolding FindsBy
plainly_finds c b (Err r) e = λ t ed. turned_by b (number r.why) r.at e c t ed
plainly_finds c b (Ok f) e = (fits b f e, λ p of t ed v u h. found_whole b f e c p of t ed v u h)
