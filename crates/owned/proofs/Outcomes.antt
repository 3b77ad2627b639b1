-- Applying a plan to terminals with owners: by what was found, after a run, and at the plan's own base. Each is the law
-- over a step rule at theirs.
use Prim.Native.Nat.{ℕ, ◌-◌, ◌≤◌}
use native.Mathlib.Omega.{arith}
use mathlib.Core.Bool.{true}
use mathlib.Core.List.{List}
use mathlib.Core.Path.{◌≡◌, sym, ap, ap₂, ◌∙◌}
use lib.ListN.{length, take, drop}
use Rattle.std.proofs.Common.{Result, Ok, Err}
use Rattle.lists.specs.Room.{room}
use Rattle.formats.specs.Formats.{Out, bad}
use Rattle.rules.specs.Applying.{store, plain, plan_config, store_config, answer_read_by, answer_alone_by}
use Rattle.rules.specs.Limits.{most_regions, limits}
use Rattle.rules.specs.OwnedPlan.{owned_regions, read_owned, owned_steps, OwnedPlan}
use Rattle.rules.specs.Owners.{owned_standing, owned_run_answer}
use Rattle.rules.specs.Plan.{regions_section, zones_section}
use Rattle.rules.specs.Numbers.{number}
use Rattle.rules.specs.Run.{requests_in}
use Rattle.rules.specs.Tables.{Zone}
use Rattle.rules.specs.declared.Region.{Region}
use Rattle.rules.specs.declared.Outcome.{Outcome}
use Rattle.rules.proofs.OwnedPlan.{owned_refuses}
use Rattle.zones.specs.Layout.{table_words}
use Rattle.zones.specs.View.{stored_config, stored_table}
use Rattle.zones.proofs.Spelling.{config_view, table_view}
use Rattle.owners.specs.Run.{owned_run_words, OwnedRan}
use Rattle.owners.specs.View.{stored_owned}
use Rattle.plan.specs.Held.{table_held}
use Rattle.plan.specs.Found.{FitsIn, PartsOf}
use Rattle.plan.specs.Machines.{FindsBy, StandsBy}
use Rattle.plan.specs.Sections.{config_for, config_answer, table_answer, RegionsIn, ZonesIn}
use Rattle.plan.specs.Steps.{away_with, base_number, own_by, RanBy, FoundBy}
use Rattle.plan.specs.Told.{told}
use Rattle.plan.specs.declared.finding.Found.{Found}
use Rattle.plan.specs.declared.finding.Parts.{Parts}
use Rattle.plan.specs.declared.refused.Refused.{Refused}
use Rattle.plan.proofs.Locating.{refusal_by, whole_by, Whole}
use Rattle.plan.proofs.Offsets.{rest_of}
use Rattle.plan.proofs.Steps.{cut_by, found_by, alone_by}
use Rattle.owned.specs.Applying.{OwnedApplied}
use Rattle.owned.specs.Found.{owned_zones_at, found_owned}
use Rattle.owned.specs.Held.{owned_held}
use Rattle.owned.specs.Section.{owners_in}
use Rattle.owned.proofs.Bases.{owned_small, config_passed, owned_stood, marks_within, zones_there, owned_same}
use Rattle.owned.proofs.Bases.{regions_at_law, owned_at, zones_at_law, zones_same, requests_same}

-- ---- by what was found: a refusal
module _ (b : List ℕ) (k a : ℕ) (f : Err (k, a) ≡ found_owned (length b) (read_owned limits b)) where
  refusal : (t : List ℕ) × (read_owned limits b ≡ bad k t) × (a ≡ length b - length t)
  refusal = refusal_by (λ (p : OwnedPlan). p.plan) owned_zones_at (length b) (read_owned limits b) k a f

  turned_by : (c o w : List ℕ) (ed : ℕ)
      → OwnedApplied c o w ed b (away_with (own_by (owned_steps limits) (stored_owned c o) w) k a) w
  turned_by c o w ed =
      let (t, e, n) = refusal in
      cut_by (owned_steps limits) (stored_owned c o) w ed b k t e (owned_refuses limits b k t e) _
      (ap (away_with (own_by (owned_steps limits) (stored_owned c o) w) k) n)

  pub alone_away : plain k a ≡ answer_alone_by (owned_steps limits) b
  unfolding answer_alone_by answer_read_by
  alone_away =
      let (t, e, n) = refusal in
      ap (plain k) n ∙ sym (ap (answer_read_by (owned_steps limits) b) e)

-- a plan that reads whole
module _ (b : List ℕ) (r : Found) (f : Ok r ≡ found_owned (length b) (read_owned limits b)) where
  whole : Whole (λ (p : OwnedPlan). p.plan) owned_zones_at (length b) (read_owned limits b) r
  whole = whole_by (λ (p : OwnedPlan). p.plan) owned_zones_at (length b) (read_owned limits b) r f

  pub fits : FitsIn b r
  fits = record {
    regions = marks_within b whole.said whole.left whole.read;
    zones = omega (arith, whole.zones_is, zones_there b whole.said whole.left whole.read);
    requests = omega (arith, whole.requests_is);
  }

  found_whole : (c o : List ℕ) (p : Parts) → PartsOf b r p → (w : List ℕ) (ed : ℕ) (v : Outcome) (u : List ℕ)
      → FoundBy (owned_steps limits) (stored_owned c o) w
      (base_number (owned_held p.regions.now p.gic c o) w ed p.edition p.zones.now) p.requests.now v u
      → OwnedApplied c o w ed b v u
  found_whole c o p of w ed v u h =
      let q = whole in
      found_by (owned_steps limits) (stored_owned c o) w ed b q.said q.left q.read
      (owned_held p.regions.now p.gic c o) p.edition p.zones.now p.requests.now (of.edition ∙ q.edition_is)
      (λ z. ap₂ (λ (s : List ℕ) (g : ℕ). owned_held s g c o) of.regions (of.gic ∙ q.gic_is)
      ∙ owned_same b q.said q.left q.read c o (config_passed c o w z))
      (λ z. ap (λ (s : List ℕ). table_held s w) (of.zones ∙ ap (λ (i : ℕ). drop i b) q.zones_is)
      ∙ zones_same b q.said q.left q.read w (owned_stood c o w z).zones)
      (ap requests_in (of.requests ∙ ap (λ (i : ℕ). drop i b) q.requests_is)
      ∙ requests_same b q.said q.left q.read) (owned_stood c o w) v u h

  -- at its own base: what was read of it, as words
  pub alone_found : (x c t : List ℕ) (y z : Result ℕ Refused)
      → x ≡ owners_in ((owned_regions limits).read (take (length b - 16) (drop 16 b)))
      → RegionsIn r.gic (take (length b - 16) (drop 16 b)) y c
      → ZonesIn (take (length b - r.zones) (drop r.zones b)) z t → (v : Outcome) (u : List ℕ)
      → OwnedApplied c x t r.edition b v u → v ≡ answer_alone_by (owned_steps limits) b
  unfolding owners_in config_answer table_answer
  alone_found x c t y z ex ec et v u h =
      let q = whole in
      let p : OwnedPlan = q.said in
      let regions : stored_config c ≡ store_config limits (plan_config p.plan) =
      ap stored_config ec.words
      ∙ ap (λ (s : List ℕ). stored_config (config_answer r.gic ((regions_section limits).read s)).words) (rest_of b 16)
      ∙ ap (λ (o : Out (List Region)). stored_config (config_answer r.gic o).words) (regions_at_law b p q.left q.read)
      ∙ ap (λ (g : ℕ). stored_config (config_for g p.plan.regions).words) q.gic_is
      ∙ config_view (plan_config p.plan) in
      let owners : x ≡ room most_regions 0 p.owners =
      ex
      ∙ ap (λ (s : List ℕ). owners_in ((owned_regions limits).read s)) (rest_of b 16)
      ∙ ap owners_in (owned_at b p q.left q.read) in
      let table : stored_table t ≡ store limits p.plan.zones =
      ap stored_table et.words
      ∙ ap (λ (s : List ℕ). stored_table (table_answer ((zones_section limits).read s)).words)
      (rest_of b r.zones ∙ ap (λ (i : ℕ). drop i b) q.zones_is)
      ∙ ap (λ (o : Out (List Zone)). stored_table (table_answer o).words) (zones_at_law b p q.left q.read)
      ∙ table_view p.plan.zones in
      alone_by (owned_steps limits) (stored_owned c x) t r.edition b p q.left q.read
      (λ i. record {
        config = record { config = regions i; owners = owners i };
        table = table i;
        edition = q.edition_is i;
      }) v u h

-- ---- so the sections are found as the rules apply plans
pub owned_finds : (c o b : List ℕ) (r : Result Found Refused) → told r ≡ found_owned (length b) (read_owned limits b)
    → FindsBy (owned_steps limits) (stored_owned c o) (λ (rs : List ℕ) (gic : ℕ). owned_held rs gic c o) b r
unfolding FindsBy
owned_finds c o b (Err r) e = λ t ed. turned_by b (number r.why) r.at e c o t ed
owned_finds c o b (Ok f) e = (fits b f e, λ p of t ed v u h. found_whole b f e c o p of t ed v u h)

-- ---- and a run is one by the step rule
module _ (c o t : List ℕ) where
  pub owned_stands : StandsBy (owned_steps limits) (stored_owned c o) t
  owned_stands = record { own = owned_small c o t; stood = owned_stood c o t }

  pub owned_ran : (b : List ℕ) (r : Outcome) (u : List ℕ) → OwnedRan c o t b r u
      → RanBy (owned_steps limits) (stored_owned c o) t b r u
  unfolding owned_run_answer owned_run_words
  owned_ran b r u ran = record { answer = ran.answer; table = ran.table }
