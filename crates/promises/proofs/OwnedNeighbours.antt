-- Neighbours at terminals with owners: their rules are the first machine's with one test widened by what no table says,
-- so they go in step too; and 14 does not occur.
use Prim.Native.Nat.{ℕ}
use mathlib.Core.Bool.{true, ◌&&◌, ◌||◌}
use mathlib.Core.List.{List, []}
use mathlib.Core.Logic.{inl, inr, ⊎_elim}
use mathlib.Core.Path.{◌≡◌, refl, subst}
use lib.Dec.{eqb}
use lib.ListN.{length}
use Rattle.rules.specs.Limits.{Limits}
use Rattle.rules.specs.OwnedPlan.{owned_steps}
use Rattle.rules.specs.Owners.{owned_of, owned_sound, stranger, eleven_too, owned_rules, owned_refusal, owned_next}
use Rattle.rules.specs.Owners.{owned_answer, owned_translated, Owned, StoredOwned}
use Rattle.rules.specs.Requests.{request_rules}
use Rattle.rules.specs.Tables.{Zone}
use Rattle.rules.specs.declared.Request.{Request}
use Rattle.rules.proofs.OwnedPlan.{owned_stands_well}
use Rattle.rules.proofs.Owners.{owned_parts_law, owned_keeps, OwnedTable}
use Rattle.rules.proofs.Stored.{table_back}
use Rattle.promises.specs.Neighbours.{Alike, SevenOrFourteen, InStep, end_of}
use Rattle.promises.specs.Owned.{Neither}
use Rattle.promises.specs.OwnedConfiguration.{OwnedPassed}
use Rattle.promises.specs.OwnedNeighbours.{OwnedIsNeighbourly, OwnedZoneOwesNothing, OwnedPlansOweNothing}
use Rattle.promises.specs.OwnedNeighbours.{OwnedHistoriesOweNothing}
use Rattle.promises.specs.OwnedNeighbours.{Seven, SevenBetween, SevenTells, OwnedZoneOutside, OwnedPlansTell}
use Rattle.promises.proofs.Neighbours.{step_map, request_in_step, owes_nothing, only_these_tell, alike_outside}
use Rattle.promises.proofs.Neighbours.{plans_owe_nothing_by, plans_tell_by, histories_owe_nothing_by}
use Rattle.promises.proofs.Owned.{owned_is_proper, owned_empty_is_sound, owned_run_keeps_sound}
use Rattle.promises.proofs.Owned.{no_twelve_no_fourteen, never_twelve_nor_fourteen, owned_standing_is_inside}

-- where 14 does not occur, 7 is left
seven_left : (n : ℕ) → Neither n → SevenOrFourteen n → Seven n
seven_left n (a, b) (inl e) = e
seven_left n (a, b) (inr e) = absurd (b e)

module _ (lim : Limits) where
  owned_in_step : (o : Owned) (t u : List Zone) (q : Request) → Alike q.zone t u
      → InStep (owned_rules lim o q.kind q.zone t) (owned_rules lim o q.kind q.zone u)
  unfolding owned_rules eleven_too
  owned_in_step o t u q a =
      step_map (λ n b. b || (eqb n 11 && stranger o q.kind q.zone))
      (request_rules lim o.config q.kind q.zone t) (request_rules lim o.config q.kind q.zone u)
      (request_in_step lim o.config t u q a)

  pub owned_is_neighbourly : OwnedIsNeighbourly lim
  unfolding owned_refusal owned_next
  owned_is_neighbourly = record {
    rules = λ c t q. owned_rules lim (owned_of c) q.kind q.zone t;
    first = λ c t q. refl;
    does = λ c t q. refl;
    Sound = λ c t. OwnedTable lim (owned_of c) t;
    start = λ c. owned_parts_law lim (owned_of c) [] (owned_empty_is_sound lim (owned_of c));
    keeps = λ c t q s. owned_keeps lim (owned_of c) t q s;
    stands = λ c t e. (owned_stands_well lim c t e).1;
    ids = λ c t s. s.table.ids;
    back = λ c t s. table_back lim (owned_of c).config t s.table;
    own = λ c t u q a. owned_in_step (owned_of c) t u q a;
  }

  pub owned_zone_owes_nothing : OwnedZoneOwesNothing lim
  owned_zone_owes_nothing = owes_nothing (owned_steps lim) owned_is_neighbourly

  pub owned_plans_owe_nothing : OwnedPlansOweNothing lim
  owned_plans_owe_nothing =
      plans_owe_nothing_by (owned_steps lim) (owned_is_proper lim) owned_is_neighbourly

  -- ---- only 7
  seven_between : (c : StoredOwned) (t u : List Zone) (q : Request) → OwnedPassed lim c
      → owned_sound lim (owned_of c) t ≡ true → owned_sound lim (owned_of c) u ≡ true → SevenBetween lim c t u q
  seven_between c t u q ok s w a ne =
      ⊎_elim (λ e. inl (seven_left _ (no_twelve_no_fourteen lim c t q ok s) e))
      (λ e. inr (seven_left _ (no_twelve_no_fourteen lim c u q ok w) e))
      (only_these_tell (owned_steps lim) owned_is_neighbourly c t u q a ne)

  end_sound : (c : StoredOwned) (qs : List Request) → owned_sound lim (owned_of c) (end_of (owned_steps lim) c qs) ≡ true
  end_sound c qs = owned_run_keeps_sound lim (owned_of c) [] qs (owned_empty_is_sound lim (owned_of c))

  pub seven_tells : SevenTells lim
  seven_tells = record {
    tables = seven_between;
    ends =
        λ c qs us q ok. seven_between c (end_of (owned_steps lim) c qs) (end_of (owned_steps lim) c us) q ok
        (end_sound c qs) (end_sound c us);
  }

  pub owned_zone_outside : OwnedZoneOutside lim
  owned_zone_outside =
      alike_outside (owned_steps lim) owned_is_neighbourly (owned_answer lim) (owned_translated lim) Seven
      (λ c t q e. (owned_standing_is_inside lim c t e).request q)
      (λ c t z s a e. (owned_standing_is_inside lim c t e).address z s a)
      (λ c t q full o. seven_left _ ((never_twelve_nor_fourteen lim).request c t q full.0) o)

  pub owned_histories_owe_nothing : OwnedHistoriesOweNothing lim
  owned_histories_owe_nothing =
      histories_owe_nothing_by (owned_steps lim) (owned_is_proper lim) owned_is_neighbourly

  pub owned_plans_tell : OwnedPlansTell lim
  owned_plans_tell z s u b d n ne =
      let full : length s.config.config.records ≡ lim.regions = n.alike.records.0 in
      let same : length u.config.config.records ≡ lim.regions =
      subst (λ (c : StoredOwned). length c.config.records ≡ lim.regions) n.config full in
      ⊎_elim (λ o. inl (seven_left _ ((never_twelve_nor_fourteen lim).plan s b full) o))
      (λ o. inr (seven_left _ ((never_twelve_nor_fourteen lim).plan u d same) o))
      (plans_tell_by (owned_steps lim) (owned_is_proper lim) owned_is_neighbourly z s u b d n ne)
