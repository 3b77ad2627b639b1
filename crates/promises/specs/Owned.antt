-- Terminals with owners, over document 01's: they accept nothing that those refuse, their tables stay sound, 12 and 14
-- do not occur, and what holds of every proper step rule holds of theirs.
use Rattle.std.specs.Prelude.{ℕ, ◌≤◌, ◌<◌, true, List, [], ◌∷◌, map, ◌⊎◌, ◌↔◌, ◌≡◌, length, get_or}
use Rattle.lists.specs.Bytes.{Bytes}
use Rattle.lists.specs.Lines.{◌given◌, FirstOf, Exactly, Line}
use Rattle.lists.specs.Runs.{runs}
use Rattle.formats.specs.Formats.{got}
use Rattle.rules.specs.Applying.{plan_config, apply_by, answer_alone_by, apply, Terminal, TerminalOf}
use Rattle.rules.specs.Configuration.{gic_of}
use Rattle.rules.specs.Limits.{highest_id, limits, Limits, Sayable}
use Rattle.rules.specs.OwnedPlan.{owned_format, read_owned, encode_owned, owned_steps, OwnedPlanFits, OwnedPlan}
use Rattle.rules.specs.OwnedSizes.{longest_owned_size, least_owned_size}
use Rattle.rules.specs.Owners.{gic_owner, owned_of, owned_check, owned_sound, owned_check_table, owner_of, stranger, eleven_over}
use Rattle.rules.specs.Owners.{owned_refusal, owned_next, owned_standing, owned_answer, owned_run, owned_run_answer}
use Rattle.rules.specs.Owners.{owned_translated, Owned, StoredOwned}
use Rattle.rules.specs.Requests.{refusal, next, standing, answer}
use Rattle.rules.specs.Run.{run, ended}
use Rattle.rules.specs.Tables.{no_zone, side_of, table_of, sound, check_table, Zone, StoredTable}
use Rattle.rules.specs.Translation.{translation, translated}
use Rattle.rules.specs.declared.Checked.TheVariants.{Sound}
use Rattle.rules.specs.declared.Guest.{Guest}
use Rattle.rules.specs.declared.Kind.{Kind}
use Rattle.rules.specs.declared.Kind.TheVariants.{AddZone, RemoveZone, Insert, Remove, NoRequest}
use Rattle.rules.specs.declared.OwnedChecked.TheVariants.{Plain}
use Rattle.rules.specs.declared.Region.{Region}
use Rattle.rules.specs.declared.Request.{Request}
use Rattle.rules.specs.declared.Side.{Side}
use Rattle.rules.specs.declared.Side.TheVariants.{Iommu}
use Rattle.promises.specs.Answers.{kind_lines}
use Rattle.promises.specs.Outside.{AnswerIsExactBy, TranslatedIsExactBy, RunAnswerIsExactBy, ApplyIsExactBy}
use Rattle.promises.specs.Outside.{AloneIsExactBy, NeverAloneBy, Outside}
use Rattle.promises.specs.OwnedConfiguration.{OwnedPassed}
use Rattle.promises.specs.Steps.{RefusalStaysBy, ConfigurationStaysBy, ApplyKeepsSoundBy, AcceptedIsPlanBy}
use Rattle.promises.specs.Steps.{PlanIsAcceptedBy, PastTheLongestBy, GoodConfig, StepsFollow, EqualEditionsBy}
use Rattle.promises.specs.Steps.{LowerIsBehindBy, NeverAheadBy, Proper}
use Rattle.promises.specs.Tables.{In}
use Rattle.promises.specs.Writing.{WrittenIsAcceptedBy, AcceptedIsWrittenBy, WritesWhenMayAskBy}
use Rattle.promises.specs.Writing.{RefusalLeavesBufferBy, SuccessFillsBy}

-- ---- beside document 01's machine
-- a request that this machine accepts the first accepts, with the same next table; and so with requests in turn
abbrev pub FirstAccepts : Limits → Type 0
FirstAccepts l =
    (o : Owned) (t : List Zone) (q : Request) → owned_refusal l o t q ≡ 0
    → (refusal l o.config t q ≡ 0) × (owned_next l o t q ≡ next l o.config t q)

abbrev pub FirstRuns : Limits → Type 0
FirstRuns l =
    (o : Owned) (t : List Zone) (qs : List Request) → (owned_run l o t qs).inner ≡ 0
    → run l o.config t qs ≡ owned_run l o t qs

-- its number is the first's, with 11 over it where the zone may not hold the region; so it is the first's for every
-- request but an insert: 8 holds here too, and a removal asks nothing about owners
abbrev pub OverTheFirst : Limits → Type 0
OverTheFirst l =
    (o : Owned) (t : List Zone) (q : Request)
    → owned_refusal l o t q ≡ eleven_over (stranger o q.kind q.zone) (refusal l o.config t q)

abbrev pub IsInsert : Kind → Type 0
IsInsert k = (s : Side) × (r : Region) × (k ≡ Insert s r)

abbrev pub OthersAsTheFirst : Limits → Type 0
OthersAsTheFirst l =
    (o : Owned) (t : List Zone) (q : Request) → (IsInsert q.kind → ⊥)
    → owned_refusal l o t q ≡ refusal l o.config t q

-- a table that is sound here is sound there: what is promised of those holds of these
abbrev pub SoundThere : Limits → Type 0
SoundThere l = (o : Owned) (t : List Zone) → owned_sound l o t ≡ true → sound l o.config t ≡ true

-- from outside: where neither 1 nor 2 is answered here, neither is there; a request that is accepted here is accepted
-- there; and where neither 1 nor 2 is answered, every address translates alike. A stored configuration has a record for
-- each region that there is room for
abbrev pub OwnedStandsThere : Limits → Type 0
OwnedStandsThere l =
    (c : StoredOwned) (t : StoredTable) → length c.config.records ≡ l.regions → owned_standing l c t ≡ 0
    → standing l c.config t ≡ 0

abbrev pub FirstAnswers : Limits → Type 0
FirstAnswers l =
    (c : StoredOwned) (t : StoredTable) (q : Request) → length c.config.records ≡ l.regions
    → owned_answer l c t q ≡ 0 → answer l c.config t q ≡ 0

abbrev pub FirstTranslates : Limits → Type 0
FirstTranslates l =
    (c : StoredOwned) (t : StoredTable) → length c.config.records ≡ l.regions → owned_standing l c t ≡ 0
    → (id : ℕ) (s : Side) (a : Guest) → owned_translated l c t id s a ≡ translated l c.config t id s a

-- ---- requests
-- a zone may hold what it owns, and on the IOMMU side the GIC too
abbrev pub MayHold : Owned → ℕ → Side → Region → Type 0
MayHold o id s r = (owner_of o r ≡ id) ⊎ ((s ≡ Iommu) × (r ≡ gic_of o.config))

abbrev pub Stranger : Owned → Kind → ℕ → Type 0
Stranger o AddZone id = ⊥
Stranger o RemoveZone id = ⊥
Stranger o (Insert s r) id = MayHold o id s r → ⊥
Stranger o (Remove s r) id = ⊥
Stranger o NoRequest id = ⊥

-- the first machine's lines, of which 11 also holds for a stranger
abbrev pub eleven_line : Type 0 → Line ℕ → Line ℕ
eleven_line S k = k.0 given (k.1 ⊎ ((k.0 ≡ 11) × S))

abbrev pub OwnedRequestSays : Limits → Owned → List Zone → Request → ℕ → Type 0
OwnedRequestSays l o t q =
    FirstOf
    (map (eleven_line (Stranger o q.kind q.zone))
    (3 given (q.kind ≡ NoRequest) ∷ 4 given (highest_id < q.zone) ∷ kind_lines l o.config t q.zone q.kind))
    (λ n. 0 ≡ n)

-- the number of a request at a table that stands
abbrev pub OwnedRefusalIsExact : Limits → Type 0
OwnedRefusalIsExact l =
    (o : Owned) (t : List Zone) (q : Request) → Exactly (owned_refusal l o t q) (OwnedRequestSays l o t q)

-- from a sound table every request leads to a sound table, and so does every run
abbrev pub OwnedKeepsSound : Limits → Type 0
OwnedKeepsSound l =
    (o : Owned) (t : List Zone) (q : Request) → owned_sound l o t ≡ true → owned_sound l o (owned_next l o t q) ≡ true

abbrev pub OwnedRunKeepsSound : Limits → Type 0
OwnedRunKeepsSound l =
    (o : Owned) (t : List Zone) (qs : List Request) → owned_sound l o t ≡ true
    → owned_sound l o (runs (owned_next l o) t qs) ≡ true

abbrev pub OwnedEmptyIsSound : Limits → Type 0
OwnedEmptyIsSound l = (o : Owned) → owned_sound l o [] ≡ true

-- at a sound table 12 and 14 are not answered
abbrev pub Neither : ℕ → Type 0
Neither n = (n ≡ 12 → ⊥) × (n ≡ 14 → ⊥)

abbrev pub NoTwelveNoFourteen : Limits → Type 0
NoTwelveNoFourteen l =
    (s : StoredOwned) (t : List Zone) (q : Request) → OwnedPassed l s → owned_sound l (owned_of s) t ≡ true
    → Neither (owned_refusal l (owned_of s) t q)

-- so from outside they never occur, whatever is lent: not as the number of a request, and not as the inner number of a
-- run or of a plan, at a terminal or alone
pub record NeverTwelveNorFourteen (l : Limits) : Type 0 where
  pub request : (c : StoredOwned) (t : StoredTable) (q : Request) → length c.config.records ≡ l.regions
      → Neither (owned_answer l c t q)
  pub requests : (c : StoredOwned) (t : StoredTable) (qs : List Request) → length c.config.records ≡ l.regions
      → Neither (owned_run_answer l c t qs).inner
  pub plan : (s : TerminalOf StoredOwned) (b : List ℕ) → length s.config.config.records ≡ l.regions
      → Neither (apply_by (owned_steps l) s b).outcome.inner
  pub alone : (b : List ℕ) → Neither (answer_alone_by (owned_steps l) b).inner

-- ---- from outside
-- these terminals, as Answers has them
abbrev pub owned_outside : (l : Limits) → Outside (owned_steps l)
owned_outside l = record {
  Model = Owned;
  model = owned_of;
  said = λ p. record { config = plan_config p.plan; owners = p.owners };
  first = λ c. c.config;
  Passes = λ c. owned_check l c ≡ Plain Sound;
  passes = owned_check_table l;
  number = owned_refusal l;
  after = owned_next l;
  Says = OwnedRequestSays l;
  sections = (owned_format l).read;
  answer = owned_answer l;
  address = owned_translated l;
  requests = owned_run_answer l;
  deliver = apply_by (owned_steps l);
  alone = answer_alone_by (owned_steps l);
}

-- every answer is the first that applies: 1 and 2 come before a request's own numbers, a translation, a run and the
-- bytes of a plan; a plan is 20 to 27 or 0 as document 01's is, where 23 speaks of owners too; and a plan alone is
-- judged by the owners that it gives
pub record OwnedAnswersAreExact (l : Limits) : Type 0 where
  pub answer : AnswerIsExactBy (owned_steps l) (owned_outside l)
  pub translated : TranslatedIsExactBy (owned_steps l) (owned_outside l)
  pub run_answer_law : RunAnswerIsExactBy (owned_steps l) (owned_outside l)
  pub apply : ApplyIsExactBy (owned_steps l) (owned_outside l)
  pub alone : AloneIsExactBy (owned_steps l) (owned_outside l)
  pub never_alone : NeverAloneBy (owned_steps l) (owned_outside l)

-- ---- tables
-- every region of a zone is one that it may hold
abbrev pub HoldsOwn : Owned → List Zone → Type 0
HoldsOwn o t =
    (z : ℕ) → z < length t → (s : Side) (r : Region) → In r (side_of s (get_or t z no_zone))
    → MayHold o (get_or t z no_zone).id s r

-- the table check says yes exactly where the configuration passes, the first machine's says yes, and no zone holds
-- another's region
abbrev pub OwnedTableCheckIsExact : Limits → Type 0
OwnedTableCheckIsExact l =
    (c : StoredOwned) (t : StoredTable) → length c.config.records ≡ l.regions
    → (owned_check_table l c t ≡ true)
    ↔ ((owned_check l c ≡ Plain Sound) × (check_table l c.config t ≡ true) × HoldsOwn (owned_of c) (table_of t))

-- where neither 1 nor 2 applies, the outside forms are the inner ones
pub record OwnedOutsideIsInside (l : Limits) (c : StoredOwned) (t : StoredTable) : Type 0 where
  pub request : (q : Request) → owned_answer l c t q ≡ owned_refusal l (owned_of c) (table_of t) q
  pub address : (id : ℕ) (s : Side) (a : Guest) → owned_translated l c t id s a ≡ translation (table_of t) id s a.0
  pub requests : (qs : List Request) → owned_run_answer l c t qs ≡ ended (owned_run l (owned_of c) (table_of t) qs)

abbrev pub OwnedStandingIsInside : Limits → Type 0
OwnedStandingIsInside l =
    (c : StoredOwned) (t : StoredTable) → owned_standing l c t ≡ 0 → OwnedOutsideIsInside l c t

-- ---- plans
-- what was encoded is read back, and whatever reads whole is the encoding of what it reads to
abbrev pub OwnedPlansReadBack : Limits → Type 0
OwnedPlansReadBack l = (p : OwnedPlan) → OwnedPlanFits l p → read_owned l (encode_owned l p) ≡ got p []

abbrev pub OwnedPlansAreTight : Limits → Type 0
OwnedPlansAreTight l =
    (b : List ℕ) (p : OwnedPlan) (t : List ℕ) → Bytes b → read_owned l b ≡ got p t
    → (b ≡ encode_owned l p) × OwnedPlanFits l p

-- no terminal without owners accepts a plan with owners in which the GIC has its owner: the owners stand where it reads
-- zones, and in those of a sound table no four bytes say 2^32 - 1. So no bytes are accepted by both kinds of terminals.
-- At the document's limits
pub record OwnedIsNoPlan : Type 0 where
  pub plain : (s : Terminal) (b : List ℕ) (p : OwnedPlan) (i : ℕ) → length s.config.records ≡ limits.regions
      → Bytes b → read_owned limits b ≡ got p [] → i < length p.owners → get_or p.owners i gic_owner ≡ gic_owner
      → (apply limits s b).outcome.number ≡ 0 → ⊥
  pub both : (s : Terminal) (u : TerminalOf StoredOwned) (b : List ℕ) → length s.config.records ≡ limits.regions
      → length u.config.config.records ≡ limits.regions → Bytes b → (apply limits s b).outcome.number ≡ 0
      → (apply_by (owned_steps limits) u b).outcome.number ≡ 0 → ⊥

-- how long they are; the document's two numbers are the least and the
-- longest of its limits by computation (`OwnedSizesShown`: rules, OwnedSizes)
abbrev pub OfOwnedLength : Limits → List ℕ → Type 0
OfOwnedLength l b = (least_owned_size l ≤ length b) × (length b ≤ longest_owned_size l)

abbrev pub IsMetOwned : Limits → ℕ → Type 0
IsMetOwned l n = (p : OwnedPlan) × OwnedPlanFits l p × (length (encode_owned l p) ≡ n)

pub record OwnedPlanLengths (l : Limits) : Type 0 where
  -- every plan within the limits has such a length, and so has whatever reads whole
  pub written : (p : OwnedPlan) → OwnedPlanFits l p → OfOwnedLength l (encode_owned l p)
  pub whole : (b : List ℕ) (p : OwnedPlan) → Bytes b → read_owned l b ≡ got p [] → OfOwnedLength l b
  -- and both lengths are met, where a region is allowed and a plan's fields can say the limits
  pub least_met : 1 ≤ l.regions → Sayable l → IsMetOwned l (least_owned_size l)
  pub longest_met : 1 ≤ l.regions → Sayable l → IsMetOwned l (longest_owned_size l)

-- ---- the step rule is proper, and a configuration that passed is good
abbrev pub OwnedIsProper : Limits → Type 1
OwnedIsProper l = Proper (owned_steps l)

abbrev pub OwnedPassedIsGood : Limits → Type 0
OwnedPassedIsGood l = (c : StoredOwned) → OwnedPassed l c → GoodConfig (owned_steps l) c

-- so what is said of plans and in demand 3 for any step rule holds of these terminals
pub record OwnedTerminals (l : Limits) : Type 0 where
  pub refusal_stays : RefusalStaysBy (owned_steps l) (apply_by (owned_steps l))
  pub configuration_stays : ConfigurationStaysBy (owned_steps l) (apply_by (owned_steps l))
  pub keeps_sound : ApplyKeepsSoundBy (owned_steps l) (apply_by (owned_steps l))
  pub accepted_is_plan : AcceptedIsPlanBy (owned_steps l) (apply_by (owned_steps l))
  pub plan_is_accepted : PlanIsAcceptedBy (owned_steps l) (apply_by (owned_steps l))
  pub past_the_longest : PastTheLongestBy (owned_steps l) (apply_by (owned_steps l)) (answer_alone_by (owned_steps l))
      (longest_owned_size l)
  pub follow : Sayable l → StepsFollow (owned_steps l) (apply_by (owned_steps l))
  pub equal_editions : Sayable l → EqualEditionsBy (owned_steps l) (apply_by (owned_steps l))
  pub lower_is_behind : Sayable l → LowerIsBehindBy (owned_steps l) (apply_by (owned_steps l))
  pub never_ahead : Sayable l → NeverAheadBy (owned_steps l) (apply_by (owned_steps l))

-- and so does what is said of the planner's writer
pub record OwnedWriter (l : Limits) : Type 0 where
  pub written_is_accepted : WrittenIsAcceptedBy (owned_steps l) (apply_by (owned_steps l))
  pub accepted_is_written : AcceptedIsWrittenBy (owned_steps l) (apply_by (owned_steps l))
  pub writes_when_may_ask : WritesWhenMayAskBy (owned_steps l)
  pub refusal_leaves_buffer : RefusalLeavesBufferBy (owned_steps l)
  pub success_fills : SuccessFillsBy (owned_steps l)
