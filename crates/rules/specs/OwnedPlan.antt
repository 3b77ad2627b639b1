-- The plan of terminals with owners: an owners section between the regions and the base zones; and their step rule.
use Rattle.std.specs.Prelude.{ℕ, Bool, List, [], ◌∷◌, ◌≡◌, eqb, length}
use Rattle.lists.specs.Room.{room}
use Rattle.lists.specs.Tests.{all_of}
use Rattle.formats.specs.Formats.{Out, Format, as_type, read_file, as_many, ListFits, AsManyFit}
use Rattle.rules.specs.Applying.{same_list, same_config, plan_at, plan_config, store_config, GivesConfig}
use Rattle.rules.specs.Limits.{Limits}
use Rattle.rules.specs.Owners.{owned_of, owned_standing, owned_refusal, owned_next, owned_run, Owned}
use Rattle.rules.specs.Owners.{StoredOwned}
use Rattle.rules.specs.Plan.{short, plan_to, regions_section, sections_with, Short}
use Rattle.rules.specs.Plan.{RegionFits}
use Rattle.rules.specs.Plan.{AskedFits, MarksFit, ZoneFits, Asked, Marks, Plan}
use Rattle.rules.specs.Steps.{StepRule}
use Rattle.rules.specs.Tables.{Zone}
use Rattle.rules.specs.declared.Region.{Region}

-- ---- what it says: a plan, and an owner for each of its regions
pub record OwnedPlan : Type 0 where
  pub plan : Plan
  pub owners : List ℕ

-- configured regions, then their owners: a count equal to theirs, and one id each
abbrev pub owned_regions : Limits → Format (List Region × List ℕ)
owned_regions l = as_many 4 (regions_section l) short

abbrev pub owned_to : Marks × ((List Region × List ℕ) × (List Zone × List Asked)) → OwnedPlan
owned_to t = record { plan = plan_to (t.0, (t.1.0.0, t.1.1)); owners = t.1.0.1 }

abbrev pub owned_from : OwnedPlan → Marks × ((List Region × List ℕ) × (List Zone × List Asked))
owned_from p = (p.plan.marks, ((p.plan.regions, p.owners), (p.plan.zones, p.plan.asked)))

abbrev pub owned_format : Limits → Format OwnedPlan
owned_format l = as_type (sections_with l (owned_regions l)) owned_to owned_from

-- the reader and the encoder
unfoldable pub read_owned : Limits → List ℕ → Out OwnedPlan
read_owned l b = read_file (owned_format l) b

unfoldable pub encode_owned : Limits → OwnedPlan → List ℕ
encode_owned l p = (owned_format l).write p

-- one that can be written
abbrev pub OwnedPlanFits : Limits → OwnedPlan → Type 0
OwnedPlanFits l p =
    MarksFit l p.plan.marks
    × (AsManyFit 4 (ListFits 4 1 l.regions RegionFits) Short (p.plan.regions, p.owners)
    × (ListFits 4 0 l.zones (ZoneFits l) p.plan.zones × ListFits 4 0 l.requests AskedFits p.plan.asked))

-- 23: it gives those regions, that GIC position and those owners
unfoldable pub same_owned : Owned → OwnedPlan → Bool
same_owned o p = all_of (same_config o.config p.plan ∷ same_list eqb o.owners p.owners ∷ [])

pub record GivesOwned (o : Owned) (p : OwnedPlan) : Type 0 where
  pub config : GivesConfig o.config p.plan
  pub owners : o.owners ≡ p.owners

-- what it gives, as it is stored
abbrev pub store_owned : Limits → Owned → StoredOwned
store_owned l o = record { config = store_config l o.config; owners = room l.regions 0 o.owners }

-- ---- the step rule
abbrev pub owned_steps : Limits → StepRule
owned_steps l = record {
  limits = l;
  Config = StoredOwned;
  Whole = λ c. (length c.config.records ≡ l.regions) × (length c.owners ≡ l.regions);
  standing = λ c t. owned_standing l c t;
  refusal = λ c t q. owned_refusal l (owned_of c) t q;
  next = λ c t q. owned_next l (owned_of c) t q;
  run = λ c t qs. owned_run l (owned_of c) t qs;
  Said = OwnedPlan;
  read = λ b. read_owned l b;
  write = λ p. encode_owned l p;
  edition = λ p. p.plan.marks.edition;
  zones = λ p. p.plan.zones;
  asked = λ p. p.plan.asked;
  Gives = λ c p. GivesOwned (owned_of c) p;
  same = λ c p. same_owned (owned_of c) p;
  given = λ p. store_owned l (record { config = plan_config p.plan; owners = p.owners });
  plan_at = λ c e t q. record { plan = plan_at (owned_of c).config e t q; owners = (owned_of c).owners };
}
