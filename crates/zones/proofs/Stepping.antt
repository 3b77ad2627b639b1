-- One request: what is decided can be done, and gives the rules' number and next table.
use Prim.Native.Nat.{ℕ, ◌<◌}
use mathlib.Core.Bool.{Bool, true, false, cond}
use mathlib.Core.List.{List, ◌∷◌}
use mathlib.Core.Logic.{⊎_elim}
use mathlib.Core.Path.{◌≡◌, refl, sym, ap, subst, ◌∙◌}
use borrow.Author.Tests.{ltb-true, leb-true, leb-false, not-false, eq-eqb, ne_eqb}
use lib.Dec.{ltb, eqb}
use lib.ListN.{length}
use Rattle.std.specs.Prelude.{Result, Ok, Err}
use Rattle.lists.specs.First.{first_index, all}
use Rattle.lists.specs.Rules.{◌when◌, first_rule}
use Rattle.lists.proofs.First.{any_first}
use Rattle.lists.proofs.Rules.{Quiet, quiet, test_of, silent, hit_whatever, quiet_answer, above_zero, numbers_tell}
use Rattle.lists.proofs.Tests.{parts}
use Rattle.rules.specs.Changes.{region_set}
use Rattle.rules.specs.Configuration.{check, Configuration}
use Rattle.rules.specs.Limits.{highest_id, limits}
use Rattle.rules.specs.Numbers.{number, code}
use Rattle.rules.specs.Regions.{region_eq}
use Rattle.rules.specs.Requests.{find, present, add_rules, remove_zone_rules, region_rules, set_rules, insert_rules}
use Rattle.rules.specs.Requests.{remove_rules, kind_rules, no_request, request_rules, refusal, after, next, standing_rules}
use Rattle.rules.specs.Requests.{standing, answer}
use Rattle.rules.specs.Tables.{has_id, table_of, sound_set, sound, check_table, Zone}
use Rattle.rules.specs.declared.Checked.TheVariants.{Sound}
use Rattle.rules.specs.declared.Kind.{Kind}
use Rattle.rules.specs.declared.Kind.TheVariants.{AddZone, RemoveZone, Insert, Remove, NoRequest}
use Rattle.rules.specs.declared.Request.{Request}
use Rattle.rules.specs.declared.refusal.Refusal.{Refusal}
use Rattle.rules.proofs.Configuration.{sound_answer}
use Rattle.rules.proofs.Keeps.{sound_parts, set_sound}
use Rattle.rules.proofs.Requests.{none_applies}
use Rattle.zones.specs.Decide.{in_numbers, decided_add, decided_drop, decided_insert, decided_cut, decided_kind, decided}
use Rattle.zones.specs.Decide.{changed, Allowed, Ready}
use Rattle.zones.specs.Layout.{table_words}
use Rattle.zones.specs.Step.{afterwards, Stepped}
use Rattle.zones.specs.View.{stored_config, config_in, stored_table, zones_in}
use Rattle.zones.specs.Words.{words_of, Within}
use Rattle.zones.specs.declared.decide.Change.{Change}
use Rattle.zones.specs.declared.decide.Change.TheVariants.{Add, Drop, Push, Cut}
use Rattle.zones.proofs.Packing.{packed_words}
use Rattle.zones.proofs.Ruling.{refused_or_made, number_or, same_value, not_both, code_or, number_some}
use Rattle.zones.proofs.Stored.{passed_packed, passed_same, passed_sound}

-- what is to be shown of a decision: its number, and a change that is made can be made and leaves the rules' table
pub record Comes (c : Configuration) (t : List Zone) (k : Kind) (id : ℕ) (d : Result Change ℕ) : Type 0 where
  pub number : number_or 0 d ≡ first_rule (request_rules limits c k id t) 0
  pub leaves : (ch : Change) → d ≡ Ok ch → changed ch t ≡ after k id t
  pub can : (ch : Change) → d ≡ Ok ch → Allowed ch t

module _ (c : Configuration) (t : List Zone) (k : Kind) (id : ℕ) where
  n : ℕ
  n = first_rule (request_rules limits c k id t) 0

  refused : (d : Result Change ℕ) → d ≡ Err n → Comes c t k id d
  unfolding n
  refused d e = record {
    number = ap (number_or 0) e;
    leaves = λ ch g. absurd (not_both ch (first_rule (request_rules limits c k id t) 0) (sym g ∙ e));
    can = λ ch g. absurd (not_both ch (first_rule (request_rules limits c k id t) 0) (sym g ∙ e));
  }

  made : (d : Result Change ℕ) (ch : Change) → n ≡ 0 → d ≡ Ok ch → changed ch t ≡ after k id t → Allowed ch t
      → Comes c t k id d
  unfolding n
  made d ch z e a l = record {
    number = ap (number_or 0) e ∙ sym z;
    leaves = λ x g. ap (λ (y : Change). changed y t) (same_value x ch (sym g ∙ e)) ∙ a;
    can = λ x g. subst (λ (y : Change). Allowed y t) (same_value ch x (sym e ∙ g)) l;
  }

found : (id : ℕ) (t : List Zone) → present id t ≡ true → find id t < length t
found id t e = ltb-true _ _ (sym (any_first (has_id id) t) ∙ e)

kind_comes : (c : Configuration) (t : List Zone) (k : Kind) (id : ℕ) → Comes c t k id (decided_kind c k id t)
unfolding n decided_kind decided_add decided_drop decided_insert decided_cut request_rules kind_rules add_rules remove_zone_rules
    insert_rules region_rules set_rules remove_rules no_request after changed Allowed above_zero all first_rule test_of
kind_comes c t AddZone id =
    ⊎_elim (λ (ne, e). refused c t AddZone id _ e)
    (λ (z, e). made c t AddZone id _ (Add id) z e refl (leb-false _ _ (none_applies limits c AddZone id t z 7)))
    (refused_or_made (4 when ltb highest_id id ∷ add_rules limits id t) (Add id) refl)
kind_comes c t RemoveZone id =
    ⊎_elim (λ (ne, e). refused c t RemoveZone id _ e)
    (λ (z, e). made c t RemoveZone id _ (Drop (find id t)) z e refl
    (found id t (not-false _ (none_applies limits c RemoveZone id t z 6))))
    (refused_or_made (4 when ltb highest_id id ∷ remove_zone_rules id t) (Drop (find id t)) refl)
kind_comes c t (Insert s r) id =
    ⊎_elim (λ (ne, e). refused c t (Insert s r) id _ e)
    (λ (z, e). let q = none_applies limits c (Insert s r) id t z in
    made c t (Insert s r) id _ (Push (find id t) s r) z e refl
    (found id t (not-false _ (q 6)), leb-false _ _ (q 16)))
    (refused_or_made (4 when ltb highest_id id ∷ insert_rules limits c id s r t) (Push (find id t) s r) refl)
kind_comes c t (Remove s r) id =
    ⊎_elim (λ (ne, e). refused c t (Remove s r) id _ e)
    (λ (z, e).
    let q = none_applies limits c (Remove s r) id t z in
    made c t (Remove s r) id _ (Cut (find id t) s (first_index (region_eq r) (region_set t (find id t) s))) z e refl (
      found id t (not-false _ (q 6)),
      ltb-true _ _ (sym (any_first (region_eq r) (region_set t (find id t) s)) ∙ not-false _ (q 17)),
    ))
    (refused_or_made (4 when ltb highest_id id ∷ remove_rules id s r t)
    (Cut (find id t) s (first_index (region_eq r) (region_set t (find id t) s))) refl)
kind_comes c t NoRequest id = refused c t NoRequest id _ refl

-- ---- a step at a sound table
module _ (c : Configuration) (t : List Zone) (q : Request) (d : Result Change Refusal) (e : in_numbers d ≡ decided c t q) where
  comes : Comes c t q.kind q.zone (in_numbers d)
  unfolding decided
  comes = subst (Comes c t q.kind q.zone) (sym e) (kind_comes c t q.kind q.zone)

  pub decided_number : code d ≡ refusal limits c t q
  unfolding refusal
  decided_number = code_or d ∙ comes.number

  module _ (ch : Change) (g : d ≡ Ok ch) where
    pub decided_allowed : Allowed ch t
    decided_allowed = comes.can ch (ap in_numbers g)

    pub decided_none : 0 ≡ refusal limits c t q
    decided_none = ap code (sym g) ∙ decided_number

    pub decided_table : changed ch t ≡ next limits c t q
    unfolding next refusal
    decided_table =
        comes.leaves ch (ap in_numbers g)
        ∙ sym (ap (λ (b : Bool). cond b (after q.kind q.zone t) t) (eq-eqb _ 0 (sym decided_none)))

  module _ (r : Refusal) (g : d ≡ Err r) where
    pub refused_number : number r ≡ refusal limits c t q
    refused_number = ap code (sym g) ∙ decided_number

    pub refused_table : t ≡ next limits c t q
    unfolding next
    refused_table =
        sym (ap (λ (b : Bool). cond b (after q.kind q.zone t) t)
        (ne_eqb _ 0 (λ z. number_some r (refused_number ∙ z))))

-- ---- a sound table is within limits
pub sound_within : (c : Configuration) (t : List Zone) → sound limits c t ≡ true → Within t
unfolding sound_set
sound_within c t e =
    let ok = sound_parts limits c t e in record {
      zones = ok.few;
      sets = λ z s h. leb-true _ _ (parts _ (set_sound limits c t ok z s h)).0;
    }

-- ---- one request from outside
module _ (c t : List ℕ) where
  -- a number before any request: the words stay
  pub before_any : (q : Request) (n : ℕ) → n ≡ standing limits (stored_config c) (stored_table t) → (n ≡ 0 → ⊥)
      → Stepped c t q n t
  unfolding answer afterwards
  before_any q n e ne =
      let k : n ≡ answer limits (stored_config c) (stored_table t) q =
      hit_whatever (standing_rules limits (stored_config c) (stored_table t)) n 0
      (refusal limits (config_in c) (table_of (stored_table t)) q) e ne in
      record {
        number = k;
        table =
            sym (ap (λ (b : Bool). cond b (words_of (after q.kind q.zone (table_of (stored_table t)))) t)
            (ne_eqb _ 0 (λ z. ne (k ∙ z))));
      }

  pub number_first : (q : Request) (n : ℕ) → n ≡ standing limits (stored_config c) (stored_table t) → (n ≡ 0 → ⊥)
      → n ≡ answer limits (stored_config c) (stored_table t) q
  number_first q n e ne = (before_any q n e ne).number

  module _ (n : ℕ) (e : n ≡ standing limits (stored_config c) (stored_table t)) (z : n ≡ 0) where
    -- neither 1 nor 2 applies
    pub neither : Quiet (standing_rules limits (stored_config c) (stored_table t))
    unfolding standing_rules above_zero all
    neither =
        quiet (standing_rules limits (stored_config c) (stored_table t)) 0
        (numbers_tell (standing_rules limits (stored_config c) (stored_table t)) refl) (sym e ∙ z)

    both : (check limits (stored_config c) ≡ Sound) × (check_table limits (stored_config c) (stored_table t) ≡ true)
    unfolding standing_rules test_of
    both =
        let h = silent (λ m. m) (standing_rules limits (stored_config c) (stored_table t)) neither in
        (sound_answer _ (not-false _ (h 1)), not-false _ (h 2))

    pub stands_same : zones_in t ≡ table_of (stored_table t)
    stands_same = passed_same (stored_config c) t both.1

    module _ (l : length t ≡ table_words) where
      pub stands_ready : Ready c t
      stands_ready = record {
        config = both.0;
        words = packed_words t l (passed_packed (stored_config c) t both.1);
        table = passed_sound (stored_config c) t both.1;
      }

      number_same : (q : Request)
          → refusal limits (config_in c) (zones_in t) q ≡ answer limits (stored_config c) (stored_table t) q
      unfolding answer
      number_same q =
          ap (λ (x : List Zone). refusal limits (config_in c) x q) stands_same
          ∙ quiet_answer (standing_rules limits (stored_config c) (stored_table t))
          (refusal limits (config_in c) (table_of (stored_table t)) q) neither

      pub number_decided : (q : Request) (d : Result Change Refusal) → in_numbers d ≡ decided (config_in c) (zones_in t) q
          → code d ≡ answer limits (stored_config c) (stored_table t) q
      number_decided q d e = decided_number (config_in c) (zones_in t) q d e ∙ number_same q

      pub request_done : (q : Request) (m : ℕ) (u : List ℕ) → m ≡ refusal limits (config_in c) (zones_in t) q
          → u ≡ words_of (next limits (config_in c) (zones_in t) q) → Stepped c t q m u
      unfolding afterwards next
      request_done q m u k y = record {
        number = k ∙ number_same q;
        table =
            y ∙ by (eqb (refusal limits (config_in c) (zones_in t) q) 0) (after q.kind q.zone (zones_in t))
            (zones_in t)
            ∙ (λ i. cond (eqb (number_same q i) 0) (words_of (after q.kind q.zone (stands_same i)))
            (sym stands_ready.words.words i));
      }
        where
          by : (x : Bool) (a d : List Zone) → words_of (cond x a d) ≡ cond x (words_of a) (words_of d)
          by true a d = refl
          by false a d = refl
