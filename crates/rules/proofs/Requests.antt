-- The numbers of a request: each stands once in its kind's order, and an accepted request is one to which no rule
-- applies.
use Prim.Native.Nat.{ℕ, ◌≤◌}
use native.Mathlib.Omega.{arith}
use mathlib.Core.Bool.{true, false}
use mathlib.Core.List.{List, [], ◌∷◌}
use mathlib.Core.Path.{◌≡◌, refl, ap}
use borrow.Author.Tests.{ltb-false}
use lib.Dec.{ltb}
use lib.ListN.{length}
use Rattle.lists.specs.First.{all}
use Rattle.lists.specs.Pairs.{pairwise}
use Rattle.lists.specs.Rules.{first_rule, numbered}
use Rattle.lists.proofs.Rules.{test_of, above_zero, silent_number}
use Rattle.lists.proofs.Tests.{both_false, false_both, none_above}
use Rattle.rules.specs.Changes.{region_set}
use Rattle.rules.specs.Limits.{Limits}
use Rattle.rules.specs.Configuration.{Configuration}
use Rattle.rules.specs.Requests.{holds_any, add_rules, remove_zone_rules, region_rules, set_rules, insert_rules}
use Rattle.rules.specs.Requests.{remove_rules, kind_rules, request_rules}
use Rattle.rules.specs.Tables.{Zone}
use Rattle.rules.specs.declared.Kind.{Kind}
use Rattle.rules.specs.declared.Kind.TheVariants.{AddZone, RemoveZone, Insert, Remove, NoRequest}
use Rattle.rules.specs.declared.Region.{Region}
use Rattle.rules.specs.declared.Side.TheVariants.{Cpu, Iommu}

-- 8 does not apply exactly where both sets are empty
pub holds_nothing : (k : ℕ) (t : List Zone) → holds_any k t ≡ false → (region_set t k Cpu ≡ []) × (region_set t k Iommu ≡ [])
unfolding holds_any
holds_nothing k t e = let h = both_false _ _ e in (empty (region_set t k Cpu) h.0, empty (region_set t k Iommu) h.1)
  where
    empty : (xs : List Region) → ltb 0 (length xs) ≡ false → xs ≡ []
    empty [] f = refl
    empty (x ∷ xs) f = let l : length (x ∷ xs) ≤ 0 = ltb-false _ _ f in absurd (omega arith)

pub nothing_held : (k : ℕ) (t : List Zone) → region_set t k Cpu ≡ [] → region_set t k Iommu ≡ [] → holds_any k t ≡ false
unfolding holds_any
nothing_held k t c i = false_both _ _ (none_above _ (ap length c)) (none_above _ (ap length i))

module _ (lim : Limits) where
  pub request_numbered : (c : Configuration) (k : Kind) (id : ℕ) (t : List Zone)
      → numbered (request_rules lim c k id t) ≡ true
  unfolding numbered pairwise all request_rules kind_rules add_rules remove_zone_rules insert_rules region_rules set_rules
      remove_rules
  request_numbered c AddZone id t = refl
  request_numbered c RemoveZone id t = refl
  request_numbered c (Insert s r) id t = refl
  request_numbered c (Remove s r) id t = refl
  request_numbered c NoRequest id t = refl

  pub request_above : (c : Configuration) (k : Kind) (id : ℕ) (t : List Zone) → above_zero (request_rules lim c k id t) ≡ true
  unfolding above_zero all request_rules kind_rules add_rules remove_zone_rules insert_rules region_rules set_rules remove_rules
  request_above c AddZone id t = refl
  request_above c RemoveZone id t = refl
  request_above c (Insert s r) id t = refl
  request_above c (Remove s r) id t = refl
  request_above c NoRequest id t = refl

  -- of an accepted request the rule of every number is silent
  pub none_applies : (c : Configuration) (k : Kind) (id : ℕ) (t : List Zone)
      → first_rule (request_rules lim c k id t) 0 ≡ 0 → (n : ℕ) → test_of (λ m. m) n (request_rules lim c k id t) ≡ false
  none_applies c k id t e = silent_number (request_rules lim c k id t) (request_above c k id t) e
