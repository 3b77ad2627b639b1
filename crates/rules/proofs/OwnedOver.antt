-- The number of a request with owners from the first machine's: 11 comes before every number above it and before
-- acceptance, and every number in front of it is below it.
use Prim.Native.Nat.{ℕ, ◌<◌}
use native.Mathlib.Omega.{arith}
use mathlib.Core.Bool.{Bool, true, false, cond, not, ◌&&◌, ◌||◌, and-false}
use mathlib.Core.List.{List, [], ◌∷◌, ◌++◌, map}
use mathlib.Core.Path.{◌≡◌, refl, sym, ap, ◌∙◌}
use borrow.Author.Tests.{ltb-true, le-ltb, ne_eqb}
use lib.Dec.{ltb, eqb}
use Rattle.lists.specs.First.{all}
use Rattle.lists.specs.Rules.{◌when◌, Rule, first_rule}
use Rattle.lists.proofs.Tests.{both_true, false_both}
use Rattle.rules.specs.Limits.{highest_id, Limits, page_of}
use Rattle.rules.specs.Owners.{may_hold, stranger, eleven_too, owned_rules, owned_refusal, eleven_over, Owned}
use Rattle.rules.specs.Regions.{well_formed, in_reach}
use Rattle.rules.specs.Requests.{find, present, on_gic, insert_rules, region_rules, set_rules, kind_rules, no_request}
use Rattle.rules.specs.Requests.{request_rules, refusal}
use Rattle.rules.specs.Tables.{configured, excessive, Zone}
use Rattle.rules.specs.declared.Kind.{Kind}
use Rattle.rules.specs.declared.Kind.TheVariants.{AddZone, RemoveZone, Insert, Remove, NoRequest}
use Rattle.rules.specs.declared.Request.{Request}

-- every number is below 11 and not 0; every number is above 11
below11 : List (Rule ℕ) → Bool
below11 rs = all (λ (r : Rule ℕ). ltb 0 r.0 && ltb r.0 11) rs

above11 : List (Rule ℕ) → Bool
above11 rs = all (λ (r : Rule ℕ). ltb 11 r.0) rs

-- where no region is a stranger's, the rules are as they were
as_before : (rs : List (Rule ℕ)) → first_rule (map (eleven_too false) rs) 0 ≡ first_rule rs 0
unfolding first_rule eleven_too
as_before [] = refl
as_before ((a, true) ∷ rs) = refl
as_before ((a, false) ∷ rs) =
    ap (λ (b : Bool). cond b a (first_rule (map (eleven_too false) rs) 0)) (and-false (eqb a 11)) ∙ as_before rs

over_high : (vs : List (Rule ℕ)) → above11 vs ≡ true → eleven_over true (first_rule vs 0) ≡ 11
unfolding eleven_over first_rule above11 all
over_high [] h = refl
over_high ((a, true) ∷ vs) h = by (both_true (ltb 11 a) (above11 vs) h).0
  where
    by : ltb 11 a ≡ true → cond (eqb a 0 || ltb 11 a) 11 a ≡ 11
    by x =
        let l : 11 < a = ltb-true _ _ x in
        ap (λ (b : Bool). cond (b || ltb 11 a) 11 a) (ne_eqb a 0 (λ e. omega arith)) ∙ ap (λ (b : Bool). cond b 11 a) x
over_high ((a, false) ∷ vs) h = over_high vs (both_true (ltb 11 a) (above11 vs) h).1

over_low : (b : Bool) (a : ℕ) → 0 < a → a < 11 → eleven_over b a ≡ a
unfolding eleven_over
over_low b a l m =
    let f : (eqb a 0 || ltb 11 a) ≡ false =
    false_both (eqb a 0) (ltb 11 a) (ne_eqb a 0 (λ e. omega arith)) (le-ltb 11 a (omega arith)) in
    ap (λ (t : Bool). cond (b && t) 11 a) f ∙ ap (λ (t : Bool). cond t 11 a) (and-false b)

-- 11 stands behind the numbers below it and in front of those above it
over_rules : (b : Bool) (us : List (Rule ℕ)) (t : Bool) (vs : List (Rule ℕ)) → below11 us ≡ true → above11 vs ≡ true
    → first_rule (map (eleven_too b) (us ++ (11 when t ∷ vs))) 0 ≡ eleven_over b (first_rule (us ++ (11 when t ∷ vs)) 0)
unfolding first_rule eleven_too eleven_over below11 all
over_rules true [] true vs h k = refl
over_rules false [] true vs h k = refl
over_rules true [] false vs h k = sym (over_high vs k)
over_rules false [] false vs h k = as_before vs
over_rules b ((a, true) ∷ us) t vs h k =
    let x = both_true (ltb 0 a) (ltb a 11) (both_true (ltb 0 a && ltb a 11) (below11 us) h).0 in
    sym (over_low b a (ltb-true _ _ x.0) (ltb-true _ _ x.1))
over_rules b ((a, false) ∷ us) t vs h k =
    let (x, y) = both_true (ltb 0 a && ltb a 11) (below11 us) h in
    let m : a < 11 = ltb-true _ _ (both_true (ltb 0 a) (ltb a 11) x).1 in
    ap (λ (c : Bool). cond (c && b) a (first_rule (map (eleven_too b) (us ++ (11 when t ∷ vs))) 0))
    (ne_eqb a 11 (λ e. omega arith)) ∙ over_rules b us t vs y k

module _ (lim : Limits) (o : Owned) (t : List Zone) where
  over_kind : (k : Kind) (id : ℕ)
      → first_rule (owned_rules lim o k id t) 0
      ≡ eleven_over (stranger o k id) (first_rule (request_rules lim o.config k id t) 0)
  unfolding owned_rules stranger request_rules kind_rules insert_rules region_rules set_rules below11 above11 all eleven_over
  over_kind AddZone id = as_before (request_rules lim o.config AddZone id t)
  over_kind RemoveZone id = as_before (request_rules lim o.config RemoveZone id t)
  over_kind (Insert s r) id =
      over_rules (not (may_hold o id s r))
      (3 when no_request (Insert s r) ∷ 4 when ltb highest_id id ∷ 6 when not (present id t)
      ∷ 9 when not (well_formed (page_of lim s) r) ∷ 10 when not (in_reach lim r) ∷ [])
      (not (configured o.config r))
      (19 when excessive s r ∷ 12 when on_gic o.config s r ∷ set_rules lim o.config (find id t) s r t) refl refl
  over_kind (Remove s r) id = as_before (request_rules lim o.config (Remove s r) id t)
  over_kind NoRequest id = as_before (request_rules lim o.config NoRequest id t)

  -- the number is the first machine's with 11 over it
  pub owned_over : (q : Request)
      → owned_refusal lim o t q ≡ eleven_over (stranger o q.kind q.zone) (refusal lim o.config t q)
  unfolding owned_refusal refusal
  owned_over q = over_kind q.kind q.zone
