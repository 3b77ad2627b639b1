-- The answer is the first of its numbers: 1 and 2 are those of the two tables, and 29 and 28 are left to the list's
-- length.
use Prim.Native.Nat.{ℕ, ◌/◌, ◌≤◌, ◌<◌}
use native.Mathlib.Omega.{arith}
use mathlib.Core.Bool.{Bool, true, false, cond, not, ◌||◌}
use mathlib.Core.List.{List, [], ◌++◌}
use mathlib.Core.Path.{◌≡◌, refl, sym, ap, ap₂, subst, ◌∙◌}
use borrow.Author.Tests.{leb-true, lt-ltb, le-ltb, eq-eqb, ne_eqb, eqb-true, eqb-false}
use Rattle.std.specs.Prelude.{Some, None}
use lib.Dec.{ltb, leb, eqb}
use lib.ListN.{length, get_or, drop}
use Rattle.lists.specs.Rules.{first_rule}
use Rattle.lists.proofs.Every.{all_at}
use Rattle.lists.proofs.Places.{length_tab, get_d_tab}
use Rattle.lists.proofs.Tests.{parts}
use Rattle.puts.specs.Filling.{fill_in}
use Rattle.rules.specs.Applying.{plain}
use Rattle.rules.specs.Configuration.{check, is_sound}
use Rattle.rules.specs.Filling.{fill_answer, fill_leaves}
use Rattle.rules.specs.Limits.{most_requests, highest_id, limits}
use Rattle.rules.specs.Requests.{standing_rules}
use Rattle.rules.specs.Run.{request_size}
use Rattle.rules.specs.Tables.{no_zone, sound_set, sound_zone, table_of, check_table, Zone}
use Rattle.rules.specs.Wanted.{requests_for, no_list, work_rules, worked, records_of, listed, Worked, Listed}
use Rattle.rules.specs.declared.Outcome.{Outcome}
use Rattle.rules.specs.declared.Request.{Request}
use Rattle.rules.proofs.Keeps.{set_sound, SoundTable}
use Rattle.rules.proofs.Stored.{stands_well}
use Rattle.rules.proofs.WantedBytes.{records_length}
use Rattle.zones.specs.Kept.{standing_in, Stands}
use Rattle.zones.specs.View.{stored_config, stored_table, config_in, zone_in, zones_in}
use Rattle.zones.proofs.Stepping.{stands_same}
use Rattle.wanted.specs.Wanted.{listed_in, own_number, listing, Listing, InLimits, FillsIn, ListsIn}

-- ---- 1 and 2
module _ (c t w : List ℕ) where
  pub own_first : (n : ℕ) → n ≡ standing_in c t → (n ≡ 0 → ⊥) → n ≡ own_number c t w
  unfolding own_number
  own_first n e ne = rw (ne_eqb (standing_in c t) 0 (λ z. ne (e ∙ z))) e

  pub own_second : (n m : ℕ) → n ≡ standing_in c t → n ≡ 0 → m ≡ standing_in c w → m ≡ own_number c t w
  unfolding own_number
  own_second n m e z g = rw (eq-eqb (standing_in c t) 0 (sym e ∙ z)) g

  -- none of them: both tables stand
  own_both : own_number c t w ≡ 0 → Stands c t × Stands c w
  unfolding own_number
  own_both e = by (eqb (standing_in c t) 0) refl e
    where
      by : (b : Bool) → eqb (standing_in c t) 0 ≡ b → cond b (standing_in c w) (standing_in c t) ≡ 0
          → Stands c t × Stands c w
      by true q f = (eqb-true _ _ q, f)
      by false q f = absurd (eqb-false _ _ q f)

  -- the rules' first two numbers
  numbered : (a b d : Bool) (x : Worked) (n : ℕ)
      → n ≡ cond (eqb (cond a 1 (cond b 2 0)) 0) (cond a 1 (cond d 2 0)) (cond a 1 (cond b 2 0))
      → cond a (no_list 1) (cond (b || d) (no_list 2) x) ≡ cond (eqb n 0) x (no_list n)
  numbered true b d x n e = rw e refl
  numbered false true d x n e = rw e refl
  numbered false false true x n e = rw e refl
  numbered false false false x n e = rw e refl

  behind : Worked
  behind =
      cond (ltb most_requests (length (requests_for (table_of (stored_table t)) (table_of (stored_table w))))) (no_list 29)
      (record { number = 0; requests = requests_for (table_of (stored_table t)) (table_of (stored_table w)) })

  worked_as : worked limits (stored_config c) (stored_table t) (stored_table w)
      ≡ cond (eqb (own_number c t w) 0) behind (no_list (own_number c t w))
  unfolding worked work_rules first_rule own_number standing_rules behind
  worked_as =
      numbered (not (is_sound (check limits (stored_config c)))) (not (check_table limits (stored_config c) (stored_table t)))
      (not (check_table limits (stored_config c) (stored_table w))) behind (own_number c t w) refl

-- ---- a table that stands is within limits
zone_at_law : (t : List ℕ) (z : ℕ) → z < length (zones_in t) → get_or (zones_in t) z no_zone ≡ zone_in t z
unfolding zones_in
zone_at_law t z h = get_d_tab (get_or t 0 0) (zone_in t) z no_zone (omega (arith, length_tab (get_or t 0 0) (zone_in t)))

stands_limits : (c t : List ℕ) → Stands c t → InLimits t
unfolding sound_set sound_zone
stands_limits c t ok =
    let s : SoundTable limits (config_in c) (zones_in t) =
    subst (SoundTable limits (config_in c)) (sym (stands_same c t _ refl ok))
    (stands_well limits (stored_config c) (stored_table t) ok).1 in
    record {
      within = record {
        zones = s.few;
        sets = λ z side h. leb-true _ _ (parts _ (set_sound limits (config_in c) (zones_in t) s z side h)).0;
      };
      ids = λ z h. leb-true _ _ (ap (λ (y : Zone). leb y.id highest_id) (sym (zone_at_law t z h))
          ∙ (parts _ (all_at (sound_zone limits (config_in c)) (zones_in t) no_zone s.zones z h)).0);
    }

pub first_limits_law : (c t w : List ℕ) (n : ℕ) → n ≡ own_number c t w → n ≡ 0 → InLimits t
first_limits_law c t w n e z = stands_limits c t (own_both c t w (sym e ∙ z)).0

pub second_limits : (c t w : List ℕ) (n : ℕ) → n ≡ own_number c t w → n ≡ 0 → InLimits w
second_limits c t w n e z = stands_limits c w (own_both c t w (sym e ∙ z)).1

-- ---- 29 and 28
module _ (qs : List Request) (b : List ℕ) (n : ℕ) (e : n ≡ length (records_of qs)) where
  count_is : n / request_size ≡ length qs
  count_is = omega (arith, records_length qs)

  pub fill_many : most_requests < n / request_size → FillsIn qs b (listing 29 0) b
  fill_many h =
      let l : most_requests < length qs = omega (arith, count_is) in
      let m : ltb most_requests (length qs) ≡ true = lt-ltb _ _ l in
      record { answer = rw m; buffer = rw m }

  pub fill_none : n / request_size ≤ most_requests → (v : List ℕ) → fill_in (records_of qs) b None v
      → FillsIn qs b (listing 28 0) v
  unfolding fill_in
  fill_none h v f =
      let few : length qs ≤ most_requests = omega (arith, count_is) in
      let m : ltb most_requests (length qs) ≡ false = le-ltb _ _ few in
      let s : ltb (length b) (length (records_of qs)) ≡ true = lt-ltb _ _ f.0 in
      record { answer = rw (m, s); buffer = rw (m, s) f.1 }

  pub fill_some : n / request_size ≤ most_requests → (k : ℕ) (v : List ℕ) → fill_in (records_of qs) b (Some k) v
      → FillsIn qs b (listing 0 (n / request_size)) v
  unfolding fill_in
  fill_some h k v f =
      let few : length qs ≤ most_requests = omega (arith, count_is) in
      let m : ltb most_requests (length qs) ≡ false = le-ltb _ _ few in
      let s : ltb (length b) (length (records_of qs)) ≡ false = le-ltb _ _ f.0 in
      record { answer = rw (m, s) (ap (listing 0) count_is); buffer = rw (m, s) f.2 }

-- ---- the whole
module _ (c t w b : List ℕ) where
  -- what is listed, by the number and the requests, and by whether their bytes do not fit
  answered : Bool → Worked → Outcome
  answered s r =
      cond (not (eqb r.number 0)) (plain r.number 0)
      (cond s (plain 28 0) (plain 0 (length (records_of r.requests))))

  listed_as : Bool → Worked → Listed
  listed_as s r = record {
    number = (answered s r).number;
    count = cond (eqb (answered s r).number 0) (length r.requests) 0;
    buffer =
        cond (eqb (answered s r).number 0)
        (records_of r.requests ++ drop (length (records_of r.requests)) b) b;
  }

  listed_as_law : (r : Worked) → worked limits (stored_config c) (stored_table t) (stored_table w) ≡ r → (s : Bool)
      → ltb (length b) (length (records_of r.requests)) ≡ s → listed_in c t w b ≡ listed_as s r
  unfolding listed fill_answer fill_leaves first_rule answered listed_as
  listed_as_law r e s h =
      ap (λ (x : Worked). listed_as (ltb (length b) (length (records_of x.requests))) x) e
      ∙ ap (λ (y : Bool). listed_as y r) h

  to_lists : (o : Listing) (v : List ℕ) (l : Listed) → listed_in c t w b ≡ l → o.number ≡ l.number
      → o.count ≡ l.count → v ≡ l.buffer → ListsIn c t w b o v
  to_lists o v l e p q s = record {
    number = p ∙ sym (ap (λ (x : Listed). x.number) e);
    count = q ∙ sym (ap (λ (x : Listed). x.count) e);
    buffer = s ∙ sym (ap (λ (x : Listed). x.buffer) e);
  }

  -- 29, 28 or 0, as the list was filled in
  filled_lists : (qs : List Request) (o : Listing) (v : List ℕ) (m s : Bool)
      → worked limits (stored_config c) (stored_table t) (stored_table w)
      ≡ cond m (no_list 29) (record { number = 0; requests = qs })
      → ltb (length b) (length (records_of qs)) ≡ s
      → o ≡ cond m (listing 29 0) (cond s (listing 28 0) (listing 0 (length qs)))
      → v ≡ cond m b (cond s b (records_of qs ++ drop (length (records_of qs)) b)) → ListsIn c t w b o v
  unfolding answered listed_as
  filled_lists qs o v true s r h a g =
      to_lists o v _ (listed_as_law (no_list 29) r _ refl) (ap (λ (x : Listing). x.number) a)
      (ap (λ (x : Listing). x.count) a) g
  filled_lists qs o v false true r h a g =
      to_lists o v _ (listed_as_law _ r true h) (ap (λ (x : Listing). x.number) a) (ap (λ (x : Listing). x.count) a) g
  filled_lists qs o v false false r h a g =
      to_lists o v _ (listed_as_law _ r false h) (ap (λ (x : Listing). x.number) a) (ap (λ (x : Listing). x.count) a) g

  module _ (n : ℕ) (e : n ≡ own_number c t w) where
    pub lists_refused : (n ≡ 0 → ⊥) → ListsIn c t w b (listing n 0) b
    unfolding answered listed_as
    lists_refused ne =
        let f : eqb n 0 ≡ false = ne_eqb n 0 ne in
        let r : worked limits (stored_config c) (stored_table t) (stored_table w) ≡ no_list n =
        worked_as c t w ∙ ap (λ (k : ℕ). cond (eqb k 0) (behind c t w) (no_list k)) (sym e)
        ∙ ap (λ (x : Bool). cond x (behind c t w) (no_list n)) f in
        to_lists (listing n 0) b (listed_as (ltb (length b) (length (records_of []))) (no_list n))
        (listed_as_law (no_list n) r _ refl) (rw f) (rw (f, f)) (rw (f, f))

    module _ (z : n ≡ 0) where
      both : Stands c t × Stands c w
      both = own_both c t w (sym e ∙ z)

      worked_here : worked limits (stored_config c) (stored_table t) (stored_table w)
          ≡ cond (ltb most_requests (length (requests_for (zones_in t) (zones_in w)))) (no_list 29)
          (record { number = 0; requests = requests_for (zones_in t) (zones_in w) })
      unfolding behind
      worked_here =
          worked_as c t w ∙ ap (λ (k : ℕ). cond (eqb k 0) (behind c t w) (no_list k)) (sym e ∙ z)
          ∙ ap₂ (λ (x y : List Zone). cond (ltb most_requests (length (requests_for x y))) (no_list 29)
          (record { number = 0; requests = requests_for x y }))
          (sym (stands_same c t _ refl both.0)) (sym (stands_same c w _ refl both.1))

      pub lists_filled : (o : Listing) (v : List ℕ) → FillsIn (requests_for (zones_in t) (zones_in w)) b o v
          → ListsIn c t w b o v
      lists_filled o v f =
          let qs : List Request = requests_for (zones_in t) (zones_in w) in
          filled_lists qs o v (ltb most_requests (length qs)) (ltb (length b) (length (records_of qs))) worked_here refl
          f.answer f.buffer
