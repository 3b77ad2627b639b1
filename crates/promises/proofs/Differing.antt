-- Where bases differ: the part begins where the two stretches stop being alike; two sections that are not equal do so at a byte of
-- both, by the format's laws; and 26 is answered only where zones, and so their sections, are not equal.
use Prim.Native.Nat.{ℕ, ◌≤◌}
use native.Mathlib.Omega.{arith}
use mathlib.Core.Bool.{Bool, true, false, cond, not}
use mathlib.Core.List.{List, [], ◌∷◌, ◌++◌}
use mathlib.Core.Logic.{inl, inr}
use mathlib.Core.Path.{◌≡◌, refl, sym, ap, subst, ◌∙◌}
use borrow.Author.Tests.{ltb-true, ltb-false, lt-ltb, le-ltb, eqb-true, eqb-false, not-true}
use lib.Dec.{ltb, eqb}
use lib.ListN.{length, get_or, drop, length-drop, drop_of_length-le}
use Rattle.lists.specs.Alike.{alike, FirstLack}
use Rattle.lists.specs.Lines.{FirstOf, Exactly}
use Rattle.lists.specs.Rules.{◌when◌, first_rule, Rule}
use Rattle.lists.proofs.Alike.{alike_is, one_lack, alike_out, alike_begun}
use Rattle.lists.proofs.Lines.{exactly, exactly_of}
use Rattle.formats.proofs.Differing.{unequal_differ}
use Rattle.formats.specs.Formats.{Out, got, bad, then, at_end, read_file, ListFits}
use Rattle.rules.specs.Applying.{plain, plan_at, apply_read, apply, Terminal}
use Rattle.rules.specs.Configuration.{config_of, check, is_sound, Configuration, StoredConfig}
use Rattle.rules.specs.Differing.{zones_bytes, write_zones, zones_of, lacking_part}
use Rattle.rules.specs.Filling.{fill_answer}
use Rattle.rules.specs.Limits.{Limits, Sayable}
use Rattle.rules.specs.Plan.{requests_of, zones_section, read_plan, AskedFits, Plan}
use Rattle.rules.specs.Requests.{standing_rules, standing}
use Rattle.rules.specs.Sizes.{longest_size, plan_size}
use Rattle.rules.specs.Tables.{check_table, table_of, Zone, StoredTable}
use Rattle.rules.specs.declared.Outcome.{Outcome}
use Rattle.rules.proofs.Differing.{zones_of_bytes, zones_of_reads, zones_read_law, zones_bytes_law}
use Rattle.rules.proofs.Filling.{leaves_all, Refusing}
use Rattle.rules.proofs.Configuration.{passed, SoundConfiguration}
use Rattle.rules.proofs.Keeps.{SoundTable}
use Rattle.rules.proofs.Plan.{lawful_zones}
use Rattle.rules.proofs.Planner.{plan_fits}
use Rattle.rules.proofs.Sizes.{sized_zones, encoded_length, most_length}
use Rattle.promises.specs.Answers.{standing_lines, AtTerminal, twenty, twenty_one, twenty_two, reads, Reading}
use Rattle.promises.specs.Answers.{all_accepted, twenty_seven, Ends, Stands}
use Rattle.promises.specs.Differing.{TwentySixIsShown, short, fits, Told, ZonesAreWritten}
use Rattle.promises.specs.Differing.{part_at, PartsAre, SectionsDiffer, SectionsOf, PlaceIsAlike, ZonesLongestSuffices}
use Rattle.promises.proofs.Answers.{apply_is_exact, standing_exactly, stands_of, table_stands}
use Rattle.promises.proofs.Filling.{filled}

-- ---- any two stretches
module _ (b c : List ℕ) where
  abbrev k : ℕ
  k = alike b c

  at_alike : part_at b c ≡ k
  unfolding lacking_part
  at_alike = omega (arith, length-drop k b, (alike_is b c).within)

pub parts_are : PartsAre
unfolding lacking_part
parts_are b c = record {
  rest = ap (λ (n : ℕ). drop n b) (sym (at_alike b c));
  first = subst (FirstLack b c) (sym (at_alike b c)) (alike_is b c);
  only = λ j h. one_lack b c j (alike b c) h (alike_is b c) ∙ sym (at_alike b c);
  empty = (ends, begun);
}
  where
    ends : drop (alike b c) b ≡ [] → (t : List ℕ) × (c ≡ b ++ t)
    ends e =
        let n : alike b c ≡ length b = omega (arith, length-drop (alike b c) b, ap length e, (alike_is b c).within) in
        (drop (length b) c, alike_out b c n)

    begun : (t : List ℕ) × (c ≡ b ++ t) → drop (alike b c) b ≡ []
    begun (t, e) =
        let n : alike b c ≡ length b = ap (alike b) e ∙ alike_begun b t in
        drop_of_length-le b {i = alike b c} (omega (arith, n))

pub place_is_alike : PlaceIsAlike
place_is_alike b c = sym (at_alike b c)

module _ (l : Limits) where
  pub sections_differ : SectionsDiffer l
  sections_differ b c (sb, (x, eb)) (sc, (y, ec)) ne =
      let (f, s, o) = unequal_differ (zones_section l) _ (lawful_zones l) b c x y sb sc eb ec ne in
      let e : part_at b c ≡ alike b c = at_alike b c in
      record {
        first = omega (arith, e, f);
        second = omega (arith, e, s);
        other = subst (λ (n : ℕ). get_or c n 0 ≡ get_or b n 0 → ⊥) (sym e) o;
      }

  pub sections_of : SectionsOf l
  sections_of = record {
    terminal = λ say c t full e. (zones_bytes_law l say c t full e, zones_read_law l say c t full e);
    plan = λ b p s e. (zones_of_bytes l b p s e, zones_of_reads l b p s e);
  }

  -- ---- 26
  -- where it is answered the state stands, the plan reads whole, and its zones are not the terminal's
  module _ (s : Terminal) (b : List ℕ) (e : (apply l s b).outcome.number ≡ 26) where
    twenty_six_stands : standing l s.config s.table ≡ 0
    unfolding apply standing_rules first_rule
    twenty_six_stands = by (eqb (standing l s.config s.table) 0) refl e
      where
        most : (x y : Bool) → cond x 1 (cond y 2 0) ≤ 2
        most true y = omega arith
        most false true = omega arith
        most false false = omega arith

        by : (c : Bool) → eqb (standing l s.config s.table) 0 ≡ c
            → (cond c (apply_read l s b (read_plan l b))
            (record { outcome = plain (standing l s.config s.table) 0; state = s })).outcome.number
            ≡ 26
            → standing l s.config s.table ≡ 0
        by true h f = eqb-true _ _ h
        by false h f =
            absurd (omega (arith, f, most (not (is_sound (check l s.config))) (not (check_table l s.config s.table))))

    other_zones_law : (p : Plan) × (read_plan l b ≡ got p []) × (table_of s.table ≡ p.zones → ⊥)
    unfolding read_plan read_file then at_end
    other_zones_law = by_lines (apply l s b).outcome e ((apply_is_exact l s b (apply l s b).outcome).0 refl)
      where
        never : {A : Type 0} (n : ℕ) (o : Outcome) (at : ℕ) → plain n at ≡ o → o.number ≡ 26 → (n ≡ 26 → ⊥) → A
        never n o at q f ne = absurd (ne (ap (λ (x : Outcome). x.number) q ∙ f))

        ended_other : (p : Plan) (o : Outcome)
            → Ends l (config_of s.config) (table_of s.table) (requests_of p) o → o.number ≡ 26 → ⊥
        ended_other p o (all_accepted h) f = omega arith
        ended_other p o (twenty_seven i h g n) f = omega arith

        by_base : (p : Plan) (o : Outcome) → read_plan l b ≡ got p [] → o.number ≡ 26 → AtTerminal l s p o
            → (p : Plan) × (read_plan l b ≡ got p []) × (table_of s.table ≡ p.zones → ⊥)
        by_base p o q f (inl (h, g)) = never 23 o 0 g f (λ z. omega arith)
        by_base p o q f (inr (h, inl (i, g))) = never 24 o 0 g f (λ z. omega arith)
        by_base p o q f (inr (h, inr (i, inl (j, g)))) = never 25 o 0 g f (λ z. omega arith)
        by_base p o q f (inr (h, inr (i, inr (j, inl (k, g))))) = (p, q, k)
        by_base p o q f (inr (h, inr (i, inr (j, inr (k, w))))) = absurd (ended_other p o w f)

        by_reading : (o : Outcome) → o.number ≡ 26 → Reading l b (AtTerminal l s) o
            → (p : Plan) × (read_plan l b ≡ got p []) × (table_of s.table ≡ p.zones → ⊥)
        by_reading o f (twenty at h r) = absurd (omega arith)
        by_reading o f (twenty_one at h r) = absurd (omega arith)
        by_reading o f (twenty_two p at h r) = absurd (omega arith)
        by_reading o f (reads p x r w) = by_base p o (ap (λ (x : Out Plan). then x at_end) r) f w

        by_lines : (o : Outcome) → o.number ≡ 26
            → FirstOf (standing_lines (λ n. plain n 0) l s.config s.table) (Reading l b (AtTerminal l s)) o
            → (p : Plan) × (read_plan l b ≡ got p []) × (table_of s.table ≡ p.zones → ⊥)
        by_lines o f (inl (h, g)) = never 1 o 0 g f (λ z. omega arith)
        by_lines o f (inr (h, inl (i, g))) = never 2 o 0 g f (λ z. omega arith)
        by_lines o f (inr (h, inr (i, w))) = by_reading o f w

  pub twenty_six_is_shown : TwentySixIsShown l
  twenty_six_is_shown say s b full sb e =
      let (p, r, ne) = other_zones_law s b e in
      let (tb, tr) = sections_of.terminal say s.config s.table full (twenty_six_stands s b e) in
      let (pb, pr) = sections_of.plan b p sb r in
      sections_differ (zones_of l b) (zones_bytes l s.table) (pb, (p.zones, pr)) (tb, (table_of s.table, tr))
      (λ q. ne (same_got (sym tr ∙ ap (zones_section l).read (sym q) ∙ pr)))
    where
      zones_got : Out (List Zone) → List Zone
      zones_got (got x t) = x
      zones_got (bad k t) = []

      same_got : {x y : List Zone} → ◌≡◌ {A = Out (List Zone)} (got x []) (got y []) → x ≡ y
      same_got q = ap zones_got q

  -- ---- the terminal's section in a lent buffer
  module _ (c : StoredConfig) (t : StoredTable) where
    abbrev rules : List (Rule Outcome)
    rules = plain (standing l c t) 0 when not (eqb (standing l c t) 0) ∷ []

    refusing : Refusing rules
    refusing = ((λ h e. eqb-false _ _ (not-true _ h) e), tt)

    -- 28 or 0, where neither 1 nor 2 applies
    abbrev last : ℕ → Outcome
    last room = cond (ltb room (length (zones_bytes l t))) (plain 28 0) (plain 0 (length (zones_bytes l t)))

    told : (room : ℕ) → Exactly (last room) (Told (zones_bytes l t) room)
    told room = exactly (last room) (Told (zones_bytes l t) room) (some (ltb room (length (zones_bytes l t))) refl) so
      where
        some : (b : Bool) → ltb room (length (zones_bytes l t)) ≡ b → (o : Outcome) × Told (zones_bytes l t) room o
        some true e = (plain 28 0, short (ltb-true _ _ e))
        some false e = (plain 0 (length (zones_bytes l t)), fits (ltb-false _ _ e))

        so : (o : Outcome) → Told (zones_bytes l t) room o → last room ≡ o
        so o (short h) = ap (λ (b : Bool). cond b (plain 28 0) (plain 0 (length (zones_bytes l t)))) (lt-ltb _ _ h)
        so o (fits h) = ap (λ (b : Bool). cond b (plain 28 0) (plain 0 (length (zones_bytes l t)))) (le-ltb _ _ h)

    in_order_law : (room : ℕ)
        → fill_answer rules (zones_bytes l t) room ≡ cond (eqb (standing l c t) 0) (last room) (plain (standing l c t) 0)
    unfolding fill_answer first_rule
    in_order_law room = by (last room) (plain (standing l c t) 0) (eqb (standing l c t) 0)
      where
        by : (x y : Outcome) (b : Bool) → cond (not b) y x ≡ cond b x y
        by x y true = refl
        by x y false = refl

  pub zones_are_written : ZonesAreWritten l
  unfolding write_zones
  zones_are_written = record {
    exact = λ c t w.
        exactly_of (in_order_law c t (length w))
        (standing_exactly l c t (λ n. plain n 0) (last c t (length w)) (Told (zones_bytes l t) (length w))
        (told c t (length w)));
    refusal = λ c t w ne. leaves_all _ (zones_bytes l t) w ne;
    success = λ c t w e. filled (rules c t) (zones_bytes l t) w (refusing c t) e;
  }

  -- the section of a sound table is within the longest plan: it stands in one
  pub zones_within : Sayable l → (c : Configuration) → SoundConfiguration l c → (t : List Zone) → SoundTable l c t
      → length ((zones_section l).write t) ≤ longest_size l
  unfolding plan_size
  zones_within say c ok t tab =
      let p : Plan = plan_at c 0 t [] in
      let none : ListFits 4 0 l.requests AskedFits [] =
      record { said = omega arith; least = omega arith; most = omega arith; fits = (refl, tt) } in
      omega (
        arith,
        sized_zones l t,
        encoded_length l p,
        most_length l p (plan_fits l say c ok 0 (omega arith) t tab [] none),
      )

  pub zones_longest_suffices : ZonesLongestSuffices l
  zones_longest_suffices say c t w full long e =
      by (write_zones l c t w).outcome e ((zones_are_written.exact c t w (write_zones l c t w).outcome).0 refl)
    where
      never : (n : ℕ) (o : Outcome) → plain n 0 ≡ o → o.number ≡ 28 → (n ≡ 28 → ⊥) → ⊥
      never n o q f ne = ne (ap (λ (x : Outcome). x.number) q ∙ f)

      last_of : (o : Outcome) → o.number ≡ 28 → Stands l c t → Told (zones_bytes l t) (length w) o → ⊥
      last_of o f st (short h) =
          omega (
            arith,
            h,
            long,
            zones_within say (config_of c) (passed l c full st.config) (table_of t) (table_stands l c t st.table),
          )
      last_of o f st (fits h) = omega arith

      by : (o : Outcome) → o.number ≡ 28
          → FirstOf (standing_lines (λ n. plain n 0) l c t) (Told (zones_bytes l t) (length w)) o → ⊥
      by o f (inl (h, q)) = never 1 o q f (λ z. omega arith)
      by o f (inr (h, inl (k, q))) = never 2 o q f (λ z. omega arith)
      by o f (inr (h, inr (k, d))) = last_of o f (stands_of l c t h k) d
