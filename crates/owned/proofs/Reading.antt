-- Owners read into words: after i of them the words are those of the first i, and zeros.
use Prim.Native.Nat.{ℕ, ◌+◌, ◌-◌, ◌*◌, ◌≤◌, ◌<◌}
use native.Mathlib.Omega.{arith}
use mathlib.Core.List.{List, []}
use mathlib.Core.Path.{◌≡◌, refl, sym, ap, ap₂, ◌∙◌}
use lib.ListN.{length, take, drop, set, replicate}
use lib.Seq.{set_at}
use Rattle.std.proofs.Common.{Ok, Err}
use Rattle.lists.specs.Bytes.{little}
use Rattle.lists.specs.Places.{tab, places}
use Rattle.lists.specs.Room.{room}
use Rattle.lists.specs.Words.{part}
use Rattle.lists.proofs.Places.{length_tab, tab_last}
use Rattle.lists.proofs.Room.{room_rest, room_free, room_push}
use Rattle.formats.specs.Formats.{Out, got, bad, then, read_with}
use Rattle.rules.specs.Limits.{most_regions, limits}
use Rattle.rules.specs.OwnedPlan.{owned_regions}
use Rattle.rules.specs.Plan.{regions_section}
use Rattle.rules.specs.declared.Region.{Region}
use Rattle.plan.specs.Sections.{section_answer}
use Rattle.plan.specs.Told.{answer_by}
use Rattle.plan.proofs.Numbers.{lawful_numbers}
use Rattle.plan.proofs.Offsets.{rest_of, ends_with}
use Rattle.owned.specs.Section.{owners_section, id_at, owners_in}
use Rattle.owned.proofs.Holding.{counted}
use Rattle.owned.proofs.Passing.{owners_are}

-- ---- ids one after another
pub ids_none : (s : List ℕ) → replicate most_regions 0 ≡ room most_regions 0 (tab 0 (id_at s))
unfolding tab places
ids_none s = sym (room_rest most_regions 0 [] (omega arith))

pub ids_put : (s w : List ℕ) (i n v : ℕ) → w ≡ room most_regions 0 (tab i (id_at s)) → v ≡ little (part (4 + i * 4) 4 s)
    → i < n → n ≤ most_regions → set w i v ≡ room most_regions 0 (tab (i + 1) (id_at s))
ids_put s w i n v e ev h l =
    let xs : List ℕ = tab i (id_at s) in
    let m : length xs ≡ i = length_tab i (id_at s) in
    let few : length xs < most_regions = omega (arith, m) in
    ap₂ (λ (x : List ℕ) (y : ℕ). set x i y) (e ∙ room_free most_regions 0 xs few) ev
    ∙ set_at xs 0 _ (id_at s i) i m
    ∙ sym (room_push most_regions 0 xs (id_at s i) few)
    ∙ ap (room most_regions 0) (sym (tab_last i (id_at s)))

-- ---- behind the regions
module _ (s : List ℕ) where
  abbrev behind : List Region → List ℕ → Out (List Region × List ℕ)
  behind rs u = then ((owners_section (length rs)).read u) (λ os t. got (rs, os) t)

  pub none_read : (e : ℕ × ℕ) → Err e ≡ section_answer (length s) ((regions_section limits).read s)
      → replicate most_regions 0 ≡ owners_in ((owned_regions limits).read s)
  unfolding read_with then owners_in answer_by
  none_read e g = by ((regions_section limits).read s) g
    where
      by : (y : Out (List Region)) → Err e ≡ section_answer (length s) y
          → replicate most_regions 0 ≡ owners_in (then y behind)
      by (got rs t) d = absurd (cc)
      by (bad j t) d = refl

  -- which end at byte e, where the owners' section begins
  module _ (e : ℕ) (g : Ok e ≡ section_answer (length s) ((regions_section limits).read s)) (n : ℕ)
      (en : n ≡ little (part 0 4 s)) where
    abbrev rs : List Region
    rs = (counted s e g n en).0

    answered : section_answer (length (take (length s - e) (drop e s))) ((owners_section n).read (take (length s - e) (drop e s)))
        ≡ section_answer (length (drop e s)) ((owners_section (length rs)).read (drop e s))
    answered =
        ap₂ (λ (u : List ℕ) (k : ℕ). section_answer (length u) ((owners_section k).read u)) (rest_of s e)
        (counted s e g n en).2

    together : (owned_regions limits).read s ≡ behind rs (drop e s)
    unfolding read_with then
    together = ap (λ (y : Out (List Region)). then y behind) (counted s e g n en).1

    pub cut_read : (x : ℕ × ℕ)
        → Err x ≡ section_answer (length (take (length s - e) (drop e s))) ((owners_section n).read (take (length s - e) (drop e s)))
        → replicate most_regions 0 ≡ owners_in ((owned_regions limits).read s)
    unfolding then owners_in answer_by
    cut_read x h = by ((owners_section (length rs)).read (drop e s)) (h ∙ answered) ∙ sym (ap owners_in together)
      where
        by : (y : Out (List ℕ)) → Err x ≡ section_answer (length (drop e s)) y
            → replicate most_regions 0 ≡ owners_in (then y (λ os t. got (rs, os) t))
        by (got os t) d = absurd (cc)
        by (bad j t) d = refl

    pub ids_read : (a : ℕ)
        → Ok a ≡ section_answer (length (take (length s - e) (drop e s))) ((owners_section n).read (take (length s - e) (drop e s)))
        → (v : List ℕ) → v ≡ room most_regions 0 (tab n (id_at (take (length s - e) (drop e s))))
        → v ≡ owners_in ((owned_regions limits).read s)
    unfolding then owners_in
    ids_read a h v ev =
        let u : List ℕ = drop e s in
        let (os, o) =
        ends_with u ((owners_section (length rs)).read u) ((lawful_numbers (length rs)).part u) a (h ∙ answered) in
        ev
        ∙ ap₂ (λ (k : ℕ) (x : List ℕ). room most_regions 0 (tab k (id_at x))) (counted s e g n en).2 (rest_of s e)
        ∙ ap (room most_regions 0) (sym (owners_are (length rs) u os (drop a u) o))
        ∙ sym (ap (λ (y : Out (List ℕ)). owners_in (then y (λ os t. got (rs, os) t))) o)
        ∙ sym (ap owners_in together)
