-- Of two unequal stretches that a lawful format reads whole neither begins the other: what it reads is what it wrote, and after that
-- it reads the same whatever follows. So they differ at a byte that both have.
use Prim.Native.Nat.{ℕ, ◌≤◌, ◌<◌}
use native.Mathlib.Decide.{dec_lt}
use native.Mathlib.Omega.{arith}
use mathlib.Core.List.{List, [], ◌++◌, append-nil}
use mathlib.Core.Path.{◌≡◌, sym, ap, ◌∙◌}
use lib.ListN.{length, get_or, drop}
use Rattle.lists.specs.Alike.{alike, SameAt, FirstLack}
use Rattle.lists.specs.Bytes.{Bytes}
use Rattle.lists.proofs.Alike.{alike_is, alike_out, one_lack}
use Rattle.formats.specs.Formats.{got, left, Format}
use Rattle.formats.proofs.Formats.{Lawful}

module _ {A : Type 0} (F : Format A) (Fits : A → Type 0) (law : Lawful F Fits) where
  -- what follows a stretch that reads whole is left
  follows : (b t : List ℕ) (x : A) → Bytes b → F.read b ≡ got x [] → F.read (b ++ t) ≡ got x t
  follows b t x s e =
      let (w, f) = law.tight b x [] s e in
      ap (λ (v : List ℕ). F.read (v ++ t)) (w ∙ append-nil (F.write x)) ∙ law.back x t f

  -- so where the longer reads whole too, nothing does
  begins : (b t : List ℕ) (x y : A) → Bytes b → F.read b ≡ got x [] → F.read (b ++ t) ≡ got y [] → t ≡ []
  unfolding left
  begins b t x y s e f = ap left (sym (follows b t x s e) ∙ f)

  -- the place where they differ first, and that both have a byte there
  pub unequal_differ : (b c : List ℕ) (x y : A) → Bytes b → Bytes c → F.read b ≡ got x [] → F.read c ≡ got y []
      → (b ≡ c → ⊥)
      → (alike b c < length b) × (alike b c < length c) × (get_or c (alike b c) 0 ≡ get_or b (alike b c) 0 → ⊥)
  unequal_differ b c x y sb sc eb ec ne =
      let h : FirstLack b c (alike b c) = alike_is b c in
      elim (dec_lt (alike b c) (length b)) [
        | no n ↦ absurd (ne (same b c x y sb eb ec (let e : alike b c ≡ length b = omega (arith, h.within) in e)))
        | yes l ↦
            elim (dec_lt (alike b c) (length c)) [
              | yes m ↦ (l, m, λ e. h.lacks l (m, e))
              | no m ↦ absurd (ne (sym (same c b y x sc ec eb (turned h (let k : length c ≤ alike b c = omega arith in k)))))
            ]
      ]
    where
      -- one that is as far as they go alike is all of the other
      same : (b c : List ℕ) (x y : A) → Bytes b → F.read b ≡ got x [] → F.read c ≡ got y [] → alike b c ≡ length b
          → b ≡ c
      same b c x y s e f k =
          let q : c ≡ b ++ drop (length b) c = alike_out b c k in
          let z : drop (length b) c ≡ [] = begins b (drop (length b) c) x y s e (ap F.read (sym q) ∙ f) in
          sym (q ∙ ap (λ (t : List ℕ). b ++ t) z ∙ append-nil b)

      -- where the second ends first, it goes alike with the first to its end
      turned : FirstLack b c (alike b c) → length c ≤ alike b c → alike c b ≡ length c
      turned h k =
          one_lack c b (alike c b) (length c) (alike_is c b)
          (record {
            within = omega arith;
            before = λ i l. (
                let p : SameAt b c i = h.before i (omega arith) in
                (omega (arith, h.within), sym p.1)
                );
            lacks = λ l p. omega arith;
          })
