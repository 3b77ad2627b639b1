-- Translation: what it is for a region to cover an address, where the address comes out, and how far that goes on.
use Prim.Native.Nat.{ℕ, ◌+◌, ◌-◌, ◌<◌}
use native.Mathlib.Omega.{arith}
use mathlib.Core.Bool.{Bool, true, cond}
use mathlib.Core.Path.{◌≡◌, sym, ap}
use borrow.Author.Tests.{ltb-true, leb-true, lt-ltb, le-leb, ne_eqb}
use lib.Dec.{ltb}
use Rattle.lists.proofs.Tests.{same_test, parts, whole}
use Rattle.rules.specs.Addresses.{Covers}
use Rattle.rules.specs.Translation.{covers_guest, phys_in, remaining_in, translated_as}
use Rattle.rules.specs.declared.Region.{Region}

-- the region covers the address: it starts at or before it, and ends after it
pub covers_parts : (a : ℕ) (r : Region) → covers_guest a r ≡ true → Covers r.v.0 r.size a
unfolding covers_guest
covers_parts a r e = let p = parts _ e in (leb-true _ _ p.0, ltb-true _ _ p.1.0)

pub parts_cover : (a : ℕ) (r : Region) → Covers r.v.0 r.size a → covers_guest a r ≡ true
unfolding covers_guest
parts_cover a r (l, u) = whole _ (le-leb _ _ l, (lt-ltb _ _ u, tt))

-- what comes out lies in the region's physical range
pub lies_in : (a x : ℕ) (r : Region) → covers_guest a r ≡ true → phys_in a r ≡ x → Covers r.p.0 r.size x
unfolding phys_in
lies_in a x r e h = let (l, u) = covers_parts a r e in (omega arith, omega arith)

-- and as far behind the physical start as the address is behind the guest start
pub same_distance : (a : ℕ) (r : Region) → covers_guest a r ≡ true → phys_in a r ≡ r.p.0 + (a - r.v.0)
unfolding phys_in
same_distance a r e = let (l, u) = covers_parts a r e in omega arith

-- what remains is what lies between the address and the region's end
pub remains_to_end : (a : ℕ) (r : Region) → covers_guest a r ≡ true → remaining_in a r ≡ r.v.0 + r.size - a
unfolding remaining_in
remains_to_end a r e = let (l, u) = covers_parts a r e in omega arith

-- from a covered address on, the region covers as many bytes as remain, and not the next
pub covers_on : (a i : ℕ) (r : Region) → covers_guest a r ≡ true → covers_guest (a + i) r ≡ ltb i (remaining_in a r)
unfolding remaining_in
covers_on a i r e =
    let (l, u) = covers_parts a r e in
    same_test _ _ (λ c. let (m, h) = covers_parts (a + i) r c in lt-ltb i (remaining_in a r) (omega arith))
    (λ c. let h : i < remaining_in a r = ltb-true _ _ c in parts_cover (a + i) r (omega arith, omega arith))

-- and those come out one after another, each with what then remains
pub goes_on : (a i : ℕ) (r : Region) → covers_guest a r ≡ true → phys_in (a + i) r ≡ phys_in a r + i
unfolding phys_in
goes_on a i r e = let (l, u) = covers_parts a r e in omega arith

pub remains_less : (a i : ℕ) (r : Region) → covers_guest a r ≡ true → remaining_in (a + i) r ≡ remaining_in a r - i
unfolding remaining_in
remains_less a i r e = let (l, u) = covers_parts a r e in omega arith

-- on refusal neither the address nor what remains hangs on a region
pub none_told : (n a : ℕ) (r : Region) → (n ≡ 0 → ⊥)
    → record { number = n; phys = record { 0 = 0 }; remaining = 0 } ≡ translated_as n a r
unfolding translated_as
none_told n a r ne =
    ap (λ (b : Bool). record {
      number = n;
      phys = record { 0 = cond b (phys_in a r) 0 };
      remaining = cond b (remaining_in a r) 0;
    }) (sym (ne_eqb n 0 ne))
