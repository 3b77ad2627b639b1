-- Each answer is the core's, told in numbers.
use Prim.Native.Nat.{ℕ}
use mathlib.Core.List.{List, [], ◌∷◌}
use mathlib.Core.Path.{◌≡◌, ap, subst, ◌∙◌}
use Rattle.rules.specs.Owners.{owned_check_number, owned_check_place, owned_check_earlier}
use Rattle.rules.specs.Run.{make_request}
use Rattle.rules.specs.declared.OwnedChecked.{OwnedChecked}
use Rattle.rules.specs.declared.Region.{Region}
use Rattle.rules.specs.declared.Request.{Request}
use Rattle.owners.specs.Step.{OwnedStepped}
use Rattle.bank.specs.Bank.{owned_places_of}

-- the check
pub places_told : (u : List ℕ) (x y : ℕ) (f g : OwnedChecked) → u ≡ x ∷ y ∷ [] → f ≡ g → x ≡ owned_check_place f
    → y ≡ owned_check_earlier f → u ≡ owned_places_of g
unfolding owned_places_of
places_told u x y f g h e p q = h ∙ (λ i. (p ∙ ap owned_check_place e) i ∷ (q ∙ ap owned_check_earlier e) i ∷ [])

pub number_told : (n : ℕ) (f g : OwnedChecked) → f ≡ g → n ≡ owned_check_number f → n ≡ owned_check_number g
number_told n f g e p = p ∙ ap owned_check_number e

-- a request by its numbers
pub request_told : (c o t u : List ℕ) (kind zone : ℕ) (r s : Region) (q : Request) (n : ℕ) → r ≡ s
    → q ≡ make_request kind zone r → OwnedStepped c o t q n u → OwnedStepped c o t (make_request kind zone s) n u
request_told c o t u kind zone r s q n e f h =
    subst (λ (x : Request). OwnedStepped c o t x n u) (f ∙ ap (make_request kind zone) e) h
