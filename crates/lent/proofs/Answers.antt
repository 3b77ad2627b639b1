-- Answers told in numbers, by what a call answers.
use Rattle.std.proofs.Common.{ℕ, [], ◌∷◌, ◌≡◌, ap, ◌∙◌}
use Rattle.rules.specs.declared.Side.{Side}
use Rattle.rules.specs.declared.Translated.{Translated}
use Rattle.lent.specs.Lent.{side_asked, stretch_of}

-- a translation on a side by its number
pub translation_told : (f : Side → Translated) (s : Side) (n : ℕ) (r : Translated) → s ≡ side_asked n → r ≡ f s
    → (r.number ≡ (f (side_asked n)).number) × (r.phys.0 ∷ r.remaining ∷ [] ≡ stretch_of (f (side_asked n)))
unfolding stretch_of
translation_told f s n r a t =
    let e : r ≡ f (side_asked n) = t ∙ ap f a in
    (ap (λ (x : Translated). x.number) e, ap (λ (x : Translated). x.phys.0 ∷ x.remaining ∷ []) e)
