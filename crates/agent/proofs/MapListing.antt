-- A call of the listing in numbers that C can hold: the outcome, taken apart.
use Prim.Native.Nat.{ℕ}
use mathlib.Core.List.{List, [], ◌∷◌}
use mathlib.Core.Path.{◌≡◌, sym, ap, ◌∙◌}
use lib.ListN.{get_or}
use Rattle.formats.specs.Texts.{ascii}
use Rattle.rules.specs.Listing.{side_word, longest_line, longest_listing}
use Rattle.rules.specs.Filling.{Filled}
use Rattle.rules.specs.declared.Outcome.{Outcome}
use Rattle.agent.specs.Agent.{layout, listing_in, ListingWords}

-- the longest listing, as the layout function says it
pub longest_told : (n : ℕ) → n ≡ 6 → 81920 ≡ get_or layout n 0
unfolding longest_listing longest_line side_word ascii
longest_told n e = sym (ap (λ (k : ℕ). get_or layout k 0) e)

pub listing_told : (c t w : List ℕ) (o : Outcome) (v a : List ℕ)
    → ◌≡◌ {A = Filled} (record { outcome = o; buffer = v }) (listing_in c t w) → a ≡ o.place ∷ []
    → ListingWords c t w o.number v a
listing_told c t w o v a h p = record {
  number = ap (λ (x : Filled). x.outcome.number) h;
  buffer = ap (λ (x : Filled). x.buffer) h;
  place = p ∙ ap (λ (x : Filled). x.outcome.place ∷ []) h;
}
