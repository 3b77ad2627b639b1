-- What is free is zero: so a gap need be closed only as far as words are in use, and zeros there leave nothing but
-- zeros.
use Prim.Native.Nat.{ℕ, suc, ◌+◌, ◌-◌, ◌*◌, ◌≤◌}
use native.Mathlib.Nat.{add-mul, sub-zero}
use native.Mathlib.Omega.{arith}
use mathlib.Core.List.{List, [], ◌∷◌, ◌++◌, flat_map, append_assoc, append-nil}
use mathlib.Core.Path.{◌≡◌, refl, sym, ap, ap₂, ◌∙◌}
use lib.ListN.{length, get_or, take, drop, replicate, length-replicate, replicate-append-replicate}
use lib.Seq.{drop-drop, take-add, take_at, drop_at}
use Rattle.lists.specs.Words.{counted, closed, cleared}
use Rattle.lists.proofs.Words.{counted_words, free_before, length_free}
use Rattle.rules.specs.Limits.{most_zones}
use Rattle.rules.specs.Tables.{no_zone, Zone}
use Rattle.zones.specs.Layout.{zone_words, zone_base, zone_start}
use Rattle.zones.specs.View.{zones_in}
use Rattle.zones.specs.Words.{words_of_zone, words_of, emptied, Within}
use Rattle.zones.proofs.Focus.{zone_wide, zero_zone_law, view_words}
use Rattle.zones.proofs.Readers.{count_word, start_used}

-- ---- closing a gap in front of r zeros: up to where they begin, or up to where they end
zeros_down : (s c : List ℕ) (m r : ℕ)
    → s ++ (replicate m 0 ++ (replicate r 0 ++ c)) ≡ (s ++ replicate r 0) ++ (replicate m 0 ++ c)
zeros_down s c m r =
    let e : m + r ≡ r + m = omega arith in
    ap (λ (l : List ℕ). s ++ l) (sym (append_assoc (replicate m 0) (replicate r 0) c))
    ∙ ap (λ (l : List ℕ). s ++ (l ++ c)) (replicate-append-replicate m r 0
    ∙ ap (λ (i : ℕ). replicate i 0) e
    ∙ sym (replicate-append-replicate r m 0))
    ∙ simp append_assoc

module _ (w c : List ℕ) (e r : ℕ) (zeros : drop e w ≡ replicate r 0 ++ c) where
  past_zeros : drop (e + r) w ≡ c
  past_zeros = sym (drop-drop r e w) ∙ ap (drop r) zeros ∙ drop_at (replicate r 0) c r (length-replicate r 0)

  to_zeros : (k n : ℕ) → k + n ≡ e → take (n + r) (drop k w) ≡ take n (drop k w) ++ replicate r 0
  to_zeros k n h =
      take-add n r (drop k w)
      ∙ ap (λ (l : List ℕ). take n (drop k w) ++ take r l) (drop-drop n k w ∙ ap (λ (i : ℕ). drop i w) h ∙ zeros)
      ∙ ap (λ (l : List ℕ). take n (drop k w) ++ l) (take_at (replicate r 0) c r (length-replicate r 0))

  closed_short : (at m n : ℕ) → at + m + n ≡ e → closed w at m e ≡ closed w at m (e + r)
  unfolding closed
  closed_short at m n h =
      let a : e - m - at ≡ n = omega arith in
      let b : e + r - m - at ≡ n + r = omega arith in
      ap₂ (λ (i : ℕ) (l : List ℕ). take at w ++ (take i (drop (at + m) w) ++ (replicate m 0 ++ l))) a zeros
      ∙ ap (λ (l : List ℕ). take at w ++ l) (zeros_down (take n (drop (at + m) w)) c m r)
      ∙ sym (ap₂ (λ (i : ℕ) (l : List ℕ). take at w ++ (take i (drop (at + m) w) ++ (replicate m 0 ++ l))) b past_zeros
      ∙ ap (λ (l : List ℕ). take at w ++ (l ++ (replicate m 0 ++ c))) (to_zeros (at + m) n h))

-- ---- a counted list: its elements, and the room that is left
module _ {A : Type 0} (n : ℕ) (z : A) (g : A → List ℕ) (m : ℕ) (wide : (x : A) → length (g x) ≡ m)
    (none : g z ≡ replicate m 0) (xs : List A) (fits : length xs ≤ n) where
  room_split : n * m ≡ length xs * m + (n - length xs) * m
  room_split =
      let d : n ≡ length xs + (n - length xs) = omega arith in
      ap (λ (j : ℕ). j * m) d ∙ add-mul (length xs) (n - length xs) m

  -- from the end of its elements on
  free_words : (pre post : List ℕ) (b : ℕ) → length pre ≡ b
      → drop (b + 1 + length xs * m) (pre ++ (counted n z g xs ++ post)) ≡ replicate ((n - length xs) * m) 0 ++ post
  unfolding free_before
  free_words pre post b e =
      let free : List ℕ = replicate ((n - length xs) * m) 0 in
      let used : List ℕ = pre ++ (length xs ∷ flat_map g xs) in
      let w : pre ++ (counted n z g xs ++ post) ≡ used ++ (free ++ post) =
      ap (λ (l : List ℕ). pre ++ (l ++ post)) (counted_words g m n z none xs fits) ∙ simp append_assoc in
      ap (drop (b + 1 + length xs * m)) w
      ∙ drop_at used (free ++ post) (b + 1 + length xs * m) (length_free n z g m wide pre post b e xs)

  -- a gap is closed up to there, or up to the end of the room
  pub closed_used : (pre post : List ℕ) (b : ℕ) → length pre ≡ b → (at : ℕ) → at + m ≤ b + 1 + length xs * m
      → closed (pre ++ (counted n z g xs ++ post)) at m (b + 1 + length xs * m)
      ≡ closed (pre ++ (counted n z g xs ++ post)) at m (b + 1 + n * m)
  closed_used pre post b e at h =
      let f : b + 1 + length xs * m + (n - length xs) * m ≡ b + 1 + n * m = omega (arith, room_split) in
      closed_short (pre ++ (counted n z g xs ++ post)) post (b + 1 + length xs * m) ((n - length xs) * m)
      (free_words pre post b e) at m (b + 1 + length xs * m - (at + m)) (omega arith)
      ∙ ap (closed (pre ++ (counted n z g xs ++ post)) at m) f

  -- zeros in its count and its elements leave the empty list
  cleared_used : cleared (counted n z g xs) 0 (1 + length xs * m) ≡ counted n z g []
  unfolding cleared flat_map
  cleared_used =
      let k : ℕ = 1 + length xs * m in
      let r : ℕ = (n - length xs) * m in
      let e : k + r ≡ suc ((n - 0) * m) = omega (arith, room_split, ap (λ (j : ℕ). j * m) (sub-zero n)) in
      let rest : drop k (counted n z g xs) ≡ replicate r 0 =
      ap (drop k) (sym (append-nil (counted n z g xs))) ∙ free_words [] [] 0 refl ∙ append-nil (replicate r 0) in
      ap₂ (λ (i : ℕ) (l : List ℕ). replicate i 0 ++ l) (sub-zero k) rest
      ∙ replicate-append-replicate k r 0
      ∙ ap (λ (i : ℕ). replicate i 0) e
      ∙ sym (counted_words g m n z none [] (omega arith))

-- ---- a table that loses its zones
pub emptied_is : (w v : List ℕ) (n b : ℕ) → n ≡ length (zones_in w) → b ≡ zone_start n → v ≡ cleared w 0 b → v ≡ emptied w
unfolding emptied
emptied_is w v n b en eb e = e ∙ ap (cleared w 0) (eb ∙ ap zone_start (en ∙ sym (count_word w)))

pub emptied_words : (t : List Zone) → Within t → emptied (words_of t) ≡ words_of []
unfolding emptied words_of
emptied_words t p =
    let start : zone_start (get_or (words_of t) 0 0) ≡ zone_base (length t) =
    ap zone_start (count_word (words_of t) ∙ ap length (view_words t p)) ∙ start_used (length t) p.zones in
    ap (cleared (words_of t) 0) start
    ∙ cleared_used most_zones no_zone words_of_zone zone_words zone_wide zero_zone_law t p.zones
