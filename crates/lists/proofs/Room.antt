-- A list in an array of n places is the list, then zeros: one element more takes the place of a zero, and one less
-- leaves a zero at the end. A list with an element taken out is what stands before it, then what stands after it.
use Prim.Native.Nat.{ℕ, zero, suc, ◌+◌, ◌-◌, ◌≤◌, ◌<◌}
use native.Mathlib.Decide.{dec_lt}
use native.Mathlib.Omega.{arith}
use mathlib.Core.Bool.{Bool, false, true≢false}
use mathlib.Core.List.{List, [], ◌∷◌, ◌++◌, append_assoc}
use mathlib.Core.Path.{◌≡◌, refl, sym, ap, ap₂, ◌∙◌}
use borrow.Author.Tests.{ltb-true, ltb-false}
use lib.Dec.{ltb}
use lib.ListN.{length, get_or, take, drop, set, length-append, length-take, length-drop, length-set, replicate}
use lib.ListN.{length-replicate, get_or-replicate, replicate-append-replicate, get_or-append}
use lib.Seq.{take-append-le, drop-append_seam, drop-append-le, take-append-add, get_or-append-add, set-append_left}
use lib.Seq.{get_or-take, get_or-drop, ext_get_or, take_at}
use Rattle.lists.specs.First.{first_index, first_from, any}
use Rattle.lists.specs.Places.{tab}
use Rattle.lists.specs.Room.{room, remove_at}
use Rattle.lists.proofs.Every.{none_make, none_others, any_split}
use Rattle.lists.proofs.First.{any_first, first_passes, before_fails, from_passes, between_fails, from_least}
use Rattle.lists.proofs.Places.{length_tab, get_d_tab}
use Rattle.lists.proofs.Tests.{or_right, true_of, same_test}

module _ {A : Type 0} where
  pub length_removed : (xs : List A) (i : ℕ) → i < length xs → length (remove_at i xs) ≡ length xs - 1
  unfolding remove_at
  length_removed xs i h =
      omega (arith, length-append (take i xs) (drop (suc i) xs), length-take i xs, length-drop (suc i) xs)

  -- the elements that are left, before the gap and from it on
  pub removed_low : (xs : List A) (k i : ℕ) (d : A) → k < length xs → i < k → get_or (remove_at k xs) i d ≡ get_or xs i d
  unfolding remove_at
  removed_low xs k i d h l =
      get_or-append (take k xs) (drop (suc k) xs) d i (omega (arith, length-take k xs)) ∙ get_or-take k xs i d l

  pub removed_high : (xs : List A) (k i : ℕ) (d : A) → k < length xs → k ≤ i
      → get_or (remove_at k xs) i d ≡ get_or xs (i + 1) d
  unfolding remove_at
  removed_high xs k i d h l =
      let len : length (take k xs) ≡ k = omega (arith, length-take k xs) in
      let e : i ≡ length (take k xs) + (i - k) = omega arith in
      let f : suc k + (i - k) ≡ i + 1 = omega arith in
      ap (λ (j : ℕ). get_or (take k xs ++ drop (suc k) xs) j d) e
      ∙ get_or-append-add (take k xs) (drop (suc k) xs) (i - k) d ∙ get_or-drop (suc k) xs (i - k) d
      ∙ ap (λ (j : ℕ). get_or xs j d) f

  module _ (n : ℕ) (z : A) where
    pub length_room : (xs : List A) → length (room n z xs) ≡ n
    unfolding room
    length_room xs =
        omega (arith, length-take n (xs ++ replicate n z), length-append xs (replicate n z), length-replicate n z)

    -- where the list fits, the places after it hold z
    pub room_rest : (xs : List A) → length xs ≤ n → room n z xs ≡ xs ++ replicate (n - length xs) z
    unfolding room
    room_rest xs h =
        let k : ℕ = n - length xs in
        let e : n ≡ length xs + k = omega arith in
        let f : n ≡ k + length xs = omega arith in
        let s : replicate n z ≡ replicate k z ++ replicate (length xs) z =
        ap (λ (m : ℕ). replicate m z) f ∙ sym (replicate-append-replicate k (length xs) z) in
        ap (λ (m : ℕ). take m (xs ++ replicate n z)) e ∙ take-append-add xs (replicate n z) k
        ∙ ap (λ (r : List A). xs ++ r)
        (ap (take k) s ∙ take_at (replicate k z) (replicate (length xs) z) k (length-replicate k z))

    -- place by place: the list, and z past its end
    pub room_tab : (xs : List A) → room n z xs ≡ tab n (λ i. get_or xs i z)
    unfolding room
    room_tab xs =
        ext_get_or z (room n z xs) (tab n (λ i. get_or xs i z)) (length_room xs ∙ sym (length_tab n (λ i. get_or xs i z)))
        (λ i h. let l : i < n = omega (arith, length_room xs) in
        get_or-take n (xs ++ replicate n z) i z l ∙ past_end xs i l ∙ sym (get_d_tab n (λ j. get_or xs j z) i z l))
      where
        past_end : (ys : List A) (i : ℕ) → i < n → get_or (ys ++ replicate n z) i z ≡ get_or ys i z
        past_end [] i h = get_or-replicate n i z z h
        past_end (y ∷ ys) zero h = refl
        past_end (y ∷ ys) (suc i) h = past_end ys i (omega arith)

    pub room_read : (xs : List A) (i : ℕ) → i < n → get_or (room n z xs) i z ≡ get_or xs i z
    room_read xs i h = ap (λ (l : List A). get_or l i z) (room_tab xs) ∙ get_d_tab n (λ j. get_or xs j z) i z h

    pub room_take : (xs : List A) → n ≤ length xs → room n z xs ≡ take n xs
    unfolding room
    room_take xs h = take-append-le n xs (replicate n z) h

    -- what was put there is read back
    pub room_back : (xs : List A) → length xs ≤ n → take (length xs) (room n z xs) ≡ xs
    room_back xs h = ap (take (length xs)) (room_rest xs h) ∙ take_at xs (replicate (n - length xs) z) (length xs) refl

    -- and what follows it is z
    pub room_after : (xs : List A) → length xs ≤ n → drop (length xs) (room n z xs) ≡ replicate (n - length xs) z
    room_after xs h = ap (drop (length xs)) (room_rest xs h) ∙ drop-append_seam xs (replicate (n - length xs) z)

    pub room_at : (xs : List A) (k : ℕ) (d : A) → k < length xs → length xs ≤ n → get_or (room n z xs) k d ≡ get_or xs k d
    room_at xs k d h b =
        ap (λ (l : List A). get_or l k d) (room_rest xs b) ∙ get_or-append xs (replicate (n - length xs) z) d k h

    pub room_set : (xs : List A) (k : ℕ) (v : A) → k < length xs → length xs ≤ n
        → room n z (set xs k v) ≡ set (room n z xs) k v
    room_set xs k v h b =
        room_rest (set xs k v) (omega (arith, length-set xs k v))
        ∙ ap (λ (m : ℕ). set xs k v ++ replicate (n - m) z) (length-set xs k v)
        ∙ sym (set-append_left xs (replicate (n - length xs) z) k v h)
        ∙ ap (λ (l : List A). set l k v) (sym (room_rest xs b))

    -- the first free place, before and after one element more is put there
    pub room_free : (xs : List A) → length xs < n → room n z xs ≡ xs ++ (z ∷ replicate (n - suc (length xs)) z)
    room_free xs h =
        let e : n - length xs ≡ suc (n - suc (length xs)) = omega arith in
        room_rest xs (omega arith) ∙ ap (λ (m : ℕ). xs ++ replicate m z) e

    pub room_push : (xs : List A) (x : A) → length xs < n
        → room n z (xs ++ x ∷ []) ≡ xs ++ (x ∷ replicate (n - suc (length xs)) z)
    room_push xs x h =
        let e : n - length (xs ++ x ∷ []) ≡ n - suc (length xs) = omega (arith, length-append xs (x ∷ [])) in
        room_rest (xs ++ x ∷ []) (omega (arith, length-append xs (x ∷ [])))
        ∙ append_assoc xs (x ∷ []) (replicate (n - length (xs ++ x ∷ [])) z)
        ∙ ap (λ (m : ℕ). xs ++ (x ∷ replicate m z)) e

    -- one element less: the later ones come down, and z fills the place that is left
    pub room_cut : (xs : List A) (i : ℕ) → i < length xs → length xs ≤ n
        → room n z (remove_at i xs) ≡ take i (room n z xs) ++ (drop (suc i) (room n z xs) ++ (z ∷ []))
    unfolding remove_at
    room_cut xs i h b =
        let rest : List A = replicate (n - length xs) z in
        let e : n - length (remove_at i xs) ≡ (n - length xs) + 1 = omega (arith, length_removed xs i h) in
        let t : take i (xs ++ rest) ≡ take i xs = take-append-le i xs rest (omega arith) in
        let d : drop (suc i) (xs ++ rest) ≡ drop (suc i) xs ++ rest = drop-append-le (suc i) xs rest h in
        room_rest (remove_at i xs) (omega (arith, length_removed xs i h))
        ∙ ap (λ (m : ℕ). (take i xs ++ drop (suc i) xs) ++ replicate m z) e
        ∙ ap (λ (l : List A). (take i xs ++ drop (suc i) xs) ++ l)
        (sym (replicate-append-replicate (n - length xs) 1 z))
        ∙ append_assoc (take i xs) (drop (suc i) xs) (rest ++ (z ∷ []))
        ∙ ap (λ (l : List A). take i xs ++ l) (sym (append_assoc (drop (suc i) xs) rest (z ∷ [])))
        ∙ ap₂ (λ (x y : List A). x ++ (y ++ (z ∷ []))) (sym t) (sym d)
        ∙ ap (λ (l : List A). take i l ++ (drop (suc i) l ++ (z ∷ []))) (sym (room_rest xs b))

-- ---- some element other than element k passes: by the first that does
module _ {A : Type 0} (p : A → Bool) (xs : List A) (d : A) (k : ℕ) (h : k < length xs) where
  pub others_first : (first_index p xs ≡ k → ⊥) → any p (remove_at k xs) ≡ ltb (first_index p xs) (length xs)
  others_first ne =
      same_test (any p (remove_at k xs)) (ltb (first_index p xs) (length xs))
      (λ e. sym (any_first p xs) ∙ any_split p xs k d h ∙ or_right (p (get_or xs k d)) (any p (remove_at k xs)) e)
      (λ e. true_of _ (λ none. true≢false (sym (first_passes p xs d (ltb-true _ _ e))
      ∙ none_others p xs k d none (first_index p xs) (ltb-true _ _ e) ne)))

  pub others_later : first_index p xs ≡ k → any p (remove_at k xs) ≡ ltb (first_from p xs (k + 1)) (length xs)
  others_later at =
      same_test (any p (remove_at k xs)) (ltb (first_from p xs (k + 1)) (length xs))
      (λ e. true_of _ (λ none. true≢false (sym e ∙ none_make p (remove_at k xs) d (λ i l. none_there none i l))))
      (λ e. true_of _ (λ none. true≢false (sym (from_passes p xs d (k + 1) (ltb-true _ _ e))
      ∙ none_others p xs k d none (first_from p xs (k + 1)) (ltb-true _ _ e)
      (λ q. let l : k + 1 ≤ first_from p xs (k + 1) = from_least p xs d (k + 1) in omega arith))))
    where
      none_there : ltb (first_from p xs (k + 1)) (length xs) ≡ false → (i : ℕ) → i < length (remove_at k xs)
          → p (get_or (remove_at k xs) i d) ≡ false
      none_there none i l =
          let len : length (remove_at k xs) ≡ length xs - 1 = length_removed xs k h in
          let past : length xs ≤ first_from p xs (k + 1) = ltb-false _ _ none in
          elim (dec_lt i k) [
            | yes a ↦ ap p (removed_low xs k i d h a) ∙ before_fails p xs d i (omega arith)
            | no a ↦
                ap p (removed_high xs k i d h (omega arith))
                ∙ between_fails p xs d (k + 1) (i + 1) (omega arith) (omega arith)
          ]
