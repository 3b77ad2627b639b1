-- Words that go up, the last first: down to a place the work is done, and below it the words are as they were. Opening a
-- gap where one was closed, with the words that stood in it, gives back what was there.
use Prim.Native.Nat.{ℕ, suc, ◌+◌, ◌-◌, ◌≤◌, ◌<◌}
use native.Mathlib.Omega.{arith}
use mathlib.Core.List.{List, [], ◌∷◌, ◌++◌, append_assoc}
use mathlib.Core.Path.{◌≡◌, sym, ap, ap₂, ◌∙◌}
use lib.ListN.{length, get_or, take, drop, set, replicate, length-append, length-take, length-drop, length-set}
use lib.ListN.{length-replicate, take-append-drop, get_or-append}
use lib.Seq.{take-suc, drop-cons, take_at, drop_at, set_at, set-append_left, set-set, set-get_or, get_or-take}
use lib.Seq.{take-append-add, drop-drop, sets, sets-eq}
use Rattle.lists.specs.Words.{closed, cleared, part}
use Rattle.lists.proofs.Words.{sets_mid}
use Rattle.zones.specs.Moves.{opened}

-- from k on the words are those m before, up to e
unfoldable pub raised : List ℕ → ℕ → ℕ → ℕ → List ℕ
raised w m e k = take k w ++ (take (e - k) (drop (k - m) w) ++ drop e w)

pub raise_start : (w : List ℕ) (m e : ℕ) → w ≡ raised w m e e
unfolding raised
raise_start w m e =
    let z : e - e ≡ 0 = omega arith in
    sym (ap (λ (n : ℕ). take e w ++ (take n (drop (e - m) w) ++ drop e w)) z ∙ take-append-drop e w)

module _ (w t : List ℕ) (at m e k : ℕ) where
  -- (k is where the words are already raised, and j the place below it)
  raise_at : (j : ℕ) → k ≡ suc j → t ≡ raised w m e k → at + m ≤ j → k ≤ e → e ≤ length w
      → set t j (get_or t (j - m) 0) ≡ raised w m e j
  unfolding raised
  raise_at j q inv low high long =
      let rest : List ℕ = take (e - k) (drop (k - m) w) ++ drop e w in
      let lk : length (take k w) ≡ k = omega (arith, length-take k w) in
      let x : get_or t (j - m) 0 ≡ get_or w (j - m) 0 =
      ap (λ (l : List ℕ). get_or l (j - m) 0) inv
      ∙ get_or-append (take k w) rest 0 (j - m) (omega arith)
      ∙ get_or-take k w (j - m) 0 (omega arith) in
      let front : take k w ≡ take j w ++ (get_or w j 0 ∷ []) =
      ap (λ (n : ℕ). take n w) q ∙ take-suc w j 0 (omega arith) in
      let body : t ≡ take j w ++ (get_or w j 0 ∷ rest) =
      inv ∙ ap (λ (l : List ℕ). l ++ rest) front ∙ append_assoc (take j w) (get_or w j 0 ∷ []) rest in
      let more : get_or w (j - m) 0 ∷ take (e - k) (drop (k - m) w) ≡ take (e - j) (drop (j - m) w) =
      (let a : suc (j - m) ≡ k - m = omega arith in
      let b : suc (e - k) ≡ e - j = omega arith in
      ap (λ (n : ℕ). get_or w (j - m) 0 ∷ take (e - k) (drop n w)) (sym a)
      ∙ ap (take (suc (e - k))) (sym (drop-cons w (j - m) 0 (omega arith)))
      ∙ ap (λ (n : ℕ). take n (drop (j - m) w)) b) in
      ap₂ (λ (l : List ℕ) (y : ℕ). set l j y) body x
      ∙ set_at (take j w) (get_or w j 0) rest (get_or w (j - m) 0) j (omega (arith, length-take j w))
      ∙ ap (λ (l : List ℕ). take j w ++ (l ++ drop e w)) more

  pub raise_step : t ≡ raised w m e k → at + m < k → k ≤ e → e ≤ length w
      → set t (k - 1) (get_or t (k - 1 - m) 0) ≡ raised w m e (k - 1)
  raise_step inv low high long = let q : k ≡ suc (k - 1) = omega arith in raise_at (k - 1) q inv (omega arith) high long

  pub raise_end : t ≡ raised w m e k → k ≤ at + m → at + m ≤ k → t ≡ opened w at m e
  unfolding raised opened
  raise_end inv a b =
      let q : k ≡ at + m = omega arith in
      let d : at + m - m ≡ at = omega arith in
      inv ∙ ap (λ (n : ℕ). take n w ++ (take (e - n) (drop (n - m) w) ++ drop e w)) q
      ∙ ap (λ (n : ℕ). take (at + m) w ++ (take (e - (at + m)) (drop n w) ++ drop e w)) d

pub length_opened : (w : List ℕ) (at m e : ℕ) → at + m ≤ e → e ≤ length w → length (opened w at m e) ≡ length w
unfolding opened
length_opened w at m e h l =
    omega (
      arith,
      length-append (take (at + m) w) (take (e - (at + m)) (drop at w) ++ drop e w),
      length-append (take (e - (at + m)) (drop at w)) (drop e w),
      length-take (at + m) w,
      length-take (e - (at + m)) (drop at w),
      length-drop at w,
      length-drop e w,
    )

-- ---- what was closed
module _ (p vs mid post : List ℕ) (at m e b x : ℕ) (lp : length p ≡ at) (lv : length vs ≡ m)
    (le : at + m + length mid ≡ e) (hb : b < at) where
  q : List ℕ
  q = set p b x

  lq : length q ≡ at
  unfolding q
  lq = length-set p b x ∙ lp

  -- the words there, whatever they are
  there : List ℕ
  there = take m (mid ++ (replicate m 0 ++ post))

  opened_mid : opened (q ++ (mid ++ (replicate m 0 ++ post))) at m e ≡ q ++ (there ++ (mid ++ post))
  unfolding opened there
  opened_mid =
      let s : List ℕ = mid ++ (replicate m 0 ++ post) in
      let u : List ℕ = q ++ s in
      let t1 : take (at + m) u ≡ q ++ take m s =
      ap (λ (n : ℕ). take (n + m) u) (sym lq) ∙ take-append-add q s m in
      let d1 : drop at u ≡ s = drop_at q s at lq in
      let t2 : take (e - (at + m)) (drop at u) ≡ mid =
      ap (take (e - (at + m))) d1 ∙ take_at mid (replicate m 0 ++ post) (e - (at + m)) (omega arith) in
      let w : u ≡ (q ++ (mid ++ replicate m 0)) ++ post = simp append_assoc in
      let d2 : drop e u ≡ post =
      ap (drop e) w
      ∙ drop_at (q ++ (mid ++ replicate m 0)) post e
      (omega (arith, lq, length-append q (mid ++ replicate m 0), length-append mid (replicate m 0), length-replicate {A = ℕ} m 0)) in
      ap₂ (λ (k l : List ℕ). k ++ l) t1 (ap₂ (λ (k l : List ℕ). k ++ l) t2 d2)
      ∙ append_assoc q (take m s) (mid ++ post)

  there_long : length there ≡ length vs
  unfolding there
  there_long =
      omega (
        arith,
        length-take m (mid ++ (replicate m 0 ++ post)),
        length-append mid (replicate m 0 ++ post),
        length-append (replicate m 0) post,
        length-replicate {A = ℕ} m 0,
      )

  reopened_mid : (n : ℕ) → get_or p b 0 ≡ n
      → set (sets (opened (set (p ++ (mid ++ (replicate m 0 ++ post))) b x) at m e) at vs) b n
      ≡ p ++ (vs ++ (mid ++ post))
  unfolding q
  reopened_mid n en =
      ap (λ (l : List ℕ). set (sets (opened l at m e) at vs) b n)
      (set-append_left p (mid ++ (replicate m 0 ++ post)) b x (omega arith))
      ∙ ap (λ (l : List ℕ). set (sets l at vs) b n) opened_mid
      ∙ ap (λ (l : List ℕ). set l b n) (sets_mid q there (mid ++ post) vs at lq there_long)
      ∙ set-append_left q (vs ++ (mid ++ post)) b n (omega (arith, lq))
      ∙ ap (λ (l : List ℕ). l ++ (vs ++ (mid ++ post)))
      (set-set p b x n ∙ ap (set p b) (sym en) ∙ set-get_or p b 0)

module _ (w : List ℕ) (at m e b : ℕ) (h : at + m ≤ e) (l : e ≤ length w) (hb : b < at) where
  -- a gap was closed and a word before it set: opened again, with the words that stood there and the old word
  pub reopened : (x : ℕ) → set (sets (opened (set (closed w at m e) b x) at m e) at (part at m w)) b (get_or w b 0) ≡ w
  unfolding closed part
  reopened x =
      let p : List ℕ = take at w in
      let vs : List ℕ = take m (drop at w) in
      let mid : List ℕ = take (e - m - at) (drop (at + m) w) in
      let post : List ℕ = drop e w in
      let lp : length p ≡ at = omega (arith, length-take at w) in
      let lv : length vs ≡ m = omega (arith, length-take m (drop at w), length-drop at w) in
      let lm : at + m + length mid ≡ e =
      omega (arith, length-take (e - m - at) (drop (at + m) w), length-drop (at + m) w) in
      let tail : mid ++ post ≡ drop (at + m) w =
      (let k : at + m + (e - m - at) ≡ e = omega arith in
      ap (λ (n : ℕ). mid ++ drop n w) (sym k)
      ∙ ap (λ (s : List ℕ). mid ++ s) (sym (drop-drop (e - m - at) (at + m) w))
      ∙ take-append-drop (e - m - at) (drop (at + m) w)) in
      let body : p ++ (vs ++ (mid ++ post)) ≡ w =
      ap (λ (s : List ℕ). p ++ (vs ++ s)) (tail ∙ sym (drop-drop m at w))
      ∙ ap (λ (s : List ℕ). p ++ s) (take-append-drop m (drop at w))
      ∙ take-append-drop at w in
      reopened_mid p vs mid post at m e b x lp lv lm hb (get_or w b 0) (get_or-take at w b 0 hb) ∙ body

-- zeros, and then one word, are a stretch of words
pub cleared_named : (w : List ℕ) (at m id : ℕ) → 1 ≤ m → at + m ≤ length w
    → set (cleared w at (at + m)) at id ≡ sets w at (id ∷ replicate (m - 1) 0)
unfolding cleared
cleared_named w at m id one h =
    let k : at + m - at ≡ suc (m - 1) = omega arith in
    let l : length (replicate {A = ℕ} (m - 1) 0) ≡ m - 1 = length-replicate (m - 1) 0 in
    let n : at + m ≡ at + length (id ∷ replicate (m - 1) 0) = omega arith in
    ap (λ (i : ℕ). set (take at w ++ (replicate i 0 ++ drop (at + m) w)) at id) k
    ∙ set_at (take at w) 0 (replicate (m - 1) 0 ++ drop (at + m) w) id at (omega (arith, length-take at w))
    ∙ ap (λ (i : ℕ). take at w ++ ((id ∷ replicate (m - 1) 0) ++ drop i w)) n
    ∙ sym (append_assoc (take at w) (id ∷ replicate (m - 1) 0) (drop (at + length (id ∷ replicate (m - 1) 0)) w))
    ∙ sym (sets-eq (id ∷ replicate (m - 1) 0) w at (omega arith))
