-- A mark as a log: later entries may be read as blank, so nothing of them is read; what is read hangs on the entry that is
-- written and on those before it.
use Prim.Native.Nat.{ℕ}
use mathlib.Core.List.{List, [], ◌∷◌, ◌++◌}
use mathlib.Core.Logic.{inl, inr}
use mathlib.Core.Path.{◌≡◌, refl, sym, ap, subst, ◌∙◌}
use Rattle.formats.specs.Formats.{All}
use Rattle.rules.specs.Storing.{marks, acted, readings, Among, Store}
use Rattle.promises.specs.MarkLog.{blank, unused, MayBeBlank, MayBeThere, value_in, seen_in, readings_in, Tidy}
use Rattle.promises.specs.MarkLog.{not_begun, at_claim, claimed, at_value, valued, at_finished, done, written, page_after}
use Rattle.promises.specs.MarkLog.{StandsFor, Cell, Entry, Formed, Place, Stage, IsAMark}

-- ---- lists
all_both : {A : Type 0} (P : A → Type 0) (xs ys : List A) → All P (xs ++ ys) → All P xs × All P ys
all_both P [] ys a = (tt, a)
all_both P (x ∷ xs) ys (a, b) = let (c, d) = all_both P xs ys b in ((a, c), d)

both_all : {A : Type 0} (P : A → Type 0) (xs ys : List A) → All P xs → All P ys → All P (xs ++ ys)
both_all P [] ys a b = b
both_all P (x ∷ xs) ys (a, c) b = (a, both_all P xs ys c b)

all_more : {A : Type 0} (P Q : A → Type 0) → ((x : A) → P x → Q x) → (xs : List A) → All P xs → All Q xs
all_more P Q f [] a = tt
all_more P Q f (x ∷ xs) (a, b) = (f x a, all_more P Q f xs b)

-- ---- entries whose claim may be read as blank are not read
blank_behind : (x : Entry) → Formed x → MayBeBlank x.claim → (rs : List ℕ) → seen_in x.finished x.value rs ≡ rs
unfolding seen_in
blank_behind x f b rs = ap (λ (c : Cell). seen_in c x.value rs) (f.guarded b).1

later_unread : (xs ys : List Entry) → Tidy xs → All (λ (x : Entry). MayBeBlank x.claim) xs
    → readings_in (xs ++ ys) ≡ readings_in ys
unfolding readings_in
later_unread [] ys t f = refl
later_unread (x ∷ xs) ys (t, ts) (f, fs) =
    blank_behind x t f (readings_in (xs ++ ys)) ∙ later_unread xs ys ts fs

-- ---- at a place
module _ (page : List Entry) (tidy : Tidy page) (p : Place page) where
  parts : Tidy p.later × Tidy (p.own ∷ p.earlier)
  parts = all_both Formed p.later (p.own ∷ p.earlier) (subst Tidy p.whole tidy)

  frees : All (λ (x : Entry). MayBeBlank x.claim) p.later × All (λ (x : Entry). MayBeBlank x.claim) (p.own ∷ [])
  frees = all_both (λ (x : Entry). MayBeBlank x.claim) p.later (p.own ∷ []) p.free

  once : (p.own.value ≡ blank) × (p.own.finished ≡ blank)
  once = parts.1.0.guarded frees.1.0

  -- what it was read as, and is with another entry there
  before : readings_in page ≡ readings_in p.earlier
  unfolding readings_in
  before =
      ap readings_in p.whole
      ∙ later_unread p.later (p.own ∷ p.earlier) parts.0 frees.0
      ∙ blank_behind p.own parts.1.0 frees.1.0 (readings_in p.earlier)

  after : (x : Entry) → readings_in (p.later ++ x ∷ p.earlier) ≡ seen_in x.finished x.value (readings_in p.earlier)
  unfolding readings_in
  after x = later_unread p.later (x ∷ p.earlier) parts.0 frees.0

  -- each stage keeps the form
  stage_formed : (e : ℕ) (s : Stage) → Formed (written p.own e s)
  unfolding written
  stage_formed e not_begun = parts.1.0
  stage_formed e at_claim = record { believed = parts.1.0.believed; guarded = λ b. once }
  stage_formed e claimed = record { believed = parts.1.0.believed; guarded = λ b. absurd b }
  stage_formed e at_value = record {
    believed = λ t. absurd (subst MayBeThere once.1 t);
    guarded = λ b. absurd b;
  }
  stage_formed e valued = record { believed = λ t. (e, refl); guarded = λ b. absurd b }
  stage_formed e at_finished = record { believed = λ t. (e, refl); guarded = λ b. absurd b }
  stage_formed e done = record { believed = λ t. (e, refl); guarded = λ b. absurd b }

  stays_tidy : (e : ℕ) (s : Stage) → Tidy (page_after p e s)
  stays_tidy e s =
      both_all Formed p.later (written p.own e s ∷ p.earlier) parts.0 (stage_formed e s, parts.1.1)

  -- and what is read: as before, as e or as before, as e
  unread : (x : Entry) → x.finished ≡ blank → readings_in (p.later ++ x ∷ p.earlier) ≡ readings_in page
  unfolding seen_in
  unread x f =
      after x ∙ ap (λ (c : Cell). seen_in c x.value (readings_in p.earlier)) f ∙ sym before

  module _ {W : Type 0} (d : Store W) (stands : StandsFor d page) (e : ℕ) where
    older : StandsFor (acted d (marks e)) page
    unfolding acted
    older =
        all_more (λ (r : ℕ). Among r (readings d)) (λ (r : ℕ). Among r (e ∷ readings d)) (λ r a. inr a) (readings_in page)
        stands

    same : (x : Entry) → x.finished ≡ blank → StandsFor (acted d (marks e)) (p.later ++ x ∷ p.earlier)
    same x f = subst (All (λ (r : ℕ). Among r (readings (acted d (marks e))))) (sym (unread x f)) older

    stage_stands : (s : Stage) → StandsFor (acted d (marks e)) (page_after p e s)
    unfolding written seen_in value_in acted
    stage_stands not_begun = same _ once.1
    stage_stands at_claim = same _ once.1
    stage_stands claimed = same _ once.1
    stage_stands at_value = same _ once.1
    stage_stands valued = same _ once.1
    stage_stands at_finished =
        subst (All (λ (r : ℕ). Among r (readings (acted d (marks e))))) (sym (after (written p.own e at_finished)))
        (inl refl, subst (All (λ (r : ℕ). Among r (e ∷ readings d))) before older)
    stage_stands done =
        subst (All (λ (r : ℕ). Among r (readings (acted d (marks e))))) (sym (after (written p.own e done)))
        (inl refl, tt)

  wrote : (e : ℕ) → readings_in (page_after p e done) ≡ e ∷ []
  unfolding written seen_in value_in
  wrote e = after (written p.own e done)

unused_formed : (x : Entry) → x ≡ unused → Formed x
unused_formed x e =
    subst Formed (sym e) (record { believed = λ t. absurd t; guarded = λ b. (refl, refl) })

pub is_a_mark : IsAMark
unfolding acted
is_a_mark = record {
  once = once;
  tidy = stays_tidy;
  cut = λ d page t s p e stage. stage_stands page t p d s e stage;
  wrote = wrote;
  waited = λ d page t p e. subst (All (λ (r : ℕ). Among r (e ∷ []))) (sym (wrote page t p e)) (inl refl, tt);
  erased = all_more (λ (x : Entry). x ≡ unused) Formed unused_formed;
}
