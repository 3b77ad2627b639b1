-- One behind the other.
use mathlib.Core.List.{List, [], ◌++◌}
use mathlib.Core.Path.{◌≡◌, refl, sym, ap, ap₂, subst, ◌∙◌}
use Prim.Native.Nat.{ℕ, ◌+◌}
use lib.ListN.{length}
use Rattle.puts.specs.Puts.{put_at, Put}
use Rattle.puts.specs.Pens.{Wrote}
use Rattle.puts.specs.declared.pen.Pen.{Pen}
use Rattle.puts.proofs.Puts.{puts_both, puts_none}

pub wrote_both : (p q r : Pen) (a b : List ℕ) → Wrote p q a → Wrote q r b → Wrote p r (a ++ b)
wrote_both p q r a b x y = record {
  same = y.same ∙ x.same;
  put = puts_both p.bytes.now q.bytes.now r.bytes.now p.at q.at r.at a b x.put y.put;
}

pub wrote_none : (p : Pen) → Wrote p p []
wrote_none p = record { same = refl; put = puts_none p.bytes.now p.at }

pub wrote_as : (p q : Pen) (a b : List ℕ) → a ≡ b → Wrote p q a → Wrote p q b
wrote_as p q a b e x = subst (Wrote p q) e x

-- from the start on
pub wrote_whole : (p q : Pen) (s v b : List ℕ) → Wrote p q b → p.bytes.now ≡ s → p.at ≡ 0 → v ≡ q.bytes.now
    → Put s 0 b v q.at
wrote_whole p q s v b w e z f =
    subst (λ (l : List ℕ). Put l 0 b v q.at) e
    (subst (λ (j : ℕ). Put p.bytes.now j b v q.at) z (subst (λ (l : List ℕ). Put p.bytes.now p.at b l q.at) (sym f) w.put))

-- with the pen set to the same place before and after
pub wrote_moved : (p q r s : Pen) (b : List ℕ) → Wrote q r b → p.bytes ≡ q.bytes → p.at ≡ q.at → r.bytes ≡ s.bytes → r.at ≡ s.at → Wrote p s b
wrote_moved p q r s b w pb pa rb ra = record {
  same = ap (λ x. x.ghost_name) (sym rb) ∙ w.same ∙ ap (λ x. x.ghost_name) (sym pb);
  put = record {
    bytes =
        ap (λ x. x.now) (sym rb) ∙ w.put.bytes
        ∙ ap₂ (λ (k : ℕ) (l : List ℕ). put_at k b l) (sym pa) (ap (λ x. x.now) (sym pb));
    end = sym ra ∙ w.put.end ∙ ap (λ (k : ℕ). k + length b) (sym pa);
  };
}
