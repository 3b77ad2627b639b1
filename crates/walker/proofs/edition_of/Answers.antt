-- Four steps from the plan's first byte, and what their findings say of the edition.
use Rattle.std.proofs.Common.{◌≡◌, ◌∙◌, ℕ, List, ap}
use Rattle.std.specs.Prelude.{Option}
use Rattle.std.specs.Borrow.{Bor}
use Rattle.plan.specs.Told.{Told}
use Rattle.walker.specs.declared.Walker.{Walker}
use Rattle.walker.specs.Edition.{judged, edition_of}
use Rattle.walker.specs.Walker.{start_of, next_of}
use Rattle.walker.proofs.Editions.{walked_is}
use Rattle.walker.proofs.edition_of.Goals as goal

-- the walker before each step, what the step finds, and the walker after it
abbrev Stepped : Walker → Option ℕ → Walker → Type 0
Stepped w r v = (r ≡ (next_of w).0) × (v ≡ (next_of w).1)

after : (u w v : Walker) (r : Option ℕ) → w ≡ u → Stepped w r v → Stepped u r v
after u w v r e s = (s.0 ∙ ap (λ (x : Walker). (next_of x).0) e, s.1 ∙ ap (λ (x : Walker). (next_of x).1) e)

walked_to : (plan : Bor (List ℕ)) (a b c d e : Walker) (count gic edition format : Option ℕ) (answer : Told ℕ)
    → a ≡ start_of plan → Stepped a count b → Stepped b gic c → Stepped c edition d → Stepped d format e
    → answer ≡ judged count gic edition format → answer ≡ edition_of plan.now
walked_to plan a b c d e count gic edition format answer start s1 s2 s3 s4 j =
    let t1 = after (start_of plan) a b count start s1 in
    let t2 = after _ b c gic t1.1 s2 in
    let t3 = after _ c d edition t2.1 s3 in
    let t4 = after _ d e format t3.1 s4 in
    j ∙ ap (λ (x : Option ℕ). judged x gic edition format) t1.0
    ∙ ap (λ (x : Option ℕ). judged (next_of (start_of plan)).0 x edition format) t2.0
    ∙ ap (λ (x : Option ℕ). judged (next_of (start_of plan)).0 (next_of (next_of (start_of plan)).1).0 x format) t3.0
    ∙ ap (λ (x : Option ℕ). judged (next_of (start_of plan)).0 (next_of (next_of (start_of plan)).1).0
    (next_of (next_of (next_of (start_of plan)).1).1).0 x) t4.0
    ∙ walked_is plan.now

pub returns : goal.returns
returns c =
    walked_to c.args.plan _ _ _ _ _ _ _ _ _ _ c.new-walker.ensures c.next-count.ensures.steps c.next-gic.ensures.steps
    c.next-edition.ensures.steps c.next-format.ensures.steps c.judge.ensures
