-- Which base edition a plan is for: what its marks section alone says.
use Rattle.std.specs.Prelude.{ℕ, cond, List, Option, Some, None, Ok, Err, eqb, length}
use Rattle.formats.specs.Formats.{Out}
use Rattle.rules.specs.Limits.{limits}
use Rattle.rules.specs.Plan.{marks_section, Marks}
use Rattle.plan.specs.Told.{Told, answer_by}

-- the edition among the marks; or a refusal and its offset, that of what is left: n is the number of the plan's bytes
abbrev pub edition_answer : ℕ → Out Marks → Told ℕ
edition_answer n o = answer_by (λ m left. m.edition) n o

-- of any bytes
abbrev pub edition_of : List ℕ → Told ℕ
edition_of b = edition_answer (length b) ((marks_section limits).read b)

-- ---- the same, of what a walker finds
-- a number that is there leads on; one that is missing is 20 at its place
unfoldable pub or_cut : Option ℕ → ℕ → (ℕ → Told ℕ) → Told ℕ
or_cut (Some n) at f = f n
or_cut None at f = Err (20, at)

-- the count, the GIC's position, the edition and the format's mark
unfoldable pub judged : Option ℕ → Option ℕ → Option ℕ → Option ℕ → Told ℕ
judged count gic edition format =
    or_cut count 0 (λ n. cond (eqb n 3)
    (or_cut gic 4 (λ g. or_cut edition 8 (λ e. or_cut format 12 (λ f. cond (eqb f 2) (Ok e) (Err (21, 12))))))
    (Err (21, 0)))
