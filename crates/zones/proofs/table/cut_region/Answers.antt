-- The gap is closed over the regions that the set holds, and its count is one less.
use native.Mathlib.Omega.{arith}
use borrow.Author.Rules.{rules}
use Rattle.zones.proofs.Writers.{packed_long, cut_words, set_few}
use Rattle.zones.proofs.table.cut_region.Goals as goal

pub overflow_mul-i : goal.overflow_mul-i
overflow_mul-i c = let st = c.before in
    let q = set_few _ _ st.args.side st.requires.0.0 st.requires.0.1 in
    omega arith

pub overflow_add-b-2 : goal.overflow_add-b-2
overflow_add-b-2 c = let st = c.before in
    let q = set_few _ _ st.args.side st.requires.0.0 st.requires.0.1 in
    omega arith

pub overflow_mul-n : goal.overflow_mul-n
overflow_mul-n c = let st = c.before in
    let q = set_few _ _ st.args.side st.requires.0.0 st.requires.0.1 in
    omega arith

pub overflow_add-b-4 : goal.overflow_add-b-4
overflow_add-b-4 c = let st = c.before in
    let q = set_few _ _ st.args.side st.requires.0.0 st.requires.0.1 in
    omega arith

pub close_gap-requires : goal.close_gap-requires
close_gap-requires c = let st = c.before in
    let q = set_few _ _ st.args.side st.requires.0.0 st.requires.0.1 in
    let l = packed_long _ st.requires.0.0 in
    (omega arith, omega arith)

pub returns : goal.returns
returns c = search (cut_words, rules)
