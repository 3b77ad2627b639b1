-- By what was found: nothing, or the stretch from the zones' count to the requests'.
use Rattle.plan.proofs.Outcomes.{no_base, base_four, base_fits, base_within, base_found}
use native.Mathlib.Omega.{arith}
use borrow.Author.Rules.{rules}
use Rattle.lists.specs.Bytes.{Bytes}
use Rattle.plan.proofs.read.find_base.Goals as goal

pub returns-in_default : goal.returns-in_default
returns-in_default c = search (no_base, rules)

pub overflow_sub-end : goal.overflow_sub-end
overflow_sub-end c = let bytes : Bytes c.args.plan.now = λ i. omega (arith, c.type_inv.plan i) in
    search (base_four, bytes, rules)

pub slice_bounds-result-count : goal.slice_bounds-result-count
slice_bounds-result-count c = let bytes : Bytes c.args.plan.now = λ i. omega (arith, c.type_inv.plan i) in
    search (base_fits, bytes, rules)

pub slice_bounds-result-start : goal.slice_bounds-result-start
slice_bounds-result-start c = let bytes : Bytes c.args.plan.now = λ i. omega (arith, c.type_inv.plan i) in
    search (base_fits, bytes, rules)

pub slice_bounds-result-end-2 : goal.slice_bounds-result-end-2
slice_bounds-result-end-2 c = search (base_within, rules)

pub returns : goal.returns
returns c = let bytes : Bytes c.args.plan.now = λ i. omega (arith, c.type_inv.plan i) in
    search (base_found, bytes, rules)
