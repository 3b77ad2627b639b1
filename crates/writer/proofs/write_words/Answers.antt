-- 25 by the edition; 1, 2, 29 and 27 by the run that is tried; 28 or 0 by filling.
use mathlib.Core.List.{[]}
use borrow.Author.Rules.{rules}
use Rattle.writer.proofs.Writing.{writes_none, writes_refused, tried_stands, tried_few, writes_filled}
use Rattle.writer.specs.Writer.{plan_in}
use Rattle.writer.proofs.write_words.Goals as goal

pub returns-then-edition : goal.returns-then-edition
returns-then-edition c = search (writes_none, rules)

pub returns-then-tried-ne0 : goal.returns-then-tried-ne0
returns-then-tried-ne0 c = search (writes_refused, rules)

pub fill_buffer-requires : goal.fill_buffer-requires
fill_buffer-requires c = let tried = c.try_in-tried.ensures in
    let below = c.if-edition.false in
    let c' = c.args.config.now in
    let t' = c.args.table.now in
    let r' = c.args.requests.now in
    let stands = tried_stands c' t' _ r' [] _ tried.0 _ tried.1 below (search rules) in
    let few = tried_few c' t' _ r' [] _ tried.0 _ tried.1 below (search rules) in
    search rules

pub returns : goal.returns
returns c = let filled = c.fill_buffer.ensures (plan_in c.args.config.now c.try_in-tried.new.t c.args.edition c.args.requests.now) (record { at = λ s n v h. search rules }) in
    search (writes_filled, rules)
