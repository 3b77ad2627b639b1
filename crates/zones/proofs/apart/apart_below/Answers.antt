use mathlib.Core.Bool.{true≢false}
use mathlib.Core.Path.{◌≡◌, sym}
use borrow.Author.Rules.{rules}
use Rattle.zones.proofs.QuickCheck.{end_fits_below, keys_start, met_start, key_on, key_pass, met_hit, met_pass}
use Rattle.zones.proofs.QuickCheck.{clear_met}
use Rattle.zones.specs.Spans.{position_of}
use Rattle.zones.proofs.apart.apart_below.Goals as goal

pub loop-key-init : goal.loop-key-init
loop-key-init c = (search rules, (search keys_start, search met_start))

pub returns-then-r-reached : goal.returns-then-r-reached
returns-then-r-reached c = λ e. absurd (true≢false (sym e))

pub overflow_add-reached : goal.overflow_add-reached
overflow_add-reached c = search (end_fits_below, rules)

pub loop-key-preserved-then-m-i : goal.loop-key-preserved-then-m-i
unfolding position_of
loop-key-preserved-then-m-i c =
    let e : c.position_of-i.result ≡ position_of c.args.keys.now c.loop-key.key-index = c.position_of-i.ensures in
    (search rules, (search (key_pass, rules), search (met_pass, rules)))

pub loop-key-preserved : goal.loop-key-preserved
unfolding position_of
loop-key-preserved c =
    let e : c.position_of-i.result ≡ position_of c.args.keys.now c.loop-key.key-index = c.position_of-i.ensures in
    (search rules, (search (key_on, rules), search (met_hit, rules)))

pub returns : goal.returns
returns c = search (clear_met, rules)
