-- The length comes from where the list ends in no bytes; then 29, 28, or it is put.
use Rattle.std.proofs.Common.{◌≡◌, [], length, arith, rules, subst}
use Rattle.puts.specs.Filling.{fill_in}
use Rattle.puts.specs.Puts.{Put}
use Rattle.rules.specs.Wanted.{requests_for, records_of}
use Rattle.zones.specs.View.{zones_in}
use Rattle.wanted.proofs.Filling.{fill_many, fill_none, fill_some}
use Rattle.wanted.proofs.fill.Goals as goal

pub returns-then-count-gt-MOST : goal.returns-then-count-gt-MOST
returns-then-count-gt-MOST c =
    let qs = requests_for (zones_in c.args.from.now) (zones_in c.args.to.now) in
    let measured : Put [] 0 (records_of qs) c.put-length.new.b c.put-length.result = search rules in
    let long : c.put-length.result ≡ length (records_of qs) = omega (arith, measured.end) in
    fill_many qs _ _ long c.if-count-gt-MOST.true

pub returns-in_default : goal.returns-in_default
returns-in_default c =
    let qs = requests_for (zones_in c.args.from.now) (zones_in c.args.to.now) in
    let measured : Put [] 0 (records_of qs) c.put-length.new.b c.put-length.result = search rules in
    let long : c.put-length.result ≡ length (records_of qs) = omega (arith, measured.end) in
    let filled = c.fill_measured.ensures (records_of qs) (record { at = λ s n v h. search rules }) long in
    fill_none qs _ _ long c.if-count-gt-MOST.false _
    (subst (λ r. fill_in (records_of qs) c.args.buffer.now r c.fill_measured.new.buffer) c.in_default.is filled)

pub returns : goal.returns
returns c =
    let qs = requests_for (zones_in c.args.from.now) (zones_in c.args.to.now) in
    let measured : Put [] 0 (records_of qs) c.put-length.new.b c.put-length.result = search rules in
    let long : c.put-length.result ≡ length (records_of qs) = omega (arith, measured.end) in
    let filled = c.fill_measured.ensures (records_of qs) (record { at = λ s n v h. search rules }) long in
    fill_some qs _ _ long c.if-count-gt-MOST.false _ _
    (subst (λ r. fill_in (records_of qs) c.args.buffer.now r c.fill_measured.new.buffer) c.in-Some.is filled)
