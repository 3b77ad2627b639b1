use native.Mathlib.Omega.{arith}
use Rattle.lists.proofs.First.{from_zero}
use Rattle.zones.proofs.Finding.{some_found, none_found}
use Rattle.zones.proofs.Records.{records_many, record_read, record_hit, record_on, record_end}
use Rattle.zones.specs.Records.{records_at}
use Rattle.zones.proofs.words.find_record.Goals as goal

pub loop-i-init : goal.loop-i-init
loop-i-init g c = λ p told. from_zero p (records_at c.args.s.now c.args.b c.args.n)

pub returns-then-is : goal.returns-then-is
returns-then-is g c = λ p told.
    let r = record_read _ _ _ _ c.read_region.ensures in
    some_found p (records_at c.args.s.now c.args.b c.args.n) c.loop-i.i
    (record_hit c.args.s.now c.args.b c.args.n c.loop-i.i _ p _ _ (c.loop-i.invariant p told) c.loop-i-test.true r
    (told _ _ c.is.ensures) c.if-is.true)
    (omega (arith, records_many c.args.s.now c.args.b c.args.n))

pub loop-i-preserved : goal.loop-i-preserved
loop-i-preserved g c = λ p told.
    let r = record_read _ _ _ _ c.read_region.ensures in
    record_on c.args.s.now c.args.b c.args.n c.loop-i.i _ p _ _ (c.loop-i.invariant p told) c.loop-i-test.true r
    (told _ _ c.is.ensures) c.if-is.false

pub returns : goal.returns
returns g c = λ p told.
    let end = record_end c.args.s.now c.args.b c.args.n c.loop-i.i _ p (c.loop-i.invariant p told) c.loop-i-test.false in
    none_found p (records_at c.args.s.now c.args.b c.args.n) c.loop-i.i end
    (omega (arith, records_many c.args.s.now c.args.b c.args.n))
