-- Each return is one rule: C3 of an owner or of a record, C7, or what the first machine's check found.
use Rattle.owners.proofs.Checking.{owner_only, owner_before, record_before, record_only, wrong_told, none_wrong}
use Rattle.owners.proofs.owned.Owned.check.Goals as goal

pub returns-in-Some-None : goal.returns-in-Some-None
returns-in-Some-None c = owner_only _ _ c.args.self.now.ranged _ c.requires _ _ _ c.count.ensures c.first_unfit.ensures c.used_record.ensures _ c.in-Some-None.is-0 c.in-Some-None.is-1

pub returns-in-Some-Some : goal.returns-in-Some-Some
returns-in-Some-Some c =
    owner_before _ _ c.args.self.now.ranged _ c.requires _ _ _ c.count.ensures c.first_unfit.ensures c.used_record.ensures _ _ c.in-Some-Some.is-0 c.in-Some-Some.is-1 c.if-owner-record.true

pub returns-in-Some : goal.returns-in-Some
returns-in-Some c =
    wrong_told _ _ c.args.self.now.ranged _ c.requires _ _ _ c.count.ensures c.first_unfit.ensures c.used_record.ensures c.in-None-None.is-0 c.in-None-None.is-1 _ c.first_wrong.ensures _ c.in-Some.is

pub returns-in-None : goal.returns-in-None
returns-in-None c =
    none_wrong _ _ c.args.self.now.ranged _ c.requires _ _ _ c.count.ensures c.first_unfit.ensures c.used_record.ensures c.in-None-None.is-0 c.in-None-None.is-1 _ c.first_wrong.ensures c.in-None.is

pub returns-in_default-Some : goal.returns-in_default-Some
returns-in_default-Some c =
    record_before _ _ c.args.self.now.ranged _ c.requires _ _ _ c.count.ensures c.first_unfit.ensures c.used_record.ensures _ _ c.in-Some-Some.is-0 c.in-Some-Some.is-1 c.if-owner-record.false

pub returns-in_default-Some-2 : goal.returns-in_default-Some-2
returns-in_default-Some-2 c = record_only _ _ c.args.self.now.ranged _ c.requires _ _ _ c.count.ensures c.first_unfit.ensures c.used_record.ensures _ c.in_default-Some.is-0 c.in_default-Some.is-1
