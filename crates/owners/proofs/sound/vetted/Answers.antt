-- Each return tells what the owners are the reason for, or that they are for nothing.
use borrow.Author.Rules.{rules}
use Rattle.owners.proofs.Stands.{told_early, told_unfit, told_own, told_fault, told_foreign}
use Rattle.owners.proofs.sound.vetted.Goals as goal

pub returns-in_default-clause-told : goal.returns-in_default-clause-told
returns-in_default-clause-told c = search (told_early, rules)

pub returns-then-not-owners_fit-clause-told : goal.returns-then-not-owners_fit-clause-told
returns-then-not-owners_fit-clause-told c =
    told_unfit _ _ _ _ _ c.in-Some.ensures.some.0 c.in-Some.ensures.some.1 _ c.owners_fit.ensures c.if-not-owners_fit.true

pub returns-then-holds_own-clause-told : goal.returns-then-holds_own-clause-told
returns-then-holds_own-clause-told c =
    told_own _ _ _ _ _ c.in-Some.ensures.some.0 c.in-Some.ensures.some.1 _ c.owners_fit.ensures c.if-not-owners_fit.false _ c.holds_own.ensures
    c.if-holds_own.true

pub returns-in-Sound-clause-told : goal.returns-in-Sound-clause-told
returns-in-Sound-clause-told c =
    told_foreign _ _ _ _ _ c.in-Some.ensures.some.0 c.in-Some.ensures.some.1 _ c.owners_fit.ensures c.if-not-owners_fit.false _ c.holds_own.ensures
    c.if-holds_own.false _ c.check_words.ensures c.in-Sound.is

pub returns-in_default-check_words : goal.returns-in_default-check_words
returns-in_default-check_words c = record {
  told =
      told_fault _ _ _ _ _ c.in-Some.ensures.some.0 c.in-Some.ensures.some.1 _ c.owners_fit.ensures c.if-not-owners_fit.false _ c.holds_own.ensures
      c.if-holds_own.false _ c.check_words.ensures c.in_default-check_words.not-Sound;
  same = tt;
}
