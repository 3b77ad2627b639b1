-- No word past the count is set; or the first record that is used is found where records are read one by one.
use Rattle.std.proofs.Common.{rules, ◌≡◌, true, false}
use borrow.Author.Tests.{tests}
use Rattle.std.proofs.lemmas.Iterator.{first_from_Range}
use Rattle.rules.specs.Limits.{most_regions}
use Rattle.rules.specs.Regions.{used, no_region}
use Rattle.zones.specs.Layout.{config_records}
use Rattle.zones.specs.Records.{record_at, records_at}
use Rattle.zones.proofs.ConfigCheck.{none_used}
use Rattle.zones.proofs.Ranges.{none_found, some_found}
use Rattle.zones.proofs.config.first_used.Goals as goal

pub returns-then-zeros_in-clause-none : goal.returns-then-zeros_in-clause-none
returns-then-zeros_in-clause-none c = search (none_used, rules)

pub returns-clause-none : goal.returns-clause-none
unfolding records_at
returns-clause-none c =
    none_found (record_at c.args.c.now config_records) no_region most_regions c.args.n used _
    (first_from_Range _ _ _ _ (λ i. used (record_at c.args.c.now config_records i) ≡ true) (λ i. used (record_at c.args.c.now config_records i) ≡ false)
    c.find.ensures.ran (λ x q k. search (rules, tests)) (λ x q k. search (rules, tests)))

pub returns-clause-some : goal.returns-clause-some
unfolding records_at
returns-clause-some c =
    some_found (record_at c.args.c.now config_records) no_region most_regions c.args.n used _
    (first_from_Range _ _ _ _ (λ i. used (record_at c.args.c.now config_records i) ≡ true) (λ i. used (record_at c.args.c.now config_records i) ≡ false)
    c.find.ensures.ran (λ x q k. search (rules, tests)) (λ x q k. search (rules, tests)))
