use Rattle.std.proofs.Common.{rules}
use Rattle.lists.specs.Tests.{all_of}
use Rattle.storage.specs.Beside.{judged_before}
use Rattle.storage.proofs.judged_before.Goals as goal

pub returns : goal.returns
unfolding judged_before all_of
returns c = search rules
