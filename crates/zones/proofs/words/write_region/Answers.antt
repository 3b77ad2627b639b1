-- Four stores one behind the other are the record's words at its place.
use native.Mathlib.Omega.{arith}
use borrow.Author.Rules.{rules}
use lib.ListN.{length-set}
use Rattle.zones.proofs.Records.{region_stored}
use Rattle.zones.proofs.words.write_region.Goals as goal

pub bounds-s-k-2 : goal.bounds-s-k-2
bounds-s-k-2 c = simp length-set (omega arith)

pub bounds-s-k-3 : goal.bounds-s-k-3
bounds-s-k-3 c = simp length-set (omega arith)

pub bounds-s-k-4 : goal.bounds-s-k-4
bounds-s-k-4 c = simp length-set (omega arith)

pub returns : goal.returns
returns c = search (region_stored, rules)
