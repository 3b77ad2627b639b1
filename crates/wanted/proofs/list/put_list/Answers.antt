-- The four stretches, one behind the other.
use Rattle.std.proofs.Common.{rules}
use Rattle.puts.proofs.Pens.{wrote_whole}
use Rattle.wanted.proofs.Putting.{list_put}
use Rattle.wanted.proofs.list.put_list.Goals as goal

pub returns : goal.returns
returns c = let whole = list_put _ _ _ _ _ _ _ c.put_regions.ensures.wrote c.put_zones.ensures.wrote
    c.put_zones-2.ensures.wrote c.put_regions-2.ensures.wrote in
    search (wrote_whole, rules)
