-- Overlap is a shared address: the laws of the rules, as they stand.
use Rattle.rules.proofs.Addresses.{overlap_shared, overlap_symmetric, none_covered}
use Rattle.promises.specs.Addresses.{OverlapIsShared, OverlapIsSymmetric, EmptyCoversNothing}

pub overlap_is_shared : OverlapIsShared
overlap_is_shared = overlap_shared

pub overlap_is_symmetric : OverlapIsSymmetric
overlap_is_symmetric = overlap_symmetric

pub empty_covers_nothing : EmptyCoversNothing
empty_covers_nothing = none_covered
