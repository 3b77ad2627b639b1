-- Pieces, by computation on the definitions.
use mathlib.Core.Path.{refl}
use Rattle.lists.specs.Rules.{first_rule}
use Rattle.rules.specs.PieceExamples.{PiecesShown}
use Rattle.rules.specs.Receiving.{is_over, stored_in, fitting, grown}

pub pieces_shown : PiecesShown
unfolding first_rule is_over stored_in fitting grown
pieces_shown = record {
  filled = refl;
  none = refl;
  most = refl;
  one = refl;
  two = refl;
  beyond = refl;
  stored = refl;
  fits = refl;
  last = refl;
  over = refl;
  stays = refl;
}
