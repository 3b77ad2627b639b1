-- The order of the table to which the worked out requests lead.
use Rattle.std.specs.Prelude.{ℕ, not, List, ◌++◌, ◌≡◌}
use Rattle.lists.specs.Orders.{keep}
use Rattle.rules.specs.Changes.{region_set}
use Rattle.rules.specs.Configuration.{config_of, StoredConfig}
use Rattle.rules.specs.Limits.{Limits}
use Rattle.rules.specs.Requests.{find, present, held_in}
use Rattle.rules.specs.Run.{run}
use Rattle.rules.specs.Tables.{Zone}
use Rattle.rules.specs.Wanted.{ids_of, absent, requests_for}
use Rattle.rules.specs.declared.Region.{Region}
use Rattle.rules.specs.declared.Side.{Side}
use Rattle.promises.specs.Tables.{SoundUnder}

-- first the zones that both tables have, as the first has them, then the added ones, as the wanted table has them; and
-- so the regions in each set
pub record InOrder (t w v : List Zone) : Type 0 where
  pub zones : ids_of v ≡ keep (λ (id : ℕ). present id w) (ids_of t) ++ keep (absent t) (ids_of w)
  pub sets : (id : ℕ) (side : Side)
      → region_set v (find id v) side
      ≡ keep (λ (r : Region). held_in r (region_set w (find id w) side)) (region_set t (find id t) side)
      ++ keep (λ (r : Region). not (held_in r (region_set t (find id t) side))) (region_set w (find id w) side)

abbrev pub ListOrders : Limits → Type 0
ListOrders l =
    (s : StoredConfig) (t w : List Zone) → SoundUnder l s t → SoundUnder l s w
    → InOrder t w (run l (config_of s) t (requests_for t w)).table
