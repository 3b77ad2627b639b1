-- What is stored: a configuration in its words, and an owner for each of its records beside them.
use Rattle.std.specs.Prelude.{ℕ, List}
use Rattle.rules.specs.Owners.{owned_of, Owned, StoredOwned}
use Rattle.zones.specs.View.{stored_config}

abbrev pub stored_owned : List ℕ → List ℕ → StoredOwned
stored_owned c o = record { config = stored_config c; owners = o }

-- the configuration with owners that is stored
abbrev pub owned_in : List ℕ → List ℕ → Owned
owned_in c o = owned_of (stored_owned c o)
