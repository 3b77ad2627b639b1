-- What an agent that lends its state may count on, call after call.
use Rattle.plan.specs.Deliveries.{Calls, Faithful}
use Rattle.terminal.specs.Terminal.{Applies}

-- what `apply_in` says of a call, and of the three parts of a state the library's `peatmitten_apply_words`
abbrev pub Lent : Calls
Lent s b o u = Applies s b u o

-- such calls do what the rules say, as those by value do: the lent state is the one that the call before left
abbrev pub LendingIsFaithful : Type 0
LendingIsFaithful = Faithful Lent
