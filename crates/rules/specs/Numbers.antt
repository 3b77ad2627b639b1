-- Why something is refused, as the document's number of it; and the number of an answer that may refuse, 0 where it does not.
use Rattle.std.specs.Prelude.{ℕ, Result, Ok, Err}
use Rattle.rules.specs.declared.refusal.Refusal.{Refusal}
use Rattle.rules.specs.declared.refusal.Refusal.TheVariants.{UnsoundConfig, UnsoundTable, NoRequest, ZoneIdTooHigh, ZoneThere, NoZone, ZonesFull, ZoneInUse, Form, Reach, NotConfigured, TooManyRights, OverGic, RegionThere}
use Rattle.rules.specs.declared.refusal.Refusal.TheVariants.{PhysicalOverlap, GuestOverlap, SetFull, NoRegion, NotCovered, Cut, Count, Trailing, OtherConfig, OtherEdition, NoNextEdition, OtherZones, RequestRefused, BufferShort, TooManyRequests, FalseClaim}

abbrev pub number : Refusal → ℕ
number UnsoundConfig = 1
number UnsoundTable = 2
number NoRequest = 3
number ZoneIdTooHigh = 4
number ZoneThere = 5
number NoZone = 6
number ZonesFull = 7
number ZoneInUse = 8
number Form = 9
number Reach = 10
number NotConfigured = 11
number TooManyRights = 19
number OverGic = 12
number RegionThere = 13
number PhysicalOverlap = 14
number GuestOverlap = 15
number SetFull = 16
number NoRegion = 17
number NotCovered = 18
number Cut = 20
number Count = 21
number Trailing = 22
number OtherConfig = 23
number OtherEdition = 24
number NoNextEdition = 25
number OtherZones = 26
number RequestRefused = 27
number BufferShort = 28
number TooManyRequests = 29
number FalseClaim = 30

abbrev pub code : {A : Type 0} → Result A Refusal → ℕ
code (Ok x) = 0
code (Err r) = number r
