-- Invariant: the zones below z are sound; and if the keys led to each region so far, they have the positions of their regions.
use Rattle.std.specs.Prelude.{◌≡◌, true}
use Rattle.zones.specs.Owners.{HasZones}
use Rattle.zones.specs.View.{config_in}
use Rattle.zones.proofs.Owning.{SoundBelow}
use Rattle.zones.proofs.sound.each_sound.Given as goal

abbrev pub invariant-loop-z : goal.invariant-loop-z
invariant-loop-z l = SoundBelow (config_in l.c.config.words.now) l.t l.z × (l.led ≡ true → HasZones (config_in l.c.config.words.now) l.t l.owners l.z)
