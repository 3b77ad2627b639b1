-- A zone that is not sound ends the loop; past the end each zone is, and what the keys led to tells of any two.
use Rattle.std.proofs.Common.{rules, ℕ, ◌+◌, List, ◌∙◌}
use mathlib.Core.Bool.{true≢false}
use mathlib.Core.Path.{sym, subst}
use Rattle.std.specs.declared.option.Option.{Option}
use Rattle.zones.specs.Owners.{HasZones}
use Rattle.zones.specs.View.{config_in}
use Rattle.zones.proofs.Owning.{zones_none, zones_more, sound_none, sound_more, sound_every, sound_stops, zone_configured, owned_apart}
use Rattle.zones.proofs.sound.each_sound.Goals as goal
use Rattle.zones.proofs.sound.each_sound.Goals.{then-led, else-led}

pub loop-z-init : goal.loop-z-init
loop-z-init c = (sound_none _ _, (λ e. zones_none _ _ _))

pub zone_sound-requires : goal.zone_sound-requires
zone_sound-requires c = (
  search rules,
  (λ e.
      elim c.if-led.branch [
        | then-led w ↦
            zone_configured c.args.c.now.config.words.now c.args.c.now.config.sound _ _ _ (w.own_zone-led.ensures.1 (sym w.led-is ∙ e))
        | else-led w ↦ absurd (true≢false (sym e ∙ w.led-is ∙ w.if-led.false))
      ]),
)

pub returns-then-not-zone_sound-clause-none : goal.returns-then-not-zone_sound-clause-none
returns-then-not-zone_sound-clause-none c =
    sound_stops _ _ _ _ _ c.loop-z-test.true c.zone_count-z-end.ensures c.zone_sound.ensures c.if-not-zone_sound.true

pub loop-z-preserved : goal.loop-z-preserved
loop-z-preserved c = (
  sound_more _ _ _ _ c.loop-z.invariant.0 c.zone_sound.ensures c.if-not-zone_sound.false,
  (λ e.
      elim c.if-led.branch [
        | then-led w ↦
            subst (λ (o : List (Option ℕ)). HasZones (config_in c.args.c.now.config.words.now) c.args.t.now o (c.loop-z.z + 1))
            (sym w.owners-is)
            (zones_more _ _ _ _ _ (c.loop-z.invariant.1 w.if-led.true) w.own_zone-led.ensures.0
            (w.own_zone-led.ensures.1 (sym w.led-is ∙ e)))
        | else-led w ↦ absurd (true≢false (sym e ∙ w.led-is ∙ w.if-led.false))
      ]),
)

pub returns-clause-some : goal.returns-clause-some
returns-clause-some c = (
  sound_every _ _ _ _ c.loop-z.invariant.0 c.zone_count-z-end.ensures c.loop-z-test.false,
  (λ e. owned_apart c.args.c.now.config.words.now c.args.c.now.config.sound _ _ _ _ c.zone_count-z-end.ensures c.loop-z-test.false (c.loop-z.invariant.1 e)),
)
