-- Each return is one test of the conjunction: the id, the two sets, and how they are used.
use Rattle.std.proofs.Common.{rules, ◌≡◌, ◌∙◌, sym, true, false}
use mathlib.Core.Bool.{true≢false}
use borrow.Author.Tests.{lt-leb}
use Rattle.lists.proofs.Tests.{conjunction}
use Rattle.rules.specs.Tables.{sound_zone}
use Rattle.zones.specs.View.{zone_in}
use Rattle.zones.proofs.Checking.{zone_within, side_within, id_high, id_low, used_last}
use Rattle.zones.proofs.sound.zone_sound.Goals as goal
use Rattle.zones.proofs.sound.zone_sound.Goals.{then-id_at-le-HIGHEST_ID, else-id_at-le-HIGHEST_ID, then-set_sound, else-set_sound}

pub set_sound-requires : goal.set_sound-requires
set_sound-requires c = search (zone_within, side_within, rules)

pub set_sound-requires-then-set_sound : goal.set_sound-requires-then-set_sound
set_sound-requires-then-set_sound c = search (zone_within, side_within, rules)

pub used_well-requires : goal.used_well-requires
used_well-requires c = search (zone_within, side_within, rules)

pub returns-then-set_sound-2 : goal.returns-then-set_sound-2
unfolding sound_zone zone_in
returns-then-set_sound-2 c =
    elim c.if-set_sound.branch [
      | then-set_sound w ↦
          (let e : w.set_sound-then-set_sound.result ≡ true = sym w.value-is ∙ c.if-set_sound-2.true in
          elim c.if-id_at-le-HIGHEST_ID.branch [
            | then-id_at-le-HIGHEST_ID v ↦
                (let f : v.set_sound.result ≡ true = sym v.value-is ∙ w.if-set_sound.true in
                search (used_last, conjunction, id_low) depth 12)
            | else-id_at-le-HIGHEST_ID v ↦
                absurd (true≢false (sym w.if-set_sound.true ∙ v.value-is ∙ lt-leb _ _ v.if-id_at-le-HIGHEST_ID.false))
          ])
      | else-set_sound w ↦ absurd (true≢false (sym c.if-set_sound-2.true ∙ w.value-is ∙ w.if-set_sound.false))
    ]

pub returns-else-set_sound-2 : goal.returns-else-set_sound-2
unfolding sound_zone zone_in
returns-else-set_sound-2 c =
    c.if-set_sound-2.false ∙ elim c.if-id_at-le-HIGHEST_ID.branch [
      | then-id_at-le-HIGHEST_ID v ↦
          elim c.if-set_sound.branch [
            | then-set_sound w ↦
                (let e : w.set_sound-then-set_sound.result ≡ false = sym w.value-is ∙ c.if-set_sound-2.false in
                let f : v.set_sound.result ≡ true = sym v.value-is ∙ w.if-set_sound.true in
                search (conjunction, id_low) depth 12)
            | else-set_sound w ↦
                (let f : v.set_sound.result ≡ false = sym v.value-is ∙ w.if-set_sound.false in
                search (conjunction, id_low) depth 12)
          ]
      | else-id_at-le-HIGHEST_ID v ↦ search (conjunction, id_high) depth 12
    ]
