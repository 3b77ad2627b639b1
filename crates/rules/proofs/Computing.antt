-- What an example that is shown by computation opens: to unfold one of
-- these names is to unfold every definition on its line.
use mathlib.Core.List.{flat_map}
use Rattle.lists.specs.Bytes.{little, bytes_of}
use Rattle.lists.specs.First.{first_index, first_from, any, all}
use Rattle.lists.specs.Pairs.{pairwise}
use Rattle.lists.specs.Places.{places, tab}
use Rattle.lists.specs.Room.{room, remove_at}
use Rattle.lists.specs.Rules.{first_rule}
use Rattle.lists.specs.Tests.{all_of, each_two}
use Rattle.formats.specs.Formats.{when, then, read_number, read_both, write_both, start_at, read_as, read_many, write_many}
use Rattle.formats.specs.Formats.{read_with, read_headed, read_count, within, write_headed, at_end, read_file}
use Rattle.rules.specs.Addresses.{overlaps}
use Rattle.rules.specs.Applying.{same_list, same_zone, same_config, judged_rules, judged, moved, settled, apply_read}
use Rattle.rules.specs.Applying.{base_rules, apply_read_by, apply_by, apply}
use Rattle.rules.specs.Changes.{region_set, with_side, put_set, added, pushed, cut, dropped}
use Rattle.rules.specs.Configuration.{gic_of, config_of, position_rules, check_rules, check, is_sound}
use Rattle.rules.specs.Limits.{page_of}
use Rattle.rules.specs.Fields.{numbers_of}
use Rattle.rules.specs.OwnedPlan.{read_owned, same_owned}
use Rattle.rules.specs.Owners.{owned_of, used_at, right_owner, owned_check_rules, owned_check, is_owned_sound, owner_of}
use Rattle.rules.specs.Owners.{may_hold, holds_own, owned_sound, owned_check_table, stranger, eleven_too, owned_rules}
use Rattle.rules.specs.Owners.{owned_refusal, owned_next, owned_standing_rules}
use Rattle.rules.specs.Plan.{read_plan, encode}
use Rattle.rules.specs.Regions.{well_formed, in_reach, region_eq}
use Rattle.rules.specs.Requests.{holds_any, on_gic, forbidden, add_rules, remove_zone_rules, region_rules, set_rules}
use Rattle.rules.specs.Requests.{insert_rules, remove_rules, kind_rules, no_request, request_rules, refusal, after}
use Rattle.rules.specs.Requests.{next, answers, standing_rules}
use Rattle.rules.specs.Run.{make_kind, make_request, run_by, run_from, ended}
use Rattle.rules.specs.Tables.{side_of, configured, excessive, clash, sound_set, sound_zone, zones_apart, sound, set_of, zone_of}
use Rattle.rules.specs.Tables.{table_of, rest_zero, zero_set, tidy_zone, zero_zone, tidy, check_table}
use Rattle.rules.specs.Translation.{covers_guest, covering_in, phys_in, remaining_in, translation_rules, translated_as}

-- lists, tests and rules; regions
unfoldable pub list_parts : Unit {0}
unfolding all_of each_two first_rule first_index first_from any all pairwise remove_at room places tab flat_map
list_parts = tt

unfoldable pub region_parts : Unit {0}
unfolding list_parts numbers_of well_formed in_reach region_eq overlaps page_of
region_parts = tt

-- the two checks
unfoldable pub check_parts : Unit {0}
unfolding region_parts check check_rules position_rules is_sound config_of gic_of
check_parts = tt

unfoldable pub table_parts : Unit {0}
unfolding check_parts sound sound_zone sound_set excessive zones_apart configured clash side_of with_side check_table tidy tidy_zone
    zero_zone zero_set rest_zero table_of zone_of set_of standing_rules
table_parts = tt

-- requests and what they leave; translation
unfoldable pub request_parts : Unit {0}
unfolding region_parts answers next refusal after request_rules kind_rules no_request add_rules remove_zone_rules insert_rules
    region_rules set_rules remove_rules holds_any on_gic excessive forbidden configured clash gic_of added dropped pushed cut put_set
    region_set with_side side_of make_request make_kind
request_parts = tt

unfoldable pub translation_parts : Unit {0}
unfolding region_parts translated_as translation_rules phys_in remaining_in covering_in covers_guest region_set side_of
translation_parts = tt

-- plans: read, written, and applied
unfoldable pub reading_parts : Unit {0}
unfolding read_plan read_file at_end read_headed read_count within read_many read_both read_as start_at read_number when then
    little all_of
reading_parts = tt

unfoldable pub writing_parts : Unit {0}
unfolding encode numbers_of write_both write_many write_headed bytes_of
writing_parts = tt

unfoldable pub applying_parts : Unit {0}
unfolding table_parts request_parts reading_parts apply apply_read settled moved judged judged_rules same_config same_zone
    same_list run_from ended
applying_parts = tt

-- terminals with owners
unfoldable pub owned_parts : Unit {0}
unfolding applying_parts read_owned read_with apply_by apply_read_by owned_of used_at right_owner owned_check_rules owned_check
    is_owned_sound owner_of may_hold holds_own owned_sound owned_check_table stranger eleven_too owned_rules owned_refusal owned_next
    owned_standing_rules same_owned base_rules run_by
owned_parts = tt
