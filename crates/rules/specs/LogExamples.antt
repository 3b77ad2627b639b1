-- Logs by computation: their bytes, the first false claim of each kind, and the order of the numbers. The requests add
-- zone 5, zone 5 again, and zone 6; so the rules answer 0, 5 and 0, and the refused one stops nothing.
use Rattle.std.specs.Prelude.{ℕ, ◌-◌, List, [], ◌∷◌, ◌++◌, ◌≡◌, length, take, replicate}
use Rattle.rules.specs.Applying.{last_edition, plain, answer_alone}
use Rattle.rules.specs.Desk.{G, whole_plan}
use Rattle.rules.specs.Fields.{region_size}
use Rattle.rules.specs.Limits.{limits}
use Rattle.rules.specs.Logs.{claimless, false_claim, encode_log, check_log, Log}
use Rattle.rules.specs.Plan.{Asked}
use Rattle.rules.specs.Regions.{no_region}
use Rattle.rules.specs.Tables.{empty_zone, Zone}
use Rattle.rules.specs.WriterExamples.{sevens}
use Rattle.rules.specs.declared.LogAnswer.{LogAnswer}

abbrev pub adding : ℕ → Asked
adding id = record { kind = 1; zone = id; region = no_region }

-- a log of these requests, at an edition that has no next one
abbrev pub log_of : ℕ → List Zone → List ℕ → Log
log_of gic zones claims = record {
  plan = record {
    marks = record { gic = gic; edition = last_edition };
    regions = G ∷ [];
    zones = zones;
    asked = adding 5 ∷ adding 5 ∷ adding 6 ∷ [];
  };
  claims = claims;
}

-- one whose claims hold, byte by byte: marks, regions, zones, requests from 56 on, claims from 180 on
abbrev pub spelled_log : List ℕ
spelled_log =
    3 ∷ 0 ∷ 0 ∷ 0 ∷ 0 ∷ 0 ∷ 0 ∷ 0 ∷ 255 ∷ 255 ∷ 255 ∷ 255 ∷ 3 ∷ 0 ∷ 0 ∷ 0
    ∷ 1 ∷ 0 ∷ 0 ∷ 0
    ∷ 0 ∷ 0 ∷ 0 ∷ 8 ∷ 0 ∷ 0 ∷ 0 ∷ 0
    ∷ 0 ∷ 0 ∷ 0 ∷ 8 ∷ 0 ∷ 0 ∷ 0 ∷ 0
    ∷ 0 ∷ 0 ∷ 1 ∷ 0 ∷ 0 ∷ 0 ∷ 0 ∷ 0
    ∷ 3 ∷ 0 ∷ 0 ∷ 0 ∷ 0 ∷ 0 ∷ 0 ∷ 0
    ∷ 0 ∷ 0 ∷ 0 ∷ 0
    ∷ 3 ∷ 0 ∷ 0 ∷ 0
    ∷ 1 ∷ 0 ∷ 0 ∷ 0 ∷ 5 ∷ 0 ∷ 0 ∷ 0 ∷ (replicate region_size 0
    ++ (1 ∷ 0 ∷ 0 ∷ 0 ∷ 5 ∷ 0 ∷ 0 ∷ 0 ∷ (replicate region_size 0
    ++ (1 ∷ 0 ∷ 0 ∷ 0 ∷ 6 ∷ 0 ∷ 0 ∷ 0 ∷ (replicate region_size 0
    ++ (3 ∷ 0 ∷ 0 ∷ 0 ∷ 0 ∷ 0 ∷ 0 ∷ 0 ∷ 5 ∷ 0 ∷ 0 ∷ 0 ∷ 0 ∷ 0 ∷ 0 ∷ 0 ∷ []))))))

-- zones 5 and 6 without regions, as a section
abbrev pub end_zones : List ℕ
end_zones =
    2 ∷ 0 ∷ 0 ∷ 0
    ∷ 5 ∷ 0 ∷ 0 ∷ 0 ∷ 0 ∷ 0 ∷ 0 ∷ 0 ∷ 0 ∷ 0 ∷ 0 ∷ 0
    ∷ 6 ∷ 0 ∷ 0 ∷ 0 ∷ 0 ∷ 0 ∷ 0 ∷ 0 ∷ 0 ∷ 0 ∷ 0 ∷ 0 ∷ []

-- an answer, each of its numbers written out: number, place, inner number, and what was claimed
abbrev pub told : ℕ → ℕ → ℕ → ℕ → LogAnswer
told number place inner claimed = record {
  outcome = record { number = number; place = place; inner = inner };
  claimed = claimed;
}

-- what is answered, and the whole buffer afterwards
abbrev pub Checks : List ℕ → List ℕ → LogAnswer → List ℕ → Type 0
Checks b w a v = check_log limits b w ≡ record { answer = a; buffer = v }

-- a log with other claims, and no room in the buffer
abbrev pub Claims : List ℕ → LogAnswer → Type 0
Claims ns a = Checks (encode_log limits (log_of 0 [] ns)) [] a []

-- the claim: the bytes; all hold, and the end zones stand in the buffer before what lay behind; 28 where a byte is
-- missing. False: that a refused request was accepted, that an accepted one was refused, and another number than the
-- rules'; each before 28, and the first of them. 21 for a claim too few and one too many, 20 for one that is cut, 22 for
-- a byte after them. 1 and 2 before a false claim. A plan is no log, and a log no plan
abbrev pub LogsShown : Type 0
LogsShown =
    (encode_log limits (log_of 0 [] (0 ∷ 5 ∷ 0 ∷ [])) ≡ spelled_log)
    × Checks spelled_log (sevens 30) (claimless (plain 0 (length end_zones))) (end_zones ++ sevens 2)
    × Checks spelled_log (sevens 27) (claimless (plain 28 0)) (sevens 27)
    × Claims (0 ∷ 0 ∷ 0 ∷ []) (false_claim 1 0 5)
    × Claims (0 ∷ 5 ∷ 7 ∷ []) (false_claim 2 7 0)
    × Claims (0 ∷ 6 ∷ 9 ∷ []) (false_claim 1 6 5)
    × Claims (0 ∷ 5 ∷ []) (claimless (plain 21 180))
    × Claims (0 ∷ 5 ∷ 0 ∷ 0 ∷ []) (claimless (plain 21 180))
    × Checks (take (length spelled_log - 1) spelled_log) [] (claimless (plain 20 192)) []
    × Checks (spelled_log ++ 0 ∷ []) [] (claimless (plain 22 196)) []
    × Checks (encode_log limits (log_of 1 [] (9 ∷ 5 ∷ 0 ∷ []))) [] (claimless (plain 1 0)) []
    × Checks (encode_log limits (log_of 0 (empty_zone 256 ∷ []) (9 ∷ 5 ∷ 0 ∷ []))) [] (claimless (plain 2 0)) []
    × Checks whole_plan [] (claimless (plain 21 12)) []
    × (answer_alone limits spelled_log ≡ plain 21 12)

-- the same answers, number by number
abbrev pub LogsTold : Type 0
LogsTold =
    (encode_log limits (log_of 0 [] (0 ∷ 5 ∷ 0 ∷ [])) ≡ spelled_log)
    × Checks spelled_log (sevens 30) (told 0 (length end_zones) 0 0) (end_zones ++ sevens 2)
    × Checks spelled_log (sevens 27) (told 28 0 0 0) (sevens 27)
    × Claims (0 ∷ 0 ∷ 0 ∷ []) (told 30 1 5 0)
    × Claims (0 ∷ 5 ∷ 7 ∷ []) (told 30 2 0 7)
    × Claims (0 ∷ 6 ∷ 9 ∷ []) (told 30 1 5 6)
    × Claims (0 ∷ 5 ∷ []) (told 21 180 0 0)
    × Claims (0 ∷ 5 ∷ 0 ∷ 0 ∷ []) (told 21 180 0 0)
    × Checks (take (length spelled_log - 1) spelled_log) [] (told 20 192 0 0) []
    × Checks (spelled_log ++ 0 ∷ []) [] (told 22 196 0 0) []
    × Checks (encode_log limits (log_of 1 [] (9 ∷ 5 ∷ 0 ∷ []))) [] (told 1 0 0 0) []
    × Checks (encode_log limits (log_of 0 (empty_zone 256 ∷ []) (9 ∷ 5 ∷ 0 ∷ []))) [] (told 2 0 0 0) []
    × Checks whole_plan [] (told 21 12 0 0) []
    × (answer_alone limits spelled_log ≡ plain 21 12)
