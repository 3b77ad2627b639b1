-- Sections of zones: a plan's is what the format writes of its zones, since the plan is what the format writes of all it says; and
-- the zones of a state that stands can be written.
use Prim.Native.Nat.{ℕ, ◌+◌}
use mathlib.Core.List.{List, [], ◌++◌, append-nil}
use mathlib.Core.Path.{◌≡◌, sym, ap, ◌∙◌}
use lib.ListN.{length, take, drop}
use lib.Seq.{take_at, drop_at, drop-drop}
use Rattle.lists.specs.Bytes.{Bytes}
use Rattle.formats.specs.Formats.{got, write_both}
use Rattle.rules.specs.Configuration.{config_of, StoredConfig}
use Rattle.rules.specs.Differing.{zones_bytes, zones_part, zones_of}
use Rattle.rules.specs.Limits.{Limits, Sayable}
use Rattle.rules.specs.Plan.{marks_section, regions_section, zones_section, requests_section, encode, read_plan, Plan}
use Rattle.rules.specs.Requests.{standing}
use Rattle.rules.specs.Sizes.{marks_size, regions_size, zones_size, zones_at}
use Rattle.rules.specs.Tables.{table_of, StoredTable}
use Rattle.rules.proofs.Plan.{no_slack, lawful_zones, spelled_zones}
use Rattle.rules.proofs.Planner.{zones_fit}
use Rattle.rules.proofs.Sizes.{sized_marks, sized_regions, sized_zones}
use Rattle.rules.proofs.Configuration.{passed}
use Rattle.rules.proofs.Stored.{stands_well}

module _ (l : Limits) where
  -- ---- a plan's
  encoded_zones : (p : Plan) → take (zones_size p.zones) (drop (zones_at l p) (encode l p)) ≡ (zones_section l).write p.zones
  unfolding encode write_both
  encoded_zones p =
      let m : List ℕ = (marks_section l).write p.marks in
      let r : List ℕ = (regions_section l).write p.regions in
      let z : List ℕ = (zones_section l).write p.zones in
      let q : List ℕ = (requests_section l).write p.asked in
      let a : drop (zones_at l p) (m ++ (r ++ (z ++ q))) ≡ z ++ q =
      sym (drop-drop (regions_size (length p.regions)) (marks_size l) (m ++ (r ++ (z ++ q))))
      ∙ ap (drop (regions_size (length p.regions))) (drop_at m (r ++ (z ++ q)) (marks_size l) (sized_marks l p.marks))
      ∙ drop_at r (z ++ q) (regions_size (length p.regions)) (sized_regions l p.regions) in
      ap (take (zones_size p.zones)) a ∙ take_at z q (zones_size p.zones) (sized_zones l p.zones)

  module _ (b : List ℕ) (p : Plan) (s : Bytes b) (e : read_plan l b ≡ got p []) where
    pub zones_of_law : zones_of l b ≡ (zones_section l).write p.zones
    unfolding zones_of zones_part
    zones_of_law =
        ap (zones_part l b) e
        ∙ ap (λ (v : List ℕ). take (zones_size p.zones) (drop (zones_at l p) v)) (no_slack l b p [] s e).0
        ∙ encoded_zones p

    pub zones_of_bytes : Bytes (zones_of l b)
    zones_of_bytes = rw zones_of_law (spelled_zones l p.zones)

    pub zones_of_reads : (zones_section l).read (zones_of l b) ≡ got p.zones []
    zones_of_reads =
        ap (zones_section l).read (zones_of_law ∙ sym (append-nil _))
        ∙ (lawful_zones l).back p.zones [] (no_slack l b p [] s e).1.1.1.0

  -- ---- a terminal's
  module _ (say : Sayable l) (c : StoredConfig) (t : StoredTable) (full : length c.records ≡ l.regions)
      (e : standing l c t ≡ 0) where
    pub zones_read_law : (zones_section l).read (zones_bytes l t) ≡ got (table_of t) []
    zones_read_law =
        ap (zones_section l).read (sym (append-nil (zones_bytes l t)))
        ∙ (lawful_zones l).back (table_of t) []
        (zones_fit l say (config_of c) (passed l c full (stands_well l c t e).0) (table_of t) (stands_well l c t e).1)

    pub zones_bytes_law : Bytes (zones_bytes l t)
    zones_bytes_law = spelled_zones l (table_of t)
