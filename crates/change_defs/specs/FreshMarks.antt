-- How many marks are fresh after changes: the new ones, and those of the old pairs that the changes meet or touch.
use Rattle.std.specs.Prelude.{ℕ, ◌+◌, ◌*◌, ◌&&◌, Bool, false, not, List, count_by, slice_get, Option, Some, None}
use Rattle.std.specs.List.{list_any}
use Rattle.pairing_defs.specs.declared.Role.{Role}
use Rattle.pairing_defs.specs.declared.Role.TheVariants.{Opener, Closer}
use Rattle.pairing_defs.specs.declared.Mark.{Mark}
use Rattle.pairing_defs.specs.declared.Row.{Row}
use Rattle.change_defs.specs.declared.Change.{Change}
use Rattle.change_defs.specs.declared.Placed.{Placed}
use Rattle.change_defs.specs.Changes.{is_less, placed, back}
use Rattle.change_defs.specs.Agreement.{start_of, end_of, is_clear}

-- an opener starts at or before a change's old end, and its closer ends at or behind the change's start
abbrev pub meets_pair : Mark → Mark → Placed → Bool
meets_pair opener closer p = not (is_less p.to.old (start_of opener)) && not (is_less (end_of closer) p.from.old)

-- a pair meets or touches a change
abbrev pub is_met : List Placed → Mark → Mark → Bool
is_met ps opener closer = list_any (meets_pair opener closer) ps

abbrev pub is_met_with : List Placed → Mark → Option Row → Bool
is_met_with ps opener None = false
is_met_with ps opener (Some closer) = is_met ps opener closer.mark

abbrev pub is_met_by : List Placed → List Row → Mark → Option ℕ → Bool
is_met_by ps rows opener None = false
is_met_by ps rows opener (Some partner) = is_met_with ps opener (slice_get rows partner)

abbrev pub is_met_opener : List Placed → List Row → Row → Role → Bool
is_met_opener ps rows r (Opener kind) = is_met_by ps rows r.mark r.partner
is_met_opener ps rows r (Closer kinds) = false

-- a row is that of the opener of a closed pair that meets or touches a change
abbrev pub is_met_row : List Placed → List Row → Row → Bool
is_met_row ps rows r = is_met_opener ps rows r r.mark.role

-- how many old closed pairs meet or touch a change
abbrev pub met_pairs : List Row → List Change → ℕ
met_pairs rows changes = count_by (is_met_row (placed changes) rows) rows

-- how many new marks aren't clear of the changes
abbrev pub new_marks : List Mark → List Change → ℕ
new_marks marks changes = count_by (λ m. not (is_clear (back changes) m)) marks

-- the marks that are new, and both marks of each pair that meets or touches a change
abbrev pub fresh : List Row → List Mark → List Change → ℕ
fresh old_rows marks changes = new_marks marks changes + 2 * met_pairs old_rows changes
