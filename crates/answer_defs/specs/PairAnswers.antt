-- What is answered about the pairs of a text: filters of its rows, or the first or the last row that meets a condition.
-- The questions and their answers are this project's own; guides are those of VS Code's bracket pair guides.
use Rattle.std.specs.Prelude.{ℕ, suc, ◌+◌, ◌-◌, ◌*◌, ◌/◌, ◌==◌, List, [], ◌∷◌, length, map, filter, flat_map, reverse, slice_get, min, Bool, true, false, not, ◌&&◌, nat_lt, nat_le, if◌then◌else◌, Option, option_and_then}
use Rattle.std.specs.List.{find, range_with_len}
use Rattle.std.specs.Option.{option_or, option_map, is_some}
use Rattle.text_pos.specs.declared.length.Pos.{Pos}
use Rattle.text_pos.specs.declared.length.Span.{Span}
use Rattle.text_defs.specs.Text.{line_in}
use Rattle.text_defs.specs.Place.{is_before}
use Rattle.pairing_defs.specs.declared.Role.{Role}
use Rattle.pairing_defs.specs.declared.Role.TheVariants.{Opener, Closer}
use Rattle.pairing_defs.specs.declared.Row.{Row}
use Rattle.answer_defs.specs.declared.answer.MarkAt.{MarkAt}
use Rattle.answer_defs.specs.declared.pair_answer.PairRow.{PairRow}
use Rattle.answer_defs.specs.declared.pair_answer.GuideRow.{GuideRow}
use Rattle.answer_defs.specs.declared.pair_answer.Twin.{Twin}

-- ---- rows and places

-- the last row that meets a condition
abbrev pub find_last : (Row → Bool) → List Row → Option Row
find_last test rows = find test (reverse rows)

-- whether a place is at another or before it
abbrev pub is_up_to : Pos → Pos → Bool
is_up_to a b = not (is_before b a)

abbrev pub end_of : Row → Pos
end_of r = record { line = r.mark.at.line; col = r.mark.to }

abbrev pub span_of : Row → Span
span_of r = record { from = r.mark.at; to = end_of r }

abbrev pub mark_at : Row → MarkAt
mark_at r = record { line = r.mark.at.line; from = r.mark.at.col; to = r.mark.to }

abbrev pub opens : Role → Bool
opens (Opener kind) = true
opens (Closer kinds) = false

abbrev pub is_opener : Row → Bool
is_opener r = opens r.mark.role

-- the row of a row's partner
abbrev pub partner_of : List Row → Row → Option Row
partner_of rows r = option_and_then (slice_get rows) r.partner

abbrev pub twin : Row → Row → Twin
twin first second = record { first = span_of first; second = span_of second }

-- ---- the bracket at a place

abbrev pub stands_at : Pos → Row → Bool
stands_at at r = (r.mark.at.line == at.line) && (nat_le r.mark.at.col at.col && nat_lt at.col r.mark.to)

abbrev pub ends_at : Pos → Row → Bool
ends_at at r = (r.mark.at.line == at.line) && (r.mark.to == at.col)

-- the bracket that has its first or a further character behind a place, else the one that ends there
abbrev pub touched : Pos → List Row → Option Row
touched at rows = option_or (find (stands_at at) rows) (find (ends_at at) rows)

abbrev pub twin_of : List Row → Row → Option Twin
twin_of rows r = option_map (twin r) (partner_of rows r)

-- the bracket at a place and its partner
abbrev pub match_in : List Row → Pos → Option Twin
match_in rows at = option_and_then (twin_of rows) (touched at rows)

-- ---- pairs around a place

-- whether an opener ends at a place or before it, and its inside at the place or behind it
abbrev pub encloses : Pos → Row → Bool
encloses at r = is_opener r && (is_up_to (end_of r) at && is_up_to at r.inner)

-- how many pairs are open at a place, with those that nothing closes
abbrev pub level_in : List Row → Pos → ℕ
level_in rows at = length (filter (encloses at) rows)

abbrev pub encloses_closed : Pos → Row → Bool
encloses_closed at r = encloses at r && is_some r.partner

-- of the closed pairs around a place the one that opens last
abbrev pub around_in : List Row → Pos → Option Twin
around_in rows at = option_and_then (twin_of rows) (find_last (encloses_closed at) rows)

-- ---- where to jump

abbrev pub starts_from : Pos → Row → Bool
starts_from at r = is_up_to at r.mark.at

-- where the bracket starts that comes next
abbrev pub next_start : List Row → Pos → Option Pos
next_start rows at = option_map (λ r. r.mark.at) (find (starts_from at) rows)

abbrev pub second_start : Twin → Pos
second_start t = t.second.from

-- to the partner of the bracket at a place, else to the end of the closed pair around it, else to the next bracket
abbrev pub jump_in : List Row → Pos → Option Pos
jump_in rows at = option_or (option_map second_start (match_in rows at)) (option_or (option_map second_start (around_in rows at)) (next_start rows at))

-- ---- pairs of lines

-- whether a pair reaches into lines a to b: its opener isn't behind them, and its inside doesn't end before them
abbrev pub reaches_lines : ℕ → ℕ → Row → Bool
reaches_lines a b r = is_opener r && (nat_le r.mark.at.line b && nat_le a r.inner.line)

abbrev pub pair_row : List Row → Row → PairRow
pair_row rows r = record { opener = mark_at r; closer = option_map mark_at (partner_of rows r); level = r.level; own = r.own }

-- the pairs that reach into lines a to b, by opener; a pair's end is its closer, or the end of its inside
abbrev pub pairs_in : List Row → ℕ → ℕ → List PairRow
pairs_in rows a b = map (pair_row rows) (filter (reaches_lines a b) rows)

-- ---- guides

-- the next column that is a multiple of the width of tabs
abbrev pub tab_stop : ℕ → ℕ → ℕ
tab_stop tab column = (column / tab + 1) * tab

-- how far the spaces and tabs at the front of a line reach, from a column on
abbrev pub indentation_from : ℕ → ℕ → List ℕ → ℕ
indentation_from tab column [] = column
indentation_from tab column (c ∷ cs) =
    if c == 32 then indentation_from tab (column + 1) cs else if c == 9 then indentation_from tab (tab_stop tab column) cs else column

abbrev pub indentation : ℕ → List ℕ → ℕ
indentation tab line = indentation_from tab 0 line

abbrev pub indentation_of : ℕ → List (List ℕ) → ℕ → ℕ
indentation_of tab lines n = indentation tab (line_in lines n)

-- whether a line has a guide of a pair: it is behind the line of the opener and not behind that of the closer
abbrev pub has_guide : ℕ → Row → Bool
has_guide n r = is_opener r && (is_some r.partner && (nat_lt r.mark.at.line n && nat_le n r.inner.line))

-- a guide stands as far in as the lesser of the indentations of the opener's line and the closer's
abbrev pub guide_row : ℕ → List (List ℕ) → ℕ → Row → GuideRow
guide_row tab lines n r = record { line = n; column = min (indentation_of tab lines r.mark.at.line) (indentation_of tab lines r.inner.line); level = r.level }

-- the guides of line n, by level: of two pairs that both have one there, the outer one opens first
abbrev pub guides_of_line : ℕ → List (List ℕ) → List Row → ℕ → List GuideRow
guides_of_line tab lines rows n = map (guide_row tab lines n) (filter (has_guide n) rows)

-- the guides of lines a to b
abbrev pub guides_in : ℕ → List (List ℕ) → List Row → ℕ → ℕ → List GuideRow
guides_in tab lines rows a b = flat_map (guides_of_line tab lines rows) (range_with_len a (suc b - a))
