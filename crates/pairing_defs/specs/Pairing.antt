-- Pairing: one pass over the marks of a text with a list of open entries. A closer takes the last open entry
-- that it closes, as in VS Code's bracketPairsTree; the limit on nesting and the colours are this project's own.
use Rattle.std.specs.Prelude.{ℕ, ◌+◌, ◌%◌, ◌==◌, List, [], ◌∷◌, ◌++◌, length, count_by, nat_le, if◌then◌else◌, Option, Some, None}
use Rattle.text_pos.specs.declared.length.Pos.{Pos}
use Rattle.text_pos.specs.declared.kinds.Kinds.{Kinds}
use Rattle.text_pos.specs.KindSet.{has_kind}
use Rattle.pairing_defs.specs.declared.Role.{Role}
use Rattle.pairing_defs.specs.declared.Role.TheVariants.{Opener, Closer}
use Rattle.pairing_defs.specs.declared.Mark.{Mark}
use Rattle.pairing_defs.specs.declared.Row.{Row}
use Rattle.pairing_defs.specs.declared.TheConstants.{COLOURS}

-- an open entry: the number of its opener's row, and its kind
pub record Entry : Type 0 where
  pub row : ℕ
  pub kind : ℕ

-- before a mark: how many rows there are, and the open entries, the last opened first
pub record Open : Type 0 where
  pub rows : ℕ
  pub entries : List Entry

-- a mark that has a row: its levels, and of a closer the number of the row that it closes
pub record Placed : Type 0 where
  pub mark : Mark
  pub level : ℕ
  pub own : ℕ
  pub closes : Option ℕ

-- how many entries are of a kind
abbrev pub of_kind : ℕ → List Entry → ℕ
of_kind kind entries = count_by (λ e. e.kind == kind) entries

-- the last open entry of one of these kinds and all before it; none where there is no such entry
abbrev pub from_last : Kinds → List Entry → List Entry
from_last kinds [] = []
from_last kinds (e ∷ below) = if has_kind kinds e.kind then e ∷ below else from_last kinds below

-- An opener where `limit` entries are open is text and has no row. Any other is at the level of the entries
-- open before it.
abbrev pub opener_row : ℕ → Open → Mark → ℕ → List Placed
opener_row limit state m kind = if nat_le limit (length state.entries) then []
    else record { mark = m; level = length state.entries; own = of_kind kind state.entries; closes = None } ∷ []

abbrev pub after_opener : ℕ → Open → ℕ → Open
after_opener limit state kind = if nat_le limit (length state.entries) then state
    else record { rows = state.rows + 1; entries = record { row = state.rows; kind = kind } ∷ state.entries }

-- A closer takes the levels of the last open entry that it closes. That entry and all after it are no longer
-- open. A closer of no open entry is unexpected: its level is the number of open entries.
abbrev pub closer_row : Open → Mark → List Entry → Placed
closer_row state m [] = record { mark = m; level = length state.entries; own = 0; closes = None }
closer_row state m (e ∷ below) = record { mark = m; level = length below; own = of_kind e.kind below; closes = Some e.row }

abbrev pub left_open : List Entry → List Entry → List Entry
left_open entries [] = entries
left_open entries (e ∷ below) = below

abbrev pub rows_by : ℕ → Open → Mark → Role → List Placed
rows_by limit state m (Opener kind) = opener_row limit state m kind
rows_by limit state m (Closer kinds) = closer_row state m (from_last kinds state.entries) ∷ []

abbrev pub open_by : ℕ → Open → Role → Open
open_by limit state (Opener kind) = after_opener limit state kind
open_by limit state (Closer kinds) = record { rows = state.rows + 1; entries = left_open state.entries (from_last kinds state.entries) }

-- the marks that have rows, in order
abbrev pub placed_from : ℕ → Open → List Mark → List Placed
placed_from limit state [] = []
placed_from limit state (m ∷ ms) = rows_by limit state m m.role ++ placed_from limit (open_by limit state m.role) ms

-- the open entries behind these marks
abbrev pub open_after : ℕ → Open → List Mark → Open
open_after limit state [] = state
open_after limit state (m ∷ ms) = open_after limit (open_by limit state m.role) ms

abbrev pub nothing_open : Open
nothing_open = record { rows = 0; entries = [] }

-- the row of a closer with a partner: its number, where its mark starts, and the row that it closes
pub record Removal : Type 0 where
  pub row : ℕ
  pub start : Pos
  pub closes : ℕ

abbrev pub removal_by : ℕ → ℕ → Placed → Option ℕ → Option Removal → Option Removal
removal_by n next p None later = later
removal_by n next p (Some closed) later =
    if nat_le closed n then Some (record { row = next; start = p.mark.at; closes = closed }) else later

-- of the rows from number `next` on, the first that closes row n or one before it: with it row n is no longer open
abbrev pub removal_of : ℕ → ℕ → List Placed → Option Removal
removal_of n next [] = None
removal_of n next (p ∷ ps) = removal_by n next p p.closes (removal_of n (next + 1) ps)

-- the row that closes row n, if one does
abbrev pub closer_of : ℕ → Option Removal → Option ℕ
closer_of n None = None
closer_of n (Some r) = if r.closes == n then Some r.row else None

-- where the inside of an opener ends: at the closer that ends its being open, or at the text's end
abbrev pub inner_end : Pos → Option Removal → Pos
inner_end end None = end
inner_end end (Some r) = r.start

-- the level modulo the number of colours, and that number where there is no partner
abbrev pub colour_of : ℕ → Option ℕ → ℕ
colour_of level None = COLOURS
colour_of level (Some partner) = level % COLOURS

abbrev pub row_by : Placed → Option ℕ → Pos → Row
row_by p partner inner = record { mark = p.mark; level = p.level; own = p.own; colour = colour_of p.level partner; partner = partner; inner = inner }

-- row n, from its mark and the rows behind it
abbrev pub row_of : Pos → ℕ → Placed → Role → Option Removal → Row
row_of end n p (Opener kind) removal = row_by p (closer_of n removal) (inner_end end removal)
row_of end n p (Closer kinds) removal = row_by p p.closes p.mark.at

-- the rows from number n on
abbrev pub rows_from : Pos → ℕ → List Placed → List Row
rows_from end n [] = []
rows_from end n (p ∷ ps) = row_of end n p p.mark.role (removal_of n (n + 1) ps) ∷ rows_from end (n + 1) ps

-- the rows of a text's marks, at a nesting limit and with the place of the text's end
abbrev pub paired : ℕ → Pos → List Mark → List Row
paired limit end marks = rows_from end 0 (placed_from limit nothing_open marks)
