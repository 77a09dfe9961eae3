-- A batch is a list of edits, each a span and a text for it. All spans are places of the text before the
-- batch, and all are replaced at once. That it is so, and the order of refusals, is this project's own.
use Rattle.std.specs.Prelude.{ℕ, suc, ◌-◌, ◌^◌, List, [], ◌∷◌, ◌++◌, length, min, Bool, true, false, not, ◌&&◌, ◌||◌, nat_lt, nat_le, take, drop, if◌then◌else◌, Option, Some, None}
use Rattle.text_pos.specs.declared.length.Pos.{Pos}
use Rattle.text_pos.specs.declared.length.Span.{Span}
use Rattle.text_defs.specs.Text.{norm, line_count, most_chars, most_lines}
use Rattle.text_defs.specs.Place.{holds, offset_of, is_before}

-- an edit: these characters take the place of the span
pub record TextEdit : Type 0 where
  pub span : Span
  pub text : List ℕ

-- why a batch is refused: the number of the edit, or the number of characters or lines that there would be
pub data BatchRefusal : Type 0 where
  range : ℕ → BatchRefusal
  order : ℕ → BatchRefusal
  too_many_chars : ℕ → BatchRefusal
  too_many_lines : ℕ → BatchRefusal

-- both places exist, and the end isn't before the start
abbrev pub is_in_range : List ℕ → TextEdit → Bool
is_in_range text e = holds text e.span.from && holds text e.span.to && not (is_before e.span.to e.span.from)

-- the edit is the first, or starts at or behind the end of the one before
abbrev pub is_in_order : Option Pos → TextEdit → Bool
is_in_order None e = true
is_in_order (Some end) e = not (is_before e.span.from end)

-- a refusal of edit n, else what the later edits have
abbrev pub first_fault : Bool → Bool → ℕ → Option BatchRefusal → Option BatchRefusal
first_fault in_range in_order n later = if in_range then (if in_order then later else Some (order n)) else Some (range n)

-- the first edit from number n on that is out of range or out of order
abbrev pub edit_fault : List ℕ → Option Pos → ℕ → List TextEdit → Option BatchRefusal
edit_fault text before n [] = None
edit_fault text before n (e ∷ es) = first_fault (is_in_range text e) (is_in_order before e) n (edit_fault text (Some e.span.to) (suc n) es)

-- the text from an offset on, with each span replaced by its edit's text, whose line ends become LFs
abbrev pub replaced : List ℕ → ℕ → List TextEdit → List ℕ
replaced text at [] = drop at text
replaced text at (e ∷ es) = take (offset_of text e.span.from - at) (drop at text) ++ (norm e.text ++ replaced text (offset_of text e.span.to) es)

-- the text after a batch
abbrev pub edited : List ℕ → List TextEdit → List ℕ
edited text es = replaced text 0 es

-- a count that is kept in 64 bits stays at the largest number there
abbrev pub counted : ℕ → ℕ
counted n = min n (2 ^ 64 - 1)

abbrev pub size_fault : List ℕ → Option BatchRefusal
size_fault text = if nat_lt most_chars (length text) then Some (too_many_chars (counted (length text)))
    else (if nat_lt most_lines (line_count text) then Some (too_many_lines (counted (line_count text))) else None)

-- a fault of an edit comes before one of the new text
abbrev pub or_else : Option BatchRefusal → Option BatchRefusal → Option BatchRefusal
or_else None other = other
or_else (Some fault) other = Some fault

-- why the batch is refused, and None where it is valid
abbrev pub batch_refusal : List ℕ → List TextEdit → Option BatchRefusal
batch_refusal text es = or_else (edit_fault text None 0 es) (size_fault (edited text es))

-- whether a span's first to last line holds the line
abbrev pub is_touched : ℕ → List TextEdit → Bool
is_touched n [] = false
is_touched n (e ∷ es) = (nat_le e.span.from.line n && nat_le n e.span.to.line) || is_touched n es
