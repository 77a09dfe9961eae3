-- How many marks are unsettled, and by how much a count may rise.
use Rattle.std.specs.Prelude.{◌≡◌, ℕ, ◌+◌, ◌≤◌, Bool, true, false, List, length, count_by, Option, Some, None}
use Rattle.std.specs.List.{list_all}
use Rattle.pairing_defs.specs.declared.Row.{Row}
use Rattle.pairing_defs.specs.Pairing.{paired}
use Rattle.bracket_marks.specs.MarkedLine.{MarkedLine, marks_in, text_end}
use Rattle.tree_defs.specs.Tree.{Tree}
use Rattle.change_defs.specs.declared.Change.{Change}
use Rattle.change_defs.specs.FreshMarks.{fresh}
use Rattle.reuse_defs.specs.Since.{Since}
use Rattle.reuse_defs.specs.Settled.{is_unsettled}

-- the rows of a text's marks
abbrev pub rows_of : ℕ → List MarkedLine → List Row
rows_of limit lines = paired limit (text_end lines) (marks_in lines)

-- each mark of a text has a row: no opener is met at the limit
abbrev pub NoneCut : ℕ → List MarkedLine → Type 0
NoneCut limit lines = length (rows_of limit lines) ≡ length (marks_in lines)

abbrev pub has_partner : Option ℕ → Bool
has_partner None = false
has_partner (Some row) = true

-- each mark of a text has a row with a partner
pub record AllPaired (limit : ℕ) (lines : List MarkedLine) : Type 0 where
  pub rows : NoneCut limit lines
  pub partners : list_all (λ r. has_partner r.partner) (rows_of limit lines) ≡ true

-- how many marks of a new text are unsettled
abbrev pub unsettled : Tree → List Change → List MarkedLine → ℕ
unsettled t changes lines = count_by (is_unsettled t changes) (marks_in lines)

-- where each old mark has a row with a partner, at most so many marks are unsettled as are fresh
abbrev pub FreshLaw : Type 0
FreshLaw = (limit : ℕ) (t : Tree) (changes : List Change) (lines : List MarkedLine) (s : Since limit t changes lines)
    → AllPaired limit s.old
    → unsettled t changes lines ≤ fresh (rows_of limit s.old) (marks_in lines) changes

-- Where each old mark has a row with a partner and no opener of the new text is cut, a count rises by at most as many as
-- marks are fresh.
abbrev pub RisesByFresh : ℕ → Tree → List Change → List MarkedLine → ℕ → ℕ → Type 0
RisesByFresh limit t changes lines before after = (s : Since limit t changes lines) → AllPaired limit s.old
    → NoneCut limit lines → after ≤ before + fresh (rows_of limit s.old) (marks_in lines) changes
