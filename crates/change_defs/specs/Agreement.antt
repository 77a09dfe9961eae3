-- When the marks of an old and a new text agree outside changes.
use Rattle.std.specs.Prelude.{◌≡◌, ℕ, ◌+◌, ◌-◌, ◌&&◌, ◌||◌, Bool, true, false, not, List, map, filter}
use Rattle.std.specs.List.{list_all}
use Rattle.text_pos.specs.declared.length.Length.{Length}
use Rattle.pairing_defs.specs.declared.Mark.{Mark}
use Rattle.tree_defs.specs.Ends.{in_lines}
use Rattle.tree_defs.specs.Rows.{place}
use Rattle.change_defs.specs.declared.Change.{Change}
use Rattle.change_defs.specs.declared.Placed.{Placed}
use Rattle.change_defs.specs.Changes.{is_less, placed, back, is_inside, image, origin}

-- ---- marks and changes

abbrev pub start_of : Mark → Length
start_of m = record { lines = m.at.line; cols = m.at.col }

abbrev pub end_of : Mark → Length
end_of m = record { lines = m.at.line; cols = m.to }

-- a mark of the old text ends at or before a change's start, or begins at or behind its end
abbrev pub is_clear_of : Placed → Mark → Bool
is_clear_of p m = not (is_less p.from.old (end_of m)) || not (is_less (start_of m) p.to.old)

-- a mark of the old text lies within a change, ends included
abbrev pub is_within : Placed → Mark → Bool
is_within p m = not (is_less (start_of m) p.from.old) && not (is_less p.to.old (end_of m))

-- a mark of the old text is clear of all changes
abbrev pub is_clear : List Placed → Mark → Bool
is_clear ps m = list_all (λ p. is_clear_of p m) ps

-- no change cuts a mark of the old text: each that it isn't clear of holds it
abbrev pub is_uncut : List Placed → Mark → Bool
is_uncut ps m = list_all (λ p. is_clear_of p m || is_within p m) ps

-- the mark of the new text that a mark is which is clear of all changes: it is as long and has the same role
abbrev pub moved : List Change → Mark → Mark
moved changes m = record {
  at = place (image changes (start_of m));
  to = (image changes (start_of m)).cols + (m.to - m.at.col);
  role = m.role;
}

-- the marks that are clear of all changes
abbrev pub clear_old : List Change → List Mark → List Mark
clear_old changes marks = filter (is_clear (placed changes)) marks

abbrev pub clear_new : List Change → List Mark → List Mark
clear_new changes marks = filter (is_clear (back changes)) marks

-- ---- texts

-- what agreement sees of a text: its marks in order, the lengths of its lines, and its length
pub record Marked : Type 0 where
  pub marks : List Mark
  pub lines : List ℕ
  pub end : Length

-- two places, one of each text, are images of each other
pub record AreSame (changes : List Change) (old new : Length) : Type 0 where
  pub old_outside : is_inside (placed changes) old ≡ false
  pub new_outside : is_inside (back changes) new ≡ false
  pub there : image changes old ≡ new
  pub back_there : origin changes new ≡ old

-- The marks of two texts agree outside changes: no change cuts a mark of either text; the marks that are clear of all
-- changes are the same, each at its image; so are the texts' ends; and the image of each old place that lies strictly
-- inside no change, and the start of each change, is in a line of the new text, at its end or before it.
pub record Agree (changes : List Change) (old new : Marked) : Type 0 where
  pub old_uncut : list_all (is_uncut (placed changes)) old.marks ≡ true
  pub new_uncut : list_all (is_uncut (back changes)) new.marks ≡ true
  pub same : map (moved changes) (clear_old changes old.marks) ≡ clear_new changes new.marks
  pub ends : AreSame changes old.end new.end
  pub places : (at : Length) → in_lines old.lines at ≡ true → is_inside (placed changes) at ≡ false
      → in_lines new.lines (image changes at) ≡ true
  pub starts : list_all (λ p. in_lines new.lines p.from.new) (placed changes) ≡ true
