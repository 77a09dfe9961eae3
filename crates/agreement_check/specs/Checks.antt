-- A test of finitely many places that the marks of two texts agree outside changes.
use Rattle.std.specs.Prelude.{◌≡◌, ℕ, ◌+◌, ◌-◌, ◌^◌, ◌==◌, ◌&&◌, ◌||◌, Bool, true, false, nat_lt, min, if◌then◌else◌}
use Rattle.std.specs.Prelude.{List, [], ◌∷◌, map, filter, Option, Some, None}
use Rattle.std.specs.List.{list_all}
use Rattle.text_pos.specs.declared.length.Length.{Length}
use Rattle.pairing_defs.specs.declared.Mark.{Mark}
use Rattle.bracket_marks.specs.MarkedLine.{MarkedLine, marks_in, text_end}
use Rattle.mark_source.specs.Source.{AreMarked}
use Rattle.tree_defs.specs.Ends.{fits, in_lines}
use Rattle.tree_defs.specs.Rows.{place}
use Rattle.change_defs.specs.declared.Change.{Change}
use Rattle.change_defs.specs.declared.Joint.{Joint}
use Rattle.change_defs.specs.declared.Placed.{Placed}
use Rattle.change_defs.specs.Changes.{is_less, carried, first_joint, is_inside, image_by, are_in_order, all_fit}
use Rattle.change_defs.specs.Agreement.{Marked, Agree, start_of, end_of, is_clear, is_uncut}
use Rattle.tree_defs.specs.Tree.{Tree}
use Rattle.reuse_defs.specs.Since.{Since}
use Rattle.reuse_defs.specs.Whole.{StandsFor}
use Rattle.reuse_parser.specs.Reusing.{AreShort}

-- what agreement sees of lines
abbrev pub marked_text : List MarkedLine → Marked
marked_text lines = record {
  marks = marks_in lines;
  lines = map (λ l. l.length) lines;
  end = record { lines = (text_end lines).line; cols = (text_end lines).col };
}

-- lines that a source may have, each of 32 bits
pub record AreSound (lines : List MarkedLine) : Type 0 where
  pub marked : AreMarked lines
  pub short : AreShort lines

-- ---- places between changes

-- the last place of a line that isn't behind the start of the next change, if there is one and it lies in this line
abbrev pub last_in : Option Length → ℕ → ℕ → Length
last_in None line len = record { lines = line; cols = len }
last_in (Some start) line len = record { lines = line; cols = if start.lines == line then min len start.cols else len }

-- the line lies behind that of the start of the next change
abbrev pub is_behind : Option Length → ℕ → Bool
is_behind None line = false
is_behind (Some start) line = nat_lt start.lines line

-- a length of 32 bits
abbrev pub is_narrow : ℕ → Bool
is_narrow len = nat_lt len (2 ^ 32)

-- a place of 32 bits that lies in a line of these lengths
abbrev pub has_place : List ℕ → Length → Bool
has_place lengths at = fits at && in_lines lengths at

-- the places of a line from a joint up to the start of the next change, if there are any, lie in new lines
abbrev pub line_keeps : Joint → Option Length → List ℕ → ℕ → ℕ → Bool
line_keeps joint next new line len = is_less (last_in next line len) joint.old || is_behind next line
    || has_place new (carried joint (last_in next line len))

abbrev pub lines_keep : Joint → Option Length → List ℕ → ℕ → List ℕ → Bool
lines_keep joint next new n [] = true
lines_keep joint next new n (len ∷ lens) = line_keeps joint next new n len && lines_keep joint next new (n + 1) lens

-- each place of an old line from a joint up to the start of the next change, both included, lies in a new line, carried by
-- that joint: from the first joint, and from the end of each change
abbrev pub places_keep : Joint → List ℕ → List ℕ → List Placed → Bool
places_keep joint old new [] = lines_keep joint None new 0 old
places_keep joint old new (p ∷ ps) = lines_keep joint (Some p.from.old) new 0 old && places_keep p.to old new ps

-- ---- marks and ends

-- a mark of 32 bits
abbrev pub mark_fits : Mark → Bool
mark_fits m = fits (end_of m)

abbrev pub moved_by : List Placed → Mark → Mark
moved_by ps m = record {
  at = place (image_by ps (start_of m));
  to = (image_by ps (start_of m)).cols + (m.to - m.at.col);
  role = m.role;
}

abbrev pub moved_marks : List Placed → List Mark → List Mark
moved_marks ps marks = map (moved_by ps) (filter (is_clear ps) marks)

-- two places are images of each other
pub record AreSameBy (ps back : List Placed) (old new : Length) : Type 0 where
  pub old_outside : is_inside ps old ≡ false
  pub new_outside : is_inside back new ≡ false
  pub there : image_by ps old ≡ new
  pub back_there : image_by back new ≡ old

-- the marks of two texts agree outside changes that lie at these places
pub record AgreeBy (ps back : List Placed) (old new : Marked) : Type 0 where
  pub old_uncut : list_all (is_uncut ps) old.marks ≡ true
  pub new_uncut : list_all (is_uncut back) new.marks ≡ true
  pub same : moved_marks ps old.marks ≡ filter (is_clear back) new.marks
  pub ends : AreSameBy ps back old.end new.end
  pub places : places_keep first_joint old.lines new.lines ps ≡ true
  pub starts : list_all (λ p. in_lines new.lines p.from.new) ps ≡ true

-- changes are in order, and outside them the marks of old and new lines agree
pub record AreAgreed (changes : List Change) (old new : List MarkedLine) : Type 0 where
  pub order : are_in_order changes ≡ true
  pub agree : Agree changes (marked_text old) (marked_text new)

-- changes that start and end at places of 32 bits in both texts aren't in order, or the marks don't agree outside them
abbrev pub IsRefused : List Change → List MarkedLine → List MarkedLine → Type 0
IsRefused changes old new = all_fit changes ≡ true → ¬ AreAgreed changes old new

-- a tree that stands for the old lines is one whose nodes a parse of the new lines may take
abbrev pub MayBeReused : List Change → List MarkedLine → List MarkedLine → Type 0
MayBeReused changes old new = (limit : ℕ) (t : Tree) → StandsFor limit t old → Since limit t changes new
