-- Laws of what a node adds to a list of nodes, one that is made anew and one of an old tree.
use Rattle.std.specs.Prelude.{◌≡◌, ℕ, ◌<◌, ◌≤◌, ◌^◌, ◌&&◌, List, ◌∷◌, length, true, false, IsTrue, Some}
use Rattle.text_pos.specs.declared.length.Length.{Length}
use Rattle.text_pos.specs.declared.kinds.Kinds.{Kinds}
use Rattle.text_pos.specs.KindSet.{has_kind}
use Rattle.text_pos.specs.Lengths.{plus, IsLess}
use Rattle.pairing_defs.specs.declared.Role.TheVariants.{Opener, Closer}
use Rattle.pairing_defs.specs.declared.Mark.{Mark}
use Rattle.bracket_marks.specs.MarkedLine.{MarkedLine}
use Rattle.tree_defs.specs.Tree.{Tree, Text, Lone, Pair}
use Rattle.tree_defs.specs.Shape.{length_of, Fits}
use Rattle.tree_defs.specs.Items.{IsOpener}
use Rattle.change_defs.specs.declared.Change.{Change}
use Rattle.reuse_parser.specs.declared.place.Around.{Around}
use Rattle.reuse_parser.specs.Parsing.{start_of, end_of, size_of, next_start, role_has, IsWithin}
use Rattle.reuse_defs.specs.Since.{Since}
use Rattle.reuse_parser.specs.Reusing.{ahead_of, IsIn, IsFound, AreShort, Adds, Fills}

-- the text up to the next mark
abbrev pub TextAdds : Type 0
TextAdds = (lines : List MarkedLine) (a : Around) (at len : Length) → IsIn lines a at → a.level ≤ a.limit
    → IsLess at (next_start a.end (ahead_of lines at)) → plus at len ≡ next_start a.end (ahead_of lines at)
    → Fits (next_start a.end (ahead_of lines at))
    → Adds lines a at (Text len false) (next_start a.end (ahead_of lines at))

-- an opener that is met at the nesting limit
abbrev pub CutAdds : Type 0
CutAdds = (lines : List MarkedLine) (a : Around) (m : Mark) → IsIn lines a (start_of m)
    → ahead_of lines (start_of m) ≡ m ∷ ahead_of lines (end_of m) → a.level ≤ a.limit → a.limit ≤ a.level
    → IsOpener m.role → Fits (end_of m) → Adds lines a (start_of m) (Text (size_of m) true) (end_of m)

-- a closer of nothing that is open around it
abbrev pub LoneAdds : Type 0
LoneAdds = (lines : List MarkedLine) (a : Around) (m : Mark) (kinds : Kinds) → IsIn lines a (start_of m)
    → ahead_of lines (start_of m) ≡ m ∷ ahead_of lines (end_of m) → a.level ≤ a.limit → m.role ≡ Closer kinds
    → ¬ ((k : ℕ) × IsTrue (has_kind kinds k && has_kind a.above k)) → Fits (end_of m)
    → Adds lines a (start_of m) (Lone (size_of m) kinds) (end_of m)

-- a pair whose inside is filled up to its closer
abbrev pub PairAdds : Type 0
PairAdds = (lines : List MarkedLine) (a b : Around) (m : Mark) (kind : ℕ) (t : Tree) (to : Length) (c : Mark)
    → IsIn lines a (start_of m) → ahead_of lines (start_of m) ≡ m ∷ ahead_of lines (end_of m)
    → a.level < a.limit → m.role ≡ Opener kind → IsWithin a kind b → IsIn lines b to
    → Fills lines b (end_of m) t to
    → to ≡ start_of c → ahead_of lines to ≡ c ∷ ahead_of lines (end_of c) → role_has c.role kind ≡ true
    → Fits (end_of c) → Adds lines a (start_of m) (Pair (size_of m) kind t (Some (size_of c))) (end_of c)

-- A node of an old tree that is found at the old place of a place: it ends before the next change, and can be reused
-- below the pairs around. It stands there for marks of the new text.
abbrev pub FoundAdds : Type 0
FoundAdds = (lines : List MarkedLine) (a : Around) (at : Length) (old : Tree) (changes : List Change) (t : Tree)
    → IsIn lines a at → Since a.limit old changes lines → AreShort lines → length lines ≤ 2 ^ 32 → Fits at
    → IsFound old changes a at t → Adds lines a at t (plus at (length_of t))
