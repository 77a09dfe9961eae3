-- The pattern of a text: what is read from it, item by item.
use Rattle.std.specs.Prelude.{ℕ, List, [], map, drop, chars, Option, Some, None, unwrap_or, Bool, Result, Ok, Err}
use Rattle.char_sets.specs.declared.char_set.CharRange.{CharRange}
use Rattle.pattern_defs.specs.declared.nodes.PatNode.{PatNode}
use Rattle.pattern_defs.specs.declared.nodes.PatNode.TheVariants as nodes
use Rattle.pattern_defs.specs.Patterns.{Tree}
use Rattle.syntax_defs.specs.declared.items.Item.{Item}
use Rattle.syntax_defs.specs.declared.items.Item.TheVariants.{One, At, Choice, Group, Repeat, Ahead, Behind, Atomic}
use Rattle.syntax_defs.specs.declared.items.Item.TheVariants.{Back}
use Rattle.syntax_defs.specs.Reading.{Fault, Read}
use Rattle.syntax_defs.specs.Singles.{single_at}
use Rattle.syntax_defs.specs.PatternSyntax.{Parsed}
use Rattle.syntax_defs.specs.PatternMeaning.{arm_of}
use Rattle.syntax_defs.specs.Lengths.{lengths_of, group_of, read_pattern}
use Rattle.canonical_patterns.specs.Canonical.{set_of}

-- the set of a single item that is read
abbrev pub set_read : Result (Read (ℕ → Bool)) Fault → List CharRange
set_read (Ok read) = set_of read.value
set_read (Err fault) = []

-- the node of an item
abbrev pub node_of : (text : List ℕ) → Parsed → (lengths : List (Option ℕ)) → Item → PatNode
node_of text parsed lengths (One at options depth) = nodes.One (set_read (single_at options depth at (drop at text)))
node_of text parsed lengths (At anchor) = nodes.At anchor
node_of text parsed lengths (Choice ids) = nodes.Choice ids
node_of text parsed lengths (Group number body) = nodes.Group number body
node_of text parsed lengths (Repeat body least most greedy) = nodes.Repeat body least most greedy
node_of text parsed lengths (Ahead body wanted) = nodes.Ahead body wanted
node_of text parsed lengths (Behind at arms wanted) = nodes.Behind (map (arm_of lengths) arms) wanted
node_of text parsed lengths (Atomic body) = nodes.Atomic body
node_of text parsed lengths (Back at target fold) = nodes.Back (unwrap_or (group_of text parsed target) 0) fold

abbrev pub tree_of : (text : List ℕ) → Parsed → Tree
tree_of text parsed = record {
  lists = map (λ items. map (node_of text parsed (lengths_of parsed.lists)) items) parsed.lists;
  top = parsed.top;
  groups = parsed.groups;
}

abbrev pub tree_by : (text : List ℕ) → Result Parsed Fault → Option Tree
tree_by text (Ok parsed) = Some (tree_of text parsed)
tree_by text (Err fault) = None

-- the pattern of a text of characters, where it can be read
abbrev pub tree_read : List ℕ → Option Tree
tree_read text = tree_by text (read_pattern text)

-- the same of a text in UTF-8
abbrev pub read_tree : List ℕ → Option Tree
read_tree bytes = tree_read (chars bytes)
