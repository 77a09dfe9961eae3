-- The canonical form of a pattern that was read from a text is told by the text.
use Rattle.std.proofs.Common.{◌≡◌, ◌≢◌, ℕ, List, [], ◌∷◌, map, drop, refl, ap, sym, ◌∙◌}
use Rattle.std.specs.Prelude.{Bool, Option, Some, None, Result, Ok, Err}
use Rattle.char_sets.specs.declared.char_set.CharRange.{CharRange}
use Rattle.char_sets.specs.Ranges.{in_set}
use Rattle.pattern_defs.specs.declared.nodes.ListId.{ListId}
use Rattle.pattern_defs.specs.declared.nodes.PatNode.{PatNode}
use Rattle.pattern_defs.specs.declared.nodes.PatNode.TheVariants as nodes
use Rattle.pattern_defs.specs.Patterns.{NodeLists, Tree}
use Rattle.syntax_defs.specs.declared.items.Item.{Item}
use Rattle.syntax_defs.specs.declared.items.Item.TheVariants.{One, At, Choice, Group, Repeat, Ahead, Behind, Atomic}
use Rattle.syntax_defs.specs.declared.items.Item.TheVariants.{Back}
use Rattle.syntax_defs.specs.declared.refusal.PatternRefusal.{PatternRefusal}
use Rattle.syntax_defs.specs.declared.refusal.PatternRefusal.TheVariants as refusals
use Rattle.syntax_defs.specs.Reading.{Fault, Read, Fails}
use Rattle.syntax_defs.specs.Singles.{single_at}
use Rattle.syntax_defs.specs.PatternSyntax.{Parsed}
use Rattle.syntax_defs.specs.PatternMeaning.{IsSetRead, FitsItem, FitsItems, FitsLists, IsReadAs}
use Rattle.syntax_defs.specs.Lengths.{lengths_of, read_pattern}
use Rattle.canonical_patterns.specs.Canonical.{set_of, canonical_node, canonical}
use Rattle.canonical_patterns.specs.ReadTrees.{set_read, node_of, tree_of, tree_by, tree_read}
use Rattle.onig_parse.specs.Reading.{GivesPattern}
use Rattle.canonical_laws.proofs.CodeSets.{set_of-same}

set_read-canonical : (set : List CharRange) (r : Result (Read (ℕ → Bool)) Fault) → IsSetRead set r →
    set_of (in_set set) ≡ set_read r
set_read-canonical set (Ok read) is = set_of-same (in_set set) read.value is
set_read-canonical set (Err fault) is = absurd is

module _ (text : List ℕ) (parsed : Parsed) (lengths : List (Option ℕ)) where
  node_of-canonical : (node : PatNode) (item : Item) → FitsItem text parsed lengths node item →
      canonical_node node ≡ node_of text parsed lengths item
  node_of-canonical (nodes.One set) (One at options depth) fits =
      ap (λ ranges. nodes.One ranges) (set_read-canonical set (single_at options depth at (drop at text)) fits)
  node_of-canonical (nodes.At anchor) (At wanted) fits = cc
  node_of-canonical (nodes.Choice ids) (Choice wanted) fits = cc
  node_of-canonical (nodes.Group number body) (Group n id) fits = cc
  node_of-canonical (nodes.Repeat body least most greedy) (Repeat id m n g) fits = cc
  node_of-canonical (nodes.Ahead body wanted) (Ahead id w) fits = cc
  node_of-canonical (nodes.Behind arms wanted) (Behind at ids w) fits = cc
  node_of-canonical (nodes.Atomic body) (Atomic id) fits = cc
  node_of-canonical (nodes.Back number fold) (Back at target f) fits =
      rw fits.0 (ap (λ b. nodes.Back number b) fits.1)
  node_of-canonical node item fits = absurd fits

  items-canonical : (some : List PatNode) (items : List Item) → FitsItems text parsed lengths some items →
      map canonical_node some ≡ map (node_of text parsed lengths) items
  items-canonical [] [] fits = refl
  items-canonical [] (item ∷ items) fits = absurd fits
  items-canonical (node ∷ some) [] fits = absurd fits
  items-canonical (node ∷ some) (item ∷ items) fits =
      ap (λ first. first ∷ map canonical_node some) (node_of-canonical node item fits.0)
      ∙ ap (λ rest. node_of text parsed lengths item ∷ rest) (items-canonical some items fits.1)

  lists-canonical : (trees : NodeLists) (lists : List (List Item)) → FitsLists text parsed lengths trees lists →
      map (λ some. map canonical_node some) trees ≡ map (λ items. map (node_of text parsed lengths) items) lists
  lists-canonical [] [] fits = refl
  lists-canonical [] (items ∷ lists) fits = absurd fits
  lists-canonical (some ∷ trees) [] fits = absurd fits
  lists-canonical (some ∷ trees) (items ∷ lists) fits =
      ap (λ first. first ∷ map (λ other. map canonical_node other) trees) (items-canonical some items fits.0)
      ∙ ap (λ rest. map (node_of text parsed lengths) items ∷ rest) (lists-canonical trees lists fits.1)

abbrev tree_with : NodeLists → ListId → ℕ → Tree
tree_with lists top groups = record { lists = lists; top = top; groups = groups }

tree-same : (tree other : Tree) → tree.lists ≡ other.lists → tree.top ≡ other.top → tree.groups ≡ other.groups
    → tree ≡ other
tree-same tree other lists top groups =
    ap (λ x. tree_with x tree.top tree.groups) lists ∙ ap (λ x. tree_with other.lists x tree.groups) top
    ∙ ap (λ x. tree_with other.lists other.top x) groups

pub tree_of-canonical : (text : List ℕ) (tree : Tree) (parsed : Parsed) → IsReadAs text tree (Ok parsed) →
    canonical tree ≡ tree_of text parsed
tree_of-canonical text tree parsed stands =
    tree-same (canonical tree) (tree_of text parsed)
    (lists-canonical text parsed (lengths_of parsed.lists) tree.lists parsed.lists stands.lists) stands.top
    stands.groups

-- ---- what a reader answers

tree_by-canonical : (text : List ℕ) (tree : Tree) (r : Result Parsed Fault) → IsReadAs text tree r →
    tree_by text r ≡ Some (canonical tree)
tree_by-canonical text tree (Ok parsed) stands = ap Some (sym (tree_of-canonical text tree parsed stands))
tree_by-canonical text tree (Err fault) stands = absurd stands

pub tree_read-canonical : (text : List ℕ) (tree : Tree) → GivesPattern text (Ok tree) (read_pattern text) →
    tree_read text ≡ Some (canonical tree)
tree_read-canonical text tree gives = tree_by-canonical text tree (read_pattern text) gives

tree_by-refused : (text : List ℕ) (refusal : PatternRefusal) (r : Result Parsed Fault) →
    refusal ≢ refusals.Memory → Fails refusal r → tree_by text r ≡ None
tree_by-refused text (refusals.Syntax at) r other fails = ap (tree_by text) fails
tree_by-refused text (refusals.LeftOut at) r other fails = ap (tree_by text) fails
tree_by-refused text (refusals.TooDeep depth) r other fails = ap (tree_by text) fails
tree_by-refused text (refusals.TooLong count) r other fails = ap (tree_by text) fails
tree_by-refused text refusals.Memory r other fails = absurd (other refl)

pub tree_read-refused : (text : List ℕ) (refusal : PatternRefusal) → refusal ≢ refusals.Memory →
    GivesPattern text (Err refusal) (read_pattern text) → tree_read text ≡ None
tree_read-refused text refusal other gives = tree_by-refused text refusal (read_pattern text) other gives
