-- One form of a pattern among those that differ only in how their sets of characters are kept: each set has one range
-- for each of its characters.
use Rattle.std.specs.Prelude.{ℕ, zero, suc, ◌+◌, ◌<◌, List, [], ◌∷◌, map, All, Bool, if◌then◌else◌}
use Rattle.char_sets.specs.Ranges.{in_set}
use Rattle.char_sets.specs.declared.char_set.CharRange.{CharRange}
use Rattle.pattern_defs.specs.declared.nodes.PatNode.{PatNode}
use Rattle.pattern_defs.specs.declared.nodes.PatNode.TheVariants.{One}
use Rattle.pattern_defs.specs.Patterns.{Tree}

-- each is the code of a character
abbrev pub AreCodes : List ℕ → Type 0
AreCodes text = All (λ c. c < 1_114_112) text

-- a range of one code
abbrev pub code : ℕ → CharRange
code c = record { first = c; last = c }

-- of so many codes from one on, those that pass the test
unfoldable pub codes_from : (from count : ℕ) → (ℕ → Bool) → List CharRange
codes_from from zero p = []
codes_from from (suc count) p =
    if p from then code from ∷ codes_from (from + 1) count p else codes_from (from + 1) count p

-- the codes of Unicode that pass the test. Nothing is to compute them: they may be a million.
unfoldable pub set_of : (ℕ → Bool) → List CharRange
set_of p = codes_from 0 1_114_112 p

-- the node with its set in that form, where it has one
abbrev pub canonical_node : PatNode → PatNode
canonical_node (One set) = One (set_of (in_set set))
canonical_node node = node

-- the pattern with each of its sets in that form
abbrev pub canonical : Tree → Tree
canonical tree = record tree { lists = map (λ nodes. map canonical_node nodes) tree.lists }
