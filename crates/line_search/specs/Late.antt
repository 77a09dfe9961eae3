-- The end pattern that is kept, and the text that it is of.
use Rattle.std.specs.Prelude.{◌≡◌, ℕ, List, Option, option_and_then}
use Rattle.canonical_patterns.specs.ReadTrees.{read_tree}
use Rattle.line_defs.specs.Search.{OfEnd, choice_of}
use Rattle.line_search.specs.declared.late.LateEnd.TheInside.{Inside}

abbrev pub text_of : Inside → Option (List ℕ)
text_of late = late.text

-- the pattern is that of the text
abbrev pub IsLateEnd : Inside → Type 0
IsLateEnd late = late.choices ≡ choice_of OfEnd (option_and_then read_tree late.text)
