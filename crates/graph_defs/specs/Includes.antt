-- Which rule an include stands for, by its number. `$self` and `$base` are those of TextMate grammars; which
-- other names are known is this project's own.
use Rattle.std.specs.Prelude.{ℕ, ◌+◌, ◌==◌, ◌||◌, List, [], ◌∷◌, codes, Bool, Option, Some, None, option_and_then}
use Rattle.std.specs.Prelude.{if◌then◌else◌}
use Rattle.std.specs.Str.{bytes_eq}
use Rattle.grammar_defs.specs.FileRules.{Grammar, NamedRule}
use Rattle.grammar_defs.specs.GrammarShape.{rules_of_list, rules_of_rule}

-- the number of the first rule of the repository: the top is rule 0, and the rules in its `patterns` follow
abbrev pub repository_from : Grammar → ℕ
repository_from g = 1 + rules_of_list g.patterns

-- the number of the rule with a name, where the first of these rules has the number n
abbrev pub number_of : ℕ → List NamedRule → List ℕ → Option ℕ
number_of n [] key = None
number_of n (named ∷ rules) key =
    if bytes_eq named.key key then Some n else number_of (n + rules_of_rule named.rule) rules key

abbrev pub in_repository : Grammar → List ℕ → Option ℕ
in_repository g key = number_of (repository_from g) g.repository key

-- what stands behind a front of a text
abbrev pub behind : (front text : List ℕ) → Option (List ℕ)
behind [] text = Some text
behind (c ∷ front) [] = None
behind (c ∷ front) (d ∷ text) = if c == d then behind front text else None

abbrev pub or_else : Option (List ℕ) → Option (List ℕ) → Option (List ℕ)
or_else (Some x) other = Some x
or_else None other = other

-- the key in `#key`, which the grammar's own name may stand before
abbrev pub key_in : (scope name : List ℕ) → Option (List ℕ)
key_in scope name = or_else (behind (codes "#") name) (option_and_then (behind (codes "#")) (behind scope name))

-- the whole grammar, by any of its names
abbrev pub is_top : (scope name : List ℕ) → Bool
is_top scope name = bytes_eq name (codes "$self") || (bytes_eq name (codes "$base") || bytes_eq name scope)

-- the rule that an include stands for; any other name stands for none
abbrev pub target : Grammar → List ℕ → Option ℕ
target g name = if is_top g.scope name then Some 0 else option_and_then (in_repository g) (key_in g.scope name)
