-- The standard type of scopes: that of the last scope that sets one. The words are those of vscode-textmate's
-- toStandardTokenType; where a word may stand is this project's own.
use Rattle.std.specs.Prelude.{ℕ, nat_eq, nat_le, ◌==◌, List, [], ◌∷◌, length, drop, codes, Bool, true, not, ◌&&◌}
use Rattle.std.specs.Prelude.{◌||◌, if◌then◌else◌, Option, Some, None}
use Rattle.std.specs.List.{starts_with, filter_map}
use Rattle.scope_defs.specs.declared.types.StdType.{StdType}
use Rattle.scope_defs.specs.declared.types.StdType.TheVariants.{Other, Comment, Text, RegEx}
use Rattle.scope_defs.specs.Scopes.{Name, Scopes}

-- an ASCII letter, an ASCII digit or a low line
abbrev pub is_word_char : ℕ → Bool
is_word_char c = (nat_le 97 c && nat_le c 122) ||
    ((nat_le 65 c && nat_le c 90) || ((nat_le 48 c && nat_le c 57) || (c == 95)))

-- no such character stands at the front of a text
abbrev pub ends_word : List ℕ → Bool
ends_word [] = true
ends_word (c ∷ cs) = not (is_word_char c)

-- a text begins with a word that ends there
abbrev pub has_word : List ℕ → List ℕ → Bool
has_word word text = starts_with nat_eq text word && ends_word (drop (length word) text)

-- the type that the word at the front of a text sets
abbrev pub type_at : List ℕ → Option StdType
type_at text =
    if has_word (codes "comment") text then Some Comment else
    if has_word (codes "string") text then Some Text else
    if has_word (codes "regex") text then Some RegEx else
    if has_word (codes "meta.embedded") text then Some Other else None

abbrev pub or_else : Option StdType → Option StdType → Option StdType
or_else None next = next
or_else (Some kind) next = Some kind

-- The type of the first place of a text where a word stands that sets one. The first argument says whether a word may
-- begin at the text's front.
abbrev pub first_type : Bool → List ℕ → Option StdType
first_type begins [] = None
first_type begins (c ∷ cs) = or_else (if begins then type_at (c ∷ cs) else None) (first_type (not (is_word_char c)) cs)

-- the type that a scope sets
abbrev pub type_of_name : Name → Option StdType
type_of_name name = first_type true name

-- the last of some types, where there is one
abbrev pub last_or : StdType → List StdType → StdType
last_or kind [] = kind
last_or kind (next ∷ kinds) = last_or next kinds

abbrev pub type_of : Scopes → StdType
type_of scopes = last_or Other (filter_map type_of_name scopes)
