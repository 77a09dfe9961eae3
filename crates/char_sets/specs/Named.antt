-- Sets of characters that have names, by the general categories of Unicode. Which categories each has is this
-- project's own.
use Rattle.std.specs.Prelude.{ℕ, Bool, true, false, not, ◌&&◌, ◌||◌, ◌==◌, nat_lt, codes}
use Rattle.std.specs.List.{list_any}
use Rattle.std.specs.Int.{bit_at}
use Rattle.unicode.specs.GeneralCategory.{general_category, general_category_eq}
use Rattle.unicode.specs.GeneralCategoryGroup.{in_group}
use Rattle.unicode.specs.Binary.{is_white_space}
use Rattle.ucd_category.specs.GeneralCategory.{general_category_number}
use Rattle.ucd_category.specs.declared.GeneralCategory.{GeneralCategory}
use Rattle.ucd_category.specs.declared.GeneralCategory.TheVariants.{UppercaseLetter, LowercaseLetter, DecimalNumber, ConnectorPunctuation, SpaceSeparator, Control, Surrogate, Unassigned}
use Rattle.ucd_category.specs.declared.GeneralCategoryGroup.TheVariants as group
use Rattle.char_sets.specs.Case.{is_from_to}
use Rattle.char_sets.specs.declared.named.NamedSet.{NamedSet}
use Rattle.char_sets.specs.declared.named.NamedSet.TheVariants.{Digit, Word, Space, Xdigit, Alpha, Alnum, Upper, Lower, Blank, Cntrl, Punct, Graph, Print, Ascii, Category, Group}

-- a letter or a mark
abbrev pub is_alpha_category : GeneralCategory → Bool
is_alpha_category g = in_group group.Letter g || in_group group.Mark g

-- a letter, a mark, a decimal digit or a connector, of which `_` is one
abbrev pub is_word_category : GeneralCategory → Bool
is_word_category g =
    is_alpha_category g || (general_category_eq g DecimalNumber || general_category_eq g ConnectorPunctuation)

-- no control, no surrogate, and assigned
abbrev pub is_graph_category : GeneralCategory → Bool
is_graph_category g =
    not (general_category_eq g Control || (general_category_eq g Surrogate || general_category_eq g Unassigned))

unfoldable pub is_word : ℕ → Bool
is_word c = is_word_category (general_category c)

-- a sign of ASCII that is a symbol to Unicode and counts as punctuation here
abbrev pub is_ascii_symbol : ℕ → Bool
is_ascii_symbol c = list_any (λ sign. c == sign) (codes "$+<=>^`|~")

-- the members of each set that has a name
abbrev pub in_named : NamedSet → ℕ → Bool
in_named Digit c = general_category_eq (general_category c) DecimalNumber
in_named Word c = is_word c
in_named Space c = is_white_space c
in_named Xdigit c = is_from_to 48 57 c || (is_from_to 65 70 c || is_from_to 97 102 c)
in_named Alpha c = is_alpha_category (general_category c)
in_named Alnum c = is_alpha_category (general_category c) || general_category_eq (general_category c) DecimalNumber
in_named Upper c = general_category_eq (general_category c) UppercaseLetter
in_named Lower c = general_category_eq (general_category c) LowercaseLetter
in_named Blank c = general_category_eq (general_category c) SpaceSeparator || (c == 9)
in_named Cntrl c = general_category_eq (general_category c) Control
in_named Punct c = in_group group.Punctuation (general_category c) || is_ascii_symbol c
in_named Graph c = not (is_white_space c) && is_graph_category (general_category c)
in_named Print c =
    (not (is_white_space c) && is_graph_category (general_category c))
    || general_category_eq (general_category c) SpaceSeparator
in_named Ascii c = nat_lt c 128
in_named (Category k) c = general_category_eq (general_category c) k
in_named (Group g) c = in_group g (general_category c)

-- the number is one of those whose bits are set
abbrev pub has_number : ℕ → ℕ → Bool
has_number numbers n = nat_lt n 32 && (bit_at numbers n == 1)

-- the number of the category is one of those whose bits are set
abbrev pub has_category : ℕ → GeneralCategory → Bool
has_category numbers g = has_number numbers (general_category_number g)

-- the members of a named set or, where `negated`, of its complement
abbrev pub in_named_if : (negated : Bool) → NamedSet → ℕ → Bool
in_named_if true name c = not (in_named name c)
in_named_if false name c = in_named name c
