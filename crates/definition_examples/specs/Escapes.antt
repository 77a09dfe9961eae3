-- Further worked examples of escapes and of the names of sets, each named by what it shows.
use Rattle.std.specs.Prelude.{◌≡◌, [], ◌∷◌, codes, map, true, false, Some, Err, refl}
use Rattle.ucd_category.specs.declared.GeneralCategory.TheVariants as category
use Rattle.ucd_category.specs.declared.GeneralCategoryGroup.TheVariants as group
use Rattle.char_sets.specs.declared.named.NamedSet.TheVariants.{Digit, Word, Space, Xdigit, Alpha, Alnum, Upper, Lower}
use Rattle.char_sets.specs.declared.named.NamedSet.TheVariants.{Blank, Cntrl, Punct, Graph, Print, Ascii}
use Rattle.char_sets.specs.declared.named.NamedSet.TheVariants.{Category, Group}
use Rattle.syntax_defs.specs.Reading.{Syntax}
use Rattle.syntax_defs.specs.Escapes.{escaped_char, escaped_set, named_bracket, named_property, by_plain_name}
use Rattle.syntax_defs.specs.EscapeExamples.{escape_forms, escape_of}

-- ---- characters

pub letters_stand_for_controls :
    map escape_of (codes "\\n" ∷ codes "\\v" ∷ codes "\\f" ∷ codes "\\r" ∷ codes "\\a" ∷ [])
    ≡ escaped_char 10 2 [] ∷ escaped_char 11 2 [] ∷ escaped_char 12 2 [] ∷ escaped_char 13 2 [] ∷ escaped_char 7 2 [] ∷ []
unfolding escape_forms
letters_stand_for_controls = refl

pub a_byte_may_be_7f : escape_of (codes "\\x7F") ≡ escaped_char 127 4 []
unfolding escape_forms
a_byte_may_be_7f = refl

pub surrogates_end_at_dfff : map escape_of (codes "\\uD7FF" ∷ codes "\\uDFFF" ∷ codes "\\uE000" ∷ [])
    ≡ escaped_char 0xD7FF 6 [] ∷ Err (Syntax 0) ∷ escaped_char 0xE000 6 [] ∷ []
unfolding escape_forms
surrogates_end_at_dfff = refl

pub characters_end_at_10ffff : map escape_of (codes "\\x{10FFFF}" ∷ codes "\\x{110000}" ∷ [])
    ≡ escaped_char 0x10FFFF 10 [] ∷ Err (Syntax 0) ∷ []
unfolding escape_forms
characters_end_at_10ffff = refl

pub an_escape_by_digits_wants_one : map escape_of (codes "\\x" ∷ codes "\\x{}" ∷ codes "\\u" ∷ codes "\\ug" ∷ [])
    ≡ Err (Syntax 0) ∷ Err (Syntax 0) ∷ Err (Syntax 0) ∷ Err (Syntax 0) ∷ []
unfolding escape_forms
an_escape_by_digits_wants_one = refl

pub braces_without_an_end_are_refused_there : map escape_of (codes "\\x{" ∷ codes "\\p{L" ∷ []) ≡ Err (Syntax 3) ∷ Err (Syntax 4) ∷ []
unfolding escape_forms
braces_without_an_end_are_refused_there = refl

-- ---- sets

pub letters_stand_for_sets :
    map escape_of (codes "\\w" ∷ codes "\\s" ∷ codes "\\h" ∷ codes "\\D" ∷ codes "\\S" ∷ codes "\\H" ∷ [])
    ≡ escaped_set (Word, false) 2 [] ∷ escaped_set (Space, false) 2 [] ∷ escaped_set (Xdigit, false) 2 []
    ∷ escaped_set (Digit, true) 2 [] ∷ escaped_set (Space, true) 2 [] ∷ escaped_set (Xdigit, true) 2 [] ∷ []
unfolding escape_forms
letters_stand_for_sets = refl

pub a_large_p_is_the_complement : escape_of (codes "\\P{Lu}") ≡ escaped_set (Category category.UppercaseLetter, true) 6 []
unfolding escape_forms
a_large_p_is_the_complement = refl

pub brackets_have_fourteen_names :
    map named_bracket (codes "digit" ∷ codes "word" ∷ codes "space" ∷ codes "xdigit" ∷ codes "alpha" ∷ codes "alnum" ∷ codes "upper"
    ∷ codes "lower" ∷ codes "blank" ∷ codes "cntrl" ∷ codes "punct" ∷ codes "graph" ∷ codes "print" ∷ codes "ascii" ∷ [])
    ≡ Some Digit ∷ Some Word ∷ Some Space ∷ Some Xdigit ∷ Some Alpha ∷ Some Alnum ∷ Some Upper
    ∷ Some Lower ∷ Some Blank ∷ Some Cntrl ∷ Some Punct ∷ Some Graph ∷ Some Print ∷ Some Ascii ∷ []
unfolding named_bracket
brackets_have_fourteen_names = refl

pub groups_of_categories_have_letters :
    map named_property (codes "L" ∷ codes "M" ∷ codes "N" ∷ codes "P" ∷ codes "S" ∷ codes "Z" ∷ codes "C" ∷ [])
    ≡ Some (Group group.Letter) ∷ Some (Group group.Mark) ∷ Some (Group group.Number) ∷ Some (Group group.Punctuation)
    ∷ Some (Group group.Symbol) ∷ Some (Group group.Separator) ∷ Some (Group group.Other) ∷ []
unfolding by_plain_name named_bracket
groups_of_categories_have_letters = refl

pub groups_of_categories_have_words :
    map named_property (codes "Letter" ∷ codes "Mark" ∷ codes "Number" ∷ codes "Punctuation" ∷ codes "Symbol" ∷ codes "Separator"
    ∷ codes "Other" ∷ [])
    ≡ Some (Group group.Letter) ∷ Some (Group group.Mark) ∷ Some (Group group.Number) ∷ Some (Group group.Punctuation)
    ∷ Some (Group group.Symbol) ∷ Some (Group group.Separator) ∷ Some (Group group.Other) ∷ []
unfolding by_plain_name named_bracket
groups_of_categories_have_words = refl

pub letters_and_marks_have_short_names :
    map named_property (codes "Lu" ∷ codes "Ll" ∷ codes "Lt" ∷ codes "Lm" ∷ codes "Lo" ∷ codes "Mn" ∷ codes "Mc" ∷ codes "Me" ∷ [])
    ≡ Some (Category category.UppercaseLetter) ∷ Some (Category category.LowercaseLetter)
    ∷ Some (Category category.TitlecaseLetter) ∷ Some (Category category.ModifierLetter)
    ∷ Some (Category category.OtherLetter) ∷ Some (Category category.NonspacingMark)
    ∷ Some (Category category.SpacingMark) ∷ Some (Category category.EnclosingMark) ∷ []
unfolding by_plain_name named_bracket
letters_and_marks_have_short_names = refl

pub numbers_and_punctuation_have_short_names :
    map named_property (codes "Nd" ∷ codes "Nl" ∷ codes "No" ∷ codes "Pc" ∷ codes "Pd" ∷ codes "Ps" ∷ codes "Pe" ∷ codes "Pi"
    ∷ codes "Pf" ∷ codes "Po" ∷ [])
    ≡ Some (Category category.DecimalNumber) ∷ Some (Category category.LetterNumber)
    ∷ Some (Category category.OtherNumber) ∷ Some (Category category.ConnectorPunctuation)
    ∷ Some (Category category.DashPunctuation) ∷ Some (Category category.OpenPunctuation)
    ∷ Some (Category category.ClosePunctuation) ∷ Some (Category category.InitialPunctuation)
    ∷ Some (Category category.FinalPunctuation) ∷ Some (Category category.OtherPunctuation) ∷ []
unfolding by_plain_name named_bracket
numbers_and_punctuation_have_short_names = refl

pub symbols_separators_and_others_have_short_names :
    map named_property (codes "Sm" ∷ codes "Sc" ∷ codes "Sk" ∷ codes "So" ∷ codes "Zs" ∷ codes "Zl" ∷ codes "Zp" ∷ codes "Cc"
    ∷ codes "Cf" ∷ codes "Cs" ∷ codes "Co" ∷ codes "Cn" ∷ [])
    ≡ Some (Category category.MathSymbol) ∷ Some (Category category.CurrencySymbol)
    ∷ Some (Category category.ModifierSymbol) ∷ Some (Category category.OtherSymbol)
    ∷ Some (Category category.SpaceSeparator) ∷ Some (Category category.LineSeparator)
    ∷ Some (Category category.ParagraphSeparator) ∷ Some (Category category.Control) ∷ Some (Category category.Format)
    ∷ Some (Category category.Surrogate) ∷ Some (Category category.PrivateUse) ∷ Some (Category category.Unassigned) ∷ []
unfolding by_plain_name named_bracket
symbols_separators_and_others_have_short_names = refl
