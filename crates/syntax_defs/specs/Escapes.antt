-- Escapes that are one character or a set of characters. The forms are those of Oniguruma's RE with Ruby syntax;
-- which are left out, and that names of sets are those of this project, is its own.
use Rattle.std.specs.Prelude.{ℕ, ◌+◌, ◌*◌, ◌==◌, nat_lt, List, [], ◌∷◌, codes, length, map, filter, take, drop, fold}
use Rattle.std.specs.Prelude.{position, Bool, true, false, ◌&&◌, ◌||◌, not, if◌then◌else◌, Option, Some, None, Result}
use Rattle.std.specs.Prelude.{Ok, Err}
use Rattle.std.specs.List.{prefix_len}
use Rattle.std.specs.Option.{option_map, option_or}
use Rattle.std.specs.Str.{bytes_eq}
use Rattle.std.specs.Char.{digit_value, is_ascii_alphanumeric, is_digit, to_ascii_lowercase}
use Rattle.ucd_category.specs.declared.GeneralCategory.{GeneralCategory}
use Rattle.ucd_category.specs.declared.GeneralCategory.TheVariants as categories
use Rattle.ucd_category.specs.declared.GeneralCategoryGroup.{GeneralCategoryGroup}
use Rattle.ucd_category.specs.declared.GeneralCategoryGroup.TheVariants as groups
use Rattle.char_sets.specs.Named.{in_named}
use Rattle.char_sets.specs.declared.named.NamedSet.{NamedSet}
use Rattle.char_sets.specs.declared.named.NamedSet.TheVariants as sets
use Rattle.syntax_defs.specs.Reading.{Fault, Syntax, LeftOut, Read}

-- what an escape stands for: one character, or the characters that pass a test
pub data Escaped : Type 0 where
  Char : ℕ → Escaped
  Set : (ℕ → Bool) → Escaped

abbrev pub Escape : Type 0
Escape = Result (Read Escaped) Fault

-- a set, or its complement where `negated`
abbrev pub complement_if : (negated : Bool) → (ℕ → Bool) → ℕ → Bool
complement_if true p c = not (p c)
complement_if false p c = p c

abbrev pub escaped_char : (c next : ℕ) → List ℕ → Escape
escaped_char c next rest = Ok (record { value = Char c; place = next; rest = rest })

abbrev pub escaped_set : (set : NamedSet × Bool) → (next : ℕ) → List ℕ → Escape
escaped_set set next rest = Ok (record {
  value = Set (complement_if set.1 (in_named set.0));
  place = next;
  rest =
      rest;
})

-- names of sets

abbrev pub first_names : List ℕ → Option NamedSet
first_names name =
    if bytes_eq name (codes "digit") then Some sets.Digit
    else if bytes_eq name (codes "word") then Some sets.Word
    else if bytes_eq name (codes "space") then Some sets.Space
    else if bytes_eq name (codes "xdigit") then Some sets.Xdigit
    else if bytes_eq name (codes "alpha") then Some sets.Alpha
    else if bytes_eq name (codes "alnum") then Some sets.Alnum
    else if bytes_eq name (codes "upper") then Some sets.Upper
    else None

abbrev pub further_names : List ℕ → Option NamedSet
further_names name =
    if bytes_eq name (codes "lower") then Some sets.Lower
    else if bytes_eq name (codes "blank") then Some sets.Blank
    else if bytes_eq name (codes "cntrl") then Some sets.Cntrl
    else if bytes_eq name (codes "punct") then Some sets.Punct
    else if bytes_eq name (codes "graph") then Some sets.Graph
    else if bytes_eq name (codes "print") then Some sets.Print
    else if bytes_eq name (codes "ascii") then Some sets.Ascii
    else None

-- the set that has this name in a bracket, as `[:alpha:]`
unfoldable pub named_bracket : List ℕ → Option NamedSet
named_bracket name = option_or (first_names name) (further_names name)

abbrev pub group_by_word : List ℕ → Option GeneralCategoryGroup
group_by_word name =
    if bytes_eq name (codes "letter") then Some groups.Letter
    else if bytes_eq name (codes "mark") then Some groups.Mark
    else if bytes_eq name (codes "number") then Some groups.Number
    else if bytes_eq name (codes "punctuation") then Some groups.Punctuation
    else if bytes_eq name (codes "symbol") then Some groups.Symbol
    else if bytes_eq name (codes "separator") then Some groups.Separator
    else if bytes_eq name (codes "other") then Some groups.Other
    else None

-- `L`, `M`, `N`, `P`, `S`, `Z` and `C`, in lower case
abbrev pub group_by_letter : ℕ → Option GeneralCategoryGroup
group_by_letter a =
    if a == 108 then Some groups.Letter else if a == 109 then Some groups.Mark
    else if a == 110 then Some groups.Number else if a == 112 then Some groups.Punctuation
    else if a == 115 then Some groups.Symbol else if a == 122 then Some groups.Separator
    else if a == 99 then Some groups.Other else None

-- general categories by their two letters, in lower case: first the second letters of each group

abbrev pub letter_by : ℕ → Option GeneralCategory
letter_by b =
    if b == 117 then Some categories.UppercaseLetter else if b == 108 then Some categories.LowercaseLetter
    else if b == 116 then Some categories.TitlecaseLetter else if b == 109 then Some categories.ModifierLetter
    else if b == 111 then Some categories.OtherLetter else None

abbrev pub mark_by : ℕ → Option GeneralCategory
mark_by b =
    if b == 110 then Some categories.NonspacingMark else if b == 99 then Some categories.SpacingMark
    else if b == 101 then Some categories.EnclosingMark else None

abbrev pub number_by : ℕ → Option GeneralCategory
number_by b =
    if b == 100 then Some categories.DecimalNumber else if b == 108 then Some categories.LetterNumber
    else if b == 111 then Some categories.OtherNumber else None

abbrev pub punctuation_by : ℕ → Option GeneralCategory
punctuation_by b =
    if b == 99 then Some categories.ConnectorPunctuation else if b == 100 then Some categories.DashPunctuation
    else if b == 115 then Some categories.OpenPunctuation else if b == 101 then Some categories.ClosePunctuation
    else if b == 105 then Some categories.InitialPunctuation else if b == 102 then Some categories.FinalPunctuation
    else if b == 111 then Some categories.OtherPunctuation else None

abbrev pub symbol_by : ℕ → Option GeneralCategory
symbol_by b =
    if b == 109 then Some categories.MathSymbol else if b == 99 then Some categories.CurrencySymbol
    else if b == 107 then Some categories.ModifierSymbol else if b == 111 then Some categories.OtherSymbol else None

abbrev pub separator_by : ℕ → Option GeneralCategory
separator_by b =
    if b == 115 then Some categories.SpaceSeparator else if b == 108 then Some categories.LineSeparator
    else if b == 112 then Some categories.ParagraphSeparator else None

abbrev pub other_by : ℕ → Option GeneralCategory
other_by b =
    if b == 99 then Some categories.Control else if b == 102 then Some categories.Format
    else if b == 115 then Some categories.Surrogate else if b == 111 then Some categories.PrivateUse
    else if b == 110 then Some categories.Unassigned else None

abbrev pub category_by : (a b : ℕ) → Option GeneralCategory
category_by a b =
    if a == 108 then letter_by b else if a == 109 then mark_by b
    else if a == 110 then number_by b else if a == 112 then punctuation_by b
    else if a == 115 then symbol_by b else if a == 122 then separator_by b
    else if a == 99 then other_by b else None

-- names of properties are compared without case, spaces, `_` and `-`
abbrev pub is_passed_over : ℕ → Bool
is_passed_over c = (c == 32 || c == 95) || c == 45

abbrev pub plain_name : List ℕ → List ℕ
plain_name name = map to_ascii_lowercase (filter (λ c. not (is_passed_over c)) name)

unfoldable pub by_plain_name : List ℕ → Option NamedSet
by_plain_name [] = None
by_plain_name (a ∷ []) = option_map sets.Group (group_by_letter a)
by_plain_name (a ∷ b ∷ []) = option_map sets.Category (category_by a b)
by_plain_name (a ∷ b ∷ c ∷ name) =
    option_or (named_bracket (a ∷ b ∷ c ∷ name)) (option_map sets.Group (group_by_word (a ∷ b ∷ c ∷ name)))

-- the set that has this name in a property, as `\p{Alpha}`
abbrev pub named_property : List ℕ → Option NamedSet
named_property name = by_plain_name (plain_name name)

-- a set that a property names, and whether its complement is meant: `\p{^Name}` and `\P{Name}` mean that
abbrev pub with_sign : Bool → Option NamedSet → Option (NamedSet × Bool)
with_sign negated set = option_map (λ s. (s, negated)) set

unfoldable pub property_by : (negated : Bool) → List ℕ → Option (NamedSet × Bool)
property_by true name = with_sign true (named_property name)
property_by false [] = with_sign false (named_property [])
property_by false (c ∷ name) =
    if c == 94 then with_sign true (named_property name) else with_sign false (named_property (c ∷ name))

abbrev pub property_or_fault : (place next : ℕ) → List ℕ → Option (NamedSet × Bool) → Escape
property_or_fault place next rest None = Err (LeftOut place)
property_or_fault place next rest (Some set) = escaped_set set next rest

-- where the first `}` stands
abbrev pub closing : List ℕ → Option ℕ
closing rest = position (λ c. c == 125) rest

-- behind `\p{`, up to the `}`
abbrev pub property_to : (place : ℕ) (negated : Bool) → List ℕ → Option ℕ → Escape
property_to place negated rest None = Err (Syntax (place + 3 + length rest))
property_to place negated rest (Some k) =
    property_or_fault place (place + k + 4) (drop (k + 1) rest) (property_by negated (take k rest))

-- behind `\p`
unfoldable pub property_at : (place : ℕ) (negated : Bool) → List ℕ → Escape
property_at place negated [] = Err (LeftOut place)
property_at place negated (c ∷ rest) =
    if c == 123 then property_to place negated rest (closing rest) else Err (LeftOut place)

-- characters by hexadecimal digits

-- how many hexadecimal digits a text begins with, at most `most`
abbrev pub hex_count : (most : ℕ) → List ℕ → ℕ
hex_count most rest = prefix_len (λ c. is_digit c 16) (take most rest)

abbrev pub hex_value : List ℕ → ℕ
hex_value digits = fold (λ n c. n * 16 + digit_value c) 0 digits

-- the number is the code of a character
abbrev pub is_scalar : ℕ → Bool
is_scalar n = nat_lt n 0xD800 || (nat_lt 0xDFFF n && nat_lt n 0x110000)

abbrev pub scalar_or_fault : (place code next : ℕ) → List ℕ → Escape
scalar_or_fault place code next rest = if is_scalar code then escaped_char code next rest else Err (Syntax place)

-- `\xH` and `\xHH`, what stands behind the `x` given
unfoldable pub byte_at : (place : ℕ) → List ℕ → Escape
byte_at place rest =
    let count = hex_count 2 rest in
    let value = hex_value (take count rest) in
    if count == 0 then Err (Syntax place)
    else if nat_lt 0x7F value then Err (LeftOut place)
    else escaped_char value (place + 2 + count) (drop count rest)

-- `\uHHHH`, what stands behind the `u` given
unfoldable pub unicode_at : (place : ℕ) → List ℕ → Escape
unicode_at place rest =
    let count = hex_count 4 rest in
    if count == 0 then Err (Syntax place)
    else if nat_lt count 4 then Err (LeftOut place)
    else scalar_or_fault place (hex_value (take count rest)) (place + 2 + count) (drop count rest)

-- the closing brace of `\x{H}`, behind so many digits
abbrev pub brace_at : (place code next : ℕ) → List ℕ → Escape
brace_at place code next [] = Err (Syntax next)
brace_at place code next (c ∷ rest) = if c == 125 then scalar_or_fault place code (next + 1) rest else Err
    (LeftOut place)

-- `\x{H}` with at most eight digits, what stands behind the `{` given
unfoldable pub braced_at : (place : ℕ) → List ℕ → Escape
braced_at place rest =
    let count = hex_count 8 rest in
    if length rest == 0 then Err (Syntax (place + 3))
    else if count == 0 then Err (Syntax place)
    else brace_at place (hex_value (take count rest)) (place + 3 + count) (drop count rest)

-- behind `\x`
unfoldable pub hex_at : (place : ℕ) → List ℕ → Escape
hex_at place [] = Err (Syntax place)
hex_at place (c ∷ rest) = if c == 123 then braced_at place rest else byte_at place (c ∷ rest)

-- the escape as a whole

-- the character that a letter stands for: `\t \n \v \f \r \a \e`
abbrev pub control_of : ℕ → Option ℕ
control_of c =
    if c == 116 then Some 9 else if c == 110 then Some 10 else if c == 118 then Some 11 else if c == 102 then Some 12
    else if c == 114 then Some 13 else if c == 97 then Some 7 else if c == 101 then Some 27 else None

-- the set that a letter stands for: `\d \w \s \h` and `\D \W \S \H`
abbrev pub set_of : ℕ → Option (NamedSet × Bool)
set_of c =
    if c == 100 then Some (sets.Digit, false) else if c == 119 then Some (sets.Word, false)
    else if c == 115 then Some (sets.Space, false) else if c == 104 then Some (sets.Xdigit, false)
    else if c == 68 then Some (sets.Digit, true) else if c == 87 then Some (sets.Word, true)
    else if c == 83 then Some (sets.Space, true) else if c == 72 then Some (sets.Xdigit, true)
    else None

-- any other: `\x \u \p \P`, a character that is no ASCII letter or digit, or what is left out
abbrev pub longer_escape : (place c : ℕ) → List ℕ → Escape
longer_escape place c rest =
    if c == 120 then hex_at place rest else if c == 117 then unicode_at place rest
    else if c == 112 then property_at place false rest else if c == 80 then property_at place true rest
    else if is_ascii_alphanumeric c then Err (LeftOut place) else escaped_char c (place + 2) rest

abbrev pub escape_or_longer : (place c : ℕ) → List ℕ → Option ℕ → Option (NamedSet × Bool) → Escape
escape_or_longer place c rest (Some code) set = escaped_char code (place + 2) rest
escape_or_longer place c rest None (Some set) = escaped_set set (place + 2) rest
escape_or_longer place c rest None None = longer_escape place c rest

-- behind the backslash and one character
unfoldable pub escape_by : (place c : ℕ) → List ℕ → Escape
escape_by place c rest = escape_or_longer place c rest (control_of c) (set_of c)

-- behind the backslash
unfoldable pub behind_backslash : (place : ℕ) → List ℕ → Escape
behind_backslash place [] = Err (Syntax place)
behind_backslash place (c ∷ rest) = escape_by place c rest

-- An escape that is a character or a set, from its backslash on. A backslash that ends the text can't be read, and
-- any other escape by a letter or a digit is left out.
abbrev pub escape_at : (place : ℕ) → List ℕ → Escape
escape_at place from = behind_backslash place (drop 1 from)
