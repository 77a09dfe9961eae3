-- What stands at a place of a pattern text, by the characters from there on. The forms are those of Oniguruma's RE
-- with Ruby syntax.
use Rattle.std.specs.Prelude.{ℕ, ◌+◌, ◌-◌, ◌*◌, ◌==◌, min, List, [], ◌∷◌, length, drop, take, fold, Bool, true, false}
use Rattle.std.specs.Prelude.{◌&&◌, ◌||◌, not, if◌then◌else◌, Option, Some, None}
use Rattle.std.specs.List.{prefix_len}
use Rattle.std.specs.Char.{is_ascii_alphabetic, is_ascii_digit}
use Rattle.pattern_defs.specs.declared.nodes.Anchor.{Anchor}
use Rattle.pattern_defs.specs.declared.nodes.Anchor.TheVariants.{LineStart, LineEnd, First, Mark, LastEnd, WordEdge}
use Rattle.pattern_defs.specs.declared.nodes.Anchor.TheVariants.{NoWordEdge}
use Rattle.pattern_defs.specs.declared.nodes.Anchor.TheVariants as anchors
use Rattle.syntax_defs.specs.Limits.{greater_count}
use Rattle.syntax_defs.specs.declared.items.Options.{Options}
use Rattle.syntax_defs.specs.declared.items.Form.{Form}
use Rattle.syntax_defs.specs.declared.items.Form.TheVariants.{Sign, Count, Interval}
use Rattle.syntax_defs.specs.declared.items.Sight.{Sight}
use Rattle.syntax_defs.specs.declared.items.Sight.TheVariants.{End, Bar, Close, Blank, Remark, Comment, Repeat, Open}
use Rattle.syntax_defs.specs.declared.items.Sight.TheVariants.{Edge, Number, Reference, Single}

-- decimal numbers

-- the digits at the front
abbrev pub digit_count : List ℕ → ℕ
digit_count cs = prefix_len is_ascii_digit cs

abbrev pub digits : List ℕ → List ℕ
digits cs = take (digit_count cs) cs

abbrev pub behind_digits : List ℕ → List ℕ
behind_digits cs = drop (digit_count cs) cs

-- a digit more behind a number; a million stands for each greater number
abbrev pub with_digit : ℕ → ℕ → ℕ
with_digit n c = min (n * 10 + (c - 48)) greater_count

abbrev pub number_of : List ℕ → ℕ
number_of cs = fold with_digit 0 cs

-- the character at the front is this one
abbrev pub begins_with : ℕ → List ℕ → Bool
begins_with c [] = false
begins_with c (d ∷ cs) = d == c

-- repeats

abbrev pub bounds : ℕ → Option ℕ → Form → ℕ → Sight
bounds least most form size = Repeat (record { least = least; most = most; form = form; length = size })

-- the greatest number of an interval, where there are digits
abbrev pub most_of : List ℕ → Option ℕ
most_of [] = None
most_of (c ∷ cs) = Some (number_of (c ∷ cs))

abbrev pub is_empty : List ℕ → Bool
is_empty [] = true
is_empty (c ∷ cs) = false

-- what stands behind the comma of an interval: digits, the end
abbrev pub range_sight : (least most rest : List ℕ) → Sight
range_sight least most rest =
    if begins_with 125 rest && not (is_empty least && is_empty most)
    then bounds (number_of least) (most_of most) Interval (length least + length most + 3)
    else Single

-- what stands behind the first digits of an interval: `}` or a comma
abbrev pub count_sight : (least rest : List ℕ) → Sight
count_sight least rest =
    if begins_with 125 rest && not (is_empty least)
    then bounds (number_of least) (Some (number_of least)) Count (length least + 2)
    else if begins_with 44 rest
    then range_sight least (digits (drop 1 rest)) (behind_digits (drop 1 rest))
    else Single

-- A `{` is itself where it begins no interval.
abbrev pub brace_sight : List ℕ → Sight
brace_sight cs = count_sight (digits cs) (behind_digits cs)

-- behind a `(` and behind a backslash

abbrev pub paren_sight : List ℕ → Sight
paren_sight cs = if begins_with 63 cs && begins_with 35 (drop 1 cs) then Comment else Open

abbrev pub edge : Anchor → Sight
edge anchor = Edge anchor 2

-- an ASCII letter or `_`
abbrev pub is_name_start : ℕ → Bool
is_name_start c = is_ascii_alphabetic c || (c == 95)

-- a digit other than 0
abbrev pub is_number_start : ℕ → Bool
is_number_start c = is_ascii_digit c && not (c == 48)

abbrev pub slash_sight : List ℕ → Sight
slash_sight [] = Single
slash_sight (c ∷ cs) =
    if c == 65 then edge First
    else if c == 71 then edge Mark
    else if c == 122 then edge anchors.End
    else if c == 90 then edge LastEnd
    else if c == 98 then edge WordEdge
    else if c == 66 then edge NoWordEdge
    else if c == 107 then Reference
    else if is_number_start c then Number
    else Single

-- what is passed over with option `x`
abbrev pub is_blank : ℕ → Bool
is_blank c = (c == 9) || ((c == 10) || ((c == 12) || ((c == 13) || (c == 32))))

abbrev pub plain_sight : Options → ℕ → Sight
plain_sight options c =
    if options.spaced && is_blank c then Blank else if options.spaced && (c == 35) then Remark else Single

abbrev pub sight_at : Options → List ℕ → Sight
sight_at options [] = End
sight_at options (c ∷ cs) =
    if c == 124 then Bar
    else if c == 41 then Close
    else if c == 40 then paren_sight cs
    else if c == 42 then bounds 0 None Sign 1
    else if c == 43 then bounds 1 None Sign 1
    else if c == 63 then bounds 0 (Some 1) Sign 1
    else if c == 123 then brace_sight cs
    else if c == 94 then Edge LineStart 1
    else if c == 36 then Edge LineEnd 1
    else if c == 92 then slash_sight cs
    else plain_sight options c
