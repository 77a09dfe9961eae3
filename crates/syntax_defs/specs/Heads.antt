-- The heads of forms in parentheses, and names. The forms are those of Oniguruma's RE with Ruby syntax; which are
-- left out is this project's own.
use Rattle.std.specs.Prelude.{ℕ, ◌+◌, ◌==◌, List, [], ◌∷◌, length, take, drop, Bool, true, false, ◌&&◌, ◌||◌, not}
use Rattle.std.specs.Prelude.{if◌then◌else◌, Some, None, Result, Ok, Err}
use Rattle.std.specs.Char.{is_ascii_digit}
use Rattle.std.specs.List.{list_any, list_all, prefix_len}
use Rattle.char_sets.specs.Named.{is_word}
use Rattle.syntax_defs.specs.declared.items.Options.{Options}
use Rattle.syntax_defs.specs.declared.items.Span.{Span}
use Rattle.syntax_defs.specs.declared.items.Head.{Head}
use Rattle.syntax_defs.specs.declared.items.Head.TheVariants.{Numbered, Plain, Rest, Ahead, Behind, Atomic}
use Rattle.syntax_defs.specs.Reading.{Fault, Syntax, LeftOut, ◌>>=◌}
use Rattle.syntax_defs.specs.Sights.{begins_with, is_empty, is_name_start, is_number_start}

-- names

abbrev pub word_count : List ℕ → ℕ
word_count cs = prefix_len is_word cs

abbrev pub word : List ℕ → List ℕ
word cs = take (word_count cs) cs

abbrev pub behind_word : List ℕ → List ℕ
behind_word cs = drop (word_count cs) cs

-- a word that begins as a name does. An empty one is refused at its end.
abbrev pub is_name : List ℕ → Bool
is_name [] = true
is_name (c ∷ cs) = is_name_start c

-- a word that is a number without leading zero. An empty one is refused at its end.
abbrev pub is_number : List ℕ → Bool
is_number [] = true
is_number (c ∷ cs) = is_number_start c && list_all is_ascii_digit cs

abbrev pub is_name_or_number : List ℕ → Bool
is_name_or_number cs = is_name cs || is_number cs

-- The end of a word that a character closes, what stands from its end on given. An empty word is none.
abbrev pub closed_word : (close begin end from : ℕ) → (word rest : List ℕ) → Result Span Fault
closed_word close begin end from word [] = Err (Syntax end)
closed_word close begin end from word (c ∷ cs) =
    if (c == close) && not (is_empty word) then Ok (record { from = from; to = from + length word }) else Err
    (Syntax begin)

-- The word from a place on, which is to be good, in an item that begins at another place, of a text that ends at a
-- third. A bad character goes before the text's end.
abbrev pub word_at : (good : List ℕ → Bool) → (close begin end from : ℕ) → List ℕ → Result Span Fault
word_at good close begin end from cs =
    if good (word cs) then closed_word close begin end from (word cs) (behind_word cs) else Err (Syntax begin)

-- options

abbrev pub is_option : ℕ → Bool
is_option c = (c == 105) || ((c == 109) || (c == 120))

abbrev pub letter_count : List ℕ → ℕ
letter_count cs = prefix_len is_option cs

abbrev pub letters : List ℕ → List ℕ
letters cs = take (letter_count cs) cs

abbrev pub behind_letters : List ℕ → List ℕ
behind_letters cs = drop (letter_count cs) cs

abbrev pub switched : ℕ → (on off : List ℕ) → Bool → Bool
switched c on off before = (before || list_any (λ d. d == c) on) && not (list_any (λ d. d == c) off)

abbrev pub with_options : Options → (on off : List ℕ) → Options
with_options options on off = record {
  any_case = switched 105 on off options.any_case;
  dot_all = switched 109 on off options.dot_all;
  spaced = switched 120 on off options.spaced;
}

-- what stands behind the letters, at a place: a `:`, or a `)` that letters or a minus stand before
abbrev pub option_end : Options → Bool → (begin end place : ℕ) → List ℕ → Result (Head × ℕ) Fault
option_end options changes begin end place [] = Err (Syntax end)
option_end options changes begin end place (c ∷ cs) =
    if c == 58 then Ok (Plain options, place + 1)
    else if (c == 41) && changes then Ok (Rest options, place + 1)
    else Err (LeftOut begin)

-- behind the `-`
abbrev pub minus_head : Options → List ℕ → (begin end : ℕ) → List ℕ → Result (Head × ℕ) Fault
minus_head options on begin end cs =
    option_end (with_options options on (letters cs)) true begin end (begin + 3 + length on + letter_count cs)
    (behind_letters cs)

-- letters, and behind a `-` letters again
abbrev pub letter_head : Options → List ℕ → (begin end : ℕ) → List ℕ → Result (Head × ℕ) Fault
letter_head options on begin end rest =
    if begins_with 45 rest then minus_head options on begin end (drop 1 rest)
    else option_end (with_options options on []) (not (is_empty on)) begin end (begin + 2 + length on) rest

abbrev pub option_head : Options → (begin end : ℕ) → List ℕ → Result (Head × ℕ) Fault
option_head options begin end cs = letter_head options (letters cs) begin end (behind_letters cs)

-- forms

abbrev pub named_head : (close begin end from : ℕ) → List ℕ → Result (Head × ℕ) Fault
named_head close begin end from cs = word_at is_name close begin end from cs >>= λ name. Ok
    (Numbered (Some name), name.to + 1)

-- behind `(?<`
abbrev pub angle_head : (begin end : ℕ) → List ℕ → Result (Head × ℕ) Fault
angle_head begin end [] = Err (Syntax end)
angle_head begin end (c ∷ cs) =
    if c == 61 then Ok (Behind true, begin + 4)
    else if c == 33 then Ok (Behind false, begin + 4)
    else named_head 62 begin end (begin + 3) (c ∷ cs)

-- behind `(?`
abbrev pub question_head : Options → (begin end : ℕ) → List ℕ → Result (Head × ℕ) Fault
question_head options begin end [] = Err (Syntax end)
question_head options begin end (c ∷ cs) =
    if c == 61 then Ok (Ahead true, begin + 3)
    else if c == 33 then Ok (Ahead false, begin + 3)
    else if c == 62 then Ok (Atomic, begin + 3)
    else if c == 60 then angle_head begin end cs
    else if c == 39 then named_head 39 begin end (begin + 3) cs
    else option_head options begin end (c ∷ cs)

-- The head of the form whose `(` stands at a place, and the place behind it. What stands behind the `(` is given,
-- and the text's length.
abbrev pub head_at : Options → (begin end : ℕ) → List ℕ → Result (Head × ℕ) Fault
head_at options begin end cs =
    if begins_with 63 cs then question_head options begin end (drop 1 cs) else Ok (Numbered None, begin + 1)

-- the options inside
abbrev pub inside : Head → Options → Options
inside (Plain changed) options = changed
inside (Rest changed) options = changed
inside _ options = options
