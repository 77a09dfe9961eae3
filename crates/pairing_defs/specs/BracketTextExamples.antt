-- Worked examples of which texts are brackets, each named by what it shows.
use Rattle.std.specs.Prelude.{◌≡◌, ℕ, List, [], ◌∷◌, map, codes, replicate, refl}
use Prim.Native.String.{String}
use lib.Utf8.{encode}
use Rattle.std.specs.Str.{chars}
use Rattle.pairing_defs.specs.declared.Role.TheVariants.{Opener, Closer}
use Rattle.pairing_defs.specs.declared.PairText.{PairText}
use Rattle.pairing_defs.specs.BracketTexts.{usual_pairs, kept_pairs, kinds_of, closed_by, texts_of, brackets_of}
use Rattle.pairing_defs.specs.BracketTexts.{too_long, brackets, kind_count}
use Rattle.pairing_defs.specs.Marks.{usual_texts}

abbrev pub pair : String → String → PairText
pair opener closer = record { opener = codes opener; closer = codes closer }

pub the_usual_pairs_are_the_usual_texts : brackets_of usual_pairs ≡ brackets usual_texts
unfolding chars encode
the_usual_pairs_are_the_usual_texts = refl

pub pairs_with_an_empty_text_are_dropped : kept_pairs (pair "" ")" ∷ pair "(" "" ∷ pair "" "" ∷ pair "(" ")" ∷ [])
    ≡ pair "(" ")" ∷ []
pairs_with_an_empty_text_are_dropped = refl

pub a_text_is_no_bracket_of_itself : kept_pairs (pair "|" "|" ∷ []) ≡ []
a_text_is_no_bracket_of_itself = refl

pub an_opener_that_closes_a_pair_before_it_is_dropped : kept_pairs (pair "a" "b" ∷ pair "b" "c" ∷ pair "c" "d" ∷ [])
    ≡ pair "a" "b" ∷ pair "c" "d" ∷ []
an_opener_that_closes_a_pair_before_it_is_dropped = refl

pub a_closer_that_opens_a_pair_before_it_is_dropped : kept_pairs (pair "a" "b" ∷ pair "c" "a" ∷ pair "b" "a" ∷ [])
    ≡ pair "a" "b" ∷ []
a_closer_that_opens_a_pair_before_it_is_dropped = refl

-- only a pair that is kept has a say: the second is dropped, so the third stays
pub a_dropped_pair_drops_no_other : kept_pairs (pair "a" "b" ∷ pair "b" "c" ∷ pair "d" "b" ∷ pair "e" "c" ∷ [])
    ≡ pair "a" "b" ∷ pair "d" "b" ∷ pair "e" "c" ∷ []
a_dropped_pair_drops_no_other = refl

-- the same pair twice adds nothing
pub a_kind_is_the_text_of_an_opener : kinds_of (pair "(" ")" ∷ pair "[" "]" ∷ pair "(" ")" ∷ pair "(" "]" ∷ [])
    ≡ codes "(" ∷ codes "[" ∷ []
a_kind_is_the_text_of_an_opener = refl

-- kinds 0 and 1, and kind 0 alone
pub a_closer_closes_each_kind_with_which_it_is_a_pair : map (closed_by (pair "if" "end" ∷ pair "do" "end" ∷ pair "if" "fi" ∷ []))
    (codes "end" ∷ codes "fi" ∷ codes "if" ∷ [])
    ≡ record { bits = 3 } ∷ record { bits = 1 } ∷ record { bits = 0 } ∷ []
a_closer_closes_each_kind_with_which_it_is_a_pair = refl

pub openers_stand_before_closers : texts_of (pair "if" "end" ∷ pair "do" "end" ∷ pair "if" "fi" ∷ [])
    ≡ record { text = codes "if"; role = Opener 0 } ∷ record { text = codes "do"; role = Opener 1 }
    ∷ record { text = codes "end"; role = Closer (record { bits = 3 }) }
    ∷ record { text = codes "fi"; role = Closer (record { bits = 1 }) } ∷ []
unfolding chars encode
openers_stand_before_closers = refl

-- e acute is one character of two bytes
pub texts_have_characters : texts_of (record { opener = 195 ∷ 169 ∷ []; closer = codes ")" } ∷ [])
    ≡ record { text = 233 ∷ []; role = Opener 0 } ∷ record { text = codes ")"; role = Closer (record { bits = 1 }) } ∷ []
unfolding chars encode
texts_have_characters = refl

-- the more of openers and closers
pub kinds_count_the_more_of_openers_and_closers : map kind_count ((pair "(" ")" ∷ pair "(" "]" ∷ []) ∷ (pair "(" ")" ∷ pair "[" ")" ∷ pair "{" ")" ∷ []) ∷ [] ∷ [])
    ≡ 2 ∷ 3 ∷ 0 ∷ []
kinds_count_the_more_of_openers_and_closers = refl

-- texts of 32 and of 33 characters
abbrev pub long : ℕ → PairText
long n = record { opener = codes "("; closer = replicate n 41 }

-- the pair with an empty text doesn't count
pub a_text_has_at_most_32_characters : brackets_of (long 0 ∷ long 32 ∷ pair "[" "]" ∷ long 33 ∷ long 34 ∷ [])
    ≡ too_long (record { index = 2; count = 33 })
unfolding chars encode
a_text_has_at_most_32_characters = refl
