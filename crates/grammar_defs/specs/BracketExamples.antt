-- Worked examples of bracket files, each named by what it shows.
use Rattle.std.specs.Prelude.{◌≡◌, [], ◌∷◌, codes, Some, None, refl}
use Rattle.std.specs.Fmt.{decimal}
use Rattle.serde_json.specs.Data.{Data, null, number, string, array, object, no_items, item}
use Rattle.serde_json.specs.Data.{no_members, member, unsigned}
use Rattle.pairing_defs.specs.declared.PairText.{PairText}
use Rattle.grammar_defs.specs.Pointers.{below}
use Rattle.grammar_defs.specs.BracketShape.{file_pairs, file_faults, reading_of_data, no_json, wrong_kind, pairs}

-- lists of one and of two values
abbrev one : Data → Data
one a = array (item a no_items)

abbrev two : Data → Data → Data
two a b = array (item a (item b no_items))

abbrev round : Data
round = two (string (codes "(")) (string (codes ")"))

abbrev angle : Data
angle = two (string (codes "<")) (string (codes ">"))

abbrev the_round : PairText
the_round = record { opener = codes "("; closer = codes ")" }

abbrev the_angle : PairText
the_angle = record { opener = codes "<"; closer = codes ">" }

-- a file with these `brackets`
abbrev with : Data → Data
with d = object (member (codes "brackets") d no_members)

-- and one with both lists; an object has its keys in order of their bytes
abbrev with_both : Data → Data → Data
with_both plain colorized = object (member (codes "brackets") plain
    (member (codes "colorizedBracketPairs") colorized no_members))

pub no_list_is_no_pairs : reading_of_data (Some (object no_members)) ≡ pairs []
no_list_is_no_pairs = refl

pub what_is_no_json_has_no_pairs : reading_of_data None ≡ no_json
what_is_no_json_has_no_pairs = refl

pub a_list_is_no_file : file_faults (array no_items) ≡ [] ∷ []
a_list_is_no_file = refl

pub pairs_stand_in_order : reading_of_data (Some (with (two round (two (string (codes "a")) (string (codes "bc"))))))
    ≡ pairs (the_round ∷ record { opener = codes "a"; closer = codes "bc" } ∷ [])
pairs_stand_in_order = refl

pub angles_of_brackets_are_left_out : file_pairs (with (two angle round)) ≡ the_round ∷ []
angles_of_brackets_are_left_out = refl

pub angles_that_are_to_be_coloured_stay : file_pairs (with_both (one round) (one angle)) ≡ the_angle ∷ []
angles_that_are_to_be_coloured_stay = refl

-- an angle whose partner is another text stays
pub only_both_angles_are_left_out : file_pairs (with (one (two (string (codes "<")) (string (codes "/>")))))
    ≡ record { opener = codes "<"; closer = codes "/>" } ∷ []
only_both_angles_are_left_out = refl

-- where the list to be coloured is there, the other isn't looked at, even if it is none
pub the_list_to_be_coloured_goes_first : reading_of_data (Some (with_both (string (codes "x")) (array no_items))) ≡ pairs []
the_list_to_be_coloured_goes_first = refl

pub null_counts_as_missing : reading_of_data (Some (with_both (one round) null)) ≡ pairs (the_round ∷ [])
null_counts_as_missing = refl

pub a_string_is_no_list : reading_of_data (Some (with (string (codes "()")))) ≡ wrong_kind (codes "/brackets")
a_string_is_no_list = refl

pub one_text_is_no_pair : reading_of_data (Some (with (two round (one (string (codes "["))))))
    ≡ wrong_kind (below (codes "brackets") (below (decimal 1) []))
one_text_is_no_pair = refl

-- the length of a list is told before its members
pub a_list_of_another_length_is_told_itself : reading_of_data (Some (with (one (one (number (unsigned 5))))))
    ≡ wrong_kind (below (codes "brackets") (below (decimal 0) []))
a_list_of_another_length_is_told_itself = refl

pub a_number_is_no_text : reading_of_data (Some (with (one (two (string (codes "(")) (number (unsigned 5))))))
    ≡ wrong_kind (below (codes "brackets") (below (decimal 0) (below (decimal 1) [])))
a_number_is_no_text = refl

pub null_in_a_pair_is_no_text : file_faults (with (one (two null (string (codes ")")))))
    ≡ below (codes "brackets") (below (decimal 0) (below (decimal 0) [])) ∷ []
null_in_a_pair_is_no_text = refl

-- all wrong values in order, of which the first is told
pub wrong_values_come_in_order : file_faults (with (two (two null null) null))
    ≡ below (codes "brackets") (below (decimal 0) (below (decimal 0) []))
    ∷ below (codes "brackets") (below (decimal 0) (below (decimal 1) []))
    ∷ below (codes "brackets") (below (decimal 1) []) ∷ []
wrong_values_come_in_order = refl
