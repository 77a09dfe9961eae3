-- Worked examples of scopes, their types and paths, each named by what it shows.
use Rattle.std.specs.Prelude.{◌≡◌, [], ◌∷◌, codes, true, false, Some, None, refl}
use Rattle.scope_defs.specs.declared.types.StdType.TheVariants.{Other, Text, RegEx}
use Rattle.scope_defs.specs.Scopes.{push, pieces}
use Rattle.scope_defs.specs.StandardType.{type_of, type_of_name}
use Rattle.scope_defs.specs.Selectors.{name_matches, path_holds}

pub a_text_is_pushed_piece_by_piece : push (codes "s" ∷ []) (codes " a.b  c ")
    ≡ codes "s" ∷ codes "a.b" ∷ codes "c" ∷ []
a_text_is_pushed_piece_by_piece = refl

pub spaces_push_nothing : push (codes "s" ∷ []) (codes "  ") ≡ codes "s" ∷ []
spaces_push_nothing = refl

pub a_tab_is_a_character_of_a_name : pieces (97 ∷ 9 ∷ 98 ∷ []) ≡ (97 ∷ 9 ∷ 98 ∷ []) ∷ []
a_tab_is_a_character_of_a_name = refl

pub no_scopes_are_other : type_of [] ≡ Other
no_scopes_are_other = refl

pub the_last_scope_that_sets_a_type_decides : type_of (codes "comment" ∷ codes "string.quoted" ∷ codes "s" ∷ []) ≡ Text
the_last_scope_that_sets_a_type_decides = refl

pub embedded_code_sets_other : type_of (codes "string" ∷ codes "x.meta.embedded.block" ∷ []) ≡ Other
embedded_code_sets_other = refl

pub the_first_word_of_a_scope_decides : type_of_name (codes "a-regex.comment") ≡ Some RegEx
the_first_word_of_a_scope_decides = refl

pub a_word_ends_where_no_word_character_stands : type_of_name (codes "comments.comment_1.1comment") ≡ None
a_word_ends_where_no_word_character_stands = refl

pub a_word_may_end_at_any_other_character : type_of_name (codes "xcomment.string-b") ≡ Some Text
a_word_may_end_at_any_other_character = refl

pub a_name_matches_its_parts : name_matches (codes "a.b") (codes "a.b.c") ≡ true
a_name_matches_its_parts = refl

pub a_name_matches_whole_parts_alone : name_matches (codes "a") (codes "ab") ≡ false
a_name_matches_whole_parts_alone = refl

pub names_of_a_path_may_stand_apart : path_holds (codes "a" ∷ codes "b" ∷ []) (codes "a" ∷ codes "q" ∷ codes "b" ∷ [])
    ≡ true
names_of_a_path_may_stand_apart = refl

pub names_of_a_path_stand_in_order : path_holds (codes "a" ∷ codes "b" ∷ []) (codes "b" ∷ codes "a" ∷ []) ≡ false
names_of_a_path_stand_in_order = refl

pub two_names_want_two_scopes : path_holds (codes "a" ∷ codes "a" ∷ []) (codes "a.a" ∷ []) ≡ false
two_names_want_two_scopes = refl

pub a_path_without_names_holds : path_holds [] [] ≡ true
a_path_without_names_holds = refl
