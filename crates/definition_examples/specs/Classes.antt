-- Further worked examples of classes and of single characters, each named by what it shows.
use Rattle.std.specs.Prelude.{◌≡◌, Bool, [], ◌∷◌, codes, map, true, false, Some, refl}
use Rattle.syntax_defs.specs.declared.items.Options.{Options}
use Rattle.syntax_defs.specs.EscapeExamples.{escape_forms}
use Rattle.syntax_defs.specs.ClassExamples.{class_forms, class_of, member}
use Rattle.syntax_defs.specs.Singles.{single_at}
use Rattle.syntax_defs.specs.PatternExamples.{options}

-- ---- classes

pub a_range_may_have_one_character : member (class_of false 0 (codes "[a-a]")) 97 ≡ Some true
unfolding class_forms escape_forms
a_range_may_have_one_character = refl

-- the first of three sides has no `b`
pub all_sides_must_hold : map (member (class_of false 0 (codes "[a&&a-c&&a-z]"))) (97 ∷ 98 ∷ []) ≡ Some true ∷ Some false ∷ []
unfolding class_forms escape_forms
all_sides_must_hold = refl

pub a_dash_before_a_class_is_itself :
    map (member (class_of false 0 (codes "[a-[b]]"))) (45 ∷ 98 ∷ 91 ∷ []) ≡ Some true ∷ Some true ∷ Some false ∷ []
unfolding class_forms escape_forms
a_dash_before_a_class_is_itself = refl

pub a_dash_before_a_set_is_itself : member (class_of false 0 (codes "[a-\\d]")) 45 ≡ Some true
unfolding class_forms escape_forms
a_dash_before_a_set_is_itself = refl

pub a_range_folds_too : map (member (class_of true 0 (codes "[A-C]"))) (98 ∷ 66 ∷ 100 ∷ []) ≡ Some true ∷ Some true ∷ Some false ∷ []
unfolding class_forms escape_forms
a_range_folds_too = refl

-- ---- outside classes

-- the option `m`
abbrev many : Bool → Options
many dot_all = record { any_case = false; dot_all = dot_all; spaced = false }

pub the_dot_takes_no_line_feed :
    map (member (single_at (many false) 0 0 (codes "."))) (9 ∷ 10 ∷ 13 ∷ 120 ∷ [])
    ≡ Some true ∷ Some false ∷ Some true ∷ Some true ∷ []
the_dot_takes_no_line_feed = refl

pub with_m_it_takes_one : member (single_at (many true) 0 0 (codes ".")) 10 ≡ Some true
with_m_it_takes_one = refl

pub a_letter_outside_a_class_folds_too :
    map (member (single_at (options true) 0 0 (codes "a"))) (65 ∷ 97 ∷ 66 ∷ []) ≡ Some true ∷ Some true ∷ Some false ∷ []
a_letter_outside_a_class_folds_too = refl

pub without_i_it_does_not :
    map (member (single_at (options false) 0 0 (codes "a"))) (65 ∷ 97 ∷ []) ≡ Some false ∷ Some true ∷ []
without_i_it_does_not = refl

-- `\x41` is an `A`
pub an_escaped_letter_folds_too :
    map (member (single_at (options true) 0 0 (codes "\\x41"))) (65 ∷ 97 ∷ []) ≡ Some true ∷ Some true ∷ []
unfolding escape_forms
an_escaped_letter_folds_too = refl
