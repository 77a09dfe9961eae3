-- Worked examples of the one form of a pattern and of the pattern of a text, each named by what it shows. A set of
-- characters is named by its test: none of them is computed.
use Rattle.std.specs.Prelude.{◌≡◌, ◌==◌, ℕ, [], ◌∷◌, List, codes, Bool, true, false, not, Option, Some, None, refl}
use Rattle.std.specs.Str.{chars}
use Rattle.char_sets.specs.Ranges.{in_set}
use Rattle.char_sets.specs.declared.char_set.CharRange.{CharRange}
use Rattle.pattern_defs.specs.declared.nodes.Anchor.TheVariants.{LineEnd}
use Rattle.pattern_defs.specs.declared.nodes.PatNode.{PatNode}
use Rattle.pattern_defs.specs.declared.nodes.PatNode.TheVariants.{One, At, Choice, Group, Repeat, Ahead, Behind}
use Rattle.pattern_defs.specs.declared.nodes.PatNode.TheVariants.{Atomic, Back}
use Rattle.pattern_defs.specs.Patterns.{NodeLists, Tree}
use Rattle.syntax_defs.specs.Classes.{is_char_folded}
use Rattle.syntax_defs.specs.ClassExamples.{categories}
use Rattle.syntax_defs.specs.PatternExamples.{pattern_forms, id}
use Rattle.canonical_patterns.specs.Canonical.{codes_from, set_of, canonical}
use Rattle.canonical_patterns.specs.ReadTrees.{tree_read, read_tree}

-- ---- sets

-- of `a` to `d`, all but `b`
pub codes_that_pass_are_listed_in_order : codes_from 97 4 (λ c. not (c == 98))
    ≡ record { first = 97; last = 97 } ∷ record { first = 99; last = 99 } ∷ record { first = 100; last = 100 } ∷ []
unfolding codes_from
codes_that_pass_are_listed_in_order = refl

pub of_no_codes_none_passes : codes_from 97 0 (λ c. true) ≡ []
unfolding codes_from
of_no_codes_none_passes = refl

-- `a` to `c`, and `b` once more
abbrev twice : List CharRange
twice = record { first = 97; last = 99 } ∷ record { first = 98; last = 98 } ∷ []

pub each_set_has_one_form_and_all_else_stays :
    canonical (record { lists = (One twice ∷ At LineEnd ∷ []) ∷ (Atomic (id 0) ∷ []) ∷ []; top = id 1; groups = 2 })
    ≡ record { lists = (One (set_of (in_set twice)) ∷ At LineEnd ∷ []) ∷ (Atomic (id 0) ∷ []) ∷ []; top = id 1; groups = 2 }
each_set_has_one_form_and_all_else_stays = refl

-- ---- patterns of texts

-- a character, in both cases where `fold`
abbrev char : (fold : Bool) → ℕ → PatNode
char fold c = One (set_of (is_char_folded fold c))

-- lists, of which the one with a number is the whole, and how many groups there are
abbrev pattern : NodeLists → (top groups : ℕ) → Option Tree
pattern lists top groups = Some (record { lists = lists; top = id top; groups = groups })

pub a_repeat_keeps_its_bounds_and_its_kind : tree_read (codes "a{2,3}?")
    ≡ pattern ((char false 97 ∷ []) ∷ (Repeat (id 0) 2 (Some 3) false ∷ []) ∷ []) 1 0
unfolding pattern_forms
a_repeat_keeps_its_bounds_and_its_kind = refl

pub alternatives_are_lists : tree_read (codes "a|b")
    ≡ pattern ((char false 97 ∷ []) ∷ (char false 98 ∷ []) ∷ (Choice (id 0 ∷ id 1 ∷ []) ∷ []) ∷ []) 2 0
unfolding pattern_forms
alternatives_are_lists = refl

pub groups_arms_and_references_are_kept : tree_read (codes "(a)(?<!bc|d)\\1")
    ≡ pattern ((char false 97 ∷ []) ∷ (char false 98 ∷ char false 99 ∷ []) ∷ (char false 100 ∷ [])
    ∷ (Group 1 (id 0) ∷ Behind (record { length = 2; body = id 1 } ∷ record { length = 1; body = id 2 } ∷ []) false
    ∷ Back 1 false ∷ []) ∷ []) 3 1
unfolding pattern_forms
groups_arms_and_references_are_kept = refl

pub other_forms_are_kept : tree_read (codes "(?>a)(?=b)(?!c)$")
    ≡ pattern ((char false 97 ∷ []) ∷ (char false 98 ∷ []) ∷ (char false 99 ∷ [])
    ∷ (Atomic (id 0) ∷ Ahead (id 1) true ∷ Ahead (id 2) false ∷ At LineEnd ∷ []) ∷ []) 3 0
unfolding pattern_forms
other_forms_are_kept = refl

pub a_name_stands_for_its_group : tree_read (codes "(?<n>a)(b)\\k<n>")
    ≡ pattern ((char false 97 ∷ []) ∷ (char false 98 ∷ []) ∷ (Group 1 (id 0) ∷ Group 2 (id 1) ∷ Back 1 false ∷ []) ∷ []) 2 2
unfolding pattern_forms categories
a_name_stands_for_its_group = refl

pub under_i_letters_and_references_fold : tree_read (codes "(?i)(a)\\1")
    ≡ pattern ((char true 97 ∷ []) ∷ (Group 1 (id 0) ∷ Back 1 true ∷ []) ∷ []) 1 1
unfolding pattern_forms
under_i_letters_and_references_fold = refl

pub what_cannot_be_read_has_no_pattern : tree_read (codes "(") ≡ None
unfolding pattern_forms
what_cannot_be_read_has_no_pattern = refl

-- e acute is two bytes and one character
pub a_text_in_utf_8_has_characters : read_tree (0xC3 ∷ 0xA9 ∷ []) ≡ pattern ((char false 0xE9 ∷ []) ∷ []) 0 0
unfolding chars pattern_forms
a_text_in_utf_8_has_characters = refl
