-- Worked examples of the rules of grammars, from the values of their files: how they are numbered, what they list, and
-- which captures they have. In each, the top is rule 0.
use Rattle.std.specs.Prelude.{◌≡◌, ℕ, List, [], ◌∷◌, ◌++◌, codes, map, length, true, false, Option, Some, refl}
use Rattle.serde_json.specs.Data.{Data, null, string, array, object, no_items, item, no_members, member, Members}
use Rattle.serde_json.specs.Data.{Items}
use Rattle.rule_defs.specs.Rules.{Rule}
use Rattle.grammar_defs.specs.GrammarShape.{grammar_of}
use Rattle.graph_defs.specs.Slots.{is_later, later_groups}
use Rattle.graph_defs.specs.ListedRules.{listed_rules}
use Rattle.graph_defs.specs.ActiveLists.{active_rules}
use Rattle.graph_defs.specs.GraphMeaning.{all_texts}

-- what the examples are made of

abbrev at : (key : List ℕ) → List ℕ → Members → Members
at key text others = member key (string text) others

abbrev matching : List ℕ → Members → Data
matching text others = object (at (codes "match") text others)

-- a rule that matches `x`
abbrev x : Data
x = matching (codes "x") no_members

abbrev included : List ℕ → Data
included name = object (at (codes "include") name no_members)

abbrev list : Items → Members → Members
list items others = member (codes "patterns") (array items) others

abbrev one : Data → Items
one d = item d no_items

abbrev two : Data → Data → Items
two d e = item d (one e)

-- a begin/end rule with more keys
abbrev between : Members → Data
between others = object (at (codes "begin") (codes "<") (at (codes "end") (codes ">") others))

-- the rules of a file with the scope name `s`, `patterns` and a repository
abbrev rules : Items → Members → List Rule
rules patterns repository = active_rules (listed_rules (grammar_of (object
    (at (codes "scopeName") (codes "s") (list patterns (member (codes "repository") (object repository) no_members))))))

abbrev active : Items → Members → List (List ℕ)
active patterns repository = map (λ r. r.active) (rules patterns repository)

-- the groups of the captures of a rule's begin, and of its end
abbrev inner : Rule → (List (Option ℕ) × List (Option ℕ))
inner r = (map (λ e. e.inner) r.start_captures, map (λ e. e.inner) r.finish_captures)

-- ---- active lists

-- The top lists `g` and rule 1; `g`, rule 2, lists the top and rule 3. In the top's own list the top wasn't replaced
-- yet, so that rule 1 comes before rule 3, and once more behind it.
a_group_is_replaced_in_its_own_list_too : active (two (included (codes "#g")) x) (member (codes "g") (object
    (list (two (included (codes "$self")) x) no_members)) no_members)
    ≡ (1 ∷ 3 ∷ 1 ∷ []) ∷ [] ∷ (3 ∷ 1 ∷ 3 ∷ []) ∷ [] ∷ []
a_group_is_replaced_in_its_own_list_too = refl

-- `h` lists `g` too, but in the top's list `g` was replaced before
a_group_in_a_group_adds_nothing_the_second_time : active (two (included (codes "#g")) (included (codes "#h")))
    (member (codes "g") (object (list (one x) no_members))
    (member (codes "h") (object (list (two (included (codes "#g")) x) no_members)) no_members))
    ≡ (2 ∷ 4 ∷ []) ∷ (2 ∷ []) ∷ [] ∷ (2 ∷ 4 ∷ []) ∷ [] ∷ []
a_group_in_a_group_adds_nothing_the_second_time = refl

-- a match rule lists its `patterns`, though no frame has it
a_match_rule_has_a_list_too : active (one (matching (codes "x") (list (one x) no_members))) no_members
    ≡ (1 ∷ []) ∷ (2 ∷ []) ∷ [] ∷ []
a_match_rule_has_a_list_too = refl

-- only a group stands for its `include`
a_begin_rule_includes_nothing_by_itself : active no_items (member (codes "a") (between
    (at (codes "include") (codes "#b") no_members)) (member (codes "b") x no_members))
    ≡ [] ∷ [] ∷ [] ∷ []
a_begin_rule_includes_nothing_by_itself = refl

a_group_with_patterns_includes_nothing_besides : active no_items (member (codes "a") (object (list (one x)
    (at (codes "include") (codes "#b") no_members))) (member (codes "b") x no_members))
    ≡ [] ∷ (2 ∷ []) ∷ [] ∷ [] ∷ []
a_group_with_patterns_includes_nothing_besides = refl

-- in a list, an `include` stands for what it names, whatever else its rule says
an_include_in_a_list_is_no_rule : active (one (object (at (codes "include") (codes "s#b") (at (codes "match")
    (codes "y") no_members)))) (member (codes "b") x no_members)
    ≡ (1 ∷ []) ∷ [] ∷ []
an_include_in_a_list_is_no_rule = refl

another_grammar_is_dropped : active (two (included (codes "t#b")) (included (codes "t"))) (member (codes "b") x
    no_members)
    ≡ [] ∷ [] ∷ []
another_grammar_is_dropped = refl

-- ---- captures

-- capture 0 with an empty list of its own
abbrev zeroth : Data
zeroth = object (member (codes "0") (object (list no_items no_members)) no_members)

-- The four keys of captures have the rules 2 to 5, and the list rule 6. A begin/while rule uses the second and the
-- fourth.
the_keys_of_captures_are_numbered_in_order : map inner
    (rules (one (object (at (codes "begin") (codes "<") (at (codes "while") (codes ">")
    (member (codes "captures") zeroth (member (codes "beginCaptures") zeroth (member (codes "endCaptures") zeroth
    (member (codes "whileCaptures") zeroth (list (one x) no_members))))))))) no_members)
    ≡ ([], []) ∷ (Some 3 ∷ [], Some 5 ∷ []) ∷ ([], []) ∷ ([], []) ∷ ([], []) ∷ ([], []) ∷ ([], []) ∷ []
the_keys_of_captures_are_numbered_in_order = refl

-- both ends have the one group of `captures`
captures_stand_for_both : map inner
    (rules (one (between (member (codes "captures") zeroth no_members))) no_members)
    ≡ ([], []) ∷ (Some 2 ∷ [], Some 2 ∷ []) ∷ ([], []) ∷ []
captures_stand_for_both = refl

empty_captures_are_there : map inner
    (rules (one (between (member (codes "captures") zeroth (member (codes "beginCaptures") (object no_members)
    (member (codes "endCaptures") null no_members))))) no_members)
    ≡ ([], []) ∷ ([], Some 2 ∷ []) ∷ ([], []) ∷ []
empty_captures_are_there = refl

-- ---- texts

-- two backslashes before a digit: the second stands directly before it
a_backslash_before_a_digit_is_enough : is_later (92 ∷ 92 ∷ codes "1") ≡ true
a_backslash_before_a_digit_is_enough = refl

a_digit_further_on_is_not : is_later (codes "1" ++ 92 ∷ codes "n1") ≡ false
a_digit_further_on_is_not = refl

parentheses_and_backslashes_are_counted : later_groups (codes "((" ++ 92 ∷ codes ")" ++ 92 ∷ codes "1") ≡ 4
parentheses_and_backslashes_are_counted = refl

-- those of captures' rules, of the repository and of injections too, each once
all_texts_are_counted : length (all_texts (grammar_of (object (at (codes "scopeName") (codes "s")
    (list (one (matching (codes "x") (member (codes "captures") (object (member (codes "1") (object (list (one x)
    no_members)) no_members)) no_members)))
    (member (codes "repository") (object (member (codes "a") (between no_members) no_members))
    (member (codes "injections") (object (member (codes "L:s") (object (list (one x) no_members)) no_members))
    no_members)))))))
    ≡ 5
all_texts_are_counted = refl
