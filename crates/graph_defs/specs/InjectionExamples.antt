-- Worked examples of the injections of grammars, each named by what it shows.
use Rattle.std.specs.Prelude.{◌≡◌, ℕ, List, [], ◌∷◌, codes, map, ℤ, pos, negsuc, refl}
use Rattle.serde_json.specs.Data.{Data, string, array, object, no_items, item, Members, no_members, member}
use Rattle.syntax_defs.specs.PatternSyntax.{body_at, steps}
use Rattle.std.specs.Str.{chars}
use Rattle.injection_defs.specs.Injections.{Listed, rules_of}
use Rattle.grammar_defs.specs.FileRules.{Grammar}
use Rattle.grammar_defs.specs.GrammarShape.{grammar_of}
use Rattle.graph_defs.specs.ListedRules.{listed_rules}
use Rattle.graph_defs.specs.ActiveLists.{active_rules}
use Rattle.graph_defs.specs.ListedInjections.{injections, unread_keys}
use Rattle.graph_defs.specs.GraphMeaning.{unread}

-- what the examples are made of

abbrev matching : List ℕ → Data
matching text = object (member (codes "match") (string text) no_members)

-- a group that lists one rule
abbrev listing : Data → Data
listing rule = object (member (codes "patterns") (array (item rule no_items)) no_members)

abbrev key : List ℕ → Data → Members → Members
key text rule others = member text rule others

-- a grammar with one rule in its list and one in its repository
abbrev file : Members → Grammar
file keys = grammar_of (object
    (member (codes "scopeName") (string (codes "s"))
    (member (codes "patterns") (array (item (matching (codes "x")) no_items))
    (member (codes "repository") (object (key (codes "r") (matching (codes "y")) no_members))
    (member (codes "injections") (object keys) no_members)))))

abbrev seen : Listed → ℤ × ℕ × ℕ
seen i = (i.priority, i.entry, i.rule)

abbrev numbers : Members → List ℕ
numbers keys = map (λ i. i.rule) (injections (file keys))

abbrev searched : Members → List (List ℕ)
searched keys = map (rules_of (active_rules (listed_rules (file keys)))) (injections (file keys))

-- numbers

their_rules_stand_behind_the_repository : numbers (key (codes "a") (listing (matching (codes "x")))
    (key (codes "b") (matching (codes "x")) no_members))
    ≡ 3 ∷ 5 ∷ []
their_rules_stand_behind_the_repository = refl

-- the rule 3 is a group of rule 4; the rule 5 matches
a_group_is_its_list_and_a_match_rule_itself : searched (key (codes "a") (listing (matching (codes "x")))
    (key (codes "b") (matching (codes "x")) no_members))
    ≡ (4 ∷ []) ∷ (5 ∷ []) ∷ []
a_group_is_its_list_and_a_match_rule_itself = refl

-- order

priorities_come_before_keys : numbers (key (codes "L:z") (matching (codes "x")) (key (codes "R:a")
    (matching (codes "x")) (key (codes "b") (matching (codes "x")) no_members)))
    ≡ 3 ∷ 5 ∷ 4 ∷ []
priorities_come_before_keys = refl

each_entry_stands_by_its_own_priority :
    map seen (injections (file (key (codes "R:a, b, L:c, d") (matching (codes "x"))
    (key (codes "e") (matching (codes "y")) no_members))))
    ≡ (negsuc 0, 2, 3) ∷ (pos 0, 1, 3) ∷ (pos 0, 3, 3) ∷ (pos 0, 0, 4) ∷ (pos 1, 0, 3) ∷ []
each_entry_stands_by_its_own_priority = refl

-- keys that can't be read

a_key_that_is_no_selector_injects_nothing : numbers (key (codes "a |") (listing (matching (codes "x")))
    (key (codes "b") (matching (codes "x")) no_members))
    ≡ 5 ∷ []
a_key_that_is_no_selector_injects_nothing = refl

keys_are_counted : unread_keys (file (key [] (matching (codes "x")) (key (codes "L:") (matching (codes "x"))
    (key (codes "a |") (matching (codes "x")) (key (codes "b") (matching (codes "x")) no_members))))).injections
    ≡ 3
keys_are_counted = refl

-- `(` isn't closed, and `a |` is no selector
texts_and_keys_are_counted_together : unread (file (key (codes "a |") (matching (codes "(")) no_members)) ≡ 2
unfolding chars body_at steps
texts_and_keys_are_counted_together = refl
