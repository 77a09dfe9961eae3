-- What kind a rule is, as vscode-textmate's rule.ts has it, and its patterns. A text that is read later has at most so
-- many groups, which is this project's own.
use Rattle.std.specs.Prelude.{ℕ, ◌==◌, ◌&&◌, ◌||◌, min, List, [], ◌∷◌, Bool, false, Option, Some, None}
use Rattle.std.specs.Prelude.{is_some, if◌then◌else◌, option_and_then}
use Rattle.std.specs.List.{count_by}
use Rattle.canonical_patterns.specs.ReadTrees.{read_tree}
use Rattle.pattern_defs.specs.Patterns.{Tree}
use Rattle.rule_defs.specs.Rules.{Kind, Match, BeginEnd, BeginWhile, Group, Slot, Never, Read, Later}
use Rattle.grammar_defs.specs.FileRules.{Texts}
use Rattle.grammar_defs.specs.RuleShape.{is_digit}
use Rattle.graph_defs.specs.declared.limits.TheConstants.{MOST_LATER_GROUPS}

-- `match` goes before `begin`, and `while` before `end`
abbrev pub kind_of : Texts → Kind
kind_of t =
    if is_some t.single then Match
    else (if is_some t.begin then (if is_some t.keep then BeginWhile else BeginEnd) else Group)

abbrev pub begins_with_digit : List ℕ → Bool
begins_with_digit [] = false
begins_with_digit (c ∷ cs) = is_digit c

-- whether a backslash stands directly before a digit: then captures of the begin belong into the text
abbrev pub is_later : List ℕ → Bool
is_later [] = false
is_later (c ∷ cs) = (c == 92 && begins_with_digit cs) || is_later cs

-- the most groups of a text that is read later: each needs a parenthesis, and a capture's text may bring backslashes
abbrev pub later_groups : List ℕ → ℕ
later_groups text = min (count_by (λ c. c == 40 || c == 92) text) MOST_LATER_GROUPS

-- the pattern that was read of a text, where it could be read
abbrev pub slot_by : Option Tree → Slot
slot_by None = Never
slot_by (Some tree) = Read tree

-- the pattern of `match` or `begin`
abbrev pub start_slot : Option (List ℕ) → Slot
start_slot text = slot_by (option_and_then read_tree text)

-- the pattern of `end` or `while`
abbrev pub finish_slot : Option (List ℕ) → Slot
finish_slot None = Never
finish_slot (Some text) = if is_later text then Later text (later_groups text) else slot_by (read_tree text)

abbrev pub start_of : Kind → Texts → Slot
start_of Match t = start_slot t.single
start_of BeginEnd t = start_slot t.begin
start_of BeginWhile t = start_slot t.begin
start_of Group t = Never

abbrev pub finish_of : Kind → Texts → Slot
finish_of Match t = Never
finish_of BeginEnd t = finish_slot t.finish
finish_of BeginWhile t = finish_slot t.keep
finish_of Group t = Never
