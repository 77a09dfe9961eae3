-- The rules of a grammar by their numbers, as a file lists them: a rule's `active` are here the rules that its own
-- list names, groups among them. Rules are numbered in the order in which a file is walked: the top is rule 0; then, in
-- its `patterns`, its repository and its injections, each rule goes before what stands in it: its captures,
-- `beginCaptures`, `endCaptures`, `whileCaptures` and `patterns`. A capture that has `patterns` has a number too: it is
-- their group.
use Rattle.std.specs.Prelude.{ℕ, ◌+◌, List, [], ◌∷◌, ◌++◌, Bool, true, false, Option, Some, None, option_to_list}
use Rattle.std.specs.Prelude.{option_and_then, if◌then◌else◌}
use Rattle.rule_defs.specs.Rules.{Kind, Match, BeginEnd, BeginWhile, Group, Entry, Never, Rule}
use Rattle.grammar_defs.specs.FileRules.{Texts, FileList, absent, nothing, include, rule, capture, FileRule, placed}
use Rattle.grammar_defs.specs.FileRules.{NamedRule, Grammar}
use Rattle.grammar_defs.specs.GrammarShape.{own_rule, capture_rules, rules_of_list, rules_of_rule, rules_of_named}
use Rattle.graph_defs.specs.Includes.{target, repository_from}
use Rattle.graph_defs.specs.Slots.{kind_of, start_of, finish_of}

abbrev pub is_there : FileList → Bool
is_there absent = false
is_there list = true

-- the numbers of the first rules in the parts of rule n

abbrev pub captures_from : ℕ → FileRule → ℕ
captures_from n r = n + 1

abbrev pub begin_from : ℕ → FileRule → ℕ
begin_from n r = captures_from n r + rules_of_list r.captures

abbrev pub end_from : ℕ → FileRule → ℕ
end_from n r = begin_from n r + rules_of_list r.begin_captures

abbrev pub while_from : ℕ → FileRule → ℕ
while_from n r = end_from n r + rules_of_list r.end_captures

abbrev pub patterns_from : ℕ → FileRule → ℕ
patterns_from n r = while_from n r + rules_of_list r.while_captures

-- what a rule has in a list of its own
abbrev pub rule_with : (texts : Texts) → (captures begin_captures end_captures while_captures : FileList) → Bool
    → (patterns : FileList) → FileRule
rule_with t a b c d last p = record {
  texts = t;
  captures = a;
  begin_captures = b;
  end_captures = c;
  while_captures = d;
  finish_last = last;
  patterns = p;
}

-- the numbers of the rules that the members of a list stand for, whose first rule has the number n
abbrev pub members : Grammar → ℕ → FileList → List ℕ
members g n absent = []
members g n nothing = []
members g n (include name others) = option_to_list (target g name) ++ members g n others
members g n (rule t a b c d last p others) = n ∷ members g (n + rules_of_rule (rule_with t a b c d last p)) others
members g n (capture number name content p others) = members g (n + capture_rules p) others

-- those of a rule, which by itself may stand for what it includes
abbrev pub members_of : Grammar → ℕ → FileRule → Kind → List ℕ
members_of g n r Group =
    if is_there r.patterns then members g (patterns_from n r) r.patterns
    else option_to_list (option_and_then (target g) r.texts.include)
members_of g n r kind = members g (patterns_from n r) r.patterns

-- a number, where a list is there
abbrev pub inner_of : ℕ → FileList → Option ℕ
inner_of n absent = None
inner_of n list = Some n

-- what is done with captures, whose first rule has the number n
abbrev pub entries : ℕ → FileList → List Entry
entries n absent = []
entries n nothing = []
entries n (include name others) = entries n others
entries n (rule t a b c d last p others) = entries (n + rules_of_rule (rule_with t a b c d last p)) others
entries n (capture number name content p others) =
    record { number = number; name = name; content = content; inner = inner_of n p }
    ∷ entries (n + capture_rules p) others

-- those at a key, or those of `captures` where it is missing
abbrev pub entries_or : ℕ → FileRule → ℕ → FileList → List Entry
entries_or n r from list = if is_there list then entries from list else entries (captures_from n r) r.captures

abbrev pub start_entries : ℕ → FileRule → Kind → List Entry
start_entries n r Match = entries (captures_from n r) r.captures
start_entries n r BeginEnd = entries_or n r (begin_from n r) r.begin_captures
start_entries n r BeginWhile = entries_or n r (begin_from n r) r.begin_captures
start_entries n r Group = []

abbrev pub finish_entries : ℕ → FileRule → Kind → List Entry
finish_entries n r Match = []
finish_entries n r BeginEnd = entries_or n r (end_from n r) r.end_captures
finish_entries n r BeginWhile = entries_or n r (while_from n r) r.while_captures
finish_entries n r Group = []

-- rule n
abbrev pub listed_rule : Grammar → ℕ → FileRule → Rule
listed_rule g n r = record {
  kind = kind_of r.texts;
  name = r.texts.name;
  content = r.texts.content;
  start = start_of (kind_of r.texts) r.texts;
  finish = finish_of (kind_of r.texts) r.texts;
  finish_last = r.finish_last;
  start_captures = start_entries n r (kind_of r.texts);
  finish_captures = finish_entries n r (kind_of r.texts);
  active = members_of g n r (kind_of r.texts);
}

-- a group of rules
abbrev pub group_of : (name : Option (List ℕ)) → List ℕ → Rule
group_of name numbers = record {
  kind = Group;
  name = name;
  content = None;
  start = Never;
  finish = Never;
  finish_last = false;
  start_captures = [];
  finish_captures = [];
  active = numbers;
}

-- the group of a capture's rules, where it has some
abbrev pub capture_group : Grammar → ℕ → FileList → List Rule
capture_group g n absent = []
capture_group g n list = group_of None (members g (n + 1) list) ∷ []

-- the rules of a list, and what stands in them, from number n on
abbrev pub rules_from : Grammar → ℕ → FileList → List Rule
rules_from g n absent = []
rules_from g n nothing = []
rules_from g n (include name others) = rules_from g n others
rules_from g n (rule t a b c d last p others) =
    listed_rule g n (rule_with t a b c d last p)
    ∷ (rules_from g (captures_from n (rule_with t a b c d last p)) a
    ++ (rules_from g (begin_from n (rule_with t a b c d last p)) b
    ++ (rules_from g (end_from n (rule_with t a b c d last p)) c
    ++ (rules_from g (while_from n (rule_with t a b c d last p)) d
    ++ (rules_from g (patterns_from n (rule_with t a b c d last p)) p
    ++ rules_from g (n + rules_of_rule (rule_with t a b c d last p)) others)))))
rules_from g n (capture number name content p others) =
    capture_group g n p ++ (rules_from g (n + own_rule p) p ++ rules_from g (n + capture_rules p) others)

-- those of a repository, or of injections
abbrev pub named_from : Grammar → ℕ → List NamedRule → List Rule
named_from g n [] = []
named_from g n (named ∷ rules) =
    rules_from g n (placed named.rule nothing) ++ named_from g (n + rules_of_rule named.rule) rules

abbrev pub injections_from : Grammar → ℕ
injections_from g = repository_from g + rules_of_named g.repository

-- all rules of a grammar; the top is a group with the grammar's name
abbrev pub listed_rules : Grammar → List Rule
listed_rules g =
    group_of (Some g.scope) (members g 1 g.patterns)
    ∷ (rules_from g 1 g.patterns
    ++ (named_from g (repository_from g) g.repository ++ named_from g (injections_from g) g.injections))
