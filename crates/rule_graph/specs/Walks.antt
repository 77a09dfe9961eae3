-- How far a grammar has been walked: the rules that were met, and how many of their texts can't be read.
use Rattle.std.specs.Prelude.{ℕ, ◌+◌, ◌≤◌, List, [], ◌∷◌, ◌++◌, length, Option}
use Rattle.std.specs.List.{count_by}
use Rattle.rule_defs.specs.Rules.{Rule}
use Rattle.grammar_defs.specs.FileRules.{FileList, FileRule, NamedRule, Grammar}
use Rattle.graph_defs.specs.ListedRules.{members, listed_rule, group_of, rules_from, named_from}
use Rattle.graph_defs.specs.GraphMeaning.{pattern_texts, texts_of, named_texts, is_unread}

pub record Walked : Type 0 where
  pub rules : List Rule
  pub unread : ℕ

-- the rules of a list are met
abbrev pub after : Grammar → Walked → FileList → Walked
after g w list = record {
  rules = w.rules ++ rules_from g (length w.rules) list;
  unread = w.unread + count_by is_unread (texts_of list);
}

abbrev pub after_named : Grammar → Walked → List NamedRule → Walked
after_named g w rules = record {
  rules = w.rules ++ named_from g (length w.rules) rules;
  unread = w.unread + count_by is_unread (named_texts rules);
}

-- a rule is met, without those in it
abbrev pub with_listed : Grammar → Walked → FileRule → Walked
with_listed g w r = record {
  rules = w.rules ++ listed_rule g (length w.rules) r ∷ [];
  unread = w.unread + count_by is_unread (pattern_texts r.texts);
}

-- a group of a list's rules is met, without these
abbrev pub after_group : Grammar → Walked → (name : Option (List ℕ)) → FileList → Walked
after_group g w name list = record {
  rules = w.rules ++ group_of name (members g (length w.rules + 1) list) ∷ [];
  unread = w.unread;
}

-- few enough rules and texts that they can be counted
pub record IsSmall (w : Walked) : Type 0 where
  pub rules : length w.rules ≤ 65_536
  pub unread : w.unread ≤ 262_144
