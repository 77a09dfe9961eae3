-- How the types of a grammar stand for its rules.
use Rattle.std.specs.Prelude.{ℕ, List, [], ◌∷◌, Option, Some, None}
use Rattle.grammar_defs.specs.FileRules.{Texts, FileList, absent, nothing, include, rule, capture, FileRule, placed}
use Rattle.grammar_defs.specs.GrammarShape.{rules_of_rule}
use Rattle.grammar_json.specs.declared.file_rules.RawRule.{RawRule}
use Rattle.grammar_json.specs.declared.file_rules.Entry.{Entry}
use Rattle.grammar_json.specs.declared.file_rules.Entry.TheVariants.{Include, Rule}
use Rattle.grammar_json.specs.declared.file_rules.Capture.{Capture}
use Rattle.grammar_json.specs.declared.texts.RuleTexts.{RuleTexts}

-- a list that may not be there
abbrev pub if_there : Option FileList → FileList
if_there None = absent
if_there (Some list) = list

abbrev pub texts_of : RawRule → Texts
texts_of r = record {
  name = r.name;
  content = r.content;
  single = r.single;
  begin = r.begin;
  finish =
      r.finish;
  keep = r.keep;
  include = r.include;
}

-- the texts that were read of a rule
abbrev pub texts_read : RuleTexts → Texts
texts_read t = record {
  name = t.name;
  content = t.content;
  single = t.single;
  begin = t.begin;
  finish =
      t.finish;
  keep = t.keep;
  include = t.include;
}

-- a rule
abbrev pub rule_of : RawRule → FileRule
rule_of r = record {
  texts = texts_of r;
  captures = if_there r.captures;
  begin_captures = if_there r.begin_captures;
  end_captures = if_there r.end_captures;
  while_captures = if_there r.while_captures;
  finish_last = r.finish_last;
  patterns = if_there r.patterns;
}

-- a member of a list, in front of the others
abbrev pub entry_then : Entry → FileList → FileList
entry_then (Include name) others = include name others
entry_then (Rule r) others = placed (rule_of r) others

abbrev pub entries_then : List Entry → FileList → FileList
entries_then [] others = others
entries_then (entry ∷ entries) others = entry_then entry (entries_then entries others)

-- a list of rules
abbrev pub entry_list : List Entry → FileList
entry_list entries = entries_then entries nothing

abbrev pub capture_then : Capture → FileList → FileList
capture_then c others = capture c.number c.name c.content (if_there c.patterns) others

abbrev pub captures_then : List Capture → FileList → FileList
captures_then [] others = others
captures_then (c ∷ captures) others = capture_then c (captures_then captures others)

-- a list of captures
abbrev pub capture_list : List Capture → FileList
capture_list captures = captures_then captures nothing

-- the members of one list, and behind them those of another
abbrev pub joined : FileList → FileList → FileList
joined absent more = more
joined nothing more = more
joined (include name others) more = include name (joined others more)
joined (rule texts a b c d finish_last patterns others) more =
    rule texts a b c d finish_last patterns (joined others more)
joined (capture number name content patterns others) more =
    capture number name content patterns (joined others more)

-- a capture that may not be there
abbrev pub capture_if_there : Option Capture → FileList → FileList
capture_if_there None others = others
capture_if_there (Some c) others = capture_then c others

-- how many rules a member of a list is, with those in it
abbrev pub entry_rules : Entry → ℕ
entry_rules (Include name) = 0
entry_rules (Rule r) = rules_of_rule (rule_of r)
