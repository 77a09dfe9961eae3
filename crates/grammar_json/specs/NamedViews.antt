-- How a named rule and a whole grammar stand for those of a file, and what an answer says of a file.
use Rattle.grammar_defs.specs.FileRules as file
use Rattle.grammar_json.specs.FileViews.{rule_of}
use Rattle.grammar_json.specs.declared.named.NamedRule.{NamedRule}

abbrev pub named_view : NamedRule → file.NamedRule
named_view n = record { key = n.key; rule = rule_of n.rule }
