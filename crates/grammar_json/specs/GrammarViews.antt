-- How a grammar stands for that of its file, and what an answer says of a file.
use Rattle.std.specs.Prelude.{◌≡◌, map, Result, Ok, Err, ⊤}
use Rattle.grammar_defs.specs.FileRules as file
use Rattle.grammar_defs.specs.GrammarShape.{GrammarReading, no_json, wrong_kind, too_many_rules, grammar}
use Rattle.grammar_json.specs.NamedViews.{named_view}
use Rattle.grammar_json.specs.declared.grammar.Grammar.{Grammar}
use Rattle.grammar_json.specs.declared.grammar.GrammarRefusal.{GrammarRefusal}
use Rattle.grammar_json.specs.declared.grammar.GrammarRefusal.TheVariants.{Json, Shape, TooManyRules, Memory}

abbrev pub grammar_view : Grammar → file.Grammar
grammar_view g = record {
  scope = g.scope;
  patterns = g.patterns;
  repository =
      map named_view g.repository;
  injections = map named_view g.injections;
}

-- the answer is what the file is read as; want of memory says nothing of it
abbrev pub GivesGrammar : Result Grammar GrammarRefusal → GrammarReading → Type 0
GivesGrammar (Ok g) reading = reading ≡ grammar (grammar_view g)
GivesGrammar (Err Json) reading = reading ≡ no_json
GivesGrammar (Err (Shape path)) reading = reading ≡ wrong_kind path
GivesGrammar (Err (TooManyRules count)) reading = reading ≡ too_many_rules count
GivesGrammar (Err Memory) reading = ⊤
