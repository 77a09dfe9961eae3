-- How the numbers of rules are told, and where the parts of a rule begin.
use Rattle.std.specs.Prelude.{◌≡◌, ℕ, List, map}
use Rattle.scope_defs.specs.declared.types.RuleId.{RuleId}
use Rattle.grammar_defs.specs.FileRules.{FileRule}
use Rattle.graph_defs.specs.ListedRules.{captures_from, begin_from, end_from, while_from, patterns_from}
use Rattle.rule_graph.specs.declared.lists.Firsts.{Firsts}

abbrev pub numbers : List RuleId → List ℕ
numbers ids = map (λ id. id.0) ids

pub record AreFirsts (n : ℕ) (r : FileRule) (f : Firsts) : Type 0 where
  pub captures : f.captures ≡ captures_from n r
  pub begin : f.begin ≡ begin_from n r
  pub end : f.end ≡ end_from n r
  pub keep : f.keep ≡ while_from n r
  pub patterns : f.patterns ≡ patterns_from n r
