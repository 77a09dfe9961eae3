use Rattle.std.proofs.Common.{◌≡◌, length, map, ap, arith}
use Rattle.std.proofs.lemmas.List.{length-map}
use Rattle.grammar_defs.specs.FileRules.{placed, nothing}
use Rattle.grammar_json.specs.FileViews.{rule_of as file_rule}
use Rattle.rule_table.specs.Views.{rule_of}
use Rattle.rule_graph.proofs.WalkLemmas.{room_of}
use Rattle.rule_graph.proofs.walk.Walk.push_listed.Goals as goal

pub listed_rule-requires-clause-numbers : goal.listed_rule-requires-clause-numbers
listed_rule-requires-clause-numbers c =
    let seen : length (map rule_of c.self.inside.rules.items) ≡ length c.args.self.now.rules =
    ap (λ w. length w.rules) c.self.view_is in
    omega (
      arith,
      seen,
      length-map c.self.inside.rules.items rule_of,
      c.len-id.ensures,
      room_of c.args.targets.now c.args.self.now (placed (file_rule c.args.rule.now) nothing) c.requires,
    )
