use Rattle.std.proofs.Common.{◌≡◌, length, map, ap, arith}
use Rattle.std.proofs.lemmas.List.{length-map}
use Rattle.rule_table.specs.Views.{rule_of}
use Rattle.rule_graph.proofs.walk.Walk.push_group.Goals as goal

pub members-requires : goal.members-requires
members-requires c =
    let seen : length (map rule_of c.self.inside.rules.items) ≡ length c.args.self.now.rules =
    ap (λ w. length w.rules) c.self.view_is in
    omega (arith, seen, length-map c.self.inside.rules.items rule_of, c.len.ensures, c.requires)
