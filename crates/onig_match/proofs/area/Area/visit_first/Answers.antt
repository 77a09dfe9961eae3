use Rattle.std.proofs.Common.{◌≡◌, ◌∙◌, true, refl, sym}
use Rattle.pattern_defs.specs.Attempt.{Node}
use Rattle.onig_match.specs.Machine.{acted, behind_node}
use Rattle.onig_match.proofs.EarlyMisses.{early_start, early_ahead}
use Rattle.onig_match.proofs.NodeSteps.{here_behind}
use Rattle.onig_match.proofs.Steps.{visits_once}
use Rattle.onig_match.proofs.area.Area.visit_first.Goals as goal

pub returns-in-Some-early_miss : goal.returns-in-Some-early_miss
returns-in-Some-early_miss c =
    let node = c.in-Repeat-default-default-default-true.is in
    let greedy : c.in-Repeat-default-default-default-true.greedy ≡ true =
    sym c.in-Repeat-default-default-default-true.greedy-is ∙ c.in-Repeat-default-default-default-true.greedy-test in
    rw (
      c.visited.ensures,
      c.go.ensures,
      c.after_node-in-Some-early_miss.ensures,
      node,
      greedy,
    )
    (early_start c.args.on.now c.args.self.now c.in-Repeat-default-default-default-true.body
    c.in-Repeat-default-default-default-true.least c.in-Repeat-default-default-default-true.most
    (behind_node c.args.here) c.args.at c.in-Some-early_miss.more
    (here_behind c.args.on.now c.args.self.now c.args.here c.args.at c.requires.here)
    (c.if-is_open.ensures refl).0 (c.if-is_open.ensures refl).1 (c.in-Some-early_miss.ensures).early)

pub returns-in-Some-early_miss-2 : goal.returns-in-Some-early_miss-2
returns-in-Some-early_miss-2 c =
    rw (
      c.visited-in-Some-early_miss-2.ensures,
      c.after_look.ensures,
      c.after_node-in-Some-early_miss-2.ensures,
      c.in-Ahead.is,
    )
    (early_ahead c.args.on.now c.args.self.now c.in-Ahead.body c.in-Ahead.wanted (behind_node c.args.here) c.args.at
    c.in-Some-early_miss-2.more (here_behind c.args.on.now c.args.self.now c.args.here c.args.at c.requires.here)
    (c.in-Some-early_miss-2.ensures).early)

pub returns : goal.returns
returns c =
    rw c.once.ensures
    (visits_once c.args.on.now c.args.self.now
    (acted c.args.on.now c.args.self.now (Node c.args.node.now) (behind_node c.args.here) c.args.at)
    c.visit_node.new.self c.visit_node.result c.visit_node.ensures)
