use Rattle.std.proofs.Common.{◌≡◌, ◌+◌, ◌∷◌, ◌++◌, [], length, ap, ◌∙◌, arith, length-append}
use Rattle.std.specs.List.{sum_by}
use Rattle.pattern_tree.specs.Arena.{parts}
use Rattle.pattern_tree.proofs.ArenaLemmas.{length-parts, sum_by-parts, parts-push, AreEnds-push}
use Rattle.pattern_tree.proofs.arena.NodeArena.push_list.Goals as goal

pub invariant_of-self-2 : goal.invariant_of-self-2
invariant_of-self-2 c =
    let nodes = c.self.inside.nodes.items in
    let ends = c.self.inside.ends.items in
    let ends_is : c.push.new.self.items ≡ ends ++ c.in_ok-end.end ∷ [] =
    c.in_ok-push.ensures.items ∙ ap (λ read. read ++ c.in_ok-end.end ∷ []) c.reserve.ensures.items in
    let count : c.size.result ≡ sum_by length (parts nodes 0 ends) = rw c.self.view_is c.size.ensures in
    let all : c.in_ok-end.end ≡ length c.append.new.self.items =
    rw (c.in_ok-append.ensures.items, length-append nodes c.args.nodes.items)
    (omega (arith, c.in_ok-end.ensures, sum_by-parts nodes 0 ends c.self.invariant.ends)) in
    record {
      ends = rw (ends_is, ← all) (AreEnds-push 0 ends (length nodes) c.in_ok-end.end c.self.invariant.ends
          (omega (arith, all, length-append nodes c.args.nodes.items, ap length c.in_ok-append.ensures.items)));
      count = omega arith;
    }

pub returns-clause-number : goal.returns-clause-number
returns-clause-number c =
    rw (← c.self.view_is) (omega (
      arith,
      length-parts c.self.inside.nodes.items 0 c.self.inside.ends.items,
      c.in_ok-number.ensures,
      c.len.ensures,
    ))

pub returns-clause-ok : goal.returns-clause-ok
returns-clause-ok c =
    let nodes = c.self.inside.nodes.items in
    let ends = c.self.inside.ends.items in
    let ends_is : c.push.new.self.items ≡ ends ++ c.in_ok-end.end ∷ [] =
    c.in_ok-push.ensures.items ∙ ap (λ read. read ++ c.in_ok-end.end ∷ []) c.reserve.ensures.items in
    let count : c.size.result ≡ sum_by length (parts nodes 0 ends) = rw c.self.view_is c.size.ensures in
    let all : c.in_ok-end.end ≡ length nodes + length c.args.nodes.items =
    omega (arith, c.in_ok-end.ensures, sum_by-parts nodes 0 ends c.self.invariant.ends) in
    rw (c.in_ok-append.ensures.items, ends_is, ← c.self.view_is)
    (parts-push nodes c.args.nodes.items 0 ends c.in_ok-end.end c.self.invariant.ends all)
