use Rattle.std.proofs.Common.{rules, ◌≡◌, ◌∷◌, List, sym, ◌∙◌, subst}
use Rattle.text_pos.specs.Lengths.{IsLess}
use Rattle.text_pos.specs.declared.length.Length.{Length}
use Rattle.pairing_defs.specs.declared.Mark.{Mark}
use Rattle.tree_defs.specs.Tree.{Tree}
use Rattle.bracket_ast.specs.Shapes.{or_nothing}
use Rattle.reuse_parser.specs.declared.place.Around.{Around}
use Rattle.reuse_parser.specs.Parsing.{start_of, size_of, next_start, Follow, Grows}
use Rattle.reuse_parser.proofs.Made.{pair_is, left_is}
use Rattle.reuse_parser.proofs.Marks.{same_place}
use Rattle.reuse_parser.proofs.Pairs.{pair_grows, left_grows}
use Rattle.reuse_parser.proofs.Loops.{parsed_more, parsed_whole, runs_fit, root_leaves}
use Rattle.reuse_parser.proofs.list.+parsing.Goals as goal

-- where no text is before a mark, the mark starts at the place
met : (a : Around) (at : Length) (ms : List Mark) (m : Mark) (rest : List Mark) → ms ≡ m ∷ rest → Follow at a.end ms
    → ¬ IsLess at (next_start a.end ms) → at ≡ start_of m
met a at ms m rest are follow none = same_place at (start_of m)
    (subst (λ l. ¬ IsLess at (next_start a.end l)) are none) (subst (λ l. Follow at a.end l) are follow).0

grows_here : (a : Around) (at : Length) (ms : List Mark) (m : Mark) (rest : List Mark) (t : Tree) (to : Length)
    (left : List Mark) → ms ≡ m ∷ rest → Follow at a.end ms → ¬ IsLess at (next_start a.end ms)
    → Grows a (start_of m) (m ∷ rest) t to left → Grows a at ms t to left
grows_here a at ms m rest t to left are follow none g =
    subst (λ l. Grows a at l t to left) (sym are)
    (subst (λ p. Grows a p (m ∷ rest) t to left) (sym (met a at ms m rest are follow none)) g)

pub parse_child-returns-in_ok-parse_pair-in-Opener-clause-some :
    goal.parse_child-returns-in_ok-parse_pair-in-Opener-clause-some
parse_child-returns-in_ok-parse_pair-in-Opener-clause-some t c = grows_here _ _ _ _ _ _ _ _ c.in-Some.ensures.cases.0
    c.requires.follow (search rules) c.in_ok-parse_pair-in-Opener.ensures

pub parse_child-returns-in_ok-cut_opener-in-Opener-2-clause-some :
    goal.parse_child-returns-in_ok-cut_opener-in-Opener-2-clause-some
parse_child-returns-in_ok-cut_opener-in-Opener-2-clause-some t c = grows_here _ _ _ _ _ _ _ _
    c.in-Some.ensures.cases.0 c.requires.follow (search rules) c.in_ok-cut_opener-in-Opener-2.ensures

pub parse_child-returns-in_ok-unexpected-in-Closer-2-clause-some :
    goal.parse_child-returns-in_ok-unexpected-in-Closer-2-clause-some
parse_child-returns-in_ok-unexpected-in-Closer-2-clause-some t c = grows_here _ _ _ _ _ _ _ _
    c.in-Some.ensures.cases.0 c.requires.follow (search rules) c.in_ok-unexpected-in-Closer-2.ensures

pub parse_list-loop-nodes-preserved : goal.parse_list-loop-nodes-preserved
parse_list-loop-nodes-preserved t c = rw c.in_ok-push.ensures.items
    (parsed_more _ _ _ _ _ _ _ _ _ c.loop-nodes.invariant (rw c.in-Some.is at c.in_ok-child.ensures.some)
    (search rules))

pub parse_list-join-requires : goal.parse_list-join-requires
parse_list-join-requires t c = rw c.deref.ensures.value (runs_fit _ _ _ _ _ _ c.loop-nodes.invariant (search rules))

pub parse_list-returns : goal.parse_list-returns
parse_list-returns t c = parsed_whole _ _ _ _ _ _ (or_nothing c.in_ok-tree.tree.root) c.loop-nodes.invariant
    (c.in_ok-child.ensures.none c.in_default.is)
    (root_leaves c.in_ok-tree.tree.root ∙ (rw c.deref.ensures.value at c.in_ok-tree.ensures))

pub parse_pair-returns-in-Some : goal.parse_pair-returns-in-Some
parse_pair-returns-in-Some t c =
    let g = pair_grows c.args.around c.within.result c.args.mark c.args.kind c.args.rest.now
    (or_nothing c.in_ok-inside.inside.tree.root)
    c.in_ok-inside.inside.behind.at c.in_ok-inside.inside.behind.marks.now c.in-Some.closing.mark
    c.in-Some.closing.rest.now
    c.requires.room c.requires.opener c.requires.follow c.within.ensures
    (rw c.end_of.ensures at c.in_ok-inside.ensures) c.in-Some.ensures.some in
    let node = pair_is c.in_ok-node-in-Some.node c.in_ok-opener.opener c.in_ok-closer-in-Some.closer c.as_ref.result
    c.in_ok-inside.inside.tree.root (size_of c.args.mark) c.args.kind
    (size_of c.in-Some.closing.mark) c.in_ok-node-in-Some.ensures
    (rw c.size_of.ensures at c.in_ok-opener.ensures) (rw c.size_of-in-Some.ensures at c.in_ok-closer-in-Some.ensures)
    c.as_ref.ensures.value in
    rw (node, c.end_of-in-Some.ensures) g

pub parse_pair-returns : goal.parse_pair-returns
parse_pair-returns t c =
    let g = left_grows c.args.around c.within.result c.args.mark c.args.kind c.args.rest.now
    (or_nothing c.in_ok-inside.inside.tree.root)
    c.in_ok-inside.inside.behind.at c.in_ok-inside.inside.behind.marks.now
    c.requires.room c.requires.opener c.requires.follow c.within.ensures
    (rw c.end_of.ensures at c.in_ok-inside.ensures) (c.closer_for.ensures.none c.in-None.is) in
    let node = left_is c.in_ok-node-in-None.node c.in_ok-opener.opener c.as_ref-in-None.result
    c.in_ok-inside.inside.tree.root (size_of c.args.mark) c.args.kind c.in_ok-node-in-None.ensures
    (rw c.size_of.ensures at c.in_ok-opener.ensures) c.as_ref-in-None.ensures.value in
    rw node g
