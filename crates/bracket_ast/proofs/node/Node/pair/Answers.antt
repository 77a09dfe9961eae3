use Rattle.std.proofs.Common.{◌≡◌, ◌+◌, ap, ◌∙◌}
use Rattle.text_pos.specs.Lengths.{plus}
use Rattle.tree_defs.specs.Shape.{length_of, and_closer}
use Rattle.bracket_ast.specs.Shapes.{or_nothing, closer_length, nows}
use Rattle.bracket_ast.proofs.Pairs.{pair_keeps}
use Rattle.bracket_ast.proofs.node.Node.pair.Goals as goal

pub share-requires : goal.share-requires
share-requires c =
    let o : c.in_ok-opener.opener ≡ c.args.opener.now = c.in_ok-opener.ensures.same in
    let i : c.in_ok-inside.inside ≡ nows c.args.inside = c.in_ok-inside.ensures.same in
    let l : c.in_ok-closer.closer ≡ nows c.args.closer = c.in_ok-closer.ensures.same in
    let extent : c.with_closer-extent.result
    ≡ and_closer (plus (length_of c.args.opener.now) (length_of (or_nothing (nows c.args.inside))))
    (closer_length (nows c.args.closer)) =
    c.with_closer-extent.ensures ∙ ap (λ len. and_closer len (closer_length (nows c.args.closer)))
    (c.joined.ensures ∙ ap (λ len. plus len c.length_or_none.result) c.length.ensures.value
    ∙ ap (λ len. plus (length_of c.args.opener.now) len) c.length_or_none.ensures) in
    rw (o, i, l) (pair_keeps c.args.opener.now (nows c.args.inside) (nows c.args.closer) _ _ _ _
    c.requires.brackets c.length.ensures.sound c.in_ok-inside.ensures.sound c.requires.whole
    extent (ap (λ n. n + 1) c.depth_or_none-depth.ensures) c.cut_or_none-cut.ensures
    c.missing_or_none-missing.ensures)
