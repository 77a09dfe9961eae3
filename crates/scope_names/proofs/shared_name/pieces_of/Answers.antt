use Rattle.std.proofs.Common.{Some, None, lit<, rules}
use Rattle.std.proofs.lemmas.Str.Pattern.{split_parts}
use Rattle.scope_names.proofs.Cuts.{piece_added, last_added}
use Rattle.scope_names.proofs.shared_name.pieces_of.Goals as goal

pub loop-piece-preserved : goal.loop-piece-preserved
loop-piece-preserved c =
    let parts = split_parts 32 c.loop-piece.rest.now (Some (c.in-Some.piece, c.in-Some.behind))
    c.in-Some.ensures.cases (lit< tt) in (
      search rules,
      piece_added c.loop-piece.all.items c.add_piece.new.all.items c.args.text.now c.loop-piece.rest.now
          c.in-Some.piece.now c.in-Some.behind.now c.in_ok-add_piece.ensures c.loop-piece.invariant.1 parts.0 parts.1,
    )

pub returns : goal.returns
returns c =
    let whole = split_parts 32 c.loop-piece.rest.now None c.in_default.ensures.cases (lit< tt) in
    last_added c.loop-piece.all.items c.add_piece-2.new.all.items c.args.text.now c.loop-piece.rest.now
    c.in_ok-add_piece-2.ensures c.loop-piece.invariant.1 whole
