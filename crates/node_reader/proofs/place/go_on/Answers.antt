use Rattle.std.proofs.Common.{sym, subst}
use Rattle.text_pos.specs.Lengths.{plus}
use Rattle.tree_defs.specs.Shape.{Fits}
use Rattle.node_reader.specs.Paths.{steps_back}
use Rattle.node_reader.proofs.Paths.{rest_fits, path_on, offset_on}
use Rattle.node_reader.proofs.place.go_on.Goals as goal

pub behind-place-requires : goal.behind-place-requires
behind-place-requires c =
    let p = c.args.place.now in
    rest_fits (steps_back p) (plus p.rest c.args.by)
    (subst (λ o. Fits o) (sym (offset_on (steps_back p) p.rest c.args.by)) c.requires.fits)

pub returns-clause-is : goal.returns-clause-is
returns-clause-is c =
    let p = c.args.place.now in
    rw c.behind-place.ensures (record {
      path = path_on (steps_back p) p.node.now p.rest c.args.by c.requires.is.path;
      fits = subst (λ o. Fits o) (sym (offset_on (steps_back p) p.rest c.args.by)) c.requires.fits;
      room = c.requires.is.room;
    })

pub returns-clause-offset : goal.returns-clause-offset
returns-clause-offset c =
    let p = c.args.place.now in
    rw c.behind-place.ensures (offset_on (steps_back p) p.rest c.args.by)
