use Rattle.reuse_parser.proofs.Single.{cut_grows}
use Rattle.reuse_parser.proofs.list.cut_opener.Goals as goal

pub returns : goal.returns
returns c = rw (c.in_ok-node.ensures, c.size_of.ensures, c.end_of.ensures)
    (cut_grows c.args.around c.args.mark c.args.rest.now c.requires.around.room c.requires.full c.requires.opener
    c.requires.follow)
