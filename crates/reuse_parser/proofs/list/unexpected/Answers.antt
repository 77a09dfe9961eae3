use Rattle.reuse_parser.proofs.Single.{lone_grows}
use Rattle.reuse_parser.proofs.list.unexpected.Goals as goal

pub returns : goal.returns
returns c = rw (c.in_ok-node.ensures, c.size_of.ensures, c.end_of.ensures)
    (lone_grows c.args.around c.args.mark c.args.kinds c.args.rest.now c.requires.around.room c.requires.closer
    c.requires.apart c.requires.follow)
