use Rattle.reuse_parser.proofs.Single.{text_grows}
use Rattle.reuse_parser.proofs.list.text_up_to.Goals as goal

pub returns : goal.returns
returns c = rw (c.in_ok-node.ensures, c.requires.next)
    (text_grows c.args.around c.args.place.at c.minus.result c.args.place.marks.now c.requires.around.room
    (rw c.requires.next at c.requires.some) c.requires.follow (rw c.requires.next at c.minus.ensures.sum))
