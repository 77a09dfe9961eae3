use Rattle.pairing_defs.specs.Marks.{usual_texts}
use Rattle.mark_source.proofs.TextMarks.{texts_are_marked, usual_kinds}
use Rattle.node_reader_tests.proofs.texts.lines_of.Goals as goal

pub returns-clause-marked : goal.returns-clause-marked
returns-clause-marked c = rw (c.in_ok-lines.ensures.lines, c.in_ok-brackets.ensures)
    (texts_are_marked usual_texts 20000 _ usual_kinds)
