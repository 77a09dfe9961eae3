use Rattle.text_pos.specs.Lengths.{IsLess}
use Rattle.node_reader_tests.proofs.tests.agrees.Given as goal

-- the offset rises
abbrev pub invariant-loop : goal.invariant-loop
invariant-loop l = ¬ IsLess l.offset l.reader.reached
