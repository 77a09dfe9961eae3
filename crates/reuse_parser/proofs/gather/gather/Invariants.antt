use Rattle.std.proofs.Common.{◌≡◌, ◌+◌, ◌≤◌, ◌++◌, length}
use Rattle.mark_source.specs.Source.{ahead}
use Rattle.reuse_parser.specs.Parsing.{last_place, AllFit, given_after}
use Rattle.reuse_parser.proofs.gather.gather.Given as goal

abbrev pub invariant-loop-source : goal.invariant-loop-source
invariant-loop-source g l = record {
  all : l.all.items ++ ahead (g.S.MarkSource.told l.source) ≡ ahead (g.S.MarkSource.told l.initial.source);
  counted : l.steps + length (ahead (g.S.MarkSource.told l.source)) ≡ l.initial.steps + length (ahead
      (g.S.MarkSource.told l.initial.source));
  place : last_place (g.S.MarkSource.told l.source).place (ahead (g.S.MarkSource.told l.source)) ≡ last_place
      (g.S.MarkSource.told l.initial.source).place (ahead (g.S.MarkSource.told l.initial.source));
  fit : AllFit l.all.items;
  given : (g.S.MarkSource.told l.source).given ≡ given_after (length l.all.items) (g.S.MarkSource.told
      l.initial.source).given;
  few_given : (g.S.MarkSource.told l.source).given + length (ahead (g.S.MarkSource.told l.source)) ≤ (g.S.MarkSource.told
      l.initial.source).given + length (ahead (g.S.MarkSource.told l.initial.source));
  lines : (g.S.MarkSource.told l.source).lines ≡ (g.S.MarkSource.told l.initial.source).lines;
}

abbrev pub decreases-loop-source : goal.decreases-loop-source
decreases-loop-source g l = length (ahead (g.S.MarkSource.told l.source))
