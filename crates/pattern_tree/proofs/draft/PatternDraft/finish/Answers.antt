use Rattle.std.proofs.Common.{◌≤◌, ap}
use Rattle.pattern_tree.proofs.ListLemmas.{AreLists-raise}
use Rattle.pattern_tree.proofs.draft.PatternDraft.finish.Goals as goal

pub of_arena-requires-clause-lists : goal.of_arena-requires-clause-lists
of_arena-requires-clause-lists c =
    let more : c.self.inside.named ≤ c.args.groups = rw (ap (λ d. d.named) c.self.view_is) c.requires.groups in
    AreLists-raise 0 _ _ _ more c.self.invariant
