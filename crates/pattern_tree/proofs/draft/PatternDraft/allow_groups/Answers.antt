use Rattle.std.proofs.Common.{◌≤◌, arith}
use Rattle.pattern_tree.proofs.ListLemmas.{AreLists-raise}
use Rattle.pattern_tree.proofs.draft.PatternDraft.allow_groups.Goals as goal

pub invariant_of-self : goal.invariant_of-self
invariant_of-self c =
    let more : c.self.inside.named ≤ c.max-self-inside.result = rw c.max-self-inside.ensures (omega arith) in
    AreLists-raise 0 _ _ _ more c.self.invariant
