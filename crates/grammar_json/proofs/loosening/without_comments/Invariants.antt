use Rattle.std.proofs.Common.{◌≡◌, ◌++◌, drop}
use Rattle.grammar_defs.specs.Loosening.{without_comments}
use Rattle.grammar_defs.specs.declared.stand.Stand.TheVariants.{Outside}
use Rattle.grammar_json.proofs.loosening.without_comments.Given as goal

-- what was made, and what is made of the rest
abbrev pub invariant-loop-at : goal.invariant-loop-at
invariant-loop-at l = l.made ++ without_comments l.stand (drop l.at l.bytes) ≡ without_comments Outside l.bytes
