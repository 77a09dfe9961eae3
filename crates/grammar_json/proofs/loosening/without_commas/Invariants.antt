use Rattle.std.proofs.Common.{◌≡◌, ◌++◌, drop}
use Rattle.grammar_defs.specs.Loosening.{without_commas}
use Rattle.grammar_defs.specs.declared.stand.Stand.TheVariants.{Outside}
use Rattle.grammar_json.proofs.loosening.without_commas.Given as goal

-- what was made, and what is made of the rest
abbrev pub invariant-loop-at : goal.invariant-loop-at
invariant-loop-at l = l.made ++ without_commas l.stand (drop l.at l.bytes) ≡ without_commas Outside l.bytes
