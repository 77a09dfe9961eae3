use Rattle.std.proofs.Common.{◌≡◌, take, map}
use Rattle.syntax_defs.specs.PatternMeaning.{arm_of}
use Rattle.onig_parse.proofs.lower.arms_of.Given as goal

abbrev pub invariant-loop-id : goal.invariant-loop-id
invariant-loop-id l = l.arms ≡ map (arm_of l.lengths) (take l.id-index l.ids)
