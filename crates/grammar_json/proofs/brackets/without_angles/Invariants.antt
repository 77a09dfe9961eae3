use Rattle.std.proofs.Common.{◌≡◌, filter, take}
use Rattle.std.specs.Prelude.{not}
use Rattle.grammar_defs.specs.BracketShape.{is_angle}
use Rattle.grammar_json.proofs.brackets.without_angles.Given as goal

-- those so far
abbrev pub invariant-loop-pair : goal.invariant-loop-pair
invariant-loop-pair l = l.kept ≡ filter (λ p. not (is_angle p)) (take l.pair-index l.pair-items)
