use Rattle.std.proofs.Common.{◌≡◌, ◌+◌, ◌-◌, ◌*◌, ◌<◌}
use Rattle.syntax_defs.specs.PatternSyntax.{body_at, steps}
use Rattle.onig_parse.proofs.reader.Reader.+forms.Given as goal

abbrev pub decreases-body : goal.decreases-body
decreases-body l = 4 * l.levels

abbrev pub decreases-group : goal.decreases-group
decreases-group l = 4 * l.levels + 1

abbrev pub decreases-step : goal.decreases-step
decreases-step l = 4 * l.levels + 3

abbrev pub decreases-take_group : goal.decreases-take_group
decreases-take_group l = 4 * l.levels + 2

-- the steps that are left give what the whole body is
abbrev pub invariant-body-loop-left : goal.invariant-body-loop-left
invariant-body-loop-left l = record {
  some : 0 < l.levels;
  rest : steps (body_at (l.levels - 1)) l.left (l.levels - 1) l.options l.body l.self
      ≡ body_at l.levels l.options l.fn.self;
}

abbrev pub decreases-body-loop-left : goal.decreases-body-loop-left
decreases-body-loop-left l = l.left
