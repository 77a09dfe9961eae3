use Rattle.std.proofs.Common.{◌<◌, length, sym, subst}
use Rattle.std.specs.Prelude.{All}
use Rattle.scope_defs.specs.declared.types.RuleId.{RuleId}
use Rattle.line_search.proofs.Bounds.{ids_below}
use Rattle.line_search.proofs.injected.push_group.Goals as goal

pub push_rules-requires : goal.push_rules-requires
push_rules-requires c =
    subst (All (λ (id : RuleId). id.0 < length c.args.table.now.rules)) (sym c.as_slice.ensures)
    (ids_below (length c.args.table.now.rules) c.rule-rule.result.now.active c.rule-rule.ensures.fits.active)
