use Rattle.std.proofs.Common.{[], ◌∷◌, ◌∙◌, length, map, ap, sym, subst, arith, length-append}
use Rattle.std.specs.Prelude.{All}
use Rattle.std.proofs.lemmas.List.{map-append}
use Rattle.std.proofs.lemmas.List.Elements.{All-push}
use Rattle.rule_table.specs.Fits.{IsRule}
use Rattle.rule_table.specs.Views.{rule_of}
use Rattle.line_machine_tests.specs.declared.rows.TheConstants.{GROUPS}
use Rattle.line_machine_tests.proofs.rows.table.Goals as goal

pub loop-row-preserved : goal.loop-row-preserved
loop-row-preserved c = record {
  count = omega (arith, simp length-append at (ap length c.in_ok-push.ensures.items), c.loop-row.invariant.count);
  fit = subst (All (IsRule (length c.args.rows.now) GROUPS))
      (sym (ap (map rule_of) c.in_ok-push.ensures.items
      ∙ map-append rule_of c.loop-row.rules.items (c.in_ok-rule.field-0 ∷ [])))
      (All-push (IsRule (length c.args.rows.now) GROUPS) (map rule_of c.loop-row.rules.items)
      (rule_of c.in_ok-rule.field-0) c.loop-row.invariant.fit c.in_ok-rule.ensures);
}
