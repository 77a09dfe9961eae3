use Rattle.std.proofs.Common.{[], ◌∷◌, ◌∙◌, map, ap, sym, subst}
use Rattle.std.specs.Prelude.{All}
use Rattle.std.proofs.lemmas.List.{map-append}
use Rattle.std.proofs.lemmas.List.Elements.{All-push}
use Rattle.rule_table.specs.Fits.{IsEntry}
use Rattle.rule_table.specs.Views.{entry_of}
use Rattle.line_machine_tests.proofs.rows.entries.Goals as goal

pub loop-row-preserved : goal.loop-row-preserved
loop-row-preserved c =
    subst (All (IsEntry c.args.count))
    (sym (ap (map entry_of) c.in_ok-push.ensures.ok
    ∙ map-append entry_of c.loop-row.all (c.in_ok-rule_capture.field-0 ∷ [])))
    (All-push (IsEntry c.args.count) (map entry_of c.loop-row.all) (entry_of c.in_ok-rule_capture.field-0)
    c.loop-row.invariant c.in_ok-rule_capture.ensures)
