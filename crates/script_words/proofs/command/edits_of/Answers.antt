use Rattle.std.proofs.Common.{◌≡◌, sym, ◌∙◌, ap}
use Rattle.std.specs.Prelude.{None, Some}
use Rattle.serde_json.specs.View.{view}
use Rattle.script_words.specs.Script.{edit_in}
use Rattle.script_words.proofs.EditLemmas.{edits_of_items-take_more, no_edits}
use Rattle.script_words.proofs.command.edits_of.Goals as goal

pub returns-in-None : goal.returns-in-None
returns-in-None c =
    let none : edit_in (view c.item-item.result) ≡ None = sym c.in_ok-edit.ensures ∙ c.in-None.is in
    no_edits c.args.items.now c.loop-item.item-index c.item-item.result c.loop-item-test.true c.item-item.is none

pub loop-item-preserved : goal.loop-item-preserved
loop-item-preserved c =
    let some : edit_in (view c.item-item.result) ≡ Some c.in-Some.edit = sym c.in_ok-edit.ensures ∙ c.in-Some.is in
    edits_of_items-take_more c.args.items.now c.loop-item.item-index c.item-item.result c.loop-item.edits
    c.in-Some.edit c.loop-item-test.true c.item-item.is c.loop-item.invariant some
    ∙ ap Some (sym c.in_ok-push-in-Some.ensures.ok)
