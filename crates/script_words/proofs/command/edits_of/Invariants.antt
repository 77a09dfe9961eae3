use Rattle.std.proofs.Common.{◌≡◌, take}
use Rattle.std.specs.Prelude.{Some}
use Rattle.serde_json.specs.View.{items_view}
use Rattle.script_words.specs.Script.{edits_of_items}
use Rattle.script_words.proofs.command.edits_of.Given as goal

-- the items so far are these edits
abbrev pub invariant-loop-item : goal.invariant-loop-item
invariant-loop-item l = edits_of_items (items_view (take l.item-index l.items)) ≡ Some l.edits
