use Rattle.std.proofs.Common.{◌≡◌, ◌++◌, take}
use Rattle.line_list.proofs.list.LineList.push_items.Given as goal

abbrev pub invariant-loop-item : goal.invariant-loop-item
invariant-loop-item g l = l.self ≡ l.initial.self ++ (take l.item-index l.items)
