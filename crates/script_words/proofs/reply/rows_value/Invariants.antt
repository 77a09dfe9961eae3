use Rattle.std.proofs.Common.{◌≡◌, map, take}
use Rattle.serde_json.specs.View.{view}
use Rattle.script_words.specs.ReplyText.{row_data}
use Rattle.script_words.proofs.reply.rows_value.Given as goal

-- the rows so far have their values
abbrev pub invariant-loop-row : goal.invariant-loop-row
invariant-loop-row l = map view l.list.items ≡ map row_data (take l.row-index l.rows)
