use Rattle.std.proofs.Common.{◌≡◌, map, take}
use Rattle.serde_json.specs.View.{view}
use Rattle.script_words.specs.ReplyText.{pair_data}
use Rattle.script_words.proofs.reply.pairs_value.Given as goal

-- the pairs so far have their values
abbrev pub invariant-loop-pair : goal.invariant-loop-pair
invariant-loop-pair l = map view l.list.items ≡ map pair_data (take l.pair-index l.pairs)
