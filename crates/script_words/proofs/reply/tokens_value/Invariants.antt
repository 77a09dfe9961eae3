use Rattle.std.proofs.Common.{◌≡◌, map, take}
use Rattle.serde_json.specs.View.{view}
use Rattle.script_words.specs.ReplyText.{token_data}
use Rattle.script_words.proofs.reply.tokens_value.Given as goal

-- the tokens so far have their values
abbrev pub invariant-loop-token : goal.invariant-loop-token
invariant-loop-token l = map view l.list.items ≡ map token_data (take l.token-index l.tokens)
