use Rattle.std.proofs.Common.{◌≡◌, map, take}
use Rattle.serde_json.specs.View.{view}
use Rattle.script_words.specs.ReplyText.{guide_data}
use Rattle.script_words.proofs.reply.guides_value.Given as goal

-- the guides so far have their values
abbrev pub invariant-loop-guide : goal.invariant-loop-guide
invariant-loop-guide l = map view l.list.items ≡ map guide_data (take l.guide-index l.guides)
