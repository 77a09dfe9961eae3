use Rattle.std.proofs.Common.{◌≡◌, ◌++◌, map, reverse}
use Rattle.serde_json.specs.Data.{string}
use Rattle.serde_json.specs.View.{view}
use Rattle.script_words.proofs.reply.scopes_value.Given as goal

-- the names so far have their values, and those that are left come behind them
abbrev pub invariant-loop-name : goal.invariant-loop-name
invariant-loop-name l = map view l.list.items ++ map string l.name-iterator ≡ map string (reverse l.scopes)
