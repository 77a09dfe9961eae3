use Rattle.std.proofs.Common.{◌≡◌, ◌++◌, map}
use Rattle.serde_json.specs.View.{members_view}
use Rattle.grammar_defs.specs.GrammarShape.{named_of, nameds_faults}
use Rattle.grammar_json.specs.NamedViews.{named_view}
use Rattle.grammar_json.proofs.named.read_named.Given as goal

-- what was read, and what is left to read
abbrev pub invariant-loop-key : goal.invariant-loop-key
invariant-loop-key l = record {
  faults : nameds_faults (members_view l.members.entries) ≡ nameds_faults (members_view l.key-iterator);
  named : map named_view l.named ++ named_of (members_view l.key-iterator) ≡ named_of (members_view l.members.entries);
}
