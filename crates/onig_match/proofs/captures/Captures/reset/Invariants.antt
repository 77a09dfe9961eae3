use Rattle.std.proofs.Common.{◌≡◌, ◌+◌, ◌≤◌, replicate, None, vec_capacity}
use Rattle.onig_match.proofs.captures.Captures.reset.Given as goal

abbrev pub invariant-loop-n : goal.invariant-loop-n
invariant-loop-n l = record {
  items : l.self-inside.items.items ≡ replicate l._n None;
  capacity : l.self-inside.room + 1 ≤ vec_capacity l.self-inside.items;
  room : l.self-inside.room ≡ l.initial.self-inside.room;
}
