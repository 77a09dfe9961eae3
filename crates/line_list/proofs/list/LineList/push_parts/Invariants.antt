use Rattle.std.proofs.Common.{◌≡◌, ◌+◌, ◌-◌, ◌<◌, ◌≤◌, ◌++◌, take, drop, length}
use Rattle.line_list.specs.Parts.{items_of}
use Rattle.line_list.proofs.list.LineList.push_parts.Given as goal

abbrev pub invariant-loop-at : goal.invariant-loop-at
invariant-loop-at g l = record {
  rises : l.from ≤ l.at;
  within : l.at ≤ l.end;
  there : l.at < l.end → l.n < length l.parts;
  begins : l.at < l.end → length (items_of (take l.n l.parts)) ≤ l.at;
  ends : l.at < l.end → l.at < length (items_of (take (l.n + 1) l.parts));
  added : l.self ≡ l.initial.self ++ take (l.at - l.from) (drop l.from (items_of l.parts));
}

abbrev pub decreases-loop-at : goal.decreases-loop-at
decreases-loop-at g l = l.end - l.at
