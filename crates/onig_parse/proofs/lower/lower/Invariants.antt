use Rattle.std.proofs.Common.{◌≡◌, take, map, length}
use Rattle.syntax_defs.specs.PatternMeaning.{FitsLists}
use Rattle.onig_parse.proofs.lower.lower.Given as goal

abbrev pub invariant-loop-items : goal.invariant-loop-items
invariant-loop-items l = record {
  fits : FitsLists l.text l.parsed l.lengths l.draft.lists
      (map (λ items. items.items) (take l.items-index l.items-items));
  count : length l.draft.lists ≡ l.items-index;
  named : l.draft.named ≡ l.parsed.groups;
}
