-- What a pattern is with the lists that it keeps, and a draft with those that it has so far.
use Rattle.std.specs.Prelude.{◌<◌, length}
use Rattle.pattern_defs.specs.Patterns.{Tree, AreLists}
use Rattle.pattern_tree.specs.Drafts.{Drafted}
use Rattle.pattern_tree.specs.declared.pattern.Pattern.TheInside.{Inside}
use Rattle.pattern_tree.specs.declared.draft.PatternDraft.TheInside as draft

abbrev pub tree_of : Inside → Tree
tree_of p = record { lists = p.arena; top = p.top; groups = p.groups }

pub record IsKept (p : Inside) : Type 0 where
  pub lists : AreLists 0 p.groups p.arena
  pub top : p.top.0 < length p.arena

abbrev pub drafted : draft.Inside → Drafted
drafted d = record { lists = d.arena; named = d.named }

abbrev pub IsDraft : draft.Inside → Type 0
IsDraft d = AreLists 0 d.named d.arena
