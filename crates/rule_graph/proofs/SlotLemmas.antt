-- What reading a text tells of its slot, and where a text is read later.
use Rattle.std.proofs.Common.{◌≡◌, ℕ, ◌+◌, ◌<◌, List, length, drop, get_or, ap}
use Rattle.std.specs.Prelude.{Ok, ◌==◌, ◌&&◌, ◌||◌}
use Rattle.std.specs.Str.{chars}
use Rattle.std.proofs.lemmas.List.{drop_more}
use Rattle.pattern_defs.specs.Patterns.{Tree}
use Rattle.syntax_defs.specs.Lengths.{read_pattern}
use Rattle.onig_parse.specs.Reading.{GivesPattern}
use Rattle.canonical_patterns.specs.Canonical.{canonical}
use Rattle.canonical_patterns.specs.ReadTrees.{read_tree}
use Rattle.canonical_laws.proofs.Readings.{tree_read-canonical}
use Rattle.rule_defs.specs.Rules.{Read}
use Rattle.grammar_defs.specs.RuleShape.{is_digit}
use Rattle.graph_defs.specs.Slots.{slot_by, is_later, begins_with_digit}

pub slot_of_read : (bs : List ℕ) (tree : Tree) → GivesPattern (chars bs) (Ok tree) (read_pattern (chars bs))
    → slot_by (read_tree bs) ≡ Read (canonical tree)
slot_of_read bs tree gives = ap slot_by (tree_read-canonical (chars bs) tree gives)

pub later_step : (text : List ℕ) (i c : ℕ) → i < length text → is_later (drop i text)
    ≡ ((get_or text i c == 92 && begins_with_digit (drop (i + 1) text)) || is_later (drop (i + 1) text))
later_step text i c h = ap is_later (drop_more text i c h)

pub digit_step : (text : List ℕ) (i c : ℕ) → i < length text
    → begins_with_digit (drop i text) ≡ is_digit (get_or text i c)
digit_step text i c h = ap begins_with_digit (drop_more text i c h)
