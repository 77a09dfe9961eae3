-- The lists in a rule or in a capture weigh less than the list in which it stands.
use Rattle.std.specs.Prelude.{ℕ, ◌+◌, ◌≤◌, max, List, [], ◌∷◌, Option, Some, None}
use Rattle.std.proofs.Common.{arith}
use Rattle.grammar_defs.specs.FileRules.{weight, FileList}
use Rattle.grammar_json.specs.declared.file_rules.Entry.{Entry}
use Rattle.grammar_json.specs.declared.file_rules.Entry.TheVariants.{Include, Rule}
use Rattle.grammar_json.specs.declared.file_rules.Capture.{Capture}
use Rattle.grammar_json.specs.declared.file_rules.Captures.TheDeep.{deep-Entry, deep-Capture}
use Rattle.grammar_json.specs.declared.file_rules.Captures.TheShapes.{split-RawRule-captures-at-1}
use Rattle.grammar_json.specs.declared.file_rules.Captures.TheShapes.{split-Capture-patterns-at-1}
use Rattle.grammar_json.specs.FileViews.{if_there, entry_list, capture_list, entry_then, capture_then}
use denote.Param.Weighed.{most, or_weight, w_const, w_or, w_pair, w_this}

-- what a list that may be there adds, as the logic counts it
abbrev captures_weight : Option FileList → ℕ
captures_weight o = or_weight (w_const (Unit {0})) (w_or (w_pair w_this (w_const (Unit {0}))) (w_const ⊥)) FileList
    (λ y. weight y + 1) (split-RawRule-captures-at-1 FileList o)

abbrev patterns_weight : Option FileList → ℕ
patterns_weight o = or_weight (w_const (Unit {0})) (w_or (w_pair w_this (w_const (Unit {0}))) (w_const ⊥)) FileList
    (λ y. weight y + 1) (split-Capture-patterns-at-1 FileList o)

captures_fit : (o : Option FileList) → captures_weight o ≤ weight (if_there o) + 1
captures_fit None = omega arith
captures_fit (Some list) = omega arith

patterns_fit : (o : Option FileList) → patterns_weight o ≤ weight (if_there o) + 1
patterns_fit None = omega arith
patterns_fit (Some list) = omega arith

entry_falls : (e : Entry) (others : FileList) → deep-Entry e + weight others ≤ weight (entry_then e others)
entry_falls (Include name) others = omega arith
entry_falls (Rule r) others =
    omega (
      arith,
      captures_fit r.captures,
      captures_fit r.begin_captures,
      captures_fit r.end_captures,
      captures_fit
          r.while_captures,
      patterns_fit r.patterns,
    )

pub entries_fall : (entries : List Entry) → max (most deep-Entry entries) 0 ≤ weight (entry_list entries)
entries_fall [] = omega arith
entries_fall (e ∷ entries) = omega (arith, entries_fall entries, entry_falls e (entry_list entries))

capture_falls : (c : Capture) (others : FileList) → deep-Capture c + weight others ≤ weight (capture_then c others)
capture_falls c others = omega (arith, patterns_fit c.patterns)

pub captures_fall : (captures : List Capture) → max (most deep-Capture captures) 0 ≤ weight (capture_list captures)
captures_fall [] = omega arith
captures_fall (c ∷ captures) = omega (arith, captures_fall captures, capture_falls c (capture_list captures))
