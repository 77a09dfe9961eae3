-- The lists of a rule that stand before a line is run: all but the end patterns whose texts are made of captures.
use Rattle.std.specs.Prelude.{ℕ, List, [], map, Bool, true, false, not, Option, None, option_and_then}
use Rattle.canonical_patterns.specs.ReadTrees.{read_tree}
use Rattle.rule_defs.specs.Rules.{Kind, BeginEnd, BeginWhile, Rule, Slot, Later}
use Rattle.line_defs.specs.Machine.{Machine}
use Rattle.line_defs.specs.Search.{Choice, OfEnd, choice_of, pattern_of, with_groups, rule_choices, in_order}
use Rattle.line_search.specs.declared.lists.RuleLists.{RuleLists}
use Rattle.line_search.specs.Choices.{AreOf}

-- a machine of some rules that reads no text
abbrev pub early : List Rule → Machine
early rules = record { rules = rules; injections = []; reader = λ text. None; budget = 0; long = 0 }

-- the pattern of `end` or `while`, where its text is not made of captures
abbrev pub early_finish : Rule → List Choice
early_finish rule = choice_of OfEnd (pattern_of rule.finish)

abbrev pub same_flag : Bool → Bool → Bool
same_flag true flag = flag
same_flag false flag = not flag

-- the end, where it stands before the patterns inside, or where behind them
abbrev pub end_for : Kind → (here : Bool) → Rule → List Choice
end_for BeginEnd true rule = early_finish rule
end_for _ here rule = []

abbrev pub end_where : (last : Bool) → Rule → List Choice
end_where last rule = end_for rule.kind (same_flag rule.finish_last last) rule

abbrev pub with_early_end : Kind → Rule → (inside : List Choice) → List Choice
with_early_end BeginEnd rule inside = in_order rule.finish_last (early_finish rule) inside
with_early_end _ rule inside = inside

abbrev pub early_choices : List Rule → Rule → List Choice
early_choices rules rule = with_early_end rule.kind rule (rule_choices (early rules) rule.active)

abbrev pub while_choices : Kind → Rule → List Choice
while_choices BeginWhile rule = early_finish rule
while_choices _ rule = []

abbrev pub lists_of : List Rule → Rule → RuleLists
lists_of rules rule = record { inside = early_choices rules rule; goes_on = while_choices rule.kind rule }

abbrev pub all_lists : List Rule → List RuleLists
all_lists rules = map (lists_of rules) rules

-- the patterns belong to so many rules, and have no more groups
pub record AreListsOf (rules groups : ℕ) (lists : RuleLists) : Type 0 where
  pub inside : AreOf rules groups lists.inside
  pub goes_on : AreOf rules groups lists.goes_on

-- an end whose text is made of captures, from the text that a frame keeps
abbrev pub late_choice : Slot → (end_text : Option (List ℕ)) → List Choice
late_choice (Later text groups) end_text =
    choice_of OfEnd (option_and_then (with_groups groups) (option_and_then read_tree end_text))
late_choice _ end_text = []
