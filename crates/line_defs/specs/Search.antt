-- What the patterns of a frame find: those of its active rules, and its end pattern before or behind them. As
-- vscode-textmate has it.
use Rattle.std.specs.Prelude.{ℕ, nat_le, List, [], ◌∷◌, ◌++◌, map, flat_map, slice_get, Bool, true, false}
use Rattle.std.specs.Prelude.{if◌then◌else◌, Option, Some, None, option_and_then}
use Rattle.pattern_defs.specs.declared.outcomes.Flags.{Flags}
use Rattle.pattern_defs.specs.Patterns.{Tree}
use Rattle.pattern_defs.specs.Attempt.{Ran, Hit, Miss, Spent, Captures}
use Rattle.pattern_defs.specs.FirstMatch.{Pair, first_pair, tried}
use Rattle.scope_defs.specs.Frames.{Frame}
use Rattle.rule_defs.specs.Rules.{Kind, BeginEnd, Slot, Never, Read, Later}
use Rattle.line_defs.specs.Machine.{Machine, rule_at}
use Rattle.line_defs.specs.Frames.{is_at}
use Rattle.line_defs.specs.Runs.{State}

-- what a pattern belongs to: the end of the top frame, or a rule
pub data Of : Type 0 where
  OfEnd : Of
  OfRule : (number : ℕ) → Of

-- one of the patterns that are searched together
pub record Choice : Type 0 where
  pub of : Of
  pub tree : Tree

-- a match, from a place to a place, and what its groups took
pub record Matched : Type 0 where
  pub of : Of
  pub from : ℕ
  pub to : ℕ
  pub captures : Captures

-- what a search finds: nothing, or that an attempt was spent, or a match
pub data Found : Type 0 where
  Nothing : Found
  OutOfBudget : Found
  At : Matched → Found

-- what is searched: a text from a place, what the anchors need to know, and the budget of an attempt
pub record Sight : Type 0 where
  pub text : List ℕ
  pub place : ℕ
  pub flags : Flags
  pub budget : ℕ

-- ---- patterns

abbrev pub pattern_of : Slot → Option Tree
pattern_of (Read tree) = Some tree
pattern_of _ = None

-- a pattern that has at most so many groups
abbrev pub with_groups : ℕ → Tree → Option Tree
with_groups most tree = if nat_le tree.groups most then Some tree else None

-- The pattern of `end` or `while`. Where its text is made of captures, it is the text that the frame keeps, if that can
-- be read and has no more groups than it may.
abbrev pub finish_of : Machine → Slot → (end_text : Option (List ℕ)) → Option Tree
finish_of machine Never end_text = None
finish_of machine (Read tree) end_text = Some tree
finish_of machine (Later text groups) end_text =
    option_and_then (with_groups groups) (option_and_then machine.reader end_text)

abbrev pub choice_of : Of → Option Tree → List Choice
choice_of of None = []
choice_of of (Some tree) = record { of = of; tree = tree } ∷ []

abbrev pub rule_choices : Machine → (numbers : List ℕ) → List Choice
rule_choices machine numbers = flat_map (λ number. choice_of (OfRule number)
    (pattern_of (rule_at machine number).start)) numbers

abbrev pub finish_choice : Machine → Frame → List Choice
finish_choice machine frame = choice_of OfEnd (finish_of machine (rule_at machine frame.rule).finish frame.end_text)

-- the end pattern stands before the patterns inside or, where it comes last, behind them
abbrev pub in_order : (last : Bool) → (end inside : List Choice) → List Choice
in_order true end inside = inside ++ end
in_order false end inside = end ++ inside

-- only a begin/end rule has an end among its patterns
abbrev pub with_end : Machine → Kind → (last : Bool) → Frame → (inside : List Choice) → List Choice
with_end machine BeginEnd last frame inside = in_order last (finish_choice machine frame) inside
with_end machine _ last frame inside = inside

-- the patterns of a frame, in order
abbrev pub choices : Machine → Frame → List Choice
choices machine frame =
    with_end machine (rule_at machine frame.rule).kind (rule_at machine frame.rule).finish_last frame
    (rule_choices machine (rule_at machine frame.rule).active)

-- ---- one scan

abbrev pub found_as : Of → (from : ℕ) → Ran → Found
found_as of from (Hit to captures left) = At (record { of = of; from = from; to = to; captures = captures })
found_as of from (Miss left) = Nothing
found_as of from Spent = OutOfBudget

abbrev pub found_of : Sight → Pair → Option Choice → Found
found_of sight pair None = Nothing
found_of sight pair (Some choice) = found_as choice.of pair.place (tried sight.text sight.flags sight.budget pair)

abbrev pub found_by : Sight → List Choice → Option Pair → Found
found_by sight choices None = Nothing
found_by sight choices (Some pair) = found_of sight pair (slice_get choices pair.index)

-- what some patterns find together: the first match, by place and then by their order
abbrev pub scan : Sight → List Choice → Found
scan sight choices =
    found_by sight choices (first_pair (map (λ choice. choice.tree) choices) sight.text sight.place sight.flags
    sight.budget)

-- ---- from a run

-- `\G` holds where the run stands at its anchor, and nowhere else
abbrev pub mark : State → Option ℕ
mark state = if is_at state.place state.anchor then Some state.place else None

abbrev pub sight : Machine → (text : List ℕ) → State → Sight
sight machine text state =
    record {
      text = text;
      place = state.place;
      flags = record { first = state.first; anchor = mark state };
      budget =
          machine.budget;
    }

-- what the patterns of the top frame find
abbrev pub ordinary : Machine → (text : List ℕ) → State → Found
ordinary machine text state = scan (sight machine text state) (choices machine state.stack.top)

-- what the while pattern of a frame finds
abbrev pub while_found : Machine → (text : List ℕ) → State → Frame → Found
while_found machine text state frame = scan (sight machine text state) (finish_choice machine frame)
