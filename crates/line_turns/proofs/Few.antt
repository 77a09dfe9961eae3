-- A turn opens no more rules than there may be.
use Rattle.std.proofs.Common.{◌≡◌, ℕ, zero, suc, ◌+◌, ◌<◌, ◌≤◌, List, [], ◌∷◌, length, refl, arith}
use Rattle.std.specs.Prelude.{Bool, true, false, ◌&&◌, nat_lt, nat_le, if◌then◌else◌}
use Rattle.std.proofs.lemmas.Bool.Decides.{nat_tests}
use Rattle.scope_defs.specs.Frames.{Frame, depth, on}
use Rattle.rule_defs.specs.Rules.{Kind, Match, BeginEnd, BeginWhile, Group, Rule}
use Rattle.line_defs.specs.declared.limits.TheConstants.{MOST_OPEN}
use Rattle.line_defs.specs.Machine.{rule_at}
use Rattle.line_defs.specs.Frames.{stack_of, popped, with_content, is_at}
use Rattle.line_defs.specs.Runs.{State, Turned, GoesOn, Stops}
use Rattle.line_defs.specs.Search.{Of, OfEnd, OfRule, Matched, Found, Nothing, OutOfBudget, At}
use Rattle.line_defs.specs.Injections.{search}
use Rattle.line_defs.specs.Turns.{Run, goes_on, rest_where, is_here, end_told, ended, end_found, match_told}
use Rattle.line_defs.specs.Turns.{popped_where, match_found, new_frame, begin_told, names, with_settled, is_stuck}
use Rattle.line_defs.specs.Turns.{entered, begun, begin_found, rule_found, matched, turn_by, turn}

abbrev pub IsFew : (most : ℕ) → Turned → Type 0
IsFew most (GoesOn state) = depth state.stack ≤ most
IsFew most (Stops state) = Unit {0}

module _ (most : ℕ) (enough : 1000 ≤ most) where
  goes_on-few : (m : Matched) (state : State) → depth state.stack ≤ most → IsFew most (goes_on m state)
  goes_on-few m state few = by_test (nat_lt state.place m.to)
    where
      by_test : (b : Bool)
          → depth (if b then record state { place = m.to; first = false } else state).stack ≤ most
      by_test true = few
      by_test false = few

  rest_where-few : (b : Bool) (run : Run) (m : Matched) (state : State) → depth state.stack ≤ most
      → IsFew most (rest_where b run m state)
  rest_where-few true run m state few = tt
  rest_where-few false run m state few = goes_on-few m state few

  popped-few : (top : Frame) (below : List Frame) → suc (length below) ≤ most → depth (stack_of top below) ≤ most
  popped-few top [] few = few
  popped-few top (frame ∷ below) few = omega arith

  ended-few : (b : Bool) (run : Run) (m : Matched) (state : State) → depth state.stack ≤ most
      → IsFew most (ended b run m state)
  ended-few true run m state few = tt
  ended-few false run m state few =
      goes_on-few m (record state { stack = popped state.stack; anchor = state.stack.top.anchor })
      (popped-few state.stack.top state.stack.below few)

  popped_where-few : (b : Bool) (state : State) → depth state.stack ≤ most
      → depth (popped_where b state).stack ≤ most
  popped_where-few true state few = popped-few state.stack.top state.stack.below few
  popped_where-few false state few = few

  entered-few : (b : Bool) (run : Run) (m : Matched) (state : State) → depth state.stack ≤ most
      → IsFew most (entered b run m state)
  entered-few true run m state few = tt
  entered-few false run m state few = goes_on-few m state few

  begun-few : (b : Bool) (run : Run) (number : ℕ) (rule : Rule) (m : Matched) (old state : State)
      (frame : Frame) → state.stack ≡ on frame old.stack → depth old.stack ≤ most
      → nat_le MOST_OPEN (depth old.stack) ≡ b → IsFew most (begun b run number rule m state)
  begun-few true run number rule m old state frame is few e =
      rest_where-few (is_here m state) run m (record state { stack = popped state.stack })
      (rw is few)
  begun-few false run number rule m old state frame is few e =
      entered-few (is_stuck number m state) run m (with_settled run rule m state)
      (let below : depth old.stack < 1000 = grind (arith, nat_tests) in rw is (omega arith))

  begin_found-few : (run : Run) (number : ℕ) (m : Matched) (state : State) → depth state.stack ≤ most
      → IsFew most (begin_found run number (rule_at run.machine number) m state)
  begin_found-few run number m state few =
      begun-few (nat_le MOST_OPEN (depth state.stack)) run number (rule_at run.machine number) m state
      (begin_told run (rule_at run.machine number) m state.stack.top.content
      (record state {
        stack = on (new_frame run number
            (names run m state.stack.top.content (rule_at run.machine number).name) m state) state.stack;
      }))
      (new_frame run number (names run m state.stack.top.content (rule_at run.machine number).name) m state) refl few
      refl

  rule_found-few : (kind : Kind) (run : Run) (number : ℕ) (m : Matched) (state : State) → depth state.stack ≤ most
      → IsFew most (rule_found kind run number m state)
  rule_found-few Match run number m state few =
      rest_where-few (is_here m state) run m
      (popped_where (is_here m state) (match_told run (rule_at run.machine number) m state))
      (popped_where-few (is_here m state) (match_told run (rule_at run.machine number) m state) few)
  rule_found-few BeginEnd run number m state few = begin_found-few run number m state few
  rule_found-few BeginWhile run number m state few = begin_found-few run number m state few
  rule_found-few Group run number m state few = begin_found-few run number m state few

  matched-few : (of : Of) (run : Run) (m : Matched) (state : State) → depth state.stack ≤ most
      → IsFew most (matched of run m state)
  matched-few OfEnd run m state few =
      ended-few (is_here m state && is_at state.place state.stack.top.enter) run m
      (end_told run m state.stack.top.content
      (record state { stack = with_content state.stack.top.name state.stack })) few
  matched-few (OfRule number) run m state few =
      rule_found-few (rule_at run.machine number).kind run number m state few

  turn_by-few : (found : Found) (run : Run) (state : State) → depth state.stack ≤ most
      → IsFew most (turn_by found run state)
  turn_by-few Nothing run state few = tt
  turn_by-few OutOfBudget run state few = tt
  turn_by-few (At m) run state few = matched-few m.of run m state few

  pub turn-few : (run : Run) (state : State) → depth state.stack ≤ most → IsFew most (turn run state)
  turn-few run state few = turn_by-few (search run.machine run.text state) run state few
