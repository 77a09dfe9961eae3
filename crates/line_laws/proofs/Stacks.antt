-- Turns keep the stack as it may be: not too many open rules, of which the outermost is a root.
use Rattle.std.proofs.Common.{◌≡◌, ◌≤◌, ◌≢◌, ℕ, zero, suc, ◌<◌, List, [], ◌∷◌, map, refl, arith}
use Rattle.std.specs.Prelude.{Bool, true, false, ◌&&◌, nat_lt, nat_le, if◌then◌else◌}
use Rattle.std.proofs.lemmas.Bool.Decides.{nat_tests}
use Rattle.std.proofs.lemmas.List.{length-map}
use Rattle.scope_defs.specs.Frames.{Frame, Stack, Start, on, depth, forgotten, forgotten_all, bare}
use Rattle.rule_defs.specs.Rules.{Kind, Match, BeginEnd, BeginWhile, Group, Rule}
use Rattle.line_defs.specs.declared.limits.TheConstants.{MOST_OPEN}
use Rattle.line_defs.specs.Machine.{Machine, rule_at}
use Rattle.line_defs.specs.Frames.{stack_of, popped, with_content, is_at, start_of}
use Rattle.line_defs.specs.Runs.{State, Turned, GoesOn, Stops, advanced}
use Rattle.line_defs.specs.Search.{Of, OfEnd, OfRule, Matched, Found, Nothing, OutOfBudget, At}
use Rattle.line_defs.specs.Injections.{search}
use Rattle.line_defs.specs.Turns.{Run, names, goes_on, rest_where, is_here, end_told, ended, end_found, match_told}
use Rattle.line_defs.specs.Turns.{popped_where, match_found, new_frame, begin_told, with_settled, is_stuck, entered}
use Rattle.line_defs.specs.Turns.{begun, begin_found, rule_found, matched, turn_by, turn, after_turn, turns}
use Rattle.line_laws.specs.RunEnds.{IsRooted}
use Rattle.line_laws.specs.Starts.{IsBuiltTo, IsBuilt, IsFit}

abbrev pub BuildsTo : ℕ → Machine → Turned → Type 0
BuildsTo most machine (GoesOn state) = IsBuiltTo most machine state.stack
BuildsTo most machine (Stops state) = IsBuiltTo most machine state.stack

abbrev pub Builds : Machine → Turned → Type 0
Builds machine turned = BuildsTo MOST_OPEN machine turned

-- ---- stacks

popped-built : {most : ℕ} (machine : Machine) (top : Frame) (below : List Frame) →
    IsBuiltTo most machine (record { top = top; below = below }) → IsBuiltTo most machine (stack_of top below)
popped-built machine top [] is = is
popped-built machine top (frame ∷ below) is = record { few = omega (arith, is.few); rooted = is.rooted }

with_top-built : {most : ℕ} (machine : Machine) (top other : Frame) (below : List Frame) → other.rule ≡ top.rule →
    IsBuiltTo most machine (record { top = top; below = below }) →
    IsBuiltTo most machine (record { top = other; below = below })
with_top-built machine top other [] same is = record { few = is.few; rooted = rw same is.rooted }
with_top-built machine top other (frame ∷ below) same is = record { few = is.few; rooted = is.rooted }

pub forgotten-built : {most : ℕ} (machine : Machine) (stack : Stack) → IsBuiltTo most machine stack →
    IsBuiltTo most machine (forgotten_all stack)
forgotten-built machine stack is =
    record {
      few = omega (arith, length-map stack.below forgotten, is.few);
      rooted = rooted-forgotten stack.top stack.below is.rooted;
    }
  where
    rooted-forgotten : (frame : Frame) (below : List Frame) → IsRooted machine frame below →
        IsRooted machine (forgotten frame) (map forgotten below)
    rooted-forgotten frame [] rooted = rooted
    rooted-forgotten frame (lower ∷ below) rooted = rooted-forgotten lower below rooted

-- ---- turns

-- so many open rules are no fewer than those on which one more may be pushed
module _ (run : Run) (most : ℕ) (enough : MOST_OPEN ≤ most) where
  advanced-builds : (to : ℕ) (state : State) → IsBuiltTo most run.machine state.stack →
      IsBuiltTo most run.machine (advanced to state).stack
  advanced-builds to state is = by_step (nat_lt state.place to)
    where
      by_step : (b : Bool) → IsBuiltTo most run.machine
          (if b then record state { place = to; first = false } else state).stack
      by_step true = is
      by_step false = is

  goes_on-builds : (m : Matched) (state : State) → IsBuiltTo most run.machine state.stack →
      BuildsTo most run.machine (goes_on m state)
  goes_on-builds m state is = advanced-builds m.to state is

  rest_where-builds : (b : Bool) (m : Matched) (state : State) → IsBuiltTo most run.machine state.stack →
      BuildsTo most run.machine (rest_where b run m state)
  rest_where-builds true m state is = is
  rest_where-builds false m state is = goes_on-builds m state is

  end_found-builds : (m : Matched) (state : State) → IsBuiltTo most run.machine state.stack →
      BuildsTo most run.machine (end_found run m state)
  end_found-builds m state is = by_end (is_here m state && is_at state.place state.stack.top.enter)
    where
      other : Frame
      other = record state.stack.top { content = state.stack.top.name }

      named : IsBuiltTo most run.machine (record {
        top = record state.stack.top { content = state.stack.top.name };
        below = state.stack.below;
      })
      named = with_top-built run.machine state.stack.top (record state.stack.top { content = state.stack.top.name })
          state.stack.below refl is

      by_end : (b : Bool) →
          BuildsTo most run.machine (ended b run m (end_told run m state.stack.top.content (record state
          { stack = with_content state.stack.top.name state.stack })))
      by_end true = named
      by_end false =
          goes_on-builds m (record (end_told run m state.stack.top.content (record state
          { stack = with_content state.stack.top.name state.stack })) {
            stack = popped (with_content state.stack.top.name state.stack);
            anchor = state.stack.top.anchor;
          })
          (popped-built run.machine (record state.stack.top { content = state.stack.top.name }) state.stack.below named)

  match_found-builds : (rule : Rule) (m : Matched) (state : State) → IsBuiltTo most run.machine state.stack →
      BuildsTo most run.machine (match_found run rule m state)
  match_found-builds rule m state is = by_place (is_here m state)
    where
      by_place : (b : Bool) →
          BuildsTo most run.machine (rest_where b run m (popped_where b (match_told run rule m state)))
      by_place true = popped-built run.machine state.stack.top state.stack.below is
      by_place false = goes_on-builds m (match_told run rule m state) is

  entered-builds : (b : Bool) (m : Matched) (state : State) → IsBuiltTo most run.machine state.stack →
      BuildsTo most run.machine (entered b run m state)
  entered-builds true m state is = popped-built run.machine state.stack.top state.stack.below is
  entered-builds false m state is = goes_on-builds m state is

  begin_found-builds : (number : ℕ) (rule : Rule) (m : Matched) (state : State) →
      IsBuiltTo most run.machine state.stack →
      BuildsTo most run.machine (begin_found run number rule m state)
  begin_found-builds number rule m state is = by_depth (nat_le MOST_OPEN (depth state.stack)) refl
    where
      below : (d : ℕ) → nat_le 1000 d ≡ false → d < 1000
      below d h = grind (arith, nat_tests)

      by_depth : (b : Bool) → nat_le MOST_OPEN (depth state.stack) ≡ b →
          BuildsTo most run.machine (begun b run number rule m
          (begin_told run rule m state.stack.top.content (record state
          { stack = on (new_frame run number (names run m state.stack.top.content rule.name) m state) state.stack })))
      by_depth true e =
          rest_where-builds (is_here m (begin_told run rule m state.stack.top.content (record state
          { stack = on (new_frame run number (names run m state.stack.top.content rule.name) m state) state.stack })))
          m (record (begin_told run rule m state.stack.top.content (record state
          { stack = on (new_frame run number (names run m state.stack.top.content rule.name) m state) state.stack }))
          { stack = state.stack }) is
      by_depth false e =
          entered-builds (is_stuck number m (begin_told run rule m state.stack.top.content (record state
          { stack = on (new_frame run number (names run m state.stack.top.content rule.name) m state) state.stack })))
          m (with_settled run rule m (begin_told run rule m state.stack.top.content (record state
          { stack = on (new_frame run number (names run m state.stack.top.content rule.name) m state) state.stack })))
          (record { few = omega (arith, below (depth state.stack) e, enough); rooted = is.rooted })

  rule_found-builds : (kind : Kind) (number : ℕ) (m : Matched) (state : State) →
      IsBuiltTo most run.machine state.stack →
      BuildsTo most run.machine (rule_found kind run number m state)
  rule_found-builds Match number m state is = match_found-builds (rule_at run.machine number) m state is
  rule_found-builds BeginEnd number m state is = begin_found-builds number (rule_at run.machine number) m state is
  rule_found-builds BeginWhile number m state is = begin_found-builds number (rule_at run.machine number) m state is
  rule_found-builds Group number m state is = begin_found-builds number (rule_at run.machine number) m state is

  matched-builds : (of : Of) (m : Matched) (state : State) → IsBuiltTo most run.machine state.stack →
      BuildsTo most run.machine (matched of run m state)
  matched-builds OfEnd m state is = end_found-builds m state is
  matched-builds (OfRule number) m state is = rule_found-builds (rule_at run.machine number).kind number m state is

  turn_by-builds : (found : Found) (state : State) → IsBuiltTo most run.machine state.stack →
      BuildsTo most run.machine (turn_by found run state)
  turn_by-builds Nothing state is = is
  turn_by-builds OutOfBudget state is = is
  turn_by-builds (At m) state is = matched-builds m.of m state is

  pub turn-builds_to : (state : State) → IsBuiltTo most run.machine state.stack →
      BuildsTo most run.machine (turn run state)
  turn-builds_to state is = turn_by-builds (search run.machine run.text state) state is

  pub turns-build_to : (fuel : ℕ) (state : State) → IsBuiltTo most run.machine state.stack →
      IsBuiltTo most run.machine (turns run fuel state).stack
  unfolding turns
  turns-build_to zero state is = is
  turns-build_to (suc fuel) state is =
      by_turn (turn run state) (turn-builds_to state is) (λ next builds. turns-build_to fuel next builds)
    where
      by_turn : (turned : Turned) → BuildsTo most run.machine turned →
          ((next : State) → IsBuiltTo most run.machine next.stack →
          IsBuiltTo most run.machine (turns run fuel next).stack) →
          IsBuiltTo most run.machine (after_turn turned (turns run fuel)).stack
      by_turn (GoesOn next) builds goes = goes next builds
      by_turn (Stops end) builds goes = builds

-- the same of as many open rules as a line may have

pub turn-builds : (run : Run) (state : State) → IsBuilt run.machine state.stack → Builds run.machine (turn run state)
turn-builds run state is = turn-builds_to run MOST_OPEN (omega arith) state is

pub turns-build : (run : Run) (fuel : ℕ) (state : State) → IsBuilt run.machine state.stack →
    IsBuilt run.machine (turns run fuel state).stack
turns-build run fuel state is = turns-build_to run MOST_OPEN (omega arith) fuel state is

-- ---- starts

pub start_of-fits : (machine : Machine) (scope_name : List ℕ) → (rule_at machine 0).kind ≢ BeginEnd →
    IsFit machine (start_of scope_name)
start_of-fits machine scope_name other = record { few = omega arith; rooted = other }

pub bare-fits : (machine : Machine) (start : Start) → IsFit machine start → IsFit machine (bare start)
bare-fits machine start is = forgotten-built machine start.stack is
