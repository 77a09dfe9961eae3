-- Lines: from a start that fits the run behind the while pass ends by itself, the tokens cover the line, and the next
-- line's start fits.
use Rattle.std.proofs.Common.{◌≡◌, ℕ, ◌+◌, ◌*◌, ◌≤◌, List, [], ◌∷◌, length, map, refl, ap, subst, sym, ◌∙◌, arith}
use Rattle.std.specs.Prelude.{Bool, true, false, nat_le, Option, take}
use Rattle.std.proofs.lemmas.List.{length-append, length-take}
use Rattle.pattern_defs.specs.declared.outcomes.Place.{Place}
use Rattle.onig_match.specs.Works.{IsPart}
use Rattle.scope_defs.specs.Frames.{Frame, Stack, Start, depth, forgotten, forgotten_all, bare}
use Rattle.rule_defs.specs.Rules.{Entry}
use Rattle.line_defs.specs.declared.limits.TheConstants.{MOST_LEVELS}
use Rattle.line_defs.specs.Machine.{Machine}
use Rattle.line_defs.specs.Following.{Follow}
use Rattle.line_defs.specs.Tokens.{Output, whole}
use Rattle.line_defs.specs.Runs.{State, Turned, GoesOn, Stops}
use Rattle.line_defs.specs.Captures.{Running, Around, inner_state}
use Rattle.line_defs.specs.Turns.{Run, most_turns_here, run_from}
use Rattle.line_defs.specs.WhilePass.{while_pass}
use Rattle.line_defs.specs.Line.{LineResult, inside_by, run_over, with_line_feed, at_front, after_pass, line_run}
use Rattle.line_defs.specs.Line.{result_of, line_by, tokenised}
use Rattle.line_laws.specs.RunEnds.{RunsTo, IsRooted, most_frames_in_captures, IsRunning}
use Rattle.line_laws.specs.Starts.{IsBuilt, IsFit}
use Rattle.line_laws.proofs.Turns.{run_from-ends}
use Rattle.line_laws.proofs.Told.{Covers, nothing_told-is, line-follows}
use Rattle.line_laws.proofs.TurnsTold.{Tells, HasTold, TellsOn, Keeps, runs_to-reaches, inside_by-keeps}
use Rattle.line_laws.proofs.Stacks.{Builds, forgotten-built, turns-build}
use Rattle.line_laws.proofs.Passes.{while_pass-tells, while_pass-builds}

-- a state from which a run of a line may go on
pub record MayRun (run : Run) (state : State) : Type 0 where
  pub tells : Tells run (length run.text) state
  pub built : IsBuilt run.machine state.stack

-- a state in which a run of a line stops
pub record HasRun (run : Run) (state : State) : Type 0 where
  pub told : HasTold run (length run.text) state
  pub built : IsBuilt run.machine state.stack

pub MayRun-runs : (run : Run) (state : State) → MayRun run state → IsRunning run state
MayRun-runs run state may =
    record { inside = may.tells.inside; few = omega (arith, may.built.few); rooted = may.built.rooted }

-- ---- the start of a line

pub at_front-may : (machine : Machine) (inside : Option Running) (text : List ℕ) (start : Start) →
    IsFit machine start → MayRun (record { machine = machine; inside = inside; text = text }) (at_front start)
at_front-may machine inside text start is = record {
  tells = record { inside = omega arith; told = nothing_told-is (length text) };
  built = forgotten-built machine start.stack is;
}

-- ---- behind the while pass

module _ (machine : Machine) (levels : ℕ) (text : List ℕ) where
  abbrev the_run : Run
  the_run = record { machine = machine; inside = inside_by machine levels; text = text }

  run-keeps : Keeps the_run (length text)
  run-keeps = record { short = omega arith; inside = inside_by-keeps machine levels (length text) }

  pub passed-may : (state next : State) → MayRun the_run state → while_pass the_run state ≡ GoesOn next →
      MayRun the_run next
  passed-may state next may e = record {
    tells = subst (TellsOn the_run (length text)) e
        (while_pass-tells the_run (length text) run-keeps state may.tells);
    built = subst (Builds machine) e (while_pass-builds the_run state may.built);
  }

  run-ends : (state : State) → MayRun the_run state →
      HasRun the_run (run_from machine (inside_by machine levels) text state)
  run-ends state may = record {
    told = runs_to-reaches the_run (length text) state (run_from machine (inside_by machine levels) text state)
        run-keeps may.tells
        (run_from-ends machine (inside_by machine levels) text state (MayRun-runs the_run state may));
    built = turns-build the_run (most_turns_here * (length text + 1)) state may.built;
  }

-- behind the while pass a run ends by itself
line_run-ends : (machine : Machine) (text : List ℕ) (state : State) → MayRun (run_over machine text) state →
    HasRun (run_over machine text) (line_run machine text state)
line_run-ends machine text state may =
    by_pass (while_pass (run_over machine text) state) refl
  where
    by_pass : (turned : Turned) → while_pass (run_over machine text) state ≡ turned →
        HasRun (run_over machine text) (after_pass turned machine text)
    by_pass (GoesOn next) e =
        run-ends machine MOST_LEVELS text next (passed-may machine MOST_LEVELS text state next may e)
    by_pass (Stops end) e = record {
      told = subst (TellsOn (run_over machine text) (length text)) e
          (while_pass-tells (run_over machine text) (length text) (run-keeps machine MOST_LEVELS text) state
          may.tells);
      built = subst (Builds machine) e (while_pass-builds (run_over machine text) state may.built);
    }

-- ---- lines

line_by-ends : (machine : Machine) (start : Start) (line : List ℕ) → IsFit machine start →
    HasRun (run_over machine (with_line_feed line)) (line_run machine (with_line_feed line) (at_front start))
line_by-ends machine start line is =
    line_run-ends machine (with_line_feed line) (at_front start)
    (at_front-may machine (inside_by machine MOST_LEVELS) (with_line_feed line) start is)

result-follows : (line : List ℕ) (state : State) (run : Run) → length run.text ≡ length line + 1 →
    HasTold run (length run.text) state → Follow (result_of line state).tokens (length line)
result-follows line state run chars has =
    line-follows (length line) state.stack.top.content state.out.tokens
    (subst (Covers 0 state.out.tokens) (omega (arith, has.reaches, has.told.ends)) has.told.covers)

pub tokenised-follows : (machine : Machine) (start : Start) (line : List ℕ) → IsFit machine start →
    Follow (tokenised machine start line).tokens (length line)
tokenised-follows machine start line is = by_length (nat_le machine.long (length line))
  where
    by_length : (b : Bool) → Follow (line_by b machine start line).tokens (length line)
    by_length true = (refl, refl)
    by_length false =
        result-follows line (line_run machine (with_line_feed line) (at_front start))
        (run_over machine (with_line_feed line)) (length-append line (10 ∷ []))
        (line_by-ends machine start line is).told

pub tokenised-fits : (machine : Machine) (start : Start) (line : List ℕ) → IsFit machine start →
    IsFit machine (tokenised machine start line).end
tokenised-fits machine start line is = by_length (nat_le machine.long (length line))
  where
    by_length : (b : Bool) → IsFit machine (line_by b machine start line).end
    by_length true = forgotten-built machine start.stack is
    by_length false =
        forgotten-built machine (line_run machine (with_line_feed line) (at_front start)).stack
        (line_by-ends machine start line is).built

-- ---- the start of a line up to what is forgotten

abbrev with_below : Frame → List Frame → Stack
with_below top below = record { top = top; below = below }

forgotten-again : (stack : Stack) → forgotten_all (forgotten_all stack) ≡ forgotten_all stack
forgotten-again stack = ap (with_below (forgotten stack.top)) (map-again stack.below)
  where
    map-again : (frames : List Frame) → map forgotten (map forgotten frames) ≡ map forgotten frames
    map-again [] = refl
    map-again (frame ∷ frames) = ap (λ rest. forgotten frame ∷ rest) (map-again frames)

-- a line from a start, whose frames are these once places and anchors are forgotten
abbrev line_with : (is_long : Bool) → Machine → Start → (line : List ℕ) → Stack → LineResult
line_with true machine start line stack = record {
  tokens = whole (length line) start.stack.top.content;
  end = record { first = false; stack = stack };
  stopped = false;
}
line_with false machine start line stack =
    result_of line (line_run machine (with_line_feed line) (record (at_front start) { stack = stack }))

pub tokenised-bare : (machine : Machine) (start : Start) (line : List ℕ) →
    tokenised machine (bare start) line ≡ tokenised machine start line
tokenised-bare machine start line = by_length (nat_le machine.long (length line))
  where
    by_length : (b : Bool) → line_by b machine (bare start) line ≡ line_by b machine start line
    by_length true = ap (line_with true machine start line) (forgotten-again start.stack)
    by_length false = ap (line_with false machine start line) (forgotten-again start.stack)

-- ---- runs inside captures

-- the run over a capture ends by itself, where its frame is not one too many
pub inner_state-runs : (machine : Machine) (inside : Option Running) (c : Around) (entry : Entry) (rule : ℕ)
    (taken : Place) (out : Output) → IsPart (length c.text) taken →
    depth c.stack + 1 ≤ most_frames_in_captures → IsRooted machine c.stack.top c.stack.below →
    IsRunning (record { machine = machine; inside = inside; text = take taken.to c.text })
    (inner_state c entry rule taken out)
inner_state-runs machine inside c entry rule taken out part few rooted = record {
  inside = omega (arith, length-take taken.to c.text, part.0, part.1);
  few = omega (arith, few);
  rooted = rooted;
}

-- ---- what the laws of lines say

pub line-running : (machine : Machine) (start : Start) (line : List ℕ) (state : State) → IsFit machine start →
    while_pass (run_over machine (with_line_feed line)) (at_front start) ≡ GoesOn state →
    IsRunning (run_over machine (with_line_feed line)) state
line-running machine start line state is e =
    MayRun-runs (run_over machine (with_line_feed line)) state
    (passed-may machine MOST_LEVELS (with_line_feed line) (at_front start) state
    (at_front-may machine (inside_by machine MOST_LEVELS) (with_line_feed line) start is) e)

pub front-running : (machine : Machine) (start : Start) (line : List ℕ) → IsFit machine start →
    IsRunning (run_over machine (with_line_feed line)) (at_front start)
front-running machine start line is =
    MayRun-runs (run_over machine (with_line_feed line)) (at_front start)
    (at_front-may machine (inside_by machine MOST_LEVELS) (with_line_feed line) start is)

pub line-runs_to : (machine : Machine) (start : Start) (line : List ℕ) (state : State) → IsFit machine start →
    while_pass (run_over machine (with_line_feed line)) (at_front start) ≡ GoesOn state →
    RunsTo (run_over machine (with_line_feed line)) state (line_run machine (with_line_feed line) (at_front start))
line-runs_to machine start line state is e =
    subst (λ turned. RunsTo (run_over machine (with_line_feed line)) state
    (after_pass turned machine (with_line_feed line))) (sym e)
    (run_from-ends machine (inside_by machine MOST_LEVELS) (with_line_feed line) state
    (line-running machine start line state is e))

pub tokenised-alike : (machine : Machine) (start other : Start) (line : List ℕ) → bare start ≡ bare other →
    tokenised machine start line ≡ tokenised machine other line
tokenised-alike machine start other line same =
    sym (tokenised-bare machine start line) ∙ ap (λ s. tokenised machine s line) same
    ∙ tokenised-bare machine other line
