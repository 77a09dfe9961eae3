-- Turns and runs keep what was told: the tokens so far follow one another, and a run that ends by itself has told its
-- text to the end.
use Rattle.std.proofs.Common.{◌≡◌, ℕ, zero, suc, ◌+◌, ◌*◌, ◌≤◌, List, length, refl, subst, arith}
use Rattle.std.specs.Prelude.{Bool, true, false, ◌&&◌, nat_lt, nat_le, IfSome}
use Rattle.std.specs.Prelude.{if◌then◌else◌}
use Rattle.scope_defs.specs.Scopes.{Scopes}
use Rattle.scope_defs.specs.Frames.{on, depth}
use Rattle.rule_defs.specs.Rules.{Kind, Match, BeginEnd, BeginWhile, Group, Entry, Rule}
use Rattle.line_defs.specs.declared.limits.TheConstants.{MOST_OPEN}
use Rattle.line_defs.specs.Machine.{Machine, rule_at}
use Rattle.line_defs.specs.Frames.{popped, with_content, is_at}
use Rattle.line_defs.specs.Tokens.{put, spent}
use Rattle.line_defs.specs.Runs.{State, Turned, GoesOn, Stops, rest, advanced}
use Rattle.line_defs.specs.Search.{Of, OfEnd, OfRule, Matched, Found, Nothing, OutOfBudget, At}
use Rattle.line_defs.specs.Injections.{search}
use Rattle.line_defs.specs.Turns.{Run, names, told_captures, told_match, goes_on, rest_where, is_here, end_told, ended}
use Rattle.line_defs.specs.Turns.{end_found, match_told, popped_where, match_found, new_frame, begin_told}
use Rattle.line_defs.specs.Turns.{with_settled, is_stuck, begun, begin_found, rule_found, matched, turn_by}
use Rattle.line_defs.specs.Turns.{turn, after_turn, turns, most_turns_here}
use Rattle.line_defs.specs.Line.{inside_by}
use Rattle.line_laws.specs.RunEnds.{RunsTo, last_turn, then_runs}
use Rattle.line_laws.proofs.Found.{IsThere, IfAt, search-there}
use Rattle.line_laws.proofs.Told.{IsTold, put-is, put-reaches, spent-is}
use Rattle.line_laws.proofs.CapturesTold.{KeepsTold, captures_told-is}

-- a state of a run, with what is told so far
pub record Tells (run : Run) (chars : ℕ) (state : State) : Type 0 where
  pub inside : state.place ≤ length run.text
  pub told : IsTold chars state.out

-- a run that stops has told its text to the end
pub record HasTold (run : Run) (chars : ℕ) (state : State) : Type 0 where
  pub told : IsTold chars state.out
  pub reaches : length run.text ≤ state.out.end

abbrev pub TellsOn : Run → (chars : ℕ) → Turned → Type 0
TellsOn run chars (GoesOn state) = Tells run chars state
TellsOn run chars (Stops state) = HasTold run chars state

-- a run over a text that is no longer than the whole, whose runs inside captures keep what was told
pub record Keeps (run : Run) (chars : ℕ) : Type 0 where
  pub short : length run.text ≤ chars
  pub inside : IfSome run.inside (KeepsTold chars)

-- ---- one match

pub told_match-is : (run : Run) (chars : ℕ) (state : State) (before scopes : Scopes) (m : Matched)
    (entries : List Entry) (kind : Kind) (place : ℕ) → Keeps run chars → IsThere kind place (length run.text) m →
    IsTold chars state.out → IsTold chars (told_match run state before scopes m entries)
told_match-is run chars state before scopes m entries kind place keeps there is =
    put-is chars (told_captures run state scopes m entries (put state.out before m.from)) scopes m.to
    (omega (arith, there.ends, keeps.short))
    (captures_told-is chars (record {
      inside = run.inside;
      text = run.text;
      stack = state.stack;
      first = state.first;
      scopes = scopes;
      matched = m;
    }) keeps.short entries (put state.out before m.from) keeps.inside there.parts
    (put-is chars state.out before m.from (omega (arith, there.goes, there.ends, keeps.short)) is))

module _ (run : Run) (chars : ℕ) (keeps : Keeps run chars) where
  pub rest-tells : (state : State) → IsTold chars state.out → TellsOn run chars (rest run.text state)
  rest-tells state is = record {
    told = put-is chars state.out state.stack.top.content (length run.text) keeps.short is;
    reaches = put-reaches state.out state.stack.top.content (length run.text);
  }

  pub advanced-tells : (to : ℕ) (state : State) → to ≤ length run.text → Tells run chars state →
      Tells run chars (advanced to state)
  advanced-tells to state ends is = by_step (nat_lt state.place to)
    where
      by_step : (b : Bool) → Tells run chars (if b then record state { place = to; first = false } else state)
      by_step true = record { inside = ends; told = is.told }
      by_step false = is

  goes_on-tells : (m : Matched) (state : State) → m.to ≤ length run.text → Tells run chars state →
      TellsOn run chars (goes_on m state)
  goes_on-tells m state ends is = advanced-tells m.to state ends is

  rest_where-tells : (b : Bool) (m : Matched) (state : State) → m.to ≤ length run.text → Tells run chars state →
      TellsOn run chars (rest_where b run m state)
  rest_where-tells true m state ends is = rest-tells state is.told
  rest_where-tells false m state ends is = goes_on-tells m state ends is

  -- ---- rules

  module _ (kind : Kind) (place : ℕ) (m : Matched) (there : IsThere kind place (length run.text) m) where
    end_found-tells : (state : State) → Tells run chars state → TellsOn run chars (end_found run m state)
    end_found-tells state is =
        by_end (is_here m state && is_at state.place state.stack.top.enter)
        (told_match-is run chars begun_from state.stack.top.content state.stack.top.name m
        (rule_at run.machine state.stack.top.rule).finish_captures kind place keeps there is.told)
      where
        begun_from : State
        begun_from = record state { stack = with_content state.stack.top.name state.stack }

        by_end : (b : Bool) → IsTold chars (end_told run m state.stack.top.content (record state
            { stack = with_content state.stack.top.name state.stack })).out →
            TellsOn run chars (ended b run m (end_told run m state.stack.top.content (record state
            { stack = with_content state.stack.top.name state.stack })))
        by_end true told =
            rest-tells (end_told run m state.stack.top.content (record state
            { stack = with_content state.stack.top.name state.stack })) told
        by_end false told =
            goes_on-tells m (record (end_told run m state.stack.top.content (record state
            { stack = with_content state.stack.top.name state.stack })) {
              stack = popped (with_content state.stack.top.name state.stack);
              anchor = state.stack.top.anchor;
            }) there.ends (record { inside = is.inside; told = told })

    match_found-tells : (rule : Rule) (state : State) → Tells run chars state →
        TellsOn run chars (match_found run rule m state)
    match_found-tells rule state is =
        by_place (is_here m state)
        (told_match-is run chars state state.stack.top.content (names run m state.stack.top.content rule.name) m
        rule.start_captures kind place keeps there is.told)
      where
        by_place : (b : Bool) → IsTold chars (match_told run rule m state).out →
            TellsOn run chars (rest_where b run m (popped_where b (match_told run rule m state)))
        by_place true told =
            rest-tells (record (match_told run rule m state)
            { stack = popped (match_told run rule m state).stack }) told
        by_place false told =
            goes_on-tells m (match_told run rule m state) there.ends (record { inside = is.inside; told = told })

    begun-tells : (full stuck : Bool) (number : ℕ) (rule : Rule) (state : State) → Tells run chars state →
        is_stuck number m state ≡ stuck → TellsOn run chars (begun full run number rule m state)
    begun-tells true stuck number rule state is e =
        rest_where-tells (is_here m state) m (record state { stack = popped state.stack }) there.ends
        (record { inside = is.inside; told = is.told })
    begun-tells false true number rule state is e =
        rw e (rest-tells (record (with_settled run rule m state)
        { stack = popped (with_settled run rule m state).stack }) is.told)
    begun-tells false false number rule state is e =
        rw e (goes_on-tells m (with_settled run rule m state) there.ends
        (record { inside = is.inside; told = is.told }))

    begin_found-tells : (number : ℕ) (rule : Rule) (state : State) → Tells run chars state →
        TellsOn run chars (begin_found run number rule m state)
    begin_found-tells number rule state is =
        begun-tells (nat_le MOST_OPEN (depth state.stack)) (is_stuck number m new) number rule new
        (record {
          inside = is.inside;
          told =
              told_match-is run chars pushed state.stack.top.content
              (names run m state.stack.top.content rule.name) m rule.start_captures kind place keeps there is.told;
        })
        refl
      where
        pushed : State
        pushed = record state
            { stack = on (new_frame run number (names run m state.stack.top.content rule.name) m state) state.stack }

        new : State
        new = begin_told run rule m state.stack.top.content pushed

    rule_found-tells : (found : Kind) (number : ℕ) (state : State) → Tells run chars state →
        TellsOn run chars (rule_found found run number m state)
    rule_found-tells Match number state is = match_found-tells (rule_at run.machine number) state is
    rule_found-tells BeginEnd number state is = begin_found-tells number (rule_at run.machine number) state is
    rule_found-tells BeginWhile number state is = begin_found-tells number (rule_at run.machine number) state is
    rule_found-tells Group number state is = begin_found-tells number (rule_at run.machine number) state is

    matched-tells : (of : Of) (state : State) → Tells run chars state → TellsOn run chars (matched of run m state)
    matched-tells OfEnd state is = end_found-tells state is
    matched-tells (OfRule number) state is = rule_found-tells (rule_at run.machine number).kind number state is

  -- ---- turns

  turn_by-tells : (found : Found) (state : State) → Tells run chars state →
      IfAt (rule_at run.machine state.stack.top.rule).kind state.place (length run.text) found →
      TellsOn run chars (turn_by found run state)
  turn_by-tells Nothing state is there = rest-tells state is.told
  turn_by-tells OutOfBudget state is there =
      rest-tells (record state { out = spent state.out }) (spent-is chars state.out is.told)
  turn_by-tells (At m) state is there =
      matched-tells (rule_at run.machine state.stack.top.rule).kind state.place m there m.of state is

  pub turn-tells : (state : State) → Tells run chars state → TellsOn run chars (turn run state)
  turn-tells state is =
      turn_by-tells (search run.machine run.text state) state is (search-there run.machine run.text state is.inside)

  pub turns-tell : (fuel : ℕ) (state : State) → Tells run chars state → IsTold chars (turns run fuel state).out
  unfolding turns
  turns-tell zero state is = is.told
  turns-tell (suc fuel) state is =
      by_turn (turn run state) (turn-tells state is) (λ next tells. turns-tell fuel next tells)
    where
      by_turn : (turned : Turned) → TellsOn run chars turned →
          ((next : State) → Tells run chars next → IsTold chars (turns run fuel next).out) →
          IsTold chars (after_turn turned (turns run fuel)).out
      by_turn (GoesOn next) tells goes = goes next tells
      by_turn (Stops end) tells goes = tells.told

-- a run that ends by itself has told its text to the end
pub runs_to-reaches : (run : Run) (chars : ℕ) (state end : State) → Keeps run chars → Tells run chars state →
    RunsTo run state end → HasTold run chars end
runs_to-reaches run chars state end keeps is (last_turn e) =
    subst (TellsOn run chars) e (turn-tells run chars keeps state is)
runs_to-reaches run chars state end keeps is (then_runs {next = next} e goes) =
    runs_to-reaches run chars next end keeps (subst (TellsOn run chars) e (turn-tells run chars keeps state is)) goes

-- ---- runs inside captures

pub inside_by-keeps : (machine : Machine) (levels chars : ℕ) → IfSome (inside_by machine levels) (KeepsTold chars)
inside_by-keeps machine zero chars = tt
inside_by-keeps machine (suc levels) chars =
    record {
      keeps = λ text state short inside told. turns-tell
          (record { machine = machine; inside = inside_by machine levels; text = text }) chars
          (record { short = short; inside = inside_by-keeps machine levels chars })
          (most_turns_here * (length text + 1)) state (record { inside = inside; told = told });
    }
