-- Each turn that lets a run go on takes a step: the place advances, or a frame that was entered elsewhere is popped,
-- or a
-- frame is pushed that is entered here.
use Rattle.std.proofs.Common.{◌≡◌, ℕ, zero, suc, ◌+◌, ◌-◌, ◌*◌, ◌<◌, ◌≤◌, List, [], ◌∷◌, length, refl, arith, sym}
use Rattle.std.proofs.Common.{◌∙◌}
use Rattle.std.specs.Prelude.{Bool, true, false, ◌&&◌, nat_lt, nat_le, Option, Some}
use Rattle.std.specs.Prelude.{if◌then◌else◌}
use Rattle.std.proofs.lemmas.Bool.Decides.{nat_tests}
use Rattle.scope_defs.specs.Scopes.{Scopes}
use Rattle.scope_defs.specs.Frames.{Frame, depth, on}
use Rattle.rule_defs.specs.Rules.{Kind, Match, BeginEnd, BeginWhile, Group, Rule}
use Rattle.line_defs.specs.declared.limits.TheConstants.{MOST_OPEN}
use Rattle.line_defs.specs.Machine.{Machine, rule_at}
use Rattle.line_defs.specs.Frames.{stack_of, popped, with_content, is_at}
use Rattle.line_defs.specs.Runs.{State, Turned, GoesOn, Stops}
use Rattle.line_defs.specs.Search.{Of, OfEnd, OfRule, Matched, Found, Nothing, OutOfBudget, At}
use Rattle.line_defs.specs.Injections.{search}
use Rattle.line_defs.specs.Turns.{Run, goes_on, rest_where, is_here, end_told, ended, end_found}
use Rattle.line_defs.specs.Turns.{match_told, popped_where, match_found, new_frame, begin_told, names, with_settled}
use Rattle.line_defs.specs.Turns.{is_stuck, entered, begun, begin_found, rule_found, matched, turn_by}
use Rattle.line_defs.specs.Turns.{turn, after_turn, turns, most_turns_here, run_from}
use Rattle.line_defs.specs.Captures.{Running}
use Rattle.line_laws.specs.RunEnds.{RunsTo, last_turn, then_runs, IsRooted, most_frames_in_captures, IsRunning}
use Rattle.line_laws.proofs.Found.{MayBe, IfAt, search-there}

-- ---- how many turns may still come

-- at one place: on a frame that was entered here, frames are pushed; else frames are popped first
abbrev pub turns_here : (entered_here : Bool) → (depth : ℕ) → ℕ
turns_here true depth = (1000 - depth) + 1
turns_here false depth = depth + 1001

abbrev pub turns_left : (chars : ℕ) → State → ℕ
turns_left chars state = 2100 * (chars - state.place) + turns_here (is_at state.place state.stack.top.enter)
    (depth state.stack)

-- a turn takes a step, or stops the run
abbrev pub Steps : Run → State → Turned → Type 0
Steps run old (GoesOn new) = IsRunning run new × (turns_left (length run.text) new < turns_left (length run.text) old)
Steps run old (Stops new) = Unit {0}

turns_here-few : (b : Bool) (d : ℕ) → d ≤ 1032 → turns_here b d ≤ 2033
turns_here-few true d few = omega arith
turns_here-few false d few = omega arith

-- ---- places

is_at-self : (place : ℕ) → is_at place (Some place) ≡ true
is_at-self place = grind (arith, nat_tests)

-- what a state has before a match is told of: the outermost frame, and not too many
record MayGoOn (run : Run) (state : State) : Type 0 where
  few : depth state.stack ≤ most_frames_in_captures
  rooted : IsRooted run.machine state.stack.top state.stack.below

module _ (run : Run) (m : Matched) (old state : State) where
  -- A state goes on behind a match. Where the match takes nothing, fewer turns may still come.
  goes_on-steps : (running : IsRunning run old) → state.place ≡ old.place → MayGoOn run state → old.place ≤ m.to
      → m.to ≤ length run.text →
      (is_here m old ≡ true → turns_here (is_at state.place state.stack.top.enter) (depth state.stack) < turns_here
      (is_at old.place old.stack.top.enter) (depth old.stack)) →
      Steps run old (goes_on m state)
  goes_on-steps running same may begins ends here =
      by_step (nat_lt state.place m.to) refl
    where
      by_step : (b : Bool) → nat_lt state.place m.to ≡ b
          → Steps run old (GoesOn (if b then record state { place = m.to; first = false } else state))
      by_step true e =
          let further : state.place < m.to = grind (arith, nat_tests) in (
            record { inside = ends; few = may.few; rooted = may.rooted },
            (let few : turns_here (is_at m.to state.stack.top.enter) (depth state.stack) ≤ 2033 =
                turns_here-few (is_at m.to state.stack.top.enter) (depth state.stack) may.few in
                omega arith),
          )
      by_step false e =
          let not_further : m.to ≤ state.place = grind (arith, nat_tests) in
          let at : is_here m old ≡ true = grind (arith, nat_tests) in
          let falls : turns_here (is_at state.place state.stack.top.enter) (depth state.stack) < turns_here
          (is_at old.place old.stack.top.enter) (depth old.stack) = here at in
          (record { inside = omega (arith, running.inside); few = may.few; rooted = may.rooted }, omega arith)

-- ---- the end of the top frame

begins-and-ends : (kind : Kind) → MayBe kind OfEnd → kind ≡ BeginEnd
begins-and-ends Match may = absurd may
begins-and-ends BeginEnd may = refl
begins-and-ends BeginWhile may = absurd may
begins-and-ends Group may = absurd may

popped-falls : (machine : Machine) (top t : Frame) (below : List Frame) → IsRooted machine top below
    → (rule_at machine top.rule).kind ≡ BeginEnd →
    depth (stack_of t below) ≡ length below
popped-falls machine top t [] rooted e = absurd (rooted e)
popped-falls machine top t (frame ∷ below) rooted e = refl

popped-rooted : (machine : Machine) (top : Frame) (content : Scopes) (below : List Frame) → IsRooted machine top below →
    IsRooted machine (stack_of (record top { content = content }) below).top
    (stack_of (record top { content = content }) below).below
popped-rooted machine top content [] rooted = rooted
popped-rooted machine top content (frame ∷ below) rooted = rooted

popped-turns : (b : Bool) (d before : ℕ) → suc d ≡ before → turns_here b d < turns_here false before
popped-turns true d before e = omega arith
popped-turns false d before e = omega arith

end_found-steps : (run : Run) (m : Matched) (state : State) → IsRunning run state
    → MayBe (rule_at run.machine state.stack.top.rule).kind OfEnd →
    state.place ≤ m.to → m.to ≤ length run.text → Steps run state (end_found run m state)
end_found-steps run m state running may begins ends =
    by_end (is_here m state && is_at state.place state.stack.top.enter) refl
  where
    told : State
    told = end_told run m state.stack.top.content
        (record state { stack = with_content state.stack.top.name state.stack })

    falls : depth (stack_of (record state.stack.top { content = state.stack.top.name }) state.stack.below)
        ≡ length state.stack.below
    falls = popped-falls run.machine state.stack.top (record state.stack.top { content = state.stack.top.name })
        state.stack.below running.rooted
        (begins-and-ends (rule_at run.machine state.stack.top.rule).kind may)

    by_end : (b : Bool) → (is_here m state && is_at state.place state.stack.top.enter) ≡ b →
        Steps run state (ended b run m (end_told run m state.stack.top.content
        (record state { stack = with_content state.stack.top.name state.stack })))
    by_end true e = tt
    by_end false e =
        goes_on-steps run m state
        (record state {
          stack = stack_of (record state.stack.top { content = state.stack.top.name }) state.stack.below;
          anchor = state.stack.top.anchor;
          out = (end_told run m state.stack.top.content
              (record state { stack = with_content state.stack.top.name state.stack })).out;
        })
        running refl
        (record {
          few = omega (arith, running.few, falls);
          rooted =
              popped-rooted run.machine state.stack.top state.stack.top.name state.stack.below running.rooted;
        })
        begins ends
        (λ here.
        let elsewhere : is_at state.place state.stack.top.enter ≡ false = grind (arith, here, e) in
        let fewer : turns_here (is_at state.place
        (stack_of (record state.stack.top { content = state.stack.top.name }) state.stack.below).top.enter)
        (depth (stack_of (record state.stack.top { content = state.stack.top.name })
        state.stack.below)) < turns_here false (depth state.stack) =
        popped-turns (is_at state.place (stack_of (record state.stack.top { content = state.stack.top.name })
        state.stack.below).top.enter)
        (depth (stack_of (record state.stack.top { content = state.stack.top.name }) state.stack.below))
        (depth state.stack) (omega (arith, falls)) in
        rw elsewhere fewer)

-- ---- a match rule

match_found-steps : (run : Run) (rule : Rule) (m : Matched) (state : State) → IsRunning run state → state.place ≤ m.to
    → m.to ≤ length run.text →
    Steps run state (match_found run rule m state)
match_found-steps run rule m state running begins ends = by_place (is_here m state) refl
  where
    by_place : (b : Bool) → is_here m state ≡ b
        → Steps run state (rest_where b run m (popped_where b (match_told run rule m state)))
    by_place true e = tt
    by_place false e =
        goes_on-steps run m state (match_told run rule m state) running refl
        (record { few = running.few; rooted = running.rooted }) begins ends
        (λ here. let no : true ≡ false = sym here ∙ e in absurd (cc))

-- ---- a begin rule

pushed-turns : (b : Bool) (d : ℕ) → d < 1000 → turns_here true (suc d) < turns_here b d
pushed-turns true d h = omega arith
pushed-turns false d h = omega arith

abbrev pushed : Run → (number : ℕ) → Rule → Matched → State → State
pushed run number rule m state =
    begin_told run rule m state.stack.top.content
    (record state {
      stack = on (new_frame run number (names run m state.stack.top.content rule.name) m state)
          state.stack;
    })

begun_full-steps : (run : Run) (number : ℕ) (rule : Rule) (m : Matched) (state : State) → IsRunning run state
    → state.place ≤ m.to →
    m.to ≤ length run.text → Steps run state (begun true run number rule m (pushed run number rule m state))
begun_full-steps run number rule m state running begins ends = by_place (is_here m state) refl
  where
    by_place : (b : Bool) → is_here m state ≡ b →
        Steps run state (rest_where b run m (record (pushed run number rule m state)
        { stack = popped (pushed run number rule m state).stack }))
    by_place true e = tt
    by_place false e =
        goes_on-steps run m state (record (pushed run number rule m state)
        { stack = popped (pushed run number rule m state).stack })
        running refl (record { few = running.few; rooted = running.rooted }) begins ends
        (λ here. let no : true ≡ false = sym here ∙ e in absurd (cc))

begun_more-steps : (run : Run) (number : ℕ) (rule : Rule) (m : Matched) (state : State) → IsRunning run state
    → state.place ≤ m.to →
    m.to ≤ length run.text → depth state.stack < 1000
    → Steps run state (begun false run number rule m (pushed run number rule m state))
begun_more-steps run number rule m state running begins ends more =
    by_stuck (is_stuck number m (pushed run number rule m state))
  where
    by_stuck : (b : Bool) → Steps run state (entered b run m (with_settled run rule m (pushed run number rule m state)))
    by_stuck true = tt
    by_stuck false =
        goes_on-steps run m state (with_settled run rule m (pushed run number rule m state)) running refl
        (record { few = omega arith; rooted = running.rooted }) begins ends
        (λ here.
        let fewer : turns_here true (suc (depth state.stack)) < turns_here (is_at state.place state.stack.top.enter)
        (depth state.stack) =
        pushed-turns (is_at state.place state.stack.top.enter) (depth state.stack) more in
        rw (is_at-self state.place) fewer)

begin_found-steps : (run : Run) (number : ℕ) (rule : Rule) (m : Matched) (state : State) → IsRunning run state
    → state.place ≤ m.to →
    m.to ≤ length run.text → Steps run state (begin_found run number rule m state)
begin_found-steps run number rule m state running begins ends = by_depth (nat_le MOST_OPEN (depth state.stack)) refl
  where
    by_depth : (b : Bool) → nat_le MOST_OPEN (depth state.stack) ≡ b
        → Steps run state (begun b run number rule m (pushed run number rule m state))
    by_depth true e = begun_full-steps run number rule m state running begins ends
    by_depth false e = begun_more-steps run number rule m state running begins ends (below (depth state.stack) e)
      where
        below : (d : ℕ) → nat_le 1000 d ≡ false → d < 1000
        below d h = grind (arith, nat_tests)

-- ---- turns

rule_found-steps : (kind : Kind) (run : Run) (number : ℕ) (m : Matched) (state : State) → IsRunning run state
    → state.place ≤ m.to →
    m.to ≤ length run.text → Steps run state (rule_found kind run number m state)
rule_found-steps Match run number m state running begins ends =
    match_found-steps run (rule_at run.machine number) m state running begins ends
rule_found-steps BeginEnd run number m state running begins ends =
    begin_found-steps run number (rule_at run.machine number) m state running begins ends
rule_found-steps BeginWhile run number m state running begins ends =
    begin_found-steps run number (rule_at run.machine number) m state running begins ends
rule_found-steps Group run number m state running begins ends =
    begin_found-steps run number (rule_at run.machine number) m state running begins ends

matched-steps : (of : Of) (run : Run) (m : Matched) (state : State) → IsRunning run state →
    MayBe (rule_at run.machine state.stack.top.rule).kind of → state.place ≤ m.to → m.to ≤ length run.text
    → Steps run state (matched of run m state)
matched-steps OfEnd run m state running may begins ends = end_found-steps run m state running may begins ends
matched-steps (OfRule number) run m state running may begins ends =
    rule_found-steps (rule_at run.machine number).kind run number m state running begins ends

turn_by-steps : (found : Found) (run : Run) (state : State) → IsRunning run state →
    IfAt (rule_at run.machine state.stack.top.rule).kind state.place (length run.text) found
    → Steps run state (turn_by found run state)
turn_by-steps Nothing run state running there = tt
turn_by-steps OutOfBudget run state running there = tt
turn_by-steps (At m) run state running there =
    matched-steps m.of run m state running there.of (omega (arith, there.begins, there.goes)) there.ends

pub turn-steps : (run : Run) (state : State) → IsRunning run state → Steps run state (turn run state)
turn-steps run state running =
    turn_by-steps (search run.machine run.text state) run state running
    (search-there run.machine run.text state running.inside)

-- ---- runs

-- with as many turns as may still come, a run ends by itself
turns-end : (run : Run) (fuel : ℕ) (state : State) → IsRunning run state → turns_left (length run.text) state ≤ fuel
    → RunsTo run state (turns run fuel state)
unfolding turns
turns-end run zero state running enough =
    absurd (let some : 1 ≤ turns_here (is_at state.place state.stack.top.enter) (depth state.stack) =
    turns_here-some (is_at state.place state.stack.top.enter) (depth state.stack) in omega arith)
  where
    turns_here-some : (b : Bool) (d : ℕ) → 1 ≤ turns_here b d
    turns_here-some true d = omega arith
    turns_here-some false d = omega arith
turns-end run (suc fuel) state running enough =
    by_turn (turn run state) refl (turn-steps run state running)
    (λ next is_running fewer. turns-end run fuel next is_running (omega (arith, fewer, enough)))
  where
    by_turn : (turned : Turned) → turn run state ≡ turned → Steps run state turned →
        ((next : State) → IsRunning run next → turns_left (length run.text) next < turns_left (length run.text) state
        → RunsTo run next (turns run fuel next)) →
        RunsTo run state (after_turn turned (turns run fuel))
    by_turn (Stops end) e steps goes = last_turn e
    by_turn (GoesOn next) e steps goes = then_runs e (goes next steps.0 steps.1)

pub run_from-ends : (machine : Machine) (inside : Option Running) (text : List ℕ) (state : State) →
    IsRunning (record { machine = machine; inside = inside; text = text }) state →
    RunsTo (record { machine = machine; inside = inside; text = text }) state (run_from machine inside text state)
run_from-ends machine inside text state running =
    turns-end (record { machine = machine; inside = inside; text = text }) (most_turns_here * (length text + 1)) state
    running
    (let few : turns_here (is_at state.place state.stack.top.enter) (depth state.stack) ≤ 2033 =
    turns_here-few (is_at state.place state.stack.top.enter) (depth state.stack) running.few in
    omega (arith, running.inside))
