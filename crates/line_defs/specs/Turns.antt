-- A turn of a run: what the search finds, and what is done with it. As vscode-textmate has it; what a spent attempt
-- does,
-- and how many frames there may be, are this project's own.
use Rattle.std.specs.Prelude.{ℕ, zero, suc, ◌+◌, ◌*◌, ◌==◌, nat_le, List, [], ◌∷◌, length, Bool, true, false, ◌&&◌, chars, encode_utf8_all}
use Rattle.std.specs.Prelude.{◌||◌, Option, Some, None}
use Rattle.scope_defs.specs.Scopes.{Scopes}
use Rattle.scope_defs.specs.Frames.{Frame, on, depth}
use Rattle.rule_defs.specs.Rules.{Kind, Match, Slot, Later, Entry, Rule}
use Rattle.line_defs.specs.declared.limits.TheConstants.{MOST_OPEN}
use Rattle.line_defs.specs.Machine.{Machine, rule_at}
use Rattle.line_defs.specs.ScopeTexts.{pushed}
use Rattle.line_defs.specs.EndTexts.{end_text}
use Rattle.line_defs.specs.Frames.{popped, with_content, is_at}
use Rattle.line_defs.specs.Tokens.{Output, put, spent}
use Rattle.line_defs.specs.Runs.{State, Turned, GoesOn, Stops, rest, advanced}
use Rattle.line_defs.specs.Search.{Matched, Of, OfEnd, OfRule, Found, Nothing, OutOfBudget, At}
use Rattle.line_defs.specs.Injections.{search}
use Rattle.line_defs.specs.Captures.{Running, captures_told}

-- what a run has: the rules, the runs inside captures, and the text
pub record Run : Type 0 where
  pub machine : Machine
  pub inside : Option Running
  pub text : List ℕ

-- ---- what each match tells

abbrev pub names : Run → Matched → Scopes → (name : Option (List ℕ)) → Scopes
names run m scopes name = pushed run.text m.captures scopes name

abbrev pub told_captures : Run → State → Scopes → Matched → List Entry → Output → Output
told_captures run state scopes m entries out =
    captures_told (record {
      inside = run.inside;
      text = run.text;
      stack = state.stack;
      first = state.first;
      scopes =
          scopes;
      matched = m;
    }) entries out

-- the scopes of before are put to the match's start, its captures are told, and its own scopes are put to its end
abbrev pub told_match : Run → State → (before scopes : Scopes) → Matched → List Entry → Output
told_match run state before scopes m entries =
    put (told_captures run state scopes m entries (put state.out before m.from)) scopes m.to

-- ---- how a turn ends

abbrev pub goes_on : Matched → State → Turned
goes_on m state = GoesOn (advanced m.to state)

-- the rest, where something stands in the way; else the run goes on behind the match
abbrev pub rest_where : Bool → Run → Matched → State → Turned
rest_where true run m state = rest run.text state
rest_where false run m state = goes_on m state

-- whether a match takes nothing and lies where the run stands
abbrev pub is_here : Matched → State → Bool
is_here m state = m.to == state.place

-- ---- the end of the top frame

-- From the match on the name scopes of the frame hold.
abbrev pub end_told : Run → Matched → (content : Scopes) → State → State
end_told run m content state =
    record state {
      out = told_match run state content state.stack.top.content m
          (rule_at run.machine state.stack.top.rule).finish_captures;
    }

-- A frame that was entered here and ends here stands again as it was popped, with the rest. Else it is popped, and the
-- anchor is the one that it kept.
abbrev pub ended : (stands_again : Bool) → Run → Matched → State → Turned
ended true run m state = rest run.text state
ended false run m state = goes_on m (record state { stack = popped state.stack; anchor = state.stack.top.anchor })

abbrev pub end_found : Run → Matched → State → Turned
end_found run m state =
    ended (is_here m state && is_at state.place state.stack.top.enter) run m
    (end_told run m state.stack.top.content (record state { stack = with_content state.stack.top.name state.stack }))

-- ---- a match rule

abbrev pub match_told : Run → Rule → Matched → State → State
match_told run rule m state =
    record state {
      out = told_match run state state.stack.top.content (names run m state.stack.top.content rule.name)
          m rule.start_captures;
    }

-- One that takes nothing pops a frame, unless that is the root, with the rest.
abbrev pub popped_where : Bool → State → State
popped_where true state = record state { stack = popped state.stack }
popped_where false state = state

abbrev pub match_found : Run → Rule → Matched → State → Turned
match_found run rule m state =
    rest_where (is_here m state) run m (popped_where (is_here m state) (match_told run rule m state))

-- ---- a begin rule

-- the frame as it is pushed: the scopes of before with the rule's name are those of the whole and, so far, of its
-- content
abbrev pub new_frame : Run → (number : ℕ) → Scopes → Matched → State → Frame
new_frame run number scopes m state = record {
  rule = number;
  enter = Some state.place;
  anchor = state.anchor;
  took_end = m.to == length run.text;
  end_text = None;
  name = scopes;
  content = scopes;
}

abbrev pub begin_told : Run → Rule → Matched → (before : Scopes) → State → State
begin_told run rule m before state = record state
    { out = told_match run state before state.stack.top.name m rule.start_captures }

-- the text of an end is kept where captures change it, as UTF-8 bytes
abbrev pub kept_end : Run → Matched → Slot → Option (List ℕ)
kept_end run m (Later text groups) = Some (encode_utf8_all (end_text run.text m.captures (chars text)))
kept_end run m _ = None

-- the frame as it stays: with the scopes of its content, and the text of its end
abbrev pub settled : Run → Rule → Matched → Frame → Frame
settled run rule m frame = record frame {
  content = names run m frame.content rule.content;
  end_text =
      kept_end run m rule.finish;
}

abbrev pub with_settled : Run → Rule → Matched → State → State
with_settled run rule m state = record state
    { anchor = Some m.to; stack = record state.stack { top = settled run rule m state.stack.top } }

-- whether one of the frames, going down as long as they were entered here, has a rule
abbrev pub is_entered : (place number : ℕ) → List Frame → Bool
is_entered place number [] = false
is_entered place number (frame ∷ frames) =
    is_at place frame.enter && ((frame.rule == number) || is_entered place number frames)

-- A frame whose begin takes nothing, on one of its own rule that was entered here too, is popped, with the rest.
abbrev pub is_stuck : (number : ℕ) → Matched → State → Bool
is_stuck number m state = is_here m state && is_entered state.place number state.stack.below

abbrev pub entered : (stuck : Bool) → Run → Matched → State → Turned
entered true run m state = rest run.text (record state { stack = popped state.stack })
entered false run m state = goes_on m state

-- Where there are as many frames as there may be, the new one is dropped, and the anchor stays; with the rest, where
-- the
-- match takes nothing.
abbrev pub begun : (full : Bool) → Run → (number : ℕ) → Rule → Matched → State → Turned
begun true run number rule m state = rest_where (is_here m state) run m (record state { stack = popped state.stack })
begun false run number rule m state = entered (is_stuck number m state) run m (with_settled run rule m state)

abbrev pub begin_found : Run → (number : ℕ) → Rule → Matched → State → Turned
begin_found run number rule m state =
    begun (nat_le MOST_OPEN (depth state.stack)) run number rule m
    (begin_told run rule m state.stack.top.content
    (record state {
      stack = on (new_frame run number (names run m state.stack.top.content rule.name) m state)
          state.stack;
    }))

-- ---- the turn

abbrev pub rule_found : Kind → Run → (number : ℕ) → Matched → State → Turned
rule_found Match run number m state = match_found run (rule_at run.machine number) m state
rule_found _ run number m state = begin_found run number (rule_at run.machine number) m state

abbrev pub matched : Of → Run → Matched → State → Turned
matched OfEnd run m state = end_found run m state
matched (OfRule number) run m state = rule_found (rule_at run.machine number).kind run number m state

-- Where nothing is found, or an attempt is spent, the rest.
abbrev pub turn_by : Found → Run → State → Turned
turn_by Nothing run state = rest run.text state
turn_by OutOfBudget run state = rest run.text (record state { out = spent state.out })
turn_by (At m) run state = matched m.of run m state

abbrev pub turn : Run → State → Turned
turn run state = turn_by (search run.machine run.text state) run state

-- ---- the run

abbrev pub after_turn : Turned → (State → State) → State
after_turn (GoesOn state) next = next state
after_turn (Stops state) next = state

-- Turns until one stops the run. The number bounds how deep the definition goes; a run ends by itself before.
unfoldable pub turns : Run → (fuel : ℕ) → State → State
turns run zero state = state
turns run (suc fuel) state = after_turn (turn run state) (turns run fuel)

-- Turns at one place: first they pop frames that were entered elsewhere, and then they push frames.
abbrev pub most_turns_here : ℕ
most_turns_here = 2100

abbrev pub run_from : Machine → (inside : Option Running) → Running
run_from machine inside text state =
    turns (record { machine = machine; inside = inside; text = text }) (most_turns_here * (length text + 1)) state
