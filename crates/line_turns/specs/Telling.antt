-- What captures that take something tell, as the definition has it of the entries of a match.
use Rattle.std.specs.Prelude.{ℕ, ◌==◌, nat_lt, List, [], ◌∷◌, take, Bool, true, false, ◌&&◌, Option, Some, None}
use Rattle.scope_defs.specs.Scopes.{Scopes, with_names}
use Rattle.scope_defs.specs.Frames.{Frame, Stack, on}
use Rattle.scope_defs.specs.declared.types.RuleId.{RuleId}
use Rattle.line_defs.specs.Tokens.{Output, put}
use Rattle.line_defs.specs.Runs.{State}
use Rattle.line_defs.specs.Captures.{Running, Local, Opened, closed_to, innermost, all_closed}
use Rattle.line_output.specs.declared.taken.Taken.{Taken}
use Rattle.line_output.specs.Names.{with_pieces}
use Rattle.line_turns.specs.declared.over.Over.{Over}
use Rattle.line_turns.specs.declared.turns.Around.{Around}
use Rattle.line_turns.specs.Over.{run_of}

-- the runs inside captures, the text, the open rules, whether the text is the first, the scopes around, and where the
-- match ends
pub record Telling : Type 0 where
  pub inside : Option Running
  pub text : List ℕ
  pub stack : Stack
  pub first : Bool
  pub scopes : Scopes
  pub to : ℕ

abbrev pub telling_of : Over → (levels : ℕ) → Around → Telling
telling_of over levels around = record {
  inside = (run_of over levels).inside;
  text = over.text.now;
  stack = around.stack.now;
  first = around.first;
  scopes = around.scopes.now;
  to = around.to;
}

-- ---- runs of their own

abbrev pub inner_frame : Telling → Taken → RuleId → Frame
inner_frame t taken rule = record {
  rule = rule.0;
  enter = Some taken.place.from;
  anchor = None;
  took_end = false;
  end_text = None;
  name = with_pieces t.scopes taken.name;
  content = with_pieces (with_pieces t.scopes taken.name) taken.content;
}

abbrev pub inner_state : Telling → Taken → RuleId → Output → State
inner_state t taken rule out = record {
  place = taken.place.from;
  anchor = None;
  first = t.first && (taken.place.from == 0);
  stack = on (inner_frame t taken rule) t.stack;
  out = out;
}

abbrev pub inside_told : Telling → Running → Taken → RuleId → Output → Output
inside_told t run taken rule out = (run (take taken.place.to t.text) (inner_state t taken rule out)).out

-- ---- captures

-- the open captures with one that has names
abbrev pub named_locals : Scopes → Option Scopes → (end : ℕ) → List Local → List Local
named_locals scopes None end locals = locals
named_locals scopes (Some names) end locals =
    record { scopes = with_names (innermost scopes locals) names; end = end } ∷ locals

abbrev pub told_by : Telling → Option Running → Option RuleId → Taken → Opened → Opened
told_by t (Some run) (Some rule) taken opened = record opened { out = inside_told t run taken rule opened.out }
told_by t _ _ taken opened =
    record opened { locals = named_locals t.scopes taken.name taken.place.to opened.locals }

abbrev pub reached : Telling → Taken → Opened → Opened
reached t taken opened = record opened { out = put opened.out (innermost t.scopes opened.locals) taken.place.from }

abbrev pub taken_told : Telling → Taken → Opened → Opened
taken_told t taken opened = told_by t t.inside taken.inner taken
    (reached t taken (closed_to taken.place.from opened.locals opened.out))

abbrev pub told_where : (behind : Bool) → Opened → Opened → Opened
told_where true before after = before
told_where false before after = after

-- the captures in order; one that starts behind the match ends them
abbrev pub takens_told : Telling → List Taken → Opened → Opened
takens_told t [] opened = opened
takens_told t (taken ∷ takens) opened =
    told_where (nat_lt t.to taken.place.from) opened (takens_told t takens (taken_told t taken opened))

abbrev pub all_told : Telling → List Taken → Output → Output
all_told t takens out = all_closed (takens_told t takens (record { out = out; locals = [] }))
