-- What the captures of a match tell: the scopes of captures in one another, and runs of their own over captures with
-- patterns. As vscode-textmate has it; how deep such runs go is this project's own.
use Rattle.std.specs.Prelude.{ℕ, ◌==◌, nat_lt, nat_le, List, [], ◌∷◌, take, Bool, true, false, ◌&&◌, Option, Some, None}
use Rattle.pattern_defs.specs.declared.outcomes.Place.{Place}
use Rattle.pattern_defs.specs.Attempt.{capture_of}
use Rattle.scope_defs.specs.Scopes.{Scopes}
use Rattle.scope_defs.specs.Frames.{Frame, Stack, on}
use Rattle.rule_defs.specs.Rules.{Entry}
use Rattle.line_defs.specs.ScopeTexts.{pushed}
use Rattle.line_defs.specs.Tokens.{Output, put}
use Rattle.line_defs.specs.Runs.{State}
use Rattle.line_defs.specs.Search.{Matched}

-- a run over a text from a state to its end
abbrev pub Running : Type 0
Running = List ℕ → State → State

-- what captures are told of: the run over captures with patterns, where one may still begin, the text, the open rules,
-- whether the text is the first, the scopes around, and the match
pub record Around : Type 0 where
  pub inside : Option Running
  pub text : List ℕ
  pub stack : Stack
  pub first : Bool
  pub scopes : Scopes
  pub matched : Matched

-- the scopes of a capture that is open up to a place
pub record Local : Type 0 where
  pub scopes : Scopes
  pub end : ℕ

-- what is told so far, and the open captures, the innermost first
pub record Opened : Type 0 where
  pub out : Output
  pub locals : List Local

abbrev pub closed_where : Bool → Output → Local → List Local → (Output → Opened) → Opened
closed_where true out local locals next = next (put out local.scopes local.end)
closed_where false out local locals next = record { out = out; locals = local ∷ locals }

-- captures that end at or before a place are closed
abbrev pub closed_to : ℕ → List Local → Output → Opened
closed_to place [] out = record { out = out; locals = [] }
closed_to place (local ∷ locals) out = closed_where (nat_le local.end place) out local locals (closed_to place locals)

abbrev pub closed_all : List Local → Output → Output
closed_all [] out = out
closed_all (local ∷ locals) out = closed_all locals (put out local.scopes local.end)

abbrev pub innermost : Scopes → List Local → Scopes
innermost scopes [] = scopes
innermost scopes (local ∷ locals) = local.scopes

-- runs of their own

abbrev pub named : Around → Scopes → Option (List ℕ) → Scopes
named c scopes name = pushed c.text c.matched.captures scopes name

-- the frame of an entry with patterns
abbrev pub inner_frame : Around → Entry → ℕ → Place → Frame
inner_frame c entry rule taken = record {
  rule = rule;
  enter = Some taken.from;
  anchor = None;
  took_end = false;
  end_text = None;
  name = named c c.scopes entry.name;
  content = named c (named c c.scopes entry.name) entry.content;
}

abbrev pub inner_state : Around → Entry → ℕ → Place → Output → State
inner_state c entry rule taken out = record {
  place = taken.from;
  anchor = None;
  first = c.first && (taken.from == 0);
  stack = on (inner_frame c entry rule taken) c.stack;
  out = out;
}

-- such a run sees the text up to the capture's end; what it tells is kept, and its frames are dropped
abbrev pub run_inside : Around → Running → Entry → ℕ → Place → Output → Output
run_inside c run entry rule taken out = (run (take taken.to c.text) (inner_state c entry rule taken out)).out

-- entries

abbrev pub opened_by_name : Around → Option (List ℕ) → Place → Opened → Opened
opened_by_name c None taken opened = opened
opened_by_name c (Some name) taken opened =
    record opened {
      locals = record {
        scopes = named c (innermost c.scopes opened.locals) (Some name);
        end =
            taken.to;
      } ∷ opened.locals;
    }

-- an entry with patterns has a run of its own where one may still begin; else its name counts
abbrev pub told_by : Around → Option Running → Option ℕ → Entry → Place → Opened → Opened
told_by c (Some run) (Some rule) entry taken opened =
    record opened { out = run_inside c run entry rule taken opened.out }
told_by c _ _ entry taken opened = opened_by_name c entry.name taken opened

-- the scopes around a capture are put to its start
abbrev pub reached : Around → Place → Opened → Opened
reached c taken opened = record opened { out = put opened.out (innermost c.scopes opened.locals) taken.from }

abbrev pub told : Around → Entry → Place → Opened → Opened
told c entry taken opened = told_by c c.inside entry.inner entry taken
    (reached c taken (closed_to taken.from opened.locals opened.out))

-- an empty capture is skipped, and one that starts behind the match ends the captures
abbrev pub by_place : Around → (empty behind : Bool) → Entry → Place → Opened → (Opened → Opened) → Opened
by_place c true behind entry taken opened next = next opened
by_place c false true entry taken opened next = opened
by_place c false false entry taken opened next = next (told c entry taken opened)

abbrev pub by_capture : Around → Option Place → Entry → Opened → (Opened → Opened) → Opened
by_capture c None entry opened next = next opened
by_capture c (Some taken) entry opened next =
    by_place c (taken.from == taken.to) (nat_lt c.matched.to taken.from) entry taken opened next

abbrev pub entries_told : Around → List Entry → Opened → Opened
entries_told c [] opened = opened
entries_told c (entry ∷ entries) opened =
    by_capture c (capture_of c.matched.captures entry.number) entry opened (entries_told c entries)

abbrev pub all_closed : Opened → Output
all_closed opened = closed_all opened.locals opened.out

-- what the entries of a match tell
abbrev pub captures_told : Around → List Entry → Output → Output
captures_told c entries out = all_closed (entries_told c entries (record { out = out; locals = [] }))
