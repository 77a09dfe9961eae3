-- Turns, the while pass and whole runs go alike where the runs inside captures do.
use Rattle.std.proofs.Common.{◌≡◌, ℕ, ◌+◌, ◌≤◌, List, [], ◌∷◌, length, refl, ap, subst}
use Rattle.std.proofs.Common.{◌∙◌, arith}
use Rattle.std.specs.Prelude.{Bool, true, false, ◌&&◌, nat_lt, nat_le, Option, Some, if◌then◌else◌}
use Rattle.scope_defs.specs.Scopes.{Scopes}
use Rattle.scope_defs.specs.Frames.{Frame, Stack, depth, on}
use Rattle.rule_defs.specs.Rules.{Kind, Match, BeginEnd, BeginWhile, Group, Slot, Never, Read, Later, Entry, Rule}
use Rattle.line_defs.specs.declared.limits.TheConstants.{MOST_OPEN}
use Rattle.line_defs.specs.Machine.{Machine, rule_at}
use Rattle.line_defs.specs.Frames.{popped, with_content, is_at}
use Rattle.line_defs.specs.Runs.{State, Turned, advanced}
use Rattle.line_defs.specs.Search.{Of, OfEnd, OfRule, Matched, Found, Nothing, OutOfBudget, At, while_found}
use Rattle.line_defs.specs.Injections.{search}
use Rattle.line_defs.specs.Captures.{Running}
use Rattle.line_defs.specs.Turns.{Run, names, told_match, rest_where, is_here, end_told, ended, end_found}
use Rattle.line_defs.specs.Turns.{match_told, popped_where, match_found, new_frame, begin_told, kept_end}
use Rattle.line_defs.specs.Turns.{is_stuck, entered, begun, begin_found, rule_found, matched, turn_by}
use Rattle.line_defs.specs.Turns.{turn}
use Rattle.line_defs.specs.WhilePass.{asked, asked_where, pass_over, from_root, while_pass}
use Rattle.line_laws.specs.Matches.{AreParts}
use Rattle.line_laws.specs.Starts.{IsBuiltTo}
use Rattle.line_laws.proofs.Found.{IfAt, search-there, while-there}
use Rattle.line_laws.proofs.Agree.{AgreeWhere, run_with, told_match-agrees}

module _ (machine : Machine) (most : ℕ) (text : List ℕ) (one other : Option Running)
    (agree : AgreeWhere machine (most + 2) one other) where
  abbrev run_one : Run
  run_one = run_with machine text one

  abbrev run_other : Run
  run_other = run_with machine text other

  -- ---- one match

  match-agrees : (state : State) (before scopes : Scopes) (m : Matched) (entries : List Entry) →
      IsBuiltTo (most + 1) machine state.stack → AreParts (length text) m.captures →
      told_match run_one state before scopes m entries ≡ told_match run_other state before scopes m entries
  match-agrees state before scopes m entries built parts =
      told_match-agrees machine (most + 1) text one other state before scopes m entries built
      (subst (λ n. AgreeWhere machine n one other) (omega arith) agree) parts

  higher : (stack : Stack) → IsBuiltTo most machine stack → IsBuiltTo (most + 1) machine stack
  higher stack built = record { few = omega (arith, built.few); rooted = built.rooted }

  ended-agrees : (b : Bool) (m : Matched) (state : State) → ended b run_one m state ≡ ended b run_other m state
  ended-agrees true m state = refl
  ended-agrees false m state = refl

  end_found-agrees : (m : Matched) (state : State) → IsBuiltTo most machine state.stack →
      AreParts (length text) m.captures → end_found run_one m state ≡ end_found run_other m state
  end_found-agrees m state built parts =
      ap
      (λ out. ended (is_here m state && is_at state.place state.stack.top.enter) run_one m
      (record state { stack = with_content state.stack.top.name state.stack; out = out }))
      (match-agrees (record state { stack = with_content state.stack.top.name state.stack }) state.stack.top.content
      state.stack.top.name m (rule_at machine state.stack.top.rule).finish_captures
      (named state.stack.top state.stack.below built) parts)
      ∙ ended-agrees (is_here m state && is_at state.place state.stack.top.enter) m
      (end_told run_other m state.stack.top.content
      (record state { stack = with_content state.stack.top.name state.stack }))
    where
      named : (top : Frame) (below : List Frame) → IsBuiltTo most machine (record { top = top; below = below }) →
          IsBuiltTo (most + 1) machine (record { top = record top { content = top.name }; below = below })
      named top [] built = record { few = omega (arith, built.few); rooted = built.rooted }
      named top (frame ∷ below) built = record { few = omega (arith, built.few); rooted = built.rooted }

  rest_where-agrees : (b : Bool) (m : Matched) (state : State) →
      rest_where b run_one m state ≡ rest_where b run_other m state
  rest_where-agrees true m state = refl
  rest_where-agrees false m state = refl

  match_found-agrees : (rule : Rule) (m : Matched) (state : State) → IsBuiltTo most machine state.stack →
      AreParts (length text) m.captures → match_found run_one rule m state ≡ match_found run_other rule m state
  match_found-agrees rule m state built parts =
      ap (λ out. rest_where (is_here m state) run_one m (popped_where (is_here m state) (record state { out = out })))
      (match-agrees state state.stack.top.content (names run_one m state.stack.top.content rule.name) m
      rule.start_captures (higher state.stack built) parts)
      ∙ rest_where-agrees (is_here m state) m (popped_where (is_here m state) (match_told run_other rule m state))

  begun-agrees : (full : Bool) (number : ℕ) (rule : Rule) (m : Matched) (state : State) →
      begun full run_one number rule m state ≡ begun full run_other number rule m state
  begun-agrees true number rule m state = rest_where-agrees (is_here m state) m (record state {
    stack =
        popped state.stack;
  })
  begun-agrees false number rule m state = by_stuck (is_stuck number m state) rule.finish
    where
      by_stuck : (b : Bool) (finish : Slot) →
          entered b run_one m (record state {
            anchor = Some m.to;
            stack = record state.stack {
              top = record state.stack.top {
                content = names run_one m state.stack.top.content rule.content;
                end_text = kept_end run_one m finish;
              };
            };
          })
          ≡ entered b run_other m (record state {
            anchor = Some m.to;
            stack = record state.stack {
              top = record state.stack.top {
                content = names run_other m state.stack.top.content rule.content;
                end_text = kept_end run_other m finish;
              };
            };
          })
      by_stuck true Never = refl
      by_stuck true (Read tree) = refl
      by_stuck true (Later pattern groups) = refl
      by_stuck false Never = refl
      by_stuck false (Read tree) = refl
      by_stuck false (Later pattern groups) = refl

  begin_found-agrees : (number : ℕ) (rule : Rule) (m : Matched) (state : State) → IsBuiltTo most machine state.stack →
      AreParts (length text) m.captures →
      begin_found run_one number rule m state ≡ begin_found run_other number rule m state
  begin_found-agrees number rule m state built parts =
      ap (λ out. begun (nat_le MOST_OPEN (depth state.stack)) run_one number rule m (record pushed { out = out }))
      (match-agrees pushed state.stack.top.content (names run_one m state.stack.top.content rule.name) m
      rule.start_captures (record { few = omega (arith, built.few); rooted = built.rooted }) parts)
      ∙ begun-agrees (nat_le MOST_OPEN (depth state.stack)) number rule m
      (begin_told run_other rule m state.stack.top.content pushed)
    where
      pushed : State
      pushed = record state {
        stack =
            on (new_frame run_one number (names run_one m state.stack.top.content rule.name) m state) state.stack;
      }

  rule_found-agrees : (kind : Kind) (number : ℕ) (m : Matched) (state : State) → IsBuiltTo most machine state.stack →
      AreParts (length text) m.captures →
      rule_found kind run_one number m state ≡ rule_found kind run_other number m state
  rule_found-agrees Match number m state built parts = match_found-agrees (rule_at machine number) m state built parts
  rule_found-agrees BeginEnd number m state built parts =
      begin_found-agrees number (rule_at machine number) m state built parts
  rule_found-agrees BeginWhile number m state built parts =
      begin_found-agrees number (rule_at machine number) m state built parts
  rule_found-agrees Group number m state built parts =
      begin_found-agrees number (rule_at machine number) m state built parts

  matched-agrees : (of : Of) (m : Matched) (state : State) → IsBuiltTo most machine state.stack →
      AreParts (length text) m.captures → matched of run_one m state ≡ matched of run_other m state
  matched-agrees OfEnd m state built parts = end_found-agrees m state built parts
  matched-agrees (OfRule number) m state built parts =
      rule_found-agrees (rule_at machine number).kind number m state built parts

  -- ---- turns

  turn_by-agrees : (kind : Kind) (found : Found) (state : State) → IsBuiltTo most machine state.stack →
      IfAt kind state.place (length text) found → turn_by found run_one state ≡ turn_by found run_other state
  turn_by-agrees kind Nothing state built there = refl
  turn_by-agrees kind OutOfBudget state built there = refl
  turn_by-agrees kind (At m) state built there = matched-agrees m.of m state built there.parts

  pub turn-agrees : (state : State) → state.place ≤ length text → IsBuiltTo most machine state.stack →
      turn run_one state ≡ turn run_other state
  turn-agrees state inside built =
      turn_by-agrees (rule_at machine state.stack.top.rule).kind (search machine text state) state built
      (search-there machine text state inside)

  -- ---- the while pass

  asked-agrees : (kind : Kind) (found : Found) (frame : Frame) (below : List Frame) (state : State)
      (next next' : State → Turned) → IsBuiltTo most machine state.stack →
      IfAt kind state.place (length text) found →
      ((s : State) → s.place ≤ length text → IsBuiltTo most machine s.stack → next s ≡ next' s) →
      state.place ≤ length text →
      asked found run_one frame below state next ≡ asked found run_other frame below state next'
  asked-agrees kind Nothing frame below state next next' built there same inside = refl
  asked-agrees kind OutOfBudget frame below state next next' built there same inside = refl
  asked-agrees kind (At m) frame below state next next' built there same inside =
      ap (λ out. next (advanced m.to (record state { anchor = Some m.to; out = out })))
      (match-agrees state frame.content frame.content m (rule_at machine frame.rule).finish_captures
      (higher state.stack built) there.parts)
      ∙ by_step (nat_lt state.place m.to)
    where
      kept : State
      kept = record state {
        anchor = Some m.to;
        out = told_match run_other state frame.content frame.content m
            (rule_at machine frame.rule).finish_captures;
      }

      by_step : (b : Bool) → next (if b then record kept { place = m.to; first = false } else kept)
          ≡ next' (if b then record kept { place = m.to; first = false } else kept)
      by_step true = same (record kept { place = m.to; first = false }) there.ends built
      by_step false = same kept inside built

  asked_where-agrees : (kind : Kind) (frame : Frame) (below : List Frame) (state : State)
      (next next' : State → Turned) → IsBuiltTo most machine state.stack → state.place ≤ length text →
      ((s : State) → s.place ≤ length text → IsBuiltTo most machine s.stack → next s ≡ next' s) →
      asked_where kind run_one frame below state next ≡ asked_where kind run_other frame below state next'
  asked_where-agrees BeginWhile frame below state next next' built inside same =
      asked-agrees BeginEnd (while_found machine text state frame) frame below state next next' built
      (while-there machine text state frame inside) same inside
  asked_where-agrees Match frame below state next next' built inside same = same state inside built
  asked_where-agrees BeginEnd frame below state next next' built inside same = same state inside built
  asked_where-agrees Group frame below state next next' built inside same = same state inside built

  pass_over-agrees : (over below : List Frame) (state : State) → state.place ≤ length text →
      IsBuiltTo most machine state.stack → pass_over run_one over below state ≡ pass_over run_other over below state
  pass_over-agrees [] below state inside built = refl
  pass_over-agrees (frame ∷ above) below state inside built =
      asked_where-agrees (rule_at machine frame.rule).kind frame below state (pass_over run_one above (frame ∷ below))
      (pass_over run_other above (frame ∷ below)) built inside
      (λ s there is. pass_over-agrees above (frame ∷ below) s there is)

  pub while_pass-agrees : (state : State) → state.place ≤ length text → IsBuiltTo most machine state.stack →
      while_pass run_one state ≡ while_pass run_other state
  while_pass-agrees state inside built = pass_over-agrees (from_root state.stack) [] state inside built
