-- The while pass keeps what was told, and takes away frames from the inside alone.
use Rattle.std.proofs.Common.{◌≡◌, ℕ, ◌+◌, ◌≤◌, List, [], ◌∷◌, ◌++◌, length, reverse, refl}
use Rattle.std.proofs.Common.{subst, sym, arith}
use Rattle.std.specs.Prelude.{Bool, true, false, nat_lt, Some, if◌then◌else◌}
use Rattle.std.proofs.lemmas.List.{length-reverse}
use Rattle.std.proofs.lemmas.Grind.{reverse_onto}
use Rattle.scope_defs.specs.Frames.{Frame, frames}
use Rattle.rule_defs.specs.Rules.{Kind, Match, BeginEnd, BeginWhile, Group, Rule}
use Rattle.line_defs.specs.declared.limits.TheConstants.{MOST_OPEN}
use Rattle.line_defs.specs.Machine.{Machine, rule_at}
use Rattle.line_defs.specs.Frames.{stack_of}
use Rattle.line_defs.specs.Tokens.{spent}
use Rattle.line_defs.specs.Runs.{State, Turned, advanced}
use Rattle.line_defs.specs.Search.{Matched, Found, Nothing, OutOfBudget, At, while_found}
use Rattle.line_defs.specs.Turns.{Run, told_match}
use Rattle.line_defs.specs.WhilePass.{kept_by, asked, asked_where, pass_over, from_root, while_pass}
use Rattle.line_laws.specs.RunEnds.{IsRooted}
use Rattle.line_laws.specs.Starts.{IsBuilt}
use Rattle.line_laws.proofs.Found.{IsThere, IfAt, while-there}
use Rattle.line_laws.proofs.Told.{spent-is}
use Rattle.line_laws.proofs.TurnsTold.{Tells, TellsOn, Keeps, told_match-is, rest-tells, advanced-tells}
use Rattle.line_laws.proofs.Stacks.{Builds}

-- ---- what was told

module _ (run : Run) (chars : ℕ) (keeps : Keeps run chars) where
  kept_by-tells : (kind : Kind) (frame : Frame) (rule : Rule) (m : Matched) (state : State) →
      IsThere kind state.place (length run.text) m → Tells run chars state →
      Tells run chars (kept_by run frame rule m state)
  kept_by-tells kind frame rule m state there is =
      advanced-tells run chars keeps m.to
      (record state {
        anchor = Some m.to;
        out = told_match run state frame.content frame.content m rule.finish_captures;
      })
      there.ends
      (record {
        inside = is.inside;
        told = told_match-is run chars state frame.content frame.content m rule.finish_captures kind state.place
            keeps there is.told;
      })

  asked-tells : (found : Found) (frame : Frame) (below : List Frame) (state : State) (next : State → Turned) →
      IfAt BeginEnd state.place (length run.text) found → Tells run chars state →
      ((s : State) → Tells run chars s → TellsOn run chars (next s)) →
      TellsOn run chars (asked found run frame below state next)
  asked-tells Nothing frame below state next there is goes = record { inside = is.inside; told = is.told }
  asked-tells OutOfBudget frame below state next there is goes =
      rest-tells run chars keeps (record state { out = spent state.out }) (spent-is chars state.out is.told)
  asked-tells (At m) frame below state next there is goes =
      goes (kept_by run frame (rule_at run.machine frame.rule) m state)
      (kept_by-tells BeginEnd frame (rule_at run.machine frame.rule) m state there is)

  asked_where-tells : (kind : Kind) (frame : Frame) (below : List Frame) (state : State) (next : State → Turned) →
      Tells run chars state → ((s : State) → Tells run chars s → TellsOn run chars (next s)) →
      TellsOn run chars (asked_where kind run frame below state next)
  asked_where-tells BeginWhile frame below state next is goes =
      asked-tells (while_found run.machine run.text state frame) frame below state next
      (while-there run.machine run.text state frame is.inside) is goes
  asked_where-tells Match frame below state next is goes = goes state is
  asked_where-tells BeginEnd frame below state next is goes = goes state is
  asked_where-tells Group frame below state next is goes = goes state is

  pass_over-tells : (over below : List Frame) (state : State) → Tells run chars state →
      TellsOn run chars (pass_over run over below state)
  pass_over-tells [] below state is = is
  pass_over-tells (frame ∷ above) below state is =
      asked_where-tells (rule_at run.machine frame.rule).kind frame below state (pass_over run above (frame ∷ below)) is
      (λ s tells. pass_over-tells above (frame ∷ below) s tells)

  pub while_pass-tells : (state : State) → Tells run chars state → TellsOn run chars (while_pass run state)
  while_pass-tells state is = pass_over-tells (from_root state.stack) [] state is

-- ---- the stack

-- the next frame stands on those that have passed, or is the root
abbrev NextIsRooted : Machine → (over below : List Frame) → Type 0
NextIsRooted machine [] below = Unit {0}
NextIsRooted machine (frame ∷ above) below = IsRooted machine frame below

-- the frames that are left, and those that have passed
record ArePassed (machine : Machine) (over below : List Frame) : Type 0 where
  few : length over + length below ≤ MOST_OPEN
  rooted : NextIsRooted machine over below

next-rooted : (machine : Machine) (frame : Frame) (above below : List Frame) → IsRooted machine frame below →
    NextIsRooted machine above (frame ∷ below)
next-rooted machine frame [] below rooted = tt
next-rooted machine frame (next ∷ above) below rooted = rooted

dropped-built : (machine : Machine) (frame : Frame) (above below : List Frame) →
    ArePassed machine (frame ∷ above) below → IsBuilt machine (stack_of frame below)
dropped-built machine frame above [] are = record { few = omega arith; rooted = are.rooted }
dropped-built machine frame above (lower ∷ below) are =
    record { few = omega (arith, are.few); rooted = are.rooted }

module _ (run : Run) where
  advanced-stack : (to : ℕ) (state : State) → (advanced to state).stack ≡ state.stack
  advanced-stack to state = by_step (nat_lt state.place to)
    where
      by_step : (b : Bool) → (if b then record state { place = to; first = false } else state).stack ≡ state.stack
      by_step true = refl
      by_step false = refl

  asked-builds : (found : Found) (frame : Frame) (above below : List Frame) (state : State) (next : State → Turned) →
      ArePassed run.machine (frame ∷ above) below → IsBuilt run.machine state.stack →
      ((s : State) → IsBuilt run.machine s.stack → Builds run.machine (next s)) →
      Builds run.machine (asked found run frame below state next)
  asked-builds Nothing frame above below state next are is goes = dropped-built run.machine frame above below are
  asked-builds OutOfBudget frame above below state next are is goes = is
  asked-builds (At m) frame above below state next are is goes =
      goes (kept_by run frame (rule_at run.machine frame.rule) m state)
      (subst (IsBuilt run.machine)
      (sym (advanced-stack m.to (record state {
        anchor = Some m.to;
        out = told_match run state frame.content frame.content m (rule_at run.machine frame.rule).finish_captures;
      }))) is)

  asked_where-builds : (kind : Kind) (frame : Frame) (above below : List Frame) (state : State)
      (next : State → Turned) → ArePassed run.machine (frame ∷ above) below → IsBuilt run.machine state.stack →
      ((s : State) → IsBuilt run.machine s.stack → Builds run.machine (next s)) →
      Builds run.machine (asked_where kind run frame below state next)
  asked_where-builds BeginWhile frame above below state next are is goes =
      asked-builds (while_found run.machine run.text state frame) frame above below state next are is goes
  asked_where-builds Match frame above below state next are is goes = goes state is
  asked_where-builds BeginEnd frame above below state next are is goes = goes state is
  asked_where-builds Group frame above below state next are is goes = goes state is

  pass_over-builds : (over below : List Frame) (state : State) → ArePassed run.machine over below →
      IsBuilt run.machine state.stack → Builds run.machine (pass_over run over below state)
  pass_over-builds [] below state are is = is
  pass_over-builds (frame ∷ above) below state are is =
      asked_where-builds (rule_at run.machine frame.rule).kind frame above below state
      (pass_over run above (frame ∷ below)) are is
      (λ s built. pass_over-builds above (frame ∷ below) s
      (record {
        few = omega (arith, are.few);
        rooted = next-rooted run.machine frame above below are.rooted;
      }) built)

  -- the outermost frame comes first
  abbrev RootIsFirst : List Frame → Type 0
  RootIsFirst [] = ⊥
  RootIsFirst (frame ∷ above) = IsRooted run.machine frame []

  root-more : (over more : List Frame) → RootIsFirst over → RootIsFirst (over ++ more)
  root-more [] more first = absurd first
  root-more (frame ∷ above) more first = first

  root-first : (top : Frame) (below : List Frame) → IsRooted run.machine top below →
      RootIsFirst (reverse (top ∷ below))
  root-first top [] rooted = rooted
  root-first top (frame ∷ below) rooted =
      subst RootIsFirst (sym (reverse_onto (frame ∷ below) top []))
      (root-more (reverse (frame ∷ below)) (top ∷ []) (root-first frame below rooted))

  first-next : (over : List Frame) → RootIsFirst over → NextIsRooted run.machine over []
  first-next [] first = tt
  first-next (frame ∷ above) first = first

  pub while_pass-builds : (state : State) → IsBuilt run.machine state.stack →
      Builds run.machine (while_pass run state)
  while_pass-builds state is =
      pass_over-builds (from_root state.stack) [] state
      (record {
        few = omega (arith, length-reverse (frames state.stack), is.few);
        rooted = first-next (from_root state.stack) (root-first state.stack.top state.stack.below is.rooted);
      }) is
