-- The while pass, frame by frame.
use Rattle.std.proofs.Common.{◌≡◌, ◌≢◌, ℕ, List, [], ◌∷◌, ◌++◌, reverse, refl, ap, sym, ◌∙◌, append_assoc}
use Rattle.std.specs.Prelude.{Some, None}
use Rattle.std.proofs.lemmas.List.{reverse-append}
use Rattle.pattern_defs.specs.declared.outcomes.Flags.{Flags}
use Rattle.rule_table.specs.Views.{Table}
use Rattle.line_search.specs.Machines.{IsOf}
use Rattle.line_turns.specs.declared.over.Over.{Over}
use Rattle.line_turns.specs.Over.{machine_over}
use Rattle.line_defs.specs.Machine.{Machine}
use Rattle.scope_defs.specs.Frames.{Frame, Stack, frames, stack_of}
use Rattle.rule_defs.specs.Rules.{Kind, Match, BeginEnd, BeginWhile, Group}
use Rattle.line_defs.specs.Runs.{State, Turned}
use Rattle.line_defs.specs.Search.{Found, scan, sight, mark, finish_choice, while_found}
use Rattle.line_defs.specs.Turns.{Run}
use Rattle.line_defs.specs.WhilePass.{asked, asked_where, pass_over}

pub asked-lasting : (kind : Kind) (run : Run) (frame : Frame) (below : List Frame) (state : State)
    (next : State → Turned) → kind ≡ BeginWhile
    → asked_where kind run frame below state next
    ≡ asked (while_found run.machine run.text state frame) run frame below state next
asked-lasting kind run frame below state next is =
    ap (λ k. asked_where k run frame below state next) is

pub asked-other : (kind : Kind) (run : Run) (frame : Frame) (below : List Frame) (state : State)
    (next : State → Turned) → kind ≢ BeginWhile → asked_where kind run frame below state next ≡ next state
asked-other Match run frame below state next not = refl
asked-other BeginEnd run frame below state next not = refl
asked-other BeginWhile run frame below state next not = absurd (not refl)
asked-other Group run frame below state next not = refl

-- ---- what a search finds

pub found-while : (over : Over) (searcher : Table) (state st : State) (flags : Flags) (budget : ℕ)
    (frame asked-of : Frame) (found : Found)
    → ((machine : Machine) → IsOf searcher machine
    → found ≡ scan (record { text = over.text.now; place = st.place; flags = flags; budget = budget })
    (finish_choice machine frame))
    → searcher ≡ over.table.now → st ≡ state → flags ≡ record { first = state.first; anchor = mark state }
    → budget ≡ over.limits.budget → frame ≡ asked-of
    → found ≡ while_found (machine_over over) over.text.now state asked-of
found-while over searcher state st flags budget frame asked-of found finds same st-is flags-is budget-is frame-is =
    let machine : Machine = machine_over over in
    let is_of : IsOf searcher machine = record { rules = ap (λ t. t.rules) (sym same); reader = refl } in
    finds machine is_of
    ∙ ap (λ p. scan (record { text = over.text.now; place = p; flags = flags; budget = budget })
    (finish_choice machine frame)) (ap (λ s. s.place) st-is)
    ∙ ap (λ f. scan (record { text = over.text.now; place = state.place; flags = f; budget = budget })
    (finish_choice machine frame)) flags-is
    ∙ ap (λ b. scan (record {
      text = over.text.now;
      place = state.place;
      flags = record { first = state.first; anchor = mark state };
      budget = b;
    }) (finish_choice machine frame)) budget-is
    ∙ ap (λ f. scan (sight machine over.text.now state) (finish_choice machine f)) frame-is

-- ---- the frames in order

frames-below : (belows : List Frame) (below : Stack) → stack_of belows ≡ Some below → frames below ≡ belows
frames-below [] below is = absurd (cc)
frames-below (top ∷ rest) below is =
    let same : record { top = top; below = rest } ≡ below = cc in ap frames (sym same)

pub pass-root : (run : Run) (stack : Stack) (above : List Frame) (state : State) → stack_of stack.below ≡ None
    → pass_over run (reverse (frames stack) ++ above) [] state ≡ pass_over run (stack.top ∷ above) stack.below state
pass-root run stack above state is = by_below stack.below is
  where
    by_below : (belows : List Frame) → stack_of belows ≡ None
        → pass_over run (reverse (stack.top ∷ belows) ++ above) [] state
        ≡ pass_over run (stack.top ∷ above) belows state
    by_below [] h = refl
    by_below (top ∷ rest) h = absurd (cc)

pub pass-below : (run : Run) (stack below : Stack) (above : List Frame) (state : State)
    → stack_of stack.below ≡ Some below
    → pass_over run (reverse (frames stack) ++ above) [] state
    ≡ pass_over run (reverse (frames below) ++ stack.top ∷ above) [] state
pass-below run stack below above state is =
    ap (λ fs. pass_over run fs [] state)
    (ap (λ fs. fs ++ above) (reverse-append (stack.top ∷ []) stack.below)
    ∙ append_assoc (reverse stack.below) (stack.top ∷ []) above
    ∙ ap (λ fs. reverse fs ++ stack.top ∷ above) (sym (frames-below stack.below below is)))

pub pass-on : (run : Run) (stack below : Stack) (above : List Frame) (state : State)
    → stack_of stack.below ≡ Some below
    → pass_over run (stack.top ∷ above) (frames below) state ≡ pass_over run (stack.top ∷ above) stack.below state
pass-on run stack below above state is =
    ap (λ fs. pass_over run (stack.top ∷ above) fs state) (frames-below stack.below below is)
