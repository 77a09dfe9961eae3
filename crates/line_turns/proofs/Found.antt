-- What the search of a turn finds.
use Rattle.std.proofs.Common.{◌≡◌, ℕ, zero, suc, ◌<◌, ◌≤◌, List, [], ◌∷◌, length, refl, ap, sym, ◌∙◌, arith, subst}
use Rattle.std.specs.Prelude.{slice_get, unwrap_or}
use Rattle.pattern_defs.specs.declared.outcomes.Flags.{Flags}
use Rattle.pattern_defs.specs.Attempt.{Captures}
use Rattle.text_pos.specs.declared.limits.Limits.{Limits}
use Rattle.scope_defs.specs.Scopes.{Scopes}
use Rattle.scope_defs.specs.Frames.{Frame}
use Rattle.scope_defs.specs.declared.types.RuleId.{RuleId}
use Rattle.line_search.specs.declared.find.Of.TheVariants as of
use Rattle.line_search.specs.declared.find.Match.{Match}
use Rattle.line_search.specs.Finds.{owner_of}
use Rattle.injection_defs.specs.Injections.{injections_of}
use Rattle.line_search.specs.Machines.{IsOf}
use Rattle.line_search.specs.Prepared.{HasInjections}
use Rattle.line_defs.specs.Tokens.{spent}
use Rattle.rule_defs.specs.Rules.{Rule, no_rule}
use Rattle.rule_table.specs.Views.{Table}
use Rattle.line_defs.specs.Machine.{Machine, rule_at}
use Rattle.line_defs.specs.Runs.{State, Turned, rest}
use Rattle.line_defs.specs.Search.{Found, Nothing, OutOfBudget, At, OfEnd, Sight, Matched}
use Rattle.line_defs.specs.Search.{scan, sight, choices, mark}
use Rattle.line_defs.specs.Injections.{with_injections, search}
use Rattle.line_defs.specs.Turns.{Run, turn, turn_by, matched, end_found, rule_found}
use Rattle.line_laws.proofs.Found.{MayBe, IsThere, IfAt, search-there}
use Rattle.line_turns.specs.Over.{machine_of, machine_over, run_of}
use Rattle.line_turns.specs.Then.{matched_of}
use Rattle.line_turns.specs.declared.over.Over.{Over}

pub turn-found : (over : Over) (levels : ℕ) (state : State) (found : Found)
    → found ≡ search (machine_of over.table.now over.limits) over.text.now state
    → turn_by found (run_of over levels) state ≡ turn (run_of over levels) state
turn-found over levels state found is = ap (λ f. turn_by f (run_of over levels) state) is

-- an end is found only where the rule of the frame is there
may-be-there : (rules : List Rule) (number : ℕ) → MayBe (unwrap_or (slice_get rules number) no_rule).kind OfEnd
    → number < length rules
may-be-there [] number may = absurd may
may-be-there (rule ∷ rules) zero may = omega arith
may-be-there (rule ∷ rules) (suc number) may =
    let less : number < length rules = may-be-there rules number may in omega arith

end-of : (machine : Machine) (place chars : ℕ) (state : State) (m : Matched)
    → IfAt (rule_at machine state.stack.top.rule).kind place chars (At m) → m.of ≡ OfEnd
    → state.stack.top.rule < length machine.rules
end-of machine place chars state m there is =
    may-be-there machine.rules state.stack.top.rule
    (subst (λ of. MayBe (rule_at machine state.stack.top.rule).kind of) is there.of)

pub end-there : (machine : Machine) (text : List ℕ) (state : State) (m : Matched) → state.place ≤ length text
    → At m ≡ search machine text state → m.of ≡ OfEnd → state.stack.top.rule < length machine.rules
end-there machine text state m inside is of =
    end-of machine state.place (length text) state m
    (subst (λ f. IfAt (rule_at machine state.stack.top.rule).kind state.place (length text) f) (sym is)
    (search-there machine text state inside)) of

-- the search of code is that of the definition
pub found-search : (over : Over) (searcher : Table) (state st : State) (flags : Flags) (budget : ℕ) (frame : Frame)
    (found : Found)
    → ((machine : Machine) → IsOf searcher machine → HasInjections searcher machine
    → found ≡ with_injections machine
    (record { text = over.text.now; place = st.place; flags = flags; budget = budget }) frame.content
    (scan (record { text = over.text.now; place = st.place; flags = flags; budget = budget })
    (choices machine frame)))
    → searcher ≡ over.table.now → st ≡ state → flags ≡ record { first = state.first; anchor = mark state }
    → budget ≡ over.limits.budget → frame ≡ st.stack.top
    → found ≡ search (machine_over over) over.text.now state
found-search over searcher state st flags budget frame found finds same st-is flags-is budget-is frame-is =
    let machine : Machine = machine_over over in
    let is_of : IsOf searcher machine = record { rules = ap (λ t. t.rules) (sym same); reader = refl } in
    let has : HasInjections searcher machine = ap (λ t. injections_of t.rules t.injections) (sym same) in
    let beside : Sight → Frame → Found = λ s f. with_injections machine s f.content (scan s (choices machine f)) in
    finds machine is_of has
    ∙ ap (λ p. beside (record { text = over.text.now; place = p; flags = flags; budget = budget }) frame)
    (ap (λ s. s.place) st-is)
    ∙ ap (λ f. beside (record { text = over.text.now; place = state.place; flags = f; budget = budget }) frame) flags-is
    ∙ ap (λ b. beside (record {
      text = over.text.now;
      place = state.place;
      flags = record { first = state.first; anchor = mark state };
      budget = b;
    }) frame) budget-is
    ∙ ap (beside (sight machine over.text.now state)) (frame-is ∙ ap (λ s. s.stack.top) st-is)

module _ (over : Over) (levels : ℕ) (state : State) where
  pub turn-nothing : Nothing ≡ search (machine_over over) over.text.now state
      → rest over.text.now state ≡ turn (run_of over levels) state
  turn-nothing is = turn-found over levels state Nothing is

  pub turn-spent : OutOfBudget ≡ search (machine_over over) over.text.now state
      → rest over.text.now (record state { out = spent state.out }) ≡ turn (run_of over levels) state
  turn-spent is = turn-found over levels state OutOfBudget is

  pub turn-end : (m : Match) (hit : Captures) → At (matched_of m hit) ≡ search (machine_over over) over.text.now state
      → m.of ≡ of.End
      → end_found (run_of over levels) (matched_of m hit) state ≡ turn (run_of over levels) state
  turn-end m hit is end =
      ap (λ o. matched (owner_of o) (run_of over levels) (matched_of m hit) state) (sym end)
      ∙ turn-found over levels state (At (matched_of m hit)) is

  pub turn-rule : (m : Match) (hit : Captures) (id : RuleId)
      → At (matched_of m hit) ≡ search (machine_over over) over.text.now state → m.of ≡ of.Rule id
      → rule_found (rule_at (machine_over over) id.0).kind (run_of over levels) id.0 (matched_of m hit) state
      ≡ turn (run_of over levels) state
  turn-rule m hit id is rule =
      ap (λ o. matched (owner_of o) (run_of over levels) (matched_of m hit) state) (sym rule)
      ∙ turn-found over levels state (At (matched_of m hit)) is

  pub end-in-table : (m : Match) (hit : Captures)
      → At (matched_of m hit) ≡ search (machine_over over) over.text.now state
      → m.of ≡ of.End → state.place ≤ length over.text.now
      → state.stack.top.rule < length over.table.now.rules
  end-in-table m hit is end inside =
      end-there (machine_over over) over.text.now state (matched_of m hit) inside is (ap owner_of end)
