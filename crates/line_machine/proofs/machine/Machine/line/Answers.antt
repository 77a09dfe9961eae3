use Rattle.std.proofs.Common.{◌≡◌, ◌<◌, length, refl, ap, sym, subst, ◌∙◌, arith}
use Rattle.std.proofs.lemmas.Result.{IfOk-weaker}
use Rattle.line_defs.specs.Line.{line_by, tokenised, no_grammar}
use Rattle.line_laws.specs.Starts.{IsFit}
use Rattle.line_turns.specs.Over.{machine_of}
use Rattle.line_machine.specs.Grammars.{table_of, table_in}
use Rattle.line_machine.specs.Machines.{MachineState, line_machine_of}
use Rattle.line_machine.proofs.Plain.{plain-line}
use Rattle.line_machine.proofs.Fitting.{not-long}
use Rattle.line_machine.proofs.machine.Machine.line.Goals as goal

pub returns-in-None-clause-gives : goal.returns-in-None-clause-gives
returns-in-None-clause-gives c =
    let same : no_grammar c.self.inside.limits.budget c.self.inside.limits.long
    ≡ line_machine_of c.args.self.now.table c.args.self.now.limits =
    ap (λ g. line_machine_of (table_in g) c.self.inside.limits) (sym c.in-None.is)
    ∙ ap (λ m. let s : MachineState = m in line_machine_of s.table s.limits) c.self.view_is in
    IfOk-weaker c.unrun_line.result _ _
    (λ r e. e c.args.line.now refl
    ∙ sym (plain-line c.self.inside.limits.budget c.self.inside.limits.long c.args.start.now c.args.line.now
    (subst (λ m. IsFit m c.args.start.now) (sym same) c.requires.fit))
    ∙ ap (λ m. tokenised m c.args.start.now c.args.line.now) same)
    c.unrun_line.ensures

pub returns-in_ok-fill_text-in-Some-clause-gives : goal.returns-in_ok-fill_text-in-Some-clause-gives
returns-in_ok-fill_text-in-Some-clause-gives c =
    let same : machine_of (table_of c.in-Some.grammar) c.self.inside.limits
    ≡ line_machine_of c.args.self.now.table c.args.self.now.limits =
    ap (λ g. line_machine_of (table_in g) c.self.inside.limits) (sym c.in-Some.is)
    ∙ ap (λ m. let s : MachineState = m in line_machine_of s.table s.limits) c.self.view_is in
    let short : length c.args.line.now < c.self.inside.limits.long = omega (arith, c.if-length-self.false) in
    IfOk-weaker c.line.result _ _
    (λ r e. e c.args.line.now (c.as_slice.ensures.value ∙ c.in_ok-fill_text-in-Some.ensures)
    ∙ ap (λ b. line_by b (machine_of (table_of c.in-Some.grammar) c.self.inside.limits) c.args.start.now
    c.args.line.now) (sym (not-long c.self.inside.limits.long (length c.args.line.now) short))
    ∙ ap (λ m. tokenised m c.args.start.now c.args.line.now) same)
    c.line.ensures.gives
