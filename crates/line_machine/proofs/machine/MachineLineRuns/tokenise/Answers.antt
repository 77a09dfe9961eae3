use Rattle.std.proofs.Common.{ap, sym, subst, ◌∙◌}
use Rattle.std.proofs.lemmas.Result.{IfOk-weaker}
use Rattle.scope_defs.specs.Frames.{bare}
use Rattle.line_defs.specs.Line.{tokenised}
use Rattle.line_runs.specs.Runs.{Fits}
use Rattle.line_machine.specs.Grammars.{table_in}
use Rattle.line_machine.specs.Machines.{MachineState, line_machine_of, told}
use Rattle.line_machine.proofs.Bare.{bare-tokenised, fit-told}
use Rattle.line_machine.proofs.Fitting.{fits-fit}
use Rattle.line_machine.proofs.machine.MachineLineRuns.tokenise.Goals as goal

pub line-requires-clause-fit : goal.line-requires-clause-fit
line-requires-clause-fit g c =
    let here : MachineState = record {
      table = table_in c.self.inside.grammar;
      limits = c.self.inside.limits;
      start = c.self.inside.start;
      unread = c.self.inside.unread;
      runs = c.self.inside.runs;
    } in
    fit-told (line_machine_of here.table here.limits) c.args.start.now
    (fits-fit here (bare c.args.start.now) c.self.invariant.fit
    (subst (λ m. Fits (told m) (bare c.args.start.now)) (sym c.self.view_is) c.requires.fits))

pub returns-clause-gives : goal.returns-clause-gives
returns-clause-gives g c =
    IfOk-weaker c.line.result _ _
    (λ r e. bare-tokenised (line_machine_of (table_in c.self.inside.grammar) c.self.inside.limits) c.args.start.now
    c.args.line.now r
    (e ∙ ap (λ l. tokenised (line_machine_of (table_in c.self.inside.grammar) c.self.inside.limits) c.args.start.now l)
    c.chars.ensures)
    ∙ ap (λ m. let s : MachineState = m in tokenised (line_machine_of s.table s.limits) (bare c.args.start.now)
    c.args.line.now) c.self.view_is)
    c.line.ensures.gives
