use Rattle.std.proofs.Common.{sym, ◌∙◌, ap}
use Rattle.selectors.specs.Machine.{read_kept}
use Rattle.selectors.proofs.KeptEntries.{read_ok, read_err}
use Rattle.selectors.proofs.selector.Selector.read.Goals as goal

pub returns-in-Err : goal.returns-in-Err
returns-in-Err c = read_err c.args.text.now c.in-Err.at
    (sym (ap read_kept c.as_bytes.ensures.value) ∙ (sym c.in_ok-at.ensures ∙ c.in-Err.is))

pub returns-in_ok-of-in-Ok : goal.returns-in_ok-of-in-Ok
returns-in_ok-of-in-Ok c = record {
  same = c.in_ok-of-in-Ok.ensures;
  accepted = (read_ok c.args.text.now c.in-Ok.entries
      (sym (ap read_kept c.as_bytes.ensures.value) ∙ (sym c.in_ok-at.ensures ∙ c.in-Ok.is))).0;
}
