use Rattle.std.proofs.Common.{ap, ◌∙◌}
use Rattle.std.specs.Prelude.{None, false}
use Rattle.scope_defs.specs.Scopes.{push}
use Rattle.scope_defs.specs.Frames.{Frame}
use Rattle.line_machine.proofs.machine.root_of.Goals as goal

pub returns : goal.returns
returns c =
    ap (λ e. let f : Frame = record {
      rule = 0;
      enter = None;
      anchor = None;
      took_end = false;
      end_text = e;
      name = c.in_ok-copy.field-0;
      content = c.in_ok-content.content;
    } in f) c.none.ensures
    ∙ ap (λ n. let f : Frame = record {
      rule = 0;
      enter = None;
      anchor = None;
      took_end = false;
      end_text = None;
      name = n;
      content = c.in_ok-content.content;
    } in f) c.in_ok-copy.ensures
    ∙ ap (λ n. let f : Frame = record {
      rule = 0;
      enter = None;
      anchor = None;
      took_end = false;
      end_text = None;
      name = n;
      content = n;
    } in f) (c.in_ok-content.ensures ∙ ap (λ s. push s c.args.scope_name.now) c.empty.ensures)
