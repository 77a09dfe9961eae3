use Rattle.std.proofs.Common.{◌∙◌, take, drop}
use Rattle.std.proofs.lemmas.List.{take-append-drop}
use Rattle.bracket_program.proofs.reply_lines.write_reply.Goals as goal

pub returns-clause-front : goal.returns-clause-front
returns-clause-front g c =
    let n = c.in-Err.ensures.prefix.0 in
    let line = c.as_slice.result.now in
    record {
      part = take n line;
      rest = drop n line;
      whole =
          take-append-drop n line ∙ (c.as_slice.ensures ∙ c.in_ok-line.ensures);
      adds = c.in-Err.ensures.prefix.2;
    }
