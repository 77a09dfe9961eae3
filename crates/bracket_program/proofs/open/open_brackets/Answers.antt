use Rattle.std.proofs.Common.{subst, sym}
use Rattle.session_defs.specs.declared.file_kind.FileKind.TheVariants as kind
use Rattle.bracket_program.specs.Texts.{ReadsFile}
use Rattle.bracket_program.proofs.OpenLaws.{ok_map, err_map, kind_end, opened_brackets}
use Rattle.bracket_program.proofs.open.open_brackets.Goals as goal

pub returns-in_ok-bytes-in-Some-clause-opens : goal.returns-in_ok-bytes-in-Some-clause-opens
returns-in_ok-bytes-in-Some-clause-opens g c =
    let contents = g.F.Files.contents c.args.files.now in
    let reads = subst (ReadsFile (contents c.in-Some.name.now)) (sym c.as_slice.ensures)
    c.in_ok-bytes-in-Some.ensures.reads in
    rw c.in-Some.is (ok_map c.brackets_in.result
    (λ texts e. opened_brackets contents c.in-Some.name.now _ reads texts e) c.brackets_in.ensures.brackets)

pub returns-in_ok-bytes-in-Some-clause-ends : goal.returns-in_ok-bytes-in-Some-clause-ends
returns-in_ok-bytes-in-Some-clause-ends g c =
    let contents = g.F.Files.contents c.args.files.now in
    let reads = subst (ReadsFile (contents c.in-Some.name.now)) (sym c.as_slice.ensures)
    c.in_ok-bytes-in-Some.ensures.reads in
    rw c.in-Some.is (err_map c.brackets_in.result
    (λ s e. kind_end contents _ _ kind.Brackets c.in-Some.name.now _ s reads e c.in_ok-bytes-in-Some.ensures.counts)
    c.brackets_in.ensures.ends)
