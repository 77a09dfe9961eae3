use Rattle.std.proofs.Common.{subst, sym}
use Rattle.session_defs.specs.declared.file_kind.FileKind.TheVariants as kind
use Rattle.bracket_program.specs.Texts.{ReadsFile}
use Rattle.bracket_program.proofs.OpenLaws.{err_map, kind_end, opened_text}
use Rattle.bracket_program.proofs.open.open_text.Goals as goal

pub returns-in_ok-bytes-in-TextFile-clause-opens : goal.returns-in_ok-bytes-in-TextFile-clause-opens
returns-in_ok-bytes-in-TextFile-clause-opens g c =
    let contents = g.F.Files.contents c.args.files.now in
    let reads = subst (ReadsFile (contents c.in-TextFile.name.now)) (sym c.as_slice.ensures)
    c.in_ok-bytes-in-TextFile.ensures.reads in
    rw c.in-TextFile.is (opened_text c.text_in.result contents c.in-TextFile.name.now _ reads
    c.text_in.ensures.text c.text_in.ensures.accepts)

pub returns-in_ok-bytes-in-TextFile-clause-ends : goal.returns-in_ok-bytes-in-TextFile-clause-ends
returns-in_ok-bytes-in-TextFile-clause-ends g c =
    let contents = g.F.Files.contents c.args.files.now in
    let reads = subst (ReadsFile (contents c.in-TextFile.name.now)) (sym c.as_slice.ensures)
    c.in_ok-bytes-in-TextFile.ensures.reads in
    rw c.in-TextFile.is (err_map c.text_in.result
    (λ s e. kind_end contents _ _ kind.Text c.in-TextFile.name.now _ s reads e c.in_ok-bytes-in-TextFile.ensures.counts)
    c.text_in.ensures.ends)
