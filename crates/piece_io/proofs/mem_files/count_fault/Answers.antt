use Rattle.std.proofs.Common.{◌≤◌, sym, ◌∙◌, ap, Some, None}
use Rattle.std.specs.Prelude.{slice_index_or, slice_set}
use Rattle.piece_io.specs.Told.{risen}
use Rattle.piece_io.specs.MemFiles.{faulted, absent_after, file_of}
use Rattle.piece_io.proofs.Naming.{IsPlaceOf, placed, changed-none, faulted-never_falls, absent-never_falls}
use Rattle.piece_io.proofs.Naming.{faulted-told, faulted-rises}
use Rattle.piece_io.proofs.mem_files.count_fault.Goals as goal

pub returns-in-Some-clause-files : goal.returns-in-Some-clause-files
returns-in-Some-clause-files c =
    let files = c.args.files.now in
    let file = slice_index_or files c.in-Some.at c.index-files-at.result in
    let place : IsPlaceOf files c.args.name.now c.in-Some.at =
    placed c.args.name.now files (Some c.in-Some.at) c.in-Some.ensures in
    ap (λ n. slice_set files c.in-Some.at (record { name = file.name; bytes = file.bytes; faults = n }))
    c.one_more-file.ensures.value
    ∙ sym (place.change faulted c.index-files-at.result)

pub returns-in-Some-clause-absent : goal.returns-in-Some-clause-absent
returns-in-Some-clause-absent c =
    let place : IsPlaceOf c.args.files.now c.args.name.now c.in-Some.at =
    placed c.args.name.now c.args.files.now (Some c.in-Some.at) c.in-Some.ensures in
    sym (ap (absent_after c.args.absent.now) (place.found c.index-files-at.result))

pub returns-in-None-clause-files : goal.returns-in-None-clause-files
returns-in-None-clause-files c =
    sym (changed-none faulted c.args.files.now c.args.name.now
    (placed c.args.name.now c.args.files.now None c.in-None.ensures))

pub returns-in-None-clause-absent : goal.returns-in-None-clause-absent
returns-in-None-clause-absent c =
    c.one_more.ensures.value ∙ sym (ap (absent_after c.args.absent.now)
    (placed c.args.name.now c.args.files.now None c.in-None.ensures))

pub returns-in-Some-clause-never_falls : goal.returns-in-Some-clause-never_falls
returns-in-Some-clause-never_falls c = λ q.
    let files = c.args.files.now in
    let absent = c.args.absent.now in
    let file = slice_index_or files c.in-Some.at c.index-files-at.result in
    let place : IsPlaceOf files c.args.name.now c.in-Some.at =
    placed c.args.name.now files (Some c.in-Some.at) c.in-Some.ensures in
    let rises : file.faults ≤ risen file.faults =
    rw (← c.one_more-file.ensures.value) c.one_more-file.ensures.not_less in
    rw (returns-in-Some-clause-files c)
    (faulted-never_falls absent files c.args.name.now file (place.found c.index-files-at.result) rises q)

pub returns-in-None-clause-never_falls : goal.returns-in-None-clause-never_falls
returns-in-None-clause-never_falls c = λ q.
    absent-never_falls c.args.absent.now c.one_more.result (file_of c.args.files.now q) c.one_more.ensures.not_less

pub returns-in-Some-clause-told : goal.returns-in-Some-clause-told
returns-in-Some-clause-told c = λ q. rw (returns-in-Some-clause-files c)
    (faulted-told c.args.files.now c.args.name.now q)

pub returns-in-Some-clause-rises : goal.returns-in-Some-clause-rises
returns-in-Some-clause-rises c =
    faulted-rises c.args.absent.now c.args.absent.now c.args.files.now _ c.args.name.now
    (returns-in-Some-clause-absent c) (returns-in-Some-clause-files c)

pub returns-in-None-clause-rises : goal.returns-in-None-clause-rises
returns-in-None-clause-rises c =
    faulted-rises c.args.absent.now c.one_more.result c.args.files.now c.args.files.now c.args.name.now
    (returns-in-None-clause-absent c) (returns-in-None-clause-files c)
