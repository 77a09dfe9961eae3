use Rattle.std.proofs.Common.{◌≡◌, ◌∙◌, ap, Some, None, refl}
use Rattle.std.specs.Prelude.{slice_set}
use Rattle.piece_io.specs.Told.{Holds}
use Rattle.piece_io.specs.declared.mem_files.MemFile.{MemFile}
use Rattle.piece_io.specs.MemFiles.{changed, contents_of, faults_of, file_of, told_of, count_of}
use Rattle.piece_io.proofs.Naming.{IsPlaceOf, placed, filled, filled-at, filled-has, filled-others, filled-counts}
use Rattle.piece_io.proofs.Naming.{file_of-push, file_of-push-other, push-counts}
use Rattle.piece_io.proofs.mem_files.MemFiles.put.Goals as goal

-- the file of the name is filled
place : (c : goal.After-drop-index_mut) → IsPlaceOf c.self.inside.files.items c.args.name.now c.in-Some.at
place c = placed c.args.name.now c.self.inside.files.items (Some c.in-Some.at)
    (rw c.deref.ensures.value at c.in-Some.ensures)

after : (c : goal.After-drop-index_mut)
    → slice_set c.self.inside.files.items c.in-Some.at (filled c.in_ok-bytes.bytes c.index_mut.result.now)
    ≡ changed (filled c.in_ok-bytes.bytes) c.self.inside.files.items c.args.name.now
after c = filled-at c.self.inside.files.items c.args.name.now c.in-Some.at c.index_mut.result.now c.in_ok-bytes.bytes
    (place c) c.index_mut.ensures.value

pub returns-in-Some-clause-has : goal.returns-in-Some-clause-has
returns-in-Some-clause-has c =
    let files = c.self.inside.files.items in
    ap (λ files. told_of (file_of files c.args.name.now)) (after c)
    ∙ filled-has files c.args.name.now c.in-Some.at c.in_ok-bytes.bytes c.index_mut.result.now (place c)
    ∙ ap Holds c.in_ok-bytes.ensures

pub returns-in-Some-clause-others : goal.returns-in-Some-clause-others
returns-in-Some-clause-others c = λ q other.
    ap (λ files. told_of (file_of files q)) (after c)
    ∙ filled-others c.self.inside.files.items c.args.name.now q c.in_ok-bytes.bytes other
    ∙ ap (λ s. contents_of s q) c.self.view_is

pub returns-in-Some-clause-counts : goal.returns-in-Some-clause-counts
returns-in-Some-clause-counts c = λ q.
    ap (λ files. count_of c.self.inside.absent (file_of files q)) (after c)
    ∙ filled-counts c.self.inside.absent c.self.inside.files.items c.args.name.now q c.in_ok-bytes.bytes
    ∙ ap (λ s. faults_of s q) c.self.view_is

-- no file had the name
none : (c : goal.In_ok-push-in-None) → file_of c.self.inside.files.items c.args.name.now ≡ None
none c = placed c.args.name.now c.self.inside.files.items None (rw c.deref.ensures.value at c.in-None.ensures)

-- the new one
abbrev new : (c : goal.In_ok-push-in-None) → MemFile
new c = record { name = c.in_ok-name-in-None.name; bytes = c.in_ok-bytes.bytes; faults = c.self.inside.absent }

pub returns-in_ok-push-in-None-clause-has : goal.returns-in_ok-push-in-None-clause-has
returns-in_ok-push-in-None-clause-has c =
    ap (λ files. told_of (file_of files c.args.name.now)) c.in_ok-push-in-None.ensures.items
    ∙ ap told_of (file_of-push c.self.inside.files.items (new c) c.args.name.now c.in_ok-name-in-None.ensures (none c))
    ∙ ap Holds c.in_ok-bytes.ensures

pub returns-in_ok-push-in-None-clause-others : goal.returns-in_ok-push-in-None-clause-others
returns-in_ok-push-in-None-clause-others c = λ q other.
    ap (λ files. told_of (file_of files q)) c.in_ok-push-in-None.ensures.items
    ∙ ap told_of (file_of-push-other c.self.inside.files.items (new c) q
    (λ is. other (is ∙ c.in_ok-name-in-None.ensures)))
    ∙ ap (λ s. contents_of s q) c.self.view_is

pub returns-in_ok-push-in-None-clause-counts : goal.returns-in_ok-push-in-None-clause-counts
returns-in_ok-push-in-None-clause-counts c = λ q.
    ap (λ files. count_of c.self.inside.absent (file_of files q)) c.in_ok-push-in-None.ensures.items
    ∙ push-counts c.self.inside.absent c.self.inside.files.items (new c) q
    (ap (file_of c.self.inside.files.items) c.in_ok-name-in-None.ensures ∙ none c) refl
    ∙ ap (λ s. faults_of s q) c.self.view_is
