-- Files in memory. The rules are this project's own.
use Rattle.std.specs.Prelude.{ℕ, List, [], ◌∷◌, Bool, true, false, Option, Some, None, find}
use Rattle.std.specs.Str.{bytes_eq}
use Rattle.piece_io.specs.Told.{Told, Missing, Holds, risen}
use Rattle.piece_io.specs.Mem.{Calls, called}
use Rattle.piece_io.specs.declared.mem_files.MemFile.{MemFile}

-- the files, the count of all names that aren't there, and the calls
pub record FilesState : Type 0 where
  pub files : List MemFile
  pub absent : ℕ
  pub calls : Calls

-- the file of a name, given as the name's bytes
abbrev pub file_of : List MemFile → List ℕ → Option MemFile
file_of files name = find (λ file. bytes_eq file.name name) files

-- what is told of a file
abbrev pub told_of : Option MemFile → Told
told_of None = Missing
told_of (Some file) = Holds file.bytes

abbrev pub contents_of : FilesState → List ℕ → Told
contents_of s name = told_of (file_of s.files name)

-- the count of a file, or else that of the names that aren't there
abbrev pub count_of : ℕ → Option MemFile → ℕ
count_of absent None = absent
count_of absent (Some file) = file.faults

abbrev pub faults_of : FilesState → List ℕ → ℕ
faults_of s name = count_of s.absent (file_of s.files name)

-- a file once a read of it has failed
abbrev pub faulted : MemFile → MemFile
faulted file = record { name = file.name; bytes = file.bytes; faults = risen file.faults }

-- this file, changed if it has the name, and else the later ones changed
abbrev pub changed_at : Bool → (MemFile → MemFile) → MemFile → List MemFile → List MemFile → List MemFile
changed_at true change file files later = change file ∷ files
changed_at false change file files later = file ∷ later

-- the files with a change of the one that has the name, if there is one
abbrev pub changed : (MemFile → MemFile) → List MemFile → List ℕ → List MemFile
changed change [] name = []
changed change (file ∷ files) name = changed_at (bytes_eq file.name name) change file files (changed change files name)

-- the count of the names that aren't there once a read of a name has failed
abbrev pub absent_after : ℕ → Option MemFile → ℕ
absent_after absent None = risen absent
absent_after absent (Some file) = absent

abbrev pub after_read_at : FilesState → FilesState
after_read_at s = record { files = s.files; absent = s.absent; calls = called s.calls }

abbrev pub after_failed_read_at : FilesState → List ℕ → FilesState
after_failed_read_at s name = record { files = changed faulted s.files name; absent = absent_after s.absent (file_of s.files name); calls = called s.calls }
