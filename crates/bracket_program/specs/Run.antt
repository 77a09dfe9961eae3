-- What a whole run does, for each status that it ends with.
use Rattle.std.specs.Prelude.{◌≡◌, ◌⊎◌, ℕ, ◌-◌, ◌^◌, ◌<◌, ◌≤◌, List, [], ◌∷◌, ◌++◌, length, true, false, Option, Some, None}
use Rattle.piece_io.specs.Told.{Told, Untold, Missing, Holds, appended, risen}
use Rattle.session_defs.specs.declared.file_kind.FileKind.{FileKind}
use Rattle.session_defs.specs.declared.file_kind.FileKind.TheVariants as kind
use Rattle.session_defs.specs.Words.{Subject, text_file, generated, Request}
use Rattle.session_defs.specs.Opening.{NamedFile, Inputs, text_name, files_of, is_accepted, session_of}
use Rattle.session_defs.specs.Output.{output_of, written_so_far, most_script_bytes}
use Rattle.bracket_program.specs.Ends.{Outside, IsTextEnd, WritesFront}
use Rattle.bracket_program.specs.declared.status.Status.{Status}
use Rattle.bracket_program.specs.declared.status.Status.TheVariants as status

-- ---- one file

-- these are the file's bytes, so far as it is told of
abbrev pub Reads : Told → List ℕ → Type 0
Reads Untold bytes = Unit {0}
Reads Missing bytes = ⊥
Reads (Holds file) bytes = bytes ≡ file

-- and they are accepted
pub record Opens (told : Told) (kind : FileKind) (bytes : List ℕ) : Type 0 where
  pub reads : Reads told bytes
  pub accepted : is_accepted kind bytes ≡ true

-- the file, so far as it is told of, is there and isn't accepted
abbrev pub Refuses : Told → FileKind → Type 0
Refuses Untold kind = Unit {0}
Refuses Missing kind = ⊥
Refuses (Holds file) kind = is_accepted kind file ≡ false

-- the file is told to be missing, or not to be accepted
abbrev pub CannotOpen : Told → FileKind → Type 0
CannotOpen Untold kind = ⊥
CannotOpen Missing kind = Unit {0}
CannotOpen (Holds file) kind = is_accepted kind file ≡ false

-- no read of a file failed
abbrev pub SameCounts : (List ℕ → ℕ) → (List ℕ → ℕ) → Type 0
SameCounts before after = (q : List ℕ) → after q ≡ before q

-- the status of a file that isn't accepted
abbrev pub refusal_of : FileKind → Status
refusal_of kind.Text = status.TextFile
refusal_of kind.Grammar = status.GrammarFile
refusal_of kind.Brackets = status.BracketFile

-- Why a file isn't opened: its count rose, memory was wanting, or it isn't accepted.
abbrev pub IsFileEnd : (List ℕ → Told) → (List ℕ → ℕ) → (List ℕ → ℕ) → NamedFile → Status → Type 0
IsFileEnd contents faults faults' f status.ReadFault = risen (faults f.name) ≤ faults' f.name
IsFileEnd contents faults faults' f status.Memory = SameCounts faults faults'
IsFileEnd contents faults faults' f s = (s ≡ refusal_of f.kind) × Refuses (contents f.name) f.kind × SameCounts faults faults'

-- ---- the files, in the order in which they are opened

-- one of them is reached, since those before it are accepted, and this holds of it
abbrev pub Reaches : (List ℕ → Told) → (NamedFile → Type 0) → List NamedFile → Type 0
Reaches contents P [] = ⊥
Reaches contents P (f ∷ files) =
    P f ⊎ (((bytes : List ℕ) × Opens (contents f.name) f.kind bytes) × Reaches contents P files)

-- one of a kind is reached and refused
abbrev pub RefusedAt : (List ℕ → Told) → FileKind → List NamedFile → Type 0
RefusedAt contents kind files = Reaches contents (λ f. (f.kind ≡ kind) × Refuses (contents f.name) f.kind) files

-- one is reached whose count rose
abbrev pub FailedAt : (List ℕ → Told) → (List ℕ → ℕ) → (List ℕ → ℕ) → List NamedFile → Type 0
FailedAt contents faults faults' files = Reaches contents (λ f. risen (faults f.name) ≤ faults' f.name) files

-- one of them has this
abbrev pub Some_ : (NamedFile → Type 0) → List NamedFile → Type 0
Some_ P [] = ⊥
Some_ P (f ∷ files) = P f ⊎ Some_ P files

-- each of them has this
abbrev pub Each : (NamedFile → Type 0) → List NamedFile → Type 0
Each P [] = Unit {0}
Each P (f ∷ files) = P f × Each P files

-- these are the bytes of a file that may be named
abbrev pub OpensIf : (List ℕ → Told) → FileKind → Option (List ℕ) → Option (List ℕ) → Type 0
OpensIf contents kind None None = Unit {0}
OpensIf contents kind (Some name) (Some bytes) = Opens (contents name) kind bytes
OpensIf contents kind _ _ = ⊥

-- these are the bytes of all files that are named
pub record OpensAll (contents : List ℕ → Told) (r : Request) (inputs : Inputs) : Type 0 where
  pub text : OpensIf contents kind.Text (text_name r.subject) inputs.text
  pub grammar : OpensIf contents kind.Grammar r.grammar inputs.grammar
  pub brackets : OpensIf contents kind.Brackets r.brackets inputs.brackets

-- ---- a run

-- what the files open as, and what becomes of it
pub record Answered (r : Request) (contents : List ℕ → Told) (P : Inputs → Type 0) : Type 0 where
  pub inputs : Inputs
  pub opens : OpensAll contents r inputs
  pub ends : P inputs

-- What a run for these words comes to. Until all files are open nothing is written, and no script is read.
abbrev pub IsRun : (List ℕ → Told) → (List ℕ → ℕ) → (List ℕ → ℕ) → Outside → Outside → Option Request → Status → Type 0
IsRun contents faults faults' before after None status.Words = SameCounts faults faults' × (after ≡ before)
IsRun contents faults faults' before after None status.Memory = SameCounts faults faults' × (after ≡ before)
IsRun contents faults faults' before after None _ = ⊥
IsRun contents faults faults' before after (Some r) status.Words = ⊥
IsRun contents faults faults' before after (Some r) status.TextFile =
    RefusedAt contents kind.Text (files_of r) × SameCounts faults faults' × (after ≡ before)
IsRun contents faults faults' before after (Some r) status.GrammarFile =
    RefusedAt contents kind.Grammar (files_of r) × SameCounts faults faults' × (after ≡ before)
IsRun contents faults faults' before after (Some r) status.BracketFile =
    RefusedAt contents kind.Brackets (files_of r) × SameCounts faults faults' × (after ≡ before)
IsRun contents faults faults' before after (Some r) status.ReadFault =
    (FailedAt contents faults faults' (files_of r) × (after ≡ before))
    ⊎ (SameCounts faults faults'
    × Answered r contents (λ inputs. IsTextEnd before after r.subject (session_of r inputs) status.ReadFault))
IsRun contents faults faults' before after (Some r) status.Memory = SameCounts faults faults'
    × ((after ≡ before) ⊎ Answered r contents (λ inputs. IsTextEnd before after r.subject (session_of r inputs) status.Memory))
IsRun contents faults faults' before after (Some r) s =
    SameCounts faults faults' × Answered r contents (λ inputs. IsTextEnd before after r.subject (session_of r inputs) s)

-- ---- where files and script are told

-- what a file that may be named holds
abbrev pub TellsIf : (List ℕ → Told) → Option (List ℕ) → Option (List ℕ) → Type 0
TellsIf contents None None = Unit {0}
TellsIf contents (Some name) (Some bytes) = contents name ≡ Holds bytes
TellsIf contents _ _ = ⊥

-- what all files hold that are named
pub record TellsAll (contents : List ℕ → Told) (r : Request) (inputs : Inputs) : Type 0 where
  pub text : TellsIf contents (text_name r.subject) inputs.text
  pub grammar : TellsIf contents r.grammar inputs.grammar
  pub brackets : TellsIf contents r.brackets inputs.brackets

-- the file is told to be accepted
abbrev pub IsAccepted : Told → FileKind → Type 0
IsAccepted Untold kind = ⊥
IsAccepted Missing kind = ⊥
IsAccepted (Holds file) kind = is_accepted kind file ≡ true

-- the file is told not to be accepted
abbrev pub IsRefused : Told → FileKind → Type 0
IsRefused Untold kind = ⊥
IsRefused Missing kind = ⊥
IsRefused (Holds file) kind = is_accepted kind file ≡ false

-- the first of the files that isn't told to be accepted is of this kind, and is told not to be
abbrev pub FirstRefused : (List ℕ → Told) → FileKind → List NamedFile → Type 0
FirstRefused contents kind [] = ⊥
FirstRefused contents kind (f ∷ files) = ((f.kind ≡ kind) × IsRefused (contents f.name) f.kind)
    ⊎ (IsAccepted (contents f.name) f.kind × FirstRefused contents kind files)

-- no byte of the script is left; where a text is made, the script is as it was
abbrev pub left_behind : Subject → (script : List ℕ) → List ℕ
left_behind (text_file name) script = []
left_behind (generated lines) script = script

-- all that is to be written was: each line of the whole script has its reply, or each summary is there
abbrev pub AnswersAll : (List ℕ → Told) → Outside → Outside → Request → Type 0
AnswersAll contents before after r = (inputs : Inputs) (script : List ℕ) → TellsAll contents r inputs
    → before.left ≡ Some script
    → (after.held ≡ appended before.held (output_of r inputs script)) × (after.left ≡ Some (left_behind r.subject script))

-- a script is answered
abbrev pub IsScripted : Subject → Type 0
IsScripted (text_file name) = Unit {0}
IsScripted (generated lines) = ⊥

-- a front of the script was taken, and each whole line of that has its reply
pub record AnswersTaken (contents : List ℕ → Told) (before after : Outside) (P : List ℕ → Type 0) (r : Request) : Type 0 where
  pub scripted : IsScripted r.subject
  pub answers : (inputs : Inputs) (script : List ℕ) → TellsAll contents r inputs
      → before.left ≡ Some script
      → (taken : List ℕ) × (rest : List ℕ) × (script ≡ taken ++ rest) × (after.left ≡ Some rest)
      × (after.held ≡ appended before.held (written_so_far r inputs taken)) × P taken

-- a front of what is to be written was written
abbrev pub WritesSome : (List ℕ → Told) → Outside → Outside → Request → Type 0
WritesSome contents before after r = (inputs : Inputs) (script : List ℕ) → TellsAll contents r inputs
    → before.left ≡ Some script → WritesFront before.held after.held (output_of r inputs script)

-- nothing of the script was taken, and nothing was written
abbrev pub IsUntouched : Outside → Outside → Type 0
IsUntouched before after = (after.left ≡ before.left) × (after.held ≡ before.held)

-- ---- counts

-- a count stands, and could have risen
abbrev pub Stands : ℕ → ℕ → Type 0
Stands before after = (after ≡ before) × (before < 2 ^ 64 - 1)

-- no count of a file that the words name rose
abbrev pub FilesStand : (List ℕ → ℕ) → (List ℕ → ℕ) → Request → Type 0
FilesStand faults faults' r = Each (λ f. Stands (faults f.name) (faults' f.name)) (files_of r)

-- this holds where a script is answered
abbrev pub IfScripted : Subject → Type 0 → Type 0
IfScripted (text_file name) P = P
IfScripted (generated lines) P = Unit {0}

-- this holds where a text is made
abbrev pub IfMade : Subject → Type 0 → Type 0
IfMade (text_file name) P = Unit {0}
IfMade (generated lines) P = P

-- the script is told, and isn't too long
abbrev pub HasShortScript : Outside → Type 0
HasShortScript before = (script : List ℕ) × (before.left ≡ Some script) × (length script < most_script_bytes)

-- no count of what the words name rose, nor that of a script that is answered, nor the sink's
pub record AllStand (faults faults' : List ℕ → ℕ) (before after : Outside) (r : Request) : Type 0 where
  pub files : FilesStand faults faults' r
  pub reads : IfScripted r.subject (Stands before.reads after.reads)
  pub writes : Stands before.writes after.writes

-- all files are told and accepted
abbrev pub AllAccepted : (List ℕ → Told) → Request → Type 0
AllAccepted contents r = Each (λ f. IsAccepted (contents f.name) f.kind) (files_of r)
