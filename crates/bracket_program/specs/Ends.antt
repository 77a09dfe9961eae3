-- How a run ends: what each status says of the counts of faults, of what was taken and of what was written.
use Rattle.std.specs.Prelude.{◌≡◌, ℕ, ◌<◌, ◌≤◌, List, [], ◌++◌, length, Option, Some, IfSome, option_map}
use Rattle.session_defs.specs.Words.{Subject, text_file, generated}
use Rattle.session_defs.specs.Opening.{Session}
use Rattle.text_defs.specs.Text.{whole_lines}
use Rattle.piece_io.specs.Told.{appended, risen}
use Rattle.session_defs.specs.MadeOutput.{made_output}
use Rattle.session_defs.specs.Output.{written_for, script_lines, most_script_bytes}
use Rattle.bracket_program.specs.declared.status.Status.{Status}
use Rattle.bracket_program.specs.declared.status.Status.TheVariants as status

-- of what was left before, told or not, these bytes were taken
abbrev pub Takes : Option (List ℕ) → Option (List ℕ) → List ℕ → Type 0
Takes before after taken = before ≡ option_map (λ rest. taken ++ rest) after

-- a front of these bytes was added to what is held
pub record WritesFront (before after : Option (List ℕ)) (all : List ℕ) : Type 0 where
  pub part : List ℕ
  pub rest : List ℕ
  pub whole : part ++ rest ≡ all
  pub adds : after ≡ appended before part

-- an end at a reply: the sink failed and its count rose, or memory was wanting and its count stands
abbrev pub IsReplyEnd : ℕ → ℕ → Status → Type 0
IsReplyEnd before after status.WriteFault = risen before ≤ after
IsReplyEnd before after status.Memory = after ≡ before
IsReplyEnd before after _ = ⊥

-- what is told of a script and of a sink, and their counts of faults
pub record Outside : Type 0 where
  pub left : Option (List ℕ)
  pub held : Option (List ℕ)
  pub reads : ℕ
  pub writes : ℕ

abbrev pub outside : Option (List ℕ) → Option (List ℕ) → ℕ → ℕ → Outside
outside left held reads writes = record { left = left; held = held; reads = reads; writes = writes }

-- all of the script was taken, and each line has its reply
pub record IsDone (before after : Outside) (session : Session) : Type 0 where
  pub script : List ℕ
  pub takes : Takes before.left after.left script
  pub ended : IfSome after.left (λ rest. rest ≡ [])
  pub short : length script < most_script_bytes
  pub writes : after.held ≡ appended before.held (written_for session (script_lines script))
  pub reads_stand : after.reads ≡ before.reads
  pub writes_stand : after.writes ≡ before.writes

-- some of the script was taken, and each whole line of that has its reply
pub record IsCut (before after : Outside) (session : Session) : Type 0 where
  pub script : List ℕ
  pub takes : Takes before.left after.left script
  pub writes : after.held ≡ appended before.held (written_for session (whole_lines script))
  pub writes_stand : after.writes ≡ before.writes

-- what was written is a front of what would be
pub record IsFront (before after : Outside) (session : Session) : Type 0 where
  pub front : (script : List ℕ) → before.left ≡ Some script → WritesFront before.held after.held (written_for session (script_lines script))

-- how each status of a script that is answered stands to the outside
abbrev pub IsEnd : Outside → Outside → Session → Status → Type 0
IsEnd before after session status.Done = IsDone before after session
IsEnd before after session status.ReadFault =
    (cut : IsCut before after session) × (length cut.script < most_script_bytes) × (risen before.reads ≤ after.reads)
IsEnd before after session status.ScriptFull =
    (cut : IsCut before after session) × (length cut.script ≡ most_script_bytes) × (after.reads ≡ before.reads)
IsEnd before after session status.WriteFault =
    IsFront before after session × (risen before.writes ≤ after.writes) × (after.reads ≡ before.reads)
IsEnd before after session status.Memory =
    IsFront before after session × (after.writes ≡ before.writes) × (after.reads ≡ before.reads)
IsEnd before after session _ = ⊥

-- the script is as it was
abbrev pub LeavesScript : Outside → Outside → Type 0
LeavesScript before after = (after.left ≡ before.left) × (after.reads ≡ before.reads)

-- how each status of a text that is made stands to the outside, where this is to be written: no script is read
abbrev pub IsMadeEnd : Outside → Outside → (all : List ℕ) → Status → Type 0
IsMadeEnd before after all status.Done =
    (after.held ≡ appended before.held all) × (after.writes ≡ before.writes) × (after.left ≡ before.left)
    × (after.reads ≡ before.reads)
IsMadeEnd before after all status.WriteFault =
    WritesFront before.held after.held all × (risen before.writes ≤ after.writes) × (after.left ≡ before.left)
    × (after.reads ≡ before.reads)
IsMadeEnd before after all status.Memory =
    WritesFront before.held after.held all × (after.writes ≡ before.writes) × (after.left ≡ before.left)
    × (after.reads ≡ before.reads)
IsMadeEnd before after all _ = ⊥

-- the same of either text
abbrev pub IsTextEnd : Outside → Outside → Subject → Session → Status → Type 0
IsTextEnd before after (text_file name) session s = IsEnd before after session s
IsTextEnd before after (generated lines) session s = IsMadeEnd before after (made_output session.settings lines) s

-- of all these bytes a front was added to what is held, and the rest is still to come
pub record WritesUpTo (before after : Option (List ℕ)) (all rest : List ℕ) : Type 0 where
  pub part : List ℕ
  pub whole : part ++ rest ≡ all
  pub adds : after ≡ appended before part
