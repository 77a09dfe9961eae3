-- How the files that the words name are opened, and why they aren't.
use Rattle.std.specs.Prelude.{◌≡◌, ℕ, List, Option, Some, None, option_and_then}
use Rattle.text_pos.specs.declared.limits.Limits.{Limits}
use Rattle.pairing_defs.specs.declared.BracketText.{BracketText}
use Rattle.piece_io.specs.Told.{Told}
use Rattle.line_machine.specs.Machines.{MachineState}
use Rattle.document.specs.State.{State}
use Rattle.session_defs.specs.declared.file_kind.FileKind.{FileKind}
use Rattle.session_defs.specs.declared.file_kind.FileKind.TheVariants as kind
use Rattle.generator_defs.specs.GeneratedText.{generated_text}
use Rattle.session_defs.specs.Words.{Subject, text_file, generated, Request}
use Rattle.session_defs.specs.Opening.{NamedFile, Inputs, text_name, files_of, text_at_first, grammar_of_file, texts_of, session_of}
use Rattle.bracket_program.specs.Sessions.{machine_for, session_in}
use Rattle.bracket_program.specs.Run.{OpensIf, OpensAll, SameCounts, IsFileEnd, RefusedAt, FailedAt}
use Rattle.bracket_program.specs.declared.status.Status.{Status}
use Rattle.bracket_program.specs.declared.status.Status.TheVariants as status

abbrev pub file : FileKind → List ℕ → NamedFile
file kind name = record { kind = kind; name = name }

-- a text that is made is this one, before any edit
abbrev pub IsMadeText : Subject → List ℕ → Type 0
IsMadeText (text_file name) text = Unit {0}
IsMadeText (generated lines) text = text ≡ generated_text lines

-- a text is that of the file's bytes, or the one that is made
pub record OpensText (contents : List ℕ → Told) (subject : Subject) (text : List ℕ) : Type 0 where
  pub bytes : Option (List ℕ)
  pub opens : OpensIf contents kind.Text (text_name subject) bytes
  pub is : text ≡ text_at_first subject bytes

-- a machine goes by the grammar of a file that may be named
pub record OpensMachine (contents : List ℕ → Told) (name : Option (List ℕ)) (limits : Limits) (m : MachineState) : Type 0 where
  pub bytes : Option (List ℕ)
  pub opens : OpensIf contents kind.Grammar name bytes
  pub is : m ≡ machine_for limits (option_and_then grammar_of_file bytes)

-- brackets are those of a file that may be named
pub record OpensBrackets (contents : List ℕ → Told) (name : Option (List ℕ)) (texts : List BracketText) : Type 0 where
  pub bytes : Option (List ℕ)
  pub opens : OpensIf contents kind.Brackets name bytes
  pub is : texts ≡ texts_of bytes

-- a document is that of all files
pub record OpensDocument (contents : List ℕ → Told) (r : Request) (d : State MachineState) : Type 0 where
  pub inputs : Inputs
  pub opens : OpensAll contents r inputs
  pub is : session_in d ≡ session_of r inputs

-- why a file that may be named isn't opened: where it isn't named, for want of memory alone
abbrev pub IsNamedEnd : (List ℕ → Told) → (List ℕ → ℕ) → (List ℕ → ℕ) → FileKind → Option (List ℕ) → Status → Type 0
IsNamedEnd contents faults faults' kind None status.Memory = SameCounts faults faults'
IsNamedEnd contents faults faults' kind None _ = ⊥
IsNamedEnd contents faults faults' kind (Some name) s = IsFileEnd contents faults faults' (file kind name) s

-- why the files of a request aren't opened
abbrev pub IsOpenEnd : (List ℕ → Told) → (List ℕ → ℕ) → (List ℕ → ℕ) → Request → Status → Type 0
IsOpenEnd contents faults faults' r status.TextFile = RefusedAt contents kind.Text (files_of r) × SameCounts faults faults'
IsOpenEnd contents faults faults' r status.GrammarFile = RefusedAt contents kind.Grammar (files_of r) × SameCounts faults faults'
IsOpenEnd contents faults faults' r status.BracketFile = RefusedAt contents kind.Brackets (files_of r) × SameCounts faults faults'
IsOpenEnd contents faults faults' r status.ReadFault = FailedAt contents faults faults' (files_of r)
IsOpenEnd contents faults faults' r status.Memory = SameCounts faults faults'
IsOpenEnd contents faults faults' r _ = ⊥
