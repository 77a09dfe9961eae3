-- What each clause about a run says, from what is told of its status.
use Rattle.std.proofs.Common.{◌≡◌, ◌⊎◌, ◌↔◌, ℕ, ◌<◌, ◌≤◌, List, [], ◌++◌, length, refl, sym, ap, subst, ◌∙◌, arith}
use Rattle.std.proofs.Common.{length-append, append-nil, inl, inr}
use Rattle.std.specs.Prelude.{Option, Some, None, IfSome, ⊤}
use Rattle.piece_io.specs.Told.{Told, appended, risen}
use Rattle.session_defs.specs.declared.file_kind.FileKind.{FileKind}
use Rattle.session_defs.specs.declared.file_kind.FileKind.TheVariants as kind
use Rattle.session_defs.specs.Words.{Subject, text_file, generated, Request}
use Rattle.session_defs.specs.Opening.{Inputs, Session, files_of, session_of, text_at_first}
use Rattle.session_defs.specs.Output.{output_of, output_for, written_for, script_lines, most_script_bytes}
use Rattle.text_defs.specs.Text.{whole_lines}
use Rattle.bracket_program.specs.Ends.{Outside, WritesFront, IsCut, IsDone, IsFront, IsTextEnd, LeavesScript}
use Rattle.bracket_program.specs.Run.{CannotOpen, SameCounts, Some_, OpensAll, RefusedAt, FailedAt, FirstRefused}
use Rattle.bracket_program.specs.Run.{Answered, IsRun, AnswersAll, AnswersTaken, WritesSome, IsUntouched, refusal_of}
use Rattle.bracket_program.specs.Run.{Stands, FilesStand, AllStand, AllAccepted, left_behind, IsScripted, IfScripted}
use Rattle.bracket_program.specs.Run.{IfMade, HasShortScript}
use Rattle.bracket_program.specs.Opens.{IsOpenEnd, IsMadeText}
use Rattle.bracket_program.specs.declared.status.Status.{Status}
use Rattle.bracket_program.specs.declared.status.Status.TheVariants as status
use Rattle.bracket_program.proofs.FileLaws.{not_risen, same_counts, not_opened, not_refused, accepted_refused}
use Rattle.bracket_program.proofs.FileLaws.{stands_failed, same_kind, same_inputs}
use Rattle.bracket_program.proofs.Replying.{nothing_written}
use Rattle.bracket_program.proofs.Scripts.{taken_of, nothing_rest}

-- a script that isn't too long, of which as many bytes as may be were taken
shorter : (script taken rest : List ℕ) → script ≡ taken ++ rest → length script < most_script_bytes
    → length taken ≡ most_script_bytes → ⊥
shorter script taken rest e s f = omega (arith, ap length e, length-append taken rest)

-- a script that is too long, all of whose bytes were taken
whole_short : (script taken rest : List ℕ) → script ≡ taken ++ rest → rest ≡ [] → length taken < most_script_bytes
    → most_script_bytes ≤ length script → ⊥
whole_short script taken rest e n s m = omega (arith, ap length e, length-append taken rest, ap length n)

-- what is said of a request, said of one that is the same
pub ends_for : (before after : Outside) (session : Session) (s : Status) (r q : Request) → r ≡ q
    → IsTextEnd before after r.subject session s → IsTextEnd before after q.subject session s
ends_for before after session s r q e h = subst (λ (x : Request). IsTextEnd before after x.subject session s) e h

made_by : (subject : Subject) (file : Option (List ℕ)) (text : List ℕ) → text ≡ text_at_first subject file
    → IsMadeText subject text
made_by (text_file name) file text e = tt
made_by (generated lines) file text e = e

-- a text that is made is open as it is at first
pub made_text : (r q : Request) (inputs : Inputs) (session : Session) → q ≡ r → session ≡ session_of r inputs
    → IsMadeText q.subject session.text
made_text r q inputs session e same =
    subst (λ (x : Request). IsMadeText x.subject session.text) (sym e)
    (made_by r.subject inputs.text session.text (ap (λ (s : Session). s.text) same))

-- a run over files, a script and a sink, of which this is told before and after it
module _ (contents : List ℕ → Told) (faults faults' : List ℕ → ℕ) (before after : Outside) where
  abbrev Runs : Option Request → Status → Type 0
  Runs w s = IsRun contents faults faults' before after w s

  -- the files were opened, and this became of it
  abbrev Ends : Request → Status → Type 0
  Ends r s = Answered r contents (λ inputs. IsTextEnd before after r.subject (session_of r inputs) s)

  same_outside : after ≡ before → IsUntouched before after
  same_outside e = (ap (λ (o : Outside). o.left) e, ap (λ (o : Outside). o.held) e)

  same_reads : after ≡ before → before.reads < after.reads → ⊥
  same_reads e h = omega (arith, h, ap (λ (o : Outside). o.reads) e)

  same_writes : after ≡ before → before.writes < after.writes → ⊥
  same_writes e h = omega (arith, h, ap (λ (o : Outside). o.writes) e)

  -- ---- what was written, of either text

  module _ (session : Session) where
    abbrev EndsFor : Subject → Status → Type 0
    EndsFor subject s = IsTextEnd before after subject session s

    script_answered : IsDone before after session → (script : List ℕ) → before.left ≡ Some script
        → (after.held ≡ appended before.held (written_for session (script_lines script))) × (after.left ≡ Some [])
    script_answered d script l =
        let t = taken_of script d.script before.left after.left l d.takes in
        let none = nothing_rest after.left t.0 t.2 d.ended in
        let whole : d.script ≡ script = sym (t.1 ∙ (ap (λ rest. d.script ++ rest) none ∙ append-nil d.script)) in (
          d.writes ∙ ap (λ bytes. appended before.held (written_for session (script_lines bytes))) whole,
          t.2 ∙ ap Some none,
        )

    all_answered : (subject : Subject) → EndsFor subject status.Done → (script : List ℕ) → before.left ≡ Some script
        → (after.held ≡ appended before.held (output_for subject session script))
        × (after.left ≡ Some (left_behind subject script))
    all_answered (text_file name) e script l = script_answered e script l
    all_answered (generated lines) e script l = (e.0, e.2 ∙ l)

    fault_front : (subject : Subject) → EndsFor subject status.WriteFault → (script : List ℕ)
        → before.left ≡ Some script → WritesFront before.held after.held (output_for subject session script)
    fault_front (text_file name) e script l = e.0.front script l
    fault_front (generated lines) e script l = e.0

    memory_front : (subject : Subject) → EndsFor subject status.Memory → (script : List ℕ)
        → before.left ≡ Some script → WritesFront before.held after.held (output_for subject session script)
    memory_front (text_file name) e script l = e.0.front script l
    memory_front (generated lines) e script l = e.0

    -- ---- and counts

    done_reads : (subject : Subject) → EndsFor subject status.Done → after.reads ≡ before.reads
    done_reads (text_file name) e = e.reads_stand
    done_reads (generated lines) e = e.3

    done_writes : (subject : Subject) → EndsFor subject status.Done → after.writes ≡ before.writes
    done_writes (text_file name) e = e.writes_stand
    done_writes (generated lines) e = e.1

    write_rises : (subject : Subject) → EndsFor subject status.WriteFault → risen before.writes ≤ after.writes
    write_rises (text_file name) e = e.1
    write_rises (generated lines) e = e.1

    write_reads : (subject : Subject) → EndsFor subject status.WriteFault → after.reads ≡ before.reads
    write_reads (text_file name) e = e.2
    write_reads (generated lines) e = e.3

    full_reads : (subject : Subject) → EndsFor subject status.ScriptFull → after.reads ≡ before.reads
    full_reads (text_file name) e = e.2
    full_reads (generated lines) e = absurd e

    full_writes : (subject : Subject) → EndsFor subject status.ScriptFull → after.writes ≡ before.writes
    full_writes (text_file name) e = e.0.writes_stand
    full_writes (generated lines) e = absurd e

    out_writes : (subject : Subject) → EndsFor subject status.Memory → after.writes ≡ before.writes
    out_writes (text_file name) e = e.1
    out_writes (generated lines) e = e.1

    out_reads : (subject : Subject) → EndsFor subject status.Memory → after.reads ≡ before.reads
    out_reads (text_file name) e = e.2
    out_reads (generated lines) e = e.3

    read_rises : (subject : Subject) → EndsFor subject status.ReadFault → risen before.reads ≤ after.reads
    read_rises (text_file name) e = e.2
    read_rises (generated lines) e = absurd e

    read_writes : (subject : Subject) → EndsFor subject status.ReadFault → after.writes ≡ before.writes
    read_writes (text_file name) e = e.0.writes_stand
    read_writes (generated lines) e = absurd e

    -- ---- statuses of an end before the text is open

    no_words_end : (subject : Subject) → EndsFor subject status.Words → ⊥
    no_words_end (text_file name) e = e
    no_words_end (generated lines) e = e

    no_text_end : (subject : Subject) → EndsFor subject status.TextFile → ⊥
    no_text_end (text_file name) e = e
    no_text_end (generated lines) e = e

    no_grammar_end : (subject : Subject) → EndsFor subject status.GrammarFile → ⊥
    no_grammar_end (text_file name) e = e
    no_grammar_end (generated lines) e = e

    no_brackets_end : (subject : Subject) → EndsFor subject status.BracketFile → ⊥
    no_brackets_end (text_file name) e = e
    no_brackets_end (generated lines) e = e

    -- ---- a text that is made leaves the script

    made_leaves : (subject : Subject) (s : Status) → EndsFor subject s → IfMade subject (LeavesScript before after)
    made_leaves (text_file name) s e = tt
    made_leaves (generated lines) status.Done e = (e.2, e.3)
    made_leaves (generated lines) status.WriteFault e = (e.2, e.3)
    made_leaves (generated lines) status.Memory e = (e.2, e.3)
    made_leaves (generated lines) status.Words e = absurd e
    made_leaves (generated lines) status.TextFile e = absurd e
    made_leaves (generated lines) status.GrammarFile e = absurd e
    made_leaves (generated lines) status.BracketFile e = absurd e
    made_leaves (generated lines) status.ReadFault e = absurd e
    made_leaves (generated lines) status.ScriptFull e = absurd e

  -- ---- what was written, over files

  answers_all : (r : Request) → Ends r status.Done → AnswersAll contents before after r
  answers_all r a inputs script f l =
      let P : Inputs → Type 0 =
      λ i. (after.held ≡ appended before.held (output_of r i script)) × (after.left ≡ Some (left_behind r.subject script)) in
      subst P (same_inputs contents r a.inputs inputs a.opens f)
      (all_answered (session_of r a.inputs) r.subject a.ends script l)

  answers_taken : (r : Request) (read : Inputs) → OpensAll contents r read → IsScripted r.subject
      → (cut : IsCut before after (session_of r read)) (P : List ℕ → Type 0) → P cut.script
      → AnswersTaken contents before after P r
  answers_taken r read o scripted cut P p = record {
    scripted = scripted;
    answers = λ inputs script f l.
        let t = taken_of script cut.script before.left after.left l cut.takes in
        let same = same_inputs contents r read inputs o f in (
          cut.script,
          t.0,
          t.1,
          t.2,
          cut.writes
              ∙ ap (λ i. appended before.held (written_for (session_of r i) (whole_lines cut.script))) same,
          p,
        );
  }

  read_taken : (r : Request) (read : Inputs) → OpensAll contents r read → (subject : Subject) → subject ≡ r.subject
      → EndsFor (session_of r read) subject status.ReadFault
      → AnswersTaken contents before after (λ taken. length taken < most_script_bytes) r
  read_taken r read o (text_file name) same e =
      answers_taken r read o (subst IsScripted same tt) e.0 (λ taken. length taken < most_script_bytes) e.1
  read_taken r read o (generated lines) same e = absurd e

  full_taken : (r : Request) (read : Inputs) → OpensAll contents r read → (subject : Subject) → subject ≡ r.subject
      → EndsFor (session_of r read) subject status.ScriptFull
      → AnswersTaken contents before after (λ taken. length taken ≡ most_script_bytes) r
  full_taken r read o (text_file name) same e =
      answers_taken r read o (subst IsScripted same tt) e.0 (λ taken. length taken ≡ most_script_bytes) e.1
  full_taken r read o (generated lines) same e = absurd e

  writes_some : (r : Request) (read : Inputs) → OpensAll contents r read
      → ((script : List ℕ) → before.left ≡ Some script → WritesFront before.held after.held (output_of r read script))
      → WritesSome contents before after r
  writes_some r read o front inputs script f l =
      let P : Inputs → Type 0 = λ i. WritesFront before.held after.held (output_of r i script) in
      subst P (same_inputs contents r read inputs o f) (front script l)

  -- ---- what each status says

  pub run-done : (w : Option Request) (s : Status) → Runs w s → s ≡ status.Done
      → IfSome w (AnswersAll contents before after)
  run-done None s run e = tt
  run-done (Some r) s run e = answers_all r (subst (Runs (Some r)) e run).1

  pub run-words : (w : Option Request) (s : Status) → Runs w s → s ≡ status.Words → w ≡ None
  run-words None s run e = refl
  run-words (Some r) s run e = absurd (subst (Runs (Some r)) e run)

  pub run-no_words : (w : Option Request) (s : Status) → Runs w s → w ≡ None
      → ((s ≡ status.Words) ⊎ (s ≡ status.Memory)) × IsUntouched before after
  run-no_words None status.Words run e = (inl refl, same_outside run.1)
  run-no_words None status.Done run e = absurd run
  run-no_words None status.TextFile run e = absurd run
  run-no_words None status.GrammarFile run e = absurd run
  run-no_words None status.BracketFile run e = absurd run
  run-no_words None status.ReadFault run e = absurd run
  run-no_words None status.WriteFault run e = absurd run
  run-no_words None status.ScriptFull run e = absurd run
  run-no_words None status.Memory run e = (inr refl, same_outside run.1)
  run-no_words (Some r) s run e = cc

  refused : (r : Request) (s : Status) (k : FileKind) → Runs (Some r) s → s ≡ refusal_of k
      → RefusedAt contents k (files_of r) × SameCounts faults faults' × (after ≡ before)
  refused r s kind.Text run e = subst (Runs (Some r)) e run
  refused r s kind.Grammar run e = subst (Runs (Some r)) e run
  refused r s kind.Brackets run e = subst (Runs (Some r)) e run

  no_words_refused : (s : Status) (k : FileKind) → Runs None s → s ≡ refusal_of k → ⊥
  no_words_refused s kind.Text run e = subst (Runs None) e run
  no_words_refused s kind.Grammar run e = subst (Runs None) e run
  no_words_refused s kind.Brackets run e = subst (Runs None) e run

  pub run-refused : (w : Option Request) (s : Status) → Runs w s → (k : FileKind) → s ≡ refusal_of k
      → IfSome w (λ r. RefusedAt contents k (files_of r))
  run-refused None s run k e = tt
  run-refused (Some r) s run k e = (refused r s k run e).0

  pub run-untouched : (w : Option Request) (s : Status) → Runs w s
      → (s ≡ status.Words) ⊎ ((k : FileKind) × (s ≡ refusal_of k)) → IsUntouched before after
  run-untouched None s run (inl e) = same_outside (subst (Runs None) e run).1
  run-untouched None s run (inr e) = absurd (no_words_refused s e.0 run e.1)
  run-untouched (Some r) s run (inl e) = absurd (subst (Runs (Some r)) e run)
  run-untouched (Some r) s run (inr e) = same_outside (refused r s e.0 run e.1).2

  abbrev ReadFails : Request → Type 0
  ReadFails r = (FailedAt contents faults faults' (files_of r) × IsUntouched before after)
      ⊎ ((risen before.reads ≤ after.reads)
      × AnswersTaken contents before after (λ taken. length taken < most_script_bytes) r)

  read_fault : (r : Request) → Runs (Some r) status.ReadFault → ReadFails r
  read_fault r (inl run) = inl (run.0, same_outside run.1)
  read_fault r (inr run) =
      let a = run.1 in
      inr (read_rises (session_of r a.inputs) r.subject a.ends, read_taken r a.inputs a.opens r.subject refl a.ends)

  pub run-read_fault : (w : Option Request) (s : Status) → Runs w s → s ≡ status.ReadFault → IfSome w ReadFails
  run-read_fault None s run e = tt
  run-read_fault (Some r) s run e = read_fault r (subst (Runs (Some r)) e run)

  pub run-write_fault : (w : Option Request) (s : Status) → Runs w s → s ≡ status.WriteFault
      → risen before.writes ≤ after.writes
  run-write_fault None s run e = absurd (subst (Runs None) e run)
  run-write_fault (Some r) s run e =
      let a = (subst (Runs (Some r)) e run).1 in write_rises (session_of r a.inputs) r.subject a.ends

  pub run-script_full : (w : Option Request) (s : Status) → Runs w s → s ≡ status.ScriptFull
      → IfSome w (AnswersTaken contents before after (λ taken. length taken ≡ most_script_bytes))
  run-script_full None s run e = tt
  run-script_full (Some r) s run e =
      let a = (subst (Runs (Some r)) e run).1 in
      full_taken r a.inputs a.opens r.subject refl a.ends

  memory_some : (r : Request) → (after ≡ before) ⊎ Ends r status.Memory → WritesSome contents before after r
  memory_some r (inl same) = λ inputs script f l.
      let P : Outside → Type 0 = λ o. WritesFront before.held o.held (output_of r inputs script) in
      subst P (sym same) (nothing_written before.held (output_of r inputs script))
  memory_some r (inr a) =
      writes_some r a.inputs a.opens (memory_front (session_of r a.inputs) r.subject a.ends)

  pub run-front : (w : Option Request) (s : Status) → Runs w s → (s ≡ status.WriteFault) ⊎ (s ≡ status.Memory)
      → IfSome w (WritesSome contents before after)
  run-front None s run e = tt
  run-front (Some r) s run (inl e) =
      let a = (subst (Runs (Some r)) e run).1 in
      writes_some r a.inputs a.opens (fault_front (session_of r a.inputs) r.subject a.ends)
  run-front (Some r) s run (inr e) = memory_some r (subst (Runs (Some r)) e run).1

  -- ---- what stays

  pub run-files : (w : Option Request) (s : Status) → Runs w s → ¬ (s ≡ status.ReadFault) → SameCounts faults faults'
  run-files None status.Words run n = run.0
  run-files None status.Done run n = absurd run
  run-files None status.TextFile run n = absurd run
  run-files None status.GrammarFile run n = absurd run
  run-files None status.BracketFile run n = absurd run
  run-files None status.ReadFault run n = absurd run
  run-files None status.WriteFault run n = absurd run
  run-files None status.ScriptFull run n = absurd run
  run-files None status.Memory run n = run.0
  run-files (Some r) status.Words run n = absurd run
  run-files (Some r) status.TextFile run n = run.1
  run-files (Some r) status.GrammarFile run n = run.1
  run-files (Some r) status.BracketFile run n = run.1
  run-files (Some r) status.Done run n = run.0
  run-files (Some r) status.ReadFault run n = absurd (n refl)
  run-files (Some r) status.WriteFault run n = run.0
  run-files (Some r) status.ScriptFull run n = run.0
  run-files (Some r) status.Memory run n = run.0

  -- a file rose, so it is a read fault: any other status leaves all counts
  abbrev Rises : Request → Type 0
  Rises r = Some_ (λ f. faults f.name < faults' f.name) (files_of r)

  file_rise : (r : Request) (s : Status) → Runs (Some r) s → Rises r → s ≡ status.ReadFault
  file_rise r status.ReadFault run h = refl
  file_rise r status.Words run h = absurd run
  file_rise r status.TextFile run h = absurd (same_counts faults faults' (files_of r) run.1 h)
  file_rise r status.GrammarFile run h = absurd (same_counts faults faults' (files_of r) run.1 h)
  file_rise r status.BracketFile run h = absurd (same_counts faults faults' (files_of r) run.1 h)
  file_rise r status.Done run h = absurd (same_counts faults faults' (files_of r) run.0 h)
  file_rise r status.WriteFault run h = absurd (same_counts faults faults' (files_of r) run.0 h)
  file_rise r status.ScriptFull run h = absurd (same_counts faults faults' (files_of r) run.0 h)
  file_rise r status.Memory run h = absurd (same_counts faults faults' (files_of r) run.0 h)

  pub run-file_rise : (w : Option Request) (s : Status) → Runs w s → IfSome w (λ r. Rises r → s ≡ status.ReadFault)
  run-file_rise None s run = tt
  run-file_rise (Some r) s run = file_rise r s run

  -- the same of the script's count, and of the sink's
  memory_reads : (r : Request) → (after ≡ before) ⊎ Ends r status.Memory → before.reads < after.reads → ⊥
  memory_reads r (inl e) h = same_reads e h
  memory_reads r (inr a) h = omega (arith, h, out_reads (session_of r a.inputs) r.subject a.ends)

  memory_writes : (r : Request) → (after ≡ before) ⊎ Ends r status.Memory → before.writes < after.writes → ⊥
  memory_writes r (inl e) h = same_writes e h
  memory_writes r (inr a) h = omega (arith, h, out_writes (session_of r a.inputs) r.subject a.ends)

  fault_writes : (r : Request) → Runs (Some r) status.ReadFault → before.writes < after.writes → ⊥
  fault_writes r (inl run) h = same_writes run.1 h
  fault_writes r (inr run) h = omega (arith, h, read_writes (session_of r run.1.inputs) r.subject run.1.ends)

  pub run-script_rise : (w : Option Request) (s : Status) → Runs w s → before.reads < after.reads
      → s ≡ status.ReadFault
  run-script_rise None status.Words run h = absurd (same_reads run.1 h)
  run-script_rise None status.Done run h = absurd run
  run-script_rise None status.TextFile run h = absurd run
  run-script_rise None status.GrammarFile run h = absurd run
  run-script_rise None status.BracketFile run h = absurd run
  run-script_rise None status.ReadFault run h = absurd run
  run-script_rise None status.WriteFault run h = absurd run
  run-script_rise None status.ScriptFull run h = absurd run
  run-script_rise None status.Memory run h = absurd (same_reads run.1 h)
  run-script_rise (Some r) status.ReadFault run h = refl
  run-script_rise (Some r) status.Words run h = absurd run
  run-script_rise (Some r) status.TextFile run h = absurd (same_reads run.2 h)
  run-script_rise (Some r) status.GrammarFile run h = absurd (same_reads run.2 h)
  run-script_rise (Some r) status.BracketFile run h = absurd (same_reads run.2 h)
  run-script_rise (Some r) status.Done run h =
      absurd (omega (arith, h, done_reads (session_of r run.1.inputs) r.subject run.1.ends))
  run-script_rise (Some r) status.WriteFault run h =
      absurd (omega (arith, h, write_reads (session_of r run.1.inputs) r.subject run.1.ends))
  run-script_rise (Some r) status.ScriptFull run h =
      absurd (omega (arith, h, full_reads (session_of r run.1.inputs) r.subject run.1.ends))
  run-script_rise (Some r) status.Memory run h = absurd (memory_reads r run.1 h)

  pub run-sink_rise : (w : Option Request) (s : Status) → Runs w s → before.writes < after.writes
      → s ≡ status.WriteFault
  run-sink_rise None status.Words run h = absurd (same_writes run.1 h)
  run-sink_rise None status.Done run h = absurd run
  run-sink_rise None status.TextFile run h = absurd run
  run-sink_rise None status.GrammarFile run h = absurd run
  run-sink_rise None status.BracketFile run h = absurd run
  run-sink_rise None status.ReadFault run h = absurd run
  run-sink_rise None status.WriteFault run h = absurd run
  run-sink_rise None status.ScriptFull run h = absurd run
  run-sink_rise None status.Memory run h = absurd (same_writes run.1 h)
  run-sink_rise (Some r) status.WriteFault run h = refl
  run-sink_rise (Some r) status.Words run h = absurd run
  run-sink_rise (Some r) status.TextFile run h = absurd (same_writes run.2 h)
  run-sink_rise (Some r) status.GrammarFile run h = absurd (same_writes run.2 h)
  run-sink_rise (Some r) status.BracketFile run h = absurd (same_writes run.2 h)
  run-sink_rise (Some r) status.Done run h =
      absurd (omega (arith, h, done_writes (session_of r run.1.inputs) r.subject run.1.ends))
  run-sink_rise (Some r) status.ReadFault run h = absurd (fault_writes r run h)
  run-sink_rise (Some r) status.ScriptFull run h =
      absurd (omega (arith, h, full_writes (session_of r run.1.inputs) r.subject run.1.ends))
  run-sink_rise (Some r) status.Memory run h = absurd (memory_writes r run.1 h)

  -- ---- a file that can't be opened

  abbrev Unopened : Request → Type 0
  Unopened r = Some_ (λ f. CannotOpen (contents f.name) f.kind) (files_of r)

  no_end : (r : Request) (s : Status) → Unopened r → Ends r s → ⊥
  no_end r s n a = not_opened contents r a.inputs a.opens n

  memory_untouched : (r : Request) → Unopened r → (after ≡ before) ⊎ Ends r status.Memory → IsUntouched before after
  memory_untouched r n (inl e) = same_outside e
  memory_untouched r n (inr a) = absurd (no_end r status.Memory n a)

  fault_untouched : (r : Request) → Unopened r → Runs (Some r) status.ReadFault → IsUntouched before after
  fault_untouched r n (inl run) = same_outside run.1
  fault_untouched r n (inr run) = absurd (no_end r status.ReadFault n run.1)

  untouched : (r : Request) (s : Status) → Runs (Some r) s → Unopened r → IsUntouched before after
  untouched r status.Words run n = absurd run
  untouched r status.TextFile run n = same_outside run.2
  untouched r status.GrammarFile run n = same_outside run.2
  untouched r status.BracketFile run n = same_outside run.2
  untouched r status.Done run n = absurd (no_end r status.Done n run.1)
  untouched r status.WriteFault run n = absurd (no_end r status.WriteFault n run.1)
  untouched r status.ScriptFull run n = absurd (no_end r status.ScriptFull n run.1)
  untouched r status.ReadFault run n = fault_untouched r n run
  untouched r status.Memory run n = memory_untouched r n run.1

  pub run-unopened : (w : Option Request) (s : Status) → Runs w s
      → IfSome w (λ r. Unopened r → IsUntouched before after)
  run-unopened None s run = tt
  run-unopened (Some r) s run = untouched r s run

  -- ---- a text that is made leaves the script

  untouched_made : (subject : Subject) → after ≡ before → IfMade subject (LeavesScript before after)
  untouched_made (text_file name) e = tt
  untouched_made (generated lines) e = (ap (λ (o : Outside). o.left) e, ap (λ (o : Outside). o.reads) e)

  ended_made : (r : Request) (s : Status) → Ends r s → IfMade r.subject (LeavesScript before after)
  ended_made r s a = made_leaves (session_of r a.inputs) r.subject s a.ends

  memory_made : (r : Request) → (after ≡ before) ⊎ Ends r status.Memory → IfMade r.subject (LeavesScript before after)
  memory_made r (inl e) = untouched_made r.subject e
  memory_made r (inr a) = ended_made r status.Memory a

  fault_made : (r : Request) → Runs (Some r) status.ReadFault → IfMade r.subject (LeavesScript before after)
  fault_made r (inl run) = untouched_made r.subject run.1
  fault_made r (inr run) = ended_made r status.ReadFault run.1

  made : (r : Request) (s : Status) → Runs (Some r) s → IfMade r.subject (LeavesScript before after)
  made r status.Words run = absurd run
  made r status.TextFile run = untouched_made r.subject run.2
  made r status.GrammarFile run = untouched_made r.subject run.2
  made r status.BracketFile run = untouched_made r.subject run.2
  made r status.Done run = ended_made r status.Done run.1
  made r status.WriteFault run = ended_made r status.WriteFault run.1
  made r status.ScriptFull run = ended_made r status.ScriptFull run.1
  made r status.ReadFault run = fault_made r run
  made r status.Memory run = memory_made r run.1

  pub run-made : (w : Option Request) (s : Status) → Runs w s
      → IfSome w (λ r. IfMade r.subject (LeavesScript before after))
  run-made None s run = tt
  run-made (Some r) s run = made r s run

  -- ---- when each status has to come

  no_read_fault : (session : Session) (subject : Subject) → EndsFor session subject status.ReadFault
      → IfScripted subject (Stands before.reads after.reads) → ⊥
  no_read_fault session (text_file name) e st = not_risen before.reads after.reads st e.2
  no_read_fault session (generated lines) e st = absurd e

  no_fault : (r : Request) → FilesStand faults faults' r → IfScripted r.subject (Stands before.reads after.reads)
      → Runs (Some r) status.ReadFault → ⊥
  no_fault r f s (inl h) = stands_failed contents faults faults' (files_of r) h.0 f
  no_fault r f s (inr h) = no_read_fault (session_of r h.1.inputs) r.subject h.1.ends s

  no_full : (session : Session) (subject : Subject) → EndsFor session subject status.ScriptFull
      → IfScripted subject (HasShortScript before) → ⊥
  no_full session (text_file name) e h =
      let cut = e.0 in
      let t = taken_of h.0 cut.script before.left after.left h.1 cut.takes in
      shorter h.0 cut.script t.0 t.1 h.2 e.1
  no_full session (generated lines) e h = absurd e

  -- accepted files, a script that isn't too long, and no fault
  completes : (r : Request) (s : Status) → Runs (Some r) s → AllAccepted contents r
      → IfScripted r.subject (HasShortScript before) → AllStand faults faults' before after r
      → (s ≡ status.Done) ⊎ (s ≡ status.Memory)
  completes r status.Done run a h st = inl refl
  completes r status.Memory run a h st = inr refl
  completes r status.Words run a h st = absurd run
  completes r status.TextFile run a h st = absurd (accepted_refused contents kind.Text (files_of r) run.0 a)
  completes r status.GrammarFile run a h st = absurd (accepted_refused contents kind.Grammar (files_of r) run.0 a)
  completes r status.BracketFile run a h st = absurd (accepted_refused contents kind.Brackets (files_of r) run.0 a)
  completes r status.ReadFault run a h st = absurd (no_fault r st.files st.reads run)
  completes r status.WriteFault run a h st =
      absurd (not_risen before.writes after.writes st.writes (write_rises (session_of r run.1.inputs) r.subject run.1.ends))
  completes r status.ScriptFull run a h st = absurd (no_full (session_of r run.1.inputs) r.subject run.1.ends h)

  pub run-completes_for : (w : Option Request) (s : Status) → Runs w s
      → IfSome w (λ r. AllAccepted contents r → IfScripted r.subject (HasShortScript before)
      → AllStand faults faults' before after r → (s ≡ status.Done) ⊎ (s ≡ status.Memory))
  run-completes_for None s run = tt
  run-completes_for (Some r) s run = completes r s run

  no_whole : (session : Session) (subject : Subject) → EndsFor session subject status.Done → IsScripted subject
      → (script : List ℕ) → before.left ≡ Some script → most_script_bytes ≤ length script → ⊥
  no_whole session (text_file name) e is script l n =
      let t = taken_of script e.script before.left after.left l e.takes in
      whole_short script e.script t.0 t.1 (nothing_rest after.left t.0 t.2 e.ended) e.short n
  no_whole session (generated lines) e is script l n = absurd is

  -- a script of which not all is taken, or all without its end being read
  fills : (r : Request) (s : Status) → Runs (Some r) s → (script : List ℕ) → IsScripted r.subject
      → AllAccepted contents r → before.left ≡ Some script → most_script_bytes ≤ length script
      → AllStand faults faults' before after r → (s ≡ status.ScriptFull) ⊎ (s ≡ status.Memory)
  fills r status.ScriptFull run script is a l n st = inl refl
  fills r status.Memory run script is a l n st = inr refl
  fills r status.Words run script is a l n st = absurd run
  fills r status.TextFile run script is a l n st = absurd (accepted_refused contents kind.Text (files_of r) run.0 a)
  fills r status.GrammarFile run script is a l n st =
      absurd (accepted_refused contents kind.Grammar (files_of r) run.0 a)
  fills r status.BracketFile run script is a l n st =
      absurd (accepted_refused contents kind.Brackets (files_of r) run.0 a)
  fills r status.ReadFault run script is a l n st = absurd (no_fault r st.files st.reads run)
  fills r status.WriteFault run script is a l n st =
      absurd (not_risen before.writes after.writes st.writes (write_rises (session_of r run.1.inputs) r.subject run.1.ends))
  fills r status.Done run script is a l n st =
      absurd (no_whole (session_of r run.1.inputs) r.subject run.1.ends is script l n)

  pub run-fills_for : (w : Option Request) (s : Status) → Runs w s
      → IfSome w (λ r. (script : List ℕ) → IsScripted r.subject → AllAccepted contents r → before.left ≡ Some script
      → most_script_bytes ≤ length script → AllStand faults faults' before after r
      → (s ≡ status.ScriptFull) ⊎ (s ≡ status.Memory))
  run-fills_for None s run = tt
  run-fills_for (Some r) s run = fills r s run

  -- a file that is told to be refused, where those before it are told to be accepted
  fault_refuses : (r : Request) (k : FileKind) → FirstRefused contents k (files_of r) → FilesStand faults faults' r
      → Runs (Some r) status.ReadFault → ⊥
  fault_refuses r k f st (inl run) = stands_failed contents faults faults' (files_of r) run.0 st
  fault_refuses r k f st (inr run) = not_refused contents r run.1.inputs k run.1.opens f

  refuses : (r : Request) (s : Status) (k : FileKind) → Runs (Some r) s → FirstRefused contents k (files_of r)
      → FilesStand faults faults' r → (s ≡ refusal_of k) ⊎ (s ≡ status.Memory)
  refuses r status.Memory k run f st = inr refl
  refuses r status.Words k run f st = absurd run
  refuses r status.TextFile k run f st =
      inl (ap refusal_of (same_kind contents kind.Text k (files_of r) run.0 f))
  refuses r status.GrammarFile k run f st =
      inl (ap refusal_of (same_kind contents kind.Grammar k (files_of r) run.0 f))
  refuses r status.BracketFile k run f st =
      inl (ap refusal_of (same_kind contents kind.Brackets k (files_of r) run.0 f))
  refuses r status.ReadFault k run f st = absurd (fault_refuses r k f st run)
  refuses r status.Done k run f st = absurd (not_refused contents r run.1.inputs k run.1.opens f)
  refuses r status.WriteFault k run f st = absurd (not_refused contents r run.1.inputs k run.1.opens f)
  refuses r status.ScriptFull k run f st = absurd (not_refused contents r run.1.inputs k run.1.opens f)

  pub run-refuses_for : (w : Option Request) (s : Status) → Runs w s → (k : FileKind)
      → IfSome w (λ r. FirstRefused contents k (files_of r) → FilesStand faults faults' r
      → (s ≡ refusal_of k) ⊎ (s ≡ status.Memory))
  run-refuses_for None s run k = tt
  run-refuses_for (Some r) s run k = refuses r s k run

  -- ---- how a run comes to its end

  answered_run : (r : Request) (inputs : Inputs) → OpensAll contents r inputs → SameCounts faults faults'
      → (s : Status) → IsTextEnd before after r.subject (session_of r inputs) s → Runs (Some r) s
  answered_run r i o c status.Done f = (c, record { inputs = i; opens = o; ends = f })
  answered_run r i o c status.ReadFault f = inr (c, record { inputs = i; opens = o; ends = f })
  answered_run r i o c status.WriteFault f = (c, record { inputs = i; opens = o; ends = f })
  answered_run r i o c status.ScriptFull f = (c, record { inputs = i; opens = o; ends = f })
  answered_run r i o c status.Memory f = (c, inr (record { inputs = i; opens = o; ends = f }))
  answered_run r i o c status.Words f = absurd (no_words_end (session_of r i) r.subject f)
  answered_run r i o c status.TextFile f = absurd (no_text_end (session_of r i) r.subject f)
  answered_run r i o c status.GrammarFile f = absurd (no_grammar_end (session_of r i) r.subject f)
  answered_run r i o c status.BracketFile f = absurd (no_brackets_end (session_of r i) r.subject f)

  pub run-answered : (w : Option Request) (r : Request) (inputs : Inputs) (session : Session) (s : Status)
      → w ≡ Some r → OpensAll contents r inputs → session ≡ session_of r inputs
      → SameCounts faults faults' → IsTextEnd before after r.subject session s → Runs w s
  run-answered w r inputs session s e o same c f =
      subst (λ w. Runs w s) (sym e)
      (answered_run r inputs o c s (subst (λ o. IsTextEnd before after r.subject o s) same f))

  unopened_run : (r : Request) (s : Status) → IsOpenEnd contents faults faults' r s → after ≡ before
      → Runs (Some r) s
  unopened_run r status.TextFile f e = (f.0, f.1, e)
  unopened_run r status.GrammarFile f e = (f.0, f.1, e)
  unopened_run r status.BracketFile f e = (f.0, f.1, e)
  unopened_run r status.ReadFault f e = inl (f, e)
  unopened_run r status.Memory f e = (f, inl e)
  unopened_run r status.Done f e = absurd f
  unopened_run r status.Words f e = absurd f
  unopened_run r status.WriteFault f e = absurd f
  unopened_run r status.ScriptFull f e = absurd f

  pub run-at_files : (w : Option Request) (r : Request) (s : Status) → w ≡ Some r
      → IsOpenEnd contents faults faults' r s → after ≡ before → Runs w s
  run-at_files w r s e f same = subst (λ w. Runs w s) (sym e) (unopened_run r s f same)

  -- memory was wanting before any file was opened
  pub run-wanting : (w : Option Request) → SameCounts faults faults' → after ≡ before → Runs w status.Memory
  run-wanting None same e = (same, e)
  run-wanting (Some r) same e = (same, inl e)
