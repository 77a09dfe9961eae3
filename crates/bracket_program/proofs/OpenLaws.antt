-- How the files that the words name are opened, one after the other.
use Rattle.std.proofs.Common.{◌≡◌, ℕ, ◌≤◌, List, [], ◌∷◌, ◌++◌, length, refl, sym, ap, subst, ◌∙◌, arith, Bool, true}
use Rattle.std.proofs.Common.{false, ◌&&◌, inl, inr}
use Rattle.std.specs.Prelude.{Option, Some, None, nat_le, option_and_then, is_some, unwrap_or, Result, Ok, Err, IfOk, IfErr, OnOk}
use Rattle.std.proofs.lemmas.Bool.Decides.{nat_tests}
use Rattle.text_pos.specs.declared.limits.Limits.{Limits}
use Rattle.text_defs.specs.Text.{text_of}
use Rattle.pairing_defs.specs.declared.BracketText.{BracketText}
use Rattle.pairing_defs.specs.Marks.{usual_texts}
use Rattle.piece_io.specs.Told.{Told, Untold, Missing, Holds, risen}
use Rattle.line_machine.specs.Machines.{MachineState, told}
use Rattle.document.specs.State.{State}
use Rattle.document.specs.Settings.{settings_by}
use Rattle.session_defs.specs.declared.file_kind.FileKind.{FileKind}
use Rattle.session_defs.specs.declared.file_kind.FileKind.TheVariants as kind
use Rattle.generator_defs.specs.GeneratedText.{generated_text}
use Rattle.session_defs.specs.Words.{Subject, text_file, generated, Request}
use Rattle.session_defs.specs.Opening.{NamedFile, OpenGrammar, Session, named_if, text_name, files_of, is_accepted}
use Rattle.session_defs.specs.Opening.{is_of_kind, text_at_first}
use Rattle.session_defs.specs.Opening.{most_file_bytes, grammar_of_file, brackets_of_file, texts_of, session_by}
use Rattle.bracket_program.specs.Run.{Opens, OpensIf, Refuses, SameCounts, IsFileEnd, Reaches, Each, refusal_of}
use Rattle.bracket_program.specs.Texts.{ReadsFile, IsKindEnd}
use Rattle.bracket_program.specs.Opens.{file, IsNamedEnd, IsOpenEnd, OpensText, OpensMachine, OpensBrackets, OpensDocument}
use Rattle.bracket_program.specs.Sessions.{machine_for}
use Rattle.bracket_program.specs.declared.status.Status.{Status}
use Rattle.bracket_program.specs.declared.status.Status.TheVariants as status
use Rattle.bracket_program.proofs.FileLaws.{IsOpened, each_named}

-- ---- one file

and_false : (a b : Bool) → b ≡ false → (a && b) ≡ false
and_false true b e = e
and_false false b e = refl

and_true : (a b : Bool) → a ≡ true → b ≡ true → (a && b) ≡ true
and_true true b h e = e
and_true false b h e = cc

is_small : (n : ℕ) → n ≤ most_file_bytes → nat_le n most_file_bytes ≡ true
is_small n h = grind (arith, nat_tests)

pub opens_by : (told : Told) (k : FileKind) (bytes : List ℕ) → ReadsFile told bytes → is_of_kind k bytes ≡ true
    → Opens told k bytes
opens_by told k bytes r e = record {
  reads = r.reads;
  accepted = and_true (nat_le (length bytes) most_file_bytes) (is_of_kind k bytes) (is_small (length bytes) r.few) e;
}

refuses_by : (told : Told) (k : FileKind) (bytes : List ℕ) → ReadsFile told bytes → is_of_kind k bytes ≡ false
    → Refuses told k
refuses_by Untold k bytes r e = tt
refuses_by Missing k bytes r e = absurd r.reads
refuses_by (Holds file) k bytes r e =
    subst (λ b. is_accepted k b ≡ false) r.reads
    (and_false (nat_le (length bytes) most_file_bytes) (is_of_kind k bytes) e)

no_fault : (k : FileKind) → status.ReadFault ≡ refusal_of k → ⊥
no_fault kind.Text e = cc
no_fault kind.Grammar e = cc
no_fault kind.Brackets e = cc

module _ (contents : List ℕ → Told) (faults faults' : List ℕ → ℕ) where
  abbrev EndsAt : NamedFile → Status → Type 0
  EndsAt f s = IsFileEnd contents faults faults' f s

  -- a file that was refused
  pub file_refused : (k : FileKind) (name : List ℕ) (s : Status) → s ≡ refusal_of k → Refuses (contents name) k
      → SameCounts faults faults' → EndsAt (file k name) s
  file_refused kind.Text name s e r c = subst (EndsAt (file kind.Text name)) (sym e) (refl, r, c)
  file_refused kind.Grammar name s e r c = subst (EndsAt (file kind.Grammar name)) (sym e) (refl, r, c)
  file_refused kind.Brackets name s e r c = subst (EndsAt (file kind.Brackets name)) (sym e) (refl, r, c)

  refused_by : (k : FileKind) (name bytes : List ℕ) (s : Status) → ReadsFile (contents name) bytes
      → (s ≡ refusal_of k) × (is_of_kind k bytes ≡ false) → SameCounts faults faults' → EndsAt (file k name) s
  refused_by k name bytes s r e c = file_refused k name s e.0 (refuses_by (contents name) k bytes r e.1) c

  -- bytes that are no file of the kind
  pub kind_end : (k : FileKind) (name bytes : List ℕ) (s : Status) → ReadsFile (contents name) bytes
      → IsKindEnd k bytes s → SameCounts faults faults' → EndsAt (file k name) s
  kind_end k name bytes status.Memory r e c = c
  kind_end k name bytes status.Done r e c = refused_by k name bytes status.Done r e c
  kind_end k name bytes status.Words r e c = refused_by k name bytes status.Words r e c
  kind_end k name bytes status.TextFile r e c = refused_by k name bytes status.TextFile r e c
  kind_end k name bytes status.GrammarFile r e c = refused_by k name bytes status.GrammarFile r e c
  kind_end k name bytes status.BracketFile r e c = refused_by k name bytes status.BracketFile r e c
  kind_end k name bytes status.ReadFault r e c = absurd (no_fault k e.0)
  kind_end k name bytes status.WriteFault r e c = refused_by k name bytes status.WriteFault r e c
  kind_end k name bytes status.ScriptFull r e c = refused_by k name bytes status.ScriptFull r e c

-- ---- the same, seen from before earlier files were read

module _ (contents contents' : List ℕ → Told) (same : (q : List ℕ) → contents' q ≡ contents q) where
  pub opens_if_same : (k : FileKind) (name bytes : Option (List ℕ)) → OpensIf contents' k name bytes
      → OpensIf contents k name bytes
  opens_if_same k None None o = tt
  opens_if_same k None (Some bytes) o = absurd o
  opens_if_same k (Some name) None o = absurd o
  opens_if_same k (Some name) (Some bytes) o = subst (λ t. Opens t k bytes) (same name) o

  module _ (faults faults' faults'' : List ℕ → ℕ) (stand : SameCounts faults faults') where
    counts_same : SameCounts faults' faults'' → SameCounts faults faults''
    counts_same c = λ q. c q ∙ stand q

    refused_same : (f : NamedFile) (s : Status)
        → (s ≡ refusal_of f.kind) × Refuses (contents' f.name) f.kind × SameCounts faults' faults''
        → (s ≡ refusal_of f.kind) × Refuses (contents f.name) f.kind × SameCounts faults faults''
    refused_same f s e = (e.0, subst (λ t. Refuses t f.kind) (same f.name) e.1, counts_same e.2)

    file_end_same : (f : NamedFile) (s : Status) → IsFileEnd contents' faults' faults'' f s
        → IsFileEnd contents faults faults'' f s
    file_end_same f status.ReadFault e = subst (λ n. risen n ≤ faults'' f.name) (stand f.name) e
    file_end_same f status.Memory e = counts_same e
    file_end_same f status.Done e = refused_same f status.Done e
    file_end_same f status.Words e = refused_same f status.Words e
    file_end_same f status.TextFile e = refused_same f status.TextFile e
    file_end_same f status.GrammarFile e = refused_same f status.GrammarFile e
    file_end_same f status.BracketFile e = refused_same f status.BracketFile e
    file_end_same f status.WriteFault e = refused_same f status.WriteFault e
    file_end_same f status.ScriptFull e = refused_same f status.ScriptFull e

    none_end_same : (k : FileKind) (s : Status) → IsNamedEnd contents' faults' faults'' k None s
        → IsNamedEnd contents faults faults'' k None s
    none_end_same k status.Memory e = counts_same e
    none_end_same k status.ReadFault e = absurd e
    none_end_same k status.Done e = absurd e
    none_end_same k status.Words e = absurd e
    none_end_same k status.TextFile e = absurd e
    none_end_same k status.GrammarFile e = absurd e
    none_end_same k status.BracketFile e = absurd e
    none_end_same k status.WriteFault e = absurd e
    none_end_same k status.ScriptFull e = absurd e

    pub named_end_same : (k : FileKind) (name : Option (List ℕ)) (s : Status)
        → IsNamedEnd contents' faults' faults'' k name s → IsNamedEnd contents faults faults'' k name s
    named_end_same k None s e = none_end_same k s e
    named_end_same k (Some name) s e = file_end_same (file k name) s e

-- ---- all files

kind_of_status : (k l : FileKind) → refusal_of k ≡ refusal_of l → l ≡ k
kind_of_status kind.Text kind.Text e = refl
kind_of_status kind.Text kind.Grammar e = cc
kind_of_status kind.Text kind.Brackets e = cc
kind_of_status kind.Grammar kind.Text e = cc
kind_of_status kind.Grammar kind.Grammar e = refl
kind_of_status kind.Grammar kind.Brackets e = cc
kind_of_status kind.Brackets kind.Text e = cc
kind_of_status kind.Brackets kind.Grammar e = cc
kind_of_status kind.Brackets kind.Brackets e = refl

no_refusal-done : (k : FileKind) → status.Done ≡ refusal_of k → ⊥
no_refusal-done kind.Text e = cc
no_refusal-done kind.Grammar e = cc
no_refusal-done kind.Brackets e = cc

no_refusal-words : (k : FileKind) → status.Words ≡ refusal_of k → ⊥
no_refusal-words kind.Text e = cc
no_refusal-words kind.Grammar e = cc
no_refusal-words kind.Brackets e = cc

no_refusal-write : (k : FileKind) → status.WriteFault ≡ refusal_of k → ⊥
no_refusal-write kind.Text e = cc
no_refusal-write kind.Grammar e = cc
no_refusal-write kind.Brackets e = cc

no_refusal-full : (k : FileKind) → status.ScriptFull ≡ refusal_of k → ⊥
no_refusal-full kind.Text e = cc
no_refusal-full kind.Grammar e = cc
no_refusal-full kind.Brackets e = cc

module _ (contents : List ℕ → Told) (faults faults' : List ℕ → ℕ) (r : Request) where
  -- a file is reached
  abbrev IsReached : NamedFile → Type 1
  IsReached f = (P : NamedFile → Type 0) → P f → Reaches contents P (files_of r)

  file_end : (f : NamedFile) → IsReached f → (s : Status) → IsFileEnd contents faults faults' f s
      → IsOpenEnd contents faults faults' r s
  file_end f at status.ReadFault e = at (λ f. risen (faults f.name) ≤ faults' f.name) e
  file_end f at status.Memory e = e
  file_end f at status.TextFile e =
      (at (λ f. (f.kind ≡ kind.Text) × Refuses (contents f.name) f.kind) (kind_of_status kind.Text f.kind e.0, e.1), e.2)
  file_end f at status.GrammarFile e =
      (at (λ f. (f.kind ≡ kind.Grammar) × Refuses (contents f.name) f.kind) (kind_of_status kind.Grammar f.kind e.0, e.1), e.2)
  file_end f at status.BracketFile e =
      (at (λ f. (f.kind ≡ kind.Brackets) × Refuses (contents f.name) f.kind) (kind_of_status kind.Brackets f.kind e.0, e.1), e.2)
  file_end f at status.Done e = absurd (no_refusal-done f.kind e.0)
  file_end f at status.Words e = absurd (no_refusal-words f.kind e.0)
  file_end f at status.WriteFault e = absurd (no_refusal-write f.kind e.0)
  file_end f at status.ScriptFull e = absurd (no_refusal-full f.kind e.0)

  none_end : (k : FileKind) (s : Status) → IsNamedEnd contents faults faults' k None s
      → IsOpenEnd contents faults faults' r s
  none_end k status.Memory e = e
  none_end k status.ReadFault e = absurd e
  none_end k status.Done e = absurd e
  none_end k status.Words e = absurd e
  none_end k status.TextFile e = absurd e
  none_end k status.GrammarFile e = absurd e
  none_end k status.BracketFile e = absurd e
  none_end k status.WriteFault e = absurd e
  none_end k status.ScriptFull e = absurd e

  abbrev other_files : List NamedFile
  other_files = named_if kind.Grammar r.grammar ++ named_if kind.Brackets r.brackets

  text_end_by : (name : Option (List ℕ)) → text_name r.subject ≡ name → (s : Status)
      → IsNamedEnd contents faults faults' kind.Text name s → IsOpenEnd contents faults faults' r s
  text_end_by None e s h = none_end kind.Text s h
  text_end_by (Some name) e s h =
      file_end (file kind.Text name)
      (λ P p. subst (λ n. Reaches contents P (named_if kind.Text n ++ other_files)) (sym e) (inl p)) s h

  pub text_end : (s : Status) → IsNamedEnd contents faults faults' kind.Text (text_name r.subject) s
      → IsOpenEnd contents faults faults' r s
  text_end s h = text_end_by (text_name r.subject) refl s h

  reaches_behind : (P : NamedFile → Type 0) (xs ys : List NamedFile) → Each (IsOpened contents) xs
      → Reaches contents P ys → Reaches contents P (xs ++ ys)
  reaches_behind P [] ys e h = h
  reaches_behind P (f ∷ xs) ys e h = inr (e.0, reaches_behind P xs ys e.1 h)

  -- the text's file was opened, where it has one
  abbrev TextIsOpened : Option (List ℕ) → Type 0
  TextIsOpened bytes = OpensIf contents kind.Text (text_name r.subject) bytes

  behind_text : (bytes : Option (List ℕ)) → TextIsOpened bytes → (P : NamedFile → Type 0)
      → Reaches contents P other_files → Reaches contents P (files_of r)
  behind_text bytes o P h =
      reaches_behind P (named_if kind.Text (text_name r.subject)) other_files
      (each_named contents kind.Text (text_name r.subject) bytes o) h

  machine_end_by : (text : Option (List ℕ)) → TextIsOpened text → (name : Option (List ℕ)) → r.grammar ≡ name
      → (s : Status) → IsNamedEnd contents faults faults' kind.Grammar name s → IsOpenEnd contents faults faults' r s
  machine_end_by text o None e s h = none_end kind.Grammar s h
  machine_end_by text o (Some name) e s h =
      file_end (file kind.Grammar name)
      (λ P p. behind_text text o P
      (subst (λ g. Reaches contents P (named_if kind.Grammar g ++ named_if kind.Brackets r.brackets))
      (sym e) (inl p))) s h

  pub machine_end : (text : Option (List ℕ)) → TextIsOpened text → (s : Status)
      → IsNamedEnd contents faults faults' kind.Grammar r.grammar s → IsOpenEnd contents faults faults' r s
  machine_end text o s h = machine_end_by text o r.grammar refl s h

  brackets_end_by : (text : Option (List ℕ)) → TextIsOpened text → (bytes : Option (List ℕ))
      → OpensIf contents kind.Grammar r.grammar bytes → (name : Option (List ℕ)) → r.brackets ≡ name
      → (s : Status) → IsNamedEnd contents faults faults' kind.Brackets name s → IsOpenEnd contents faults faults' r s
  brackets_end_by text o bytes g None e s h = none_end kind.Brackets s h
  brackets_end_by text o bytes g (Some name) e s h =
      file_end (file kind.Brackets name)
      (λ P p. behind_text text o P
      (reaches_behind P (named_if kind.Grammar r.grammar) (named_if kind.Brackets r.brackets)
      (each_named contents kind.Grammar r.grammar bytes g)
      (subst (λ b. Reaches contents P (named_if kind.Brackets b)) (sym e) (inl p)))) s h

  pub brackets_end : (text : Option (List ℕ)) → TextIsOpened text → (bytes : Option (List ℕ))
      → OpensIf contents kind.Grammar r.grammar bytes → (s : Status)
      → IsNamedEnd contents faults faults' kind.Brackets r.brackets s → IsOpenEnd contents faults faults' r s
  brackets_end text o bytes g s h = brackets_end_by text o bytes g r.brackets refl s h

-- ---- what is open

pub ok_map : {T E : Type 0} (r : Result T E) {P Q : T → Type 0} → ((x : T) → P x → Q x) → IfOk r P → IfOk r Q
ok_map (Ok x) f p = f x p
ok_map (Err e) f p = tt

pub err_map : {T E : Type 0} (r : Result T E) {P Q : E → Type 0} → ((e : E) → P e → Q e) → IfErr r P → IfErr r Q
err_map (Ok x) f p = tt
err_map (Err e) f p = f e p

opened_text_file : (contents : List ℕ → Told) (name bytes : List ℕ) → ReadsFile (contents name) bytes
    → is_of_kind kind.Text bytes ≡ true → (text : List ℕ) → text ≡ text_of bytes
    → OpensText contents (text_file name) text
opened_text_file contents name bytes r a text e =
    record { bytes = Some bytes; opens = opens_by (contents name) kind.Text bytes r a; is = e }

pub opened_text : {E : Type 0} (result : Result (List ℕ) E) (contents : List ℕ → Told) (name bytes : List ℕ)
    → ReadsFile (contents name) bytes → IfOk result (λ text. text ≡ text_of bytes)
    → OnOk result (is_of_kind kind.Text bytes ≡ true) → IfOk result (OpensText contents (text_file name))
opened_text (Ok text) contents name bytes r e a = opened_text_file contents name bytes r a text e
opened_text (Err s) contents name bytes r e a = tt

pub made_text_opens : (contents : List ℕ → Told) (lines : ℕ) (text : List ℕ) → text ≡ generated_text lines
    → OpensText contents (generated lines) text
made_text_opens contents lines text e = record { bytes = None; opens = tt; is = e }

opened_machine : (contents : List ℕ → Told) (name bytes : List ℕ) (limits : Limits)
    → ReadsFile (contents name) bytes → is_of_kind kind.Grammar bytes ≡ true → (m : MachineState)
    → m ≡ machine_for limits (grammar_of_file bytes) → OpensMachine contents (Some name) limits m
opened_machine contents name bytes limits r a m e =
    record { bytes = Some bytes; opens = opens_by (contents name) kind.Grammar bytes r a; is = e }

pub opened_if : {E : Type 0} (result : Result MachineState E) (contents : List ℕ → Told) (name bytes : List ℕ)
    (limits : Limits) → ReadsFile (contents name) bytes
    → IfOk result (λ m. m ≡ machine_for limits (grammar_of_file bytes))
    → OnOk result (is_of_kind kind.Grammar bytes ≡ true) → IfOk result (OpensMachine contents (Some name) limits)
opened_if (Ok m) contents name bytes limits r e a = opened_machine contents name bytes limits r a m e
opened_if (Err s) contents name bytes limits r e a = tt

pub opened_brackets : (contents : List ℕ → Told) (name bytes : List ℕ) → ReadsFile (contents name) bytes
    → (texts : List BracketText) → Some texts ≡ brackets_of_file bytes → OpensBrackets contents (Some name) texts
opened_brackets contents name bytes r texts e = record {
  bytes = Some bytes;
  opens = opens_by (contents name) kind.Brackets bytes r (sym (ap is_some e));
  is = ap (λ o. unwrap_or o usual_texts) e;
}

abbrev session_made : MachineState → List BracketText → Limits → List ℕ → Session
session_made m texts limits text =
    record { settings = settings_by (told m) texts limits; unread = m.unread; text = text }

made_by : (limits : Limits) (g : Option OpenGrammar) (texts : List BracketText) (text : List ℕ)
    → session_made (machine_for limits g) texts limits text ≡ session_by limits g texts text
made_by limits None texts text = refl
made_by limits (Some g) texts text = refl

-- a text, a machine and brackets, one opened after the other
pub document_opens : (contents contents' contents'' : List ℕ → Told) → ((q : List ℕ) → contents' q ≡ contents q)
    → ((q : List ℕ) → contents'' q ≡ contents q) → (r : Request) (text : List ℕ) (m : MachineState)
    (texts : List BracketText) → OpensText contents r.subject text → OpensMachine contents' r.grammar r.limits m
    → OpensBrackets contents'' r.brackets texts → (d : State MachineState) → d.text ≡ text → d.machine ≡ m
    → d.texts ≡ texts → d.limits ≡ r.limits → OpensDocument contents r d
document_opens contents contents' contents'' same same' r text m texts t o b d et em es el = record {
  inputs = record { text = t.bytes; grammar = o.bytes; brackets = b.bytes };
  opens = record {
    text = t.opens;
    grammar = opens_if_same contents contents' same kind.Grammar r.grammar o.bytes o.opens;
    brackets = opens_if_same contents contents'' same' kind.Brackets r.brackets b.bytes b.opens;
  };
  is = ap (λ n. session_made n d.texts d.limits d.text) (em ∙ o.is)
      ∙ (ap (λ ts. session_made (machine_for r.limits (option_and_then grammar_of_file o.bytes)) ts d.limits d.text)
      (es ∙ b.is)
      ∙ (ap (λ l. session_made (machine_for r.limits (option_and_then grammar_of_file o.bytes)) (texts_of b.bytes) l d.text) el
      ∙ (ap (session_made (machine_for r.limits (option_and_then grammar_of_file o.bytes)) (texts_of b.bytes) r.limits)
      (et ∙ t.is)
      ∙ made_by r.limits (option_and_then grammar_of_file o.bytes) (texts_of b.bytes) (text_at_first r.subject t.bytes))));
}

-- brackets that aren't opened, behind a text and a machine that are
pub brackets_unopened : (contents contents' contents'' : List ℕ → Told) → ((q : List ℕ) → contents' q ≡ contents q)
    → ((q : List ℕ) → contents'' q ≡ contents q) → (faults faults' faults'' : List ℕ → ℕ)
    → SameCounts faults faults' → (r : Request) (text : List ℕ) (m : MachineState) → OpensText contents r.subject text
    → OpensMachine contents' r.grammar r.limits m → (s : Status)
    → IsNamedEnd contents'' faults' faults'' kind.Brackets r.brackets s → IsOpenEnd contents faults faults'' r s
brackets_unopened contents contents' contents'' same same' faults faults' faults'' stand r text m t o s e =
    brackets_end contents faults faults'' r t.bytes t.opens o.bytes
    (opens_if_same contents contents' same kind.Grammar r.grammar o.bytes o.opens) s
    (named_end_same contents contents'' same' faults faults' faults'' stand kind.Brackets r.brackets s e)
