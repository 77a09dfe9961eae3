-- The files that the words name: which of them is reached, and what is told of them.
use Rattle.std.proofs.Common.{◌≡◌, ℕ, ◌<◌, ◌≤◌, List, [], ◌∷◌, ◌++◌, refl, sym, ap, subst, ◌∙◌, arith}
use Rattle.std.proofs.Common.{inl, inr}
use Rattle.std.specs.Prelude.{Option, Some, None}
use Rattle.piece_io.specs.Told.{Told, Untold, Missing, Holds, risen}
use Rattle.session_defs.specs.declared.file_kind.FileKind.{FileKind}
use Rattle.session_defs.specs.declared.file_kind.FileKind.TheVariants as kind
use Rattle.session_defs.specs.Words.{Request}
use Rattle.session_defs.specs.Opening.{NamedFile, Inputs, named_if, text_name, files_of}
use Rattle.bracket_program.specs.Run.{Reads, Opens, Refuses, CannotOpen, SameCounts, Reaches, RefusedAt, FailedAt}
use Rattle.bracket_program.specs.Run.{Some_, Each, OpensIf, OpensAll, TellsIf, TellsAll, IsAccepted, IsRefused}
use Rattle.bracket_program.specs.Run.{FirstRefused, Stands}

-- ---- one file

-- a count that stands did not rise
pub not_risen : (before after : ℕ) → Stands before after → risen before ≤ after → ⊥
not_risen before after st h = omega (arith, st.0, st.1)

pub cannot_open : (told : Told) (k : FileKind) (bytes : List ℕ) → CannotOpen told k → Opens told k bytes → ⊥
cannot_open Untold k bytes n o = absurd n
cannot_open Missing k bytes n o = absurd o.reads
cannot_open (Holds file) k bytes n o = let same = o.reads in let is = o.accepted in cc

refused_accepted : (told : Told) (k : FileKind) → Refuses told k → IsAccepted told k → ⊥
refused_accepted Untold k r a = absurd a
refused_accepted Missing k r a = absurd a
refused_accepted (Holds file) k r a = cc

opened_refused : (told : Told) (k : FileKind) (bytes : List ℕ) → Opens told k bytes → IsRefused told k → ⊥
opened_refused Untold k bytes o r = absurd r
opened_refused Missing k bytes o r = absurd r
opened_refused (Holds file) k bytes o r = let same = o.reads in let is = o.accepted in cc

reads_told : (told : Told) (file bytes : List ℕ) → told ≡ Holds file → Reads told bytes → bytes ≡ file
reads_told told file bytes e o = subst (λ t. Reads t bytes) e o

-- ---- lists of files

some_each : {P Q : NamedFile → Type 0} (files : List NamedFile) → ((f : NamedFile) → P f → Q f → ⊥) → Some_ P files
    → Each Q files → ⊥
some_each [] never s e = absurd s
some_each (f ∷ files) never (inl s) e = never f s e.0
some_each (f ∷ files) never (inr s) e = some_each files never s e.1

each_append : (P : NamedFile → Type 0) (xs ys : List NamedFile) → Each P xs → Each P ys → Each P (xs ++ ys)
each_append P [] ys a b = b
each_append P (f ∷ xs) ys a b = (a.0, each_append P xs ys a.1 b)

reaches_each : {P Q : NamedFile → Type 0} (contents : List ℕ → Told) (files : List NamedFile)
    → ((f : NamedFile) → P f → Q f → ⊥) → Reaches contents P files → Each Q files → ⊥
reaches_each contents [] never r e = absurd r
reaches_each contents (f ∷ files) never (inl r) e = never f r e.0
reaches_each contents (f ∷ files) never (inr r) e = reaches_each contents files never r.1 e.1

-- no count of a file rose where all stand as they were
pub same_counts : (faults faults' : List ℕ → ℕ) (files : List NamedFile) → SameCounts faults faults'
    → Some_ (λ f. faults f.name < faults' f.name) files → ⊥
same_counts faults faults' [] same s = absurd s
same_counts faults faults' (f ∷ files) same (inl s) = omega (arith, s, same f.name)
same_counts faults faults' (f ∷ files) same (inr s) = same_counts faults faults' files same s

module _ (contents : List ℕ → Told) where
  abbrev pub IsOpened : NamedFile → Type 0
  IsOpened f = (bytes : List ℕ) × Opens (contents f.name) f.kind bytes

  pub each_named : (k : FileKind) (name bytes : Option (List ℕ)) → OpensIf contents k name bytes
      → Each IsOpened (named_if k name)
  each_named k None bytes o = tt
  each_named k (Some name) None o = absurd o
  each_named k (Some name) (Some bytes) o = ((bytes, o), tt)

  pub each_opened : (r : Request) (inputs : Inputs) → OpensAll contents r inputs → Each IsOpened (files_of r)
  each_opened r inputs o =
      each_append IsOpened (named_if kind.Text (text_name r.subject))
      (named_if kind.Grammar r.grammar ++ named_if kind.Brackets r.brackets)
      (each_named kind.Text (text_name r.subject) inputs.text o.text)
      (each_append IsOpened (named_if kind.Grammar r.grammar) (named_if kind.Brackets r.brackets)
      (each_named kind.Grammar r.grammar inputs.grammar o.grammar)
      (each_named kind.Brackets r.brackets inputs.brackets o.brackets))

  -- where all files were opened, none of them can't be
  pub not_opened : (r : Request) (inputs : Inputs) → OpensAll contents r inputs
      → Some_ (λ f. CannotOpen (contents f.name) f.kind) (files_of r) → ⊥
  not_opened r inputs o s =
      some_each (files_of r) (λ f n p. cannot_open (contents f.name) f.kind p.0 n p.1) s (each_opened r inputs o)

  -- nor is any refused
  first_opened : (k : FileKind) (files : List NamedFile) → FirstRefused contents k files → Each IsOpened files → ⊥
  first_opened k [] r e = absurd r
  first_opened k (f ∷ files) (inl r) e = opened_refused (contents f.name) f.kind e.0.0 e.0.1 r.1
  first_opened k (f ∷ files) (inr r) e = first_opened k files r.1 e.1

  pub not_refused : (r : Request) (inputs : Inputs) (k : FileKind) → OpensAll contents r inputs
      → FirstRefused contents k (files_of r) → ⊥
  not_refused r inputs k o f = first_opened k (files_of r) f (each_opened r inputs o)

  -- where all are accepted, none was refused
  pub accepted_refused : (k : FileKind) (files : List NamedFile) → RefusedAt contents k files
      → Each (λ f. IsAccepted (contents f.name) f.kind) files → ⊥
  accepted_refused k files r e =
      reaches_each contents files (λ f p q. refused_accepted (contents f.name) f.kind p.1 q) r e

  -- where all counts stand, none rose
  pub stands_failed : (faults faults' : List ℕ → ℕ) (files : List NamedFile) → FailedAt contents faults faults' files
      → Each (λ f. Stands (faults f.name) (faults' f.name)) files → ⊥
  stands_failed faults faults' files r e =
      reaches_each contents files (λ f p q. not_risen (faults f.name) (faults' f.name) q p) r e

  -- the file that was refused is the first that is told to be
  pub same_kind : (k l : FileKind) (files : List NamedFile) → RefusedAt contents k files
      → FirstRefused contents l files → k ≡ l
  same_kind k l [] r s = absurd r
  same_kind k l (f ∷ files) (inl r) (inl s) = sym r.0 ∙ s.0
  same_kind k l (f ∷ files) (inl r) (inr s) = absurd (refused_accepted (contents f.name) f.kind r.1 s.0)
  same_kind k l (f ∷ files) (inr r) (inl s) = absurd (opened_refused (contents f.name) f.kind r.0.0 r.0.1 s.1)
  same_kind k l (f ∷ files) (inr r) (inr s) = same_kind k l files r.1 s.1

  -- ---- bytes that are told are those that were read

  same_if : (k : FileKind) (name bytes told : Option (List ℕ)) → OpensIf contents k name bytes
      → TellsIf contents name told → bytes ≡ told
  same_if k None None None o t = refl
  same_if k None None (Some file) o t = absurd t
  same_if k None (Some bytes) told o t = absurd o
  same_if k (Some name) None told o t = absurd o
  same_if k (Some name) (Some bytes) None o t = absurd t
  same_if k (Some name) (Some bytes) (Some file) o t = ap Some (reads_told (contents name) file bytes t o.reads)

  abbrev inputs_of : Option (List ℕ) → Option (List ℕ) → Option (List ℕ) → Inputs
  inputs_of text grammar brackets = record { text = text; grammar = grammar; brackets = brackets }

  pub same_inputs : (r : Request) (inputs told : Inputs) → OpensAll contents r inputs → TellsAll contents r told
      → inputs ≡ told
  same_inputs r inputs told o t =
      ap (λ text. inputs_of text inputs.grammar inputs.brackets)
      (same_if kind.Text (text_name r.subject) inputs.text told.text o.text t.text)
      ∙ (ap (λ grammar. inputs_of told.text grammar inputs.brackets)
      (same_if kind.Grammar r.grammar inputs.grammar told.grammar o.grammar t.grammar)
      ∙ ap (inputs_of told.text told.grammar)
      (same_if kind.Brackets r.brackets inputs.brackets told.brackets o.brackets t.brackets))
