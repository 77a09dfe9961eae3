-- Files by name: where one stands, and what a change of one and a new one leave.
use Rattle.std.proofs.Common.{◌≡◌, ◌≢◌, ℕ, zero, suc, ◌+◌, ◌<◌, ◌≤◌, Bool, true, false, List, [], ◌∷◌, ◌++◌, length}
use Rattle.std.proofs.Common.{Option, Some, None, refl, ap, sym, ◌∙◌, arith, subst}
use Rattle.std.specs.Prelude.{MatchOption, not, option_map, slice_index_or, slice_set, position, nat_lt, if◌then◌else◌}
use Rattle.std.specs.List.{position_or_len}
use Rattle.std.specs.Str.{bytes_eq}
use Rattle.std.specs.Cmp.Lexicographic.{same_text, other_text}
use Rattle.std.proofs.lemmas.Bool.{ltb-true, ltb-false}
use Rattle.piece_io.specs.Told.{Holds, risen}
use Rattle.piece_io.specs.MemFiles.{file_of, told_of, count_of, faulted, changed, changed_at, absent_after}
use Rattle.piece_io.specs.declared.mem_files.MemFile.{MemFile}

-- the file of a name stands at a place
pub record IsPlaceOf (files : List MemFile) (name : List ℕ) (at : ℕ) : Type 0 where
  pub within : at < length files
  pub found : (d : MemFile) → file_of files name ≡ Some (slice_index_or files at d)
  pub change : (change : MemFile → MemFile) (d : MemFile)
      → changed change files name ≡ slice_set files at (change (slice_index_or files at d))

-- whether the first file has the name decides which file has it, and which is changed
file_of-here : (file : MemFile) (files : List MemFile) (name : List ℕ) (b : Bool) → bytes_eq file.name name ≡ b
    → file_of (file ∷ files) name ≡ (if b then Some file else file_of files name)
file_of-here file files name b is = ap (λ b. if b then Some file else file_of files name) is

changed-here : (change : MemFile → MemFile) (file : MemFile) (files : List MemFile) (name : List ℕ) (b : Bool)
    → bytes_eq file.name name ≡ b
    → changed change (file ∷ files) name ≡ changed_at b change file files (changed change files name)
changed-here change file files name b is = ap (λ b. changed_at b change file files (changed change files name)) is

-- ---- where the file of a name stands

-- how many files stand before the first one of a name
before : List ℕ → List MemFile → ℕ
before name files = position_or_len (λ file. bytes_eq file.name name) files

-- of files of which the first has the name or not
module _ (name : List ℕ) (file : MemFile) (files : List MemFile) where
  abbrev Has : Bool → Type 0
  Has b = bytes_eq file.name name ≡ b

  later-place : (at : ℕ) → Has false → IsPlaceOf files name at → IsPlaceOf (file ∷ files) name (suc at)
  later-place at is place = record {
    within = omega (arith, place.within);
    found = λ d. file_of-here file files name false is ∙ place.found d;
    change = λ change d. changed-here change file files name false is
        ∙ ap (λ files. file ∷ files) (place.change change d);
  }

  first-place : Has true → IsPlaceOf (file ∷ files) name zero
  first-place is = record {
    within = omega arith;
    found = λ d. file_of-here file files name true is;
    change = λ change d. changed-here change file files name true is;
  }

  before-here : Has true → before name (file ∷ files) ≡ zero
  unfolding before
  before-here is = ap (λ b. if not b then 1 + before name files else 0) is

  before-later : Has false → before name (file ∷ files) ≡ suc (before name files)
  unfolding before
  before-later is = ap (λ b. if not b then 1 + before name files else 0) is ∙ omega arith

  place-by : (b : Bool) → Has b → (before name files < length files → IsPlaceOf files name (before name files))
      → before name (file ∷ files) < length (file ∷ files) → IsPlaceOf (file ∷ files) name (before name (file ∷ files))
  place-by true is later within = rw (before-here is) (first-place is)
  place-by false is later within =
      let there : before name files < length files = omega (arith, before-later is) in
      rw (before-later is) (later-place (before name files) is (later there))

  no-place-by : (b : Bool) → Has b → (length files ≤ before name files → file_of files name ≡ None)
      → length (file ∷ files) ≤ before name (file ∷ files) → file_of (file ∷ files) name ≡ None
  no-place-by true is later past = absurd (omega (arith, before-here is))
  no-place-by false is later past =
      file_of-here file files name false is ∙ later (omega (arith, before-later is))

module _ (name : List ℕ) where
  place : (files : List MemFile) → before name files < length files → IsPlaceOf files name (before name files)
  place [] within = absurd (omega arith)
  place (file ∷ files) within = place-by name file files (bytes_eq file.name name) refl (place files) within

  no-place : (files : List MemFile) → length files ≤ before name files → file_of files name ≡ None
  no-place [] past = refl
  no-place (file ∷ files) past = no-place-by name file files (bytes_eq file.name name) refl (no-place files) past

  position-by : (b : Bool) (files : List MemFile) → nat_lt (before name files) (length files) ≡ b
      → MatchOption (if b then Some (before name files) else None) (file_of files name ≡ None) (IsPlaceOf files name)
  position-by true files is = place files (ltb-true (before name files) (length files) is)
  position-by false files is = no-place files (ltb-false (before name files) (length files) is)

  -- what `position` finds is the place of the file
  pub placed : (files : List MemFile) (r : Option ℕ) → r ≡ position (λ file. bytes_eq file.name name) files
      → MatchOption r (file_of files name ≡ None) (IsPlaceOf files name)
  unfolding before
  placed files r is =
      let P : Option ℕ → Type 0 = λ r. MatchOption r (file_of files name ≡ None) (IsPlaceOf files name) in
      subst P (sym is) (position-by (nat_lt (before name files) (length files)) files refl)

-- ---- what a change leaves

-- two files that go by the same names
same-first : (first other : MemFile) (files others : List MemFile) (q : List ℕ) → other.name ≡ first.name
    → (bytes_eq first.name q ≡ true → Some other ≡ Some first) → file_of others q ≡ file_of files q
    → (b : Bool) → bytes_eq first.name q ≡ b → file_of (other ∷ others) q ≡ file_of (first ∷ files) q
same-first first other files others q names same later true is =
    file_of-here other others q true (ap (λ own. bytes_eq own q) names ∙ is) ∙ same is
    ∙ sym (file_of-here first files q true is)
same-first first other files others q names same later false is =
    file_of-here other others q false (ap (λ own. bytes_eq own q) names ∙ is) ∙ later
    ∙ sym (file_of-here first files q false is)

-- a change that keeps each file's name
abbrev pub KeepsName : (MemFile → MemFile) → Type 0
KeepsName change = (file : MemFile) → (change file).name ≡ file.name

module _ (change : MemFile → MemFile) where
  changed-none-by : (b : Bool) (file : MemFile) (files : List MemFile) (name : List ℕ) → bytes_eq file.name name ≡ b
      → (file_of files name ≡ None → changed change files name ≡ files) → file_of (file ∷ files) name ≡ None
      → changed change (file ∷ files) name ≡ file ∷ files
  changed-none-by true file files name is later none =
      let here : file_of (file ∷ files) name ≡ Some file = file_of-here file files name true is in cc
  changed-none-by false file files name is later none =
      changed-here change file files name false is
      ∙ ap (λ files. file ∷ files) (later (sym (file_of-here file files name false is) ∙ none))

  pub changed-none : (files : List MemFile) (name : List ℕ) → file_of files name ≡ None
      → changed change files name ≡ files
  changed-none [] name none = refl
  changed-none (file ∷ files) name none =
      changed-none-by (bytes_eq file.name name) file files name refl (changed-none files name) none

  file_of-changed-by : (b : Bool) (file : MemFile) (files : List MemFile) (name : List ℕ) → KeepsName change
      → bytes_eq file.name name ≡ b → file_of (changed change files name) name ≡ option_map change (file_of files name)
      → file_of (changed change (file ∷ files) name) name ≡ option_map change (file_of (file ∷ files) name)
  file_of-changed-by true file files name keeps is later =
      ap (λ files. file_of files name) (changed-here change file files name true is)
      ∙ file_of-here (change file) files name true (ap (λ own. bytes_eq own name) (keeps file) ∙ is)
      ∙ ap (option_map change) (sym (file_of-here file files name true is))
  file_of-changed-by false file files name keeps is later =
      ap (λ files. file_of files name) (changed-here change file files name false is)
      ∙ file_of-here file (changed change files name) name false is ∙ later
      ∙ ap (option_map change) (sym (file_of-here file files name false is))

  -- the file of the name is changed
  pub file_of-changed : (files : List MemFile) (name : List ℕ) → KeepsName change
      → file_of (changed change files name) name ≡ option_map change (file_of files name)
  file_of-changed [] name keeps = refl
  file_of-changed (file ∷ files) name keeps =
      file_of-changed-by (bytes_eq file.name name) file files name keeps refl (file_of-changed files name keeps)

  changed-other-by : (b : Bool) (file : MemFile) (files : List MemFile) (name q : List ℕ) → KeepsName change
      → q ≢ name → bytes_eq file.name name ≡ b → file_of (changed change files name) q ≡ file_of files q
      → file_of (changed change (file ∷ files) name) q ≡ file_of (file ∷ files) q
  changed-other-by true file files name q keeps other is later =
      ap (λ files. file_of files q) (changed-here change file files name true is)
      ∙ same-first file (change file) files files q (keeps file)
      (λ here. absurd (other (sym (same_text file.name q (sym here)) ∙ same_text file.name name (sym is)))) refl
      (bytes_eq file.name q) refl
  changed-other-by false file files name q keeps other is later =
      ap (λ files. file_of files q) (changed-here change file files name false is)
      ∙ same-first file file files (changed change files name) q refl (λ _. refl) later (bytes_eq file.name q) refl

  -- the files of other names stay
  pub file_of-changed-other : (files : List MemFile) (name q : List ℕ) → KeepsName change → q ≢ name
      → file_of (changed change files name) q ≡ file_of files q
  file_of-changed-other [] name q keeps other = refl
  file_of-changed-other (file ∷ files) name q keeps other =
      changed-other-by (bytes_eq file.name name) file files name q keeps other refl
      (file_of-changed-other files name q keeps other)

-- what holds of the file of the name, and of each other one that stays, holds of all
pub by-name : (P : List ℕ → Type 0) (name q : List ℕ) → P name → (q ≢ name → P q) → P q
by-name P name q here other = by (bytes_eq q name) refl
  where
    by : (b : Bool) → bytes_eq q name ≡ b → P q
    by true is = subst P (sym (same_text q name (sym is))) here
    by false is = other (other_text q name (sym is))

bytes_eq-same : (xs : List ℕ) → bytes_eq xs xs ≡ true
bytes_eq-same xs = by (bytes_eq xs xs) refl
  where
    by : (b : Bool) → bytes_eq xs xs ≡ b → b ≡ true
    by true is = refl
    by false is = absurd (other_text xs xs (sym is) refl)

push-other-by : (file : MemFile) (q : List ℕ) → q ≢ file.name → (b : Bool) → bytes_eq file.name q ≡ b
    → (if b then Some file else None) ≡ None
push-other-by file q other true is = absurd (other (sym (same_text file.name q (sym is))))
push-other-by file q other false is = refl

-- a new file at the end
pub file_of-push-other : (files : List MemFile) (file : MemFile) (q : List ℕ) → q ≢ file.name
    → file_of (files ++ file ∷ []) q ≡ file_of files q
file_of-push-other [] file q other = push-other-by file q other (bytes_eq file.name q) refl
file_of-push-other (first ∷ files) file q other =
    same-first first first files (files ++ file ∷ []) q refl (λ _. refl) (file_of-push-other files file q other)
    (bytes_eq first.name q) refl

push-by : (b : Bool) (first : MemFile) (files : List MemFile) (file : MemFile) (name : List ℕ)
    → bytes_eq first.name name ≡ b
    → (file_of files name ≡ None → file_of (files ++ file ∷ []) name ≡ Some file) → file_of (first ∷ files) name ≡ None
    → file_of (first ∷ files ++ file ∷ []) name ≡ Some file
push-by true first files file name is later none = let here = file_of-here first files name true is in cc
push-by false first files file name is later none =
    file_of-here first (files ++ file ∷ []) name false is ∙ later (sym (file_of-here first files name false is) ∙ none)

pub file_of-push : (files : List MemFile) (file : MemFile) (name : List ℕ) → file.name ≡ name → file_of files name
    ≡ None → file_of (files ++ file ∷ []) name ≡ Some file
file_of-push [] file name is none = file_of-here file [] name true
    (ap (λ own. bytes_eq own name) is ∙ bytes_eq-same name)
file_of-push (first ∷ files) file name is none =
    push-by (bytes_eq first.name name) first files file name refl (file_of-push files file name is) none

-- no count falls where the count of one file doesn't
pub faulted-never_falls : (absent : ℕ) (files : List MemFile) (name : List ℕ) (file : MemFile) → file_of files name
    ≡ Some file → file.faults ≤ risen file.faults
    → (q : List ℕ) → count_of absent (file_of files q) ≤ count_of absent (file_of (changed faulted files name) q)
faulted-never_falls absent files name file here rises q =
    let P : List ℕ → Type 0 = λ q. count_of absent (file_of files q) ≤ count_of absent
    (file_of (changed faulted files name) q) in
    let now : file_of (changed faulted files name) name ≡ Some (faulted file) =
    file_of-changed faulted files name (λ _. refl) ∙ ap (option_map faulted) here in
    by-name P name q (rw (here, now) rises) (λ other. rw (file_of-changed-other faulted files name q (λ _. refl)
    other) (omega arith))

pub absent-never_falls : (before now : ℕ) (found : Option MemFile) → before ≤ now
    → count_of before found ≤ count_of now found
absent-never_falls before now None rises = rises
absent-never_falls before now (Some file) rises = omega arith

told-faulted : (found : Option MemFile) → told_of (option_map faulted found) ≡ told_of found
told-faulted None = refl
told-faulted (Some file) = refl

-- what is told of the files stays where a count rises
pub faulted-told : (files : List MemFile) (name q : List ℕ) → told_of (file_of (changed faulted files name) q)
    ≡ told_of (file_of files q)
faulted-told files name q =
    let P : List ℕ → Type 0 = λ q. told_of (file_of (changed faulted files name) q) ≡ told_of (file_of files q) in
    by-name P name q (ap told_of (file_of-changed faulted files name (λ _. refl)) ∙ told-faulted (file_of files name))
    (λ other. ap told_of (file_of-changed-other faulted files name q (λ _. refl) other))

rises-by : (absent : ℕ) (found : Option MemFile) → count_of (absent_after absent found) (option_map faulted found)
    ≡ risen (count_of absent found)
rises-by absent None = refl
rises-by absent (Some file) = refl

pub faulted-rises : (absent absent' : ℕ) (files files' : List MemFile) (name : List ℕ)
    → absent' ≡ absent_after absent (file_of files name) → files' ≡ changed faulted files name
    → risen (count_of absent (file_of files name)) ≤ count_of absent' (file_of files' name)
faulted-rises absent absent' files files' name is-absent is-files =
    let same : count_of absent' (file_of files' name) ≡ risen (count_of absent (file_of files name)) =
    ap (λ n. count_of n (file_of files' name)) is-absent
    ∙ ap (count_of (absent_after absent (file_of files name)))
    (ap (λ files. file_of files name) is-files ∙ file_of-changed faulted files name (λ _. refl))
    ∙ rises-by absent (file_of files name) in
    omega (arith, same)

-- a file with these bytes
abbrev pub filled : List ℕ → MemFile → MemFile
filled bytes file = record { name = file.name; bytes = bytes; faults = file.faults }

pub filled-at : (files : List MemFile) (name : List ℕ) (at : ℕ) (file : MemFile) (bytes : List ℕ)
    → IsPlaceOf files name at
    → file ≡ slice_index_or files at file → slice_set files at (filled bytes file) ≡ changed (filled bytes) files name
filled-at files name at file bytes place is =
    ap (λ file. slice_set files at (filled bytes file)) is ∙ sym (place.change (filled bytes) file)

pub filled-has : (files : List MemFile) (name : List ℕ) (at : ℕ) (bytes : List ℕ) (file : MemFile)
    → IsPlaceOf files name at
    → told_of (file_of (changed (filled bytes) files name) name) ≡ Holds bytes
filled-has files name at bytes file place =
    ap told_of (file_of-changed (filled bytes) files name (λ _. refl)
    ∙ ap (option_map (filled bytes)) (place.found file))

pub filled-others : (files : List MemFile) (name q : List ℕ) (bytes : List ℕ) → q ≢ name
    → told_of (file_of (changed (filled bytes) files name) q) ≡ told_of (file_of files q)
filled-others files name q bytes other =
    ap told_of (file_of-changed-other (filled bytes) files name q (λ _. refl) other)

count-filled : (absent : ℕ) (bytes : List ℕ) (found : Option MemFile)
    → count_of absent (option_map (filled bytes) found) ≡ count_of absent found
count-filled absent bytes None = refl
count-filled absent bytes (Some file) = refl

pub filled-counts : (absent : ℕ) (files : List MemFile) (name q : List ℕ) (bytes : List ℕ)
    → count_of absent (file_of (changed (filled bytes) files name) q) ≡ count_of absent (file_of files q)
filled-counts absent files name q bytes =
    let P : List ℕ → Type 0 = λ q. count_of absent (file_of (changed (filled bytes) files name) q)
    ≡ count_of absent (file_of files q) in
    by-name P name q (ap (count_of absent) (file_of-changed (filled bytes) files name (λ _. refl))
    ∙ count-filled absent bytes (file_of files name))
    (λ other. ap (count_of absent) (file_of-changed-other (filled bytes) files name q (λ _. refl) other))

-- a new file begins with the count of the names that aren't there
pub push-counts : (absent : ℕ) (files : List MemFile) (file : MemFile) (q : List ℕ) → file_of files file.name ≡ None
    → file.faults ≡ absent
    → count_of absent (file_of (files ++ file ∷ []) q) ≡ count_of absent (file_of files q)
push-counts absent files file q none is =
    let P : List ℕ → Type 0 = λ q. count_of absent (file_of (files ++ file ∷ []) q)
    ≡ count_of absent (file_of files q) in
    by-name P file.name q (ap (count_of absent) (file_of-push files file file.name refl none) ∙ is
    ∙ sym (ap (count_of absent) none))
    (λ other. ap (count_of absent) (file_of-push-other files file q other))
