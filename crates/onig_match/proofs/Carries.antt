-- What the stack stands for, after a cell, an entry or a change is added, and after going back.
use Rattle.std.proofs.Common.{◌≡◌, ℕ, zero, suc, ◌+◌, ◌-◌, ◌<◌, ◌≤◌, ◌==◌, List, [], ◌∷◌, length, take, drop, refl}
use Rattle.std.proofs.Common.{ap, eq-eqb, ◌∙◌, arith}
use Rattle.std.specs.Prelude.{true, false, Option, Some, slice_get, slice_set}
use Rattle.std.proofs.lemmas.List.{length-drop}
use Rattle.pattern_defs.specs.declared.outcomes.Place.{Place}
use Rattle.pattern_defs.specs.Patterns.{NodeLists, Tree}
use Rattle.pattern_defs.specs.Attempt.{Subject, Captures, Ran}
use Rattle.onig_match.specs.declared.cells.Rest.{Rest}
use Rattle.onig_match.specs.declared.cells.Cell.{Cell}
use Rattle.onig_match.specs.declared.cells.Cell.TheVariants.{Nodes, GroupEnd, Iteration}
use Rattle.onig_match.specs.declared.entries.Change.{Change}
use Rattle.onig_match.specs.declared.entries.Entry.{Entry}
use Rattle.onig_match.specs.Machine.{kept, chain, todo_of, cell_todo, undone, captures_at, resumed, carry}
use Rattle.onig_match.specs.Sound.{AreEntries}

-- lists with the newest item first

pub kept-older : {A : Type 0} (h : ℕ) (x : A) (xs : List A) → h ≤ length xs → kept h (x ∷ xs) ≡ kept h xs
kept-older h x xs low = let e : suc (length xs) - h ≡ suc (length xs - h) = omega arith in rw e refl

pub kept-all : {A : Type 0} (xs : List A) → kept (length xs) xs ≡ xs
kept-all xs = let e : length xs - length xs ≡ 0 = omega arith in rw e refl

pub length-kept : {A : Type 0} (h : ℕ) (xs : List A) → h ≤ length xs → length (kept h xs) ≡ h
length-kept h xs low = omega (arith, length-drop (length xs - h) xs)

drop-twice : {A : Type 0} (a b : ℕ) (xs : List A) → drop b (drop a xs) ≡ drop (a + b) xs
drop-twice zero b xs = let e : 0 + b ≡ b = omega arith in rw e refl
drop-twice (suc a) zero [] = let e : suc a + 0 ≡ suc a = omega arith in rw e refl
drop-twice (suc a) (suc b) [] = let e : suc a + suc b ≡ suc (a + suc b) = omega arith in rw e refl
drop-twice (suc a) b (x ∷ xs) = let e : suc a + b ≡ suc (a + b) = omega arith in rw e (drop-twice a b xs)

pub kept-kept : {A : Type 0} (e h : ℕ) (xs : List A) → e ≤ h → h ≤ length xs → kept e (kept h xs) ≡ kept e xs
kept-kept e h xs low high =
    let first : length (drop (length xs - h) xs) - e ≡ h - e = omega (arith, length-drop (length xs - h) xs) in
    let both : (length xs - h) + (h - e) ≡ length xs - e = omega arith in
    rw (first, drop-twice (length xs - h) (h - e) xs, both) refl

-- captures

undone-twice : (a b : ℕ) (trail : List Change) (captures : Captures) →
    undone (take b (drop a trail)) (undone (take a trail) captures) ≡ undone (take (a + b) trail) captures
undone-twice zero b trail captures = let e : 0 + b ≡ b = omega arith in rw e refl
undone-twice (suc a) zero [] captures = let e : suc a + 0 ≡ suc a = omega arith in rw e refl
undone-twice (suc a) (suc b) [] captures = let e : suc a + suc b ≡ suc (a + suc b) = omega arith in rw e refl
undone-twice (suc a) b (change ∷ trail) captures =
    let e : suc a + b ≡ suc (a + b) = omega arith in
    rw e (undone-twice a b trail (slice_set captures change.number change.old))

pub captures_at-kept : (e h : ℕ) (trail : List Change) (captures : Captures) → e ≤ h → h ≤ length trail →
    captures_at e (kept h trail) (captures_at h trail captures) ≡ captures_at e trail captures
captures_at-kept e h trail captures low high =
    let first : length (drop (length trail - h) trail) - e ≡ h - e =
    omega (arith, length-drop (length trail - h) trail) in
    let both : (length trail - h) + (h - e) ≡ length trail - e = omega arith in
    rw (first, undone-twice (length trail - h) (h - e) trail captures, both) refl

pub captures_at-all : (trail : List Change) (captures : Captures) → captures_at (length trail) trail captures ≡ captures
captures_at-all trail captures = let e : length trail - length trail ≡ 0 = omega arith in rw e refl

restored : (captures : Captures) (n : ℕ) (old new : Option Place) → slice_get captures n ≡ Some old →
    slice_set (slice_set captures n new) n old ≡ captures
restored [] n old new is = refl
restored (x ∷ xs) zero old new is = let e : x ≡ old = cc in rw e refl
restored (x ∷ xs) (suc n) old new is = ap (λ (rest : Captures). x ∷ rest) (restored xs n old new is)

pub captures_at-change : (h : ℕ) (number : ℕ) (old new : Option Place) (trail : List Change) (captures : Captures) →
    slice_get captures number ≡ Some old → h ≤ length trail →
    captures_at h (record { number = number; old = old } ∷ trail) (slice_set captures number new)
    ≡ captures_at h trail captures
captures_at-change h number old new trail captures is low =
    let e : suc (length trail) - h ≡ suc (length trail - h) = omega arith in
    rw e (ap (λ (now : Captures). undone (take (length trail - h) trail) now) (restored captures number old new is))

-- what is still to match

same_number : (n : ℕ) → (n == n) ≡ true
same_number n = eq-eqb n n refl

other_number : (n m : ℕ) → n < m → (n == m) ≡ false
other_number n m h = grind (arith)

pub chain-older : (lists : NodeLists) (cell : Cell) (cells : List Cell) (n : ℕ) → n ≤ length cells →
    chain lists (cell ∷ cells) n ≡ chain lists cells n
chain-older lists (Nodes rest) cells n h = rw (other_number n (suc (length cells)) (omega arith)) refl
chain-older lists (GroupEnd group from rest) cells n h = rw (other_number n (suc (length cells)) (omega arith)) refl
chain-older lists (Iteration repeat count begun rest) cells n h =
    rw (other_number n (suc (length cells)) (omega arith)) refl

pub chain-newest : (lists : NodeLists) (cell : Cell) (cells : List Cell) (n : ℕ) → n ≡ suc (length cells) →
    chain lists (cell ∷ cells) n ≡ cell_todo lists cells cell
chain-newest lists (Nodes rest) cells n e = rw (e, same_number (suc (length cells))) refl
chain-newest lists (GroupEnd group from rest) cells n e = rw (e, same_number (suc (length cells))) refl
chain-newest lists (Iteration repeat count begun rest) cells n e = rw (e, same_number (suc (length cells))) refl

pub chain-zero : (lists : NodeLists) (cells : List Cell) → chain lists cells 0 ≡ []
chain-zero lists [] = refl
chain-zero lists (cell ∷ cells) = chain-older lists cell cells 0 (omega arith) ∙ chain-zero lists cells

pub todo_of-older : (lists : NodeLists) (cell : Cell) (cells : List Cell) (rest : Rest) → rest.next ≤ length cells →
    todo_of lists (cell ∷ cells) rest ≡ todo_of lists cells rest
todo_of-older lists cell cells rest h = rw (chain-older lists cell cells rest.next h) refl

-- what is done with an end

pub carry-cell : (s : Subject) (tree : Tree) (chars : ℕ) (cell : Cell) (cells : List Cell) (trail : List Change)
    (captures : Captures) (entries : List Entry) (ran : Ran)
    → AreEntries tree chars (length cells) (length trail) entries
    → carry s (cell ∷ cells) trail captures entries ran ≡ carry s cells trail captures entries ran
carry-cell s tree chars cell cells trail captures [] ran are = refl
carry-cell s tree chars cell cells trail captures (entry ∷ entries) ran are =
    rw (kept-older entry.cells cell cells are.0.below) refl

pub carry-change : (s : Subject) (tree : Tree) (chars : ℕ) (cells : List Cell) (number : ℕ) (old new : Option Place)
    (trail : List Change) (captures : Captures) (entries : List Entry) (ran : Ran)
    → AreEntries tree chars (length cells) (length trail) entries → slice_get captures number ≡ Some old
    → carry s cells (record { number = number; old = old } ∷ trail) (slice_set captures number new) entries ran
    ≡ carry s cells trail captures entries ran
carry-change s tree chars cells number old new trail captures [] ran are is = refl
carry-change s tree chars cells number old new trail captures (entry ∷ entries) ran are is =
    let low : entry.trail ≤ length trail = are.0.before in
    let change : Change = record { number = number; old = old } in
    rw (kept-older entry.trail change trail low, captures_at-change entry.trail number old new trail captures is low)
    refl

pub carry-entry : (s : Subject) (cells : List Cell) (trail : List Change) (captures : Captures) (entry : Entry)
    (entries : List Entry) (ran : Ran) → entry.cells ≡ length cells → entry.trail ≡ length trail
    → carry s cells trail captures (entry ∷ entries) ran
    ≡ carry s cells trail captures entries (resumed s cells captures entry.resume entry.at ran)
carry-entry s cells trail captures entry entries ran e f =
    rw (e, f, kept-all cells, kept-all trail, captures_at-all trail captures) refl

-- captures that are kept behind entries that are dropped
pub carry-skip : (s : Subject) (tree : Tree) (chars : ℕ) (cells : List Cell) (t : ℕ) (trail : List Change)
    (captures : Captures) (entries : List Entry) (ran : Ran) → AreEntries tree chars (length cells) t entries
    → t ≤ length trail → carry s cells (kept t trail) (captures_at t trail captures) entries ran
    ≡ carry s cells trail captures entries ran
carry-skip s tree chars cells t trail captures [] ran are h = refl
carry-skip s tree chars cells t trail captures (entry ∷ entries) ran are h =
    let low : entry.trail ≤ t = are.0.before in
    rw (kept-kept entry.trail t trail low h, captures_at-kept entry.trail t trail captures low h) refl
