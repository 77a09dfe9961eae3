-- What reading part of a text gives: a value and what is left of the text, or the first fault.
use Rattle.std.specs.Prelude.{◌≡◌, ℕ, List, drop, Result, Ok, Err}
use Rattle.syntax_defs.specs.declared.refusal.PatternRefusal.{PatternRefusal}
use Rattle.syntax_defs.specs.declared.refusal.PatternRefusal.TheVariants as refusals

-- why a text is no pattern; places count characters from the text's start
pub data Fault : Type 0 where
  Syntax : (at : ℕ) → Fault
  LeftOut : (at : ℕ) → Fault
  TooDeep : (depth : ℕ) → Fault
  TooLong : (count : ℕ) → Fault

-- a value, the place behind what was read, and the characters from there on
pub record Read (X : Type 0) : Type 0 where
  pub value : X
  pub place : ℕ
  pub rest : List ℕ

infixl 10 ◌>>=◌
abbrev pub ◌>>=◌ : {A B : Type 0} → Result A Fault → (A → Result B Fault) → Result B Fault
(Ok x) >>= f = f x
(Err e) >>= f = Err e

-- a refusal is the fault, unless memory ran out
abbrev pub Fails : {Y : Type 0} → PatternRefusal → Result Y Fault → Type 0
Fails (refusals.Syntax at) read = read ≡ Err (Syntax at)
Fails (refusals.LeftOut at) read = read ≡ Err (LeftOut at)
Fails (refusals.TooDeep depth) read = read ≡ Err (TooDeep depth)
Fails (refusals.TooLong count) read = read ≡ Err (TooLong count)
Fails refusals.Memory read = Unit {0}

-- a value that fits what is read, and the place behind it in the text
pub record Fitting {X Y : Type 0} (Fits : X → Y → Type 0) (text : List ℕ) (x : X) (next : ℕ) (read : Read Y) : Type 0
  where
    pub value : Fits x read.value
    pub place : next ≡ read.place
    pub rest : drop next text ≡ read.rest

abbrev pub FitsRead : {X Y : Type 0} → (X → Y → Type 0) → List ℕ → X → ℕ → Result (Read Y) Fault → Type 0
FitsRead Fits text x next (Ok read) = Fitting Fits text x next read
FitsRead Fits text x next (Err fault) = ⊥

-- what a reader of part of a text answers is what reading gives, unless memory ran out
abbrev pub Gives : {X Y : Type 0} → (X → Y → Type 0) → List ℕ → Result (X × ℕ) PatternRefusal → Result (Read Y) Fault
    → Type 0
Gives Fits text (Ok found) read = FitsRead Fits text found.0 found.1 read
Gives Fits text (Err refusal) read = Fails refusal read

-- the same of a value that contracts see by view, where no text is left
abbrev pub Answers : {X Y : Type 0} → (X → Y) → Result X PatternRefusal → Result Y Fault → Type 0
Answers view (Ok x) read = read ≡ Ok (view x)
Answers view (Err refusal) read = Fails refusal read
