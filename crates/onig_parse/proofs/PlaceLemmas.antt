-- What is read ends further on, and a fault fits the text.
use Rattle.std.proofs.Common.{◌≡◌, ℕ, ◌+◌, ◌<◌, ◌≤◌, List, length, drop, Result, Ok, Err, refl, arith}
use Rattle.std.proofs.lemmas.List.{length-drop}
use Rattle.syntax_defs.specs.Reading.{Fault, Read, ◌>>=◌}
use Rattle.onig_parse.specs.ReadingLaws.{FitsText}

-- what holds of a value that is read; a fault fits the text, which has so many characters
abbrev pub Within : {A : Type 0} → (end : ℕ) → (A → Type 0) → Result A Fault → Type 0
Within end P (Ok x) = P x
Within end P (Err fault) = FitsText end fault

pub Within-bind : {A B : Type 0} (end : ℕ) (P : A → Type 0) (Q : B → Type 0) (read : Result A Fault)
    (next : A → Result B Fault) → Within end P read → ((x : A) → P x → Within end Q (next x))
    → Within end Q (read >>= next)
Within-bind end P Q (Ok x) next holds then_next = then_next x holds
Within-bind end P Q (Err fault) next holds then_next = holds

-- what is read behind it, where two readings agree on all that may stand before
pub bind_same : {A B : Type 0} (end : ℕ) (P : A → Type 0) (read : Result A Fault) (f g : A → Result B Fault)
    → Within end P read → ((x : A) → P x → f x ≡ g x) → (read >>= f) ≡ (read >>= g)
bind_same end P (Ok x) f g holds same = same x holds
bind_same end P (Err fault) f g fits same = refl

-- what is read has taken a character, and what is left of the text is behind it
pub record Onward {X : Type 0} (begin end : ℕ) (read : Read X) : Type 0 where
  pub on : begin < read.place
  pub left : read.place + length read.rest ≡ end

abbrev pub ReadsOn : {X : Type 0} → (begin end : ℕ) → Result (Read X) Fault → Type 0
ReadsOn begin end read = Within end (Onward begin end) read

pub left_behind : (n : ℕ) (xs : List ℕ) → n ≤ length xs → n + length (drop n xs) ≡ length xs
left_behind n xs h = omega (arith, length-drop n xs)
