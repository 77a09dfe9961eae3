-- What reading a whole file answers, by what is told of the file. The rules are this project's own.
use Rattle.std.specs.Prelude.{◌≡◌, ℕ, ◌<◌, ◌≤◌, List, length, Result, Ok, Err}
use Rattle.piece_io.specs.Told.{Told, Untold, Missing, Holds}
use Rattle.piece_io.specs.declared.whole.FileEnd.{FileEnd}
use Rattle.piece_io.specs.declared.whole.FileEnd.TheVariants.{Failed, TooLong, Memory}

-- the bytes are the whole file, which has no more than so many
abbrev pub ReadsWhole : Told → ℕ → List ℕ → Type 0
ReadsWhole Untold most read = length read ≤ most
ReadsWhole Missing most read = ⊥
ReadsWhole (Holds bytes) most read = (read ≡ bytes) × (length bytes ≤ most)

-- the file has more than so many bytes, of which the first `taken` have come
abbrev pub IsTooLong : Told → ℕ → ℕ → Type 0
IsTooLong Untold most taken = Unit {0}
IsTooLong Missing most taken = ⊥
IsTooLong (Holds bytes) most taken = (most < length bytes) × (taken ≤ length bytes)

-- what holds where the answer is that the file is too long
abbrev pub IfTooLong : Result (List ℕ) FileEnd → (ℕ → Type 0) → Type 0
IfTooLong (Ok read) P = Unit {0}
IfTooLong (Err Failed) P = Unit {0}
IfTooLong (Err (TooLong taken)) P = P taken
IfTooLong (Err (Memory e)) P = Unit {0}

-- what holds where the answer is that a read failed
abbrev pub OnFailed : Result (List ℕ) FileEnd → Type 0 → Type 0
OnFailed (Ok read) P = Unit {0}
OnFailed (Err Failed) P = P
OnFailed (Err (TooLong taken)) P = Unit {0}
OnFailed (Err (Memory e)) P = Unit {0}

-- what holds at each other answer
abbrev pub UnlessFailed : Result (List ℕ) FileEnd → Type 0 → Type 0
UnlessFailed (Ok read) P = P
UnlessFailed (Err Failed) P = Unit {0}
UnlessFailed (Err (TooLong taken)) P = P
UnlessFailed (Err (Memory e)) P = P
