-- How a list of lines stands for a text: joined by LFs. That a text is kept as lines is this project's own.
use Rattle.std.specs.Prelude.{◌≡◌, ◌≢◌, ℕ, ◌≤◌, ◌<◌, List, [], ◌∷◌, ◌++◌, length, Option, Some, None}
use Rattle.text_defs.specs.Text.{most_chars, most_lines}

-- the lines, an LF before each
abbrev pub behind_lf : List (List ℕ) → List ℕ
behind_lf [] = []
behind_lf (line ∷ lines) = 10 ∷ (line ++ behind_lf lines)

-- the lines, an LF between two
abbrev pub joined : List (List ℕ) → List ℕ
joined [] = []
joined (line ∷ lines) = line ++ behind_lf lines

-- the lines, an LF behind each
abbrev pub ended : List (List ℕ) → List ℕ
ended [] = []
ended (line ∷ lines) = line ++ 10 ∷ ended lines

-- the characters of a line that may be missing
abbrev pub chars_of : Option (List ℕ) → List ℕ
chars_of None = []
chars_of (Some line) = line

-- no LF is among these characters
abbrev pub HasNoLf : List ℕ → Type 0
HasNoLf [] = Unit {0}
HasNoLf (c ∷ cs) = (c ≢ 10) × HasNoLf cs

abbrev pub HaveNoLf : List (List ℕ) → Type 0
HaveNoLf [] = Unit {0}
HaveNoLf (line ∷ lines) = HasNoLf line × HaveNoLf lines

-- a line that is kept holds neither LF nor CR
abbrev pub IsPlain : List ℕ → Type 0
IsPlain [] = Unit {0}
IsPlain (c ∷ cs) = (c ≢ 10) × (c ≢ 13) × IsPlain cs

abbrev pub ArePlain : List (List ℕ) → Type 0
ArePlain [] = Unit {0}
ArePlain (line ∷ lines) = IsPlain line × ArePlain lines

-- lines that are a text within the limits, and the number of its characters
pub record IsKept (lines : List (List ℕ)) (chars : ℕ) : Type 0 where
  pub some_line : 0 < length lines
  pub plain : ArePlain lines
  pub counted : chars ≡ length (joined lines)
  pub few_chars : chars ≤ most_chars
  pub few_lines : length lines ≤ most_lines
