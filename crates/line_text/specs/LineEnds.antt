-- Line ends that are read one character after the other: the same ends as in a whole file, which are this
-- project's own.
use Rattle.std.specs.Prelude.{ℕ, ◌==◌, List, [], ◌∷◌, if◌then◌else◌}
use Rattle.text_defs.specs.Text.{norm, without_bom}
use Rattle.line_text.specs.declared.before.Before.{Before}
use Rattle.line_text.specs.declared.before.Before.TheVariants.{FileStart, AfterCr, Other}

-- the list without a first LF
abbrev pub without_lf : List ℕ → List ℕ
without_lf [] = []
without_lf (c ∷ cs) = if c == 10 then cs else c ∷ cs

-- what these characters add to a text, by what stands before them in their file
abbrev pub normed : Before → List ℕ → List ℕ
normed FileStart cs = norm (without_bom cs)
normed AfterCr cs = norm (without_lf cs)
normed Other cs = norm cs
