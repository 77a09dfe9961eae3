-- JSON with comments and trailing commas, as VS Code's files have it, made into JSON of the same length. What counts as
-- a comment, a string and a trailing comma is this project's own.
use Rattle.grammar_defs.specs.declared.stand.Stand.{Stand}
use Rattle.grammar_defs.specs.declared.stand.Stand.TheVariants.{Outside, Text, Escaped, LineComment, Opens}
use Rattle.grammar_defs.specs.declared.stand.Stand.TheVariants.{BlockComment, Closes}
use Rattle.std.specs.Prelude.{ℕ, ◌==◌, ◌&&◌, ◌||◌, List, [], ◌∷◌, Bool, true, false, if◌then◌else◌}

-- a leading U+FEFF
abbrev pub without_mark : List ℕ → List ℕ
without_mark (a ∷ b ∷ c ∷ bytes) = if a == 239 && b == 187 && c == 191 then bytes else a ∷ b ∷ c ∷ bytes
without_mark bytes = bytes

abbrev pub next_is : ℕ → List ℕ → Bool
next_is byte [] = false
next_is byte (c ∷ bytes) = c == byte

-- where the byte behind c stands: `"` 34, `\` 92, `/` 47, `*` 42
abbrev pub after : Stand → ℕ → List ℕ → Stand
after Outside c rest =
    if c == 34 then Text
    else (if c == 47 && next_is 47 rest then LineComment
    else (if c == 47 && next_is 42 rest then Opens else Outside))
after Text c rest = if c == 92 then Escaped else (if c == 34 then Outside else Text)
after Escaped c rest = Text
after LineComment c rest = if c == 10 then Outside else LineComment
after Opens c rest = BlockComment
after BlockComment c rest = if c == 42 && next_is 47 rest then Closes else BlockComment
after Closes c rest = Outside

-- whether c belongs to a comment
abbrev pub in_comment : Stand → ℕ → List ℕ → Bool
in_comment Outside c rest = c == 47 && (next_is 47 rest || next_is 42 rest)
in_comment Text c rest = false
in_comment Escaped c rest = false
in_comment LineComment c rest = true
in_comment Opens c rest = true
in_comment BlockComment c rest = true
in_comment Closes c rest = true

-- a space in place of a byte of a comment; an LF stays
abbrev pub blank : ℕ → ℕ
blank c = if c == 10 then 10 else 32

abbrev pub without_comment : Stand → ℕ → List ℕ → ℕ
without_comment place c rest = if in_comment place c rest then blank c else c

-- the bytes with spaces in place of comments
abbrev pub without_comments : Stand → List ℕ → List ℕ
without_comments place [] = []
without_comments place (c ∷ rest) = without_comment place c rest ∷ without_comments (after place c rest) rest

-- JSON's white space: the space, the tab, LF and CR
abbrev pub is_blank : ℕ → Bool
is_blank c = c == 32 || c == 9 || c == 10 || c == 13

-- whether the first byte that is no white space is `]` or `}`
abbrev pub closes_next : List ℕ → Bool
closes_next [] = false
closes_next (c ∷ rest) = if is_blank c then closes_next rest else c == 93 || c == 125

-- where the byte behind c stands, where there are no comments
abbrev pub behind : Stand → ℕ → Stand
behind Outside c = if c == 34 then Text else Outside
behind Text c = if c == 92 then Escaped else (if c == 34 then Outside else Text)
behind Escaped c = Text
behind LineComment c = Outside
behind Opens c = Outside
behind BlockComment c = Outside
behind Closes c = Outside

abbrev pub is_outside : Stand → Bool
is_outside Outside = true
is_outside Text = false
is_outside Escaped = false
is_outside LineComment = true
is_outside Opens = true
is_outside BlockComment = true
is_outside Closes = true

abbrev pub without_comma : Stand → ℕ → List ℕ → ℕ
without_comma place c rest = if is_outside place && c == 44 && closes_next rest then 32 else c

-- the bytes with spaces in place of trailing commas
abbrev pub without_commas : Stand → List ℕ → List ℕ
without_commas place [] = []
without_commas place (c ∷ rest) = without_comma place c rest ∷ without_commas (behind place c) rest

abbrev pub loosened : List ℕ → List ℕ
loosened bytes = without_commas Outside (without_comments Outside (without_mark bytes))
