-- End texts: an `end` or `while` text in which what a begin captured stands for each back reference, as vscode-textmate
-- has it. That a reference takes all its digits, and which characters get a backslash, are this project's own.
use Rattle.std.specs.Prelude.{ℕ, zero, suc, ◌==◌, List, [], ◌∷◌, ◌++◌, length, codes, flat_map, Bool}
use Rattle.std.specs.Prelude.{◌||◌, if◌then◌else◌}
use Rattle.std.specs.List.{list_any}
use Rattle.pattern_defs.specs.Attempt.{Captures}
use Rattle.char_sets.specs.Named.{in_named}
use Rattle.char_sets.specs.declared.named.NamedSet.TheVariants.{Space}
use Rattle.line_defs.specs.ScopeTexts.{digits_at, number_of, captured}

-- white space, and the characters that mean something in a pattern
abbrev pub needs_backslash : ℕ → Bool
needs_backslash c = list_any (λ sign. c == sign) (codes "-\\{}*+?|^$.,[]()#") || in_named Space c

-- a text as a pattern that matches it
abbrev pub escaped : List ℕ → List ℕ
escaped text = flat_map (λ c. if needs_backslash c then 92 ∷ c ∷ [] else c ∷ []) text

-- the digits of a back reference, at a character before some others
abbrev pub reference_at : ℕ → List ℕ → List ℕ
reference_at c cs = if c == 92 then digits_at cs else []

-- The last argument goes on with the pattern, past so many characters.
abbrev pub by_reference : List ℕ → Captures → List ℕ → ℕ → (ℕ → List ℕ) → List ℕ
by_reference text captures [] c next = c ∷ next 0
by_reference text captures (d ∷ ds) c next =
    escaped (captured text captures (number_of (d ∷ ds))) ++ next (length (d ∷ ds))

-- a pattern behind so many of its characters
abbrev pub end_text_past : List ℕ → Captures → List ℕ → ℕ → List ℕ
end_text_past text captures [] past = []
end_text_past text captures (c ∷ cs) (suc past) = end_text_past text captures cs past
end_text_past text captures (c ∷ cs) zero =
    by_reference text captures (reference_at c cs) c (end_text_past text captures cs)

abbrev pub end_text : List ℕ → Captures → List ℕ → List ℕ
end_text text captures pattern = end_text_past text captures pattern 0
