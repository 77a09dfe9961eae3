-- The place where a text is refused as a selector, told without the limit on nesting and without an order of reading:
-- some selector goes on from what stands before it, and none from that and the character there.
use Rattle.std.specs.Prelude.{◌≡◌, ℕ, ◌+◌, ◌<◌, ◌≤◌, ◌⊎◌, List, [], ◌∷◌, ◌++◌, length, take, get_or, IsTrue, IsOk}
use Rattle.std.specs.Prelude.{Option, Some, None}
use Rattle.scope_defs.specs.declared.limits.TheConstants.{MOST_NESTED}
use Rattle.scope_defs.specs.SelectorSyntax.{Reading, nothing, step, at_end, operand_of, is_too_deep}

abbrev pub goes_on : Option Reading → (Reading → Option Reading) → Option Reading
goes_on None next = None
goes_on (Some r) next = next r

-- what is read behind a text, however deep it nests
abbrev pub after : List ℕ → Reading → Option Reading
after [] r = Some r
after (c ∷ cs) r = goes_on (step c r) (after cs)

-- a selector may end there
abbrev pub MayEnd : Option Reading → Type 0
MayEnd None = ⊥
MayEnd (Some r) = IsOk (at_end (operand_of r.stand) r.around r 0)

-- a text is a selector, however deep it nests
abbrev pub IsSelector : List ℕ → Type 0
IsSelector text = MayEnd (after text nothing)

-- some selector begins so, however deep it nests
abbrev pub BeginsSelector : List ℕ → Type 0
BeginsSelector front = (rest : List ℕ) × IsSelector (front ++ rest)

-- an operand begins behind a text with a character, in more parentheses and minus signs than are allowed
abbrev pub IsDeepAfter : Option Reading → ℕ → Type 0
IsDeepAfter None c = ⊥
IsDeepAfter (Some r) c = IsTrue (is_too_deep MOST_NESTED c r)

abbrev pub BeginsTooDeep : List ℕ → ℕ → Type 0
BeginsTooDeep front c = IsDeepAfter (after front nothing) c

-- why a text is refused at a place
pub record IsFirstFault (text : List ℕ) (at : ℕ) : Type 0 where
  pub within : at ≤ length text
  pub before : BeginsSelector (take at text)
  pub there : at < length text → (¬ BeginsSelector (take (at + 1) text))
      ⊎ BeginsTooDeep (take at text) (get_or text at 0)
  pub at_end : at ≡ length text → ¬ IsSelector text
