-- What reading a selector answers.
use Rattle.std.specs.Prelude.{◌≡◌, ℕ, List, IsOk, Err}
use Rattle.scope_defs.specs.SelectorSyntax.{read_selector}
use Rattle.selectors.specs.declared.refusal.SelectorRefusal.{SelectorRefusal}
use Rattle.selectors.specs.declared.refusal.SelectorRefusal.TheVariants.{Syntax, Memory}

-- the text is a selector, and that one
pub record IsRead (text selector : List ℕ) : Type 0 where
  pub same : selector ≡ text
  pub accepted : IsOk (read_selector text)

-- the text is no selector, by the first character that isn't one's
abbrev pub Explains : List ℕ → SelectorRefusal → Type 0
Explains text (Syntax at) = read_selector text ≡ Err at
Explains text Memory = Unit {0}
