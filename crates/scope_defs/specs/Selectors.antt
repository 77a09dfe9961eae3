-- What a selector means, as in the TextMate manual and in vscode-textmate's matcher: entries, each with a priority and
-- a matcher of scopes.
use Rattle.std.specs.Prelude.{ℕ, nat_eq, ◌==◌, List, [], ◌∷◌, length, drop, Bool, true, false, not, ◌&&◌, ◌||◌, ℤ}
use Rattle.std.specs.List.{starts_with}
use Rattle.scope_defs.specs.Scopes.{Name, Scopes}

-- `Path` has names that must be found in the scopes in this order; `Not`, `Both` and `Either` join matchers
pub data Matcher : Type 0 where
  Path : List Name → Matcher
  Not : Matcher → Matcher
  Both : Matcher → Matcher → Matcher
  Either : Matcher → Matcher → Matcher

-- the priority is -1 for `L:`, 1 for `R:`, else 0
pub record Entry : Type 0 where
  pub priority : ℤ
  pub matcher : Matcher

-- nothing, or a dot
abbrev pub ends_part : List ℕ → Bool
ends_part [] = true
ends_part (c ∷ cs) = c == 46

-- a name matches a scope that equals it, or begins with it and a dot
abbrev pub name_matches : Name → Name → Bool
name_matches name scope = starts_with nat_eq scope name && ends_part (drop (length name) scope)

-- the names match scopes at places that rise: the first name matches the first scope and the others match behind it,
-- or all match behind that scope
abbrev pub path_holds : List Name → Scopes → Bool
path_holds [] scopes = true
path_holds (name ∷ names) [] = false
path_holds (name ∷ names) (scope ∷ scopes) =
    (name_matches name scope && path_holds names scopes) || path_holds (name ∷ names) scopes

abbrev pub holds : Matcher → Scopes → Bool
holds (Path names) scopes = path_holds names scopes
holds (Not matcher) scopes = not (holds matcher scopes)
holds (Both a b) scopes = holds a scopes && holds b scopes
holds (Either a b) scopes = holds a scopes || holds b scopes
