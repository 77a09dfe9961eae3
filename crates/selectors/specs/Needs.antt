-- What a selector can't hold without: names with some keys, the numbers that are made of their first parts.
use Rattle.std.specs.Prelude.{◌≡◌, ℕ, ◌+◌, ◌-◌, ◌==◌, ◌⊎◌, List, [], ◌∷◌, ◌++◌, map, true, false, if◌then◌else◌}
use Rattle.scope_defs.specs.Scopes.{Scopes}
use Rattle.scope_defs.specs.Selectors.{Matcher, holds}
use Rattle.scope_names.specs.Keys.{HasNoKey, key_of}
use Rattle.selectors.specs.declared.sign.Sign.{Sign}
use Rattle.selectors.specs.declared.sign.Sign.TheVariants.{Path, Opens, Closes, Next}
use Rattle.selectors.specs.declared.verdict.Verdict.{Verdict}
use Rattle.selectors.specs.declared.verdict.Verdict.TheVariants.{Holds, Fails, Held}
use Rattle.selectors.specs.Verdicts.{joined, behind_failed, run, is_true}

-- one of these keys no name has
abbrev pub LacksOne : List ℕ → Scopes → Type 0
LacksOne [] scopes = ⊥
LacksOne (key ∷ keys) scopes = HasNoKey key scopes ⊎ LacksOne keys scopes

-- so of each list of keys
abbrev pub LacksOfEach : List (List ℕ) → Scopes → Type 0
LacksOfEach [] scopes = Unit {0}
LacksOfEach (keys ∷ others) scopes = LacksOne keys scopes × LacksOfEach others scopes

-- a matcher holds of no scopes which have not all keys of any list
abbrev pub Needs : Matcher → List (List ℕ) → Type 0
Needs matcher needed = (scopes : Scopes) → LacksOfEach needed scopes → holds matcher scopes ≡ false

-- signs hold of no such scopes
abbrev pub SignsNeed : List Sign → List (List ℕ) → Type 0
SignsNeed signs needed = (scopes : Scopes) → LacksOfEach needed scopes → is_true (run scopes signs Holds) ≡ false

-- ---- which lists these are

-- the keys of the names of a path which is asked and must hold
abbrev pub keys_at : Verdict → Sign → List (List ℕ)
keys_at Holds (Path names true) = map key_of names ∷ []
keys_at most sign = []

-- the most that is known behind one more sign where an alternative may hold: the others are passed over, with so many
-- parentheses open in them
abbrev pub most_held : Sign → ℕ → Verdict
most_held (Path names wanted) inside = Held inside
most_held Opens inside = Held (inside + 1)
most_held (Closes wanted) inside = if inside == 0 then Holds else Held (inside - 1)
most_held Next inside = Held inside

-- the most that is known behind one more sign, where no path that is asked and must hold does: what must not hold may
-- fail or not
abbrev pub most_behind : Sign → Verdict → Verdict
most_behind sign (Fails inside) = behind_failed sign inside
most_behind sign (Held inside) = most_held sign inside
most_behind (Path names wanted) Holds = joined false wanted
most_behind Opens Holds = Holds
most_behind (Closes wanted) Holds = Holds
most_behind Next Holds = Held 0

-- the keys of each path that must hold inside its own parentheses and is reached where no such path before it holds
abbrev pub keys_behind : List Sign → Verdict → List (List ℕ)
keys_behind [] most = []
keys_behind (sign ∷ signs) most = keys_at most sign ++ keys_behind signs (most_behind sign most)

-- the most that is known behind all signs
abbrev pub most_of : List Sign → Verdict → Verdict
most_of [] most = most
most_of (sign ∷ signs) most = most_of signs (most_behind sign most)
