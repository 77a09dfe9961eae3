-- A map of names to the numbers of rules, and what stands behind a front of a text.
use Rattle.std.specs.Borrow.{Bor}
use Rattle.std.specs.Prelude.{◌≡◌, ℕ, List, String, Option, option_map}
use Rattle.std.specs.BTreeMap.{BTreeMap, get_by_text}
use Rattle.std.specs.Global.{Global}
use Rattle.grammar_defs.specs.FileRules.{NamedRule, Grammar}
use Rattle.graph_defs.specs.Includes.{number_of, in_repository}

abbrev pub Numbers : Type 0
Numbers = BTreeMap (String Global) ℕ

-- the map has each name's number, where the first rule has the number n
abbrev pub AreNumbers : Numbers → ℕ → List NamedRule → Type 0
AreNumbers numbers n rules = (key : List ℕ) → get_by_text numbers key ≡ number_of n rules key

abbrev pub KnowsRepository : Numbers → Grammar → Type 0
KnowsRepository numbers g = (key : List ℕ) → get_by_text numbers key ≡ in_repository g key

-- a part of a text is what a definition says
abbrev pub BehindIs : Option (List ℕ) → Option (Bor (List ℕ)) → Type 0
BehindIs expected found = option_map (λ text. text.now) found ≡ expected
