-- What a run over a line has: the rules of a grammar, by their numbers, and limits.
use Rattle.std.specs.Prelude.{ℕ, List, Option, unwrap_or, slice_get}
use Rattle.pattern_defs.specs.Patterns.{Tree}
use Rattle.rule_defs.specs.Rules.{Rule, Injection, no_rule}

-- Rules, injections in the order in which they are searched, how the text of a pattern is read, the budget of an
-- attempt,
-- and the length from which a line is long. Texts of a grammar are UTF-8 bytes, as a `&str` is in clauses, and texts of
-- lines are characters.
pub record Machine : Type 0 where
  pub rules : List Rule
  pub injections : List Injection
  pub reader : List ℕ → Option Tree
  pub budget : ℕ
  pub long : ℕ

-- the rule with a number; one that isn't there is a group of nothing
abbrev pub rule_at : Machine → (number : ℕ) → Rule
rule_at machine number = unwrap_or (slice_get machine.rules number) no_rule
