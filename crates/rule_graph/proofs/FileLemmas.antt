-- A file that is read as a grammar has few enough rules for a graph.
use Rattle.std.proofs.Common.{◌≡◌, ◌≤◌, ℕ, List, [], ◌∷◌, refl, ap, subst, arith}
use Rattle.std.specs.Prelude.{Bool, true, false, Option, Some, None, nat_lt, cond, min, ◌^◌, ◌-◌}
use Rattle.std.proofs.lemmas.Bool.{ltb-false}
use Rattle.serde_json.specs.Data.{Data}
use Rattle.grammar_defs.specs.declared.limits.TheConstants.{MOST_RULES}
use Rattle.grammar_defs.specs.Pointers.{Pointer}
use Rattle.grammar_defs.specs.FileRules.{Grammar}
use Rattle.grammar_defs.specs.GrammarShape.{GrammarReading, no_json, wrong_kind, too_many_rules, grammar, rule_count}
use Rattle.grammar_defs.specs.GrammarShape.{reading_unless, reading_of_data, grammar_faults, grammar_of}
use Rattle.grammar_defs.specs.GrammarShape.{read_file, json_of_file}

-- how many rules a grammar that is read has
abbrev counted : GrammarReading → ℕ
counted no_json = 0
counted (wrong_kind pointer) = 0
counted (too_many_rules n) = 0
counted (grammar g) = rule_count g

few_within : (g : Grammar) (b : Bool) → nat_lt MOST_RULES (rule_count g) ≡ b
    → counted (cond b (too_many_rules (min (rule_count g) (2 ^ 64 - 1))) (grammar g)) ≤ MOST_RULES
few_within g true e = omega arith
few_within g false e = ltb-false MOST_RULES (rule_count g) e

few_unless : (faults : List Pointer) (d : Data) → counted (reading_unless faults d) ≤ MOST_RULES
few_unless [] d = few_within (grammar_of d) (nat_lt MOST_RULES (rule_count (grammar_of d))) refl
few_unless (pointer ∷ pointers) d = omega arith

few_of_data : (d : Option Data) → counted (reading_of_data d) ≤ MOST_RULES
few_of_data None = omega arith
few_of_data (Some d) = few_unless (grammar_faults d) d

pub read_few : (bytes : List ℕ) (g : Grammar) → read_file bytes ≡ grammar g → rule_count g ≤ MOST_RULES
read_few bytes g is = subst (λ n. n ≤ MOST_RULES) (ap counted is) (few_of_data (json_of_file bytes))
