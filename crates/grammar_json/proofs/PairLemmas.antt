-- A list of fewer than two values, or of more, is no pair.
use Rattle.std.proofs.Common.{◌≡◌, ◌<◌, ◌≤◌, List, [], ◌∷◌, length, refl, arith}
use Rattle.serde_json.specs.Data.{array}
use Rattle.serde_json.specs.View.{items_view}
use Rattle.serde_json.specs.declared.value.Value.{Value}
use Rattle.grammar_defs.specs.Pointers.{itself}
use Rattle.grammar_defs.specs.BracketShape.{pair_faults}

pub no_short_pair : (vs : List Value) → length vs < 2 → pair_faults (array (items_view vs)) ≡ itself
no_short_pair [] h = refl
no_short_pair (a ∷ []) h = refl
no_short_pair (a ∷ b ∷ vs) h = absurd (omega arith)

pub no_long_pair : (vs : List Value) → 3 ≤ length vs → pair_faults (array (items_view vs)) ≡ itself
no_long_pair [] h = absurd (omega arith)
no_long_pair (a ∷ []) h = absurd (omega arith)
no_long_pair (a ∷ b ∷ []) h = absurd (omega arith)
no_long_pair (a ∷ b ∷ c ∷ vs) h = refl
