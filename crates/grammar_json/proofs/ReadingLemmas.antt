-- A file with a value of a wrong kind.
use Rattle.std.proofs.Common.{◌≡◌, ℕ, List, [], ◌∷◌, Some, ap, ◌∙◌, arith}
use Rattle.serde_json.specs.Data.{Data}
use Rattle.grammar_defs.specs.Pointers.{Pointer, first}
use Rattle.grammar_defs.specs.GrammarShape.{json_of_file, grammar_faults, reading_unless, reading_of_data, read_file}
use Rattle.grammar_defs.specs.GrammarShape.{wrong_kind}

unless_first : (pointers : List Pointer) (d : Data) (path : Pointer) → first pointers ≡ Some path
    → reading_unless pointers d ≡ wrong_kind path
unless_first [] d path h = absurd (grind (arith, h))
unless_first (p ∷ ps) d path h = let same : p ≡ path = grind (arith, h) in ap wrong_kind same

pub read_wrong : (bytes : List ℕ) (d : Data) (path : Pointer) → json_of_file bytes ≡ Some d → first (grammar_faults d)
    ≡ Some path → read_file bytes ≡ wrong_kind path
read_wrong bytes d path json h = ap reading_of_data json ∙ unless_first (grammar_faults d) d path h
