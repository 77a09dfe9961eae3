-- A bracket file, as VS Code's language configurations have it: its pairs of texts, or why it is none. That `<` and `>`
-- of `brackets` are left out, and the order in which values of a wrong kind are told, are this project's own.
use Rattle.std.specs.Prelude.{ℕ, ◌+◌, List, [], ◌∷◌, ◌++◌, codes, filter, Bool, true, false, not, ◌&&◌, Option}
use Rattle.std.specs.Prelude.{Some, None, if◌then◌else◌}
use Rattle.std.specs.Str.{bytes_eq}
use Rattle.std.specs.Fmt.{decimal}
use Rattle.serde_json.specs.Data.{Data, null, string, array, object, Items, no_items, item}
use Rattle.serde_json.specs.Find.{get}
use Rattle.pairing_defs.specs.declared.PairText.{PairText}
use Rattle.grammar_defs.specs.GrammarShape.{json_of_file}
use Rattle.grammar_defs.specs.Pointers.{Pointer, itself, all_below}

-- ---- one pair: a list of exactly two strings

-- the two texts of a pair
abbrev pub pair_of : Data → List PairText
pair_of (array (item (string a) (item (string b) no_items))) = record { opener = a; closer = b } ∷ []
pair_of _ = []

abbrev pub string_faults : Data → List Pointer
string_faults (string s) = []
string_faults _ = itself

-- a list of another length is itself of a wrong kind, whatever its members are
abbrev pub pair_faults : Data → List Pointer
pair_faults (array (item a (item b no_items))) =
    all_below (decimal 0) (string_faults a) ++ all_below (decimal 1) (string_faults b)
pair_faults _ = itself

-- ---- a list of pairs

abbrev pub pairs_of : Items → List PairText
pairs_of no_items = []
pairs_of (item d ds) = pair_of d ++ pairs_of ds

-- the members of a list, the first of which has the number n
abbrev pub pairs_faults : ℕ → Items → List Pointer
pairs_faults n no_items = []
pairs_faults n (item d ds) = all_below (decimal n) (pair_faults d) ++ pairs_faults (n + 1) ds

-- a list that may be missing; `null` counts as missing
abbrev pub pairs_in : Option Data → List PairText
pairs_in (Some (array ds)) = pairs_of ds
pairs_in _ = []

abbrev pub list_faults : Option Data → List Pointer
list_faults None = []
list_faults (Some null) = []
list_faults (Some (array ds)) = pairs_faults 0 ds
list_faults (Some _) = itself

abbrev pub pairs_at : List ℕ → Data → List PairText
pairs_at key d = pairs_in (get key d)

abbrev pub list_faults_at : List ℕ → Data → List Pointer
list_faults_at key d = all_below key (list_faults (get key d))

-- ---- a file: `colorizedBracketPairs` where it is there, else `brackets`

abbrev pub is_missing : Option Data → Bool
is_missing None = true
is_missing (Some null) = true
is_missing (Some _) = false

abbrev pub colorized : List ℕ
colorized = codes "colorizedBracketPairs"

abbrev pub plain : List ℕ
plain = codes "brackets"

-- `<` and `>`, which are comparisons in most languages
abbrev pub is_angle : PairText → Bool
is_angle p = bytes_eq p.opener (codes "<") && bytes_eq p.closer (codes ">")

-- the pairs of `brackets`, without `<` and `>`
abbrev pub plain_pairs : Data → List PairText
plain_pairs d = filter (λ p. not (is_angle p)) (pairs_at plain d)

abbrev pub file_pairs : Data → List PairText
file_pairs d = if is_missing (get colorized d) then plain_pairs d else pairs_at colorized d

abbrev pub object_faults : Data → List Pointer
object_faults d = if is_missing (get colorized d) then list_faults_at plain d else list_faults_at colorized d

abbrev pub file_faults : Data → List Pointer
file_faults (object ms) = object_faults (object ms)
file_faults _ = itself

-- what a file is: pairs, or the first of these that it isn't: JSON, all values of the right kind
pub data BracketReading : Type 0 where
  no_json : BracketReading
  wrong_kind : Pointer → BracketReading
  pairs : List PairText → BracketReading

abbrev pub reading_unless : List Pointer → Data → BracketReading
reading_unless [] d = pairs (file_pairs d)
reading_unless (pointer ∷ pointers) d = wrong_kind pointer

abbrev pub reading_of_data : Option Data → BracketReading
reading_of_data None = no_json
reading_of_data (Some d) = reading_unless (file_faults d) d

abbrev pub read_bracket_file : List ℕ → BracketReading
read_bracket_file bytes = reading_of_data (json_of_file bytes)
