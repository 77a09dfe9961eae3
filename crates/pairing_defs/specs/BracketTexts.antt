-- Which texts are brackets, given pairs of an opener and a closer. Which pairs are dropped, how kinds are numbered, and
-- the limits are this project's own.
use Rattle.std.specs.Prelude.{ℕ, ◌+◌, ◌*◌, ◌==◌, ◌&&◌, ◌||◌, List, [], ◌∷◌, ◌++◌, length, map, max, Bool}
use Rattle.std.specs.Prelude.{codes, nat_lt, Option, Some, None, if◌then◌else◌}
use Rattle.std.specs.List.{list_any}
use Rattle.std.specs.Str.{bytes_eq, chars}
use Rattle.text_pos.specs.declared.kinds.Kinds.{Kinds}
use Rattle.pairing_defs.specs.declared.Role.TheVariants.{Opener, Closer}
use Rattle.pairing_defs.specs.declared.PairText.{PairText}
use Rattle.pairing_defs.specs.declared.BracketText.{BracketText}
use Rattle.pairing_defs.specs.declared.TheConstants.{MOST_KINDS, MOST_BRACKET_CHARS}

-- `{` `}`, `[` `]` and `(` `)`
abbrev pub usual_pairs : List PairText
usual_pairs = record { opener = codes "{"; closer = codes "}" } ∷ record { opener = codes "["; closer = codes "]" }
    ∷ record { opener = codes "("; closer = codes ")" } ∷ []

abbrev pub is_among : List ℕ → List (List ℕ) → Bool
is_among text texts = list_any (bytes_eq text) texts

abbrev pub openers_of : List PairText → List (List ℕ)
openers_of pairs = map (λ p. p.opener) pairs

abbrev pub closers_of : List PairText → List (List ℕ)
closers_of pairs = map (λ p. p.closer) pairs

-- ---- the pairs that are kept

-- whether a text opens, or closes, one of these pairs
abbrev pub opens_one : List PairText → List ℕ → Bool
opens_one pairs text = list_any (λ p. bytes_eq text p.opener) pairs

abbrev pub closes_one : List PairText → List ℕ → Bool
closes_one pairs text = list_any (λ p. bytes_eq text p.closer) pairs

-- A pair is dropped where a text is empty, where both are equal, and where its opener closes, or its closer opens, a
-- pair that is kept before it.
abbrev pub is_dropped : List PairText → PairText → Bool
is_dropped kept p = (length p.opener == 0) || ((length p.closer == 0) || (bytes_eq p.opener p.closer
    || (closes_one kept p.opener || opens_one kept p.closer)))

-- those that are kept behind others that are
abbrev pub kept_behind : List PairText → List PairText → List PairText
kept_behind kept [] = []
kept_behind kept (p ∷ ps) =
    if is_dropped kept p then kept_behind kept ps else p ∷ kept_behind (kept ++ p ∷ []) ps

abbrev pub kept_pairs : List PairText → List PairText
kept_pairs pairs = kept_behind [] pairs

-- ---- kinds

-- the texts that aren't among others, each once and where it comes first
abbrev pub new_behind : List (List ℕ) → List (List ℕ) → List (List ℕ)
new_behind others [] = []
new_behind others (t ∷ ts) = if is_among t others then new_behind others ts else t ∷ new_behind (others ++ t ∷ []) ts

-- each text once
abbrev pub once : List (List ℕ) → List (List ℕ)
once texts = new_behind [] texts

-- A kind is the text of an opener, and its number is the place where it stands here: by where it comes first.
abbrev pub kinds_of : List PairText → List (List ℕ)
kinds_of kept = once (openers_of kept)

-- whether two texts are a pair
abbrev pub are_paired : List PairText → List ℕ → List ℕ → Bool
are_paired kept opener closer = list_any (λ p. bytes_eq p.opener opener && bytes_eq p.closer closer) kept

-- the number whose bits are these, the lowest first
abbrev pub number_of : List Bool → ℕ
number_of [] = 0
number_of (bit ∷ bits) = (if bit then 1 else 0) + 2 * number_of bits

-- a closer closes each kind with which it is a pair
abbrev pub closed_by : List PairText → List ℕ → Kinds
closed_by kept closer = record { bits = number_of (map (λ opener. are_paired kept opener closer) (kinds_of kept)) }

-- ---- brackets

abbrev pub openers_from : ℕ → List (List ℕ) → List BracketText
openers_from kind [] = []
openers_from kind (t ∷ ts) = record { text = chars t; role = Opener kind } ∷ openers_from (kind + 1) ts

abbrev pub closer_text : List PairText → List ℕ → BracketText
closer_text kept t = record { text = chars t; role = Closer (closed_by kept t) }

-- the openers by their kinds, and the closers by where they come first
abbrev pub texts_of : List PairText → List BracketText
texts_of kept = openers_from 0 (kinds_of kept) ++ map (closer_text kept) (once (closers_of kept))

-- how many texts open or close, whichever is more
abbrev pub kind_count : List PairText → ℕ
kind_count kept = max (length (kinds_of kept)) (length (once (closers_of kept)))

-- how many characters the longer text of a pair has
abbrev pub longer_length : PairText → ℕ
longer_length p = max (length (chars p.opener)) (length (chars p.closer))

-- a pair with a text that is too long: its number, and how many characters its longer text has
pub record LongPair : Type 0 where
  pub index : ℕ
  pub count : ℕ

-- the first of them, of the pairs from number n on
abbrev pub first_long : ℕ → List PairText → Option LongPair
first_long n [] = None
first_long n (p ∷ ps) = if nat_lt MOST_BRACKET_CHARS (longer_length p)
    then Some (record { index = n; count = longer_length p }) else first_long (n + 1) ps

-- What pairs stand for: brackets, or the first of these causes why there are none.
pub data BracketsOfPairs : Type 0 where
  too_many_kinds : ℕ → BracketsOfPairs
  too_long : LongPair → BracketsOfPairs
  brackets : List BracketText → BracketsOfPairs

abbrev pub unless_long : Option LongPair → List PairText → BracketsOfPairs
unless_long None kept = brackets (texts_of kept)
unless_long (Some long) kept = too_long long

abbrev pub within_limits : List PairText → BracketsOfPairs
within_limits kept =
    if nat_lt MOST_KINDS (kind_count kept) then too_many_kinds (kind_count kept) else unless_long (first_long 0 kept) kept

abbrev pub brackets_of : List PairText → BracketsOfPairs
brackets_of pairs = within_limits (kept_pairs pairs)
