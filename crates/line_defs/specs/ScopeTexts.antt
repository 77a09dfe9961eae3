-- Scope texts: the names that a text with the forms `$n`, `${n:/downcase}` and `${n:/upcase}` stands for. The forms are
-- those of vscode-textmate; that `$n` takes all digits, that the case forms change ASCII letters only, and that a form
-- whose capture isn't there stays as it is written are this project's own.
use Rattle.std.specs.Prelude.{ℕ, zero, suc, ◌+◌, ◌-◌, ◌*◌, ◌==◌, nat_le, nat_eq, List, [], ◌∷◌, ◌++◌, length}
use Rattle.std.specs.Prelude.{map, drop, fold, take_while, slice_range, codes, chars, encode_utf8_all, Bool, true, false}
use Rattle.std.specs.Prelude.{if◌then◌else◌, Option, Some, None}
use Rattle.std.specs.Char.{is_ascii_digit, to_ascii_lowercase, to_ascii_uppercase}
use Rattle.std.specs.List.{starts_with}
use Rattle.pattern_defs.specs.declared.outcomes.Place.{Place}
use Rattle.pattern_defs.specs.Attempt.{Captures, capture_of}
use Rattle.scope_defs.specs.Scopes.{Scopes, push}
use Rattle.line_defs.specs.declared.forms.Case.{Case}
use Rattle.line_defs.specs.declared.forms.Case.TheVariants.{AsIs, Lower, Upper}

-- ---- numbers in a text

abbrev pub digits_at : List ℕ → List ℕ
digits_at text = take_while is_ascii_digit text

abbrev pub number_of : List ℕ → ℕ
number_of digits = fold (λ n c. n * 10 + (c - 48)) 0 digits

-- ---- captured texts

abbrev pub text_of : List ℕ → Option Place → List ℕ
text_of text None = []
text_of text (Some taken) = slice_range text taken.from taken.to

-- the text of a capture, empty where it is unset or isn't there
abbrev pub captured : List ℕ → Captures → ℕ → List ℕ
captured text captures number = text_of text (capture_of captures number)

abbrev pub without_dots : List ℕ → List ℕ
without_dots [] = []
without_dots (c ∷ cs) = if c == 46 then without_dots cs else c ∷ cs

-- ---- forms

-- a form: its capture, its case, and how many characters it has behind its `$`
pub record Form : Type 0 where
  pub number : ℕ
  pub case : Case
  pub more : ℕ

abbrev pub in_case : Case → List ℕ → List ℕ
in_case AsIs text = text
in_case Lower text = map to_ascii_lowercase text
in_case Upper text = map to_ascii_uppercase text

-- `$n`, given its digits
abbrev pub short_form : List ℕ → Option Form
short_form [] = None
short_form (d ∷ ds) = Some (record { number = number_of (d ∷ ds); case = AsIs; more = length (d ∷ ds) })

-- what stands behind the number of a form that changes the case
abbrev pub downcase : List ℕ
downcase = codes ":/downcase}"

abbrev pub upcase : List ℕ
upcase = codes ":/upcase}"

-- `${n:/downcase}` and `${n:/upcase}`, given the digits, and whether what stands behind them is the one or the other
abbrev pub long_form : List ℕ → (lower upper : Bool) → Option Form
long_form [] lower upper = None
long_form (d ∷ ds) true upper = Some (record
    { number = number_of (d ∷ ds); case = Lower; more = 1 + length (d ∷ ds) + length downcase })
long_form (d ∷ ds) false true = Some (record
    { number = number_of (d ∷ ds); case = Upper; more = 1 + length (d ∷ ds) + length upcase })
long_form (d ∷ ds) false false = None

abbrev pub cased_form : (digits behind : List ℕ) → Option Form
cased_form digits behind = long_form digits (starts_with nat_eq behind downcase) (starts_with nat_eq behind upcase)

-- the form behind a `$`
abbrev pub form_behind : List ℕ → Option Form
form_behind [] = None
form_behind (c ∷ cs) = if c == 123 then cased_form (digits_at cs) (drop (length (digits_at cs)) cs) else short_form
    (digits_at (c ∷ cs))

abbrev pub form_at : ℕ → List ℕ → Option Form
form_at c cs = if c == 36 then form_behind cs else None

-- what a form stands for: a captured text without the dots at its front
abbrev pub form_text : (text : List ℕ) → Captures → Form → List ℕ
form_text text captures form = in_case form.case (without_dots (captured text captures form.number))

-- A form whose number is above the groups of the pattern stays as it is written. The last argument goes on with the text,
-- past so many characters.
abbrev pub by_form : List ℕ → Captures → Option Form → ℕ → (ℕ → List ℕ) → List ℕ
by_form text captures None c next = c ∷ next 0
by_form text captures (Some form) c next =
    if nat_le form.number (length captures - 1) then form_text text captures form ++ next form.more else c ∷ next 0

-- a scope text behind so many of its characters, with captured texts for its forms
abbrev pub filled_past : List ℕ → Captures → List ℕ → ℕ → List ℕ
filled_past text captures [] past = []
filled_past text captures (c ∷ cs) (suc past) = filled_past text captures cs past
filled_past text captures (c ∷ cs) zero = by_form text captures (form_at c cs) c (filled_past text captures cs)

abbrev pub filled : List ℕ → Captures → List ℕ → List ℕ
filled text captures name = filled_past text captures name 0

-- ---- pushing

-- scopes with the pieces of a scope text pushed, which may be missing; names are UTF-8 bytes
abbrev pub pushed : (text : List ℕ) → Captures → Scopes → (name : Option (List ℕ)) → Scopes
pushed text captures scopes None = scopes
pushed text captures scopes (Some name) = push scopes (encode_utf8_all (filled text captures (chars name)))
