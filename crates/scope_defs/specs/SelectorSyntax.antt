-- Which text is a selector, and which entries it has. It is read sign by sign; a row for each sign says what it does
-- to what was read before it. The syntax is that of vscode-textmate's matcher; that everything else is refused, the
-- places of refusals and the limit on nesting are this project's own.
use Rattle.std.specs.Prelude.{ℕ, zero, suc, ◌+◌, nat_lt, nat_eq, ◌==◌, List, [], ◌∷◌, ◌++◌, codes, length, sum_by}
use Rattle.std.specs.Prelude.{Bool, true, false, ◌&&◌, ◌||◌, if◌then◌else◌, Option, Some, None, unwrap_or, slice_get}
use Rattle.std.specs.Prelude.{Result, Ok, Err, ℤ, pos, negsuc}
use Rattle.std.specs.Result.{result_unwrap_or}
use Rattle.scope_defs.specs.declared.limits.TheConstants.{MOST_NESTED}
use Rattle.scope_defs.specs.Scopes.{Name}
use Rattle.scope_defs.specs.StandardType.{is_word_char}
use Rattle.scope_defs.specs.Selectors.{Matcher, Path, Not, Both, Either, Entry}

-- What is read of an entry, or of the inside of parentheses: the alternatives before the one that is read, the operands
-- of that one, which must all hold, and the minus signs behind them.
pub record Level : Type 0 where
  pub either : Option Matcher
  pub both : Option Matcher
  pub minuses : ℕ

-- what stands directly before a place of a text
pub data Stand : Type 0 where
  -- the start of an entry, and spaces
  Start : Stand
  -- a sign behind which an operand must come, and spaces
  Wanting : Stand
  -- a name, behind names of its path; it may begin its entry
  Naming : (names : List Name) (name : Name) (begins : Bool) → Stand
  -- the names of a path, and spaces
  Spaced : (names : List Name) → Stand
  -- a parenthesis that closes, and spaces; what stands inside it
  Closed : (inside : Matcher) → Stand

-- what is read: the entries before the one at hand, its priority, the levels that are open around the innermost from
-- the
-- inside out, the innermost, and what stands before the place
pub record Reading : Type 0 where
  pub entries : List Entry
  pub priority : ℤ
  pub around : List Level
  pub level : Level
  pub stand : Stand

abbrev pub empty_level : Level
empty_level = record { either = None; both = None; minuses = 0 }

-- nothing is read
abbrev pub nothing : Reading
nothing = record { entries = []; priority = pos 0; around = []; level = empty_level; stand = Start }

-- operands and alternatives

abbrev pub negated : ℕ → Matcher → Matcher
negated zero matcher = matcher
negated (suc minuses) matcher = negated minuses (Not matcher)

abbrev pub and_also : Option Matcher → Matcher → Matcher
and_also None matcher = matcher
and_also (Some before) matcher = Both before matcher

abbrev pub or_also : Option Matcher → Matcher → Matcher
or_also None matcher = matcher
or_also (Some before) matcher = Either before matcher

-- the operand that ends where something stands, if one does
abbrev pub operand_of : Stand → Option Matcher
operand_of Start = None
operand_of Wanting = None
operand_of (Naming names name begins) = Some (Path (names ++ name ∷ []))
operand_of (Spaced names) = Some (Path names)
operand_of (Closed inside) = Some inside

-- the operands of a level with one more, behind its minus signs
abbrev pub all_of : Level → Matcher → Matcher
all_of level operand = and_also level.both (negated level.minuses operand)

-- what a level stands for whose last operand that is
abbrev pub whole : Level → Matcher → Matcher
whole level operand = or_also level.either (all_of level operand)

-- a level behind an operand
abbrev pub with_operand : Option Matcher → Level → Level
with_operand None level = level
with_operand (Some operand) level = record level { both = Some (all_of level operand); minuses = 0 }

-- the level at hand, with the operand that ends there
abbrev pub ended : Reading → Level
ended r = with_operand (operand_of r.stand) r.level

-- a level behind a sign that parts alternatives
abbrev pub next_alternative : Matcher → Level
next_alternative before = record { either = Some before; both = None; minuses = 0 }

-- an entry behind those before it
abbrev pub with_entry : Reading → Matcher → List Entry
with_entry r operand = r.entries ++ record { priority = r.priority; matcher = whole r.level operand } ∷ []

-- signs

pub data Sign : Type 0 where
  Space : Sign
  Letter : Sign
  Minus : Sign
  Opens : Sign
  Closes : Sign
  Bar : Sign
  Comma : Sign
  Other : Sign

-- a name begins with an ASCII letter, an ASCII digit, `_`, `.` or `:`
abbrev pub begins_name : ℕ → Bool
begins_name c = is_word_char c || ((c == 46) || (c == 58))

abbrev pub sign_of : ℕ → Sign
sign_of c =
    if c == 32 then Space else
    if begins_name c then Letter else
    if c == 45 then Minus else
    if c == 40 then Opens else
    if c == 41 then Closes else
    if c == 124 then Bar else
    if c == 44 then Comma else Other

-- the rows: what is read behind a sign, where some selector has it there

abbrev pub stands : Stand → Reading → Option Reading
stands stand r = Some (record r { stand = stand })

-- a space ends a name
abbrev pub on_space : Stand → Reading → Option Reading
on_space (Naming names name begins) r = stands (Spaced (names ++ name ∷ [])) r
on_space other r = Some r

-- a name is this one character
abbrev pub is_only : ℕ → Name → Bool
is_only letter [] = false
is_only letter (c ∷ []) = c == letter
is_only letter (c ∷ d ∷ cs) = false

-- a colon behind an `L` or an `R` that begins its entry sets the priority
abbrev pub priority_by : Bool → Name → ℕ → Option ℤ
priority_by begins name c =
    if begins && ((c == 58) && is_only 76 name) then Some (negsuc 0) else
    if begins && ((c == 58) && is_only 82 name) then Some (pos 1) else None

abbrev pub in_name : Option ℤ → List Name → Name → Bool → Reading → Option Reading
in_name None names name begins r = stands (Naming names name begins) r
in_name (Some priority) names name begins r = Some (record r { priority = priority; stand = Wanting })

-- a letter goes on with a name or begins one, which goes on with a path or begins one
abbrev pub on_letter : ℕ → Stand → Reading → Option Reading
on_letter c Start r = stands (Naming [] (c ∷ []) true) r
on_letter c Wanting r = stands (Naming [] (c ∷ []) false) r
on_letter c (Naming names name begins) r = in_name (priority_by begins name c) names (name ++ c ∷ []) begins r
on_letter c (Spaced names) r = stands (Naming names (c ∷ []) false) r
on_letter c (Closed inside) r = Some (record r { level = ended r; stand = Naming [] (c ∷ []) false })

-- the level at hand has one more minus sign
abbrev pub with_minus : Level → Level
with_minus level = record level { minuses = level.minuses + 1 }

abbrev pub begins_minus : Reading → Option Reading
begins_minus r = Some (record r { level = with_minus (ended r); stand = Wanting })

-- a minus goes on with a name, and else begins an operand
abbrev pub on_minus : Stand → Reading → Option Reading
on_minus (Naming names name begins) r = stands (Naming names (name ++ 45 ∷ []) begins) r
on_minus other r = begins_minus r

-- a parenthesis begins an operand
abbrev pub on_opening : Reading → Option Reading
on_opening r = Some (record r { around = ended r ∷ r.around; level = empty_level; stand = Wanting })

-- a parenthesis that closes ends an operand, and is one with what stands inside
abbrev pub on_closing : Option Matcher → List Level → Reading → Option Reading
on_closing (Some operand) (outer ∷ around) r =
    Some (record r { around = around; level = outer; stand = Closed (whole r.level operand) })
on_closing _ _ r = None

abbrev pub on_alternative : Matcher → Reading → Option Reading
on_alternative operand r = Some (record r { level = next_alternative (whole r.level operand); stand = Wanting })

-- a bar parts alternatives inside parentheses
abbrev pub on_bar : Option Matcher → List Level → Reading → Option Reading
on_bar (Some operand) (outer ∷ around) r = on_alternative operand r
on_bar _ _ r = None

abbrev pub on_entry : Matcher → Reading → Option Reading
on_entry operand r = Some (record nothing { entries = with_entry r operand })

-- a comma parts alternatives inside parentheses, and entries outside
abbrev pub on_comma : Option Matcher → List Level → Reading → Option Reading
on_comma None around r = None
on_comma (Some operand) [] r = on_entry operand r
on_comma (Some operand) (outer ∷ around) r = on_alternative operand r

abbrev pub on_sign : Sign → ℕ → Reading → Option Reading
on_sign Space c r = on_space r.stand r
on_sign Letter c r = on_letter c r.stand r
on_sign Minus c r = on_minus r.stand r
on_sign Opens c r = on_opening r
on_sign Closes c r = on_closing (operand_of r.stand) r.around r
on_sign Bar c r = on_bar (operand_of r.stand) r.around r
on_sign Comma c r = on_comma (operand_of r.stand) r.around r
on_sign Other c r = None

-- what is read behind a character, where some selector has it there
abbrev pub step : ℕ → Reading → Option Reading
step c r = on_sign (sign_of c) c r

-- nesting

-- whether an operand begins with a sign
abbrev pub begins_operand : Sign → Stand → Bool
begins_operand Letter (Naming names name begins) = false
begins_operand Letter (Spaced names) = false
begins_operand Letter other = true
begins_operand Minus (Naming names name begins) = false
begins_operand Minus other = true
begins_operand Opens stand = true
begins_operand _ stand = false

-- the parentheses and minus signs around an operand that begins
abbrev pub nesting : Reading → ℕ
nesting r = sum_by (λ (outer : Level). outer.minuses + 1) r.around + (ended r).minuses

-- an operand begins with a character in more than so many parentheses and minus signs
abbrev pub is_too_deep : ℕ → ℕ → Reading → Bool
is_too_deep limit c r = begins_operand (sign_of c) r.stand && nat_lt limit (nesting r)

-- the whole text

-- the entries where a text ends, or the place where something is wanting
abbrev pub at_end : Option Matcher → List Level → Reading → ℕ → Result (List Entry) ℕ
at_end (Some operand) [] r at = Ok (with_entry r operand)
at_end _ _ r at = Err at

abbrev pub on_step : Option Reading → ℕ → (Reading → ℕ → Result (List Entry) ℕ) → Result (List Entry) ℕ
on_step None at next = Err at
on_step (Some r) at next = next r (at + 1)

-- what is read of a text from a place on, behind what was read before it, at a limit on nesting
abbrev pub read_on : ℕ → List ℕ → Reading → ℕ → Result (List Entry) ℕ
read_on limit [] r at = at_end (operand_of r.stand) r.around r at
read_on limit (c ∷ cs) r at = if is_too_deep limit c r then Err at else on_step (step c r) at (read_on limit cs)

-- the entries of a selector at a limit on nesting, or the place of the first character that isn't one's
abbrev pub read_within : ℕ → List ℕ → Result (List Entry) ℕ
read_within limit text = read_on limit text nothing 0

-- the entries of a selector, or the place where it is refused
abbrev pub read_selector : List ℕ → Result (List Entry) ℕ
read_selector text = read_within MOST_NESTED text

abbrev pub entries_of : List ℕ → List Entry
entries_of text = result_unwrap_or (read_selector text) []

abbrev pub no_entry : Entry
no_entry = record { priority = pos 0; matcher = Path [] }

-- entry `n` of a selector, from 0
abbrev pub entry_at : List ℕ → ℕ → Entry
entry_at text n = unwrap_or (slice_get (entries_of text) n) no_entry
