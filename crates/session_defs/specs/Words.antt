-- The command line. It is this project's own: the name of a text file and options, in any order. An option has its value
-- behind `=` in the same word, or in the next word; each comes at most once. Behind the word `--` all words are names. In
-- place of the name there may be `--make`: then the text is made, of so many lines.
use Rattle.std.specs.Prelude.{ℕ, ◌+◌, ◌-◌, ◌*◌, ◌==◌, ◌&&◌, ◌||◌, List, [], ◌∷◌, length, codes, fold, Bool, true, not}
use Rattle.std.specs.Prelude.{nat_lt, nat_le, if◌then◌else◌, Option, Some, None, option_and_then, option_map}
use Rattle.std.specs.List.{after_first, before_first, list_all, position_or_len}
use Rattle.std.specs.Str.{bytes_eq}
use Rattle.text_pos.specs.declared.limits.Limits.{Limits}
use Rattle.text_defs.specs.Text.{begins_with}
use Rattle.generator_defs.specs.declared.TheConstants.{MOST_GENERATED_LINES}
use Rattle.session_defs.specs.declared.limits.TheConstants.{MOST_DIGITS, LEAST_NESTING, MOST_NESTING, USUAL_NESTING}
use Rattle.session_defs.specs.declared.limits.TheConstants.{LEAST_BUDGET, MOST_BUDGET, USUAL_BUDGET}
use Rattle.session_defs.specs.declared.limits.TheConstants.{LEAST_LONG, MOST_LONG, USUAL_LONG}
use Rattle.session_defs.specs.declared.limits.TheConstants.{LEAST_TAB, WIDEST_TAB, USUAL_TAB}

-- ---- what the words say

-- whose brackets are asked for: those of a text file, by a script, or those of a text of so many lines that is made
pub data Subject : Type 0 where
  text_file : List ℕ → Subject
  generated : ℕ → Subject

-- the text, the names of the other files, and the limits
pub record Request : Type 0 where
  pub subject : Subject
  pub grammar : Option (List ℕ)
  pub brackets : Option (List ℕ)
  pub limits : Limits

-- the limits where no word says otherwise, but for nesting
abbrev pub limits_with : ℕ → Limits
limits_with nesting = record { nesting = nesting; budget = USUAL_BUDGET; long = USUAL_LONG; tab = USUAL_TAB }

-- a text alone, with the usual limits but for nesting
abbrev pub text_alone : List ℕ → ℕ → Request
text_alone name nesting = record { subject = text_file name; grammar = None; brackets = None; limits = limits_with nesting }

-- ---- single words

-- a word that is `-`, or begins with no `-`
abbrev pub is_plain : List ℕ → Bool
is_plain word = bytes_eq word (codes "-") || not (begins_with 45 word)

abbrev pub is_equals : ℕ → Bool
is_equals c = c == 61

-- what stands before and behind the first `=` of a word, where it has one
abbrev pub parted : List ℕ → Option (List ℕ × List ℕ)
parted word = if nat_lt (position_or_len is_equals word) (length word)
    then Some (before_first is_equals word, after_first is_equals word) else None

abbrev pub is_digit : ℕ → Bool
is_digit c = nat_le 48 c && nat_le c 57

-- one to ten ASCII digits
abbrev pub is_number : List ℕ → Bool
is_number word = nat_lt 0 (length word) && (nat_le (length word) MOST_DIGITS && list_all is_digit word)

abbrev pub value_of : List ℕ → ℕ
value_of word = fold (λ n c. 10 * n + (c - 48)) 0 word

-- a number from `least` to `most`
abbrev pub is_within : ℕ → ℕ → List ℕ → Bool
is_within least most word = is_number word && (nat_le least (value_of word) && nat_le (value_of word) most)

-- ---- names and options

-- the name of the text and the values of the options, as far as they are there
pub record Options : Type 0 where
  pub text : Option (List ℕ)
  pub grammar : Option (List ℕ)
  pub brackets : Option (List ℕ)
  pub nesting : Option (List ℕ)
  pub steps : Option (List ℕ)
  pub long : Option (List ℕ)
  pub tab : Option (List ℕ)
  pub make : Option (List ℕ)

abbrev pub no_options : Options
no_options = record {
  text = None;
  grammar = None;
  brackets = None;
  nesting = None;
  steps = None;
  long = None;
  tab = None;
  make = None;
}

-- a value for what has none yet
abbrev pub once : Option (List ℕ) → List ℕ → Option (Option (List ℕ))
once None value = Some (Some value)
once (Some earlier) value = None

abbrev pub with_text : Options → List ℕ → Option Options
with_text given word = option_map (λ v. record given { text = v }) (once given.text word)

-- the options with one more
abbrev pub with_option : Options → (option : List ℕ) → (value : List ℕ) → Option Options
with_option given option value =
    if bytes_eq option (codes "--grammar") then option_map (λ v. record given { grammar = v }) (once given.grammar value)
    else (if bytes_eq option (codes "--brackets") then option_map (λ v. record given { brackets = v }) (once given.brackets value)
    else (if bytes_eq option (codes "--nesting") then option_map (λ v. record given { nesting = v }) (once given.nesting value)
    else (if bytes_eq option (codes "--steps") then option_map (λ v. record given { steps = v }) (once given.steps value)
    else (if bytes_eq option (codes "--long") then option_map (λ v. record given { long = v }) (once given.long value)
    else (if bytes_eq option (codes "--tab") then option_map (λ v. record given { tab = v }) (once given.tab value)
    else (if bytes_eq option (codes "--make") then option_map (λ v. record given { make = v }) (once given.make value)
    else None))))))

-- ---- words, one after the other

-- behind `--` all words are plain
abbrev pub plain_words : Options → List (List ℕ) → Option Options
plain_words given [] = Some given
plain_words given (word ∷ words) = option_and_then (λ g. plain_words g words) (with_text given word)

-- An option of which this word is the first: with its value behind `=`, or with the next word, which is a plain one. What
-- stands behind is told for either.
abbrev pub with_value : Options → (word next : List ℕ) → Option (List ℕ × List ℕ) → (with_next : Options → Option Options)
    → (behind : Options → Option Options) → Option Options
with_value given word next (Some parts) with_next behind = option_and_then with_next (with_option given parts.0 parts.1)
with_value given word next None with_next behind =
    if is_plain next then option_and_then behind (with_option given word next) else None

-- the same of the last word
abbrev pub with_value_at_last : Options → Option (List ℕ × List ℕ) → Option Options
with_value_at_last given None = None
with_value_at_last given (Some parts) = with_option given parts.0 parts.1

-- what words say
abbrev pub said : Options → List (List ℕ) → Option Options
said given [] = Some given
said given (word ∷ []) =
    if bytes_eq word (codes "--") then Some given
    else (if is_plain word then with_text given word else with_value_at_last given (parted word))
said given (word ∷ next ∷ words) =
    if bytes_eq word (codes "--") then plain_words given (next ∷ words)
    else (if is_plain word then option_and_then (λ g. said g (next ∷ words)) (with_text given word)
    else with_value given word next (parted word) (λ g. said g (next ∷ words)) (λ g. said g words))

-- ---- values

-- no name is empty
abbrev pub is_name_or_none : Option (List ℕ) → Bool
is_name_or_none None = true
is_name_or_none (Some word) = nat_lt 0 (length word)

-- a number from `least` to `most`, or where it isn't there the usual one
abbrev pub number_or : (usual : ℕ) → (least : ℕ) → (most : ℕ) → Option (List ℕ) → Option ℕ
number_or usual least most None = Some usual
number_or usual least most (Some word) = if is_within least most word then Some (value_of word) else None

-- the limits of these options, where each value is a number in its range
abbrev pub limits_in : Options → Option Limits
limits_in given =
    option_and_then (λ nesting. option_and_then (λ budget. option_and_then (λ long. option_map (λ tab.
    record { nesting = nesting; budget = budget; long = long; tab = tab })
    (number_or USUAL_TAB LEAST_TAB WIDEST_TAB given.tab))
    (number_or USUAL_LONG LEAST_LONG MOST_LONG given.long))
    (number_or USUAL_BUDGET LEAST_BUDGET MOST_BUDGET given.steps))
    (number_or USUAL_NESTING LEAST_NESTING MOST_NESTING given.nesting)

-- a text of so many lines that is made
abbrev pub made_of : (lines : List ℕ) → Option Subject
made_of lines = if is_within 1 MOST_GENERATED_LINES lines then Some (generated (value_of lines)) else None

-- the text of a file, or one that is made, of so many lines; a file that is named beside these is named in vain
abbrev pub subject_of : (name : Option (List ℕ)) → (lines : Option (List ℕ)) → Option Subject
subject_of None None = None
subject_of None (Some lines) = made_of lines
subject_of (Some name) None = if nat_lt 0 (length name) then Some (text_file name) else None
subject_of (Some name) (Some lines) = if nat_lt 0 (length name) then made_of lines else None

-- what the options ask for, of this text
abbrev pub request_with : Subject → Options → Option Request
request_with subject given =
    if is_name_or_none given.grammar && is_name_or_none given.brackets
    then option_map (λ limits. record { subject = subject; grammar = given.grammar; brackets = given.brackets; limits = limits })
    (limits_in given) else None

abbrev pub asked_for : Options → Option Request
asked_for given = option_and_then (λ subject. request_with subject given) (subject_of given.text given.make)

-- what the words ask for, of which the first is the program's name; None where they are no command line
abbrev pub request_of : List (List ℕ) → Option Request
request_of [] = None
request_of (program ∷ words) = option_and_then asked_for (said no_options words)
