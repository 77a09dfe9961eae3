-- What words say, one after the other.
use Rattle.std.proofs.Common.{◌≡◌, ◌≤◌, List, [], ◌∷◌, length, drop, sym, ap, subst, ◌∙◌, arith}
use Rattle.std.proofs.Common.{Bool, true, false, ◌&&◌, refl}
use Rattle.std.specs.Prelude.{ℕ, Option, Some, None, option_and_then, option_map, nat_le, nat_lt}
use Rattle.std.specs.Prelude.{if◌then◌else◌, IfSome}
use Rattle.std.proofs.lemmas.Bool.Decides.{nat_tests}
use Rattle.text_pos.specs.declared.limits.Limits.{Limits}
use Rattle.session_defs.specs.declared.limits.TheConstants.{USUAL_NESTING, LEAST_NESTING, MOST_NESTING}
use Rattle.session_defs.specs.declared.limits.TheConstants.{USUAL_BUDGET, LEAST_BUDGET, MOST_BUDGET}
use Rattle.session_defs.specs.declared.limits.TheConstants.{USUAL_LONG, LEAST_LONG, MOST_LONG}
use Rattle.session_defs.specs.declared.limits.TheConstants.{USUAL_TAB, LEAST_TAB, WIDEST_TAB}
use Rattle.session_defs.specs.Words.{Subject, Request, Options, no_options, asked_for, request_of, request_with}
use Rattle.session_defs.specs.Words.{text_file, generated, made_of, subject_of}
use Rattle.generator_defs.specs.declared.TheConstants.{MOST_GENERATED_LINES}
use Rattle.command_line.specs.Subjects.{IsInRange}
use Rattle.session_defs.specs.Words.{is_name_or_none, is_number, is_within, limits_in, number_or, value_of}
use Rattle.session_defs.specs.Words.{said}

-- ---- the columns of a tab

bounds_if : (least most value : ℕ) (is : Bool) → (is ≡ true → (least ≤ value) × (value ≤ most)) → (n : ℕ)
    → (if is then Some value else None) ≡ Some n → (least ≤ n) × (n ≤ most)
bounds_if least most value true h n e =
    let same : value ≡ n = cc in subst (λ n. (least ≤ n) × (n ≤ most)) same (h refl)
bounds_if least most value false h n e = cc

within_bounds : (least most value : ℕ) (digits : Bool)
    → (digits && (nat_le least value && nat_le value most)) ≡ true → (least ≤ value) × (value ≤ most)
within_bounds least most value true h = (grind (arith, nat_tests), grind (arith, nat_tests))
within_bounds least most value false h = cc

number_bounds : (usual least most : ℕ) → least ≤ usual → usual ≤ most → (word : Option (List ℕ)) (n : ℕ)
    → number_or usual least most word ≡ Some n → (least ≤ n) × (n ≤ most)
number_bounds usual least most h k None n e =
    let same : usual ≡ n = cc in subst (λ n. (least ≤ n) × (n ≤ most)) same (h, k)
number_bounds usual least most h k (Some word) n e =
    bounds_if least most (value_of word) (is_within least most word)
    (within_bounds least most (value_of word) (is_number word)) n e

abbrev all_four : Option ℕ → Option ℕ → Option ℕ → Option ℕ → Option Limits
all_four n b l t =
    option_and_then (λ nesting. option_and_then (λ budget. option_and_then (λ long. option_map (λ tab.
    record { nesting = nesting; budget = budget; long = long; tab = tab }) t) l) b) n

tab_of_four : (n b l t : Option ℕ) (limits : Limits) → all_four n b l t ≡ Some limits → t ≡ Some limits.tab
tab_of_four None b l t limits e = cc
tab_of_four (Some n) None l t limits e = cc
tab_of_four (Some n) (Some b) None t limits e = cc
tab_of_four (Some n) (Some b) (Some l) None limits e = cc
tab_of_four (Some n) (Some b) (Some l) (Some t) limits e = ap (option_map (λ (l : Limits). l.tab)) e

limits_tab : (given : Options) (limits : Limits) → limits_in given ≡ Some limits
    → (LEAST_TAB ≤ limits.tab) × (limits.tab ≤ WIDEST_TAB)
limits_tab given limits e =
    number_bounds USUAL_TAB LEAST_TAB WIDEST_TAB (omega arith) (omega arith) given.tab limits.tab
    (tab_of_four (number_or USUAL_NESTING LEAST_NESTING MOST_NESTING given.nesting)
    (number_or USUAL_BUDGET LEAST_BUDGET MOST_BUDGET given.steps)
    (number_or USUAL_LONG LEAST_LONG MOST_LONG given.long)
    (number_or USUAL_TAB LEAST_TAB WIDEST_TAB given.tab) limits e)

abbrev request_by : Subject → Options → Bool → Option Limits → Option Request
request_by subject given fits limits =
    if fits then option_map (λ limits. record { subject = subject; grammar = given.grammar; brackets = given.brackets; limits = limits }) limits
    else None

limits_of_request : (subject : Subject) (given : Options) (fits : Bool) (limits : Option Limits) (r : Request)
    → request_by subject given fits limits ≡ Some r → limits ≡ Some r.limits
limits_of_request subject given false limits r e = cc
limits_of_request subject given true None r e = cc
limits_of_request subject given true (Some limits) r e = ap (option_map (λ (r : Request). r.limits)) e

with_subject : (subject : Option Subject) (given : Options) (r : Request)
    → option_and_then (λ subject. request_with subject given) subject ≡ Some r
    → (LEAST_TAB ≤ r.limits.tab) × (r.limits.tab ≤ WIDEST_TAB)
with_subject None given r e = cc
with_subject (Some subject) given r e =
    limits_tab given r.limits (limits_of_request subject given
    (is_name_or_none given.grammar && is_name_or_none given.brackets) (limits_in given) r e)

behind_options : (given : Option Options) (r : Request) → option_and_then asked_for given ≡ Some r
    → (LEAST_TAB ≤ r.limits.tab) × (r.limits.tab ≤ WIDEST_TAB)
behind_options None r e = cc
behind_options (Some given) r e = with_subject (subject_of given.text given.make) given r e

-- a tab has as many columns as it may have
pub request_tab : (words : List (List ℕ)) (r : Request) → request_of words ≡ Some r
    → (LEAST_TAB ≤ r.limits.tab) × (r.limits.tab ≤ WIDEST_TAB)
request_tab [] r e = cc
request_tab (program ∷ words) r e = behind_options (said no_options words) r e

-- a text that is made has at least one line, and no more than it may have
made_in_range : (lines : List ℕ) (subject : Subject) → made_of lines ≡ Some subject → IsInRange subject
made_in_range lines subject e =
    by_number (is_within 1 MOST_GENERATED_LINES lines)
    (within_bounds 1 MOST_GENERATED_LINES (value_of lines) (is_number lines)) subject e
  where
    by_number : (is : Bool) → (is ≡ true → (1 ≤ value_of lines) × (value_of lines ≤ MOST_GENERATED_LINES))
        → (subject : Subject) → (if is then Some (generated (value_of lines)) else None) ≡ Some subject
        → IsInRange subject
    by_number false h subject e = cc
    by_number true h subject e =
        let same : generated (value_of lines) ≡ subject = cc in subst IsInRange same (h refl)

in_range : (name lines : Option (List ℕ)) (subject : Subject) → subject_of name lines ≡ Some subject
    → IsInRange subject
in_range None None subject e = cc
in_range (Some name) None subject e = named_in_range (nat_lt 0 (length name)) subject e
  where
    named_in_range : (is : Bool) (subject : Subject)
        → (if is then Some (text_file name) else None) ≡ Some subject → IsInRange subject
    named_in_range false subject e = cc
    named_in_range true subject e = let same : text_file name ≡ subject = cc in subst IsInRange same tt
in_range None (Some lines) subject e = made_in_range lines subject e
in_range (Some name) (Some lines) subject e = beside_in_range (nat_lt 0 (length name)) e
  where
    beside_in_range : (is : Bool) → (if is then made_of lines else None) ≡ Some subject → IsInRange subject
    beside_in_range false e = cc
    beside_in_range true e = made_in_range lines subject e

subject_of_request : (subject : Subject) (given : Options) (fits : Bool) (limits : Option Limits) (r : Request)
    → request_by subject given fits limits ≡ Some r → Some subject ≡ Some r.subject
subject_of_request subject given false limits r e = cc
subject_of_request subject given true None r e = cc
subject_of_request subject given true (Some limits) r e = ap (option_map (λ (r : Request). r.subject)) e

with_range : (name lines : Option (List ℕ)) (given : Options) (subject : Option Subject) (r : Request)
    → subject_of name lines ≡ subject → option_and_then (λ subject. request_with subject given) subject ≡ Some r
    → IsInRange r.subject
with_range name lines given None r s e = cc
with_range name lines given (Some subject) r s e =
    in_range name lines r.subject (s ∙ subject_of_request subject given
    (is_name_or_none given.grammar && is_name_or_none given.brackets) (limits_in given) r e)

range_behind_options : (given : Option Options) (r : Request) → option_and_then asked_for given ≡ Some r
    → IsInRange r.subject
range_behind_options None r e = cc
range_behind_options (Some given) r e =
    with_range given.text given.make given (subject_of given.text given.make) r refl e

pub request_range : (words : List (List ℕ)) (r : Request) → request_of words ≡ Some r → IsInRange r.subject
request_range [] r e = cc
request_range (program ∷ words) r e = range_behind_options (said no_options words) r e

-- what holds of a request that words ask for
pub if_some : (words : List (List ℕ)) (asked : Option Request) (P : Request → Type 0)
    → ((r : Request) → request_of words ≡ Some r → P r) → asked ≡ request_of words → IfSome asked P
if_some words None P h e = tt
if_some words (Some r) P h e = h r (sym e)

-- the words behind the program's name say it
pub request_said : (words : List (List ℕ)) → request_of words ≡ option_and_then asked_for (said no_options (drop 1 words))
request_said [] = refl
request_said (program ∷ words) = refl
