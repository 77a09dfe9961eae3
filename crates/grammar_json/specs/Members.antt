-- What one function reads of the members of an object.
use Rattle.std.specs.Prelude.{◌≡◌, ℕ, List, [], ◌++◌, codes, Option, Result, MatchResult, ⊤, if◌then◌else◌}
use Rattle.serde_json.specs.Data.{Data, Members}
use Rattle.grammar_defs.specs.FileRules.{FileList, nothing}
use Rattle.grammar_defs.specs.Pointers.{Pointer, all_below}
use Rattle.grammar_defs.specs.RuleShape.{members_of, captures_in, captures_wide, capture_of, is_capture_key}
use Rattle.grammar_defs.specs.RuleFaults.{texts_faults, captures_faults_at, finish_last_faults, patterns_faults_at}
use Rattle.grammar_defs.specs.RuleFaults.{wide_faults, capture_faults}
use Rattle.grammar_json.specs.FileViews.{if_there, captures_then, capture_if_there}
use Rattle.grammar_json.specs.declared.fault.Fault.{Fault}
use Rattle.grammar_json.specs.declared.fault.Fault.TheVariants.{Memory}
use Rattle.grammar_json.specs.declared.file_rules.Capture.{Capture}
use Rattle.grammar_json.specs.declared.rules.CaptureLists.{CaptureLists}

-- the faults of a rule's four objects of captures
abbrev pub capture_lists_faults : Data → List Pointer
capture_lists_faults d = captures_faults_at (codes "captures") (members_of d)
    ++ (captures_faults_at (codes "beginCaptures") (members_of d)
    ++ (captures_faults_at (codes "endCaptures") (members_of d) ++ captures_faults_at (codes "whileCaptures")
    (members_of d)))

-- these are a rule's captures
pub record IsCaptureLists (l : CaptureLists) (d : Data) : Type 0 where
  pub plain : if_there l.captures ≡ captures_in (codes "captures") (members_of d)
  pub of_begin : if_there l.begin_captures ≡ captures_in (codes "beginCaptures") (members_of d)
  pub of_end : if_there l.end_captures ≡ captures_in (codes "endCaptures") (members_of d)
  pub of_while : if_there l.while_captures ≡ captures_in (codes "whileCaptures") (members_of d)

-- the faults of a rule that is an object
abbrev pub member_faults_of : Data → List Pointer
member_faults_of d = texts_faults d ++ (capture_lists_faults d
    ++ (finish_last_faults d ++ patterns_faults_at (members_of d)))

-- the captures of an object
abbrev pub every_capture : Members → FileList
every_capture ms = captures_wide 1 ms (captures_wide 2 ms
    (captures_wide 3 ms (captures_wide 4 ms (captures_wide 5 ms nothing))))

abbrev pub every_capture_fault : Members → List Pointer
every_capture_fault ms = wide_faults 1 ms
    ++ (wide_faults 2 ms ++ (wide_faults 3 ms ++ (wide_faults 4 ms ++ wide_faults 5 ms)))

-- a member in front of the captures whose numbers have so many digits
abbrev pub member_capture : ℕ → List ℕ → Data → FileList → FileList
member_capture width key d others = if is_capture_key width key then capture_of key d others else others

abbrev pub member_faults : ℕ → List ℕ → Data → List Pointer
member_faults width key d = if is_capture_key width key then all_below key (capture_faults d) else []

-- the capture, where there is one, is added at the end; only memory may be wanting
abbrev pub Pushes : Result ⊤ Fault → List Capture → List Capture → Option Capture → Type 0
Pushes r old new found = MatchResult r (λ _. (others : FileList) → captures_then new others
    ≡ captures_then old (capture_if_there found others)) (λ e. e ≡ Memory)
