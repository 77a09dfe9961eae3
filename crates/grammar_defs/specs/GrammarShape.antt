-- A grammar file: its rules, or why it is none. The keys are those of TextMate grammars; the order of the walk, and the
-- limit, are this project's own.
use Rattle.std.specs.Prelude.{ℕ, min, ◌^◌, ◌-◌, ◌++◌, ◌+◌, List, [], ◌∷◌, ◌++◌, codes, nat_lt, false, Option, Some}
use Rattle.std.specs.Prelude.{None, unwrap_or, sum_by, if◌then◌else◌}
use Rattle.serde_json.specs.Data.{Data, null, object, Members, no_members, member}
use Rattle.serde_json.specs.Find.{get}
use Rattle.serde_json.specs.Read.{read}
use Rattle.text_defs.specs.Text.{is_utf8}
use Rattle.grammar_defs.specs.FileRules.{FileList, absent, nothing, include, rule, capture, FileRule, NamedRule}
use Rattle.grammar_defs.specs.FileRules.{Grammar}
use Rattle.grammar_defs.specs.declared.limits.TheConstants.{MOST_RULES}
use Rattle.grammar_defs.specs.Loosening.{loosened}
use Rattle.grammar_defs.specs.Pointers.{Pointer, itself, all_below}
use Rattle.grammar_defs.specs.RuleShape.{members_of, filled_at, rule_in, patterns_in}
use Rattle.grammar_defs.specs.RuleFaults.{rule_faults, patterns_faults_at}

-- the rules of `repository` or of `injections`, by their names; `null` counts as missing
abbrev pub named_member : List ℕ → Data → List NamedRule
named_member k (object ms) = record { key = k; rule = rule_in (object ms) } ∷ []
named_member k _ = []

abbrev pub named_of : Members → List NamedRule
named_of no_members = []
named_of (member k d others) = named_member k d ++ named_of others

abbrev pub named_in : Option Data → List NamedRule
named_in (Some (object ms)) = named_of ms
named_in _ = []

abbrev pub named_member_faults : List ℕ → Data → List Pointer
named_member_faults k null = []
named_member_faults k d = all_below k (rule_faults false d)

abbrev pub nameds_faults : Members → List Pointer
nameds_faults no_members = []
nameds_faults (member k d others) = named_member_faults k d ++ nameds_faults others

abbrev pub named_faults : Option Data → List Pointer
named_faults None = []
named_faults (Some null) = []
named_faults (Some (object ms)) = nameds_faults ms
named_faults (Some _) = itself

abbrev pub named_faults_at : List ℕ → Data → List Pointer
named_faults_at key d = all_below key (named_faults (get key d))

-- `scopeName` is a string that isn't empty
abbrev pub scope_faults : Option (List ℕ) → List Pointer
scope_faults None = codes "/scopeName" ∷ []
scope_faults (Some name) = []

abbrev pub object_faults : Data → List Pointer
object_faults d = scope_faults (filled_at (codes "scopeName") d)
    ++ (patterns_faults_at (members_of d) ++ (named_faults_at (codes "repository") d
    ++ (named_faults_at (codes "injections") d)))

abbrev pub grammar_faults : Data → List Pointer
grammar_faults (object ms) = object_faults (object ms)
grammar_faults _ = itself

-- a list that isn't there is an empty one
abbrev pub or_nothing : FileList → FileList
or_nothing absent = nothing
or_nothing list = list

abbrev pub grammar_of : Data → Grammar
grammar_of d = record {
  scope = unwrap_or (filled_at (codes "scopeName") d) [];
  patterns = or_nothing (patterns_in (members_of d));
  repository = named_in (get (codes "repository") d);
  injections = named_in (get (codes "injections") d);
}

-- how many rules have numbers: rules, and captures that have rules of their own
abbrev pub own_rule : FileList → ℕ
own_rule absent = 0
own_rule list = 1

abbrev pub rules_of_list : FileList → ℕ
rules_of_list absent = 0
rules_of_list nothing = 0
rules_of_list (include name others) = rules_of_list others
rules_of_list (rule texts captures begin_captures end_captures while_captures finish_last patterns others) =
    1 + (rules_of_list captures + rules_of_list begin_captures + rules_of_list end_captures + rules_of_list
    while_captures + rules_of_list patterns)
    + rules_of_list others
rules_of_list (capture n name content patterns others) =
    own_rule patterns + rules_of_list patterns + rules_of_list others

-- those of a capture with these rules
abbrev pub capture_rules : FileList → ℕ
capture_rules patterns = own_rule patterns + rules_of_list patterns

abbrev pub rules_of_rule : FileRule → ℕ
rules_of_rule r = 1 + (rules_of_list r.captures + rules_of_list r.begin_captures + rules_of_list r.end_captures
    + rules_of_list r.while_captures + rules_of_list r.patterns)

abbrev pub rules_of_named : List NamedRule → ℕ
rules_of_named rules = sum_by (λ named. rules_of_rule named.rule) rules

-- all rules of a grammar, the top among them
abbrev pub rule_count : Grammar → ℕ
rule_count g = 1 + rules_of_list g.patterns + rules_of_named g.repository + rules_of_named g.injections

abbrev pub most_rules : ℕ
most_rules = MOST_RULES

-- the JSON value of bytes
abbrev pub json_of : List ℕ → Option Data
json_of bytes = if is_utf8 bytes then read bytes else None

-- the same of a file that may have comments and trailing commas
abbrev pub json_of_file : List ℕ → Option Data
json_of_file bytes = json_of (loosened bytes)

-- What a file is: a grammar, or the first of these that it isn't: JSON, all values of the right kind, not too many
-- rules.
-- Rules are counted as far as 64 bits go.
pub data GrammarReading : Type 0 where
  no_json : GrammarReading
  wrong_kind : Pointer → GrammarReading
  too_many_rules : ℕ → GrammarReading
  grammar : Grammar → GrammarReading

abbrev pub within_limit : Grammar → GrammarReading
within_limit g = if nat_lt most_rules (rule_count g) then too_many_rules (min (rule_count g) (2 ^ 64 - 1)) else
    grammar g

abbrev pub reading_unless : List Pointer → Data → GrammarReading
reading_unless [] d = within_limit (grammar_of d)
reading_unless (pointer ∷ pointers) d = wrong_kind pointer

abbrev pub reading_of_data : Option Data → GrammarReading
reading_of_data None = no_json
reading_of_data (Some d) = reading_unless (grammar_faults d) d

abbrev pub read_file : List ℕ → GrammarReading
read_file bytes = reading_of_data (json_of_file bytes)
