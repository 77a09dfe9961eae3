-- Small grammars, and what their lines give, written short: patterns and scopes as texts.
use Prim.Native.String.{String}
use lib.Utf8.{encode}
use Rattle.std.specs.Str.{chars}
use Rattle.char_sets.specs.Named.{is_word}
use Rattle.line_defs.specs.Turns.{turns}
use Rattle.pattern_defs.specs.Attempt.{go_on}
use Rattle.syntax_defs.specs.Classes.{class_within, members_at, part_at, member_at, item_at, range_char_at, range_end}
use Rattle.syntax_defs.specs.Classes.{behind_class_backslash, behind_bracket, bracket_at, behind_colon}
use Rattle.syntax_defs.specs.Escapes.{behind_backslash, escape_by, hex_at, byte_at, unicode_at, braced_at}
use Rattle.syntax_defs.specs.Escapes.{property_at, property_by, by_plain_name, named_bracket}
use Rattle.ucd_category.specs.GeneralCategory.{general_category}
use Rattle.ucd_category.specs.GeneralCategoryRows.{general_category_rows}
use Rattle.ucd_props.specs.Binary.{is_white_space}
use Rattle.ucd_props.specs.Ranges.{white_space_ranges}
use Rattle.ucd_table.specs.Rows.{value_in, in_ranges}
use Rattle.std.specs.Prelude.{ℕ, ◌==◌, List, [], ◌∷◌, map, filter, count_by, drop, codes, Bool, true, false, ◌||◌}
use Rattle.std.specs.Prelude.{if◌then◌else◌, Option, Some, None, unwrap_or, Result, Ok, Err}
use Rattle.char_sets.specs.declared.char_set.CharRange.{CharRange}
use Rattle.pattern_defs.specs.declared.nodes.PatNode.{PatNode}
use Rattle.pattern_defs.specs.declared.nodes.PatNode.TheVariants as nodes
use Rattle.pattern_defs.specs.Patterns.{Tree}
use Rattle.syntax_defs.specs.declared.items.Item.{Item}
use Rattle.syntax_defs.specs.declared.items.Item.TheVariants.{One, At, Choice, Group as Grouped, Repeat, Ahead}
use Rattle.syntax_defs.specs.declared.items.Item.TheVariants.{Behind, Atomic, Back}
use Rattle.syntax_defs.specs.Reading.{Fault, Read as ReadPart}
use Rattle.syntax_defs.specs.Singles.{single_at}
use Rattle.syntax_defs.specs.PatternSyntax.{Parsed, body_at, steps}
use Rattle.syntax_defs.specs.PatternMeaning.{arm_of}
use Rattle.syntax_defs.specs.Lengths.{read_pattern, lengths_of, group_of}
use Rattle.scope_defs.specs.Scopes.{Scopes, pieces, push}
use Rattle.scope_defs.specs.Frames.{Start, Token, frames}
use Rattle.scope_defs.specs.Selectors.{path_holds}
use Rattle.rule_defs.specs.Rules.{Match, BeginEnd, BeginWhile, Slot, Never, Read, Later, Entry, Rule, Injection}
use Rattle.rule_defs.specs.Rules.{no_rule}
use Rattle.std.specs.Char.{is_ascii_digit}
use Rattle.line_defs.specs.Machine.{Machine}
use Rattle.line_defs.specs.Frames.{start_of}
use Rattle.line_defs.specs.Line.{LineResult, lines_tokenised}

-- ---- patterns

-- the characters that the examples have
abbrev pub alphabet : List ℕ
alphabet = 10 ∷ codes " !\"#$()*+,-./0123456789:<=>?@[\\]^_abcdefghijklmnopqrstuvwxyz{|}ABCXY"

-- a set of those characters
abbrev pub set_of : Result (ReadPart (ℕ → Bool)) Fault → List CharRange
set_of (Ok read) = map (λ c. record { first = c; last = c }) (filter read.value alphabet)
set_of (Err fault) = []

-- the node that stands for an item of a text that is read
abbrev pub node_of : (text : List ℕ) → Parsed → (lengths : List (Option ℕ)) → Item → PatNode
node_of text parsed lengths (One at options depth) = nodes.One (set_of (single_at options depth at (drop at text)))
node_of text parsed lengths (At anchor) = nodes.At anchor
node_of text parsed lengths (Choice ids) = nodes.Choice ids
node_of text parsed lengths (Grouped number body) = nodes.Group number body
node_of text parsed lengths (Repeat body least most greedy) = nodes.Repeat body least most greedy
node_of text parsed lengths (Ahead body wanted) = nodes.Ahead body wanted
node_of text parsed lengths (Behind at ids wanted) = nodes.Behind (map (arm_of lengths) ids) wanted
node_of text parsed lengths (Atomic body) = nodes.Atomic body
node_of text parsed lengths (Back at target fold) = nodes.Back (unwrap_or (group_of text parsed target) 0) fold

abbrev pub tree_of : (text : List ℕ) → Result Parsed Fault → Option Tree
tree_of text (Ok parsed) =
    Some (record {
      lists = map (map (node_of text parsed (lengths_of parsed.lists))) parsed.lists;
      top =
          parsed.top;
      groups = parsed.groups;
    })
tree_of text (Err fault) = None

-- how a pattern text is read
abbrev pub reader : List ℕ → Option Tree
reader text = tree_of text (read_pattern text)

abbrev pub read : Option Tree → Slot
read None = Never
read (Some tree) = Read tree

abbrev pub pattern : String → Slot
pattern text = read (reader (codes text))

-- whether a backslash stands directly before a digit
abbrev pub has_reference : List ℕ → Bool
has_reference [] = false
has_reference (c ∷ []) = false
has_reference (c ∷ d ∷ cs) = if c == 92 then is_ascii_digit d || has_reference (d ∷ cs) else has_reference (d ∷ cs)

-- a text of `end` or `while`: one with back references has at most as many groups as `(` and backslashes
abbrev pub finish : String → Slot
finish text =
    if has_reference (codes text) then Later (codes text) (count_by (λ c. (c == 40) || (c == 92)) (codes text)) else
    pattern text

-- ---- rules

-- a text that isn't there is empty
abbrev pub scope_text : String → Option (List ℕ)
scope_text text = Some (codes text)

-- a group of the rules with these numbers
abbrev pub group : List ℕ → Rule
group active = record no_rule { active = active }

-- a match rule
abbrev pub single : (name pattern : String) → Rule
single name text = record no_rule { kind = Match; name = scope_text name; start = pattern text }

-- a begin/end rule with rules inside
abbrev pub block : (name begin end : String) → List ℕ → Rule
block name begin end active =
    record no_rule {
      kind = BeginEnd;
      name = scope_text name;
      start = pattern begin;
      finish = finish end;
      active =
          active;
    }

-- a begin/while rule with rules inside
abbrev pub lasting : (name begin keep : String) → List ℕ → Rule
lasting name begin keep active =
    record no_rule {
      kind = BeginWhile;
      name = scope_text name;
      start = pattern begin;
      finish = finish keep;
      active =
          active;
    }

abbrev pub with_content : String → Rule → Rule
with_content content rule = record rule { content = scope_text content }

abbrev pub end_last : Rule → Rule
end_last rule = record rule { finish_last = true }

-- ---- captures

abbrev pub capture : ℕ → (name : String) → Entry
capture number name = record { number = number; name = scope_text name; content = None; inner = None }

-- a capture with patterns: those of a rule
abbrev pub inside : ℕ → (name : String) → (rule : ℕ) → Entry
inside number name rule = record { number = number; name = scope_text name; content = None; inner = Some rule }

abbrev pub inside_with : ℕ → (name content : String) → (rule : ℕ) → Entry
inside_with number name content rule =
    record { number = number; name = scope_text name; content = scope_text content; inner = Some rule }

abbrev pub with_captures : List Entry → Rule → Rule
with_captures entries rule = record rule { start_captures = entries }

abbrev pub with_end_captures : List Entry → Rule → Rule
with_end_captures entries rule = record rule { finish_captures = entries }

-- ---- machines

-- rules by number, the top first
abbrev pub grammar : List Rule → Machine
grammar rules = record { rules = rules; injections = []; reader = reader; budget = 1000; long = 20_000 }

abbrev pub with_budget : ℕ → Machine → Machine
with_budget budget machine = record machine { budget = budget }

abbrev pub with_long : ℕ → Machine → Machine
with_long long machine = record machine { long = long }

-- ---- injections

-- scopes are named by a path
abbrev pub within : (path : String) → Scopes → Bool
within path scopes = path_holds (pieces (codes path)) scopes

-- an injection that goes before the rules, and one that doesn't
abbrev pub left : (Scopes → Bool) → List ℕ → Injection
left holds rules = record { goes_first = true; holds = holds; rules = rules }

abbrev pub right : (Scopes → Bool) → List ℕ → Injection
right holds rules = record { goes_first = false; holds = holds; rules = rules }

abbrev pub with_injections : List Injection → Machine → Machine
with_injections injections machine = record machine { injections = injections }

-- ---- what lines give

-- the tokens of a line, the numbers of the rules that are open behind it, from the inside out, and whether an attempt
-- was
-- spent
pub record Told : Type 0 where
  pub tokens : List Token
  pub open_rules : List ℕ
  pub stopped : Bool

abbrev pub line : List Token → List ℕ → Told
line tokens rules = record { tokens = tokens; open_rules = rules; stopped = false }

abbrev pub stopped : List Token → List ℕ → Told
stopped tokens rules = record { tokens = tokens; open_rules = rules; stopped = true }

-- a token, with its scopes as one text
abbrev pub token : (from to : ℕ) → (scopes : String) → Token
token from to scopes = record { from = from; to = to; scopes = push [] (codes scopes) }

abbrev pub shown : LineResult → Told
shown result = record {
  tokens = result.tokens;
  open_rules = map (λ frame. frame.rule) (frames result.end.stack);
  stopped = result.stopped;
}

-- lines from a start
unfoldable pub told_from : Start → Machine → List String → List Told
unfolding encode chars body_at steps behind_backslash escape_by hex_at byte_at unicode_at braced_at property_at
    property_by by_plain_name named_bracket class_within members_at part_at member_at item_at range_char_at
    range_end behind_class_backslash behind_bracket bracket_at behind_colon go_on is_word general_category value_in
    in_ranges general_category_rows is_white_space white_space_ranges turns
told_from start machine lines = map shown (lines_tokenised machine start (map codes lines))

-- the lines of a text by a grammar whose scope name is `s`
unfoldable pub told : Machine → List String → List Told
unfolding told_from
told machine lines = told_from (start_of (codes "s")) machine lines
