-- The rules of a JSON value, and its values of a wrong kind. The keys of a rule are those of TextMate grammars; what is
-- left aside, and the order of the walk, are this project's own: keys in a fixed order, lists in order, objects by
-- their
-- keys, captures by number.
use Rattle.std.specs.Prelude.{ℕ, ◌+◌, ◌-◌, ◌*◌, ◌==◌, ◌&&◌, ◌||◌, List, [], ◌∷◌, length, codes, nat_le, Bool, true}
use Rattle.std.specs.Prelude.{false, not, Option, Some, None, option_and_then, is_some, unwrap_or, if◌then◌else◌}
use Rattle.std.specs.Str.{bytes_eq}
use Rattle.std.specs.List.{list_all}
use Rattle.serde_json.specs.Data.{Num, unsigned, negative, float, Data, boolean, number, array, object, Items}
use Rattle.serde_json.specs.Data.{no_items, item, Members, no_members, member}
use Rattle.serde_json.specs.Find.{get, as_str}
use Rattle.grammar_defs.specs.FileRules.{Texts, FileList, absent, nothing, include, rule, capture, FileRule}

-- a string of an object
abbrev pub text_at : List ℕ → Data → Option (List ℕ)
text_at key d = option_and_then as_str (get key d)

abbrev pub unless_empty : List ℕ → Option (List ℕ)
unless_empty [] = None
unless_empty (c ∷ cs) = Some (c ∷ cs)

-- a string that isn't empty
abbrev pub filled_at : List ℕ → Data → Option (List ℕ)
filled_at key d = option_and_then unless_empty (text_at key d)

-- the texts of a rule; an empty `begin` or `include` is one
abbrev pub texts_in : Data → Texts
texts_in d = record {
  name = filled_at (codes "name") d;
  content = filled_at (codes "contentName") d;
  single = filled_at (codes "match") d;
  begin = text_at (codes "begin") d;
  finish = filled_at (codes "end") d;
  keep = filled_at (codes "while") d;
  include = text_at (codes "include") d;
}

-- a flag is `true`, or a number but the unsigned 0
abbrev pub is_number_set : Num → Bool
is_number_set (unsigned n) = not (n == 0)
is_number_set (negative z) = true
is_number_set (float x) = true

abbrev pub is_set : Option Data → Bool
is_set (Some (boolean b)) = b
is_set (Some (number n)) = is_number_set n
is_set _ = false

abbrev pub finish_last_in : Data → Bool
finish_last_in d = is_set (get (codes "applyEndPatternLast") d)

-- a digit's value, and that of digits read after a number
abbrev pub is_digit : ℕ → Bool
is_digit c = nat_le 48 c && nat_le c 57

abbrev pub number_after : ℕ → List ℕ → ℕ
number_after n [] = n
number_after n (c ∷ cs) = number_after (n * 10 + (c - 48)) cs

abbrev pub begins_with_zero : List ℕ → Bool
begins_with_zero [] = false
begins_with_zero (c ∷ cs) = c == 48

-- a capture's key: so many digits, and no 0 before others
abbrev pub is_capture_key : ℕ → List ℕ → Bool
is_capture_key width key = length key == width && list_all is_digit key && (width == 1 || not (begins_with_zero key))

-- whether a member of a list is an include
abbrev pub is_include : Data → Bool
is_include d = is_some (text_at (codes "include") d)

-- The rules of lists and the captures of objects. Captures rise by number: keys of fewer digits come first, and keys of
-- as many digits stand in an object by their bytes.
abbrev mutual
  pub entries_of : Items → FileList
  entries_of no_items = nothing
  entries_of (item d ds) = entry_of d (entries_of ds)

  pub entry_of : Data → FileList → FileList
  entry_of (object ms) others = if is_include (object ms) then include
      (unwrap_or (text_at (codes "include") (object ms)) []) others
      else rule (texts_in (object ms)) (captures_in (codes "captures") ms) (captures_in (codes "beginCaptures") ms)
      (captures_in (codes "endCaptures") ms)
      (captures_in (codes "whileCaptures") ms) (finish_last_in (object ms)) (patterns_in ms) others
  entry_of _ others = others

  pub list_of : Data → FileList
  list_of (array ds) = entries_of ds
  list_of _ = absent

  pub patterns_in : Members → FileList
  patterns_in no_members = absent
  patterns_in (member k d ms) = if bytes_eq (codes "patterns") k then list_of d else patterns_in ms

  pub captures_in : List ℕ → Members → FileList
  captures_in key no_members = absent
  captures_in key (member k d ms) = if bytes_eq key k then captures_of d else captures_in key ms

  pub captures_of : Data → FileList
  captures_of (object ms) = captures_wide 1 ms
      (captures_wide 2 ms (captures_wide 3 ms (captures_wide 4 ms (captures_wide 5 ms nothing))))
  captures_of _ = absent

  pub captures_wide : ℕ → Members → FileList → FileList
  captures_wide width no_members others = others
  captures_wide width (member k d ms) others =
      if is_capture_key width k then capture_of k d (captures_wide width ms others) else captures_wide width ms others

  pub capture_of : List ℕ → Data → FileList → FileList
  capture_of k (object ms) others = capture (number_after 0 k) (filled_at (codes "name") (object ms))
      (filled_at (codes "contentName") (object ms)) (patterns_in ms) others
  capture_of k _ others = others

-- the members of an object
abbrev pub members_of : Data → Members
members_of (object ms) = ms
members_of _ = no_members

-- a rule
abbrev pub rule_in : Data → FileRule
rule_in d = record {
  texts = texts_in d;
  captures = captures_in (codes "captures") (members_of d);
  begin_captures =
      captures_in (codes "beginCaptures") (members_of d);
  end_captures = captures_in (codes "endCaptures") (members_of d);
  while_captures =
      captures_in (codes "whileCaptures") (members_of d);
  finish_last = finish_last_in d;
  patterns = patterns_in (members_of d);
}
