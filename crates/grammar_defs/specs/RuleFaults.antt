-- The values of a wrong kind in a rule, in the order of the walk: its keys in a fixed order, lists in order, captures
-- by
-- number. `null` counts as missing, but in a list. A rule in a list that includes another isn't walked.
use Rattle.std.specs.Prelude.{ℕ, ◌+◌, ◌&&◌, List, [], ◌++◌, codes, Bool, true, Option, Some, None, if◌then◌else◌}
use Rattle.std.specs.Str.{bytes_eq}
use Rattle.std.specs.Fmt.{decimal}
use Rattle.serde_json.specs.Data.{Data, null, boolean, number, string, array, object, Items, no_items, item, Members}
use Rattle.serde_json.specs.Data.{no_members, member}
use Rattle.serde_json.specs.Find.{get}
use Rattle.grammar_defs.specs.Pointers.{Pointer, itself, all_below}
use Rattle.grammar_defs.specs.RuleShape.{is_include, is_capture_key}

-- a value that is to be a string, or missing
abbrev pub text_faults : Option Data → List Pointer
text_faults None = []
text_faults (Some null) = []
text_faults (Some (string s)) = []
text_faults (Some _) = itself

-- a value that is to be a boolean or a number, or missing
abbrev pub flag_faults : Option Data → List Pointer
flag_faults None = []
flag_faults (Some null) = []
flag_faults (Some (boolean b)) = []
flag_faults (Some (number n)) = []
flag_faults (Some _) = itself

abbrev pub text_faults_at : List ℕ → Data → List Pointer
text_faults_at key d = all_below key (text_faults (get key d))

abbrev pub texts_faults : Data → List Pointer
texts_faults d = text_faults_at (codes "name") d
    ++ (text_faults_at (codes "contentName") d
    ++ (text_faults_at (codes "match") d ++ (text_faults_at (codes "begin") d
    ++ (text_faults_at (codes "end") d ++ (text_faults_at (codes "while") d
    ++ (text_faults_at (codes "include") d))))))

abbrev pub finish_last_faults : Data → List Pointer
finish_last_faults d = all_below (codes "applyEndPatternLast") (flag_faults (get (codes "applyEndPatternLast") d))

abbrev mutual
  -- the members of a list, the first of which has the number n
  pub entries_faults : ℕ → Items → List Pointer
  entries_faults n no_items = []
  entries_faults n (item d ds) = all_below (decimal n) (rule_faults true d) ++ entries_faults (n + 1) ds

  -- a rule, which stands in a list or elsewhere
  pub rule_faults : Bool → Data → List Pointer
  rule_faults in_list (object ms) = if in_list && is_include (object ms) then []
      else texts_faults (object ms) ++ (captures_faults_at (codes "captures") ms
      ++ (captures_faults_at (codes "beginCaptures") ms
      ++ (captures_faults_at (codes "endCaptures") ms
      ++ (captures_faults_at (codes "whileCaptures") ms
      ++ (finish_last_faults (object ms) ++ (patterns_faults_at ms))))))
  rule_faults in_list _ = itself

  pub list_faults : Data → List Pointer
  list_faults null = []
  list_faults (array ds) = entries_faults 0 ds
  list_faults _ = itself

  pub patterns_faults_at : Members → List Pointer
  patterns_faults_at no_members = []
  patterns_faults_at (member k d ms) = if bytes_eq (codes "patterns") k then all_below (codes "patterns")
      (list_faults d) else patterns_faults_at ms

  pub captures_faults_at : List ℕ → Members → List Pointer
  captures_faults_at key no_members = []
  captures_faults_at key (member k d ms) =
      if bytes_eq key k then all_below key (captures_faults d) else captures_faults_at key ms

  pub captures_faults : Data → List Pointer
  captures_faults null = []
  captures_faults (object ms) = wide_faults 1 ms
      ++ (wide_faults 2 ms ++ (wide_faults 3 ms ++ (wide_faults 4 ms ++ (wide_faults 5 ms))))
  captures_faults _ = itself

  -- the captures whose numbers have so many digits
  pub wide_faults : ℕ → Members → List Pointer
  wide_faults width no_members = []
  wide_faults width (member k d ms) = if is_capture_key width k then all_below k (capture_faults d) ++ wide_faults
      width ms else wide_faults width ms

  pub capture_faults : Data → List Pointer
  capture_faults null = []
  capture_faults (object ms) = text_faults_at (codes "name") (object ms)
      ++ (text_faults_at (codes "contentName") (object ms) ++ (patterns_faults_at ms))
  capture_faults _ = itself
