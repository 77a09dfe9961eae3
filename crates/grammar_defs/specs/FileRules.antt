-- A grammar as its file has it: rules in rules, before includes are resolved. The keys are those of TextMate grammars.
use Rattle.std.specs.Prelude.{ℕ, ◌+◌, List, Bool, Option}

-- what a rule says in texts: `name`, `contentName`, `match`, `begin`, `end`, `while` and `include`
pub record Texts : Type 0 where
  pub name : Option (List ℕ)
  pub content : Option (List ℕ)
  pub single : Option (List ℕ)
  pub begin : Option (List ℕ)
  pub finish : Option (List ℕ)
  pub keep : Option (List ℕ)
  pub include : Option (List ℕ)

-- A list of a file: of rules and what is included by its name, or of captures with their numbers. `absent` is a list
-- whose key isn't there, which isn't the same as an empty one.
pub data FileList : Type 0 where
  absent : FileList
  nothing : FileList
  include : (name : List ℕ) → (others : FileList) → FileList
  rule : (texts : Texts) → (captures begin_captures end_captures while_captures : FileList) → (finish_last : Bool)
      → (patterns others : FileList) → FileList
  capture : (number : ℕ) → (name content : Option (List ℕ)) → (patterns others : FileList) → FileList

-- a rule: its texts; `captures`, `beginCaptures`, `endCaptures` and `whileCaptures`; whether its end is tried last; and
-- its `patterns`
pub record FileRule : Type 0 where
  pub texts : Texts
  pub captures : FileList
  pub begin_captures : FileList
  pub end_captures : FileList
  pub while_captures : FileList
  pub finish_last : Bool
  pub patterns : FileList

-- the rule in front of the others of its list
abbrev pub placed : FileRule → FileList → FileList
placed r others = rule r.texts r.captures r.begin_captures r.end_captures r.while_captures r.finish_last r.patterns
    others

-- a rule with its name in `repository` or `injections`
pub record NamedRule : Type 0 where
  pub key : List ℕ
  pub rule : FileRule

pub record Grammar : Type 0 where
  pub scope : List ℕ
  pub patterns : FileList
  pub repository : List NamedRule
  pub injections : List NamedRule

-- how many rules, captures and includes stand in a list, each counted with what stands in it
abbrev pub weight : FileList → ℕ
weight absent = 0
weight nothing = 0
weight (include name others) = weight others + 1
weight (rule texts captures begin_captures end_captures while_captures finish_last patterns others) =
    weight captures + weight begin_captures + weight end_captures + weight while_captures + weight patterns + weight
    others + 1
weight (capture number name content patterns others) = weight patterns + weight others + 1
