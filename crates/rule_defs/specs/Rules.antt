-- Rules as plain data, by their numbers. Their kinds are those of vscode-textmate's rule.ts; that each rule comes with
-- the list of rules that stands for its patterns is this project's own.
use Rattle.std.specs.Prelude.{ℕ, List, [], Bool, false, Option, None}
use Rattle.pattern_defs.specs.Patterns.{Tree}

-- a name of a scope, and the names that hold at a place, the outermost first
abbrev pub Name : Type 0
Name = List ℕ

abbrev pub Scopes : Type 0
Scopes = List Name

pub data Kind : Type 0 where
  Match : Kind
  BeginEnd : Kind
  BeginWhile : Kind
  Group : Kind

-- A rule's pattern: none that ever matches, one that is read, or a text that is read only with a begin's captures in
-- it, and then with at most so many groups.
pub data Slot : Type 0 where
  Never : Slot
  Read : Tree → Slot
  Later : (text : List ℕ) (groups : ℕ) → Slot

-- what is done with a capture: its scope texts, and the rule whose patterns run over it
pub record Entry : Type 0 where
  pub number : ℕ
  pub name : Option (List ℕ)
  pub content : Option (List ℕ)
  pub inner : Option ℕ

-- `start` is the pattern of `match` or `begin`, `finish` that of `end` or `while`; `active` are the numbers of the
-- rules that are searched inside, without the end pattern
pub record Rule : Type 0 where
  pub kind : Kind
  pub name : Option (List ℕ)
  pub content : Option (List ℕ)
  pub start : Slot
  pub finish : Slot
  pub finish_last : Bool
  pub start_captures : List Entry
  pub finish_captures : List Entry
  pub active : List ℕ

-- rules that are searched besides those of the top frame, where a selector holds of its scopes
pub record Injection : Type 0 where
  pub goes_first : Bool
  pub holds : Scopes → Bool
  pub rules : List ℕ

-- a rule that isn't there: a group of nothing
abbrev pub no_rule : Rule
no_rule = record { kind = Group; name = None; content = None; start = Never; finish = Never; finish_last = false; start_captures = []; finish_captures = []; active = [] }
