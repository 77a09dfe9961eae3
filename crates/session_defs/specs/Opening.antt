-- The files that the words name: which bytes each kind of file accepts, and what is open then. Files are opened and
-- tested one after the other. The largest file is this project's own.
use Rattle.std.specs.Prelude.{ℕ, ◌&&◌, List, [], ◌∷◌, ◌++◌, length, Bool, nat_le, Option, Some, None, option_and_then}
use Rattle.std.specs.Prelude.{is_some, unwrap_or}
use Rattle.text_pos.specs.declared.limits.Limits.{Limits}
use Rattle.text_defs.specs.declared.limits.TheConstants.{MOST_FILE_BYTES}
use Rattle.text_defs.specs.Text.{is_text, text_of}
use Rattle.pairing_defs.specs.declared.BracketText.{BracketText}
use Rattle.pairing_defs.specs.Marks.{usual_texts}
use Rattle.pairing_defs.specs.BracketTexts.{BracketsOfPairs, brackets_of}
use Rattle.pairing_defs.specs.BracketTexts as texts
use Rattle.canonical_patterns.specs.ReadTrees.{read_tree}
use Rattle.grammar_defs.specs.FileRules.{Grammar}
use Rattle.grammar_defs.specs.GrammarShape.{GrammarReading, read_file}
use Rattle.grammar_defs.specs.GrammarShape as file
use Rattle.grammar_defs.specs.BracketShape.{BracketReading, read_bracket_file}
use Rattle.grammar_defs.specs.BracketShape as pairs
use Rattle.injection_defs.specs.Injections.{injections_of}
use Rattle.graph_defs.specs.GraphMeaning.{FileGraph, GraphReading, reading}
use Rattle.graph_defs.specs.GraphMeaning as graph
use Rattle.line_defs.specs.Machine.{Machine}
use Rattle.line_defs.specs.Frames.{start_of}
use Rattle.line_defs.specs.Line.{tokenised, no_grammar}
use Rattle.document_defs.specs.TextRows.{Settings}
use Rattle.session_defs.specs.declared.file_kind.FileKind.{FileKind}
use Rattle.session_defs.specs.declared.file_kind.FileKind.TheVariants as kind
use Rattle.generator_defs.specs.GeneratedText.{generated_text}
use Rattle.session_defs.specs.Words.{Subject, text_file, generated, Request}

-- ---- grammars

-- the scope name of a grammar, and its rules
pub record OpenGrammar : Type 0 where
  pub scope : List ℕ
  pub graph : FileGraph

abbrev pub grammar_by : List ℕ → GraphReading → Option OpenGrammar
grammar_by scope (graph.too_wide count) = None
grammar_by scope (graph.graph g) = Some (record { scope = scope; graph = g })

abbrev pub grammar_read : GrammarReading → Option OpenGrammar
grammar_read file.no_json = None
grammar_read (file.wrong_kind pointer) = None
grammar_read (file.too_many_rules count) = None
grammar_read (file.grammar g) = grammar_by g.scope (reading g)

-- the grammar of a file, where it is one
abbrev pub grammar_of_file : List ℕ → Option OpenGrammar
grammar_of_file bytes = grammar_read (read_file bytes)

-- what runs over lines by its rules
abbrev pub machine_by : FileGraph → Limits → Machine
machine_by g limits = record {
  rules = g.rules;
  injections = injections_of g.rules g.injections;
  reader = read_tree;
  budget = limits.budget;
  long = limits.long;
}

-- ---- bracket files

abbrev pub brackets_by : BracketsOfPairs → Option (List BracketText)
brackets_by (texts.too_many_kinds count) = None
brackets_by (texts.too_long long) = None
brackets_by (texts.brackets bs) = Some bs

abbrev pub brackets_read : BracketReading → Option (List BracketText)
brackets_read pairs.no_json = None
brackets_read (pairs.wrong_kind pointer) = None
brackets_read (pairs.pairs ps) = brackets_by (brackets_of ps)

-- the brackets of a file, where it has some
abbrev pub brackets_of_file : List ℕ → Option (List BracketText)
brackets_of_file bytes = brackets_read (read_bracket_file bytes)

-- ---- what is accepted

-- the largest file
abbrev pub most_file_bytes : ℕ
most_file_bytes = MOST_FILE_BYTES

-- whether bytes are a file of a kind
abbrev pub is_of_kind : FileKind → List ℕ → Bool
is_of_kind kind.Text bytes = is_text bytes
is_of_kind kind.Grammar bytes = is_some (grammar_of_file bytes)
is_of_kind kind.Brackets bytes = is_some (brackets_of_file bytes)

-- whether a file of a kind is accepted
abbrev pub is_accepted : FileKind → List ℕ → Bool
is_accepted kind bytes = nat_le (length bytes) most_file_bytes && is_of_kind kind bytes

-- a file that the words name
pub record NamedFile : Type 0 where
  pub kind : FileKind
  pub name : List ℕ

abbrev pub named_if : FileKind → Option (List ℕ) → List NamedFile
named_if kind None = []
named_if kind (Some name) = record { kind = kind; name = name } ∷ []

-- a text that is made has no file
abbrev pub text_name : Subject → Option (List ℕ)
text_name (text_file name) = Some name
text_name (generated lines) = None

-- all of them, in the order in which they are opened
abbrev pub files_of : Request → List NamedFile
files_of r = named_if kind.Text (text_name r.subject) ++ (named_if kind.Grammar r.grammar ++ named_if kind.Brackets r.brackets)

-- ---- what is open

-- the bytes of the files
pub record Inputs : Type 0 where
  pub text : Option (List ℕ)
  pub grammar : Option (List ℕ)
  pub brackets : Option (List ℕ)

-- Without a grammar each line is one token without scopes.
abbrev pub settings_for : Limits → Option OpenGrammar → List BracketText → Settings
settings_for limits None texts = record {
  start = start_of [];
  line = tokenised (no_grammar limits.budget limits.long);
  texts = texts;
  limits = limits;
}
settings_for limits (Some g) texts = record {
  start = start_of g.scope;
  line = tokenised (machine_by g.graph limits);
  texts = texts;
  limits = limits;
}

-- how many patterns of a grammar and keys of its injections can't be read
abbrev pub unread_of : Option OpenGrammar → ℕ
unread_of None = 0
unread_of (Some g) = g.graph.unread

-- Without a bracket file the brackets are those of the usual pairs.
abbrev pub texts_of : Option (List ℕ) → List BracketText
texts_of file = unwrap_or (option_and_then brackets_of_file file) usual_texts

-- a text as it is now, what its answers go by, and how many patterns and keys of injections can't be read
pub record Session : Type 0 where
  pub settings : Settings
  pub unread : ℕ
  pub text : List ℕ

abbrev pub session_by : Limits → Option OpenGrammar → List BracketText → List ℕ → Session
session_by limits grammar texts text =
    record { settings = settings_for limits grammar texts; unread = unread_of grammar; text = text }

-- the text at first, of the bytes of its file
abbrev pub text_at_first : Subject → Option (List ℕ) → List ℕ
text_at_first (text_file name) file = text_of (unwrap_or file [])
text_at_first (generated lines) file = generated_text lines

-- what is open once files with these bytes are
abbrev pub session_of : Request → Inputs → Session
session_of r inputs = session_by r.limits (option_and_then grammar_of_file inputs.grammar) (texts_of inputs.brackets)
    (text_at_first r.subject inputs.text)
