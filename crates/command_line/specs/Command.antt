-- The command of `clap` that reads the words, and what its matches hold.
use Rattle.std.specs.Prelude.{true, codes, Some}
use Rattle.clap.specs.Walk.{Rule, Text}
use Rattle.clap.specs.Simple.{App, new_app, new_rule, on_top, with_rule}
use Rattle.clap.specs.Matches.{first_value, found_of}
use Rattle.clap.specs.declared.builder.action.ArgAction.TheVariants.{Set}
use Rattle.clap.specs.declared.parser.matches.ArgMatches.{ArgMatches}
use Rattle.session_defs.specs.Words.{Options}

-- the name of the text, a word by itself
abbrev pub name_rule : Rule
name_rule = record (new_rule (codes "text")) { action = Some Set }

-- an option, `--` and this name, with one value
abbrev pub option_rule : Text → Rule
option_rule name = record (new_rule name) { long = Some name; action = Some Set }

-- a name and seven options, each with one text; no help and no version
abbrev pub words_app : App
words_app =
    with_rule (with_rule (with_rule (with_rule (with_rule (with_rule (with_rule (with_rule
    (on_top (λ s. record s { disable_help_flag = true }) (new_app (codes "bracket_program")))
    name_rule) (option_rule (codes "grammar"))) (option_rule (codes "brackets"))) (option_rule (codes "nesting")))
    (option_rule (codes "steps"))) (option_rule (codes "long"))) (option_rule (codes "tab"))) (option_rule (codes "make"))

-- the values that matches hold
abbrev pub options_of : ArgMatches → Options
options_of m = record {
  text = first_value (found_of m) (codes "text");
  grammar = first_value (found_of m) (codes "grammar");
  brackets = first_value (found_of m) (codes "brackets");
  nesting = first_value (found_of m) (codes "nesting");
  steps = first_value (found_of m) (codes "steps");
  long = first_value (found_of m) (codes "long");
  tab = first_value (found_of m) (codes "tab");
  make = first_value (found_of m) (codes "make");
}
