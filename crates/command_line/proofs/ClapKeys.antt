-- The names of the command's arguments, and which rule a name finds.
use Rattle.std.proofs.Common.{◌≡◌, ℕ, Bool, true, false, ◌||◌, Option, Some, None, refl, codes}
use Rattle.std.specs.Prelude.{if◌then◌else◌, option_map}
use Rattle.std.specs.Str.{bytes_eq}
use Rattle.clap.specs.Walk.{Rule, Text, arg_by_id, arg_by_long}
use Rattle.clap.specs.Simple.{Shape, built, new_rule}
use Rattle.clap.specs.declared.builder.action.ArgAction.TheVariants.{Set}
use Rattle.clap.specs.declared.builder.value_parser.ValueParser.TheVariants as vp
use Rattle.command_line.specs.Command.{words_app}

pub data Opt : Type 0 where
  grammar : Opt
  brackets : Opt
  nesting : Opt
  steps : Opt
  long : Opt
  tab : Opt
  make : Opt

pub data Key : Type 0 where
  text : Key
  opt : Opt → Key

abbrev pub name_of : Opt → Text
name_of grammar = codes "grammar"
name_of brackets = codes "brackets"
name_of nesting = codes "nesting"
name_of steps = codes "steps"
name_of long = codes "long"
name_of tab = codes "tab"
name_of make = codes "make"

abbrev pub id_of : Key → Text
id_of text = codes "text"
id_of (opt o) = name_of o

abbrev pub long_at : Key → Option Text
long_at text = None
long_at (opt o) = Some (name_of o)

abbrev pub index_at : Key → Option ℕ
index_at text = Some 1
index_at (opt o) = None

abbrev pub rule_at : Key → Rule
rule_at k = record (new_rule (id_of k)) {
  long = long_at k;
  index = index_at k;
  action = Some Set;
  range = Some (record { start_inclusive = 1; end_inclusive = 1 });
  parser = Some vp.String;
}

abbrev pub shape : Shape
shape = (built words_app).top

pub by_id : (k : Key) → arg_by_id shape.rules (id_of k) ≡ Some (rule_at k)
by_id text = refl
by_id (opt grammar) = refl
by_id (opt brackets) = refl
by_id (opt nesting) = refl
by_id (opt steps) = refl
by_id (opt long) = refl
by_id (opt tab) = refl
by_id (opt make) = refl

pub same_id : (k : Key) → bytes_eq (id_of k) (id_of k) ≡ true
same_id text = refl
same_id (opt grammar) = refl
same_id (opt brackets) = refl
same_id (opt nesting) = refl
same_id (opt steps) = refl
same_id (opt long) = refl
same_id (opt tab) = refl
same_id (opt make) = refl

abbrev pub named : Text → Text → Bool
named id name = bytes_eq id name || false

abbrev pub first_opt : (b c d e f g h : Bool) → Option Opt
first_opt b c d e f g h = if b then Some grammar else (if c then Some brackets else (if d then Some nesting
    else (if e then Some steps else (if f then Some long else (if g then Some tab else (if h then Some make else None))))))

abbrev pub opt_named : Text → Option Opt
opt_named name = first_opt (named (codes "grammar") name) (named (codes "brackets") name)
    (named (codes "nesting") name) (named (codes "steps") name) (named (codes "long") name) (named (codes "tab") name)
    (named (codes "make") name)

abbrev pub opt_rule : Opt → Rule
opt_rule o = rule_at (opt o)

pub first_rule : (b c d e f g h : Bool) → (if b then Some (opt_rule grammar) else (if c then Some (opt_rule brackets)
    else (if d then Some (opt_rule nesting) else (if e then Some (opt_rule steps) else (if f then Some (opt_rule long)
    else (if g then Some (opt_rule tab) else (if h then Some (opt_rule make) else None)))))))
    ≡ option_map opt_rule (first_opt b c d e f g h)
first_rule true c d e f g h = refl
first_rule false true d e f g h = refl
first_rule false false true e f g h = refl
first_rule false false false true f g h = refl
first_rule false false false false true g h = refl
first_rule false false false false false true h = refl
first_rule false false false false false false true = refl
first_rule false false false false false false false = refl

pub by_long : (name : Text) → arg_by_long shape.rules name ≡ option_map opt_rule (opt_named name)
by_long name = first_rule (named (codes "grammar") name) (named (codes "brackets") name)
    (named (codes "nesting") name) (named (codes "steps") name) (named (codes "long") name) (named (codes "tab") name)
    (named (codes "make") name)
