-- What the words say is what the command of `clap` makes of them.
use Rattle.std.proofs.Common.{◌≡◌, ◌∙◌, Bool, true, false, List, [], ◌∷◌, drop, Option, Some, None, is_some, refl, sym, ap}
use Rattle.std.proofs.Common.{map}
use Rattle.std.specs.Prelude.{option_map, fold}
use Rattle.clap.specs.Kinds.{Kinds, or_else}
use Rattle.clap.specs.Walk.{Row, Rule, Text, Walk, has_row, settled, walked, with_default, finished}
use Rattle.clap.specs.Faults.{check_fault, default_fault, entered_fault, defaults_fault, fault_of, is_simple_and_free}
use Rattle.clap.specs.Faults.{settle_fault, walk_fault}
use Rattle.clap.specs.Simple.{entered, built, is_simple, matches_of}
use Rattle.clap.proofs.OnLiterals.{clap_on_literals}
use Rattle.std.specs.Prelude.{String, string_bytes}
use Rattle.std.specs.declared.alloc.Global.{Global}
use Rattle.std.proofs.lemmas.Str.{IsUtf8-string_bytes}
use Rattle.clap.specs.Kinds.{IsAmong}
use Rattle.clap.specs.declared.error.kind.ErrorKind.{ErrorKind}
use Rattle.std.proofs.Common.{inl, inr, subst}
use Rattle.clap.specs.Kinds.{HasKind}
use Rattle.clap.specs.Values.{kind_of}
use Rattle.clap.specs.Matches.{found_of}
use Rattle.clap.specs.Walk.{rows_of}
use Rattle.clap.specs.Simple.{App, HasMatchesOf}
use Rattle.clap.specs.declared.error.Error.{Error}
use Rattle.clap.specs.declared.error.kind.ErrorKind.TheVariants.{OutOfMemory}
use Rattle.clap.specs.declared.parser.matches.ArgMatches.{ArgMatches}
use Rattle.clap.proofs.WalkLemmas.{first_value-rows}
use Rattle.command_line.specs.Command.{options_of}
use Rattle.command_line.proofs.ClapRows.{options}
use Rattle.session_defs.specs.Words.{no_options, said}
use Rattle.command_line.specs.Command.{words_app}
use Rattle.command_line.proofs.ClapKeys.{Key, id_of, rule_at, shape, grammar, brackets, nesting, steps, long, tab, make, text}
use Rattle.command_line.proofs.ClapKeys.{opt}
use Rattle.command_line.proofs.ClapWalks.{stands, guard, guard-or, nothing}
use Rattle.command_line.proofs.ClapRows.{opts}
use Rattle.command_line.proofs.ClapAsks.{AllText, law_asks}
use Rattle.command_line.proofs.ClapSaid.{asks_said}

abbrev pub rules_at : List Key → List Rule
rules_at [] = []
rules_at (k ∷ ks) = rule_at k ∷ rules_at ks

abbrev pub keys : List Key
keys = text ∷ opt grammar ∷ opt brackets ∷ opt nesting ∷ opt steps ∷ opt long ∷ opt tab ∷ opt make ∷ []

pub same_default : (k : Key) (rows : List Row) → with_default rows (rule_at k) ≡ rows
same_default k rows = go (has_row (id_of k) rows) refl
  where
    go : (b : Bool) → has_row (id_of k) rows ≡ b → with_default rows (rule_at k) ≡ rows
    go true e = rw e refl
    go false e = rw e refl

pub no_default_fault : (k : Key) (rows : List Row) → default_fault rows (rule_at k) ≡ []
no_default_fault k rows = go (has_row (id_of k) rows) refl
  where
    go : (b : Bool) → has_row (id_of k) rows ≡ b → default_fault rows (rule_at k) ≡ []
    go true e = rw e refl
    go false e = rw e refl

pub same_defaults : (ks : List Key) (rows : List Row) → fold with_default rows (rules_at ks) ≡ rows
same_defaults [] rows = refl
same_defaults (k ∷ ks) rows = same_defaults ks (with_default rows (rule_at k)) ∙ same_default k rows

pub no_defaults_fault : (ks : List Key) (rows : List Row) → defaults_fault rows (rules_at ks) ≡ []
unfolding defaults_fault
no_defaults_fault [] rows = refl
no_defaults_fault (k ∷ ks) rows =
    ap (λ f. or_else f (defaults_fault (with_default rows (rule_at k)) (rules_at ks))) (no_default_fault k rows)
    ∙ no_defaults_fault ks (with_default rows (rule_at k))

pub no_check_fault : (rows : List Row) (b : Bool) → check_fault shape rows b ≡ []
no_check_fault rows true = refl
no_check_fault rows false = refl

pub no_entered_fault : (stop : Option (Text × List Text)) → entered_fault (built words_app) stop ≡ []
no_entered_fault None = refl
no_entered_fault (Some stop) = refl

pub or-nothing : (a : Kinds) → or_else a [] ≡ a
or-nothing [] = refl
or-nothing (k ∷ ks) = refl

pub map-guard : {X Y : Type 0} (f : X → Y) (a b : Kinds) (x : X)
    → option_map f (guard a (guard b (Some x))) ≡ guard a (guard b (Some (f x)))
map-guard f [] [] x = refl
map-guard f [] (k ∷ ks) x = refl
map-guard f (k ∷ ks) b x = refl

module _ (program : Text) (words : List Text) where
  abbrev pub end : Walk
  end = fold (walked shape.rules []) (stands [] nothing false false) words

  pub fault_is : fault_of words_app (program ∷ words)
      ≡ or_else (walk_fault shape [] (stands [] nothing false false) words) (settle_fault shape.rules false end.held)
  fault_is =
      ap (λ below. or_else (walk_fault shape [] (stands [] nothing false false) words) (or_else below
      (or_else (settle_fault shape.rules false end.held) (or_else (defaults_fault (settled shape.rules end.held).rows (rules_at keys))
      (check_fault shape (finished shape.rules end.held) (is_some (entered (built words_app) end.stopped)))))))
      (no_entered_fault end.stopped)
      ∙ (ap (λ d. or_else (walk_fault shape [] (stands [] nothing false false) words)
      (or_else (settle_fault shape.rules false end.held) (or_else d
      (check_fault shape (finished shape.rules end.held) (is_some (entered (built words_app) end.stopped))))))
      (no_defaults_fault keys (settled shape.rules end.held).rows)
      ∙ (ap (λ c. or_else (walk_fault shape [] (stands [] nothing false false) words)
      (or_else (settle_fault shape.rules false end.held) c))
      (no_check_fault (finished shape.rules end.held) (is_some (entered (built words_app) end.stopped)))
      ∙ ap (or_else (walk_fault shape [] (stands [] nothing false false) words)) (or-nothing (settle_fault shape.rules false end.held))))

  pub matches_are : matches_of words_app (program ∷ words) ≡ (settled shape.rules end.held).rows
  matches_are = same_defaults keys (settled shape.rules end.held).rows

  -- what the words say is what the command gives, where it has no fault
  pub said_by_clap : AllText words → said (opts []) words
      ≡ guard (fault_of words_app (program ∷ words)) (Some (opts (matches_of words_app (program ∷ words))))
  said_by_clap u =
      let W = walk_fault shape [] (stands [] nothing false false) words in
      let S = settle_fault shape.rules false end.held in
      let rows = (settled shape.rules end.held).rows in
      sym (law_asks words u [] nothing false refl refl ∙ asks_said words (opts []) nothing)
      ∙ (map-guard opts W S rows
      ∙ (sym (guard-or W S (Some (opts rows)))
      ∙ (ap (λ f. guard f (Some (opts rows))) (sym fault_is)
      ∙ ap (λ r. guard (fault_of words_app (program ∷ words)) (Some (opts r))) (sym matches_are))))

pub all_text : (words : List (String Global)) → AllText (map string_bytes words)
all_text [] = tt
all_text (word ∷ words) = (IsUtf8-string_bytes word, all_text words)

pub said_of_strings : (words : List (String Global)) → said no_options (drop 1 (map string_bytes words))
    ≡ guard (fault_of words_app (map string_bytes words)) (Some (opts (matches_of words_app (map string_bytes words))))
unfolding clap_on_literals
said_of_strings [] = refl
said_of_strings (program ∷ words) = said_by_clap (string_bytes program) (map string_bytes words) (all_text words)

-- how a parse ends by what the words say: with it where it takes them, and else with None but where memory is wanting
pub said_ok : (words : List (String Global)) → fault_of words_app (map string_bytes words) ≡ []
    → said no_options (drop 1 (map string_bytes words)) ≡ Some (opts (matches_of words_app (map string_bytes words)))
said_ok words e = said_of_strings words ∙ ap (λ f. guard f (Some (opts (matches_of words_app (map string_bytes words))))) e

pub guard_among : {X : Type 0} (k : ErrorKind) (kinds : Kinds) (x : Option X) → IsAmong k kinds → guard kinds x ≡ None
guard_among k [] x h = absurd h
guard_among k (a ∷ kinds) x h = refl

pub said_none : (words : List (String Global)) (k : ErrorKind) → IsAmong k (fault_of words_app (map string_bytes words))
    → said no_options (drop 1 (map string_bytes words)) ≡ None
said_none words k h = said_of_strings words ∙ guard_among k (fault_of words_app (map string_bytes words)) _ h

pub app_is_simple : is_simple_and_free words_app ≡ true
unfolding clap_on_literals
app_is_simple = refl

pub app_has_matches : is_simple words_app ≡ true
unfolding clap_on_literals
app_has_matches = refl

options_rows : (m : ArgMatches) → options_of m ≡ opts (rows_of (found_of m))
options_rows m = λ i. options (λ k. first_value-rows (found_of m) (id_of k) i)

-- a parse that ends well
pub taken : (a : App) (words : List (String Global)) (m : ArgMatches) → a ≡ words_app
    → (is_simple_and_free a ≡ true → fault_of a (map string_bytes words) ≡ [])
    → HasMatchesOf a (map string_bytes words) m
    → Some (options_of m) ≡ said no_options (drop 1 (map string_bytes words))
taken a words m e f h =
    let free : is_simple_and_free a ≡ true = ap is_simple_and_free e ∙ app_is_simple in
    let simple : is_simple a ≡ true = ap is_simple e ∙ app_has_matches in
    let none : fault_of words_app (map string_bytes words) ≡ [] = ap (λ a. fault_of a (map string_bytes words)) (sym e) ∙ f free in
    let rows : rows_of (found_of m) ≡ matches_of words_app (map string_bytes words) =
    (h simple).0 ∙ ap (λ a. matches_of a (map string_bytes words)) e in
    ap Some (options_rows m ∙ ap opts rows) ∙ sym (said_ok words none)

-- a parse that ends otherwise, where memory suffices
pub not_taken : (a : App) (words : List (String Global)) (k : ErrorKind) (error : Error) → a ≡ words_app
    → (is_simple_and_free a ≡ true → HasKind (fault_of a (map string_bytes words)) error)
    → k ≡ kind_of error → (k ≡ OutOfMemory → ⊥)
    → None ≡ said no_options (drop 1 (map string_bytes words))
not_taken a words k error e f same n =
    elim (f (ap is_simple_and_free e ∙ app_is_simple)) [
      | inl h ↦ absurd (n (same ∙ h))
      | inr h ↦ sym (said_none words (kind_of error)
          (subst (λ a. IsAmong (kind_of error) (fault_of a (map string_bytes words))) e h))
    ]
