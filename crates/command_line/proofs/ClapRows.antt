-- The options that the rows of a walk hold.
use Rattle.std.proofs.Common.{◌≡◌, ◌∙◌, ℕ, Bool, true, false, List, [], ◌∷◌, ◌++◌, Option, Some, None, is_some, refl}
use Rattle.std.proofs.Common.{sym, ap, true≢false}
use Rattle.std.specs.Prelude.{if◌then◌else◌, option_and_then, option_map, slice_get}
use Rattle.std.specs.List.{list_all}
use Rattle.std.specs.Str.{bytes_eq}
use Rattle.std.proofs.lemmas.Slice.Eq.{bytes_eq-Decides}
use Rattle.std.proofs.lemmas.List.{append-nil}
use Rattle.clap.specs.Walk.{at_row, more_values, Row, Text, first_of, has_row, used, with_values}
use Rattle.clap.specs.declared.builder.value_parser.Reading.TheVariants.{AsWritten}
use Rattle.clap.specs.declared.parser.matches.ValueSource.TheVariants.{CommandLine}
use Rattle.session_defs.specs.Words.{Options}
use Rattle.command_line.proofs.ClapKeys.{Key, id_of, rule_at, grammar, brackets, nesting, steps, long, tab, make, text, opt}
use Rattle.command_line.proofs.ClapWalks.{Pend, settles, nothing, waits, holds}

abbrev pub options : (Key → Option Text) → Options
options f = record {
  text = f text;
  grammar = f (opt grammar);
  brackets = f (opt brackets);
  nesting = f (opt nesting);
  steps = f (opt steps);
  long = f (opt long);
  tab = f (opt tab);
  make = f (opt make);
}

abbrev pub get : Key → Options → Option Text
get text g = g.text
get (opt grammar) g = g.grammar
get (opt brackets) g = g.brackets
get (opt nesting) g = g.nesting
get (opt steps) g = g.steps
get (opt long) g = g.long
get (opt tab) g = g.tab
get (opt make) g = g.make

abbrev pub opts : List Row → Options
opts rows = options (λ k. first_of (id_of k) rows)

pub get_opts : (k : Key) (rows : List Row) → get k (opts rows) ≡ first_of (id_of k) rows
get_opts text rows = refl
get_opts (opt grammar) rows = refl
get_opts (opt brackets) rows = refl
get_opts (opt nesting) rows = refl
get_opts (opt steps) rows = refl
get_opts (opt long) rows = refl
get_opts (opt tab) rows = refl
get_opts (opt make) rows = refl

abbrev pub set_to : Key → Text → Options → Options
set_to k v g = options (λ i. if bytes_eq (id_of k) (id_of i) then Some v else get i g)

abbrev pub put : Options → Key → Text → Option Options
put g k v = if is_some (get k g) then None else Some (set_to k v g)

abbrev pub settle : Options → Pend → Option Options
settle g nothing = Some g
settle g (waits k) = None
settle g (holds k v) = put g k v

-- each row has a value
abbrev pub has_value : Row → Bool
has_value r = is_some (slice_get r.values 0)

abbrev pub full : List Row → Bool
full rows = list_all has_value rows

pub has_row-first : (id : Text) (rows : List Row) → full rows ≡ true → has_row id rows ≡ is_some (first_of id rows)
has_row-first id [] f = refl
has_row-first id (r ∷ rs) f = go (has_row-first id rs) (bytes_eq r.id id) (has_value r) refl refl
  where
    go : (full rs ≡ true → has_row id rs ≡ is_some (first_of id rs)) → (b v : Bool) → bytes_eq r.id id ≡ b
        → has_value r ≡ v → has_row id (r ∷ rs) ≡ is_some (first_of id (r ∷ rs))
    go ih true true e h = rw (e, h) refl
    go ih true false e h = absurd (true≢false (sym (rw h at f)))
    go ih false true e h = rw e (ih (rw h at f))
    go ih false false e h = absurd (true≢false (sym (rw h at f)))

pub absent : (id : Text) (change : Row → List Row) (missing rows : List Row) → has_row id rows ≡ false
    → at_row id change missing rows ≡ rows ++ missing
absent id change missing [] e = refl
absent id change missing (r ∷ rs) e = go (absent id change missing rs) (bytes_eq r.id id) refl
  where
    go : (has_row id rs ≡ false → at_row id change missing rs ≡ rs ++ missing) → (b : Bool) → bytes_eq r.id id ≡ b
        → at_row id change missing (r ∷ rs) ≡ (r ∷ rs) ++ missing
    go ih true b = absurd (true≢false (rw b at e))
    go ih false b = rw b (ap (λ xs. r ∷ xs) (ih (rw b at e)))

abbrev pub row_with : Text → Text → Row
row_with id v = record { id = id; values = v ∷ []; count = None; source = Some CommandLine; reading = AsWritten }

pub used_row : (k : Key) (v : Text) (rows : List Row) → has_row (id_of k) rows ≡ false
    → used (rule_at k) (v ∷ []) rows ≡ rows ++ row_with (id_of k) v ∷ []
used_row k v rows e =
    ap (λ xs. with_values (id_of k) AsWritten CommandLine (v ∷ []) xs)
    (absent (id_of k) (λ _. []) [] rows e ∙ append-nil rows) ∙ absent (id_of k) (more_values CommandLine (v ∷ [])) (row_with (id_of k) v ∷ []) rows e

pub eq_from : (xs ys : List ℕ) → bytes_eq xs ys ≡ true → xs ≡ ys
eq_from xs ys e = (bytes_eq-Decides xs ys).0 e

pub to_eq : (xs ys : List ℕ) → xs ≡ ys → bytes_eq xs ys ≡ true
to_eq xs ys e = (bytes_eq-Decides xs ys).1 e

pub first_at : (id i v : Text) (rows : List Row) → has_row id rows ≡ false
    → first_of i (rows ++ row_with id v ∷ []) ≡ (if bytes_eq id i then Some v else first_of i rows)
first_at id i v [] e = go (bytes_eq id i) refl
  where
    go : (b : Bool) → bytes_eq id i ≡ b
        → first_of i (row_with id v ∷ []) ≡ (if bytes_eq id i then Some v else None)
    go true b = rw b refl
    go false b = rw b refl
first_at id i v (r ∷ rs) e =
    go (first_at id i v rs) (bytes_eq r.id i) (bytes_eq id i) (bytes_eq r.id id) refl refl refl
  where
    go : (has_row id rs ≡ false → first_of i (rs ++ row_with id v ∷ []) ≡ (if bytes_eq id i then Some v else first_of i rs))
        → (b d f : Bool) → bytes_eq r.id i ≡ b → bytes_eq id i ≡ d → bytes_eq r.id id ≡ f
        → first_of i ((r ∷ rs) ++ row_with id v ∷ []) ≡ (if bytes_eq id i then Some v else first_of i (r ∷ rs))
    go ih b d true x y z = absurd (true≢false (rw z at e))
    go ih true true false x y z =
        absurd (true≢false (sym (to_eq r.id id (eq_from r.id i x ∙ sym (eq_from id i y))) ∙ z))
    go ih true false false x y z = rw (x, y) refl
    go ih false d false x y z = rw x (ih (rw z at e))

pub full_push : (id v : Text) (rows : List Row) → full rows ≡ true → full (rows ++ row_with id v ∷ []) ≡ true
full_push id v [] f = refl
full_push id v (r ∷ rs) f = go (full_push id v rs) (has_value r) refl
  where
    go : (full rs ≡ true → full (rs ++ row_with id v ∷ []) ≡ true) → (b : Bool) → has_value r ≡ b
        → full ((r ∷ rs) ++ row_with id v ∷ []) ≡ true
    go ih true b = rw b (ih (rw b at f))
    go ih false b = absurd (true≢false (sym (rw b at f)))

pub opts_used : (k : Key) (v : Text) (rows : List Row) → has_row (id_of k) rows ≡ false
    → opts (used (rule_at k) (v ∷ []) rows) ≡ set_to k v (opts rows)
opts_used k v rows e =
    ap opts (used_row k v rows e) ∙ (λ j. options (λ i. first_at (id_of k) (id_of i) v rows e j))

pub full_used : (k : Key) (v : Text) (rows : List Row) → has_row (id_of k) rows ≡ false → full rows ≡ true
    → full (used (rule_at k) (v ∷ []) rows) ≡ true
full_used k v rows e f = ap full (used_row k v rows e) ∙ full_push (id_of k) v rows f

-- what is told of rows is told of their options
pub bridge : (rows : List Row) (p : Pend) (f : List Row → Option (List Row)) (g : Options → Option Options)
    → full rows ≡ true
    → ((r : List Row) → full r ≡ true → settle (opts rows) p ≡ Some (opts r) → option_map opts (f r) ≡ g (opts r))
    → option_map opts (option_and_then f (settles rows p)) ≡ option_and_then g (settle (opts rows) p)
bridge rows nothing f g a h = h rows a refl
bridge rows (waits k) f g a h = refl
bridge rows (holds k v) f g a h = go (has_row (id_of k) rows) refl
  where
    has : is_some (get k (opts rows)) ≡ has_row (id_of k) rows
    has = ap is_some (get_opts k rows) ∙ sym (has_row-first (id_of k) rows a)

    go : (b : Bool) → has_row (id_of k) rows ≡ b
        → option_map opts (option_and_then f (settles rows (holds k v))) ≡ option_and_then g (settle (opts rows) (holds k v))
    go true b = rw (has, b) refl
    go false b =
        let same = opts_used k v rows b in
        let is : settle (opts rows) (holds k v) ≡ Some (opts (used (rule_at k) (v ∷ []) rows)) = rw (has, b) (ap Some (sym same)) in
        rw (is, b) (h (used (rule_at k) (v ∷ []) rows) (full_used k v rows b a) is)
