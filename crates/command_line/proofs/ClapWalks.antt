-- Where the walk of the command over words stands, and one more word.
use Rattle.std.proofs.Common.{◌≡◌, ◌∙◌, ℕ, Bool, true, false, ◌&&◌, List, [], ◌∷◌, Option, Some, None, refl}
use Rattle.std.specs.Prelude.{if◌then◌else◌, option_and_then, fold}
use Rattle.std.specs.Str.{bytes_eq, chars}
use Rattle.clap.specs.Lexer.{long_of, short_of}
use Rattle.clap.specs.Kinds.{Kinds, or_else}
use Rattle.clap.specs.Walk.{Held, Row, Text, Waiting, Walk, has_row, idle, settled, settled_rows, used, walked}
use Rattle.clap.specs.Walk.{option as awaits}
use Rattle.clap.specs.Faults.{settle_fault, turn_fault, use_fault, walk_fault, flags_fault}
use Rattle.command_line.proofs.ClapKeys.{Opt, Key, name_of, id_of, rule_at, shape, by_id, same_id, opt_named, opt_rule}
use Rattle.command_line.proofs.ClapKeys.{by_long, text, opt}

pub data Pend : Type 0 where
  nothing : Pend
  waits : Opt → Pend
  holds : Key → Text → Pend

abbrev pub pend_of : Pend → Option (Text × List Text)
pend_of nothing = None
pend_of (waits o) = Some (name_of o, [])
pend_of (holds k v) = Some (id_of k, v ∷ [])

abbrev pub wait_of : Pend → Waiting
wait_of (waits o) = awaits (name_of o)
wait_of _ = idle

abbrev pub held_at : List Row → Pend → Held
held_at rows p = record { rows = rows; pending = pend_of p; skip = 0 }

abbrev pub place : Bool → ℕ
place taken = if taken then 2 else 1

abbrev pub stands : List Row → Pend → Bool → Bool → Walk
stands rows p taken behind = record {
  held = held_at rows p;
  waiting = wait_of p;
  position = place taken;
  is_trailing = behind;
  stopped = None;
}

abbrev pub guard : {X : Type 0} → Kinds → Option X → Option X
guard [] x = x
guard (k ∷ ks) x = None

pub guard-or : {X : Type 0} (a b : Kinds) (x : Option X) → guard (or_else a b) x ≡ guard a (guard b x)
guard-or [] b x = refl
guard-or (k ∷ ks) b x = refl

pub guard-none : {X : Type 0} (a : Kinds) → guard {X = X} a None ≡ None
guard-none [] = refl
guard-none (k ∷ ks) = refl

-- the rows at the end of a walk from here, where it passes
abbrev pub ends : Walk → List Text → Option (List Row)
ends w words =
    let end = fold (walked shape.rules []) w words in
    guard (walk_fault shape [] w words) (guard (settle_fault shape.rules false end.held) (Some (settled shape.rules end.held).rows))

pub ends-next : (w : Walk) (word : Text) (words : List Text)
    → ends w (word ∷ words) ≡ guard (turn_fault shape [] w word) (ends (walked shape.rules [] w word) words)
unfolding walk_fault
ends-next w word words = guard-or (turn_fault shape [] w word) (walk_fault shape [] (walked shape.rules [] w word) words) _

-- ---- a use is settled

abbrev pub settles : List Row → Pend → Option (List Row)
settles rows nothing = Some rows
settles rows (waits k) = None
settles rows (holds k v) = if has_row (id_of k) rows then None else Some (used (rule_at k) (v ∷ []) rows)

pub use_guard : {X : Type 0} (k : Key) (v : Text) (rows : List Row) (x : Option X)
    → guard (use_fault false (rule_at k) (v ∷ []) rows) x ≡ (if has_row (id_of k) rows then None else x)
use_guard k v rows x = go (has_row (id_of k) rows) refl
  where
    go : (b : Bool) → has_row (id_of k) rows ≡ b → guard (use_fault false (rule_at k) (v ∷ []) rows) x ≡ (if has_row (id_of k) rows then None else x)
    go true e = rw e refl
    go false e = rw e refl

pub none_or : {X Y : Type 0} (b : Bool) (x : X) (f : X → Option Y)
    → (if b then None else f x) ≡ option_and_then f (if b then None else Some x)
none_or true x f = refl
none_or false x f = refl

pub on_used : {X : Type 0} (k : Key) (v : Text) (rows : List Row) (f : List Row → Option X)
    → guard (use_fault false (rule_at k) (v ∷ []) rows) (f (used (rule_at k) (v ∷ []) rows))
    ≡ option_and_then f (settles rows (holds k v))
on_used k v rows f = use_guard k v rows _ ∙ none_or (has_row (id_of k) rows) (used (rule_at k) (v ∷ []) rows) f

pub on_settled : {X : Type 0} (rows : List Row) (p : Pend) (f : List Row → Option X)
    → guard (settle_fault shape.rules false (held_at rows p)) (f (settled_rows shape.rules (pend_of p) rows))
    ≡ option_and_then f (settles rows p)
on_settled rows nothing f = refl
on_settled rows (waits o) f = rw (by_id (opt o)) refl
on_settled rows (holds k v) f = rw (by_id k) (on_used k v rows f)

-- ---- one word

pub and-false : (b : Bool) → (b && false) ≡ false
and-false true = refl
and-false false = refl

abbrev pub next : List Row → Pend → Bool → Bool → Text → List Text → Option (List Row)
next rows p taken behind word words =
    guard (turn_fault shape [] (stands rows p taken behind) word)
    (ends (walked shape.rules [] (stands rows p taken behind) word) words)

pub at_dashes : (rows : List Row) (p : Pend) (taken : Bool) (word : Text) (words : List Text)
    → bytes_eq word (45 ∷ 45 ∷ []) ≡ true → next rows p taken false word words ≡ ends (stands rows p taken true) words
unfolding walked
at_dashes rows nothing taken word words e = rw e refl
at_dashes rows (waits k) taken word words e = rw e refl
at_dashes rows (holds k v) taken word words e = rw e refl

abbrev pub on_value : List Row → Bool → Text → List Text → Opt → List Row → Option (List Row)
on_value rows taken value words o r =
    option_and_then (λ s. ends (stands s nothing taken false) words) (settles r (holds (opt o) value))

pub value_settled : (rows : List Row) (p : Pend) (taken : Bool) (value : Text) (words : List Text) (o : Opt)
    → guard (or_else (or_else (settle_fault shape.rules false (held_at rows p))
    (use_fault false (opt_rule o) (value ∷ []) (settled_rows shape.rules (pend_of p) rows))) [])
    (ends (stands (used (opt_rule o) (value ∷ []) (settled_rows shape.rules (pend_of p) rows)) nothing taken false) words)
    ≡ option_and_then (on_value rows taken value words o) (settles rows p)
value_settled rows p taken value words o =
    guard-or (or_else (settle_fault shape.rules false (held_at rows p))
    (use_fault false (opt_rule o) (value ∷ []) (settled_rows shape.rules (pend_of p) rows))) [] _
    ∙ (guard-or (settle_fault shape.rules false (held_at rows p))
    (use_fault false (opt_rule o) (value ∷ []) (settled_rows shape.rules (pend_of p) rows)) _
    ∙ (on_settled rows p (λ r. guard (use_fault false (opt_rule o) (value ∷ []) r)
    (ends (stands (used (opt_rule o) (value ∷ []) r) nothing taken false) words))
    ∙ (λ i. option_and_then (λ r. on_used (opt o) value r (λ s. ends (stands s nothing taken false) words) i) (settles rows p))))

pub at_value : (rows : List Row) (p : Pend) (taken : Bool) (word name value : Text) (words : List Text) (o : Option Opt)
    → bytes_eq word (45 ∷ 45 ∷ []) ≡ false → long_of word ≡ Some (name, Some value) → opt_named name ≡ o
    → next rows p taken false word words ≡ option_and_then (λ o.
    option_and_then (λ r. option_and_then (λ s. ends (stands s nothing taken false) words) (settles r (holds (opt o) value)))
    (settles rows p)) o
unfolding walked
at_value rows nothing taken word name value words None e l n = rw (e, l, by_long name, n) refl
at_value rows nothing taken word name value words (Some o) e l n =
    rw (e, l, by_long name, n) (value_settled rows nothing taken value words o)
at_value rows (waits k) taken word name value words None e l n = rw (e, l, by_long name, n) refl
at_value rows (waits k) taken word name value words (Some o) e l n =
    rw (e, l, by_long name, n) (value_settled rows (waits k) taken value words o)
at_value rows (holds k v) taken word name value words None e l n = rw (e, l, by_long name, n) refl
at_value rows (holds k v) taken word name value words (Some o) e l n =
    rw (e, l, by_long name, n) (value_settled rows (holds k v) taken value words o)

pub at_name : (rows : List Row) (p : Pend) (taken : Bool) (word name : Text) (words : List Text) (o : Option Opt)
    → bytes_eq word (45 ∷ 45 ∷ []) ≡ false → long_of word ≡ Some (name, None) → opt_named name ≡ o
    → next rows p taken false word words ≡ option_and_then (λ o.
    option_and_then (λ r. ends (stands r (waits o) taken false) words) (settles rows p)) o
unfolding walked
at_name rows nothing taken word name words None e l n = rw (e, l, by_long name, n) refl
at_name rows nothing taken word name words (Some o) e l n =
    rw (e, l, by_long name, n) (guard-or (settle_fault shape.rules false (held_at rows nothing)) [] _
    ∙ on_settled rows nothing (λ r. ends (stands r (waits o) taken false) words))
at_name rows (waits k) taken word name words None e l n = rw (e, l, by_long name, n) refl
at_name rows (waits k) taken word name words (Some o) e l n =
    rw (e, l, by_long name, n) (guard-or (settle_fault shape.rules false (held_at rows (waits k))) [] _
    ∙ on_settled rows (waits k) (λ r. ends (stands r (waits o) taken false) words))
at_name rows (holds k v) taken word name words None e l n = rw (e, l, by_long name, n) refl
at_name rows (holds k v) taken word name words (Some o) e l n =
    rw (e, l, by_long name, n) (guard-or (settle_fault shape.rules false (held_at rows (holds k v))) [] _
    ∙ on_settled rows (holds k v) (λ r. ends (stands r (waits o) taken false) words))

pub at_short : (rows : List Row) (p : Pend) (taken : Bool) (word flags cs : Text) (x c : ℕ) (words : List Text)
    → bytes_eq word (45 ∷ 45 ∷ []) ≡ false → long_of word ≡ None → short_of word ≡ Some (x ∷ flags)
    → chars (x ∷ flags) ≡ c ∷ cs → next rows p taken false word words ≡ None
unfolding flags_fault
at_short rows nothing taken word flags cs x c words e l s h = rw (e, l, s, h) refl
at_short rows (waits k) taken word flags cs x c words e l s h = rw (e, l, s, h) refl
at_short rows (holds k v) taken word flags cs x c words e l s h = rw (e, l, s, h) refl

pub at_awaited : (rows : List Row) (o : Opt) (taken : Bool) (word : Text) (words : List Text)
    → bytes_eq word (45 ∷ 45 ∷ []) ≡ false → long_of word ≡ None → short_of word ≡ None
    → next rows (waits o) taken false word words ≡ ends (stands rows (holds (opt o) word) taken false) words
unfolding walked
at_awaited rows o taken word words e l s = rw (e, l, s, by_id (opt o), same_id (opt o)) refl

pub at_name_word : (rows : List Row) (p : Pend) (taken : Bool) (word : Text) (words : List Text)
    → wait_of p ≡ idle
    → bytes_eq word (45 ∷ 45 ∷ []) ≡ false → long_of word ≡ None → short_of word ≡ None
    → next rows p taken false word words ≡ (if taken then None else
    option_and_then (λ r. ends (stands r (holds text word) true false) words) (settles rows p))
unfolding walked
at_name_word rows nothing true word words i e l s = rw (e, l, s) refl
at_name_word rows nothing false word words i e l s = rw (e, l, s) refl
at_name_word rows (waits k) taken word words i e l s = cc
at_name_word rows (holds k v) true word words i e l s = rw (e, l, s) refl
at_name_word rows (holds k v) false word words i e l s =
    rw (e, l, s, and-false) (on_settled rows (holds k v) (λ r. ends (stands r (holds text word) true false) words))

pub at_behind : (rows : List Row) (p : Pend) (taken : Bool) (word : Text) (words : List Text)
    → next rows p taken true word words ≡ (if taken then None else
    option_and_then (λ r. ends (stands r (holds text word) true true) words) (settles rows p))
unfolding walked
at_behind rows p true word words = refl
at_behind rows nothing false word words = refl
at_behind rows (waits k) false word words =
    rw and-false (on_settled rows (waits k) (λ r. ends (stands r (holds text word) true true) words))
at_behind rows (holds k v) false word words =
    rw and-false (on_settled rows (holds k v) (λ r. ends (stands r (holds text word) true true) words))
