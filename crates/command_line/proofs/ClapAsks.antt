-- The same walk, over options.
use Rattle.std.proofs.Common.{◌≡◌, ◌∙◌, ℕ, Bool, true, false, List, [], ◌∷◌, Option, Some, None, is_some, refl, sym, ap}
use Rattle.std.proofs.Common.{subst, codes, arith}
use Rattle.std.specs.Prelude.{◌==◌, if◌then◌else◌, option_and_then, option_map}
use Rattle.std.specs.Str.{IsUtf8, bytes_eq, chars}
use Rattle.std.proofs.lemmas.Str.{encodes-chars}
use Rattle.std.specs.Str.{encode_utf8_all as encodes}
use Rattle.std.proofs.lemmas.Bool.Decides.{nat_tests}
use Rattle.clap.specs.Lexer.{long_of, short_of}
use Rattle.clap.specs.Walk.{Row, Text, idle}
use Rattle.clap.specs.Faults.{walk_fault}
use Rattle.session_defs.specs.Words.{Options}
use Rattle.command_line.proofs.ClapKeys.{Opt, name_of, opt_named, grammar, brackets, nesting, steps, long, tab, make, text}
use Rattle.command_line.proofs.ClapKeys.{opt}
use Rattle.command_line.proofs.ClapWalks.{Pend, wait_of, stands, ends, ends-next, settles, on_settled, next, at_dashes}
use Rattle.command_line.proofs.ClapWalks.{at_value, at_name, at_short, at_awaited, at_name_word, at_behind, nothing, waits}
use Rattle.command_line.proofs.ClapWalks.{holds}
use Rattle.command_line.proofs.ClapRows.{get, opts, set_to, put, settle, full, bridge}

abbrev pub has_text : Options → Pend → Bool
has_text g (holds text v) = true
has_text g _ = is_some g.text

abbrev pub behind : Options → Pend → List Text → Option Options
behind g p [] = settle g p
behind g p (word ∷ words) =
    if has_text g p then None else option_and_then (λ h. behind h (holds text word) words) (settle g p)

pub data Class : Type 0 where
  dashes : Class
  flag : Text → Option Text → Class
  short : Class
  plain : Class

abbrev pub class_from : Bool → Option (Text × Option Text) → Option Text → Class
class_from true l s = dashes
class_from false (Some p) s = flag p.0 p.1
class_from false None (Some flags) = short
class_from false None None = plain

abbrev pub class_of : Text → Class
class_of word = class_from (bytes_eq word (45 ∷ 45 ∷ [])) (long_of word) (short_of word)

abbrev pub plain_asks : Options → Pend → Text → (Options → Pend → Option Options) → Option Options
plain_asks g (waits o) word more = more g (holds (opt o) word)
plain_asks g p word more =
    if has_text g p then None else option_and_then (λ h. more h (holds text word)) (settle g p)

abbrev pub class_asks : Class → Options → Pend → Text → (Options → Pend → Option Options) → Option Options → Option Options
class_asks dashes g p word more behind = behind
class_asks (flag name (Some value)) g p word more behind =
    option_and_then (λ o. option_and_then (λ h. option_and_then (λ i. more i nothing) (put h (opt o) value)) (settle g p)) (opt_named name)
class_asks (flag name None) g p word more behind =
    option_and_then (λ o. option_and_then (λ h. more h (waits o)) (settle g p)) (opt_named name)
class_asks short g p word more behind = None
class_asks plain g p word more behind = plain_asks g p word more

abbrev pub asks : Options → Pend → List Text → Option Options
asks g p [] = settle g p
asks g p (word ∷ words) = class_asks (class_of word) g p word (λ h q. asks h q words) (behind g p words)

pub and_then_some : {X : Type 0} (x : Option X) → option_and_then Some x ≡ x
and_then_some None = refl
and_then_some (Some x) = refl

pub ends_none : (rows : List Row) (p : Pend) (taken behind : Bool) → full rows ≡ true
    → option_map opts (ends (stands rows p taken behind) []) ≡ settle (opts rows) p
unfolding walk_fault
ends_none rows p taken behind f =
    ap (option_map opts) (on_settled rows p Some) ∙ (bridge rows p Some Some f (λ r a s. refl) ∙ and_then_some (settle (opts rows) p))

pub map_none_or : {X Y : Type 0} (f : X → Y) (b : Bool) (x : Option X)
    → option_map f (if b then None else x) ≡ (if b then None else option_map f x)
map_none_or f true x = refl
map_none_or f false x = refl

pub law_behind : (words : List Text) (rows : List Row) (p : Pend) (taken : Bool) → full rows ≡ true
    → taken ≡ has_text (opts rows) p
    → option_map opts (ends (stands rows p taken true) words) ≡ behind (opts rows) p words
law_behind [] rows p taken f t = ends_none rows p taken true f
law_behind (word ∷ words) rows p taken f t =
    ap (option_map opts) (ends-next (stands rows p taken true) word words ∙ at_behind rows p taken word words)
    ∙ (map_none_or opts taken _
    ∙ (ap (λ b. if b then None else option_map opts (option_and_then (λ r. ends (stands r (holds text word) true true) words) (settles rows p))) t
    ∙ (λ i. if has_text (opts rows) p then None else
    bridge rows p (λ r. ends (stands r (holds text word) true true) words) (λ h. behind h (holds text word) words) f
    (λ r a s. law_behind words r (holds text word) true a refl) i)))

pub no_text : (o : Opt) → bytes_eq (name_of o) (codes "text") ≡ false
no_text grammar = refl
no_text brackets = refl
no_text nesting = refl
no_text steps = refl
no_text long = refl
no_text tab = refl
no_text make = refl

pub set_opt_text : (o : Opt) (v : Text) (g : Options) → (set_to (opt o) v g).text ≡ g.text
set_opt_text o v g = rw (no_text o) refl

pub has_after : (g h : Options) (p : Pend) → settle g p ≡ Some h → has_text g p ≡ is_some h.text
has_after g h nothing e = let same : g ≡ h = cc in ap (λ (x : Options). is_some x.text) same
has_after g h (waits o) e = cc
has_after g h (holds text v) e = go (is_some g.text) refl
  where
    go : (b : Bool) → is_some g.text ≡ b → true ≡ is_some h.text
    go true b = let no : None ≡ Some h = rw b at e in cc
    go false b =
        let is : Some (set_to text v g) ≡ Some h = rw b at e in
        let same : set_to text v g ≡ h = cc in
        ap (λ (x : Options). is_some x.text) same
has_after g h (holds (opt o) v) e = go (is_some (get (opt o) g)) refl
  where
    go : (b : Bool) → is_some (get (opt o) g) ≡ b → is_some g.text ≡ is_some h.text
    go true b = let no : None ≡ Some h = rw b at e in cc
    go false b =
        let is : Some (set_to (opt o) v g) ≡ Some h = rw b at e in
        let same : set_to (opt o) v g ≡ h = cc in
        ap is_some (sym (set_opt_text o v g)) ∙ ap (λ (x : Options). is_some x.text) same

-- a bundle of flags has a first character
pub record HasChar (flags : Text) : Type 0 where
  pub first : ℕ
  pub rest : Text
  pub flags_are : flags ≡ first ∷ rest
  pub char : ℕ
  pub chars_left : Text
  pub chars_are : chars (first ∷ rest) ≡ char ∷ chars_left

pub text_chars : (y : ℕ) (ys : Text) → IsUtf8 (45 ∷ y ∷ ys) → HasChar (y ∷ ys)
unfolding chars lib.Utf8.encode
text_chars y ys u = go (chars (y ∷ ys)) refl
  where
    go : (cs : Text) → chars (y ∷ ys) ≡ cs → HasChar (y ∷ ys)
    go [] e =
        let is : encodes (45 ∷ []) ≡ 45 ∷ y ∷ ys = ap (λ cs. encodes (45 ∷ cs)) (sym e) ∙ encodes-chars (45 ∷ y ∷ ys) u in
        let one : encodes (45 ∷ []) ≡ 45 ∷ [] = encodes-chars (45 ∷ []) ((45 ∷ []), (refl, refl)) in
        let no : 45 ∷ [] ≡ 45 ∷ y ∷ ys = sym one ∙ is in cc
    go (c ∷ cs) e = record { first = y; rest = ys; flags_are = refl; char = c; chars_left = cs; chars_are = e }

pub short_char : (word flags : Text) → IsUtf8 word → short_of word ≡ Some flags → HasChar flags
short_char [] flags u e = cc
short_char (x ∷ []) flags u e = go (x == 45) refl
  where
    go : (b : Bool) → (x == 45) ≡ b → HasChar flags
    go true b = let no : None ≡ Some flags = rw b at e in cc
    go false b = let no : None ≡ Some flags = rw b at e in cc
short_char (x ∷ y ∷ ys) flags u e = go (x == 45) (y == 45) refl refl
  where
    go : (b c : Bool) → (x == 45) ≡ b → (y == 45) ≡ c → HasChar flags
    go false c b d = let no : None ≡ Some flags = rw b at e in cc
    go true true b d = let no : None ≡ Some flags = rw (b, d) at e in cc
    go true false b d =
        let is : Some (y ∷ ys) ≡ Some flags = rw (b, d) at e in
        let same : y ∷ ys ≡ flags = cc in
        let first : x ≡ 45 = grind (arith, nat_tests) in
        subst HasChar same (text_chars y ys (subst (λ (n : ℕ). IsUtf8 (n ∷ y ∷ ys)) first u))

abbrev pub AllText : List Text → Type 0
AllText [] = Unit {0}
AllText (word ∷ words) = IsUtf8 word × AllText words

abbrev pub Agrees : List Text → Type 0
Agrees words = (rows : List Row) (p : Pend) (taken : Bool) → full rows ≡ true → taken ≡ has_text (opts rows) p
    → option_map opts (ends (stands rows p taken false) words) ≡ asks (opts rows) p words

module _ (rows : List Row) (p : Pend) (taken : Bool) (f : full rows ≡ true) (t : taken ≡ has_text (opts rows) p)
    (word : Text) (words : List Text) (ih : Agrees words) where
  pub flag_value : (name value : Text) (o : Option Opt) → option_map opts (option_and_then (λ o.
      option_and_then (λ r. option_and_then (λ s. ends (stands s nothing taken false) words) (settles r (holds (opt o) value)))
      (settles rows p)) o)
      ≡ option_and_then (λ o. option_and_then (λ h. option_and_then (λ i. asks i nothing words) (put h (opt o) value)) (settle (opts rows) p)) o
  flag_value name value None = refl
  flag_value name value (Some o) =
      bridge rows p (λ r. option_and_then (λ s. ends (stands s nothing taken false) words) (settles r (holds (opt o) value)))
      (λ h. option_and_then (λ i. asks i nothing words) (put h (opt o) value)) f
      (λ r a s. bridge r (holds (opt o) value) (λ s. ends (stands s nothing taken false) words) (λ i. asks i nothing words) a
      (λ q b z. ih q nothing taken b (t ∙ (has_after (opts rows) (opts r) p s ∙ has_after (opts r) (opts q) (holds (opt o) value) z))))

  pub flag_alone : (o : Option Opt) → option_map opts (option_and_then (λ o.
      option_and_then (λ r. ends (stands r (waits o) taken false) words) (settles rows p)) o)
      ≡ option_and_then (λ o. option_and_then (λ h. asks h (waits o) words) (settle (opts rows) p)) o
  flag_alone None = refl
  flag_alone (Some o) =
      bridge rows p (λ r. ends (stands r (waits o) taken false) words) (λ h. asks h (waits o) words) f
      (λ r a s. ih r (waits o) taken a (t ∙ has_after (opts rows) (opts r) p s))

  pub name_word : wait_of p ≡ idle → option_map opts (if taken then None else
      option_and_then (λ r. ends (stands r (holds text word) true false) words) (settles rows p))
      ≡ (if has_text (opts rows) p then None else option_and_then (λ h. asks h (holds text word) words) (settle (opts rows) p))
  name_word i =
      map_none_or opts taken _
      ∙ (ap (λ b. if b then None else option_map opts (option_and_then (λ r. ends (stands r (holds text word) true false) words) (settles rows p))) t
      ∙ (λ i. if has_text (opts rows) p then None else
      bridge rows p (λ r. ends (stands r (holds text word) true false) words) (λ h. asks h (holds text word) words) f
      (λ r a s. ih r (holds text word) true a refl) i))

pub law_plain : (p : Pend) (rows : List Row) (taken : Bool) (f : full rows ≡ true) (t : taken ≡ has_text (opts rows) p)
    (word : Text) (words : List Text) (ih : Agrees words)
    → bytes_eq word (45 ∷ 45 ∷ []) ≡ false → long_of word ≡ None → short_of word ≡ None
    → option_map opts (next rows p taken false word words) ≡ plain_asks (opts rows) p word (λ h q. asks h q words)
law_plain nothing rows taken f t word words ih d l s =
    ap (option_map opts) (at_name_word rows nothing taken word words refl d l s) ∙ name_word rows nothing taken f t word words ih refl
law_plain (waits o) rows taken f t word words ih d l s =
    ap (option_map opts) (at_awaited rows o taken word words d l s) ∙ ih rows (holds (opt o) word) taken f t
law_plain (holds k v) rows taken f t word words ih d l s =
    ap (option_map opts) (at_name_word rows (holds k v) taken word words refl d l s)
    ∙ name_word rows (holds k v) taken f t word words ih refl

pub law_word : (rows : List Row) (p : Pend) (taken : Bool) (f : full rows ≡ true) (t : taken ≡ has_text (opts rows) p)
    (word : Text) (words : List Text) (ih : Agrees words) → IsUtf8 word
    → (d : Bool) (l : Option (Text × Option Text)) (s : Option Text)
    → bytes_eq word (45 ∷ 45 ∷ []) ≡ d → long_of word ≡ l → short_of word ≡ s
    → option_map opts (next rows p taken false word words)
    ≡ class_asks (class_from d l s) (opts rows) p word (λ h q. asks h q words) (behind (opts rows) p words)
law_word rows p taken f t word words ih u true l s d m n =
    ap (option_map opts) (at_dashes rows p taken word words d) ∙ law_behind words rows p taken f t
law_word rows p taken f t word words ih u false (Some (name, Some value)) s d m n =
    ap (option_map opts) (at_value rows p taken word name value words (opt_named name) d m refl)
    ∙ flag_value rows p taken f t word words ih name value (opt_named name)
law_word rows p taken f t word words ih u false (Some (name, None)) s d m n =
    ap (option_map opts) (at_name rows p taken word name words (opt_named name) d m refl)
    ∙ flag_alone rows p taken f t word words ih (opt_named name)
law_word rows p taken f t word words ih u false None (Some flags) d m n =
    let h = short_char word flags u n in
    ap (option_map opts) (at_short rows p taken word h.rest h.chars_left h.first h.char words d m (n ∙ ap Some h.flags_are) h.chars_are)
law_word rows p taken f t word words ih u false None None d m n = law_plain p rows taken f t word words ih d m n

pub law_asks : (words : List Text) → AllText words → Agrees words
law_asks [] u rows p taken f t = ends_none rows p taken false f
law_asks (word ∷ words) u rows p taken f t =
    ap (option_map opts) (ends-next (stands rows p taken false) word words)
    ∙ law_word rows p taken f t word words (law_asks words u.1) u.0 (bytes_eq word (45 ∷ 45 ∷ [])) (long_of word) (short_of word) refl refl refl
