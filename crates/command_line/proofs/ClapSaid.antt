-- What is said, word after word, is what the walk over options gives.
use Rattle.std.proofs.Common.{◌≡◌, ◌∙◌, Bool, true, false, List, [], ◌∷◌, length, Option, Some, None, is_some, refl, sym, ap}
use Rattle.std.specs.Prelude.{if◌then◌else◌, option_and_then, nat_lt}
use Rattle.std.specs.List.{before_first, after_first, position_or_len}
use Rattle.std.proofs.Math.Seq.{take-length}
use Rattle.clap.specs.Walk.{Text, idle}
use Rattle.session_defs.specs.Words.{Options, is_plain, is_equals, with_text, with_option, plain_words, with_value}
use Rattle.session_defs.specs.Words.{with_value_at_last, said}
use Rattle.command_line.proofs.ClapKeys.{Opt, opt_named, text, opt}
use Rattle.command_line.proofs.ClapWalks.{Pend, wait_of, nothing, waits, holds}
use Rattle.command_line.proofs.ClapRows.{set_to, put, settle}
use Rattle.command_line.proofs.ClapAsks.{has_text, behind, Class, class_of, class_asks, asks, and_then_some, has_after}
use Rattle.command_line.proofs.ClapAsks.{dashes, flag, short, plain}
use Rattle.command_line.proofs.ClapFacts.{with_text-put, with_option-put, Facts, facts}

abbrev pub awaited : Options → Opt → List Text → Option Options
awaited g o [] = None
awaited g o (n ∷ words) = if is_plain n then option_and_then (λ h. said h words) (put g (opt o) n) else None

pub said-dashes : (g : Options) (word : Text) (words : List Text) → Facts dashes word → said g (word ∷ words) ≡ plain_words g words
said-dashes g word [] f = rw f.0 refl
said-dashes g word (n ∷ words) f = rw f.0 refl

pub said-plain : (g : Options) (word : Text) (words : List Text) → Facts plain word
    → said g (word ∷ words) ≡ option_and_then (λ h. said h words) (with_text g word)
said-plain g word [] f = rw (f.0, f.1) (sym (and_then_some (with_text g word)))
said-plain g word (n ∷ words) f = rw (f.0, f.1) refl

pub said-value : (g : Options) (word name v : Text) (words : List Text) → Facts (flag name (Some v)) word
    → said g (word ∷ words) ≡ option_and_then (λ h. said h words) (with_option g (45 ∷ 45 ∷ name) v)
said-value g word name v [] f = rw (f.0, f.1, f.2) (sym (and_then_some (with_option g (45 ∷ 45 ∷ name) v)))
said-value g word name v (n ∷ words) f = rw (f.0, f.1, f.2) refl

-- an option in the next word: where there is none of this name, and where there is
pub said-alone : (g : Options) (word name : Text) (words : List Text) → Facts (flag name None) word
    → said g (word ∷ words) ≡ option_and_then (λ o. awaited g o words) (opt_named name)
said-alone g word name [] f = rw (f.0, f.1, f.2) (none_of (opt_named name))
  where
    none_of : (o : Option Opt) → None ≡ option_and_then (λ o. awaited g o []) o
    none_of None = refl
    none_of (Some o) = refl
said-alone g word name (n ∷ words) f =
    rw (f.0, f.1, f.2) (ap (λ w. if is_plain n then option_and_then (λ h. said h words) (with_option g w n) else None) (f.3 refl)
    ∙ (ap (λ h. if is_plain n then option_and_then (λ h. said h words) h else None) (with_option-put g name n) ∙ each (is_plain n) (opt_named name)))
  where
    each : (b : Bool) (o : Option Opt) → (if b then option_and_then (λ h. said h words) (option_and_then (λ o. put g (opt o) n) o) else None)
        ≡ option_and_then (λ o. if b then option_and_then (λ h. said h words) (put g (opt o) n) else None) o
    each true None = refl
    each true (Some o) = refl
    each false None = refl
    each false (Some o) = refl

pub said-short : (g : Options) (word : Text) (words : List Text) → Facts short word → said g (word ∷ words) ≡ None
said-short g word [] f = rw (f.0, f.1) (go (nat_lt (position_or_len is_equals word) (length word)))
  where
    go : (b : Bool) → with_value_at_last g (if b then Some (before_first is_equals word, after_first is_equals word) else None) ≡ None
    go true = f.2 g (position_or_len is_equals word) (after_first is_equals word)
    go false = refl
said-short g word (n ∷ words) f = rw (f.0, f.1) (go (nat_lt (position_or_len is_equals word) (length word)))
  where
    whole : with_option g word n ≡ None
    whole = ap (λ w. with_option g w n) (sym (take-length word)) ∙ f.2 g (length word) n

    if_none : (b : Bool) → (if b then option_and_then (λ h. said h words) None else None) ≡ None
    if_none true = refl
    if_none false = refl

    go : (b : Bool) → with_value g word n (if b then Some (before_first is_equals word, after_first is_equals word) else None)
        (λ g. said g (n ∷ words)) (λ g. said g words) ≡ None
    go true = ap (option_and_then (λ g. said g (n ∷ words))) (f.2 g (position_or_len is_equals word) (after_first is_equals word))
    go false = ap (λ h. if is_plain n then option_and_then (λ h. said h words) h else None) whole ∙ if_none (is_plain n)

-- ---- the walk over options says the same

abbrev pub no_one : Option Options
no_one = None

pub if_none_else : (b : Bool) → (if b then no_one else no_one) ≡ no_one
if_none_else true = refl
if_none_else false = refl

pub text_of : (b : Bool) (more : Options → Option Options) (h : Options)
    → (if b then None else option_and_then more (if b then None else Some h)) ≡ option_and_then more (if b then None else Some h)
text_of true more h = refl
text_of false more h = refl

pub text_step : (g : Options) (p : Pend) (word : Text) (all more : Options → Option Options)
    → ((h : Options) → all h ≡ option_and_then more (put h text word))
    → (if has_text g p then None else option_and_then all (settle g p))
    ≡ option_and_then (λ h. option_and_then more (with_text h word)) (settle g p)
text_step g p word all more a = go (settle g p) refl
  where
    go : (o : Option Options) → settle g p ≡ o → (if has_text g p then None else option_and_then all o)
        ≡ option_and_then (λ h. option_and_then more (with_text h word)) o
    go None e = if_none_else (has_text g p)
    go (Some h) e =
        ap (λ b. if b then None else all h) (has_after g h p e)
        ∙ (ap (λ x. if is_some h.text then None else x) (a h)
        ∙ (text_of (is_some h.text) more (set_to text word h) ∙ ap (option_and_then more) (sym (with_text-put h word))))

pub behind_said : (words : List Text) (g : Options) (p : Pend)
    → behind g p words ≡ option_and_then (λ h. plain_words h words) (settle g p)
behind_said [] g p = sym (and_then_some (settle g p))
behind_said (word ∷ words) g p =
    text_step g p word (λ h. behind h (holds text word) words) (λ h. plain_words h words)
    (λ h. behind_said words h (holds text word))

abbrev pub tells : Options → Pend → List Text → Option Options
tells g (waits o) words = awaited g o words
tells g p words = option_and_then (λ h. said h words) (settle g p)

abbrev pub Tells : List Text → Type 0
Tells words = (g : Options) (p : Pend) → asks g p words ≡ tells g p words

pub none_for : {X : Type 0} (o : Option X) → option_and_then (λ o. no_one) o ≡ no_one
none_for None = refl
none_for (Some o) = refl

pub value_said : (words : List Text) (ih : Tells words) (n : Option Opt) (s : Option Options) (v : Text)
    → option_and_then (λ o. option_and_then (λ h. option_and_then (λ i. asks i nothing words) (put h (opt o) v)) s) n
    ≡ option_and_then (λ h. option_and_then (λ i. said i words) (option_and_then (λ o. put h (opt o) v) n)) s
value_said words ih None s v = sym (none_for s)
value_said words ih (Some o) s v = λ j. option_and_then (λ h. option_and_then (λ i. ih i nothing j) (put h (opt o) v)) s

pub alone_said : (words : List Text) (ih : Tells words) (n : Option Opt) (s : Option Options)
    → option_and_then (λ o. option_and_then (λ h. asks h (waits o) words) s) n
    ≡ option_and_then (λ h. option_and_then (λ o. awaited h o words) n) s
alone_said words ih None s = sym (none_for s)
alone_said words ih (Some o) s = λ j. option_and_then (λ h. ih h (waits o) j) s

pub step_idle : (word : Text) (words : List Text) (ih : Tells words) (g : Options) (p : Pend) (c : Class) → Facts c word
    → wait_of p ≡ idle → class_asks c g p word (λ h q. asks h q words) (behind g p words)
    ≡ option_and_then (λ h. said h (word ∷ words)) (settle g p)
step_idle word words ih g p dashes f i =
    behind_said words g p ∙ (λ j. option_and_then (λ h. sym (said-dashes h word words f) j) (settle g p))
step_idle word words ih g p (flag name (Some v)) f i =
    value_said words ih (opt_named name) (settle g p) v
    ∙ ((λ j. option_and_then (λ h. option_and_then (λ i. said i words) (sym (with_option-put h name v) j)) (settle g p))
    ∙ (λ j. option_and_then (λ h. sym (said-value h word name v words f) j) (settle g p)))
step_idle word words ih g p (flag name None) f i =
    alone_said words ih (opt_named name) (settle g p)
    ∙ (λ j. option_and_then (λ h. sym (said-alone h word name words f) j) (settle g p))
step_idle word words ih g p short f i =
    sym (none_for (settle g p)) ∙ (λ j. option_and_then (λ h. sym (said-short h word words f) j) (settle g p))
step_idle word words ih g nothing plain f i =
    text_step g nothing word (λ h. asks h (holds text word) words) (λ h. said h words) (λ h. ih h (holds text word))
    ∙ (λ j. option_and_then (λ h. sym (said-plain h word words f) j) (settle g nothing))
step_idle word words ih g (waits o) plain f i = cc
step_idle word words ih g (holds k v) plain f i =
    text_step g (holds k v) word (λ h. asks h (holds text word) words) (λ h. said h words) (λ h. ih h (holds text word))
    ∙ (λ j. option_and_then (λ h. sym (said-plain h word words f) j) (settle g (holds k v)))

pub behind_waits : (words : List Text) (g : Options) (o : Opt) → behind g (waits o) words ≡ None
behind_waits words g o = behind_said words g (waits o)

pub step_waits : (word : Text) (words : List Text) (ih : Tells words) (g : Options) (o : Opt) (c : Class) → Facts c word
    → class_asks c g (waits o) word (λ h q. asks h q words) (behind g (waits o) words) ≡ awaited g o (word ∷ words)
step_waits word words ih g o dashes f = rw f.1 (behind_waits words g o)
step_waits word words ih g o (flag name (Some v)) f = rw f.1 (none_for (opt_named name))
step_waits word words ih g o (flag name None) f = rw f.1 (none_for (opt_named name))
step_waits word words ih g o short f = rw f.1 refl
step_waits word words ih g o plain f = rw f.1 (ih g (holds (opt o) word))

pub asks_said : (words : List Text) → Tells words
asks_said [] g nothing = refl
asks_said [] g (waits o) = refl
asks_said [] g (holds k v) = sym (and_then_some (put g k v))
asks_said (word ∷ words) g nothing = step_idle word words (asks_said words) g nothing (class_of word) (facts word) refl
asks_said (word ∷ words) g (waits o) = step_waits word words (asks_said words) g o (class_of word) (facts word)
asks_said (word ∷ words) g (holds k v) = step_idle word words (asks_said words) g (holds k v) (class_of word) (facts word) refl
