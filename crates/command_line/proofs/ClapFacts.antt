-- One word of what is said.
use Rattle.std.proofs.Common.{◌≡◌, ◌∙◌, ◌+◌, ℕ, Bool, true, false, ◌||◌, zero, suc, List, [], ◌∷◌, length, take, drop, Option}
use Rattle.std.proofs.Common.{Some, None, is_some, refl, sym, ap, subst, codes, arith, true≢false}
use Rattle.std.specs.Prelude.{◌==◌, if◌then◌else◌, option_and_then, option_map, nat_lt}
use Rattle.std.specs.List.{before_first, after_first, position_or_len}
use Rattle.std.specs.Str.{bytes_eq}
use Rattle.std.proofs.lemmas.Bool.Decides.{nat_tests}
use Rattle.clap.specs.Lexer.{has_byte}
use Rattle.clap.specs.Walk.{Text}
use Rattle.session_defs.specs.Words.{Options, is_plain, is_equals, parted, once, with_text, with_option}
use Rattle.command_line.proofs.ClapKeys.{Opt, named, first_opt, opt_named, grammar, brackets, nesting, steps, long, tab, make}
use Rattle.command_line.proofs.ClapKeys.{text, opt}
use Rattle.command_line.proofs.ClapRows.{put, eq_from, to_eq}
use Rattle.command_line.proofs.ClapAsks.{Class, class_of, dashes, flag, short, plain}

pub or-false : (b : Bool) → (b || false) ≡ b
or-false true = refl
or-false false = refl

pub eq_sym : (xs ys : List ℕ) → bytes_eq xs ys ≡ bytes_eq ys xs
eq_sym xs ys = go (bytes_eq xs ys) (bytes_eq ys xs) refl refl
  where
    go : (b c : Bool) → bytes_eq xs ys ≡ b → bytes_eq ys xs ≡ c → bytes_eq xs ys ≡ bytes_eq ys xs
    go true c b d = b ∙ sym (to_eq ys xs (sym (eq_from xs ys b)))
    go false true b d = to_eq xs ys (sym (eq_from ys xs d)) ∙ sym d
    go false false b d = b ∙ sym d

pub is_named : (id name : Text) → bytes_eq name id ≡ named id name
is_named id name = eq_sym name id ∙ sym (or-false (bytes_eq id name))

pub arm : (m : Option Text) (f : Option Text → Options) (v : Text)
    → option_map f (once m v) ≡ (if is_some m then None else Some (f (Some v)))
arm None f v = refl
arm (Some m) f v = refl

pub with_text-put : (g : Options) (v : Text) → with_text g v ≡ put g text v
with_text-put g v = arm g.text (λ v. record g { text = v }) v

pub each_opt : (b c d e f g h : Bool) (K : Opt → Option Options)
    → (if b then K grammar else (if c then K brackets else (if d then K nesting else (if e then K steps
    else (if f then K long else (if g then K tab else (if h then K make else None))))))) ≡ option_and_then K (first_opt b c d e f g h)
each_opt true c d e f g h K = refl
each_opt false true d e f g h K = refl
each_opt false false true e f g h K = refl
each_opt false false false true f g h K = refl
each_opt false false false false true g h K = refl
each_opt false false false false false true h K = refl
each_opt false false false false false false true K = refl
each_opt false false false false false false false K = refl

pub with_option-put : (g : Options) (name v : Text)
    → with_option g (45 ∷ 45 ∷ name) v ≡ option_and_then (λ o. put g (opt o) v) (opt_named name)
with_option-put g name v =
    (λ i. if bytes_eq name (codes "grammar") then arm g.grammar (λ v. record g { grammar = v }) v i
    else (if bytes_eq name (codes "brackets") then arm g.brackets (λ v. record g { brackets = v }) v i
    else (if bytes_eq name (codes "nesting") then arm g.nesting (λ v. record g { nesting = v }) v i
    else (if bytes_eq name (codes "steps") then arm g.steps (λ v. record g { steps = v }) v i
    else (if bytes_eq name (codes "long") then arm g.long (λ v. record g { long = v }) v i
    else (if bytes_eq name (codes "tab") then arm g.tab (λ v. record g { tab = v }) v i
    else (if bytes_eq name (codes "make") then arm g.make (λ v. record g { make = v }) v i else None)))))))
    ∙ (each_opt (bytes_eq name (codes "grammar")) (bytes_eq name (codes "brackets")) (bytes_eq name (codes "nesting"))
    (bytes_eq name (codes "steps")) (bytes_eq name (codes "long")) (bytes_eq name (codes "tab")) (bytes_eq name (codes "make"))
    (λ o. put g (opt o) v)
    ∙ (λ i. option_and_then (λ o. put g (opt o) v) (first_opt (is_named (codes "grammar") name i) (is_named (codes "brackets") name i)
    (is_named (codes "nesting") name i) (is_named (codes "steps") name i) (is_named (codes "long") name i)
    (is_named (codes "tab") name i) (is_named (codes "make") name i))))

-- what is known of a word by its class
abbrev pub Facts : Class → Text → Type 0
Facts dashes word = (bytes_eq word (45 ∷ 45 ∷ []) ≡ true) × (is_plain word ≡ false)
Facts (flag name value) word = (bytes_eq word (45 ∷ 45 ∷ []) ≡ false) × (is_plain word ≡ false)
    × (parted word ≡ option_map (λ v. (45 ∷ 45 ∷ name, v)) value) × (value ≡ None → word ≡ 45 ∷ 45 ∷ name)
Facts short word = (bytes_eq word (45 ∷ 45 ∷ []) ≡ false) × (is_plain word ≡ false)
    × ((g : Options) (n : ℕ) (v : Text) → with_option g (take n word) v ≡ None)
Facts plain word = (bytes_eq word (45 ∷ 45 ∷ []) ≡ false) × (is_plain word ≡ true)

pub one_more : (p : ℕ) → 1 + p ≡ suc p
one_more p = omega arith

pub no_dashes : (n y : ℕ) (zs more : Text) → (y == 45) ≡ false → bytes_eq (take n (45 ∷ y ∷ zs)) (45 ∷ 45 ∷ more) ≡ false
no_dashes zero y zs more e = refl
no_dashes (suc zero) y zs more e = refl
no_dashes (suc (suc n)) y zs more e = rw e refl

pub below_zero : (n : ℕ) → nat_lt 0 (suc n) ≡ true
below_zero n = grind (arith, nat_tests)

pub below_suc : (p n : ℕ) → nat_lt (1 + p) (suc n) ≡ nat_lt p n
below_suc p n = grind (arith, nat_tests)

pub is_below : (zs : Text) → nat_lt (position_or_len is_equals zs) (length zs) ≡ has_byte 61 zs
is_below [] = refl
is_below (z ∷ zs) = go (is_below zs) (z == 61) refl
  where
    go : nat_lt (position_or_len is_equals zs) (length zs) ≡ has_byte 61 zs → (b : Bool) → (z == 61) ≡ b
        → nat_lt (position_or_len is_equals (z ∷ zs)) (length (z ∷ zs)) ≡ has_byte 61 (z ∷ zs)
    go ih true e = rw e (below_zero (length zs))
    go ih false e = rw e (below_suc (position_or_len is_equals zs) (length zs) ∙ ih)

pub before_none : (zs : Text) → has_byte 61 zs ≡ false → before_first (λ x. x == 61) zs ≡ zs
before_none [] h = refl
before_none (z ∷ zs) h = go (before_none zs) (z == 61) refl
  where
    go : (has_byte 61 zs ≡ false → before_first (λ x. x == 61) zs ≡ zs) → (b : Bool) → (z == 61) ≡ b
        → before_first (λ x. x == 61) (z ∷ zs) ≡ z ∷ zs
    go ih true e = absurd (true≢false (rw e at h))
    go ih false e = rw (e, one_more (position_or_len is_equals zs)) (ap (λ xs. z ∷ xs) (ih (rw e at h)))

abbrev pub parts_of : Bool → Text → Text → Option (Text × Text)
parts_of b before after = if b then Some (before, after) else None

pub cut_twice : (p : ℕ) (zs : Text) → parts_of (nat_lt (1 + (1 + p)) (suc (suc (length zs))))
    (take (1 + (1 + p)) (45 ∷ 45 ∷ zs)) (drop (1 + (1 + p) + 1) (45 ∷ 45 ∷ zs))
    ≡ parts_of (nat_lt p (length zs)) (45 ∷ 45 ∷ take p zs) (drop (p + 1) zs)
cut_twice p zs =
    let a : 1 + (1 + p) ≡ suc (suc p) = omega arith in
    let b : 1 + (1 + p) + 1 ≡ suc (suc (p + 1)) = omega arith in
    rw (below_suc (1 + p) (suc (length zs)), below_suc p (length zs), b, a) refl

pub map_or_none : {X Y : Type 0} (f : X → Y) (b : Bool) (x : X)
    → (if b then Some (f x) else None) ≡ option_map f (if b then Some x else None)
map_or_none f true x = refl
map_or_none f false x = refl

pub parted_flag : (zs : Text) → parted (45 ∷ 45 ∷ zs)
    ≡ option_map (λ v. (45 ∷ 45 ∷ before_first is_equals zs, v)) (if has_byte 61 zs then Some (after_first is_equals zs) else None)
parted_flag zs =
    cut_twice (position_or_len is_equals zs) zs
    ∙ (ap (λ b. parts_of b (45 ∷ 45 ∷ before_first is_equals zs) (after_first is_equals zs)) (is_below zs)
    ∙ map_or_none (λ v. (45 ∷ 45 ∷ before_first is_equals zs, v)) (has_byte 61 zs) (after_first is_equals zs))

pub whole_flag : (zs : Text) (b : Bool) → has_byte 61 zs ≡ b
    → (if b then Some (after_first is_equals zs) else None) ≡ None → 45 ∷ 45 ∷ zs ≡ 45 ∷ 45 ∷ before_first is_equals zs
whole_flag zs true h e = cc
whole_flag zs false h e = ap (λ xs. 45 ∷ 45 ∷ xs) (sym (before_none zs h))

pub facts_flag : (z : ℕ) (zs : Text) → Facts (class_of (45 ∷ 45 ∷ z ∷ zs)) (45 ∷ 45 ∷ z ∷ zs)
facts_flag z zs = (refl, refl, parted_flag (z ∷ zs), whole_flag (z ∷ zs) (has_byte 61 (z ∷ zs)) refl)

pub facts_as : (word : Text) (c : Class) → class_of word ≡ c → Facts c word → Facts (class_of word) word
facts_as word c e f = subst (λ c. Facts c word) (sym e) f

pub facts_short : (y : ℕ) (zs : Text) → (y == 45) ≡ false → Facts (class_of (45 ∷ y ∷ zs)) (45 ∷ y ∷ zs)
facts_short y zs e = facts_as (45 ∷ y ∷ zs) short (rw e refl) (
  rw e refl,
  refl,
  λ g n v.
      rw (
        no_dashes n y zs (codes "grammar") e,
        no_dashes n y zs (codes "brackets") e,
        no_dashes n y zs (codes "nesting") e,
        no_dashes n y zs (codes "steps") e,
        no_dashes n y zs (codes "long") e,
        no_dashes n y zs (codes "tab") e,
        no_dashes n y zs (codes "make") e,
      ) refl,
)

pub facts_two : (zs : Text) → Facts (class_of (45 ∷ 45 ∷ zs)) (45 ∷ 45 ∷ zs)
facts_two [] = (refl, refl)
facts_two (z ∷ zs) = facts_flag z zs

pub facts : (word : Text) → Facts (class_of word) word
facts [] = (refl, refl)
facts (x ∷ []) = go (x == 45) refl
  where
    go : (b : Bool) → (x == 45) ≡ b → Facts (class_of (x ∷ [])) (x ∷ [])
    go true e = facts_as (x ∷ []) plain (rw e refl) (rw e refl, rw e refl)
    go false e = facts_as (x ∷ []) plain (rw e refl) (rw e refl, rw e refl)
facts (x ∷ y ∷ zs) = go (x == 45) (y == 45) refl refl
  where
    go : (b c : Bool) → (x == 45) ≡ b → (y == 45) ≡ c → Facts (class_of (x ∷ y ∷ zs)) (x ∷ y ∷ zs)
    go false c d e = facts_as (x ∷ y ∷ zs) plain (rw d refl) (rw d refl, rw d refl)
    go true false d e =
        let first : 45 ≡ x = grind (arith, nat_tests) in
        subst (λ (n : ℕ). Facts (class_of (n ∷ y ∷ zs)) (n ∷ y ∷ zs)) first (facts_short y zs e)
    go true true d e =
        let first : 45 ≡ x = grind (arith, nat_tests) in
        let next : 45 ≡ y = grind (arith, nat_tests) in
        subst (λ (n : ℕ). Facts (class_of (n ∷ y ∷ zs)) (n ∷ y ∷ zs)) first
        (subst (λ (n : ℕ). Facts (class_of (45 ∷ n ∷ zs)) (45 ∷ n ∷ zs)) next (facts_two zs))
