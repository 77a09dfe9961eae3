-- A scope text without `$` stands for itself.
use Rattle.std.proofs.Common.{◌≡◌, ℕ, List, [], ◌∷◌, ◌++◌, refl, ap, sym, ◌∙◌, arith, lit<}
use Rattle.std.specs.Prelude.{Bool, true, false, cond, ◌||◌, ◌==◌, Some, None, chars, encode_utf8, encode_utf8_all}
use Rattle.std.specs.Str.{IsUtf8}
use Rattle.std.proofs.lemmas.Str.{encodes-chars, encode_ascii}
use Rattle.std.proofs.lemmas.Bool.Decides.{nat_tests}
use Rattle.pattern_defs.specs.Attempt.{Captures}
use Rattle.scope_defs.specs.Scopes.{pieces}
use Rattle.line_defs.specs.ScopeTexts.{form_behind, by_form, filled_past, filled}
use Rattle.rule_table.specs.ScopeTexts.{has_dollar, fixed_of}
use Rattle.line_output.specs.Names.{names_of}

any-append : (xs ys : List ℕ) → has_dollar (xs ++ ys) ≡ (has_dollar xs || has_dollar ys)
any-append [] ys = refl
any-append (x ∷ xs) ys = by_test (x == 36) (any-append xs ys)
  where
    by_test : (b : Bool) → has_dollar (xs ++ ys) ≡ (has_dollar xs || has_dollar ys) →
        (b || has_dollar (xs ++ ys)) ≡ ((b || has_dollar xs) || has_dollar ys)
    by_test true e = refl
    by_test false e = e

or-left : (a b : Bool) → (a || b) ≡ false → a ≡ false
or-left true b e = e
or-left false b e = refl

or-right : (a b : Bool) → (a || b) ≡ false → b ≡ false
or-right true b e = elim b as (λ b. b ≡ false) [ true ↦ e | false ↦ refl ]
or-right false b e = e

dollar : has_dollar (encode_utf8 36) ≡ true
dollar = ap has_dollar (encode_ascii 36 (lit< tt))

-- a character that takes no byte `$` is none
other : (c : ℕ) → has_dollar (encode_utf8 c) ≡ false → (c == 36) ≡ false
other c e = by_test (c == 36) refl
  where
    by_test : (b : Bool) → (c == 36) ≡ b → (c == 36) ≡ false
    by_test false is = is
    by_test true is =
        let same : c ≡ 36 = grind (arith, nat_tests) in
        let no : true ≡ false = sym dollar ∙ ap (λ n. has_dollar (encode_utf8 n)) (sym same) ∙ e in
        absurd (cc)

no_form : (text : List ℕ) (captures : Captures) (c : ℕ) (cs : List ℕ) (b : Bool) → b ≡ false →
    by_form text captures (cond b (form_behind cs) None) c (filled_past text captures cs) ≡ c ∷ filled text captures cs
no_form text captures c cs true e = cc
no_form text captures c cs false e = refl

plain : (text : List ℕ) (captures : Captures) (cs : List ℕ) → has_dollar (encode_utf8_all cs) ≡ false
    → filled text captures cs ≡ cs
plain text captures [] e = refl
plain text captures (c ∷ cs) e =
    let both : (has_dollar (encode_utf8 c) || has_dollar (encode_utf8_all cs)) ≡ false =
    sym (any-append (encode_utf8 c) (encode_utf8_all cs)) ∙ e in
    no_form text captures c cs (c == 36) (other c (or-left _ _ both))
    ∙ ap (λ rest. c ∷ rest) (plain text captures cs (or-right _ _ both))

fixed-by : (name : List ℕ) (names : List (List ℕ)) (b : Bool) → has_dollar name ≡ b → fixed_of name ≡ Some names →
    (has_dollar name ≡ false) × (names ≡ pieces name)
fixed-by name names true is e =
    let no : None ≡ Some names = sym (ap (λ b. cond b None (Some (pieces name))) is) ∙ e in absurd (cc)
fixed-by name names false is e =
    let same : Some (pieces name) ≡ Some names = sym (ap (λ b. cond b None (Some (pieces name))) is) ∙ e in
    (is, sym (cc))

-- the names of a text that has none are those that it stands for
pub fixed-names : (text : List ℕ) (captures : Captures) (name : List ℕ) (names : List (List ℕ)) → IsUtf8 name →
    fixed_of name ≡ Some names → names ≡ names_of text captures name
fixed-names text captures name names utf8 e =
    let fixed : (has_dollar name ≡ false) × (names ≡ pieces name) = fixed-by name names (has_dollar name) refl e in
    let whole : encode_utf8_all (chars name) ≡ name = encodes-chars name utf8 in
    let same : filled text captures (chars name) ≡ chars name =
    plain text captures (chars name) (ap has_dollar whole ∙ fixed.0) in
    fixed.1 ∙ sym (ap pieces (ap encode_utf8_all same ∙ whole))
