-- Scope texts and end texts from their front on.
use Rattle.std.proofs.Common.{◌≡◌, ℕ, zero, suc, ◌+◌, ◌-◌, ◌^◌, min, ◌<◌, List, [], ◌∷◌, ◌++◌, drop, take, length}
use Rattle.std.proofs.Common.{get_or, append_assoc, append-nil, arith, refl}
use Rattle.std.specs.Prelude.{Bool, true, false, cond, Option, Some, None, nat_le, encode_utf8, encode_utf8_all}
use Rattle.std.specs.Option.{option_map}
use Rattle.std.specs.Char.{to_ascii_lowercase, to_ascii_uppercase}
use Rattle.std.proofs.lemmas.Str.{encodes-append}
use Rattle.std.proofs.lemmas.List.{map-append}
use Rattle.std.proofs.lemmas.Grind.{common_steps, flat_map-append}
use Rattle.std.proofs.lemmas.Bool.Decides.{nat_tests}
use Rattle.std.proofs.Math.Numerals.{one-add}
use Rattle.line_defs.specs.declared.forms.Case.{Case}
use Rattle.line_defs.specs.declared.forms.Case.TheVariants.{AsIs, Lower, Upper}
use Rattle.pattern_defs.specs.Attempt.{Captures}
use Rattle.line_defs.specs.ScopeTexts as texts
use Rattle.line_defs.specs.ScopeTexts.{captured, without_dots, in_case, number_of, form_text, by_form, filled_past}
use Rattle.line_defs.specs.ScopeTexts.{filled}
use Rattle.line_defs.specs.EndTexts.{escaped, end_text_past, end_text}
use Rattle.scope_texts.specs.declared.form.Form.{Form}
use Rattle.scope_texts.specs.Forms.{kept_form, named_form, front_form, front_digits}

-- ---- pushing

pub pushed_text : (new old a b whole : List ℕ) → new ≡ old ++ encode_utf8_all a → whole ≡ a ++ b →
    new ++ encode_utf8_all b ≡ old ++ encode_utf8_all whole
pushed_text new old a b whole e w = rw (e, w, encodes-append a b)
    (append_assoc old (encode_utf8_all a) (encode_utf8_all b))

pub pushed_char : (new old : List ℕ) (c : ℕ) (b whole : List ℕ) → new ≡ old ++ encode_utf8 c → whole ≡ c ∷ b →
    new ++ encode_utf8_all b ≡ old ++ encode_utf8_all whole
pushed_char new old c b whole e w = rw (e, w) (append_assoc old (encode_utf8 c) (encode_utf8_all b))

-- ---- scope texts

pub filled_past-drop : (text : List ℕ) (captures : Captures) (cs : List ℕ) (past : ℕ) →
    filled_past text captures cs past ≡ filled text captures (drop past cs)
filled_past-drop text captures [] zero = refl
filled_past-drop text captures [] (suc past) = refl
filled_past-drop text captures (c ∷ cs) zero = refl
filled_past-drop text captures (c ∷ cs) (suc past) = filled_past-drop text captures cs past

-- what a form at the front stands for, by the number of its capture
pub record FillsForm (text : List ℕ) (captures : Captures) (form : Form) (rest whole : List ℕ) : Type 0 where
  pub number : ℕ
  pub kept : form.number ≡ min number (2 ^ 32)
  pub fills : whole ≡ in_case form.case (without_dots (captured text captures number)) ++ rest

by_form-some : (text : List ℕ) (captures : Captures) (o : Option texts.Form) (c : ℕ) (cs : List ℕ) (form : Form) →
    named_form (length captures - 1) o ≡ Some form →
    FillsForm text captures form (filled_past text captures cs form.more)
    (by_form text captures o c (filled_past text captures cs))
by_form-some text captures None c cs form e = cc
by_form-some text captures (Some f) c cs form e = by_test (nat_le f.number (length captures - 1)) e
  where
    by_test : (b : Bool) → cond b (Some (kept_form f)) None ≡ Some form →
        FillsForm text captures form (filled_past text captures cs form.more)
        (cond b (form_text text captures f ++ filled_past text captures cs f.more) (c ∷ filled_past text captures cs 0))
    by_test true h =
        let same : form ≡ kept_form f = cc in
        rw same (record { number = f.number; kept = refl; fills = refl })
    by_test false h = cc

pub filled-form : (text : List ℕ) (captures : Captures) (rest : List ℕ) (form : Form)
    → front_form (length captures - 1) rest ≡ Some form →
    FillsForm text captures form (filled text captures (drop (1 + form.more) rest)) (filled text captures rest)
filled-form text captures [] form e = cc
filled-form text captures (c ∷ cs) form e =
    rw (one-add form.more, ← filled_past-drop text captures cs form.more)
    (by_form-some text captures (texts.form_at c cs) c cs form e)

by_form-none : (text : List ℕ) (captures : Captures) (o : Option texts.Form) (c : ℕ) (next : ℕ → List ℕ) →
    named_form (length captures - 1) o ≡ None → by_form text captures o c next ≡ c ∷ next 0
by_form-none text captures None c next e = refl
by_form-none text captures (Some f) c next e = by_test (nat_le f.number (length captures - 1)) e
  where
    by_test : (b : Bool) → cond b (Some (kept_form f)) None ≡ None →
        cond b (form_text text captures f ++ next f.more) (c ∷ next 0) ≡ c ∷ next 0
    by_test true h = cc
    by_test false h = refl

pub filled-char : (text : List ℕ) (captures : Captures) (rest : List ℕ) (d : ℕ)
    → front_form (length captures - 1) rest ≡ None →
    0 < length rest → filled text captures rest ≡ get_or rest 0 d ∷ filled text captures (drop 1 rest)
filled-char text captures [] d e h = absurd (omega (arith, h))
filled-char text captures (c ∷ cs) d e h =
    by_form-none text captures (texts.form_at c cs) c (filled_past text captures cs) e

-- ---- end texts

pub end_text_past-drop : (text : List ℕ) (captures : Captures) (cs : List ℕ) (past : ℕ) →
    end_text_past text captures cs past ≡ end_text text captures (drop past cs)
end_text_past-drop text captures [] zero = refl
end_text_past-drop text captures [] (suc past) = refl
end_text_past-drop text captures (c ∷ cs) zero = refl
end_text_past-drop text captures (c ∷ cs) (suc past) = end_text_past-drop text captures cs past

pub end_text-digits : (text : List ℕ) (captures : Captures) (rest digits : List ℕ) → digits ≡ front_digits rest
    → 0 < length digits →
    end_text text captures rest
    ≡ escaped (captured text captures (number_of digits)) ++ end_text text captures (drop (1 + length digits) rest)
end_text-digits text captures [] [] e h = absurd (omega (arith, h))
end_text-digits text captures [] (d ∷ ds) e h = cc
end_text-digits text captures (c ∷ cs) [] e h = absurd (omega (arith, h))
end_text-digits text captures (c ∷ cs) (d ∷ ds) e h =
    rw (← e, one-add (length (d ∷ ds)), ← end_text_past-drop text captures cs (length (d ∷ ds))) refl

-- ---- one more character

in_case-append : (case : Case) (a b : List ℕ) → in_case case (a ++ b) ≡ in_case case a ++ in_case case b
in_case-append AsIs a b = refl
in_case-append Lower a b = map-append to_ascii_lowercase a b
in_case-append Upper a b = map-append to_ascii_uppercase a b

taken_more : (xs : List ℕ) (i x : ℕ) → x ≡ get_or xs i x → i < length xs → take (i + 1) xs ≡ take i xs ++ x ∷ []
taken_more xs i x e h = grind (arith, common_steps)

pub cased_more : (case : Case) (xs : List ℕ) (i x : ℕ) (old cur new : List ℕ) (y : ℕ) →
    cur ≡ old ++ encode_utf8_all (in_case case (take i xs)) → new ≡ cur ++ encode_utf8 y → y ∷ []
    ≡ in_case case (x ∷ []) →
    x ≡ get_or xs i x → i < length xs → new ≡ old ++ encode_utf8_all (in_case case (take (i + 1) xs))
cased_more case xs i x old cur new y c n e is h =
    rw (
      n,
      c,
      taken_more xs i x is h,
      in_case-append case (take i xs) (x ∷ []),
      encodes-append
          (in_case case (take i xs)) (in_case case (x ∷ [])),
      ← e,
    )
    (rw append-nil (append_assoc old (encode_utf8_all (in_case case (take i xs))) (encode_utf8 y)))

pub escaped_more : (xs : List ℕ) (i x : ℕ) (old cur new : List ℕ) →
    cur ≡ old ++ encode_utf8_all (escaped (take i xs)) → new ≡ cur ++ encode_utf8_all (escaped (x ∷ [])) →
    x ≡ get_or xs i x → i < length xs → new ≡ old ++ encode_utf8_all (escaped (take (i + 1) xs))
escaped_more xs i x old cur new c n is h =
    rw (
      n,
      c,
      taken_more xs i x is h,
      flat_map-append _ (take i xs) (x ∷ []),
      encodes-append (escaped (take i xs))
          (escaped (x ∷ [])),
    )
    (append_assoc old (encode_utf8_all (escaped (take i xs))) (encode_utf8_all (escaped (x ∷ []))))

-- ---- forms at the front

form_named : (o : Option texts.Form) (groups : ℕ) (form : Form) → groups < 2 ^ 32 → Some form ≡ option_map kept_form o →
    cond (nat_le form.number groups) (Some form) None ≡ named_form groups o
form_named None groups form small e = cc
form_named (Some f) groups form small e =
    let same : form ≡ kept_form f = cc in
    let tests : nat_le (min f.number (2 ^ 32)) groups ≡ nat_le f.number groups = grind (arith, nat_tests) in
    rw (same, tests) refl

pub form_at-named : (text : List ℕ) (groups d : ℕ) (form : Form) → get_or text 0 d ≡ 36 → groups < 2 ^ 32 →
    Some form ≡ option_map kept_form (texts.form_behind (drop 1 text)) → 0 < length text →
    cond (nat_le form.number groups) (Some form) None ≡ front_form groups text
form_at-named [] groups d form is small e h = absurd (omega (arith, h))
form_at-named (c ∷ cs) groups d form is small e h = rw is (form_named (texts.form_behind cs) groups form small e)
