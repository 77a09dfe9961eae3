-- Reading a text's characters one after the other.
use Rattle.std.proofs.Common.{◌≡◌, ℕ, List, [], ◌∷◌, ◌++◌, Option, length, refl, ap, sym, ◌∙◌}
use Rattle.std.specs.Option.{option_to_list}
use Rattle.std.specs.Str.{chars, IsUtf8}
use Rattle.std.specs.Char.{encode_utf8}
use Rattle.std.proofs.lemmas.List.{append_assoc, append-nil, nil_from_length}
use Rattle.std.proofs.lemmas.Str.{chars_past_char, chars-nil}
use Rattle.line_text.specs.declared.before.Before.{Before}
use Rattle.line_text.specs.declared.before.Before.TheVariants.{FileStart, AfterCr, Other}
use Rattle.line_text.specs.LineEnds.{normed}

-- what a call of `take` promises
pub record Takes (old : Before) (c : ℕ) (got : Option ℕ) (new : Before) : Type 0 where
  pub adds : (more : List ℕ) → normed old (c ∷ more) ≡ option_to_list got ++ normed new more

pub normed-nil : (before : Before) → normed before [] ≡ []
normed-nil FileStart = refl
normed-nil AfterCr = refl
normed-nil Other = refl

-- at the end nothing is left to add
pub normed_end : (before : Before) (bs front whole : List ℕ) → length bs ≡ 0 → front ++ normed before (chars bs)
    ≡ whole → front ≡ whole
normed_end before bs front whole e h =
    sym (append-nil front) ∙ ap (λ (cs : List ℕ). front ++ cs)
    (sym (ap (λ (b : List ℕ). normed before (chars b)) (nil_from_length bs e) ∙ ap (normed before) chars-nil
    ∙ normed-nil before)) ∙ h

-- one character c, behind which `rest` is left
pub normed_step : (old new : Before) (bs rest : List ℕ) (c : ℕ) (got : Option ℕ) (front whole : List ℕ) → IsUtf8 bs
    → bs ≡ encode_utf8 c ++ rest → Takes old c got new → front ++ normed old (chars bs) ≡ whole
    → (front ++ option_to_list got) ++ normed new (chars rest) ≡ whole
normed_step old new bs rest c got front whole u e takes h =
    append_assoc front (option_to_list got) (normed new (chars rest))
    ∙ ap (λ (cs : List ℕ). front ++ cs) (sym (takes.adds (chars rest))
    ∙ ap (normed old) (sym (chars_past_char bs rest c u e))) ∙ h
