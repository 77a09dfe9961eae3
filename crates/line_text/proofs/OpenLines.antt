-- An open line of which nothing is there yet.
use Rattle.std.proofs.Common.{◌≡◌, ℕ, List, [], ◌++◌, length, false, Option, Some, None, refl, sym, ap, ◌∙◌}
use Rattle.std.specs.Option.{is_some}
use Rattle.std.proofs.lemmas.Bool.{false≢true}
use Rattle.std.proofs.lemmas.List.{nil_from_length}
use Rattle.line_text.specs.Lines.{chars_of}

no_chars : (shared : Option (List ℕ)) → is_some shared ≡ false → chars_of shared ≡ []
no_chars None h = refl
no_chars (Some line) h = absurd (false≢true (sym h))

pub nothing_open : (shared : Option (List ℕ)) (current : List ℕ) → is_some shared ≡ false → length current ≡ 0
    → chars_of shared ++ current ≡ []
nothing_open shared current none empty =
    ap (λ (cs : List ℕ). cs ++ current) (no_chars shared none) ∙ nil_from_length current empty
