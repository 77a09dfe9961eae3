-- A text that is read is well formed.
use Rattle.std.proofs.Common.{◌≡◌, ℕ, zero, suc, ◌+◌, List, [], ◌∷◌, length, Bool, true, false, Ok, IfOk, refl, subst}
use Rattle.std.proofs.Common.{arith}
use Rattle.std.proofs.lemmas.Result.{IfOk-at_ok}
use Rattle.syntax_defs.specs.declared.items.Options.{Options}
use Rattle.syntax_defs.specs.Sights.{sight_at}
use Rattle.pattern_defs.specs.declared.nodes.ListId.{ListId}
use Rattle.syntax_defs.specs.PatternSyntax.{Seen, Body, BodyReader, Parsed, body_list, rest_of, empty_body, step}
use Rattle.syntax_defs.specs.PatternSyntax.{after_step, steps, body_at, whole_by, no_options, start, parse}
use Rattle.onig_parse.specs.Formed.{IsFormed}
use Rattle.onig_parse.proofs.FormedParts.{FormedPart, empty_part}
use Rattle.onig_parse.proofs.FormedGroups.{KeepsForm, body_list-formed}
use Rattle.onig_parse.proofs.ReadingLemmas.{IfOk-bind}
use Rattle.onig_parse.proofs.FormedSteps.{FormedStep, step_by-formed}

pub steps-formed : (text : List ℕ) (go : BodyReader) (count levels : ℕ) (options : Options) (begun : Seen) (b : Body)
    (s : Seen) → KeepsForm text go → FormedPart text begun b s
    → IfOk (steps go count levels options b s) (λ r. FormedPart text begun r.0 r.1)
unfolding steps
steps-formed text go zero levels options begun b s keeps part = tt
steps-formed text go (suc count) levels options begun b s keeps part =
    IfOk-bind (FormedStep text begun) (λ r. FormedPart text begun r.0 r.1) (step go levels options b s) _
    (step_by-formed text go levels options begun (sight_at options (rest_of s)) b s keeps part)
    λ r formed. goes_on r.more r.body r.seen
    (steps-formed text go count levels options begun r.body r.seen keeps formed) formed
  where
    goes_on : (more : Bool) (b : Body) (s : Seen)
        → IfOk (steps go count levels options b s) (λ r. FormedPart text begun r.0 r.1) → FormedPart text begun b s
        → IfOk (after_step (steps go count levels options) more b s) (λ r. FormedPart text begun r.0 r.1)
    goes_on true b s further formed = further
    goes_on false b s further formed = formed

pub body_at-formed : (text : List ℕ) (levels : ℕ) → KeepsForm text (body_at levels)
unfolding body_at
body_at-formed text zero options s seen = tt
body_at-formed text (suc levels) options s seen =
    steps-formed text (body_at levels) (length s.text + 1) levels options s empty_body s (body_at-formed text levels)
    (empty_part text s seen)

whole_by-formed : (text : List ℕ) (rest : List ℕ) (begun : Seen) (b : Body) (s : Seen) → FormedPart text begun b s
    → IfOk (whole_by rest b s) (IsFormed text)
whole_by-formed text [] begun b s part =
    let list = body_list-formed text b s part.seen part.body in
    record { lists = list.seen.lists; top = list.below; names = list.seen.names }
whole_by-formed text (c ∷ cs) begun b s part = tt

parse-read : (text : List ℕ) → IfOk (parse text) (IsFormed text)
parse-read text =
    IfOk-bind (λ r. FormedPart text (start text) r.0 r.1) (IsFormed text) (body_at 101 no_options (start text)) _
    (body_at-formed text 101 no_options (start text)
    (record { same = refl; place = omega arith; lists = tt; names = tt }))
    λ r part. whole_by-formed text (rest_of r.1) (start text) r.0 r.1 part

-- whatever is read is well formed
pub parse-formed : (text : List ℕ) (parsed : Parsed) → parse text ≡ Ok parsed → IsFormed text parsed
parse-formed text parsed e = IfOk-at_ok (IsFormed text) e (parse-read text)

-- reading keeps its text
pub same_text : (text from : List ℕ) (options : Options) (b : Body) (s : Seen) (id : ListId) (done : Seen) → from
    ≡ text → options ≡ no_options → body_at 101 options (start from) ≡ Ok (b, s) → body_list b s ≡ (id, done)
    → done.text ≡ text
same_text text from options b s id done is plain read listed =
    let begun = body_at-formed text 101 no_options (start text)
    (record { same = refl; place = omega arith; lists = tt; names = tt }) in
    let first : body_at 101 no_options (start text) ≡ Ok (b, s) = rw (← is, ← plain) read in
    let part = IfOk-at_ok (λ r. FormedPart text (start text) r.0 r.1) first begun in
    let list = body_list-formed text b s part.seen part.body in
    let P : ListId × Seen → Type 0 = λ r. r.1.text ≡ text in
    subst P listed list.seen.same
