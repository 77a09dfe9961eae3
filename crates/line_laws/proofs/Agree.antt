-- What a line tells depends on the runs inside captures only where they begin at a place of their text, on not too many
-- open rules on a root.
use Rattle.std.proofs.Common.{◌≡◌, ℕ, ◌+◌, ◌≤◌, List, [], ◌∷◌, length, take, refl, ap, ◌∙◌, arith}
use Rattle.std.specs.Prelude.{Bool, true, false, ◌==◌, nat_lt, Option, Some, None, IfSome}
use Rattle.std.proofs.lemmas.List.{length-take}
use Rattle.pattern_defs.specs.declared.outcomes.Place.{Place}
use Rattle.pattern_defs.specs.Attempt.{capture_of}
use Rattle.onig_match.specs.Works.{IsPart}
use Rattle.scope_defs.specs.Scopes.{Scopes}
use Rattle.rule_defs.specs.Rules.{Entry}
use Rattle.line_defs.specs.Machine.{Machine}
use Rattle.line_defs.specs.Tokens.{Output, put}
use Rattle.line_defs.specs.Runs.{State}
use Rattle.line_defs.specs.Search.{Matched}
use Rattle.line_defs.specs.Captures.{Running, Around, Opened, inner_state, run_inside, told_by}
use Rattle.line_defs.specs.Captures.{reached, closed_to, told, by_place, by_capture, entries_told, all_closed}
use Rattle.line_defs.specs.Captures.{captures_told}
use Rattle.line_defs.specs.Turns.{Run, told_match}
use Rattle.line_laws.specs.Matches.{AreParts}
use Rattle.line_laws.specs.Starts.{IsBuiltTo}

-- two runs go alike from where they may begin
pub record Agree (machine : Machine) (most : ℕ) (one other : Running) : Type 0 where
  pub agree : (text : List ℕ) (state : State) → state.place ≤ length text → IsBuiltTo most machine state.stack →
      one text state ≡ other text state

abbrev pub AgreeWhere : Machine → (most : ℕ) → (one other : Option Running) → Type 0
AgreeWhere machine most None None = Unit {0}
AgreeWhere machine most None (Some other) = ⊥
AgreeWhere machine most (Some one) None = ⊥
AgreeWhere machine most (Some one) (Some other) = Agree machine most one other

abbrev pub with_inside : Option Running → Around → Around
with_inside inside c = record c { inside = inside }

module _ (machine : Machine) (most : ℕ) (c : Around) (built : IsBuiltTo most machine c.stack) where
  run_inside-agrees : (one other : Running) (entry : Entry) (rule : ℕ) (taken : Place) (out : Output) →
      Agree machine (most + 1) one other → IsPart (length c.text) taken →
      run_inside c one entry rule taken out ≡ run_inside c other entry rule taken out
  run_inside-agrees one other entry rule taken out agree part =
      ap (λ s. s.out)
      (agree.agree (take taken.to c.text) (inner_state c entry rule taken out)
      (omega (arith, length-take taken.to c.text, part.0, part.1))
      (record { few = omega (arith, built.few); rooted = built.rooted }))

  told_by-agrees : (one other : Option Running) (inner : Option ℕ) (entry : Entry) (taken : Place) (opened : Opened) →
      AgreeWhere machine (most + 1) one other → IsPart (length c.text) taken →
      told_by (with_inside one c) one inner entry taken opened
      ≡ told_by (with_inside other c) other inner entry taken opened
  told_by-agrees None None None entry taken opened agree part = refl
  told_by-agrees None None (Some rule) entry taken opened agree part = refl
  told_by-agrees None (Some other) inner entry taken opened agree part = absurd agree
  told_by-agrees (Some one) None inner entry taken opened agree part = absurd agree
  told_by-agrees (Some one) (Some other) None entry taken opened agree part = refl
  told_by-agrees (Some one) (Some other) (Some rule) entry taken opened agree part =
      ap (λ out. with_out out opened) (run_inside-agrees one other entry rule taken opened.out agree part)
    where
      with_out : Output → Opened → Opened
      with_out out o = record o { out = out }

  told-agrees : (one other : Option Running) (entry : Entry) (taken : Place) (opened : Opened) →
      AgreeWhere machine (most + 1) one other → IsPart (length c.text) taken →
      told (with_inside one c) entry taken opened ≡ told (with_inside other c) entry taken opened
  told-agrees one other entry taken opened agree part =
      told_by-agrees one other entry.inner entry taken
      (reached c taken (closed_to taken.from opened.locals opened.out)) agree part

  by_place-agrees : (one other : Option Running) (empty behind : Bool) (entry : Entry) (taken : Place)
      (opened : Opened) (next next' : Opened → Opened) → AgreeWhere machine (most + 1) one other →
      IsPart (length c.text) taken → ((o : Opened) → next o ≡ next' o) →
      by_place (with_inside one c) empty behind entry taken opened next
      ≡ by_place (with_inside other c) empty behind entry taken opened next'
  by_place-agrees one other true behind entry taken opened next next' agree part same = same opened
  by_place-agrees one other false true entry taken opened next next' agree part same = refl
  by_place-agrees one other false false entry taken opened next next' agree part same =
      ap next (told-agrees one other entry taken opened agree part)
      ∙ same (told (with_inside other c) entry taken opened)

  by_capture-agrees : (one other : Option Running) (o : Option Place) (entry : Entry) (opened : Opened)
      (next next' : Opened → Opened) → AgreeWhere machine (most + 1) one other → IfSome o (IsPart (length c.text)) →
      ((o : Opened) → next o ≡ next' o) →
      by_capture (with_inside one c) o entry opened next ≡ by_capture (with_inside other c) o entry opened next'
  by_capture-agrees one other None entry opened next next' agree part same = same opened
  by_capture-agrees one other (Some taken) entry opened next next' agree part same =
      by_place-agrees one other (taken.from == taken.to) (nat_lt c.matched.to taken.from) entry taken opened next next'
      agree part same

  entries_told-agrees : (one other : Option Running) (entries : List Entry) (opened : Opened) →
      AgreeWhere machine (most + 1) one other → AreParts (length c.text) c.matched.captures →
      entries_told (with_inside one c) entries opened ≡ entries_told (with_inside other c) entries opened
  entries_told-agrees one other [] opened agree parts = refl
  entries_told-agrees one other (entry ∷ entries) opened agree parts =
      by_capture-agrees one other (capture_of c.matched.captures entry.number) entry opened
      (entries_told (with_inside one c) entries) (entries_told (with_inside other c) entries) agree
      (parts entry.number) (λ o. entries_told-agrees one other entries o agree parts)

  captures_told-agree : (one other : Option Running) (entries : List Entry) (out : Output) →
      AgreeWhere machine (most + 1) one other → AreParts (length c.text) c.matched.captures →
      captures_told (with_inside one c) entries out ≡ captures_told (with_inside other c) entries out
  captures_told-agree one other entries out agree parts =
      ap all_closed (entries_told-agrees one other entries (record { out = out; locals = [] }) agree parts)

-- ---- one match

abbrev pub run_with : Machine → (text : List ℕ) → Option Running → Run
run_with machine text inside = record { machine = machine; inside = inside; text = text }

pub told_match-agrees : (machine : Machine) (most : ℕ) (text : List ℕ) (one other : Option Running) (state : State)
    (before scopes : Scopes) (m : Matched) (entries : List Entry) → IsBuiltTo most machine state.stack →
    AgreeWhere machine (most + 1) one other → AreParts (length text) m.captures →
    told_match (run_with machine text one) state before scopes m entries
    ≡ told_match (run_with machine text other) state before scopes m entries
told_match-agrees machine most text one other state before scopes m entries built agree parts =
    ap (λ out. put out scopes m.to)
    (captures_told-agree machine most (record {
      inside = None;
      text = text;
      stack = state.stack;
      first = state.first;
      scopes = scopes;
      matched = m;
    }) built one other entries (put state.out before m.from) agree parts)
