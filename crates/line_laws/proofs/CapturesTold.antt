-- What captures tell keeps what was told so far, where they are parts of the text and runs inside them keep it.
use Rattle.std.proofs.Common.{ℕ, ◌≤◌, List, [], ◌∷◌, length, take, arith}
use Rattle.std.specs.Prelude.{Bool, true, false, ◌==◌, nat_lt, nat_le, Option, Some, None, IfSome}
use Rattle.std.proofs.lemmas.List.{length-take}
use Rattle.pattern_defs.specs.declared.outcomes.Place.{Place}
use Rattle.pattern_defs.specs.Attempt.{capture_of}
use Rattle.onig_match.specs.Works.{IsPart}
use Rattle.rule_defs.specs.Rules.{Entry}
use Rattle.line_defs.specs.Tokens.{Output, put}
use Rattle.line_defs.specs.Runs.{State}
use Rattle.line_defs.specs.Captures.{Running, Around, Local, Opened, closed_where, closed_to, closed_all, innermost}
use Rattle.line_defs.specs.Captures.{inner_state, run_inside, opened_by_name, told_by, reached, told, by_place}
use Rattle.line_defs.specs.Captures.{by_capture, entries_told, captures_told}
use Rattle.line_laws.specs.Matches.{AreParts}
use Rattle.line_laws.proofs.Told.{IsTold, put-is}

-- a run over a text that is no longer keeps what was told
pub record KeepsTold (chars : ℕ) (running : Running) : Type 0 where
  pub keeps : (text : List ℕ) (state : State) → length text ≤ chars → state.place ≤ length text →
      IsTold chars state.out → IsTold chars (running text state).out

abbrev AllEnd : (chars : ℕ) → List Local → Type 0
AllEnd chars [] = Unit {0}
AllEnd chars (local ∷ locals) = (local.end ≤ chars) × AllEnd chars locals

record AreTold (chars : ℕ) (opened : Opened) : Type 0 where
  out : IsTold chars opened.out
  locals : AllEnd chars opened.locals

module _ (chars : ℕ) where
  closed_to-are : (place : ℕ) (locals : List Local) (out : Output) → AllEnd chars locals → IsTold chars out →
      AreTold chars (closed_to place locals out)
  closed_to-are place [] out all is = record { out = is; locals = tt }
  closed_to-are place (local ∷ locals) out all is =
      by_end (nat_le local.end place)
      (closed_to-are place locals (put out local.scopes local.end) all.1
      (put-is chars out local.scopes local.end all.0 is))
    where
      by_end : (b : Bool) → AreTold chars (closed_to place locals (put out local.scopes local.end)) →
          AreTold chars (closed_where b out local locals (closed_to place locals))
      by_end true are = are
      by_end false are = record { out = is; locals = all }

  closed_all-is : (locals : List Local) (out : Output) → AllEnd chars locals → IsTold chars out →
      IsTold chars (closed_all locals out)
  closed_all-is [] out all is = is
  closed_all-is (local ∷ locals) out all is =
      closed_all-is locals (put out local.scopes local.end) all.1 (put-is chars out local.scopes local.end all.0 is)

-- ---- entries

module _ (chars : ℕ) (c : Around) (short : length c.text ≤ chars) where
  run_inside-is : (run : Running) (entry : Entry) (rule : ℕ) (taken : Place) (out : Output) → KeepsTold chars run →
      IsPart (length c.text) taken → IsTold chars out → IsTold chars (run_inside c run entry rule taken out)
  run_inside-is run entry rule taken out keeps part is =
      keeps.keeps (take taken.to c.text) (inner_state c entry rule taken out)
      (omega (arith, length-take taken.to c.text)) (omega (arith, length-take taken.to c.text, part.0, part.1)) is

  opened_by_name-are : (name : Option (List ℕ)) (taken : Place) (opened : Opened) → IsPart (length c.text) taken →
      AreTold chars opened → AreTold chars (opened_by_name c name taken opened)
  opened_by_name-are None taken opened part are = are
  opened_by_name-are (Some name) taken opened part are =
      record { out = are.out; locals = (omega (arith, part.1), are.locals) }

  told_by-are : (inside : Option Running) (inner : Option ℕ) (entry : Entry) (taken : Place) (opened : Opened) →
      IfSome inside (KeepsTold chars) → IsPart (length c.text) taken → AreTold chars opened →
      AreTold chars (told_by c inside inner entry taken opened)
  told_by-are (Some run) (Some rule) entry taken opened keeps part are =
      record { out = run_inside-is run entry rule taken opened.out keeps part are.out; locals = are.locals }
  told_by-are (Some run) None entry taken opened keeps part are = opened_by_name-are entry.name taken opened part are
  told_by-are None (Some rule) entry taken opened keeps part are =
      opened_by_name-are entry.name taken opened part are
  told_by-are None None entry taken opened keeps part are = opened_by_name-are entry.name taken opened part are

  reached-are : (taken : Place) (opened : Opened) → IsPart (length c.text) taken → AreTold chars opened →
      AreTold chars (reached c taken opened)
  reached-are taken opened part are = record {
    out = put-is chars opened.out (innermost c.scopes opened.locals) taken.from (omega (arith, part.0, part.1)) are.out;
    locals = are.locals;
  }

  told-are : (entry : Entry) (taken : Place) (opened : Opened) → IfSome c.inside (KeepsTold chars) →
      IsPart (length c.text) taken → AreTold chars opened → AreTold chars (told c entry taken opened)
  told-are entry taken opened keeps part are =
      told_by-are c.inside entry.inner entry taken (reached c taken (closed_to taken.from opened.locals opened.out))
      keeps part
      (reached-are taken (closed_to taken.from opened.locals opened.out) part
      (closed_to-are chars taken.from opened.locals opened.out are.locals are.out))

  by_place-are : (empty behind : Bool) (entry : Entry) (taken : Place) (opened : Opened) (next : Opened → Opened) →
      IfSome c.inside (KeepsTold chars) → IsPart (length c.text) taken → AreTold chars opened →
      ((o : Opened) → AreTold chars o → AreTold chars (next o)) →
      AreTold chars (by_place c empty behind entry taken opened next)
  by_place-are true behind entry taken opened next keeps part are goes = goes opened are
  by_place-are false true entry taken opened next keeps part are goes = are
  by_place-are false false entry taken opened next keeps part are goes =
      goes (told c entry taken opened) (told-are entry taken opened keeps part are)

  by_capture-are : (o : Option Place) (entry : Entry) (opened : Opened) (next : Opened → Opened) →
      IfSome c.inside (KeepsTold chars) → IfSome o (IsPart (length c.text)) → AreTold chars opened →
      ((o : Opened) → AreTold chars o → AreTold chars (next o)) → AreTold chars (by_capture c o entry opened next)
  by_capture-are None entry opened next keeps part are goes = goes opened are
  by_capture-are (Some taken) entry opened next keeps part are goes =
      by_place-are (taken.from == taken.to) (nat_lt c.matched.to taken.from) entry taken opened next keeps part are goes

  entries_told-are : (entries : List Entry) (opened : Opened) → IfSome c.inside (KeepsTold chars) →
      AreParts (length c.text) c.matched.captures → AreTold chars opened → AreTold chars (entries_told c entries opened)
  entries_told-are [] opened keeps parts are = are
  entries_told-are (entry ∷ entries) opened keeps parts are =
      by_capture-are (capture_of c.matched.captures entry.number) entry opened (entries_told c entries) keeps
      (parts entry.number) are (λ o is. entries_told-are entries o keeps parts is)

  pub captures_told-is : (entries : List Entry) (out : Output) → IfSome c.inside (KeepsTold chars) →
      AreParts (length c.text) c.matched.captures → IsTold chars out → IsTold chars (captures_told c entries out)
  captures_told-is entries out keeps parts is =
      let are : AreTold chars (entries_told c entries (record { out = out; locals = [] })) =
      entries_told-are entries (record { out = out; locals = [] }) keeps parts (record { out = is; locals = tt }) in
      closed_all-is chars (entries_told c entries (record { out = out; locals = [] })).locals
      (entries_told c entries (record { out = out; locals = [] })).out are.locals are.out
