-- What is told of a match, and where its captures lie.
use Rattle.std.proofs.Common.{◌≡◌, ℕ, ◌+◌, ◌<◌, ◌≤◌, List, [], ◌∷◌, ◌++◌, length, map, refl, ap, sym, ◌∙◌, arith, subst}
use Rattle.std.specs.Prelude.{All, Bool, true, false, ◌==◌, Option, Some, None, IfSome}
use Rattle.std.proofs.lemmas.List.Elements.{All-nil, All-cons, All-append}
use Rattle.pattern_defs.specs.declared.outcomes.Place.{Place}
use Rattle.pattern_defs.specs.Attempt.{Captures, capture_of}
use Rattle.onig_match.specs.Works.{IsPart}
use Rattle.scope_defs.specs.Scopes.{Scopes}
use Rattle.scope_defs.specs.Frames.{Frame, depth, on}
use Rattle.rule_table.specs.declared.rule.RuleCapture.{RuleCapture}
use Rattle.rule_table.specs.Views.{entry_of}
use Rattle.line_search.specs.declared.find.Match.{Match}
use Rattle.line_defs.specs.Tokens.{Output, put}
use Rattle.line_defs.specs.Runs.{State}
use Rattle.line_defs.specs.Captures as defs
use Rattle.line_defs.specs.Turns.{told_match}
use Rattle.line_laws.specs.RunEnds.{IsRunning, IsRooted}
use Rattle.line_output.specs.declared.taken.Taken.{Taken}
use Rattle.line_output.specs.Taken.{taken_at, taken_where, taken_in, takens_of}
use Rattle.line_turns.specs.declared.over.Over.{Over}
use Rattle.line_turns.specs.Over.{run_of, machine_over, few_at, AreOpen}
use Rattle.line_turns.specs.Telling.{Telling, all_told}
use Rattle.line_turns.specs.Then.{matched_of, IsInside}
use Rattle.line_turns.proofs.Entries.{telling_around, captures-told}

module _ (text : List ℕ) (hit : Captures) (chars : ℕ) where
  where-inside : (b : Bool) (taken : Taken) → IsInside chars taken → All (IsInside chars) (taken_where b taken)
  where-inside true taken is = All-nil (IsInside chars)
  where-inside false taken is = All-cons (IsInside chars) taken [] is (All-nil (IsInside chars))

  in-inside : (e : RuleCapture) (place : Option Place) → IfSome place (IsPart chars)
      → All (IsInside chars) (taken_in text hit e place)
  in-inside e None is = All-nil (IsInside chars)
  in-inside e (Some place) is = where-inside (place.from == place.to) (taken_at text hit e place) is

  pub takens-inside : (entries : List RuleCapture) → ((n : ℕ) → IfSome (capture_of hit n) (IsPart chars))
      → All (IsInside chars) (takens_of text hit entries)
  takens-inside [] are = All-nil (IsInside chars)
  takens-inside (e ∷ es) are =
      All-append (IsInside chars) (taken_in text hit e (capture_of hit e.number)) (takens_of text hit es)
      (in-inside e (capture_of hit e.number) (are e.number)) (takens-inside es are)

-- what a match tells, by its captures that take something
pub told-match : (over : Over) (levels : ℕ) (state : State) (before scopes : Scopes) (m : Match) (hit : Captures)
    (entries : List RuleCapture) (takens : List Taken) (t : Telling)
    → takens ≡ takens_of over.text.now hit entries
    → t ≡ telling_around (record {
      inside = (run_of over levels).inside;
      text = over.text.now;
      stack = state.stack;
      first = state.first;
      scopes = scopes;
      matched = matched_of m hit;
    })
    → put (all_told t takens (put state.out before m.from)) scopes m.to
    ≡ told_match (run_of over levels) state before scopes (matched_of m hit) (map entry_of entries)
told-match over levels state before scopes m hit entries takens t are is =
    let around : defs.Around = record {
      inside = (run_of over levels).inside;
      text = over.text.now;
      stack = state.stack;
      first = state.first;
      scopes = scopes;
      matched = matched_of m hit;
    } in
    ap (λ out. put out scopes m.to)
    (ap (λ u. all_told u takens (put state.out before m.from)) is
    ∙ ap (λ ts. all_told (telling_around around) ts (put state.out before m.from)) are
    ∙ sym (captures-told around entries (put state.out before m.from)))

pub open-running : (over : Over) (levels : ℕ) (state : State) → IsRunning (run_of over levels) state
    → depth state.stack ≤ few_at levels → AreOpen over levels state.stack
open-running over levels state running few = record { few = omega arith; rooted = running.rooted }

pub open-pushed : (over : Over) (levels : ℕ) (state : State) (frame : Frame) → IsRunning (run_of over levels) state
    → depth state.stack ≤ few_at levels → AreOpen over levels (on frame state.stack)
open-pushed over levels state frame running few = record { few = omega arith; rooted = running.rooted }

rooted-content : (over : Over) (top : Frame) (content : Scopes) (below : List Frame)
    → IsRooted (machine_over over) top below → IsRooted (machine_over over) (record top { content = content }) below
rooted-content over top content [] rooted = rooted
rooted-content over top content (frame ∷ below) rooted = rooted

pub open-content : (over : Over) (levels : ℕ) (state new : State) (frame : Frame) (content : Scopes)
    → IsRunning (run_of over levels) state → depth state.stack ≤ few_at levels
    → frame ≡ record state.stack.top { content = content }
    → new ≡ record state { stack = record state.stack { top = frame } } → AreOpen over levels new.stack
open-content over levels state new frame content running few is new-is =
    rw (new-is, is)
    (record {
      few = omega (arith, few);
      rooted = rooted-content over state.stack.top content state.stack.below running.rooted;
    })

pub open-begun : (over : Over) (levels : ℕ) (state new : State) (frame : Frame) → IsRunning (run_of over levels) state
    → depth state.stack ≤ few_at levels → new ≡ record state { stack = on frame state.stack }
    → AreOpen over levels new.stack
open-begun over levels state new frame running few is = rw is (open-pushed over levels state frame running few)

pub inside-all : (text : List ℕ) (hit : Captures) (chars : ℕ) (entries : List RuleCapture) (takens : List Taken)
    → takens ≡ takens_of text hit entries → ((n : ℕ) → IfSome (capture_of hit n) (IsPart chars))
    → All (IsInside chars) takens
inside-all text hit chars entries takens is are = rw is (takens-inside text hit chars entries are)
