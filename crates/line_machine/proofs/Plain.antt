-- Without a grammar a line is one token.
use Rattle.std.proofs.Common.{◌≡◌, ℕ, ◌+◌, ◌-◌, ◌<◌, ◌≤◌, min, List, [], ◌∷◌, length, refl, ap}
use Rattle.std.proofs.Common.{sym, ◌∙◌, arith}
use Rattle.std.specs.Prelude.{Bool, true, false, nat_le, nat_lt, ◌==◌, find, if◌then◌else◌}
use Rattle.std.specs.List.{flat_map}
use Rattle.std.proofs.lemmas.List.{length-append}
use Rattle.std.proofs.lemmas.Bool.Decides.{nat_tests}
use Rattle.pattern_defs.specs.FirstMatch.{pairs_at, places, is_no_miss, tried}
use Rattle.scope_defs.specs.Scopes.{Scopes}
use Rattle.scope_defs.specs.Frames.{Frame, Start, Token}
use Rattle.line_defs.specs.declared.limits.TheConstants.{MOST_LEVELS}
use Rattle.line_defs.specs.Machine.{Machine}
use Rattle.line_defs.specs.Frames.{after}
use Rattle.line_defs.specs.Tokens.{Output, nothing_told, put, whole, within_line, last_token, at_least_one}
use Rattle.line_defs.specs.Runs.{State, GoesOn, rest}
use Rattle.line_defs.specs.Search.{Sight, Nothing, scan, found_by, sight}
use Rattle.line_defs.specs.Injections.{with_injections}
use Rattle.line_defs.specs.Turns.{turn, turn_by, run_from}
use Rattle.line_defs.specs.WhilePass.{pass_over, from_root}
use Rattle.line_defs.specs.Line.{LineResult, inside_by, run_over, with_line_feed, at_front, after_pass, line_run}
use Rattle.line_defs.specs.Line.{result_of, long_line, line_by, tokenised, no_grammar}
use Rattle.line_laws.specs.Starts.{IsFit}
use Rattle.line_laws.proofs.Turns.{run_from-ends}
use Rattle.line_laws.proofs.Lines.{front-running}
use Rattle.line_turns.proofs.Runs.{runs-end}
use Rattle.line_machine.proofs.Bare.{forgotten-again}

no-pairs : (all : List ℕ) → flat_map (pairs_at 0 []) all ≡ []
no-pairs [] = refl
no-pairs (place ∷ all) = no-pairs all

scan-nothing : (sight : Sight) → scan sight [] ≡ Nothing
scan-nothing sight =
    ap (λ ps. found_by sight []
    (find (λ pair. is_no_miss (tried sight.text sight.flags sight.budget pair)) ps))
    (no-pairs (places sight.place (length sight.text + 1 - sight.place)))

module _ (budget long : ℕ) where
  abbrev plain : Machine
  plain = no_grammar budget long

  no-pass : (text : List ℕ) (frames below : List Frame) (state : State)
      → pass_over (run_over plain text) frames below state ≡ GoesOn state
  no-pass text [] below state = refl
  no-pass text (frame ∷ frames) below state = no-pass text frames (frame ∷ below) state

  turn-plain : (text : List ℕ) (state : State) → turn (run_over plain text) state ≡ rest text state
  turn-plain text state =
      ap (λ f. turn_by (with_injections plain (sight plain text state) state.stack.top.content f)
      (run_over plain text) state) (scan-nothing (sight plain text state))

  abbrev token : Scopes → ℕ → Token
  token scopes end = record { from = 0; to = end; scopes = scopes }

  abbrev told : Scopes → ℕ → Output
  told scopes end = record { tokens = token scopes end ∷ []; end = end; stopped = false }

  put-plain : (scopes : Scopes) (n m : ℕ) → m ≡ n + 1 → put nothing_told scopes m ≡ told scopes m
  put-plain scopes n m is =
      let some : nat_lt 0 m ≡ true = behind m (omega (arith, is)) in
      ap (λ b. if b then told scopes m else nothing_told) some
    where
      behind : (k : ℕ) → 0 < k → nat_lt 0 k ≡ true
      behind k h = grind (arith, nat_tests)

  tokens-plain : (scopes : Scopes) (n m : ℕ) → m ≡ n + 1
      → at_least_one n scopes (within_line n (token scopes m ∷ [])) ≡ whole n scopes
  tokens-plain scopes n m is = by_test (0 == n) (less m n (omega (arith, is)))
    where
      less : (a b : ℕ) → b ≤ a → min a b ≡ b
      less a b h = omega arith

      by_test : (b : Bool) → min m n ≡ n → at_least_one n scopes (last_token b n (token scopes m)) ≡ whole n scopes
      by_test true e = refl
      by_test false e = ap (λ t. token scopes t ∷ []) e

  module _ (start : Start) (line : List ℕ) (fit : IsFit plain start) where
    abbrev text : List ℕ
    text = with_line_feed line

    abbrev front : State
    front = at_front start

    abbrev last : State
    last = record front { out = put front.out front.stack.top.content (length text) }

    ran-plain : last ≡ line_run plain text front
    ran-plain =
        runs-end (run_over plain text) front last (run_from plain (inside_by plain MOST_LEVELS) text front)
        (run_from-ends plain (inside_by plain MOST_LEVELS) text front (front-running plain start line fit))
        (sym (turn-plain text front))
        ∙ ap (λ t. after_pass t plain text) (sym (no-pass text (from_root front.stack) [] front))

    result-plain : result_of line last ≡ long_line start line
    result-plain =
        let longer : length text ≡ length line + 1 = length-append line (10 ∷ []) in
        ap (λ o. result_of line (record front { out = o }))
        (put-plain front.stack.top.content (length line) (length text) longer)
        ∙ ap (λ ts. let r : LineResult = record { tokens = ts; end = after front.stack; stopped = false } in r)
        (tokens-plain front.stack.top.content (length line) (length text) longer)
        ∙ ap (λ s. let r : LineResult = record {
          tokens = whole (length line) front.stack.top.content;
          end = record { first = false; stack = s };
          stopped = false;
        } in r) (forgotten-again start.stack)

    by_length : (b : Bool) → line_by b plain start line ≡ long_line start line
    by_length true = refl
    by_length false = ap (result_of line) (sym ran-plain) ∙ result-plain

    pub plain-line : tokenised plain start line ≡ long_line start line
    plain-line = by_length (nat_le long (length line))
