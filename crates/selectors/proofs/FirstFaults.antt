-- A selector is refused at the first character that no selector has there.
use Rattle.std.proofs.Common.{◌≡◌, ℕ, suc, ◌+◌, ◌<◌, ◌≤◌, ◌⊎◌, inl, inr, Bool, true, false, cond, List, [], ◌∷◌}
use Rattle.std.proofs.Common.{◌++◌, length, take, get_or, Option, Some, None, Result, Ok, Err, IsOk}
use Rattle.std.proofs.Common.{IsTrue, ℤ, refl, sym, ◌∙◌, ap, subst, append_assoc, arith}
use Rattle.std.proofs.lemmas.Bool.{false≢true}
use Rattle.std.proofs.Math.Seq.{take-suc, take-length}
use Rattle.scope_defs.specs.declared.limits.TheConstants.{MOST_NESTED}
use Rattle.scope_defs.specs.Selectors.{Matcher, Path, Entry}
use Rattle.scope_defs.specs.SelectorSyntax as syntax
use Rattle.scope_defs.specs.SelectorSyntax.{Reading, Level, nothing, step, at_end, on_step, operand_of, is_too_deep}
use Rattle.scope_defs.specs.SelectorSyntax.{whole, with_operand, read_on, read_selector}
use Rattle.selectors.specs.RefusalLaws.{goes_on, after, MayEnd, BeginsSelector, IsDeepAfter}
use Rattle.selectors.specs.RefusalLaws.{BeginsTooDeep, IsFirstFault}

-- one text behind another

on_more : (x : Option Reading) (cs ys : List ℕ)
    → ((r : Reading) → after (cs ++ ys) r ≡ goes_on (after cs r) (after ys)) → goes_on x (after (cs ++ ys))
    ≡ goes_on (goes_on x (after cs)) (after ys)
on_more None cs ys rest = refl
on_more (Some r) cs ys rest = rest r

after-append : (xs ys : List ℕ) (r : Reading) → after (xs ++ ys) r ≡ goes_on (after xs r) (after ys)
after-append [] ys r = refl
after-append (c ∷ cs) ys r = on_more (step c r) cs ys (λ s. after-append cs ys s)

-- where reading stops

pub record FaultFrom (text : List ℕ) (r : Reading) (place at : ℕ) : Type 0 where
  pub count : ℕ
  pub is : at ≡ place + count
  pub within : count ≤ length text
  pub reached : Reading
  pub goes : after (take count text) r ≡ Some reached
  pub there : count < length text → (step (get_or text count 0) reached ≡ None)
      ⊎ IsTrue (is_too_deep MOST_NESTED (get_or text count 0) reached)
  pub ends : count ≡ length text → IsOk (at_end (operand_of reached.stand) reached.around reached 0) → ⊥

abbrev ok_read : List Entry → Result (List Entry) ℕ
ok_read es = Ok es

ok_no_err : (es : List Entry) (at : ℕ) → ok_read es ≡ Err at → ⊥
ok_no_err es at is = cc

end_fault : (operand : Option Matcher) (around : List Level) (r : Reading) (place at : ℕ)
    → at_end operand around r place ≡ Err at → (at ≡ place) × (IsOk (at_end operand around r 0) → ⊥)
end_fault None around r place at is = (cc, λ ok. false≢true ok)
end_fault (Some operand) [] r place at is = absurd (ok_no_err (syntax.with_entry r operand) at is)
end_fault (Some operand) (outer ∷ around) r place at is = (cc, λ ok. false≢true ok)

truth_of : (b : Bool) → b ≡ true → IsTrue b
truth_of b is = is

plus_nothing : (place at : ℕ) → at ≡ place → at ≡ place + 0
plus_nothing place at is = omega arith

same_place : (place at : ℕ) (read : Result (List Entry) ℕ) → read ≡ Err place → read ≡ Err at → at ≡ place
same_place place at read a b = cc

step_fault : (c : ℕ) (cs : List ℕ) (r : Reading) (place at : ℕ) (deep : Bool) (x : Option Reading)
    → is_too_deep MOST_NESTED c r ≡ deep → step c r ≡ x
    → cond deep (Err place) (on_step x place (read_on MOST_NESTED cs)) ≡ Err at
    → ((s : Reading) → read_on MOST_NESTED cs s (place + 1) ≡ Err at → FaultFrom cs s (place + 1) at)
    → FaultFrom (c ∷ cs) r place at
step_fault c cs r place at true x deep is fault rest = record {
  count = 0;
  is = plus_nothing place at (same_place place at (Err place) refl fault);
  within = omega arith;
  reached = r;
  goes = refl;
  there = λ lt. inr (truth_of (is_too_deep MOST_NESTED c r) deep);
  ends = λ e ok. absurd (omega arith);
}
step_fault c cs r place at false None deep is fault rest = record {
  count = 0;
  is = plus_nothing place at (same_place place at (Err place) refl fault);
  within = omega arith;
  reached = r;
  goes = refl;
  there = λ lt. inl is;
  ends = λ e ok. absurd (omega arith);
}
step_fault c cs r place at false (Some s) deep is fault rest =
    let h = rest s fault in
    record {
      count = suc h.count;
      is = omega (arith, h.is);
      within = omega (arith, h.within);
      reached = h.reached;
      goes = ap (λ x. goes_on x (after (take h.count cs))) is ∙ h.goes;
      there = λ lt. h.there (omega arith);
      ends = λ e ok. h.ends (omega arith) ok;
    }

fault_from : (text : List ℕ) (r : Reading) (place at : ℕ) → read_on MOST_NESTED text r place ≡ Err at
    → FaultFrom text r place at
fault_from [] r place at is =
    let h = end_fault (operand_of r.stand) r.around r place at is in
    record {
      count = 0;
      is = plus_nothing place at h.0;
      within = omega arith;
      reached = r;
      goes = refl;
      there =
          λ lt. absurd (omega arith);
      ends = λ e ok. h.1 ok;
    }
fault_from (c ∷ cs) r place at is = step_fault c cs r place at (is_too_deep MOST_NESTED c r) (step c r) refl refl is
    (λ s fault. fault_from cs s (place + 1) at fault)

-- each reading can be ended

abbrev Ends : Reading → Type 0
Ends r = (rest : List ℕ) × MayEnd (after rest r)

closed_ends : (around : List Level) (entries : List Entry) (priority : ℤ) (level : Level) (inside : Matcher)
    → Ends (record {
      entries = entries;
      priority = priority;
      around = around;
      level = level;
      stand =
          syntax.Closed inside;
    })
closed_ends [] entries priority level inside = ([], refl)
closed_ends (outer ∷ around) entries priority level inside =
    let h = closed_ends around entries priority outer (whole level inside) in (41 ∷ h.0, h.1)

naming_ends : (around : List Level) (entries : List Entry) (priority : ℤ) (level : Level) (names : List (List ℕ))
    (name : List ℕ) (begins : Bool)
    → Ends (record {
      entries = entries;
      priority = priority;
      around = around;
      level = level;
      stand =
          syntax.Naming names name begins;
    })
naming_ends [] entries priority level names name begins = ([], refl)
naming_ends (outer ∷ around) entries priority level names name begins =
    let h = closed_ends around entries priority outer (whole level (Path (names ++ name ∷ []))) in (41 ∷ h.0, h.1)

spaced_ends : (around : List Level) (entries : List Entry) (priority : ℤ) (level : Level) (names : List (List ℕ))
    → Ends (record {
      entries = entries;
      priority = priority;
      around = around;
      level = level;
      stand =
          syntax.Spaced names;
    })
spaced_ends [] entries priority level names = ([], refl)
spaced_ends (outer ∷ around) entries priority level names = let h =
    closed_ends around entries priority outer (whole level (Path names)) in (41 ∷ h.0, h.1)

stand_ends : (stand : syntax.Stand) (around : List Level) (entries : List Entry) (priority : ℤ) (level : Level)
    → Ends (record { entries = entries; priority = priority; around = around; level = level; stand = stand })
stand_ends syntax.Start around entries priority level = let h =
    naming_ends around entries priority level [] (97 ∷ []) true in (97 ∷ h.0, h.1)
stand_ends syntax.Wanting around entries priority level = let h =
    naming_ends around entries priority level [] (97 ∷ []) false in (97 ∷ h.0, h.1)
stand_ends (syntax.Naming names name begins) around entries priority level =
    naming_ends around entries priority level names name begins
stand_ends (syntax.Spaced names) around entries priority level = spaced_ends around entries priority level names
stand_ends (syntax.Closed inside) around entries priority level = closed_ends around entries priority level inside

-- the law

behind_front : (front rest : List ℕ) (reached : Reading) → after front nothing ≡ Some reached
    → after (front ++ rest) nothing ≡ after rest reached
behind_front front rest reached goes = after-append front rest nothing ∙ ap (λ x. goes_on x (after rest)) goes

one_more : (text : List ℕ) (count : ℕ) → count < length text → take (count + 1) text
    ≡ take count text ++ get_or text count 0 ∷ []
one_more text count lt = ap (λ n. take n text) (let e : count + 1 ≡ suc count = omega arith in e)
    ∙ take-suc text count 0 lt

stops : (text : List ℕ) (count : ℕ) (reached : Reading) → count < length text → after (take count text) nothing
    ≡ Some reached → step (get_or text count 0) reached ≡ None → BeginsSelector (take (count + 1) text) → ⊥
stops text count reached lt goes none begins =
    let front = take count text in
    let c = get_or text count 0 in
    let e : after (take (count + 1) text ++ begins.0) nothing ≡ None =
    ap (λ xs. after (xs ++ begins.0) nothing) (one_more text count lt)
    ∙ (ap (λ xs. after xs nothing) (append_assoc front (c ∷ []) begins.0)
    ∙ (behind_front front (c ∷ begins.0) reached goes ∙ ap (λ x. goes_on x (after begins.0)) none)) in
    subst MayEnd e begins.1

deep_after : (x : Option Reading) (reached : Reading) (c : ℕ) → x ≡ Some reached
    → IsTrue (is_too_deep MOST_NESTED c reached) → IsDeepAfter x c
deep_after x reached c is deep = subst (λ y. IsDeepAfter y c) (sym is) deep

why : (text : List ℕ) (count : ℕ) (reached : Reading) → count < length text → after (take count text) nothing
    ≡ Some reached
    → (step (get_or text count 0) reached ≡ None) ⊎ IsTrue (is_too_deep MOST_NESTED (get_or text count 0) reached)
    → (¬ BeginsSelector (take (count + 1) text)) ⊎ BeginsTooDeep (take count text) (get_or text count 0)
why text count reached lt goes (inl none) = inl (stops text count reached lt goes none)
why text count reached lt goes (inr deep) =
    inr (deep_after (after (take count text) nothing) reached (get_or text count 0) goes deep)

fault_at : (text : List ℕ) (at : ℕ) → FaultFrom text nothing 0 at → IsFirstFault text at
fault_at text at h =
    let same : h.count ≡ at = omega (arith, h.is) in
    let end = stand_ends h.reached.stand h.reached.around h.reached.entries h.reached.priority h.reached.level in
    let P : ℕ → Type 0 = λ n. BeginsSelector (take n text) in
    let Q : ℕ → Type 0 = λ n. n < length text → (¬ BeginsSelector (take (n + 1) text))
    ⊎ BeginsTooDeep (take n text) (get_or text n 0) in
    record {
      within = omega (arith, h.within);
      before = subst P same (end.0, subst MayEnd (sym (behind_front (take h.count text) end.0 h.reached h.goes)) end.1);
      there = subst Q same (λ lt. why text h.count h.reached lt h.goes (h.there lt));
      at_end = λ e is. h.ends (omega (arith, e))
          (subst MayEnd (ap (λ xs. after xs nothing)
          (sym (ap (λ n. take n text) (let f : h.count ≡ length text = omega (arith, e) in f) ∙ take-length text))
          ∙ h.goes) is);
    }

pub refused_first : (text : List ℕ) (at : ℕ) → read_selector text ≡ Err at → IsFirstFault text at
refused_first text at is = fault_at text at (fault_from text nothing 0 at is)
