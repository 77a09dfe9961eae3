use Rattle.std.proofs.Common.{refl, ◌≡◌, ◌++◌, [], ◌∷◌, Some, None, ◌+◌, drop, ap, sym, ◌∙◌, subst, arith}
use Rattle.std.proofs.lemmas.List.{drop_more}
use Rattle.std.specs.Prelude.{codes, option_map}
use Rattle.serde_json.specs.Data.{items_depth, members_depth}
use Rattle.serde_json.specs.View.{view, items_view, members_view}
use Rattle.serde_json.specs.Find.{get}
use Rattle.serde_json.specs.Data.{member, item}
use Rattle.std.specs.Fmt.{decimal}
use Rattle.std.proofs.lemmas.Result.{err_from_is_err_and}
use Rattle.grammar_json.proofs.FaultLemmas.{IsFirst_append}
use Rattle.grammar_defs.specs.FileRules.{FileList}
use Rattle.grammar_defs.specs.Pointers.{all_below}
use Rattle.grammar_defs.specs.RuleShape.{is_capture_key, number_after, captures_wide, entries_of}
use Rattle.grammar_defs.specs.RuleFaults.{wide_faults, entries_faults}
use Rattle.grammar_json.specs.Faults.{IsFirst}
use Rattle.grammar_json.specs.FileViews.{captures_then, entries_then}
use Rattle.grammar_json.specs.Members.{member_faults, member_capture}
use Rattle.std.specs.Prelude.{string_bytes, if◌then◌else◌}
use Rattle.grammar_json.proofs.MemberLemmas.{depth_below, patterns_none, patterns_some, captures_none, captures_some}
use Rattle.grammar_json.proofs.MemberLemmas.{wide_step, wide_stop, entries_then_more, pushed_member}
use Rattle.grammar_json.proofs.rules.+rules.Goals as goal

pub captures_at-read_captures-requires : goal.captures_at-read_captures-requires
captures_at-read_captures-requires t c =
    let found : get c.args.key.now (view c.args.value.now) ≡ Some (view c.in-Some.captures.now) =
    sym c.get.ensures ∙ ap (option_map (λ v. view v.now)) c.in-Some.is in
    (omega (arith, depth_below c.args.key.now (view c.args.value.now) (view c.in-Some.captures.now) found), tt)

pub captures_at-returns-in-Ok : goal.captures_at-returns-in-Ok
captures_at-returns-in-Ok t c =
    let found : get c.args.key.now (view c.args.value.now) ≡ Some (view c.in-Some.captures.now) =
    sym c.get.ensures ∙ ap (option_map (λ v. view v.now)) c.in-Some.is in
    let both = captures_some c.args.key.now (view c.args.value.now) (view c.in-Some.captures.now) found in
    (both.0 ∙ ap (all_below c.args.key.now) c.in-Ok.ensures.0, c.in-Ok.ensures.1 ∙ sym both.1)

pub captures_at-returns-in-Err : goal.captures_at-returns-in-Err
captures_at-returns-in-Err t c =
    let found : get c.args.key.now (view c.args.value.now) ≡ Some (view c.in-Some.captures.now) =
    sym c.get.ensures ∙ ap (option_map (λ v. view v.now)) c.in-Some.is in
    let both = captures_some c.args.key.now (view c.args.value.now) (view c.in-Some.captures.now) found in
    subst (IsFirst c.below.result) (sym both.0) (c.below.ensures _ c.in-Err.ensures)

pub captures_at-returns-in-None : goal.captures_at-returns-in-None
captures_at-returns-in-None t c =
    captures_none c.args.key.now (view c.args.value.now)
    (sym c.get.ensures ∙ ap (option_map (λ v. view v.now)) c.in-None.is)

pub patterns_at-read_list-requires : goal.patterns_at-read_list-requires
patterns_at-read_list-requires t c =
    let found : get (codes "patterns") (view c.args.value.now) ≡ Some (view c.in-Some.list.now) =
    sym c.get.ensures ∙ ap (option_map (λ v. view v.now)) c.in-Some.is in
    (omega (arith, depth_below (codes "patterns") (view c.args.value.now) (view c.in-Some.list.now) found), tt)

pub patterns_at-returns-in-Ok : goal.patterns_at-returns-in-Ok
patterns_at-returns-in-Ok t c =
    let found : get (codes "patterns") (view c.args.value.now) ≡ Some (view c.in-Some.list.now) =
    sym c.get.ensures ∙ ap (option_map (λ v. view v.now)) c.in-Some.is in
    let both = patterns_some (view c.args.value.now) (view c.in-Some.list.now) found in
    (both.0 ∙ ap (all_below (codes "patterns")) c.in-Ok.ensures.0, c.in-Ok.ensures.1 ∙ sym both.1)

pub patterns_at-returns-in-Err : goal.patterns_at-returns-in-Err
patterns_at-returns-in-Err t c =
    let found : get (codes "patterns") (view c.args.value.now) ≡ Some (view c.in-Some.list.now) =
    sym c.get.ensures ∙ ap (option_map (λ v. view v.now)) c.in-Some.is in
    let both = patterns_some (view c.args.value.now) (view c.in-Some.list.now) found in
    subst (IsFirst c.below.result) (sym both.0) (c.below.ensures _ c.in-Err.ensures)

pub patterns_at-returns-in-None : goal.patterns_at-returns-in-None
patterns_at-returns-in-None t c = patterns_none (view c.args.value.now)
    (sym c.get.ensures ∙ ap (option_map (λ v. view v.now)) c.in-None.is)

pub capture_lists-returns : goal.capture_lists-returns
capture_lists-returns t c = (
  rw (
    c.in_ok-captures.ensures.0,
    c.in_ok-begin_captures.ensures.0,
    c.in_ok-end_captures.ensures.0,
    c.in_ok-while_captures.ensures.0,
  ) refl,
  record {
    plain = c.in_ok-captures.ensures.1;
    of_begin = c.in_ok-begin_captures.ensures.1;
    of_end =
        c.in_ok-end_captures.ensures.1;
    of_while = c.in_ok-while_captures.ensures.1;
  },
)

pub push_captures-loop-key-preserved : goal.push_captures-loop-key-preserved
push_captures-loop-key-preserved t c =
    let l = c.loop-key in
    let w = c.args.width in
    let k = string_bytes c.in-Some.key.now in
    let d = view c.in-Some.member.now in
    let rest = members_view c.next.new.self in
    let told = subst (λ k. (member_faults w k d ≡ [])
    × ((others : FileList) → captures_then c.push_member.new.captures.items others
    ≡ captures_then l.captures.items (member_capture w k d others)))
    c.as_str.ensures.value c.in_ok-push_member.ensures in
    let steps : members_view l.key-iterator ≡ member k d rest = ap members_view c.in-Some.ensures.steps in
    record {
      deep = omega (arith, l.invariant.deep, ap members_depth steps);
      faults = l.invariant.faults ∙ (ap (wide_faults w) steps ∙ wide_step w k d rest told.0);
      captures = λ others. told.1 (captures_wide w rest others)
          ∙ (ap (λ ms. captures_then l.captures.items (captures_wide w ms others)) (sym steps)
          ∙ l.invariant.captures others);
    }

pub push_captures-returns-in_err-push_member : goal.push_captures-returns-in_err-push_member
push_captures-returns-in_err-push_member t c =
    let l = c.loop-key in
    let w = c.args.width in
    let k = string_bytes c.in-Some.key.now in
    let d = view c.in-Some.member.now in
    let rest = members_view c.next.new.self in
    let told = subst (λ k. IsFirst c.in_err-push_member.field-0.0 (member_faults w k d)) c.as_str.ensures.value
    c.in_err-push_member.ensures in
    let steps : members_view l.key-iterator ≡ member k d rest = ap members_view c.in-Some.ensures.steps in
    let p = err_from_is_err_and c.from_residual.result c.from_residual.ensures.1 in
    rw (p.1, p.2) (subst (IsFirst _) (sym (l.invariant.faults ∙ ap (wide_faults w) steps))
    (wide_stop _ w k d rest told))

pub push_member-returns-in-Ok : goal.push_member-returns-in-Ok
push_member-returns-in-Ok t c =
    let k = c.args.key.now in
    let d = view c.args.member.now in
    let is = subst (λ k. Some c.in-Some.number
    ≡ (if is_capture_key c.args.width k then Some (number_after 0 k) else None)) c.as_bytes.ensures.value
    c.in-Some.ensures in
    pushed_member c.push_if_there.result c.args.captures.now.items c.push_if_there.new.captures.items c.in-Ok.found
    c.args.width c.in-Some.number k d is c.in-Ok.ensures c.push_if_there.ensures

pub read_entries-returns-in-Err : goal.read_entries-returns-in-Err
read_entries-returns-in-Err t c =
    let l = c.loop-index in
    let v = c.index-items-index.result in
    let rest = drop (l.index + 1) c.args.items.now in
    let more : drop l.index c.args.items.now ≡ v ∷ rest =
    drop_more c.args.items.now l.index v c.loop-index-test.true ∙ ap (λ x. x ∷ rest) (sym c.index-items-index.is) in
    let all : entries_faults 0 (items_view c.args.items.now)
    ≡ entries_faults l.index (item (view v) (items_view rest)) =
    l.invariant.faults ∙ ap (λ vs. entries_faults l.index (items_view vs)) more in
    subst (IsFirst _) (sym all) (IsFirst_append _ _ _ (c.below_index.ensures _ c.in-Err.ensures))

pub read_entries-loop-index-preserved : goal.read_entries-loop-index-preserved
read_entries-loop-index-preserved t c =
    let l = c.loop-index in
    let v = c.index-items-index.result in
    let rest = drop (l.index + 1) c.args.items.now in
    let others = entries_of (items_view rest) in
    let told = c.in-Ok.ensures in
    let more : drop l.index c.args.items.now ≡ v ∷ rest =
    drop_more c.args.items.now l.index v c.loop-index-test.true ∙ ap (λ x. x ∷ rest) (sym c.index-items-index.is) in
    record {
      deep = omega (arith, l.invariant.deep, ap (λ vs. items_depth (items_view vs)) more);
      faults = l.invariant.faults ∙ (ap (λ vs. entries_faults l.index (items_view vs)) more
          ∙ ap (λ x. all_below (decimal l.index) x ++ entries_faults (l.index + 1) (items_view rest)) told.0);
      entries = ap (λ es. entries_then es others) c.in_ok-push-in-Ok.ensures.items
          ∙ (entries_then_more l.entries.items c.in-Ok.entry others
          ∙ (ap (entries_then l.entries.items) (told.1 others)
          ∙ (ap (λ vs. entries_then l.entries.items (entries_of (items_view vs))) (sym more) ∙ l.invariant.entries)));
    }
