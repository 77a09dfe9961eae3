use Rattle.std.proofs.Common.{◌≡◌, ℕ, ◌+◌, ◌<◌, List, [], ◌∷◌, ◌++◌, length, sym}
use Rattle.std.proofs.Common.{ap, ◌∙◌, subst, arith, append_assoc, append-nil, length-append}
use Rattle.tree_defs.specs.Tree.{Tree}
use Rattle.tree_defs.specs.Shape.{leaves_of, all_leaves, RunsFit}
use Rattle.tree_concat.specs.Joined.{AllHigh, first_height}
use Rattle.tree_defs.proofs.Lengths.{runs_of, back_runs}
use Rattle.tree_concat.proofs.Children.{high_append, leaves_append, first_of}
use Rattle.tree_concat.proofs.level.lists_of.Goals as goal

-- the first two nodes behind the lists made
two_next : (made rest all : List Tree) (a b : Tree) (more : List Tree) → all_leaves made ++ all_leaves rest
    ≡ all_leaves all → rest ≡ a ∷ (b ∷ more)
    → all_leaves made ++ ((leaves_of a ++ leaves_of b) ++ all_leaves more) ≡ all_leaves all
two_next made rest all a b more are is =
    ap (λ l. all_leaves made ++ l) (append_assoc (leaves_of a) (leaves_of b) (all_leaves more)
    ∙ sym (ap all_leaves is)) ∙ are

one_more : (made : List Tree) (t : Tree) (rest : List Tree) (now : List Tree) → now ≡ made ++ t ∷ []
    → all_leaves now ++ all_leaves rest ≡ all_leaves made ++ (leaves_of t ++ all_leaves rest)
one_more made t rest now is =
    ap (λ l. all_leaves l ++ all_leaves rest) is
    ∙ ap (λ l. l ++ all_leaves rest) (leaves_append made (t ∷ [])
    ∙ ap (λ l. all_leaves made ++ l) (append-nil (leaves_of t)))
    ∙ append_assoc (all_leaves made) (leaves_of t) (all_leaves rest)

high_rest : (h : ℕ) (rest : List Tree) (a b : Tree) (more : List Tree) → rest ≡ a ∷ (b ∷ more) → AllHigh h rest
    → AllHigh h (a ∷ (b ∷ more))
high_rest h rest a b more is all = subst (λ l. AllHigh h l) is all

pub two-requires-clause-fit : goal.two-requires-clause-fit
two-requires-clause-fit c =
    let a = c.first_two.result.0.now in let b = c.first_two.result.1.now in let more = c.first_two.result.2.now in
    runs_of (all_leaves c.loop-rest.lists.items) (leaves_of a ++ leaves_of b) (all_leaves more)
    (all_leaves c.args.nodes.now)
    (sym (two_next c.loop-rest.lists.items c.loop-rest.rest.now c.args.nodes.now a b more
    c.loop-rest.invariant.leaves c.first_two.ensures)) c.requires.fit

pub two-requires-clause-high : goal.two-requires-clause-high
two-requires-clause-high c =
    let all = high_rest (first_height c.args.nodes.now) c.loop-rest.rest.now c.first_two.result.0.now
    c.first_two.result.1.now c.first_two.result.2.now c.first_two.ensures c.loop-rest.invariant.high in
    all.1.0 ∙ sym all.0

pub loop-rest-preserved : goal.loop-rest-preserved
loop-rest-preserved c =
    let a = c.first_two.result.0.now in let b = c.first_two.result.1.now in let more = c.first_two.result.2.now in
    let all = high_rest (first_height c.args.nodes.now) c.loop-rest.rest.now a b more c.first_two.ensures
    c.loop-rest.invariant.high in
    let items : c.push.new.self.items ≡ c.loop-rest.lists.items ++ c.in_ok-two.field-0 ∷ [] =
    c.in_ok-push.ensures.items in
    let count : length c.push.new.self.items ≡ length c.loop-rest.lists.items + 1 =
    ap length items ∙ length-append c.loop-rest.lists.items (c.in_ok-two.field-0 ∷ []) in
    let left : length c.loop-rest.rest.now ≡ length (a ∷ (b ∷ more)) = ap length c.first_two.ensures in
    let before = c.loop-rest.invariant.count in
    record {
      leaves = one_more c.loop-rest.lists.items c.in_ok-two.field-0 more c.push.new.self.items items
          ∙ ap (λ l. all_leaves c.loop-rest.lists.items ++ (l ++ all_leaves more)) c.in_ok-two.ensures.leaves
          ∙ two_next c.loop-rest.lists.items c.loop-rest.rest.now c.args.nodes.now a b more
          c.loop-rest.invariant.leaves c.first_two.ensures;
      made = rw items (high_append (first_height c.args.nodes.now + 1) c.loop-rest.lists.items c.in_ok-two.field-0
          c.loop-rest.invariant.made (c.in_ok-two.ensures.high ∙ ap (λ n. n + 1) all.0));
      high = all.1.1;
      some = omega arith;
      count = omega arith;
    }

pub last_list-requires-clause-high : goal.last_list-requires-clause-high
last_list-requires-clause-high c = first_of (first_height c.args.nodes.now) c.loop-rest.rest.now (omega arith)
    c.loop-rest.invariant.high

pub last_list-requires-clause-fit : goal.last_list-requires-clause-fit
last_list-requires-clause-fit c = back_runs (all_leaves c.loop-rest.lists.items) (all_leaves c.loop-rest.rest.now)
    (subst (λ (l : List Tree). RunsFit l) (sym c.loop-rest.invariant.leaves) c.requires.fit)

pub returns-clause-leaves : goal.returns-clause-leaves
returns-clause-leaves c =
    sym (append-nil (all_leaves c.push-2.new.self.items))
    ∙ one_more c.loop-rest.lists.items c.in_ok-last_list.field-0 [] c.push-2.new.self.items
    c.in_ok-push-2.ensures.items
    ∙ ap (λ l. all_leaves c.loop-rest.lists.items ++ l)
    (append-nil (leaves_of c.in_ok-last_list.field-0) ∙ c.in_ok-last_list.ensures.leaves)
    ∙ c.loop-rest.invariant.leaves

first_height_of : (h : ℕ) (ts : List Tree) → 0 < length ts → AllHigh h ts → first_height ts ≡ h
first_height_of h [] some all = absurd (omega arith)
first_height_of h (t ∷ ts) some all = all.0

pub returns-clause-high : goal.returns-clause-high
returns-clause-high c =
    rw c.in_ok-push-2.ensures.items (high_append (first_height c.args.nodes.now + 1) c.loop-rest.lists.items
    c.in_ok-last_list.field-0 c.loop-rest.invariant.made
    (c.in_ok-last_list.ensures.high ∙ ap (λ n. n + 1)
    (first_height_of (first_height c.args.nodes.now) c.loop-rest.rest.now (omega arith)
    c.loop-rest.invariant.high)))
