use Rattle.std.proofs.Common.{◌≡◌, List, [], ◌∷◌, true, false, refl, sym, subst, get_or}
use Rattle.pattern_defs.specs.declared.nodes.Arm.{Arm}
use Rattle.pattern_defs.specs.declared.nodes.PatNode.TheVariants.{One, Behind}
use Rattle.pattern_defs.specs.Patterns.{nodes_of}
use Rattle.onig_scan.specs.Pasts.{IsPast}
use Rattle.onig_scan.proofs.PastLaws.{single_arm, IsPast-wanted, IsPast-unwanted}
use Rattle.onig_scan.proofs.past.past_of_arms.Goals as goal

pub returns-in_ok-set : goal.returns-in_ok-set
returns-in_ok-set c = λ inside.
    let none : Arm = record { length = 0; body = record { 0 = 0 } } in
    let arm : Arm = get_or c.args.arms.now 0 none in
    let is = c.in-Some.ensures in
    let nodes : nodes_of c.args.pattern.now.lists arm.body ≡ One c.in_ok-set.set ∷ [] =
    rw c.in_ok-set.ensures is.1 in
    let Past : List Arm → Type 0 = λ arms. IsPast inside c.args.pattern.now.lists (Behind arms true ∷ [])
    (record { set = c.in_ok-set.set; cost = 3; stays = false }) 3 in
    rw c.if-wanted.true
    (subst Past (sym (single_arm c.args.arms.now none c.in-len1.len_at_least c.in-len1.len_below))
    (IsPast-wanted inside _ arm _ is.0 nodes))

pub returns-in_ok-set-2 : goal.returns-in_ok-set-2
returns-in_ok-set-2 c = λ inside.
    let none : Arm = record { length = 0; body = record { 0 = 0 } } in
    let arm : Arm = get_or c.args.arms.now 0 none in
    let is = c.in-Some.ensures in
    let Past : List Arm → Type 0 = λ arms. IsPast inside c.args.pattern.now.lists (Behind arms false ∷ [])
    (record { set = c.in_ok-set-2.set; cost = 3; stays = true }) 3 in
    rw c.if-wanted.false
    (subst Past (sym (single_arm c.args.arms.now none c.in-len1.len_at_least c.in-len1.len_below))
    (IsPast-unwanted inside _ arm _ _ is.0 is.1 refl c.in_ok-set-2.ensures))
