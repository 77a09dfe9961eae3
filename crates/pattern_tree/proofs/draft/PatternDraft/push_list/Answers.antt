use Rattle.std.proofs.Common.{◌≡◌, ℕ, List, [], ◌∷◌, ◌++◌, length, Result, Ok, Err, subst, sym, arith}
use Rattle.std.specs.Prelude.{OnOk, OnErr}
use Rattle.pattern_defs.specs.declared.nodes.PatNode.{PatNode}
use Rattle.pattern_defs.specs.Patterns.{NodeLists, AreNodes, AreLists}
use Rattle.pattern_tree.specs.Drafts.{Drafted}
use Rattle.pattern_tree.proofs.ListLemmas.{AreLists-push}
use Rattle.pattern_tree.proofs.draft.PatternDraft.push_list.Goals as goal

-- the lists stay well formed, whether there is one more or not
kept : {X E : Type 0} (result : Result X E) (g : ℕ) (old new : NodeLists) (nodes : List PatNode)
    → OnOk result (new ≡ old ++ nodes ∷ []) → OnErr result (new ≡ old) → AreLists 0 g old
    → AreNodes (length old) g nodes → AreLists 0 g new
kept (Ok id) g old new nodes ok err are more = rw ok (AreLists-push 0 g (length old) old nodes are (omega arith) more)
kept (Err error) g old new nodes ok err are more = rw err are

pub invariant_of-self : goal.invariant_of-self
invariant_of-self c =
    let more : AreNodes (length c.self.inside.arena) c.self.inside.named c.args.nodes.items =
    let P : Drafted → Type 0 = λ d. AreNodes (length d.lists) d.named c.args.nodes.items in
    subst P (sym c.self.view_is) c.requires in
    kept c.push_list.result c.self.inside.named c.self.inside.arena c.push_list.new.self c.args.nodes.items
    c.push_list.ensures.ok c.push_list.ensures.err c.self.invariant more
