use Rattle.std.proofs.Common.{◌≡◌, ◌∙◌, ◌++◌, ◌∷◌, [], sym, ap, Option, Some, None, true, refl}
use Rattle.std.specs.Option.{option_or}
use Rattle.text_pos.specs.declared.length.Pos.{Pos}
use Rattle.tree_queries.specs.Known.{known}
use Rattle.tree_queries.specs.Answers.{next_known}
use Rattle.tree_queries.specs.Parts.{left_of}
use Rattle.tree_defs.specs.Rows.{place}
use Rattle.tree_queries.proofs.NextPlaces.{bare_rows, next_none, next_pair, next_two, next_three}
use Rattle.tree_queries.proofs.jumps.+next.Goals as goal

pub next-returns-then-is_bare : goal.next-returns-then-is_bare
next-returns-then-is_bare t c = λ kinds.
    sym (ap (next_known c.args.at) (bare_rows c.args.node.now c.args.from kinds
    (sym c.is_bare.ensures ∙ c.if-is_bare.true)))

pub next-returns-then-is_left : goal.next-returns-then-is_left
next-returns-then-is_left t c = λ kinds.
    sym (next_none c.args.node.now c.args.from c.args.at kinds c.requires
    (sym (ap (λ p. left_of true (place p) c.args.at) c.end_of.ensures) ∙ sym c.is_left.ensures ∙ c.if-is_left.true))

ored : (a b c x y z u v : Option Pos) → u ≡ option_or x b → v ≡ option_or u z → x ≡ a → b ≡ y → z ≡ c
    → v ≡ option_or (option_or a y) c
ored a b c x y z u v inner outer first mid last =
    outer ∙ ap (λ o. option_or o z) (inner ∙ ap (λ o. option_or o b) first ∙ ap (option_or a) mid)
    ∙ ap (option_or (option_or a y)) last

pub next-returns-in-Pair : goal.next-returns-in-Pair
next-returns-in-Pair t c = λ kinds.
    ored _ c.next_inside.result _ c.from_place.result _ c.next_closer.result c.or.result c.or-in-Pair.result
    c.or.ensures c.or-in-Pair.ensures c.from_place.ensures
    (c.next_inside.ensures (kinds ++ c.pair_at-pair.result.kind ∷ [])) c.next_closer.ensures
    ∙ sym (next_pair c.args.node.now c.args.from c.pair_at-pair.result c.args.at c.pair_at-pair.ensures kinds)

found_first : (all a b : Option Pos) (p : Pos) → all ≡ option_or a b → a ≡ Some p → Some p ≡ all
found_first all a b p is first = sym (is ∙ ap (λ o. option_or o b) first)

found_later : (all a b x : Option Pos) → all ≡ option_or a b → a ≡ None → x ≡ b → x ≡ all
found_later all a b x is none more = more ∙ sym (is ∙ ap (λ o. option_or o b) none)

pub next-returns-in-Some : goal.next-returns-in-Some
next-returns-in-Some t c = λ kinds.
    found_first _ _ _ c.in-Some.found
    (next_two c.args.node.now c.in-Two.a.now c.in-Two.b.now c.args.from c.end_of-second.result c.args.at kinds
    c.in-Two.ensures c.end_of-second.ensures) (sym (c.next.ensures kinds) ∙ c.in-Some.is)

pub next-returns-in-None : goal.next-returns-in-None
next-returns-in-None t c = λ kinds.
    found_later _ _ _ c.next-in-None.result
    (next_two c.args.node.now c.in-Two.a.now c.in-Two.b.now c.args.from c.end_of-second.result c.args.at kinds
    c.in-Two.ensures c.end_of-second.ensures) (sym (c.next.ensures kinds) ∙ c.in-None.is) (c.next-in-None.ensures kinds)

pub next-returns-in-Some-next : goal.next-returns-in-Some-next
next-returns-in-Some-next t c = λ kinds.
    found_first _ _ _ c.in-Some-next.found
    (next_three c.args.node.now c.in-Three.a.now c.in-Three.b.now c.in-Three.c.now c.args.from
    c.end_of-second-in-Three.result c.end_of-third.result c.args.at kinds
    c.in-Three.ensures c.end_of-second-in-Three.ensures c.end_of-third.ensures)
    (sym (c.next-in-Three.ensures kinds) ∙ c.in-Some-next.is)

pub next-returns-in-Some-next-2 : goal.next-returns-in-Some-next-2
next-returns-in-Some-next-2 t c = λ kinds.
    found_later _ _ _ (Some c.in-Some-next-2.found)
    (next_three c.args.node.now c.in-Three.a.now c.in-Three.b.now c.in-Three.c.now c.args.from
    c.end_of-second-in-Three.result c.end_of-third.result c.args.at kinds
    c.in-Three.ensures c.end_of-second-in-Three.ensures c.end_of-third.ensures)
    (sym (c.next-in-Three.ensures kinds) ∙ c.in-None-next.is)
    (found_first _ (next_known c.args.at (known c.in-Three.b.now c.end_of-second-in-Three.result kinds))
    (next_known c.args.at (known c.in-Three.c.now c.end_of-third.result kinds)) c.in-Some-next-2.found
    refl
    (sym (c.next-in-None-next.ensures kinds) ∙ c.in-Some-next-2.is))

pub next-returns-in-None-next-2 : goal.next-returns-in-None-next-2
next-returns-in-None-next-2 t c = λ kinds.
    found_later _ _ _ c.next-in-None-next-2.result
    (next_three c.args.node.now c.in-Three.a.now c.in-Three.b.now c.in-Three.c.now c.args.from
    c.end_of-second-in-Three.result c.end_of-third.result c.args.at kinds
    c.in-Three.ensures c.end_of-second-in-Three.ensures c.end_of-third.ensures)
    (sym (c.next-in-Three.ensures kinds) ∙ c.in-None-next.is)
    (found_later _ (next_known c.args.at (known c.in-Three.b.now c.end_of-second-in-Three.result kinds))
    (next_known c.args.at (known c.in-Three.c.now c.end_of-third.result kinds)) c.next-in-None-next-2.result refl
    (sym (c.next-in-None-next.ensures kinds) ∙ c.in-None-next-2.is) (c.next-in-None-next-2.ensures kinds))
