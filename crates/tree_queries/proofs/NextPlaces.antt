-- The next bracket, node by node.
use Rattle.std.proofs.Common.{◌≡◌, ℕ, ◌&&◌, if◌then◌else◌, List, [], ◌∷◌, ◌++◌, Bool, true, false, Option}
use Rattle.std.proofs.Common.{Some, None, refl, sym, ap, ◌∙◌, arith}
use Rattle.std.proofs.lemmas.Bool.Decides.{nat_tests}
use Rattle.std.specs.List.{find}
use Rattle.std.specs.Option.{option_map, option_or}
use Rattle.std.proofs.lemmas.List.Folds.{find-append}
use Rattle.text_pos.specs.declared.length.Length.{Length}
use Rattle.text_pos.specs.declared.length.Pos.{Pos}
use Rattle.text_pos.specs.Lengths.{plus}
use Rattle.text_defs.specs.Place.{is_before}
use Rattle.answer_defs.specs.declared.answer.MarkAt.{MarkAt}
use Rattle.answer_defs.specs.PairAnswers.{is_up_to, starts_from}
use Rattle.tree_defs.specs.Tree.{Tree, Nothing, Text, Bracket, Lone, Pair, Two, Three, is_bare}
use Rattle.tree_defs.specs.Shape.{length_of}
use Rattle.tree_defs.specs.Rows.{place}
use Rattle.tree_queries.specs.Known.{Known, known}
use Rattle.tree_queries.specs.Answers.{by_row, next_known}
use Rattle.tree_queries.specs.Parts.{Placed, IsPairAt, IsLoneAt, left_of, pair_opener, pair_closers}
use Rattle.tree_queries.specs.Parts.{closers_at, lone_known, start_of_mark, next_of}
use Rattle.tree_queries.specs.declared.parts.PairAt.{PairAt}
use Rattle.tree_queries.proofs.Lists.{each_more, none_find}
use Rattle.tree_queries.proofs.Spans.{InSpan, spans}
use Rattle.tree_queries.proofs.NodePlaces.{inner_tree}
use Rattle.tree_queries.proofs.PairRows.{pair_read, lone_read}

map_or : {A B : Type 0} (f : A → B) (o p : Option A) → option_map f (option_or o p) ≡ option_or (option_map f o) (option_map f p)
map_or f None p = refl
map_or f (Some a) p = refl

or_assoc : {A : Type 0} (o p q : Option A) → option_or o (option_or p q) ≡ option_or (option_or o p) q
or_assoc None p q = refl
or_assoc (Some a) p q = refl

pub next_append : (at : Pos) (xs ys : List Known) → next_known at (xs ++ ys)
    ≡ option_or (next_known at xs) (next_known at ys)
next_append at xs ys = ap (option_map (λ x. x.row.mark.at)) (find-append (by_row (starts_from at)) xs ys)
    ∙ map_or (λ x. x.row.mark.at) (find (by_row (starts_from at)) xs) (find (by_row (starts_from at)) ys)

-- a node without rows
both_true : (b c : Bool) → (b && c) ≡ true → (b ≡ true) × (c ≡ true)
both_true true c is = (refl, is)
both_true false c is = cc

pub bare_rows : (t : Tree) (at : Length) (kinds : List ℕ) → is_bare t ≡ true → known t at kinds ≡ []
bare_rows Nothing at kinds bare = refl
bare_rows (Text len cut) at kinds bare = refl
bare_rows (Bracket len kind) at kinds bare = refl
bare_rows (Lone len closes) at kinds bare = cc
bare_rows (Pair o k inside c) at kinds bare = cc
bare_rows (Two a b) at kinds bare =
    let both = both_true (is_bare a) (is_bare b) bare in
    ap (λ l. l ++ known b (plus at (length_of a)) kinds) (bare_rows a at kinds both.0)
    ∙ bare_rows b (plus at (length_of a)) kinds both.1
bare_rows (Three a b c) at kinds bare =
    let both = both_true (is_bare a) (is_bare b && is_bare c) bare in
    let last = both_true (is_bare b) (is_bare c) both.1 in
    let mid = plus at (length_of a) in
    ap (λ l. l ++ (known b mid kinds ++ known c (plus mid (length_of b)) kinds)) (bare_rows a at kinds both.0)
    ∙ ap (λ l. l ++ known c (plus mid (length_of b)) kinds) (bare_rows b mid kinds last.0)
    ∙ bare_rows c (plus mid (length_of b)) kinds last.1

-- a node that ends at the place or before it
ends_row : (lo hi at : Pos) → left_of true hi at ≡ true → (x : Known) → InSpan lo hi x
    → by_row (starts_from at) x ≡ false
ends_row lo hi at ends x s = let some = s.some in let to = s.to in grind (arith, nat_tests, ends, some, to)

pub next_none : (t : Tree) (from : Length) (at : Pos) (kinds : List ℕ) → Placed t from
    → left_of true (place (plus from (length_of t))) at ≡ true → next_known at (known t from kinds) ≡ None
next_none t from at kinds placed ends = ap (option_map (λ x. x.row.mark.at)) (none_find (by_row (starts_from at))
    (known t from kinds) (each_more _ _ (ends_row (place from) (place (plus from (length_of t))) at ends)
    (known t from kinds) (spans t from kinds placed)))

-- one bracket
one_next : (at : Pos) (x : Known) → next_known at (x ∷ [])
    ≡ (if is_up_to at x.row.mark.at then Some x.row.mark.at else None)
one_next at x = by (is_before x.row.mark.at at) refl
  where
    by : (b : Bool) → is_before x.row.mark.at at ≡ b → next_known at (x ∷ [])
        ≡ (if is_up_to at x.row.mark.at then Some x.row.mark.at else None)
    by true is = rw is refl
    by false is = rw is refl

closers_next : (at : Pos) (m : MarkAt) (k : ℕ) (kinds : List ℕ) (c : Option MarkAt)
    → next_known at (closers_at m k kinds c) ≡ next_of at c
closers_next at m k kinds None = refl
closers_next at m k kinds (Some c) = one_next at _

pub next_pair : (t : Tree) (from : Length) (p : PairAt) (at : Pos) → IsPairAt t from p → (kinds : List ℕ)
    → next_known at (known t from kinds)
    ≡ option_or (option_or
    (if is_up_to at (start_of_mark p.opener) then Some (start_of_mark p.opener) else None)
    (next_known at (known (inner_tree p) p.begin (kinds ++ p.kind ∷ [])))) (next_of at p.closer)
next_pair t from p at i kinds =
    let inside = known (inner_tree p) p.begin (kinds ++ p.kind ∷ []) in
    let here = if is_up_to at (start_of_mark p.opener) then Some (start_of_mark p.opener) else None in
    ap (next_known at) (pair_read t from p i kinds)
    ∙ next_append at (pair_opener p kinds ∷ []) (inside ++ pair_closers p kinds)
    ∙ ap (option_or (next_known at (pair_opener p kinds ∷ []))) (next_append at inside (pair_closers p kinds))
    ∙ or_assoc (next_known at (pair_opener p kinds ∷ [])) (next_known at inside) (next_known at (pair_closers p kinds))
    ∙ ap (λ o. option_or (option_or o (next_known at inside)) (next_known at (pair_closers p kinds)))
    (one_next at (pair_opener p kinds))
    ∙ ap (option_or (option_or here (next_known at inside))) (closers_next at p.opener p.kind kinds p.closer)

pub next_lone : (t : Tree) (from : Length) (m : MarkAt) (at : Pos) → IsLoneAt t from m → (kinds : List ℕ)
    → next_known at (known t from kinds) ≡ (if is_up_to at (start_of_mark m) then Some (start_of_mark m) else None)
next_lone t from m at i kinds = ap (next_known at) (lone_read t from m i kinds) ∙ one_next at (lone_known m kinds)

-- ---- lists
pub next_two : (t a b : Tree) (from second : Length) (at : Pos) (kinds : List ℕ) → t ≡ Two a b
    → second ≡ plus from (length_of a) → next_known at (known t from kinds)
    ≡ option_or (next_known at (known a from kinds)) (next_known at (known b second kinds))
next_two t a b from second at kinds is starts =
    ap (λ x. next_known at (known x from kinds)) is
    ∙ next_append at (known a from kinds) (known b (plus from (length_of a)) kinds)
    ∙ ap (λ p. option_or (next_known at (known a from kinds)) (next_known at (known b p kinds))) (sym starts)

pub next_three : (t a b c : Tree) (from second third : Length) (at : Pos) (kinds : List ℕ) → t ≡ Three a b c
    → second ≡ plus from (length_of a) → third ≡ plus second (length_of b) → next_known at (known t from kinds)
    ≡ option_or (next_known at (known a from kinds))
    (option_or (next_known at (known b second kinds)) (next_known at (known c third kinds)))
next_three t a b c from second third at kinds is starts ends =
    let mid = plus from (length_of a) in
    let first = next_known at (known a from kinds) in
    ap (λ x. next_known at (known x from kinds)) is
    ∙ next_append at (known a from kinds) (known b mid kinds ++ known c (plus mid (length_of b)) kinds)
    ∙ ap (option_or first) (next_append at (known b mid kinds) (known c (plus mid (length_of b)) kinds))
    ∙ ap (λ p. option_or first (option_or (next_known at (known b p kinds)) (next_known at (known c (plus p (length_of b)) kinds))))
    (sym starts)
    ∙ ap (λ p. option_or first (option_or (next_known at (known b second kinds)) (next_known at (known c p kinds))))
    (sym ends)
