-- Pieces one behind another: where each begins, and what they are after a change at the end.
use Rattle.std.proofs.Common.{◌≡◌, ℕ, zero, suc, ◌+◌, ◌-◌, ◌<◌, ◌≤◌, List, [], ◌∷◌, ◌++◌, length, take, drop, get_or}
use Rattle.std.proofs.Common.{set, sym, ap, ◌∙◌, add-zero, arith, length-append, length-drop, inl, inr}
use Rattle.std.proofs.lemmas.List.{take_more, take_all, drop_all, append-nil, append_assoc, get_or_default, set_split}
use Rattle.std.proofs.lemmas.List.{take_rest, take-append-drop, drop-drop, drop-append-le, take-append-le}
use Rattle.std.proofs.lemmas.Bool.{cases_lt}
use Rattle.std.proofs.Math.Seq.{take-add, drop-append-add, split_at}
use Rattle.std.proofs.lemmas.List.Concat.{flat_map-append, get_or-flat_map}
use Rattle.line_list.specs.declared.pieces.TheConstants.{MOST_IN_PIECE}
use Rattle.line_list.specs.declared.pieces.Part.{Part}
use Rattle.line_list.specs.Parts.{part_items, items_of, IsLaid}

module _ {X : Type 0} where
  pub items_of-push : (ps : List (Part X)) (q : Part X) → items_of (ps ++ q ∷ []) ≡ items_of ps ++ part_items q
  items_of-push ps q = flat_map-append part_items ps (q ∷ []) ∙ ap (λ xs. items_of ps ++ xs) (append-nil (part_items q))

  pub items_of-take_more : (ps : List (Part X)) (i : ℕ) (p : Part X) → i < length ps → p ≡ get_or ps i p
      → items_of (take (i + 1) ps) ≡ items_of (take i ps) ++ part_items p
  items_of-take_more ps i p h e =
      ap items_of (take_more ps i p h) ∙ items_of-push (take i ps) (get_or ps i p)
      ∙ ap (λ r. items_of (take i ps) ++ part_items r) (sym e)

  pub start_at : (at : ℕ) (ps : List (Part X)) (i : ℕ) (d : Part X) → IsLaid at ps → i < length ps
      → (get_or ps i d).start ≡ at + length (items_of (take i ps))
  start_at at [] i d laid h = absurd (omega arith)
  start_at at (p ∷ ps) zero d laid h = laid.0 ∙ sym (add-zero at)
  start_at at (p ∷ ps) (suc i) d laid h =
      let rest = start_at (at + length (part_items p)) ps i d (laid.3) (omega arith) in
      omega (arith, rest, length-append (part_items p) (items_of (take i ps)))

  -- where piece i begins
  pub start_read : (ps : List (Part X)) (i : ℕ) (p : Part X) → IsLaid 0 ps → i < length ps → p ≡ get_or ps i p
      → p.start ≡ length (items_of (take i ps))
  start_read ps i p laid h e = ap (λ (r : Part X). r.start) e ∙ omega (arith, start_at 0 ps i p laid h)

  few_at : (at : ℕ) (ps : List (Part X)) (i : ℕ) (d : Part X) → IsLaid at ps → i < length ps
      → (0 < length (part_items (get_or ps i d))) × (length (part_items (get_or ps i d)) ≤ MOST_IN_PIECE)
  few_at at [] i d laid h = absurd (omega arith)
  few_at at (p ∷ ps) zero d laid h = (laid.1, laid.2)
  few_at at (p ∷ ps) (suc i) d laid h = few_at (at + length (part_items p)) ps i d (laid.3) (omega arith)

  -- how many items piece i has
  pub few_read : (ps : List (Part X)) (i : ℕ) (p : Part X) → IsLaid 0 ps → i < length ps → p ≡ get_or ps i p
      → (0 < length (part_items p)) × (length (part_items p) ≤ MOST_IN_PIECE)
  few_read ps i p laid h e = let f = few_at 0 ps i p laid h in rw e f

  IsLaid-take : (at : ℕ) (ps : List (Part X)) (i : ℕ) → IsLaid at ps → IsLaid at (take i ps)
  IsLaid-take at ps zero laid = tt
  IsLaid-take at [] (suc i) laid = tt
  IsLaid-take at (p ∷ ps) (suc i) laid = (
    laid.0,
    laid.1,
    laid.2,
    IsLaid-take (at + length (part_items p)) ps i
        (laid.3),
  )

  IsLaid-push : (at : ℕ) (ps : List (Part X)) (q : Part X) → IsLaid at ps → q.start ≡ at + length (items_of ps)
      → 0 < length (part_items q) → length (part_items q) ≤ MOST_IN_PIECE → IsLaid at (ps ++ q ∷ [])
  IsLaid-push at [] q laid e some few = (e ∙ add-zero at, some, few, tt)
  IsLaid-push at (p ∷ ps) q laid e some few = (
    laid.0,
    laid.1,
    laid.2,
    IsLaid-push (at + length (part_items p)) ps q (laid.3)
        (omega (arith, length-append (part_items p) (items_of ps))) some few,
  )

  -- one more piece at the end
  pub pushed : (ps : List (Part X)) (q : Part X) → IsLaid 0 ps → q.start ≡ length (items_of ps)
      → 0 < length (part_items q) → length (part_items q) ≤ MOST_IN_PIECE → IsLaid 0 (ps ++ q ∷ [])
  pushed ps q laid e some few = IsLaid-push 0 ps q laid (omega arith) some few

  set_last : (ps : List (Part X)) (i : ℕ) (q : Part X) → i + 1 ≡ length ps → set ps i q ≡ take i ps ++ q ∷ []
  set_last ps i q h = set_split ps i q (omega arith) ∙ ap (λ r. take i ps ++ q ∷ r) (drop_all (suc i) ps (omega arith))

  items_of-last : (ps : List (Part X)) (i : ℕ) (p : Part X) → i + 1 ≡ length ps → p ≡ get_or ps i p → items_of ps
      ≡ items_of (take i ps) ++ part_items p
  items_of-last ps i p h e = ap items_of (sym (take_all (i + 1) ps (omega arith)))
      ∙ items_of-take_more ps i p (omega arith) e

  -- more items in the last piece
  pub grown-items : (ps : List (Part X)) (i : ℕ) (p q : Part X) (more : List X) → i + 1 ≡ length ps → p
      ≡ get_or ps i p → part_items q ≡ part_items p ++ more → items_of (set ps i q) ≡ items_of ps ++ more
  grown-items ps i p q more h e same =
      ap items_of (set_last ps i q h) ∙ items_of-push (take i ps) q ∙ ap (λ xs. items_of (take i ps) ++ xs) same
      ∙ sym (append_assoc (items_of (take i ps)) (part_items p) more)
      ∙ ap (λ xs. xs ++ more) (sym (items_of-last ps i p h e))

  pub grown : (ps : List (Part X)) (i : ℕ) (p q : Part X) → IsLaid 0 ps → i + 1 ≡ length ps → p ≡ get_or ps i p
      → q.start ≡ p.start → 0 < length (part_items q) → length (part_items q) ≤ MOST_IN_PIECE → IsLaid 0 (set ps i q)
  grown ps i p q laid h e same some few =
      rw (set_last ps i q h) (IsLaid-push 0 (take i ps) q (IsLaid-take 0 ps i laid)
      (omega (arith, same, start_read ps i p laid (omega arith) e)) some few)

  -- item n, in the piece that it is in
  pub item_read : (ps : List (Part X)) (i n : ℕ) (p : Part X) (item : X) → i < length ps → p ≡ get_or ps i p → p.start
      ≡ length (items_of (take i ps)) → p.start ≤ n → n - p.start < length p.items.value.items → item
      ≡ get_or p.items.value.items (n - p.start) item → item ≡ get_or (items_of ps) n item
  item_read ps i n p item h e starts low below is =
      let j : ℕ = n - p.start in
      let inside : j < length (part_items (get_or ps i p)) = rw (← e) below in
      let place : length (items_of (take i ps)) + j ≡ n = omega arith in
      is ∙ ap (λ (r : Part X). get_or (part_items r) j item) e
      ∙ sym (get_or-flat_map part_items ps i j p item h inside) ∙ ap (λ k. get_or (items_of ps) k item) place

  rest_of_window : (A B C : List X) (at j m : ℕ) → at ≡ length A + j → j + m ≤ length B
      → take m (drop at (A ++ (B ++ C))) ≡ take m (drop j B)
  rest_of_window A B C at j m e h =
      let long : m ≤ length (drop j B) = omega (arith, length-drop j B) in
      ap (λ k. take m (drop k (A ++ (B ++ C)))) e ∙ ap (take m) (drop-append-add A (B ++ C) j)
      ∙ ap (take m) (drop-append-le j B C (omega arith)) ∙ take-append-le m (drop j B) C long

  -- a run of items that goes on with a part of the piece where it ends
  window_more : (A B C : List X) (s from at last : ℕ) → s ≡ length A → s ≤ at → from ≤ at → at ≤ s + last
      → last ≤ length B
      → take (at - from) (drop from (A ++ (B ++ C))) ++ take (last - (at - s)) (drop (at - s) B)
      ≡ take (s + last - from) (drop from (A ++ (B ++ C)))
  window_more A B C s from at last starts low rises long within =
      let all = A ++ (B ++ C) in
      let n : ℕ = at - from in
      let m : ℕ = last - (at - s) in
      let sum : n + m ≡ s + last - from = omega arith in
      let here : from + n ≡ at = omega arith in
      let behind : take m (drop n (drop from all)) ≡ take m (drop (at - s) B) =
      ap (take m) (drop-drop n from all ∙ ap (λ k. drop k all) here)
      ∙ rest_of_window A B C at (at - s) m (omega arith) (omega arith) in
      sym (ap (λ k. take k (drop from all)) (sym sum) ∙ take-add n m (drop from all)
      ∙ ap (λ xs. take n (drop from all) ++ xs) behind)

  items_of-split : (ps : List (Part X)) (n : ℕ) (p : Part X) → n < length ps → p ≡ get_or ps n p → items_of ps
      ≡ items_of (take n ps) ++ (part_items p ++ items_of (drop (suc n) ps))
  items_of-split ps n p h e =
      ap items_of (split_at ps n p h) ∙ flat_map-append part_items (take n ps) (get_or ps n p ∷ drop (suc n) ps)
      ∙ ap (λ (r : Part X). items_of (take n ps) ++ (part_items r ++ items_of (drop (suc n) ps))) (sym e)

  pub run_more : (ps : List (Part X)) (n from at last : ℕ) (p : Part X) → n < length ps → p ≡ get_or ps n p → p.start
      ≡ length (items_of (take n ps)) → p.start ≤ at → from ≤ at → at ≤ p.start + last → last ≤ length (part_items p)
      → take (at - from) (drop from (items_of ps)) ++ take (last - (at - p.start))
      (drop (at - p.start) (part_items p)) ≡ take (p.start + last - from) (drop from (items_of ps))
  run_more ps n from at last p h e starts low rises long within =
      let split = items_of-split ps n p h e in
      rw split (window_more (items_of (take n ps)) (part_items p) (items_of (drop (suc n) ps)) p.start from at last
      starts low rises long within)

  -- behind a piece, where the pieces go on
  pub ends_of : (ps : List (Part X)) (i : ℕ) → length (items_of (take i ps)) < length (items_of ps) → i < length ps
  ends_of ps i h = elim (cases_lt i (length ps)) [
    | inl l ↦ l
    | inr l ↦ absurd (omega (
      arith,
      ap (λ (xs : List (Part X)). length (items_of xs))
          (take_all i ps l),
    ))
  ]

  pub ends_next : (ps : List (Part X)) (i : ℕ) (d : Part X) → IsLaid 0 ps → i < length ps
      → length (items_of (take i ps)) < length (items_of (take (i + 1) ps))
  ends_next ps i d laid h =
      let some = few_at 0 ps i d laid h in
      let e = get_or_default ps i d (get_or ps i d) h in
      omega (
        arith,
        some.0,
        ap length (items_of-take_more ps i (get_or ps i d) h e),
        length-append
            (items_of (take i ps)) (part_items (get_or ps i d)),
      )

  -- a place in the part that was found for it
  pub record IsFound (ps : List (Part X)) (i n : ℕ) (p : Part X) : Type 0 where
    pub there : i < length ps
    pub is : p ≡ get_or ps i p
    pub starts : p.start ≡ length (items_of (take i ps))
    pub low : p.start ≤ n
    pub high : n < p.start + length (part_items p)

  pub found : (ps : List (Part X)) (i n : ℕ) (p : Part X) → IsLaid 0 ps → i < length ps → p ≡ get_or ps i p
      → length (items_of (take i ps)) ≤ n → n < length (items_of (take (i + 1) ps)) → IsFound ps i n p
  found ps i n p laid h e low high =
      let starts = start_read ps i p laid h e in
      record {
        there = h;
        is = e;
        starts = starts;
        low = omega (arith, starts, low);
        high = omega (
          arith,
          starts,
          high,
          ap length (items_of-take_more ps i p h e),
          length-append
              (items_of (take i ps)) (part_items p),
        );
      }

  -- the items from there to the end of the part
  pub run_at : (ps : List (Part X)) (i n : ℕ) (p : Part X) → IsFound ps i n p
      → take (length (part_items p) - (n - p.start)) (drop n (items_of ps))
      ≡ take (length (part_items p) - (n - p.start)) (drop (n - p.start) (part_items p))
  run_at ps i n p f =
      let m : ℕ = length (part_items p) - (n - p.start) in
      let place : n ≡ length (items_of (take i ps)) + (n - p.start) = omega (arith, f.starts, f.low) in
      let within : (n - p.start) + m ≤ length (part_items p) = omega (arith, f.low, f.high) in
      rw (items_of-split ps i p f.there f.is) (rest_of_window (items_of (take i ps)) (part_items p)
      (items_of (drop (suc i) ps)) n (n - p.start) m place within)

  first : (run : List X) (x : X) → 0 < length run → x ≡ get_or run 0 x → run ≡ x ∷ drop 1 run
  first [] x some is = absurd (omega arith)
  first (y ∷ ys) x some is = ap (λ z. z ∷ ys) (sym is)

  -- the first item of a run, and what is left
  pub stepped : (all run : List X) (n : ℕ) (x : X) → 0 < length run → take (length run) (drop n all) ≡ run → x
      ≡ get_or run 0 x
      → drop n all ≡ x ∷ (take (length run - 1) (drop 1 run) ++ drop (n + length run) all)
  stepped all run n x some is at =
      sym (take-append-drop (length run) (drop n all)) ∙ ap (λ xs. xs ++ drop (length run) (drop n all)) is
      ∙ ap (λ xs. run ++ xs) (drop-drop (length run) n all)
      ∙ ap (λ xs. xs ++ drop (n + length run) all) (first run x some at ∙ ap (λ xs. x ∷ xs) (sym (take_rest run 1)))

  -- the same, behind a list that the run is added to
  pub run_added : (ps : List (Part X)) (n from at last : ℕ) (p : Part X) (old mid new : List X) → n < length ps → p
      ≡ get_or ps n p → p.start ≡ length (items_of (take n ps)) → p.start ≤ at → from ≤ at → at ≤ p.start + last
      → last ≤ length (part_items p)
      → mid ≡ old ++ take (at - from) (drop from (items_of ps)) → new
      ≡ mid ++ take (last - (at - p.start)) (drop (at - p.start) (part_items p)) → new
      ≡ old ++ take (p.start + last - from) (drop from (items_of ps))
  run_added ps n from at last p old mid new h e starts low rises long within before added =
      let run = take (at - from) (drop from (items_of ps)) in
      let more = take (last - (at - p.start)) (drop (at - p.start) (part_items p)) in
      added ∙ ap (λ xs. xs ++ more) before ∙ append_assoc old run more
      ∙ ap (λ xs. old ++ xs) (run_more ps n from at last p h e starts low rises long within)
