-- Parts of which any two neighbours are full: after a change at the end, and how many these can be.
use Rattle.std.proofs.Common.{◌≡◌, ℕ, zero, suc, ◌+◌, ◌*◌, ◌<◌, ◌≤◌, List, [], ◌∷◌, ◌++◌, length, get_or, set, refl}
use Rattle.std.proofs.Common.{arith, length-append}
use Rattle.line_list.specs.declared.pieces.Part.{Part}
use Rattle.line_list.specs.declared.pieces.TheConstants.{MOST_IN_PIECE}
use Rattle.line_list.specs.Parts.{part_items, items_of, AreFull}

module _ {X : Type 0} where
  -- one more piece at the end, which has too many items together with the last
  pub AreFull-push : (ps : List (Part X)) (q : Part X) → AreFull ps
      → ((i : ℕ) → i + 1 ≡ length ps → MOST_IN_PIECE < length (part_items (get_or ps i q)) + length (part_items q))
      → AreFull (ps ++ q ∷ [])
  AreFull-push [] q full last = (tt, tt)
  AreFull-push (p ∷ []) q full last = (last 0 refl, (tt, tt))
  AreFull-push (p ∷ (r ∷ rs)) q full last = (full.0, AreFull-push (r ∷ rs) q full.1 (λ i e. last (suc i) (omega arith)))

  -- a larger piece in the place of another
  pub AreFull-set : (ps : List (Part X)) (i : ℕ) (q : Part X) → AreFull ps
      → length (part_items (get_or ps i q)) ≤ length (part_items q) → AreFull (set ps i q)
  AreFull-set [] i q full grows = tt
  AreFull-set (p ∷ []) zero q full grows = (tt, tt)
  AreFull-set (p ∷ []) (suc i) q full grows = (tt, tt)
  AreFull-set (p ∷ (r ∷ rs)) zero q full grows = (omega (arith, full.0, grows), full.1)
  AreFull-set (p ∷ (r ∷ rs)) (suc zero) q full grows =
      (omega (arith, full.0, grows), AreFull-set (r ∷ rs) zero q full.1 grows)
  AreFull-set (p ∷ (r ∷ rs)) (suc (suc i)) q full grows = (full.0, AreFull-set (r ∷ rs) (suc i) q full.1 grows)

  -- so a list has few pieces
  pub few_parts : (ps : List (Part X)) → AreFull ps
      → MOST_IN_PIECE * length ps ≤ 2 * length (items_of ps) + MOST_IN_PIECE
  few_parts [] full = omega arith
  few_parts (p ∷ []) full = omega arith
  few_parts (p ∷ (r ∷ rs)) full =
      omega (
        arith,
        full.0,
        few_parts rs full.1.1,
        length-append (part_items p) (items_of (r ∷ rs)),
        length-append (part_items r) (items_of rs),
      )
