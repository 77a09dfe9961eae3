-- A batch is read item by item.
use Rattle.std.proofs.Common.{◌≡◌, ◌<◌, ◌+◌, ℕ, zero, suc, List, [], ◌∷◌, ◌++◌, length, take, get_or, refl, sym, ap}
use Rattle.std.proofs.Common.{◌∙◌, arith}
use Rattle.std.specs.Prelude.{Option, Some, None}
use Rattle.std.proofs.lemmas.List.{take_more}
use Rattle.serde_json.specs.View.{items_view, view}
use Rattle.serde_json.specs.declared.value.Value.{Value}
use Rattle.text_defs.specs.Batch.{TextEdit}
use Rattle.script_words.specs.Script.{edit_in, edits_of_items, first_edit}

-- an edit behind a batch, where both are there
abbrev last_edit : Option (List TextEdit) → Option TextEdit → Option (List TextEdit)
last_edit None e = None
last_edit (Some es) None = None
last_edit (Some es) (Some e) = Some (es ++ e ∷ [])

first_edit-last : (x z : Option TextEdit) (y : Option (List TextEdit)) → first_edit x (last_edit y z)
    ≡ last_edit (first_edit x y) z
first_edit-last None z y = refl
first_edit-last (Some a) z None = refl
first_edit-last (Some a) None (Some es) = refl
first_edit-last (Some a) (Some e) (Some es) = refl

last_edit-none : (z : Option TextEdit) → first_edit z (Some []) ≡ last_edit (Some []) z
last_edit-none None = refl
last_edit-none (Some e) = refl

edits_of_items-behind : (vs : List Value) (v : Value) → edits_of_items (items_view (vs ++ v ∷ []))
    ≡ last_edit (edits_of_items (items_view vs)) (edit_in (view v))
edits_of_items-behind [] v = last_edit-none (edit_in (view v))
edits_of_items-behind (w ∷ ws) v =
    ap (first_edit (edit_in (view w))) (edits_of_items-behind ws v)
    ∙ first_edit-last (edit_in (view w)) (edit_in (view v)) (edits_of_items (items_view ws))

-- one item more is one edit more
pub edits_of_items-take_more : (vs : List Value) (i : ℕ) (v : Value) (es : List TextEdit) (e : TextEdit)
    → i < length vs → v ≡ get_or vs i v
    → edits_of_items (items_view (take i vs)) ≡ Some es → edit_in (view v) ≡ Some e
    → edits_of_items (items_view (take (i + 1) vs)) ≡ Some (es ++ e ∷ [])
edits_of_items-take_more vs i v es e h is front last =
    ap (λ xs. edits_of_items (items_view xs)) (take_more vs i v h)
    ∙ (ap (λ x. edits_of_items (items_view (take i vs ++ x ∷ []))) (sym is)
    ∙ (edits_of_items-behind (take i vs) v
    ∙ (ap (λ x. last_edit x (edit_in (view v))) front ∙ ap (last_edit (Some es)) last)))

first_edit-none : (x : Option TextEdit) → first_edit x None ≡ None
first_edit-none None = refl
first_edit-none (Some e) = refl

-- an item that is no edit
no_edits-at : (vs : List Value) (i : ℕ) (d : Value) → i < length vs → edit_in (view (get_or vs i d)) ≡ None
    → edits_of_items (items_view vs) ≡ None
no_edits-at [] i d h e = absurd (omega arith)
no_edits-at (w ∷ ws) zero d h e = ap (λ x. first_edit x (edits_of_items (items_view ws))) e
no_edits-at (w ∷ ws) (suc i) d h e =
    let below : i < length ws = omega arith in
    ap (first_edit (edit_in (view w))) (no_edits-at ws i d below e) ∙ first_edit-none (edit_in (view w))

pub no_edits : (vs : List Value) (i : ℕ) (v : Value) → i < length vs → v ≡ get_or vs i v → edit_in (view v) ≡ None
    → None ≡ edits_of_items (items_view vs)
no_edits vs i v h is e = sym (no_edits-at vs i v h (ap (λ x. edit_in (view x)) (sym is) ∙ e))
