-- What the readings of a JSON value say where its kind is known.
use Rattle.std.proofs.Common.{◌≡◌, ◌≢◌, ◌<◌, ◌≤◌, List, [], ◌∷◌, length, refl, sym, ap, ◌∙◌, arith}
use Rattle.std.specs.Prelude.{Some, None, slice_get, String, string_bytes, option_and_then}
use Rattle.std.specs.declared.alloc.Global.{Global}
use Rattle.serde_json.specs.Data.{Data, null, boolean, number, string, array, object, Items, Members}
use Rattle.serde_json.specs.Find.{as_array, as_object}
use Rattle.serde_json.specs.View.{items_view, members_view, view}
use Rattle.serde_json.specs.declared.value.Value.{Value}
use Rattle.script_words.specs.Script.{edit_in, edit_of_items, only_member, only_of_members, pair_in, pair_of_items}

-- an object's members are those that it tells
only_member-object : (d : Data) (ms : Members) → Some ms ≡ as_object d → only_member d ≡ only_of_members ms
only_member-object null ms e = cc
only_member-object (boolean b) ms e = cc
only_member-object (number n) ms e = cc
only_member-object (string s) ms e = cc
only_member-object (array ds) ms e = cc
only_member-object (object ns) ms e = let same : ns ≡ ms = cc in ap only_of_members same

-- no member, or more than one
only_of_members-other : (es : List (String Global × Value)) → length es ≢ 1 → only_of_members (members_view es) ≡ None
only_of_members-other [] h = refl
only_of_members-other (e ∷ []) h = absurd (h refl)
only_of_members-other (e ∷ f ∷ es) h = refl

only_of_members-one : (es : List (String Global × Value)) (e : String Global × Value) → length es ≡ 1 → slice_get es 0
    ≡ Some e → only_of_members (members_view es) ≡ Some (string_bytes e.0, view e.1)
only_of_members-one [] e h at = absurd (omega arith)
only_of_members-one (f ∷ []) e h at = let same : f ≡ e =
    cc in ap (λ (m : String Global × Value). Some (string_bytes m.0, view m.1)) same
only_of_members-one (f ∷ g ∷ es) e h at = absurd (omega arith)

pub no_only_member : (d : Data) (es : List (String Global × Value)) → Some (members_view es) ≡ as_object d
    → length es ≢ 1 → None ≡ only_member d
no_only_member d es e h = sym (only_member-object d (members_view es) e ∙ only_of_members-other es h)

pub the_only_member : (d : Data) (es : List (String Global × Value)) (m : String Global × Value)
    → Some (members_view es) ≡ as_object d → length es ≡ 1 → slice_get es 0 ≡ Some m
    → Some (string_bytes m.0, view m.1) ≡ only_member d
the_only_member d es m e h at = sym (only_member-object d (members_view es) e ∙ only_of_members-one es m h at)

-- a list's items are those that it tells
pair_in-array : (d : Data) (ds : Items) → Some ds ≡ as_array d → pair_in d ≡ pair_of_items ds
pair_in-array null ds e = cc
pair_in-array (boolean b) ds e = cc
pair_in-array (number n) ds e = cc
pair_in-array (string s) ds e = cc
pair_in-array (array es) ds e = let same : es ≡ ds = cc in ap pair_of_items same
pair_in-array (object ns) ds e = cc

-- fewer than two items, or more
pair_of_items-few : (vs : List Value) → length vs < 2 → pair_of_items (items_view vs) ≡ None
pair_of_items-few [] h = refl
pair_of_items-few (a ∷ []) h = refl
pair_of_items-few (a ∷ b ∷ vs) h = absurd (omega arith)

pair_of_items-many : (vs : List Value) → 3 ≤ length vs → pair_of_items (items_view vs) ≡ None
pair_of_items-many [] h = refl
pair_of_items-many (a ∷ []) h = refl
pair_of_items-many (a ∷ b ∷ []) h = absurd (omega arith)
pair_of_items-many (a ∷ b ∷ c ∷ vs) h = refl

pub no_pair-few : (d : Data) (vs : List Value) → Some (items_view vs) ≡ as_array d → length vs < 2 → None ≡ pair_in d
no_pair-few d vs e h = sym (pair_in-array d (items_view vs) e ∙ pair_of_items-few vs h)

pub no_pair-many : (d : Data) (vs : List Value) → Some (items_view vs) ≡ as_array d → 3 ≤ length vs → None ≡ pair_in d
no_pair-many d vs e h = sym (pair_in-array d (items_view vs) e ∙ pair_of_items-many vs h)

-- an edit has five items
edit_of_items-other : (vs : List Value) → length vs ≢ 5 → edit_of_items (items_view vs) ≡ None
edit_of_items-other [] h = refl
edit_of_items-other (a ∷ []) h = refl
edit_of_items-other (a ∷ b ∷ []) h = refl
edit_of_items-other (a ∷ b ∷ c ∷ []) h = refl
edit_of_items-other (a ∷ b ∷ c ∷ d ∷ []) h = refl
edit_of_items-other (a ∷ b ∷ c ∷ d ∷ t ∷ []) h = absurd (h refl)
edit_of_items-other (a ∷ b ∷ c ∷ d ∷ t ∷ u ∷ vs) h = refl

pub no_short_edit : (d : Data) (vs : List Value) → Some (items_view vs) ≡ as_array d → length vs < 5 → None ≡ edit_in d
no_short_edit d vs e h =
    let other : length vs ≢ 5 = λ five. omega arith in
    sym (ap (option_and_then edit_of_items) (sym e) ∙ edit_of_items-other vs other)

pub no_long_edit : (d : Data) (vs : List Value) → Some (items_view vs) ≡ as_array d → 6 ≤ length vs → None ≡ edit_in d
no_long_edit d vs e h =
    let other : length vs ≢ 5 = λ five. omega arith in
    sym (ap (option_and_then edit_of_items) (sym e) ∙ edit_of_items-other vs other)
