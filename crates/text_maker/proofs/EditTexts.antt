-- Edits as they are made: from a span and a text, and by the number of the edit.
use Rattle.std.proofs.Common.{◌≡◌, ℕ, ◌+◌, ◌*◌, ◌%◌, ◌<◌, List, [], ◌∷◌, length, Bool, true, false, cond, ◌&&◌, nat_eq, nat_lt, Result, Ok, Err, IfOk}
use Rattle.std.proofs.Common.{ap, sym, ◌∙◌}
use Rattle.std.specs.Str.{chars}
use Rattle.std.proofs.lemmas.Str.{chars-IsAscii}
use Rattle.std.proofs.lemmas.Str.Ascii.{IsAscii-nil, IsAscii-cons}
use Rattle.text_pos.specs.declared.length.Span.{Span}
use Rattle.text_defs.specs.Text.{line_count, line_of}
use Rattle.text_defs.specs.Batch.{TextEdit}
use Rattle.generator_defs.specs.GeneratedText.{deletion, insertion, inserted, is_deletion, edit_line, edit_column, generated_edit}

edit_by : (e : TextEdit) (span : Span) (text : List ℕ) → e.span ≡ span → e.text ≡ text → e ≡ record { span = span; text = text }
edit_by e span text h i = ap (λ (s : Span). record { span = s; text = e.text }) h ∙ ap (λ (t : List ℕ). record { span = span; text = t }) i

-- an edit has its span and its text
pub IfOk-edit : {E : Type 0} (r : Result TextEdit E) (span : Span) (given text : List ℕ) → IfOk r (λ e. e.span ≡ span)
    → IfOk r (λ e. e.text ≡ given) → given ≡ text → IfOk r (λ e. e ≡ record { span = span; text = text })
IfOk-edit (Ok e) span given text h i same = edit_by e span text h (i ∙ same)
IfOk-edit (Err fault) span given text h i same = tt

pub IfOk-same : {E : Type 0} (r : Result TextEdit E) (a b : TextEdit) → IfOk r (λ e. e ≡ a) → a ≡ b → IfOk r (λ e. e ≡ b)
IfOk-same (Ok e) a b h same = h ∙ same
IfOk-same (Err fault) a b h same = tt

pub chars-one : (bytes : List ℕ) (c : ℕ) → c < 128 → bytes ≡ c ∷ [] → chars bytes ≡ c ∷ []
chars-one bytes c h e = ap chars e ∙ chars-IsAscii (c ∷ []) (IsAscii-cons c [] h IsAscii-nil)

-- edit j, where it is known whether it deletes
edit_if : (n j : ℕ) (text : List ℕ) (b : Bool) → is_deletion j (line_of text (edit_line j text)) ≡ b
    → cond b (deletion (record { line = edit_line j text; col = edit_column j (line_of text (edit_line j text)) }))
    (insertion (record { line = edit_line j text; col = edit_column j (line_of text (edit_line j text)) }) (inserted n j)) ≡ generated_edit n j text
unfolding generated_edit
edit_if n j text b e =
    ap (λ (d : Bool). cond d (deletion (record { line = edit_line j text; col = edit_column j (line_of text (edit_line j text)) }))
    (insertion (record { line = edit_line j text; col = edit_column j (line_of text (edit_line j text)) }) (inserted n j))) (sym e)

-- a deletion, from as many lines as the text has, and the length of the line
pub made_deletion : (n j : ℕ) (text : List ℕ) (lines len : ℕ) → lines ≡ line_count text
    → len ≡ length (line_of text ((37 * j) % lines))
    → (nat_eq (j % 4) 0 && nat_lt ((11 * j) % (len + 1)) len) ≡ true
    → deletion (record { line = (37 * j) % lines; col = (11 * j) % (len + 1) }) ≡ generated_edit n j text
made_deletion n j text lines len e f h = rw (f, e) (edit_if n j text true (rw (f, e) at h))

pub made_insertion : (n j : ℕ) (text : List ℕ) (lines len : ℕ) → lines ≡ line_count text
    → len ≡ length (line_of text ((37 * j) % lines))
    → (nat_eq (j % 4) 0 && nat_lt ((11 * j) % (len + 1)) len) ≡ false
    → insertion (record { line = (37 * j) % lines; col = (11 * j) % (len + 1) }) (inserted n j) ≡ generated_edit n j text
made_insertion n j text lines len e f h = rw (f, e) (edit_if n j text false (rw (f, e) at h))
