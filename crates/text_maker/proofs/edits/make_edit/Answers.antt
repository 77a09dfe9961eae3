use Rattle.std.proofs.Common.{◌≡◌, ℕ, ◌+◌, ◌*◌, ◌%◌, length, ap, ◌∙◌, false, ◌&&◌, nat_eq, nat_lt}
use Rattle.generator_defs.specs.GeneratedText.{inserted, insertion}
use Rattle.std.proofs.lemmas.Bool.{and_from, and_left, and_right, eq-eqb, ne_eqb, lt-ltb, le-ltb}
use Rattle.text_maker.proofs.EditTexts.{IfOk-same, made_deletion, made_insertion}
use Rattle.text_maker.proofs.edits.make_edit.Goals as goal
use Rattle.text_maker.proofs.edits.make_edit.Goals.{else-j-eq0-via-then-j-eq0+else-col-length, else-j-eq0-via-else-j-eq0}

pub returns-then-col-length : goal.returns-then-col-length
returns-then-col-length c =
    IfOk-same _ _ _ c.deletion.ensures
    (made_deletion c.args.n c.args.j c.args.text.now _ _ c.lines.ensures.count (ap (length {A = ℕ}) (c.chars.ensures ∙ c.line.ensures.line))
    (and_from _ _ (eq-eqb _ _ c.if-j-eq0.true) (lt-ltb _ _ c.if-col-length.true)))

pub returns-else-j-eq0 : goal.returns-else-j-eq0
returns-else-j-eq0 c =
    let len_is = ap (length {A = ℕ}) (c.chars.ensures ∙ c.line.ensures.line) in
    let c_is : c.inserted.result ≡ inserted c.args.n c.args.j = c.inserted.ensures.inserted in
    let with_c = λ (x : ℕ). insertion (record {
      line = (37 * c.args.j) % c.lines.result;
      col = (11 * c.args.j) % (length c.chars.result.now + 1);
    }) x in
    let made = λ (no : (nat_eq (c.args.j % 4) 0 && nat_lt ((11 * c.args.j) % (length c.chars.result.now + 1)) (length c.chars.result.now)) ≡ false).
    ap with_c c_is ∙ made_insertion c.args.n c.args.j c.args.text.now _ _ c.lines.ensures.count len_is no in
    IfOk-same _ _ _ c.insertion.ensures (elim c.else-j-eq0.branch [
      | else-j-eq0-via-then-j-eq0+else-col-length w ↦ made (and_right _ _ (le-ltb _ _ w.if-col-length.false))
      | else-j-eq0-via-else-j-eq0 w ↦ made (and_left _ _ (ne_eqb _ _ w.if-j-eq0.false))
    ])
