use Rattle.std.proofs.Common.{◌*◌, refl, inl, inr}
use Rattle.std.specs.Prelude.{slice_get}
use Rattle.onig_scan.specs.declared.rows.TheConstants.{ROW_VISITS}
use Rattle.onig_scan.specs.Rows.{class_of, past_row}
use Rattle.onig_scan.proofs.WordBits.{word_here}
use Rattle.onig_scan.proofs.scanner.find_in_rows.Goals as goal

pub find_in_word-found-requires-clause-word : goal.find_in_word-found-requires-clause-word
find_in_word-found-requires-clause-word c =
    word_here c.args.entries.now (class_of (slice_get c.args.text.now c.args.at)) (past_row c.args.text.now c.args.at)
    (64 * c.loop-k.k) c.args.at c.args.text.now ROW_VISITS _ _ c.requires.scalars (inl refl) (inr refl)
    (c.requires.row.is c.loop-k.k c.loop-k-test.true) (c.requires.before.is c.loop-k.k c.loop-k-test.true)
