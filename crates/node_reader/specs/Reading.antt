-- What a reader is: a tree, and the offset that it has reached.
use Rattle.std.specs.Prelude.{refl}
use Rattle.std.specs.Coded.{Coded, code_by, coded×, coded_ℕ}
use Rattle.text_pos.specs.declared.length.Length.{Length}
use Rattle.tree_defs.specs.Tree.{Tree}
use Rattle.tree_defs.specs.TreeCode.{tree_code}

pub record Reading : Type 0 where
  pub tree : Tree
  pub reached : Length

abbrev pub reading_code : Coded Reading
reading_code =
    code_by (Tree × Length) (coded× tree_code (code_by _ (coded× coded_ℕ coded_ℕ) (λ l. (l.lines, l.cols))
    (λ p. record { lines = p.0; cols = p.1 }) (λ _. refl))) (λ r. (r.tree, r.reached))
    (λ p. record { tree = p.0; reached = p.1 }) (λ _. refl)
