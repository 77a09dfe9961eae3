-- What holds of a scanner's rows.
use Rattle.std.specs.Prelude.{◌≡◌, ◌*◌, ◌^◌, ◌<◌, ◌≤◌, length}
use Rattle.onig_scan.specs.declared.rows.TheConstants.{ROWS, ROW_VISITS}
use Rattle.onig_scan.specs.declared.scanner.Scanner.TheInside.{Inside}
use Rattle.onig_scan.specs.Rows.{AreRows}

pub record IsScanner (s : Inside) : Type 0 where
  pub few : length s.entries.items < 2 ^ 32
  pub small : s.words < 2 ^ 32
  pub all : length s.entries.items ≤ 64 * s.words
  pub size : length s.rows.items ≡ ROWS * s.words
  pub rows : AreRows s.entries.items s.words ROW_VISITS s.rows.items
