-- An attempt by the visits that are left alone: as deep as it may go.
use Rattle.pattern_defs.specs.Attempt.{Subject, Going, go_on}

unfoldable pub goes : Subject → Going
goes s todo at captures left = go_on s left todo at captures left
