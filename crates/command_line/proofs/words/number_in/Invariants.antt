use Rattle.std.proofs.Common.{◌≡◌, ◌<◌, ◌^◌, take, true}
use Rattle.std.specs.List.{list_all}
use Rattle.session_defs.specs.Words.{is_digit, value_of}
use Rattle.command_line.proofs.words.number_in.Given as goal

-- the characters so far are digits, and their number is small
abbrev pub invariant-loop-c : goal.invariant-loop-c
invariant-loop-c l = record {
  digits : list_all is_digit (take l.c-index l.word) ≡ true;
  number : l.value ≡ value_of (take l.c-index l.word);
  small : l.value < 10 ^ l.c-index;
}
