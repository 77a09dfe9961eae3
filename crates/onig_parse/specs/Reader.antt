-- How a reader keeps how far a text is read, and the body of a group that is being read.
use Rattle.std.specs.Prelude.{◌≤◌, length, map}
use Rattle.syntax_defs.specs.Limits.{most_pattern_chars}
use Rattle.syntax_defs.specs.PatternSyntax.{Seen, Body, Parsed}
use Rattle.onig_parse.specs.KeptClasses.{AreKeptClasses}
use Rattle.onig_parse.specs.declared.reader.Reader.TheInside as reader
use Rattle.onig_parse.specs.declared.parsed.ParsedText.TheInside as parsed
use Rattle.onig_parse.specs.declared.body.OpenBody.TheInside as body

abbrev pub seen_of : reader.Inside → Seen
seen_of r = record {
  text = r.text.items;
  place = r.at;
  lists = map (λ items. items.items) r.lists.items;
  groups = r.groups;
  names = r.names.items;
}

pub record IsReader (r : reader.Inside) : Type 0 where
  pub place : r.at ≤ length r.text.items
  pub short : length r.text.items ≤ most_pattern_chars
  pub classes : AreKeptClasses r.text.items r.classes.items

abbrev pub body_of : body.Inside → Body
body_of b = record { ended = b.ended; done = b.done.items; last = b.last.items; repeats = b.repeats }

abbrev pub parsed_of : parsed.Inside → Parsed
parsed_of p = record {
  lists = map (λ items. items.items) p.lists.items;
  top = p.top;
  groups = p.groups;
  names =
      p.names.items;
}
