-- What a scanner with owners is seen as, and what it keeps.
use Rattle.std.specs.Prelude.{◌≡◌, List, map}
use Rattle.line_defs.specs.Search.{Choice}
use Rattle.line_search.specs.Choices.{choice_of_owned, tree_of_owned}
use Rattle.line_search.specs.declared.choices.Choices.TheInside.{Inside}

abbrev pub choices_of : Inside → List Choice
choices_of c = map choice_of_owned c.owned.items

abbrev pub IsScanner : Inside → Type 0
IsScanner c = c.scanner ≡ map tree_of_owned c.owned.items
