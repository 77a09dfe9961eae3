use Rattle.line_text.proofs.PlacesOfOffsets.{each_offset_has_its_place, each_place_has_its_offset}
use Rattle.line_text.proofs.text.places_are_those_of_offsets.Goals as goal

pub returns-clause-offsets : goal.returns-clause-offsets
returns-clause-offsets c = each_offset_has_its_place

pub returns-clause-places : goal.returns-clause-places
returns-clause-places c = each_place_has_its_offset
