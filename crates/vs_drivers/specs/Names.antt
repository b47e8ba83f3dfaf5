-- What the event controls of processes name, by their maps.
use Rattle.std.specs.Prelude.{◌≡◌, List, map}
use Rattle.vs_design.specs.declared.range.BitRange.{BitRange}
use Rattle.vs_design.specs.declared.statement.EventTerm.{EventTerm}
use Rattle.vs_maps.specs.Ranges.{HasTermAt}
use Rattle.vs_maps.specs.Reaches.{Chart}

abbrev pub ranges_of_terms : List EventTerm → List BitRange
ranges_of_terms terms = map (λ (t : EventTerm). t.range) terms

-- the event control at some place of a map, which is a point, names the range
abbrev pub NamesIn : Chart → BitRange → Type 0
NamesIn t r = (term : EventTerm) × HasTermAt t term × (term.range ≡ r)
