-- The writes of assignments.
use Rattle.std.specs.Prelude.{ℕ, ◌+◌, pos, List, [], ◌∷◌}
use Rattle.vs_design.specs.vs_logic4.specs.declared.digit.Digit.{Digit}
use Rattle.vs_design.specs.vs_logic4.specs.Parts.{selected}
use Rattle.vs_design.specs.declared.statement.Aim.{Aim}
use Rattle.vs_design.specs.declared.statement.Aim.TheVariants.{Fixed, Chosen}
use Rattle.vs_design.specs.declared.statement.Target.{Target}
use Rattle.vs_design.specs.declared.write.Part.{Part}
use Rattle.vs_design.specs.Selects.{place_of, word_place}
use Rattle.vs_design.specs.Stores.{Store}
use Rattle.vs_design.specs.WellFormed.{aim_width}
use Rattle.vs_design.specs.Writes.{Write}
use Rattle.vs_eval.specs.Values.{value_of}

-- the part of a write that gives a place these digits, its indices read in the store before (clause 9.2)
abbrev pub part_at : Aim → List Digit → Store → ℕ → Part
part_at (Fixed s) digits store time = record { signal = s.signal; word = s.word; low = s.low; digits = digits }
part_at (Chosen s word low) digits store time = record {
  signal = s.signal;
  word = word_place s.words (value_of word store time);
  low = place_of s.bits s.width (value_of low store time);
  digits = digits;
}

-- the parts of places, each with as many digits as it has bits, from a place of the digits on (clause 5.1.14)
abbrev pub parts_from : ℕ → List Aim → List Digit → Store → ℕ → Write
parts_from place [] digits store time = []
parts_from place (a ∷ as') digits store time =
    part_at a (selected (pos place) (aim_width a) digits) store time ∷ parts_from (place + aim_width a) as' digits store time

-- the write that gives a target these digits, its indices read in the store before (clause 6)
abbrev pub assigned : Target → List Digit → Store → ℕ → Write
assigned t digits store time = parts_from 0 t.parts.items digits store time
