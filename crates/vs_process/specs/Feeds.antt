-- What a target writes into.
use Rattle.std.specs.Prelude.{Bool}
use Rattle.std.specs.List.{list_any}
use Rattle.vs_design.specs.declared.range.BitRange.{BitRange}
use Rattle.vs_design.specs.declared.statement.Target.{Target}
use Rattle.vs_design.specs.Parts.{Parts}
use Rattle.vs_design.specs.Uses.{writes}
use Rattle.vs_process.specs.Bits.{meet_in}

-- whether a target has a bit of a range
abbrev pub writes_into : Parts → Target → BitRange → Bool
writes_into d t r = list_any (λ (w : BitRange). meet_in d w r) (writes t)
