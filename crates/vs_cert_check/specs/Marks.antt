-- Which processes are combinational blocks.
use Rattle.std.specs.Prelude.{Bool, List, length, map}
use Rattle.vs_design.specs.Parts.{Parts}
use Rattle.vs_rules_of_starts.specs.vs_rules.specs.Claims.{Claims, blocks_of}
use Rattle.vs_rules_of_starts.specs.vs_rules.specs.Verdict.{numbers}

-- for each process whether it is of kind comb
abbrev pub marks_of : Parts → Claims → List Bool
marks_of d c = map (blocks_of d c) (numbers 0 (length d.processes))
