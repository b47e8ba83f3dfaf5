-- Which continuous assignments read a signal.
use Rattle.std.specs.Prelude.{ℕ, suc, List, [], ◌∷◌, ◌++◌, if◌then◌else◌}
use Rattle.vs_design.specs.declared.design.Assign.{Assign}
use Rattle.vs_design.specs.declared.range.BitRange.{BitRange}
use Rattle.vs_design.specs.declared.readers.Reader.{Reader}
use Rattle.vs_design.specs.Uses.{reads, is_of}

-- the readings of a signal among the ranges that the continuous assignment of this number reads
abbrev pub readings : ℕ → List BitRange → ℕ → List Reader
readings number [] signal = []
readings number (r ∷ rs) signal = if is_of signal r then record { assign = number; range = r } ∷ readings number rs signal else readings number rs signal

abbrev pub readers_from : ℕ → List Assign → ℕ → List Reader
readers_from number [] signal = []
readers_from number (a ∷ rest) signal = readings number (reads a.source) signal ++ readers_from (suc number) rest signal

-- which continuous assignments read a signal, and which of its bits, in design order
abbrev pub readers : List Assign → ℕ → List Reader
readers assigns signal = readers_from 0 assigns signal
