-- Ranges that have bits in common, by the signals of a design.
use Rattle.std.specs.Prelude.{◌==◌, ◌&&◌, Bool, List, slice_get}
use Rattle.vs_design.specs.declared.range.BitRange.{BitRange}
use Rattle.vs_design.specs.declared.signal.Signal.{Signal}
use Rattle.vs_design.specs.WellFormed.{width_at}
use Rattle.vs_rules.specs.vs_process.specs.Bits.{common_word, common_place}

-- whether two ranges of a design with these signals have a bit in common
abbrev pub meet_among : List Signal → BitRange → BitRange → Bool
meet_among signals r q =
    let s = slice_get signals r.signal in
    (r.signal == q.signal) && common_word s r.word q.word && common_place (width_at s) r.bits q.bits
