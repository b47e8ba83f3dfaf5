use Rattle.std.specs.Io.Buffered.{reader_remaining}
use Rattle.std.specs.Io.Iter.{bytes_remaining}
use Rattle.vs_program.specs.passes.Reading.{HasRead}
use Rattle.vs_program.proofs.input.read_both.Given as goal

abbrev pub invariant-loop-byte : goal.invariant-loop-byte
invariant-loop-byte g l = HasRead (g.R.Read.remaining l.fn.input) (bytes_remaining (reader_remaining g.R.Read.remaining) l.byte-iterator) l.kept
