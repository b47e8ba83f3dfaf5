-- A writer with a buffer.
use Rattle.std.specs.Prelude.{ℕ, Option, List, drop}
use Rattle.std.specs.Io.KnownBytes.{append_known}
use Rattle.vs_outputs.specs.declared.buffered.Buffered.{Buffered}

-- the writer
abbrev pub writer_of : {W : Type 0} → Buffered W → W
writer_of b = b.writer

-- how many writes failed
abbrev pub failures_of : {W : Type 0} → Buffered W → ℕ
failures_of b = b.failures

-- what the writer holds, where that is known, and then what is gathered
abbrev pub all_bytes : {W : Type 0} → (W → Option (List ℕ)) → Buffered W → Option (List ℕ)
all_bytes contents b = append_known (contents b.writer) (drop b.taken b.gathered.items)
