use Rattle.std.proofs.Common.{◌≡◌, drop}
use Rattle.vs_program_words.specs.Choices.{read_bytes}
use Rattle.vs_program_words.specs.declared.choices.Read.TheVariants.{Nothing}
use Rattle.vs_program_words.proofs.choices.read_bytes.Given as goal

abbrev pub invariant-loop-byte : goal.invariant-loop-byte
invariant-loop-byte l = read_bytes l.reader.read (drop l.byte-index l.bytes) ≡ read_bytes Nothing l.bytes
