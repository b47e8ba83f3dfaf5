-- An input of which a beginning has been read, for private clauses.
use Rattle.std.specs.Prelude.{ℕ, ◌≡◌, Option, List, take}
use Rattle.std.specs.Io.KnownBytes.{Consumes}
use Rattle.vs_program.specs.Inputs.{after_line, first_line, has_line_feed}
use Rattle.vs_program.specs.declared.input.Kept as input

-- what is kept of the bytes that have been read
pub record HasKept (seen : List ℕ) (k : input.Kept) : Type 0 where
  pub certificate : k.certificate.items ≡ take 16777217 (first_line seen)
  pub source : k.source.items ≡ take 8388609 (after_line seen)
  pub ended : k.line_ended ≡ has_line_feed seen

-- what is kept of an input, of whose bytes some are left
pub record HasRead (whole left : Option (List ℕ)) (k : input.Kept) : Type 0 where
  pub seen : List ℕ
  pub kept : HasKept seen k
  pub consumed : Consumes whole left seen
