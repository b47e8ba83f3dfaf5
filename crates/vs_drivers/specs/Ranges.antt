-- Ranges that have bits of a design in common, and ranges that cover a range.
use Rattle.std.specs.Prelude.{List}
use Rattle.std.specs.List.{Contains}
use Rattle.vs_design.specs.declared.range.BitRange.{BitRange}
use Rattle.vs_design.specs.Parts.{Parts}
use Rattle.vs_rules.specs.Paths.{Bit, IsBit, Has}

-- two ranges have a bit of the design in common
pub record Share (d : Parts) (r q : BitRange) : Type 0 where
  pub bit : Bit
  pub is : IsBit d bit
  pub has : Has r bit
  pub other_has : Has q bit

-- one of some ranges has the bit
pub record HaveBit (rs : List BitRange) (b : Bit) : Type 0 where
  pub range : BitRange
  pub listed : Contains rs range
  pub has : Has range b

-- some ranges have each bit of the design that a range has
abbrev pub Cover : Parts → List BitRange → BitRange → Type 0
Cover d rs r = (b : Bit) → IsBit d b → Has r b → HaveBit rs b
