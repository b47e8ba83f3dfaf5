-- What expressions mean.
use Rattle.std.specs.Prelude.{ℕ, Bool, List}
use Rattle.vs_design.specs.vs_logic4.specs.declared.digit.Digit.{Digit}
use Rattle.vs_design.specs.declared.range.BitRange.{BitRange}
use Rattle.vs_design.specs.Stores.{Store}
use Rattle.vs_widths.specs.Findings.{Finding, at_found}
use Rattle.vs_widths.specs.Layers.{Layer}

-- What an expression means: its size and sign, the ranges that it reads, in the order of the text, its value in a store at a time in ticks at
-- the size and with the sign of its context (clauses 5.4 and 5.5), and what is outermost in it at that size.
pub record Meant : Type 0 where
  pub finding : Finding
  pub reads : List BitRange
  pub at : Store → ℕ → ℕ → Bool → List Digit
  pub layer : ℕ → Layer

-- the value at an expression's own size and sign (clause 5.4.1)
abbrev pub own : Meant → Store → ℕ → List Digit
own m store time = at_found m.finding (m.at store time)
