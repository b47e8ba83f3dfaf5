-- A design whose lines depend on the order of its steps.
use Rattle.std.specs.Prelude.{ℕ, Vec, true, false, [], ◌∷◌}
use Rattle.std.specs.declared.alloc.Global.{Global}
use Rattle.std.proofs.Common.{lit<, lit≤, refl}
use denote.RawPtr.{null_ptr}
use Rattle.vs_design.specs.vs_logic4.specs.declared.digit.Digit.TheVariants.{Zero}
use Rattle.vs_design.specs.declared.statement.CallKind.TheVariants.{Display}
use Rattle.vs_design.specs.declared.statement.FormatArg.{FormatArg}
use Rattle.vs_design.specs.declared.statement.FormatArg.TheVariants.{Value}
use Rattle.vs_design.specs.declared.statement.Statement.{Statement}
use Rattle.vs_design.specs.declared.statement.Statement.TheVariants as y
use Rattle.vs_design.specs.Parts.{Parts}
use Rattle.vs_design.specs.WellFormed.{WellFormed}
use Rattle.vs_independence.specs.vs_process.specs.declared.moves.Grain.{Grain}
use Rattle.vs_independence.specs.Displays.{DisplaysAlike}
use Rattle.vs_laws.specs.Race.{letter, operand, set_to, two_initials}

-- a text of two bytes
abbrev pub two_letters : Global → ℕ → ℕ → Vec ℕ Global
two_letters g a b = record { ptr = null_ptr; len = 2; cap = 2; alloc = g; items = a ∷ b ∷ []; ok = (refl, lit≤ tt); small = lit< tt }

-- the signal a, as the one argument of a call
abbrev pub shows_bit : Global → Vec FormatArg Global
shows_bit g = record { ptr = null_ptr; len = 1; cap = 1; alloc = g; items = Value false (operand 0) ∷ []; ok = (refl, lit≤ tt); small = lit< tt }

-- `$display("%b", a);`
abbrev pub prints_bit : Global → Statement
prints_bit g = y.Call 0 (record {
  kind = Display;
  text = two_letters g 37 98;
  args = shows_bit g;
  path = letter g 116;
  ratio = 1;
  scaled = (lit< tt, lit≤ tt);
})

-- `module t; reg a; initial a = 0; initial $display("%b", a); endmodule`
abbrev pub printing : Global → Parts
printing g = two_initials g (set_to g 0 Zero) (prints_bit g)

-- a process prints what another one writes at once: a well formed design whose lines are alike at no grain
abbrev pub LinesAreSeen : Type 0
LinesAreSeen = (g : Global) (grain : Grain) → WellFormed (printing g) × (DisplaysAlike grain (printing g) (λ i. true) → ⊥)
