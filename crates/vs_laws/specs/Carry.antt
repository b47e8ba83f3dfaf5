-- A design whose continuous assignments drive bits of one net, each by the one before.
use Rattle.std.specs.Prelude.{ℕ, pos, Some, None, false, [], ◌∷◌}
use Rattle.std.specs.declared.alloc.Global.{Global}
use Rattle.std.proofs.Common.{lit<, lit≤, refl}
use denote.RawPtr.{null_ptr}
use Rattle.vs_design.specs.vs_logic4.specs.declared.operators.Binary.TheVariants.{And}
use Rattle.vs_design.specs.declared.signal.Signal.{Signal}
use Rattle.vs_design.specs.declared.signal.SignalKind.TheVariants.{Reg, Wire}
use Rattle.vs_design.specs.declared.design.Assign.{Assign}
use Rattle.vs_design.specs.declared.design.Entry.TheVariants.{Enter, Declare, Leave}
use Rattle.vs_design.specs.declared.design.ScopeKind.TheVariants.{Module}
use Rattle.vs_design.specs.declared.expression.Link.{Link}
use Rattle.vs_design.specs.declared.expression.Slice.{Slice}
use Rattle.vs_design.specs.declared.expression.Typed.{Typed}
use Rattle.vs_design.specs.declared.expression.Typed.TheVariants as e
use Rattle.vs_design.specs.Parts.{Parts}
use Rattle.vs_design.specs.WellFormed.{WellFormed}
use Rattle.vs_independence.specs.vs_process.specs.declared.moves.Grain.{Grain}
use Rattle.vs_independence.specs.Discipline.{Disciplined}
use Rattle.vs_laws.specs.Race.{bit, boxed, letter, name, nanosecond, operand, path, target_at}

-- a net of two bits of the module t, named by one letter
abbrev pub pair_of_bits : Global → ℕ → Signal
pair_of_bits g a = record {
  name = letter g a;
  path = path g 116 46 a;
  kind = Wire;
  width = 2;
  signed = false;
  range = Some (record { left = pos 1; right = pos 0 });
  words = None;
  count = 1;
  sized = (lit< tt, lit≤ tt);
  counted = (lit< tt, lit≤ tt);
}

-- `c[0]`, `c[1]`
abbrev pub low_bit : Slice
low_bit = record { signal = 1; word = 0; low = pos 0; width = 1; sized = (lit< tt, lit≤ tt) }

abbrev pub high_bit : Slice
high_bit = record { signal = 1; word = 0; low = pos 1; width = 1; sized = (lit< tt, lit≤ tt) }

-- `&`
abbrev pub and_link : Link
and_link = record { operator = And; width = 1; signed = false; sized = (lit< tt, lit≤ tt) }

-- `a & c[0]`
abbrev pub carried : Global → Typed
carried g =
    e.Chain (boxed g (operand 0))
    (record { ptr = null_ptr; len = 1; cap = 1; alloc = g; items = (and_link, e.Slice low_bit) ∷ []; ok = (refl, lit≤ tt); small = lit< tt })

-- `assign c[0] = a;`
abbrev pub first_assign : Global → Assign
first_assign g = record { name = name g 116 35 97 48; target = target_at g low_bit; source = operand 0 }

-- `assign c[1] = a & c[0];`
abbrev pub second_assign : Global → Assign
second_assign g = record { name = name g 116 35 97 49; target = target_at g high_bit; source = carried g }

-- `module t; reg a; wire [1:0] c; assign c[0] = a; assign c[1] = a & c[0]; endmodule`
abbrev pub carrying : Global → Parts
carrying g = record {
  timescale = record { unit = nanosecond; precision = nanosecond };
  signals = bit g 97 Reg ∷ pair_of_bits g 99 ∷ [];
  assigns = first_assign g ∷ second_assign g ∷ [];
  processes = [];
  outline = Enter Module (letter g 116) ∷ Declare 0 ∷ Declare 1 ∷ Leave ∷ [];
}

-- a chain through the bits of one net is disciplined: it is no circle
abbrev pub ACarryIsDisciplined : Type 0
ACarryIsDisciplined = (g : Global) (grain : Grain) → WellFormed (carrying g) × Disciplined grain (carrying g)
