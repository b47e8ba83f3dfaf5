-- A design with a race.
use Rattle.std.specs.Prelude.{ℕ, pos, Vec, false, None, [], ◌∷◌}
use Rattle.std.specs.declared.alloc.Global.{Global}
use Rattle.std.specs.declared.boxed.Box.{Box}
use Rattle.std.proofs.Common.{lit<, lit≤, refl}
use denote.RawPtr.{null_ptr}
use Rattle.vs_design.specs.vs_logic4.specs.declared.digit.Digit.{Digit}
use Rattle.vs_design.specs.vs_logic4.specs.declared.digit.Digit.TheVariants.{Zero, One}
use Rattle.vs_design.specs.declared.signal.Signal.{Signal}
use Rattle.vs_design.specs.declared.signal.SignalKind.{SignalKind}
use Rattle.vs_design.specs.declared.signal.SignalKind.TheVariants.{Reg}
use Rattle.vs_design.specs.declared.design.Entry.TheVariants.{Enter, Declare, Leave}
use Rattle.vs_design.specs.declared.design.Process.{Process}
use Rattle.vs_design.specs.declared.design.ProcessKind.TheVariants.{Initial}
use Rattle.vs_design.specs.declared.design.ScopeKind.TheVariants.{Module}
use Rattle.vs_design.specs.declared.expression.Slice.{Slice}
use Rattle.vs_design.specs.declared.statement.Aim.TheVariants.{Fixed}
use Rattle.vs_design.specs.declared.statement.Target.{Target}
use Rattle.vs_design.specs.declared.statement.Statement.{Statement}
use Rattle.vs_design.specs.declared.statement.Statement.TheVariants as y
use Rattle.vs_design.specs.declared.expression.Typed.{Typed}
use Rattle.vs_design.specs.declared.expression.Typed.TheVariants as e
use Rattle.vs_design.specs.declared.timescale.TimeSpan.{TimeSpan}
use Rattle.vs_design.specs.declared.timescale.TimeUnit.TheVariants.{Nanosecond}
use Rattle.vs_design.specs.declared.timescale.Magnitude.TheVariants as m
use Rattle.vs_design.specs.Parts.{Parts}
use Rattle.vs_design.specs.WellFormed.{WellFormed}
use Rattle.vs_independence.specs.vs_process.specs.declared.moves.Grain.{Grain}
use Rattle.vs_independence.specs.Discipline.{Independent}

-- a text of one byte
abbrev pub letter : Global → ℕ → Vec ℕ Global
letter g a = record { ptr = null_ptr; len = 1; cap = 1; alloc = g; items = a ∷ []; ok = (refl, lit≤ tt); small = lit< tt }

-- a text of three bytes
abbrev pub path : Global → ℕ → ℕ → ℕ → Vec ℕ Global
path g a b c = record { ptr = null_ptr; len = 3; cap = 3; alloc = g; items = a ∷ b ∷ c ∷ []; ok = (refl, lit≤ tt); small = lit< tt }

-- a text of four bytes
abbrev pub name : Global → ℕ → ℕ → ℕ → ℕ → Vec ℕ Global
name g a b c d = record { ptr = null_ptr; len = 4; cap = 4; alloc = g; items = a ∷ b ∷ c ∷ d ∷ []; ok = (refl, lit≤ tt); small = lit< tt }

-- a signal of one bit of the module t, named by one letter
abbrev pub bit : Global → ℕ → SignalKind → Signal
bit g a kind = record {
  name = letter g a;
  path = path g 116 46 a;
  kind = kind;
  width = 1;
  signed = false;
  range = None;
  words = None;
  count = 1;
  sized = (lit< tt, lit≤ tt);
  counted = (lit< tt, lit≤ tt);
}

abbrev pub nanosecond : TimeSpan
nanosecond = record { magnitude = m.One; unit = Nanosecond }

-- a value on the heap
abbrev pub boxed : {A : Type 0} → Global → A → Box A Global
boxed g x = record { ptr = null_ptr; alloc = g; value = x }

-- a signal of one bit where it is read
abbrev pub operand : ℕ → Typed
operand signal = e.Signal (record { signal = signal; width = 1; signed = false; sized = (lit< tt, lit≤ tt) })

-- the one bit of a signal
abbrev pub the_bit : ℕ → Slice
the_bit signal = record { signal = signal; word = 0; low = pos 0; width = 1; sized = (lit< tt, lit≤ tt) }

-- a target of one place of one bit
abbrev pub target_at : Global → Slice → Target
target_at g place = record {
  parts = record { ptr = null_ptr; len = 1; cap = 1; alloc = g; items = Fixed place ∷ []; ok = (refl, lit≤ tt); small = lit< tt };
  width = 1;
  sized = (lit< tt, lit≤ tt);
}

-- a target of a signal of one bit
abbrev pub target : Global → ℕ → Target
target g signal = target_at g (the_bit signal)

-- `a = DIGIT;`, by its number in its process
abbrev pub set_to : Global → ℕ → Digit → Statement
set_to g number digit = y.Assign number (target g 0) (e.Number (digit ∷ []))

-- `initial STATEMENT`, by the last character of its name
abbrev pub initially : Global → ℕ → Statement → Process
initially g digit body = record { name = name g 116 35 112 digit; kind = Initial; body = body }

-- `module t; reg a; initial FIRST initial SECOND endmodule`
abbrev pub two_initials : Global → Statement → Statement → Parts
two_initials g first second = record {
  timescale = record { unit = nanosecond; precision = nanosecond };
  signals = bit g 97 Reg ∷ [];
  assigns = [];
  processes = initially g 48 first ∷ initially g 49 second ∷ [];
  outline = Enter Module (letter g 116) ∷ Declare 0 ∷ Leave ∷ [];
}

-- `module t; reg a; initial a = 0; initial a = 1; endmodule`
abbrev pub racing : Global → Parts
racing g = two_initials g (set_to g 0 Zero) (set_to g 0 One)

-- two processes that write one signal at once: a well formed design that is independent at no grain
abbrev pub ARaceIsSeen : Type 0
ARaceIsSeen = (g : Global) (grain : Grain) → WellFormed (racing g) × (Independent grain (racing g) → ⊥)
