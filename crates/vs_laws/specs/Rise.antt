-- A design in which a process waits for an edge.
use Rattle.std.specs.Prelude.{Vec, ◌≡◌, Some, List, [], ◌∷◌, slice_get}
use Rattle.std.specs.declared.alloc.Global.{Global}
use Rattle.std.proofs.Common.{lit<, lit≤, refl}
use denote.RawPtr.{null_ptr}
use Rattle.vs_design.specs.vs_logic4.specs.declared.digit.Digit.TheVariants.{One}
use Rattle.vs_design.specs.vs_logic4.specs.declared.edge.Edge.TheVariants.{Posedge}
use Rattle.vs_design.specs.declared.signal.SignalKind.TheVariants.{Reg}
use Rattle.vs_design.specs.declared.design.Entry.TheVariants.{Enter, Declare, Leave}
use Rattle.vs_design.specs.declared.design.ScopeKind.TheVariants.{Module}
use Rattle.vs_design.specs.declared.statement.EventTerm.{EventTerm}
use Rattle.vs_design.specs.declared.statement.Ticks.{Ticks}
use Rattle.vs_design.specs.declared.statement.Statement.{Statement}
use Rattle.vs_design.specs.declared.statement.Statement.TheVariants as y
use Rattle.vs_design.specs.Parts.{Parts}
use Rattle.vs_design.specs.Uses.{whole}
use Rattle.vs_design.specs.WellFormed.{WellFormed}
use Rattle.vs_independence.specs.vs_process.specs.declared.moves.Grain.{Grain}
use Rattle.vs_independence.specs.vs_process.specs.declared.moves.Move.{Move}
use Rattle.vs_independence.specs.vs_process.specs.Executions.{after, Legal}
use Rattle.vs_independence.specs.Discipline.{Disciplined}
use Rattle.vs_process.specs.Edges.{one_bit}
use Rattle.vs_laws.specs.Race.{bit, boxed, initially, letter, nanosecond, operand, set_to, target}

abbrev pub one_tick : Ticks
one_tick = record { count = 1; short = lit< tt }

-- `posedge a`
abbrev pub rise : EventTerm
rise = record { edge = Posedge; range = whole 0 }

abbrev pub terms : Global → Vec EventTerm Global
terms g = record { ptr = null_ptr; len = 1; cap = 1; alloc = g; items = rise ∷ []; ok = (refl, lit≤ tt); small = lit< tt }

-- `#1 a = 1;`
abbrev pub sets_late : Global → Statement
sets_late g = y.Delay 0 one_tick (boxed g (set_to g 1 One))

-- `b = a;`
abbrev pub copies_bit : Global → Statement
copies_bit g = y.Assign 1 (target g 1) (operand 0)

-- `@(posedge a) b = a;`
abbrev pub copies_then : Global → Statement
copies_then g = y.Event 0 (terms g) (boxed g (copies_bit g))

-- `module t; reg a; reg b; initial #1 a = 1; initial @(posedge a) b = a; endmodule`
abbrev pub rising : Global → Parts
rising g = record {
  timescale = record { unit = nanosecond; precision = nanosecond };
  signals = bit g 97 Reg ∷ bit g 98 Reg ∷ [];
  assigns = [];
  processes = initially g 48 (sets_late g) ∷ initially g 49 (copies_then g) ∷ [];
  outline = Enter Module (letter g 116) ∷ Declare 0 ∷ Declare 1 ∷ Leave ∷ [];
}

-- an execution in which the second process has been fired, and has read what fired it
pub record Fires (grain : Grain) (g : Global) : Type 0 where
  pub moves : List Move
  pub legal : Legal grain (rising g) moves
  pub fired : slice_get (after (rising g) moves).store 1 ≡ Some (one_bit One)

-- a design in which a write of one process fires another one, which reads the signal that fired it, is disciplined
abbrev pub ARiseIsDisciplined : Type 0
ARiseIsDisciplined = (g : Global) (grain : Grain) → WellFormed (rising g) × Disciplined grain (rising g) × Fires grain g
