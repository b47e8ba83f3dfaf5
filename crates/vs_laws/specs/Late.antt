-- A process that reads what another one writes by `=`, at another residue.
use Rattle.std.specs.Prelude.{true, Some, None, [], ◌∷◌}
use Rattle.std.specs.declared.alloc.Global.{Global}
use Rattle.vs_design.specs.declared.design.Entry.TheVariants.{Enter, Declare, Leave}
use Rattle.vs_design.specs.declared.design.ScopeKind.TheVariants.{Module}
use Rattle.vs_design.specs.declared.signal.SignalKind.TheVariants.{Reg}
use Rattle.vs_design.specs.declared.statement.Statement.{Statement}
use Rattle.vs_design.specs.declared.statement.Statement.TheVariants as y
use Rattle.vs_design.specs.Parts.{Parts}
use Rattle.vs_laws.specs.vs_independence.specs.vs_process.specs.declared.moves.Grain.{Grain}
use Rattle.vs_laws.specs.Mirror.{one_of}
use Rattle.vs_laws.specs.Race.{bit, boxed, initially, letter, nanosecond, operand, target}
use Rattle.vs_rules.specs.Claims.{Claims, edges, delays, blocking}
use Rattle.vs_laws.specs.Kept.{KeepsRules}
use Rattle.vs_laws.specs.Names.{process_in_t, signal_in_t}
use Rattle.vs_laws.specs.Roots.{rise_of, sets, sets_late, ticks_before}

-- ---- the design

-- `@(posedge a) b = 1;`
abbrev pub answers : Global → Statement
answers g = y.Event 0 (one_of g (rise_of 0)) (boxed g (sets g 1))

-- `c = b;`
abbrev pub copies : Global → Statement
copies g = y.Assign 1 (target g 2) (operand 1)

-- `#2 c = b;`
abbrev pub copies_late : Global → Statement
copies_late g = y.Delay 0 (ticks_before 2) (boxed g (copies g))

-- `module t; reg a; reg b; reg c; initial #1 a = 1; initial @(posedge a) b = 1; initial #2 c = b; endmodule`
abbrev pub reading_late : Global → Parts
reading_late g = record {
  timescale = record { unit = nanosecond; precision = nanosecond };
  signals = bit g 97 Reg ∷ bit g 98 Reg ∷ bit g 99 Reg ∷ [];
  assigns = [];
  processes = initially g 48 (sets_late g 0) ∷ initially g 49 (answers g) ∷ initially g 50 (copies_late g) ∷ [];
  outline = Enter Module (letter g 116) ∷ Declare 0 ∷ Declare 1 ∷ Declare 2 ∷ Leave ∷ [];
}

-- ---- its certificate

-- the modulus is 3; t#p0 writes the root `t.a` at the residue 1, and t#p1, which waits for its edge, writes `t.b` there, by `=` too; t#p2 reads that, and
-- writes `t.c`, at the residue 2
abbrev pub reading_late_claims : Grain → Claims
reading_late_claims grain = record {
  version = 2;
  displays = true;
  grain = grain;
  modulus = 3;
  edges = record { root = signal_in_t 97; signal = signal_in_t 97 } ∷ [];
  order = [];
  processes =
      record { name = process_in_t 48; kind = delays ((1 ∷ []) ∷ []) } ∷ record { name = process_in_t 49; kind = edges }
      ∷ record { name = process_in_t 50; kind = delays ((2 ∷ []) ∷ []) } ∷ [];
  signals =
      record { name = signal_in_t 97; mode = blocking; writer = Some (process_in_t 48); second = None }
      ∷ record { name = signal_in_t 98; mode = blocking; writer = Some (process_in_t 49); second = None }
      ∷ record { name = signal_in_t 99; mode = blocking; writer = Some (process_in_t 50); second = None } ∷ [];
}

-- what a process of kind edge writes by `=` is read at a residue at which it isn't written: the design keeps the rules, at either grain
abbrev pub ALateReadKeepsTheRules : Type 0
ALateReadKeepsTheRules = (g : Global) (grain : Grain) → KeepsRules (reading_late g) (reading_late_claims grain)
