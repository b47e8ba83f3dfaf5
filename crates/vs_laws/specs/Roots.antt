-- A process that waits for edges of two roots, of one by a net that copies it, and prints what it waits for.
use Rattle.std.specs.Prelude.{ℕ, zero, suc, Vec, true, false, not, Some, None, [], ◌∷◌}
use Rattle.std.specs.declared.alloc.Global.{Global}
use Rattle.std.proofs.Common.{lit<, lit≤, refl}
use denote.RawPtr.{null_ptr}
use Rattle.vs_design.specs.vs_logic4.specs.declared.digit.Digit.TheVariants.{One}
use Rattle.vs_design.specs.vs_logic4.specs.declared.edge.Edge.TheVariants.{Posedge}
use Rattle.vs_design.specs.declared.design.Entry.TheVariants.{Enter, Declare, Leave}
use Rattle.vs_design.specs.declared.design.ScopeKind.TheVariants.{Module}
use Rattle.vs_design.specs.declared.expression.Typed.TheVariants as e
use Rattle.vs_design.specs.declared.signal.SignalKind.TheVariants.{Reg, Wire}
use Rattle.vs_design.specs.declared.statement.CallKind.TheVariants.{Display}
use Rattle.vs_design.specs.declared.statement.EventTerm.{EventTerm}
use Rattle.vs_design.specs.declared.statement.FormatArg.TheVariants.{Value}
use Rattle.vs_design.specs.declared.statement.Statement.{Statement}
use Rattle.vs_design.specs.declared.statement.Statement.TheVariants as y
use Rattle.vs_design.specs.declared.statement.Ticks.{Ticks}
use Rattle.vs_design.specs.Parts.{Parts}
use Rattle.vs_design.specs.Uses.{whole}
use Rattle.vs_laws.specs.vs_independence.specs.Displays.{DisplaysAlike}
use Rattle.vs_laws.specs.vs_independence.specs.vs_process.specs.declared.moves.Grain.{Grain}
use Rattle.vs_laws.specs.Lines.{two_letters}
use Rattle.vs_laws.specs.Mirror.{one_of}
use Rattle.vs_laws.specs.Race.{bit, boxed, initially, letter, nanosecond, operand, target}
use Rattle.vs_rules.specs.Claims.{Claims, blocks_of, edges, delays, blocking, net}
use Rattle.vs_laws.specs.Block.{the_net_assign}
use Rattle.vs_laws.specs.Kept.{KeepsRules}
use Rattle.vs_laws.specs.Names.{assign_in_t, process_in_t, signal_in_t}

-- ---- the design

-- `#1` and `#2`, by the number of the signal that is set behind them
abbrev pub ticks_before : ℕ → Ticks
ticks_before zero = record { count = 1; short = lit< tt }
ticks_before (suc n) = record { count = 2; short = lit< tt }

-- `s = 1;`, by its signal
abbrev pub sets : Global → ℕ → Statement
sets g signal = y.Assign 1 (target g signal) (e.Number (One ∷ []))

-- `#1 a = 1;` and `#2 c = 1;`
abbrev pub sets_late : Global → ℕ → Statement
sets_late g signal = y.Delay 0 (ticks_before signal) (boxed g (sets g signal))

-- `posedge s`
abbrev pub rise_of : ℕ → EventTerm
rise_of signal = record { edge = Posedge; range = whole signal }

-- two values in a list
abbrev pub two_of : {A : Type 0} → Global → A → A → Vec A Global
two_of g x z = record { ptr = null_ptr; len = 2; cap = 2; alloc = g; items = x ∷ z ∷ []; ok = (refl, lit≤ tt); small = lit< tt }

-- `$display("%b", c);`
abbrev pub prints : Global → Statement
prints g = y.Call 1 (record {
  kind = Display;
  text = two_letters g 37 98;
  args = one_of g (Value false (operand 1));
  path = letter g 116;
  ratio = 1;
  scaled = (lit< tt, lit≤ tt);
})

-- `@(posedge w or posedge c) $display("%b", c);`
abbrev pub listens : Global → Statement
listens g = y.Event 0 (two_of g (rise_of 2) (rise_of 1)) (boxed g (prints g))

-- `module t; reg a; reg c; wire w; assign w = a; initial #1 a = 1; initial #2 c = 1; initial @(posedge w or posedge c) $display("%b", c); endmodule`
abbrev pub two_rises : Global → Parts
two_rises g = record {
  timescale = record { unit = nanosecond; precision = nanosecond };
  signals = bit g 97 Reg ∷ bit g 99 Reg ∷ bit g 119 Wire ∷ [];
  assigns = the_net_assign g ∷ [];
  processes = initially g 48 (sets_late g 0) ∷ initially g 49 (sets_late g 1) ∷ initially g 50 (listens g) ∷ [];
  outline = Enter Module (letter g 116) ∷ Declare 0 ∷ Declare 1 ∷ Declare 2 ∷ Leave ∷ [];
}

-- ---- its certificate

-- the modulus is 3; `t.w` copies the root `t.a`, which t#p0 writes by `=` at the residue 1, and `t.c` is its own, which t#p1 writes at the residue 2;
-- t#p2 waits for edges
abbrev pub two_rises_claims : Grain → Claims
two_rises_claims grain = record {
  version = 2;
  displays = true;
  grain = grain;
  modulus = 3;
  edges = record { root = signal_in_t 97; signal = signal_in_t 119 } ∷ record { root = signal_in_t 99; signal = signal_in_t 99 } ∷ [];
  order = assign_in_t 48 ∷ [];
  processes =
      record { name = process_in_t 48; kind = delays ((1 ∷ []) ∷ []) } ∷ record { name = process_in_t 49; kind = delays ((2 ∷ []) ∷ []) }
      ∷ record { name = process_in_t 50; kind = edges } ∷ [];
  signals =
      record { name = signal_in_t 97; mode = blocking; writer = Some (process_in_t 48); second = None }
      ∷ record { name = signal_in_t 99; mode = blocking; writer = Some (process_in_t 49); second = None }
      ∷ record { name = signal_in_t 119; mode = net; writer = None; second = None } ∷ [];
}

-- the edges of the two roots come at different residues: the design keeps the rules, at either grain, and prints alike
abbrev pub TwoRootsKeepTheRules : Type 0
TwoRootsKeepTheRules =
    (g : Global) (grain : Grain) → KeepsRules (two_rises g) (two_rises_claims grain)
    × DisplaysAlike grain (two_rises g) (λ i. not (blocks_of (two_rises g) (two_rises_claims grain) i))
