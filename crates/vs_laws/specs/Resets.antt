-- An inverted reset, a clock that one process turns and another one sets beside other statements, and a process that waits for an edge and then for
-- a time; and a certificate of version 3.
use Rattle.std.specs.Prelude.{false, Some, None, [], ◌∷◌}
use Rattle.std.specs.declared.alloc.Global.{Global}
use Rattle.std.proofs.Common.{ℕ, lit<, lit≤}
use Rattle.vs_design.specs.vs_logic4.specs.declared.digit.Digit.{Digit}
use Rattle.vs_design.specs.vs_logic4.specs.declared.digit.Digit.TheVariants.{Zero, One}
use Rattle.vs_design.specs.vs_logic4.specs.declared.edge.Edge.TheVariants.{Negedge}
use Rattle.vs_design.specs.vs_logic4.specs.declared.operators.Unary.TheVariants as u
use Rattle.vs_design.specs.declared.design.Assign.{Assign}
use Rattle.vs_design.specs.declared.design.Entry.TheVariants.{Enter, Declare, Leave}
use Rattle.vs_design.specs.declared.design.ScopeKind.TheVariants.{Module}
use Rattle.vs_design.specs.declared.expression.Typed.{Typed}
use Rattle.vs_design.specs.declared.expression.Typed.TheVariants as e
use Rattle.vs_design.specs.declared.signal.SignalKind.TheVariants.{Reg, Wire}
use Rattle.vs_design.specs.declared.statement.EventTerm.{EventTerm}
use Rattle.vs_design.specs.declared.statement.Statement.{Statement}
use Rattle.vs_design.specs.declared.statement.Statement.TheVariants as y
use Rattle.vs_design.specs.Parts.{Parts}
use Rattle.vs_design.specs.Uses.{whole}
use Rattle.vs_independence.specs.vs_process.specs.declared.moves.Grain.{Grain}
use Rattle.vs_rules.specs.Claims.{Claims, edges, delays, mixed, blocking, nonblocking, net}
use Rattle.vs_rules.specs.Verdict.{IsVerdict, k10, no_verdict}
use Rattle.vs_laws.specs.Kept.{KeepsWideRules}
use Rattle.vs_laws.specs.Mirror.{one_of}
use Rattle.vs_laws.specs.Mixer.{three_of}
use Rattle.vs_laws.specs.Names.{assign_in_t, process_in_t, signal_in_t}
use Rattle.vs_laws.specs.Race.{bit, boxed, initially, letter, name, nanosecond, operand, target}
use Rattle.vs_laws.specs.Rise.{one_tick, rise}
use Rattle.vs_laws.specs.Roots.{sets_late, two_of}
use Rattle.vs_laws.specs.Swap.{always, copies_later, five}

-- ---- the design

-- `!c`
abbrev pub negated : Global → Typed
negated g =
    e.Resized (record { width = 1; signed = false; sized = (lit< tt, lit≤ tt) }) (boxed g (e.Unary u.LogicalNot (boxed g (operand 0))))

-- `~r`
abbrev pub inverted : Global → Typed
inverted g = e.Unary u.Not (boxed g (operand 1))

-- `assign n = ~r`
abbrev pub the_inverse : Global → Assign
the_inverse g = record { name = name g 116 35 97 48; target = target g 4; source = inverted g }

-- `SIGNAL = DIGIT;`, by its number in its process
abbrev pub gives : Global → ℕ → ℕ → Digit → Statement
gives g number signal digit = y.Assign number (target g signal) (e.Number (digit ∷ []))

-- `c = !c;`
abbrev pub turned : Global → Statement
turned g = y.Assign 2 (target g 0) (negated g)

-- `#5 c = !c;`
abbrev pub half : Global → Statement
half g = y.Delay 1 five (boxed g (turned g))

-- `always #5 c = !c;`
abbrev pub clock : Global → Statement
clock g = y.Forever 0 (boxed g (half g))

-- `#1 d = 1;`
abbrev pub gives_late : Global → Statement
gives_late g = y.Delay 3 one_tick (boxed g (gives g 4 2 One))

-- `@(posedge c) #1 d = 1;`
abbrev pub awaits : Global → Statement
awaits g = y.Event 2 (one_of g rise) (boxed g (gives_late g))

-- `begin c = 0; r = DIGIT; @(posedge c) #1 d = 1; end`
abbrev pub begins : Global → Digit → Statement
begins g digit = y.Block (three_of g (gives g 0 0 Zero) (gives g 1 1 digit) (awaits g))

-- `negedge n`
abbrev pub fall : EventTerm
fall = record { edge = Negedge; range = whole 4 }

-- `@(posedge c or negedge n) q <= d;`
abbrev pub listens : Global → Statement
listens g = y.Event 1 (two_of g rise fall) (boxed g (copies_later g 3 2))

-- `always @(posedge c or negedge n) q <= d;`
abbrev pub register : Global → Statement
register g = y.Forever 0 (boxed g (listens g))

-- `module t; reg c, r, d, q; wire n; assign n = ~r; always #5 c = !c; initial begin c = 0; r = DIGIT; @(posedge c) #1 d = 1; end
-- initial #2 r = 1; always @(posedge c or negedge n) q <= d; endmodule`
abbrev pub resetting : Global → Digit → Parts
resetting g digit = record {
  timescale = record { unit = nanosecond; precision = nanosecond };
  signals = bit g 99 Reg ∷ bit g 114 Reg ∷ bit g 100 Reg ∷ bit g 113 Reg ∷ bit g 110 Wire ∷ [];
  assigns = the_inverse g ∷ [];
  processes =
      always g 48 (clock g) ∷ initially g 49 (begins g digit) ∷ initially g 50 (sets_late g 1) ∷ always g 51 (register g) ∷ [];
  outline = Enter Module (letter g 116) ∷ Declare 0 ∷ Declare 1 ∷ Declare 2 ∷ Declare 3 ∷ Declare 4 ∷ Leave ∷ [];
}

-- ---- its certificate

-- the modulus is 10; `t.c` is a clock, which t#p0 turns at the residues 0 and 5; `t.n` copies the inverse of `t.r`, which t#p2 sets at the residue 2;
-- t#p1 sets both first, and is mixed: it waits for the edge at 5, and writes `t.d` at 6; t#p3 waits for edges
abbrev pub reset_claims : Grain → Claims
reset_claims grain = record {
  version = 3;
  displays = false;
  grain = grain;
  modulus = 10;
  edges = record { root = signal_in_t 99; signal = signal_in_t 99 } ∷ record { root = signal_in_t 114; signal = signal_in_t 110 } ∷ [];
  order = assign_in_t 48 ∷ [];
  processes =
      record { name = process_in_t 48; kind = delays ((0 ∷ 5 ∷ []) ∷ []) }
      ∷ record { name = process_in_t 49; kind = mixed ((6 ∷ []) ∷ []) }
      ∷ record { name = process_in_t 50; kind = delays ((2 ∷ []) ∷ []) }
      ∷ record { name = process_in_t 51; kind = edges }
      ∷ [];
  signals =
      record { name = signal_in_t 99; mode = blocking; writer = Some (process_in_t 48); second = Some (process_in_t 49) }
      ∷ record { name = signal_in_t 114; mode = blocking; writer = Some (process_in_t 50); second = Some (process_in_t 49) }
      ∷ record { name = signal_in_t 100; mode = blocking; writer = Some (process_in_t 49); second = None }
      ∷ record { name = signal_in_t 113; mode = nonblocking; writer = Some (process_in_t 51); second = None }
      ∷ record { name = signal_in_t 110; mode = net; writer = None; second = None }
      ∷ [];
}

-- with `r = 0` it keeps the rules, at either grain: from x that makes no edge of `n` for which t#p3 waits, since `n` falls where `r` rises
abbrev pub AResetKeepsTheRules : Type 0
AResetKeepsTheRules = (g : Global) (grain : Grain) → KeepsWideRules (resetting g Zero) (reset_claims grain)

-- with `r = 1` the verdict is no K10 at `t.r`: whether t#p3 waits already where `n` falls is a matter of order
abbrev pub AnEarlyResetIsReported : Type 0
AnEarlyResetIsReported = (g : Global) (grain : Grain) → IsVerdict (resetting g One) (reset_claims grain) (no_verdict k10 (signal_in_t 114))
