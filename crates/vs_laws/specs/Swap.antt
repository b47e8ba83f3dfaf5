-- A clock, and two processes that exchange two bits at its rising edges.
use Rattle.std.specs.Prelude.{ℕ, false, Some, [], ◌∷◌}
use Rattle.std.specs.declared.alloc.Global.{Global}
use Rattle.std.proofs.Common.{lit<}
use Rattle.vs_design.specs.vs_logic4.specs.declared.digit.Digit.{Digit}
use Rattle.vs_design.specs.vs_logic4.specs.declared.digit.Digit.TheVariants.{Zero, One}
use Rattle.vs_design.specs.vs_logic4.specs.declared.operators.Unary.TheVariants as u
use Rattle.vs_design.specs.declared.signal.SignalKind.TheVariants.{Reg}
use Rattle.vs_design.specs.declared.design.Entry.TheVariants.{Enter, Declare, Leave}
use Rattle.vs_design.specs.declared.design.Process.{Process}
use Rattle.vs_design.specs.declared.design.ProcessKind.TheVariants.{Always}
use Rattle.vs_design.specs.declared.design.ScopeKind.TheVariants.{Module}
use Rattle.vs_design.specs.declared.expression.Typed.{Typed}
use Rattle.vs_design.specs.declared.expression.Typed.TheVariants as e
use Rattle.vs_design.specs.declared.statement.Statement.{Statement}
use Rattle.vs_design.specs.declared.statement.Statement.TheVariants as y
use Rattle.vs_design.specs.declared.statement.Ticks.{Ticks}
use Rattle.vs_design.specs.Parts.{Parts}
use Rattle.vs_design.specs.WellFormed.{WellFormed}
use Rattle.vs_independence.specs.vs_process.specs.declared.moves.Grain.{Grain}
use Rattle.vs_independence.specs.Discipline.{Independent}
use Rattle.vs_laws.specs.Mirror.{one_of}
use Rattle.vs_laws.specs.Race.{bit, boxed, initially, letter, name, nanosecond, operand, target}
use Rattle.vs_laws.specs.Rise.{rise}
use Rattle.vs_rules.specs.Claims.{Claims, edges, delays, blocking, nonblocking}
use Rattle.vs_rules.specs.Verdict.{Disciplined}
use Rattle.vs_laws.specs.Block.{no_ticks}
use Rattle.vs_laws.specs.Kept.{KeepsRules}
use Rattle.vs_laws.specs.Names.{signal_in_t, process_in_t}

-- ---- the design

abbrev pub five : Ticks
five = record { count = 5; short = lit< tt }

-- `s = DIGIT`
abbrev pub sets : Global → ℕ → Digit → Statement
sets g signal digit = y.Assign 0 (target g signal) (e.Number (digit ∷ []))

-- `~c`
abbrev pub inverse : Global → Typed
inverse g = e.Unary u.Not (boxed g (operand 0))

-- `c = ~c`
abbrev pub turned : Global → Statement
turned g = y.Assign 2 (target g 0) (inverse g)

-- `#5 c = ~c`
abbrev pub half : Global → Statement
half g = y.Delay 1 five (boxed g (turned g))

-- `always #5 c = ~c`
abbrev pub clock : Global → Statement
clock g = y.Forever 0 (boxed g (half g))

-- `@(posedge c) STATEMENT`
abbrev pub on_rise : Global → Statement → Statement
on_rise g body = y.Event 1 (one_of g rise) (boxed g body)

-- `always @(posedge c) STATEMENT`
abbrev pub each_rise : Global → Statement → Statement
each_rise g body = y.Forever 0 (boxed g (on_rise g body))

-- `always STATEMENT`, by the last character of its name
abbrev pub always : Global → ℕ → Statement → Process
always g digit body = record { name = name g 116 35 112 digit; kind = Always; body = body }

-- `module t; reg c = 0; reg a = 0, b = 1; always #5 c = ~c; always @(posedge c) FIRST always @(posedge c) SECOND endmodule`
abbrev pub swapping : Global → Statement → Statement → Parts
swapping g first second = record {
  timescale = record { unit = nanosecond; precision = nanosecond };
  signals = bit g 99 Reg ∷ bit g 97 Reg ∷ bit g 98 Reg ∷ [];
  assigns = [];
  processes =
      initially g 48 (sets g 0 Zero) ∷ initially g 49 (sets g 1 Zero) ∷ initially g 50 (sets g 2 One) ∷ always g 51 (clock g)
      ∷ always g 52 (each_rise g first) ∷ always g 53 (each_rise g second) ∷ [];
  outline = Enter Module (letter g 116) ∷ Declare 0 ∷ Declare 1 ∷ Declare 2 ∷ Leave ∷ [];
}

-- ---- with blocking assignments

-- `a = b`, `b = a`, by the numbers of the signals
abbrev pub copies_now : Global → ℕ → ℕ → Statement
copies_now g to from = y.Assign 2 (target g to) (operand from)

-- both processes write with `a = b;` and `b = a;`
abbrev pub swapping_now : Global → Parts
swapping_now g = swapping g (copies_now g 1 2) (copies_now g 2 1)

-- each reads what the other writes at that very edge: the design is well formed, it is independent at no grain, and so no certificate whatsoever is
-- one of it
abbrev pub ARaceOfEdgesKeepsNoRules : Type 0
ARaceOfEdgesKeepsNoRules =
    (g : Global) → WellFormed (swapping_now g) × ((grain : Grain) → Independent grain (swapping_now g) → ⊥)
    × ((c : Claims) → Disciplined (swapping_now g) c → ⊥)

-- ---- with nonblocking assignments

-- `a <= b`, `b <= a`, by the numbers of the signals
abbrev pub copies_later : Global → ℕ → ℕ → Statement
copies_later g to from = y.Later 2 no_ticks (target g to) (operand from)

-- both processes write with `a <= b;` and `b <= a;`
abbrev pub swapping_later : Global → Parts
swapping_later g = swapping g (copies_later g 1 2) (copies_later g 2 1)

-- the modulus is 10; `t.c` is a clock, an edge signal that is its own root, which t#p3 writes by `=` at the residues 0 and 5; t#p4 and t#p5 wait for
-- its edges, and write `t.a` and `t.b` by `<=`; t#p0, t#p1 and t#p2 write each first
abbrev pub swap_claims : Grain → Claims
swap_claims grain = record {
  version = 1;
  displays = false;
  grain = grain;
  modulus = 10;
  edges = record { root = signal_in_t 99; signal = signal_in_t 99 } ∷ [];
  order = [];
  processes =
      record { name = process_in_t 48; kind = delays [] }
      ∷ record { name = process_in_t 49; kind = delays [] }
      ∷ record { name = process_in_t 50; kind = delays [] }
      ∷ record { name = process_in_t 51; kind = delays ((0 ∷ 5 ∷ []) ∷ []) }
      ∷ record { name = process_in_t 52; kind = edges }
      ∷ record { name = process_in_t 53; kind = edges }
      ∷ [];
  signals =
      record { name = signal_in_t 99; mode = blocking; writer = Some (process_in_t 51); second = Some (process_in_t 48) }
      ∷ record { name = signal_in_t 97; mode = nonblocking; writer = Some (process_in_t 52); second = Some (process_in_t 49) }
      ∷ record { name = signal_in_t 98; mode = nonblocking; writer = Some (process_in_t 53); second = Some (process_in_t 50) }
      ∷ [];
}

-- a clocked design keeps the rules, at either grain
abbrev pub AClockedDesignKeepsTheRules : Type 0
AClockedDesignKeepsTheRules = (g : Global) (grain : Grain) → KeepsRules (swapping_later g) (swap_claims grain)
