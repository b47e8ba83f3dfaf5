-- A design with a combinational block, and its certificates.
use Rattle.std.specs.Prelude.{ℕ, ◌≡◌, Bool, true, false, Some, None, List, [], ◌∷◌}
use Rattle.std.specs.declared.alloc.Global.{Global}
use Rattle.std.proofs.Common.{lit<}
use Rattle.vs_design.specs.vs_logic4.specs.declared.digit.Digit.TheVariants.{One}
use Rattle.vs_design.specs.vs_logic4.specs.declared.edge.Edge.TheVariants.{Any}
use Rattle.vs_design.specs.declared.signal.Signal.{Signal}
use Rattle.vs_design.specs.declared.signal.SignalKind.TheVariants.{Reg, Wire}
use Rattle.vs_design.specs.declared.design.Assign.{Assign}
use Rattle.vs_design.specs.declared.design.Entry.{Entry}
use Rattle.vs_design.specs.declared.design.Entry.TheVariants.{Enter, Declare, Leave}
use Rattle.vs_design.specs.declared.design.Process.{Process}
use Rattle.vs_design.specs.declared.design.ProcessKind.TheVariants.{Always}
use Rattle.vs_design.specs.declared.design.ScopeKind.TheVariants.{Module}
use Rattle.vs_design.specs.declared.expression.Typed.TheVariants as e
use Rattle.vs_design.specs.declared.statement.EventTerm.{EventTerm}
use Rattle.vs_design.specs.declared.statement.Statement.{Statement}
use Rattle.vs_design.specs.declared.statement.Statement.TheVariants as y
use Rattle.vs_design.specs.declared.statement.Ticks.{Ticks}
use Rattle.vs_design.specs.Parts.{Parts}
use Rattle.vs_design.specs.Uses.{whole}
use Rattle.vs_independence.specs.vs_process.specs.declared.moves.Grain.TheVariants.{Block}
use Rattle.vs_laws.specs.Race.{bit, boxed, initially, letter, name, nanosecond, operand, target}
use Rattle.vs_laws.specs.Mirror.{one_of}
use Rattle.vs_rules.specs.Claims.{Name, Claims, SignalClaim, Start, sources, net, block, delays, combinational, nonblocking}
use Rattle.vs_laws.specs.Kept.{KeepsRules}
use Rattle.vs_laws.specs.Names.{assign_in_t, process_in_t, signal_in_t}

-- no delay
abbrev pub no_ticks : Ticks
no_ticks = record { count = 0; short = lit< tt }

-- `a <= 1`
abbrev pub updated : Global → Statement
updated g = y.Later 0 no_ticks (target g 0) (e.Number (One ∷ []))

-- the signal that the block waits for and reads: `a`, or a net `w` that copies it
abbrev pub heard : Bool → ℕ
heard false = 0
heard true = 2

-- a signal, where a change of it is waited for
abbrev pub change_of : ℕ → EventTerm
change_of signal = record { edge = Any; range = whole signal }

-- `y = SIGNAL`
abbrev pub copied : Global → ℕ → Statement
copied g signal = y.Assign 2 (target g 1) (operand signal)

-- `@(SIGNAL) y = SIGNAL`
abbrev pub watched : Global → ℕ → Statement
watched g signal = y.Event 1 (one_of g (change_of signal)) (boxed g (copied g signal))

-- `always @(SIGNAL) y = SIGNAL`
abbrev pub watching : Global → ℕ → Statement
watching g signal = y.Forever 0 (boxed g (watched g signal))

-- the process t#p1
abbrev pub follower : Global → ℕ → Process
follower g signal = record { name = name g 116 35 112 49; kind = Always; body = watching g signal }

-- `assign w = a`
abbrev pub the_net_assign : Global → Assign
the_net_assign g = record { name = name g 116 35 97 48; target = target g 2; source = operand 0 }

-- the net, where there is one
abbrev pub nets : Global → Bool → List Signal
nets g false = []
nets g true = bit g 119 Wire ∷ []

-- what drives it
abbrev pub assigns_of : Global → Bool → List Assign
assigns_of g false = []
assigns_of g true = the_net_assign g ∷ []

-- how the outline ends
abbrev pub declares : Bool → List Entry
declares false = Leave ∷ []
declares true = Declare 2 ∷ Leave ∷ []

-- `module t; reg a; reg y; initial a <= 1; always @(a) y = a; endmodule`, or with a net
-- `module t; reg a; reg y; wire w; assign w = a; initial a <= 1; always @(w) y = w; endmodule`
abbrev pub following : Global → Bool → Parts
following g through = record {
  timescale = record { unit = nanosecond; precision = nanosecond };
  signals = bit g 97 Reg ∷ bit g 121 Reg ∷ nets g through;
  assigns = assigns_of g through;
  processes = initially g 48 (updated g) ∷ follower g (heard through) ∷ [];
  outline = Enter Module (letter g 116) ∷ Declare 0 ∷ Declare 1 ∷ declares through;
}

-- the order of the drivers
abbrev pub order_of : Bool → List Name
order_of false = process_in_t 49 ∷ []
order_of true = assign_in_t 48 ∷ process_in_t 49 ∷ []

-- the entry of the net
abbrev pub net_claims : Bool → List SignalClaim
net_claims false = []
net_claims true = record { name = signal_in_t 119; mode = net; writer = None; second = None } ∷ []

-- t#p1 is a block with this start, and writes `t.y`; t#p0 has no delay control, and writes `t.a` by `<=`
abbrev pub block_claims : Bool → Start → Claims
block_claims through start = record {
  version = 2;
  displays = true;
  grain = Block;
  modulus = 1;
  edges = [];
  order = order_of through;
  processes = record { name = process_in_t 48; kind = delays [] } ∷ record { name = process_in_t 49; kind = block start } ∷ [];
  signals =
      record { name = signal_in_t 97; mode = nonblocking; writer = Some (process_in_t 48); second = None }
      ∷ record { name = signal_in_t 121; mode = combinational; writer = Some (process_in_t 49); second = None }
      ∷ net_claims through;
}

-- a design with a combinational block keeps the rules, whichever start its certificate gives the block: it waits for a source alone, a run on the
-- settled initial state changes nothing, and what it waits for is sure to change in the first slot
abbrev pub ABlockKeepsTheRules : Type 0
ABlockKeepsTheRules = (g : Global) (start : Start) → KeepsRules (following g false) (block_claims false start)

-- so does one whose block waits for a net that copies the source, with both of the other starts
abbrev pub ABlockAtANetKeepsTheRules : Type 0
ABlockAtANetKeepsTheRules = (g : Global) (start : Start) → (start ≡ sources → ⊥) → KeepsRules (following g true) (block_claims true start)
