-- Designs in which the order of steps tells, each with the certificate that the rules of version 3 would take if one of their clauses were left out.
use Rattle.std.specs.Prelude.{ℕ, false, Some, None, List, [], ◌∷◌}
use Rattle.std.specs.declared.alloc.Global.{Global}
use Rattle.vs_design.specs.vs_logic4.specs.declared.digit.Digit.TheVariants.{Zero, One}
use Rattle.vs_design.specs.vs_logic4.specs.declared.edge.Edge.TheVariants.{Negedge}
use Rattle.vs_design.specs.declared.design.Assign.{Assign}
use Rattle.vs_design.specs.declared.design.Entry.TheVariants.{Enter, Declare, Leave}
use Rattle.vs_design.specs.declared.design.ScopeKind.TheVariants.{Module}
use Rattle.vs_design.specs.declared.signal.SignalKind.TheVariants.{Reg, Wire}
use Rattle.vs_design.specs.declared.statement.EventTerm.{EventTerm}
use Rattle.vs_design.specs.declared.statement.Statement.{Statement}
use Rattle.vs_design.specs.declared.statement.Statement.TheVariants as y
use Rattle.vs_design.specs.Parts.{Parts}
use Rattle.vs_design.specs.Uses.{whole}
use Rattle.vs_independence.specs.vs_process.specs.declared.moves.Grain.{Grain}
use Rattle.vs_rules.specs.Claims.{Claims, EdgeClaim, Kind, SignalClaim, edges, delays, mixed, blocking, net}
use Rattle.vs_rules.specs.Verdict.{Keeps, k7, k8, k9, k10, process, signal}
use Rattle.vs_laws.specs.Mirror.{one_of}
use Rattle.vs_laws.specs.Names.{assign_in_t, process_in_t, signal_in_t}
use Rattle.vs_laws.specs.Race.{bit, boxed, initially, letter, name, nanosecond, operand, target}
use Rattle.vs_laws.specs.Resets.{gives}
use Rattle.vs_laws.specs.Rise.{one_tick, rise}
use Rattle.vs_laws.specs.Roots.{rise_of, two_of}
use Rattle.vs_laws.specs.Swap.{copies_now, inverse}

-- ---- the designs

-- `#1 STATEMENT`, by its number in its process
abbrev pub one_later : Global → ℕ → Statement → Statement
one_later g number s = y.Delay number one_tick (boxed g s)

-- `@(TERM) STATEMENT`, by its number
abbrev pub at_edge : Global → ℕ → EventTerm → Statement → Statement
at_edge g number t s = y.Event number (one_of g t) (boxed g s)

-- `negedge n`
abbrev pub fall_of_n : EventTerm
fall_of_n = record { edge = Negedge; range = whole 3 }

-- `begin #1 a = 1; #1 a = 0; end`
abbrev pub pulse : Global → Statement
pulse g = y.Block (two_of g (one_later g 0 (gives g 1 0 One)) (one_later g 2 (gives g 3 0 Zero)))

-- `#1 c = 1;`
abbrev pub rises : Global → Statement
rises g = one_later g 0 (gives g 1 2 One)

-- `assign n = ~a`
abbrev pub inverts : Global → Assign
inverts g = record { name = name g 116 35 97 48; target = target g 3; source = inverse g }

-- `module t; reg a, b, c; wire n; assign n = ~a; initial SETTER initial #1 c = 1; initial WAITER endmodule`
abbrev pub waiting : Global → Statement → Statement → Parts
waiting g setter waiter = record {
  timescale = record { unit = nanosecond; precision = nanosecond };
  signals = bit g 97 Reg ∷ bit g 98 Reg ∷ bit g 99 Reg ∷ bit g 110 Wire ∷ [];
  assigns = inverts g ∷ [];
  processes = initially g 48 setter ∷ initially g 49 (rises g) ∷ initially g 50 waiter ∷ [];
  outline = Enter Module (letter g 116) ∷ Declare 0 ∷ Declare 1 ∷ Declare 2 ∷ Declare 3 ∷ Leave ∷ [];
}

-- ---- their certificates

-- `t.a` and `t.c`, each its own root, and `t.n`, which shows `t.a` inverted
abbrev pub own_edge : ℕ → EdgeClaim
own_edge letter = record { root = signal_in_t letter; signal = signal_in_t letter }

abbrev pub edge_of_n : EdgeClaim
edge_of_n = record { root = signal_in_t 97; signal = signal_in_t 110 }

-- a variable of mode `blocking`, and who writes it
abbrev pub variable_claim : ℕ → ℕ → SignalClaim
variable_claim letter digit = record { name = signal_in_t letter; mode = blocking; writer = Some (process_in_t digit); second = None }

-- the modulus is 1: all comes at the residue 0; t#p0 waits for times alone, with these lists, and t#p1 too; t#p2 is of this kind
abbrev pub claims : Grain → List EdgeClaim → List (List ℕ) → Kind → Claims
claims grain heard lists kind = record {
  version = 3;
  displays = false;
  grain = grain;
  modulus = 1;
  edges = heard;
  order = assign_in_t 48 ∷ [];
  processes =
      record { name = process_in_t 48; kind = delays lists }
      ∷ record { name = process_in_t 49; kind = delays ((0 ∷ []) ∷ []) }
      ∷ record { name = process_in_t 50; kind = kind }
      ∷ [];
  signals =
      variable_claim 97 48 ∷ variable_claim 98 50 ∷ variable_claim 99 49
      ∷ record { name = signal_in_t 110; mode = net; writer = None; second = None }
      ∷ [];
}

-- ---- where `a` rises at 1 and falls at 2

-- `initial begin #1 a = 1; #1 a = 0; end initial WAITER`
abbrev pub pulsed : Global → Statement → Parts
pulsed g waiter = waiting g (pulse g) waiter

-- t#p0 ends each of its delays at 0; t#p2 is mixed, with this list for its one delay
abbrev pub pulsed_claims : Grain → List EdgeClaim → List ℕ → Claims
pulsed_claims grain heard list = claims grain heard ((0 ∷ []) ∷ (0 ∷ []) ∷ []) (mixed (list ∷ []))

-- `#1 @(posedge a) b = 1;`
abbrev pub arrives : Global → Statement
arrives g = one_later g 0 (at_edge g 1 rise (gives g 2 1 One))

-- whether t#p2 comes to its control before the edge or behind it is a choice
abbrev pub AnArrivalBreaksTheRules : Type 0
AnArrivalBreaksTheRules =
    (g : Global) (grain : Grain) →
    Keeps (pulsed g (arrives g)) (pulsed_claims grain (own_edge 97 ∷ []) (0 ∷ [])) k7 (process 2) → ⊥

-- `@(FIRST) @(SECOND) #1 b = 1;`
abbrev pub waits_twice : Global → EventTerm → EventTerm → Statement
waits_twice g first second = at_edge g 0 first (at_edge g 1 second (one_later g 2 (gives g 3 1 One)))

-- `posedge c` and `posedge a` come in one slot, in either order
abbrev pub TwoEdgesAtOnceBreakTheRules : Type 0
TwoEdgesAtOnceBreakTheRules =
    (g : Global) (grain : Grain) →
    Keeps (pulsed g (waits_twice g (rise_of 2) rise)) (pulsed_claims grain (own_edge 99 ∷ own_edge 97 ∷ []) (0 ∷ [])) k7 (process 2) → ⊥

-- so do `posedge c` and `negedge n`, since n falls where `a` rises
abbrev pub AnInverseEdgeBreaksTheRules : Type 0
AnInverseEdgeBreaksTheRules =
    (g : Global) (grain : Grain) →
    Keeps (pulsed g (waits_twice g (rise_of 2) fall_of_n)) (pulsed_claims grain (own_edge 99 ∷ edge_of_n ∷ []) (0 ∷ [])) k7 (process 2) → ⊥

-- `n` falls behind the rise of `a`, before t#p2 waits for it or then
abbrev pub TwoSignalsOfARootBreakTheRules : Type 0
TwoSignalsOfARootBreakTheRules =
    (g : Global) (grain : Grain) →
    Keeps (pulsed g (waits_twice g rise fall_of_n)) (pulsed_claims grain (own_edge 97 ∷ edge_of_n ∷ []) (0 ∷ [])) k7 (process 2) → ⊥

-- `@(posedge a) #1 b = a;`
abbrev pub reads_late : Global → Statement
reads_late g = at_edge g 0 rise (one_later g 1 (copies_now g 1 0))

-- its delay ends where `a` falls, though the list says that it never ends
abbrev pub ADelayAfterAnEdgeBreaksTheRules : Type 0
ADelayAfterAnEdgeBreaksTheRules =
    (g : Global) (grain : Grain) → Keeps (pulsed g (reads_late g)) (pulsed_claims grain (own_edge 97 ∷ []) []) k8 (process 2) → ⊥

-- the list is right, and the read of the edge signal is not the one at its edge
abbrev pub ALateReadOfAnEdgeBreaksTheRules : Type 0
ALateReadOfAnEdgeBreaksTheRules =
    (g : Global) (grain : Grain) → Keeps (pulsed g (reads_late g)) (pulsed_claims grain (own_edge 97 ∷ []) (0 ∷ [])) k9 (process 2) → ⊥

-- ---- where `a` rises at 0

-- `initial a = 1; initial @(TERM) b = 1;`
abbrev pub starting : Global → EventTerm → Parts
starting g t = waiting g (gives g 0 0 One) (at_edge g 0 t (gives g 1 1 One))

abbrev pub starting_claims : Grain → EdgeClaim → Claims
starting_claims grain heard = claims grain (heard ∷ []) [] edges

-- whether t#p2 waits already is a choice
abbrev pub AFirstEdgeBreaksTheRules : Type 0
AFirstEdgeBreaksTheRules =
    (g : Global) (grain : Grain) → Keeps (starting g rise) (starting_claims grain (own_edge 97)) k10 (signal 0) → ⊥

-- so it is where it waits for the fall of `n`
abbrev pub AFirstInverseEdgeBreaksTheRules : Type 0
AFirstInverseEdgeBreaksTheRules =
    (g : Global) (grain : Grain) → Keeps (starting g fall_of_n) (starting_claims grain edge_of_n) k10 (signal 0) → ⊥

-- `b = a;`
abbrev pub reads_first : Global → Statement
reads_first g = y.Assign 0 (target g 1) (operand 0)

-- whether `a` is 1 yet, or x still, is a choice
abbrev pub AFirstReadBreaksTheRules : Type 0
AFirstReadBreaksTheRules =
    (g : Global) (grain : Grain) → Keeps (waiting g (gives g 0 0 One) (reads_first g)) (claims grain [] [] (delays [])) k10 (process 2) → ⊥
