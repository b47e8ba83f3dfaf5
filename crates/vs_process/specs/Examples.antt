-- A process that is a combinational block, and some that aren't.
use Rattle.std.specs.Prelude.{ℕ, pos, Vec, ◌≡◌, true, false, [], ◌∷◌}
use Rattle.std.specs.declared.alloc.Global.{Global}
use Rattle.std.specs.declared.boxed.Box.{Box}
use Rattle.std.proofs.Common.{lit<, lit≤, refl}
use denote.RawPtr.{null_ptr}
use Rattle.vs_design.specs.vs_logic4.specs.declared.edge.Edge.{Edge}
use Rattle.vs_design.specs.vs_logic4.specs.declared.edge.Edge.TheVariants.{Any, Posedge}
use Rattle.vs_design.specs.vs_logic4.specs.declared.operators.Binary.{Binary}
use Rattle.vs_design.specs.vs_logic4.specs.declared.operators.Binary.TheVariants.{And, Or}
use Rattle.vs_design.specs.vs_logic4.specs.declared.operators.Unary.TheVariants.{Not}
use Rattle.vs_design.specs.declared.design.Process.{Process}
use Rattle.vs_design.specs.declared.design.ProcessKind.TheVariants.{Always, Initial}
use Rattle.vs_design.specs.declared.expression.Typed.{Typed}
use Rattle.vs_design.specs.declared.expression.Typed.TheVariants as e
use Rattle.vs_design.specs.declared.statement.Aim.TheVariants.{Fixed}
use Rattle.vs_design.specs.declared.statement.EventTerm.{EventTerm}
use Rattle.vs_design.specs.declared.statement.Statement.TheVariants as y
use Rattle.vs_design.specs.declared.statement.Target.{Target}
use Rattle.vs_design.specs.declared.statement.Ticks.{Ticks}
use Rattle.vs_design.specs.Uses.{whole}
use Rattle.vs_process.specs.Executions.{is_combinational}

-- a value on the heap
abbrev pub boxed : {A : Type 0} → Global → A → Box A Global
boxed g x = record { ptr = null_ptr; alloc = g; value = x }

-- one value in a list
abbrev pub one_of : {A : Type 0} → Global → A → Vec A Global
one_of g x = record { ptr = null_ptr; len = 1; cap = 1; alloc = g; items = x ∷ []; ok = (refl, lit≤ tt); small = lit< tt }

-- two values in a list
abbrev pub two_of : {A : Type 0} → Global → A → A → Vec A Global
two_of g x y = record { ptr = null_ptr; len = 2; cap = 2; alloc = g; items = x ∷ y ∷ []; ok = (refl, lit≤ tt); small = lit< tt }

-- four values in a list
abbrev pub four_of : {A : Type 0} → Global → A → A → A → A → Vec A Global
four_of g x y z w = record { ptr = null_ptr; len = 4; cap = 4; alloc = g; items = x ∷ y ∷ z ∷ w ∷ []; ok = (refl, lit≤ tt); small = lit< tt }

-- a signal of one bit where it is read
abbrev pub operand : ℕ → Typed
operand signal = e.Signal (record { signal = signal; width = 1; signed = false; sized = (lit< tt, lit≤ tt) })

-- an operator of one bit between two signals
abbrev pub between : Global → Binary → ℕ → ℕ → Typed
between g operator left right =
    e.Chain (boxed g (operand left)) (one_of g (record { operator = operator; width = 1; signed = false; sized = (lit< tt, lit≤ tt) }, operand right))

-- a target of a signal of one bit
abbrev pub target : Global → ℕ → Target
target g signal = record {
  parts = one_of g (Fixed (record { signal = signal; word = 0; low = pos 0; width = 1; sized = (lit< tt, lit≤ tt) }));
  width = 1;
  sized = (lit< tt, lit≤ tt);
}

-- a term that waits for changes of a signal
abbrev pub term : Edge → ℕ → EventTerm
term edge signal = record { edge = edge; range = whole signal }

-- no delay
abbrev pub no_ticks : Ticks
no_ticks = record { count = 0; short = lit< tt }

-- a delay of 5 ticks
abbrev pub five_ticks : Ticks
five_ticks = record { count = 5; short = lit< tt }

-- `t#p0`
abbrev pub name : Global → Vec ℕ Global
name g = four_of g 116 35 112 48

-- `always @* begin t = a & b; y = t | c; end`, where a, b, c, t, y are the signals 0 to 4
abbrev pub mixer : Global → Process
mixer g = record {
  name = name g;
  kind = Always;
  body = y.Forever 0 (boxed g (y.Event 1 (four_of g (term Any 0) (term Any 1) (term Any 3) (term Any 2))
      (boxed g (y.Block (two_of g (y.Assign 2 (target g 3) (between g And 0 1)) (y.Assign 3 (target g 4) (between g Or 3 2)))))));
}

-- `always @(posedge clk) target <= source;`, where clk is the signal 2
abbrev pub register : Global → ℕ → ℕ → Process
register g to from = record {
  name = name g;
  kind = Always;
  body = y.Forever 0 (boxed g (y.Event 1 (one_of g (term Posedge 2)) (boxed g (y.Later 2 no_ticks (target g to) (operand from)))));
}

-- `always #5 clk = ~clk;`, where clk is the signal 2
abbrev pub toggler : Global → Process
toggler g = record {
  name = name g;
  kind = Always;
  body = y.Forever 0 (boxed g (y.Delay 1 five_ticks (boxed g (y.Assign 2 (target g 2) (e.Unary Not (boxed g (operand 2)))))));
}

-- `always @* begin t = a & b; y = t | c; end` is a combinational block; of `reg clk = 0; reg a = 0, b = 1; always #5 clk = ~clk;
-- always @(posedge clk) a <= b; always @(posedge clk) b <= a;`, where a, b, clk are the signals 0 to 2, none is
abbrev pub BlocksAreRecognized : Type 0
BlocksAreRecognized = (g : Global) → (is_combinational (mixer g) ≡ true)
    × (is_combinational (toggler g) ≡ false)
    × (is_combinational (register g 0 1) ≡ false)
    × (is_combinational (register g 1 0) ≡ false)
    × ((p : Process) → p.kind ≡ Initial → is_combinational p ≡ false)
