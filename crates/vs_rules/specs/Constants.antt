-- Writes of constants, and clocks.
use Rattle.std.specs.Prelude.{ℕ, ◌+◌, ◌≡◌, ◌==◌, ◌<◌, ◌⊎◌, Bool, true, false, if◌then◌else◌, ℤ, pos, negsuc, ◌+ℤ◌, neg_ℤ, Option, Some, None, List, [], ◌∷◌, map, slice_get}
use Rattle.std.specs.List.{list_any}
use Rattle.std.specs.declared.vec.Vec.{Vec}
use Rattle.std.specs.declared.alloc.Global.{Global}
use Rattle.std.specs.declared.boxed.Box.{Box}
use Rattle.vs_design.specs.vs_logic4.specs.declared.digit.Digit.{Digit}
use Rattle.vs_design.specs.vs_logic4.specs.declared.digit.Digit.TheVariants.{Zero, One}
use Rattle.vs_design.specs.vs_logic4.specs.declared.operators.Unary.TheVariants as u
use Rattle.vs_design.specs.vs_logic4.specs.Parts.{selected}
use Rattle.vs_design.specs.declared.signal.Signal.{Signal}
use Rattle.vs_design.specs.declared.design.Process.{Process}
use Rattle.vs_design.specs.declared.design.ProcessKind.{ProcessKind}
use Rattle.vs_design.specs.declared.design.ProcessKind.TheVariants.{Initial, Always}
use Rattle.vs_design.specs.declared.expression.Operand.{Operand}
use Rattle.vs_design.specs.declared.expression.Slice.{Slice}
use Rattle.vs_design.specs.declared.expression.Typed.{Typed, Typed-F}
use Rattle.vs_design.specs.declared.expression.Typed.TheViews.{out-Typed}
use Rattle.vs_design.specs.declared.expression.Typed.TheOpen as t
use Rattle.vs_design.specs.declared.statement.Aim.{Aim}
use Rattle.vs_design.specs.declared.statement.Aim.TheVariants.{Fixed, Chosen}
use Rattle.vs_design.specs.declared.statement.Statement.{Statement}
use Rattle.vs_design.specs.declared.statement.Statement.TheOpen.{Statement-F}
use Rattle.vs_design.specs.declared.statement.Statement.TheViews.{out-Statement}
use Rattle.vs_design.specs.declared.statement.Target.{Target}
use Rattle.vs_design.specs.declared.statement.Ticks.{Ticks}
use Rattle.vs_design.specs.declared.range.BitRange.{BitRange}
use Rattle.vs_design.specs.Parts.{Parts}
use Rattle.vs_design.specs.Uses.{aim_range, is_of, reads}
use Rattle.vs_design.specs.WellFormed.{aim_width}
use Rattle.vs_process.specs.vs_eval.specs.Values.{target_value}
use Rattle.vs_process.specs.Places.{perform, Todo}
use Rattle.vs_rules.specs.Claims.{Claims, IsWriter, is_wide}
use Rattle.vs_rules.specs.Paths.{Bit, IsPoint, Writes, WritesLater, WritesNow}

-- ---- constants

-- the lowest bit of a signal that is no array
abbrev pub bit_of : ℕ → Bit
bit_of v = record { signal = v; word = 0; place = 0 }

-- the digit at a place of a list, where the list has the place
abbrev pub digit_there : ℤ → List Digit → Option Digit
digit_there (pos place) digits = slice_get digits place
digit_there (negsuc below) digits = None

-- the digit that a place of a target gives a bit of its signal, of digits of its own; none where its indices aren't constant
abbrev pub place_gives : Aim → List Digit → Bit → Option Digit
place_gives (Fixed s) digits b = if s.word == b.word then digit_there (neg_ℤ s.low +ℤ pos b.place) digits else None
place_gives (Chosen s word low) digits b = None

-- whether one of some places names the signal
abbrev pub any_aims : ℕ → List Aim → Bool
any_aims v aims = list_any (is_of v) (map aim_range aims)

-- of the places of a target, to which digits go from this one on, the one that names the bit's signal gives the bit its digit; where two name it,
-- neither does (profile)
abbrev pub places_give : ℕ → List Aim → List Digit → Bit → Option Digit
places_give from [] digits b = None
places_give from (a ∷ as') digits b =
    if is_of b.signal (aim_range a)
    then (if any_aims b.signal as' then None else place_gives a (selected (pos from) (aim_width a) digits) b)
    else places_give (from + aim_width a) as' digits b

-- whether there are none
abbrev pub is_nothing : List BitRange → Bool
is_nothing [] = true
is_nothing (r ∷ rs) = false

-- the digit that an assignment of a constant gives a bit, whatever the store; its right side names no signal
abbrev pub given : Target → Typed → Bit → Option Digit
given target value b = if is_nothing (reads value) then places_give 0 target.parts.items (target_value target value [] 0) b else None

-- such an assignment gives a bit this digit
abbrev pub GivesDigit : Target → Typed → Bit → Digit → Type 0
GivesDigit target value b digit = given target value b ≡ Some digit

-- the assignment that a statement is, by `=` or by `<=`
abbrev pub statement_assigns : Statement-F Statement → Option (Target × Typed)
statement_assigns (Statement-F.Assign n target value) = Some (target, value)
statement_assigns (Statement-F.Later n ticks target value) = Some (target, value)
statement_assigns _ = None

abbrev pub todo_assigns : Todo → Option (Target × Typed)
todo_assigns (perform s ∷ rest) = statement_assigns (out-Statement s)
todo_assigns _ = None

-- the digit that an assignment, where there is one, gives a bit
abbrev pub given_by : Option (Target × Typed) → Bit → Option Digit
given_by None b = None
given_by (Some a) b = given a.0 a.1 b

-- the statement at a point gives a bit this digit, a constant
abbrev pub Gives : Todo → Bit → Digit → Type 0
Gives k b digit = given_by (todo_assigns k) b ≡ Some digit

-- a known digit
pub data IsKnown : Digit → Type 0 where
  zero : IsKnown Zero
  one : IsKnown One

-- ---- whole signals

-- constant bits that are the whole of a signal that is no array
pub record IsWholeSlice (d : Parts) (v : ℕ) (s : Slice) : Type 0 where
  pub signal : Signal
  pub is : slice_get d.signals v ≡ Some signal
  pub no_array : signal.words ≡ None
  pub count : signal.count ≡ 1
  pub of : s.signal ≡ v
  pub word : s.word ≡ 0
  pub low : s.low ≡ pos 0
  pub width : s.width ≡ signal.width

-- the name of a signal that is no array, at its own size
pub record IsWholeName (d : Parts) (v : ℕ) (o : Operand) : Type 0 where
  pub signal : Signal
  pub is : slice_get d.signals v ≡ Some signal
  pub no_array : signal.words ≡ None
  pub count : signal.count ≡ 1
  pub of : o.signal ≡ v
  pub width : o.width ≡ signal.width

-- a select of all bits of a signal, by its outermost layer, that has this size
abbrev pub IsWholeSelect : Parts → ℕ → ℕ → Typed-F Typed → Type 0
IsWholeSelect d v width (t.Slice s) = IsWholeSlice d v s × (s.width ≡ width)
IsWholeSelect d v width _ = ⊥

-- an expression that is a whole signal, by its outermost layer: its name alone, or a select of all its bits, brought to the size that it has
abbrev pub IsWholeLayer : Parts → ℕ → Typed-F Typed → Type 0
IsWholeLayer d v (t.Signal o) = IsWholeName d v o
IsWholeLayer d v (t.Slice s) = IsWholeSlice d v s
IsWholeLayer d v (t.Resized size x) = IsWholeSelect d v size.width (out-Typed x.value)
IsWholeLayer d v _ = ⊥

abbrev pub IsWhole : Parts → ℕ → Typed → Type 0
IsWhole d v e = IsWholeLayer d v (out-Typed e)

-- `~u`, of the whole of u
abbrev pub IsInverseLayer : Parts → ℕ → Typed-F Typed → Type 0
IsInverseLayer d v (t.Unary u.Not x) = IsWhole d v x.value
IsInverseLayer d v _ = ⊥

abbrev pub IsInverse : Parts → ℕ → Typed → Type 0
IsInverse d v e = IsInverseLayer d v (out-Typed e)

-- `!u`, of the whole of u
abbrev pub IsNegationLayer : Parts → ℕ → Typed-F Typed → Type 0
IsNegationLayer d v (t.Unary u.LogicalNot x) = IsWhole d v x.value
IsNegationLayer d v _ = ⊥

-- `~u` or `!u`, by its outermost layer, of the whole of u: where u has one bit they are one
abbrev pub InvertsLayer : Parts → ℕ → Typed-F Typed → Type 0
InvertsLayer d v (t.Unary u.Not x) = IsWhole d v x.value
InvertsLayer d v (t.Resized size x) = (size.width ≡ 1) × IsNegationLayer d v (out-Typed x.value)
InvertsLayer d v _ = ⊥

abbrev pub Inverts : Parts → ℕ → Typed → Type 0
Inverts d v e = InvertsLayer d v (out-Typed e)

-- what turns a clock: `~u`, in version 3 `!u` too
abbrev pub IsTurn : Parts → Bool → ℕ → Typed → Type 0
IsTurn d false v e = IsInverse d v e
IsTurn d true v e = Inverts d v e

-- a target that is a whole signal
pub record IsWholeTarget (d : Parts) (v : ℕ) (target : Target) : Type 0 where
  pub slice : Slice
  pub only : target.parts.items ≡ Fixed slice ∷ []
  pub whole : IsWholeSlice d v slice

-- ---- clocks

-- a statement, but for `begin` and `end` round one statement, has this outermost layer
pub data IsBare : Statement → Statement-F Statement → Type 0 where
  itself : (s : Statement) (x : Statement-F Statement) → out-Statement s ≡ x → IsBare s x
  inside : (s : Statement) (all : Vec Statement Global) (inner : Statement) (x : Statement-F Statement) →
      out-Statement s ≡ Statement-F.Block all → all.items ≡ inner ∷ [] → IsBare inner x → IsBare s x

-- `u = c`, with c 0 or 1
pub record Sets (d : Parts) (v : ℕ) (digit : Digit) (s : Statement) : Type 0 where
  pub number : ℕ
  pub target : Target
  pub value : Typed
  pub is : IsBare s (Statement-F.Assign number target value)
  pub whole : IsWholeTarget d v target
  pub known : IsKnown digit
  pub gives : GivesDigit target value (bit_of v) digit

-- `#h u = ~u`, with h above 0
pub record Turns (d : Parts) (wide : Bool) (v half : ℕ) (s : Statement) : Type 0 where
  pub number : ℕ
  pub ticks : Ticks
  pub inner : Box Statement Global
  pub is : IsBare s (Statement-F.Delay number ticks inner)
  pub half_is : ticks.count ≡ half
  pub above : 0 < half
  pub assigns : ℕ
  pub target : Target
  pub value : Typed
  pub body : IsBare inner.value (Statement-F.Assign assigns target value)
  pub whole : IsWholeTarget d v target
  pub inverse : IsTurn d wide v value

-- `#o u = c`
pub record SetsAfter (d : Parts) (v offset : ℕ) (digit : Digit) (s : Statement) : Type 0 where
  pub number : ℕ
  pub ticks : Ticks
  pub inner : Box Statement Global
  pub is : IsBare s (Statement-F.Delay number ticks inner)
  pub offset_is : ticks.count ≡ offset
  pub sets : Sets d v digit inner.value

-- `forever #h u = ~u`
pub record TurnsForever (d : Parts) (wide : Bool) (v half : ℕ) (s : Statement) : Type 0 where
  pub number : ℕ
  pub inner : Box Statement Global
  pub is : IsBare s (Statement-F.Forever number inner)
  pub turns : Turns d wide v half inner.value

-- `begin [#o] u = c; forever #h u = ~u; end`
pub record SetsAndTurns (d : Parts) (wide : Bool) (v offset half : ℕ) (digit : Digit) (s : Statement) : Type 0 where
  pub all : Vec Statement Global
  pub is : IsBare s (Statement-F.Block all)
  pub first : Statement
  pub second : Statement
  pub two : all.items ≡ first ∷ second ∷ []
  pub sets : ((offset ≡ 0) × Sets d v digit first) ⊎ SetsAfter d v offset digit first
  pub turns : TurnsForever d wide v half second

-- a process of this kind, by its number, has a body that passes
pub record HasBody (d : Parts) (i : ℕ) (kind : ProcessKind) (passes : Statement → Type 0) : Type 0 where
  pub process : Process
  pub is : slice_get d.processes i ≡ Some process
  pub kind_is : process.kind ≡ kind
  pub body : passes process.body

-- what may turn a clock that another process sets: an `always`, in version 3 an `initial forever` too
abbrev pub MayTurn : Bool → ProcessKind → Type 0
MayTurn wide kind = (kind ≡ Always) ⊎ (wide ≡ true)

-- a process, by its number, writes a signal, and each of its writes is `u = c`, with one c, which is 0 or 1
pub record SetsAlike (d : Parts) (v : ℕ) (digit : Digit) (j : ℕ) : Type 0 where
  pub known : IsKnown digit
  pub at : Todo
  pub point : IsPoint d j at
  pub writes : WritesNow d at v
  pub now : (k : Todo) → IsPoint d j k → WritesLater d k v → ⊥
  pub gives : (k : Todo) → IsPoint d j k → WritesNow d k v → Gives k (bit_of v) digit

-- what sets a clock that another process turns: an `initial` that is `u = c`; in version 3 what writes no other constant to it. Other statements may
-- stand beside, a test in front: a clock that isn't set stays x
abbrev pub SetsFirst : Parts → Bool → ℕ → Digit → ℕ → Type 0
SetsFirst d false v digit j = HasBody d j Initial (Sets d v digit)
SetsFirst d true v digit j = SetsAlike d v digit j

-- a clock: its writer sets it once and then turns it for ever; or it is an `always` that turns it, and the one other process that writes it sets it
-- at the start. It is set to a digit after so many ticks, and turned after so many others, again and again
pub data IsClock (d : Parts) (c : Claims) (v : ℕ) (digit : Digit) (offset half : ℕ) : Type 0 where
  alone : (i : ℕ) → IsWriter d c v i → HasBody d i Initial (SetsAndTurns d (is_wide c) v offset half digit) → IsClock d c v digit offset half
  two : (i j : ℕ) (kind : ProcessKind) → IsWriter d c v i → MayTurn (is_wide c) kind → HasBody d i kind (TurnsForever d (is_wide c) v half) →
      SetsFirst d (is_wide c) v digit j → (offset ≡ 0) → ((k : ℕ) → Writes d k v → (k ≡ i) ⊎ (k ≡ j)) → IsClock d c v digit offset half
