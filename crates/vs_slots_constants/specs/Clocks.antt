-- Clocks, by the forms of statements.
use Rattle.std.specs.Prelude.{ℕ, ◌≡◌, ◌==◌, ◌<◌, ◌⊎◌, ◌↔◌, ◌&&◌, Bool, true, false, Option, Some, None, List, [], ◌∷◌, slice_get, if◌then◌else◌}
use Rattle.std.specs.List.{Contains}
use Rattle.vs_design.specs.vs_logic4.specs.declared.digit.Digit.{Digit}
use Rattle.vs_design.specs.vs_logic4.specs.declared.digit.Digit.TheVariants.{Zero, One}
use Rattle.vs_design.specs.declared.design.Process.{Process}
use Rattle.vs_design.specs.declared.design.ProcessKind.{ProcessKind}
use Rattle.vs_design.specs.declared.design.ProcessKind.TheVariants.{Initial}
use Rattle.vs_design.specs.declared.expression.Typed.{Typed}
use Rattle.vs_design.specs.declared.expression.Typed.TheViews.{out-Typed}
use Rattle.vs_design.specs.declared.statement.Statement.{Statement}
use Rattle.vs_design.specs.declared.statement.Statement.TheOpen.{Statement-F}
use Rattle.vs_design.specs.declared.statement.Statement.TheViews.{out-Statement}
use Rattle.vs_design.specs.declared.statement.Target.{Target}
use Rattle.vs_design.specs.Parts.{Parts}
use Rattle.vs_rules.specs.Claims.{Claims, IsWriter, is_wide}
use Rattle.vs_rules.specs.Constants.{bit_of, given, IsWholeTarget, IsTurn, MayTurn, IsBare, Sets, Turns, SetsAfter, TurnsForever, SetsAndTurns, SetsAlike, SetsFirst, HasBody, IsClock}
use Rattle.vs_rules.specs.Paths.{Writes}
use Rattle.vs_slots_constants.specs.Wholes.{whole_parts, turn_layer}

abbrev pub is_one : {A : Type 0} → List A → Bool
is_one (x ∷ []) = true
is_one _ = false

-- whether a statement is `begin` and `end` round one statement, by its outermost layer
abbrev pub is_single : Statement-F Statement → Bool
is_single (Statement-F.Block all) = is_one all.items
is_single _ = false

-- what a statement is without `begin` and `end` round one statement
pub record IsCore (s core : Statement) : Type 0 where
  pub bare : IsBare s (out-Statement core)
  pub end : is_single (out-Statement core) ≡ false

abbrev pub is_it : Option ℕ → ℕ → Bool
is_it None v = false
is_it (Some u) v = u == v

-- a digit, where it is known
abbrev pub known : Option Digit → Option Digit
known (Some Zero) = Some Zero
known (Some One) = Some One
known _ = None

-- the 0 or 1 to which an assignment sets the whole of a signal
abbrev pub setting : Parts → ℕ → Target → Typed → Option Digit
setting d v target value = if is_it (whole_parts d target.parts.items) v then known (given target value (bit_of v)) else None

abbrev pub setting_layer : Parts → ℕ → Statement-F Statement → Option Digit
setting_layer d v (Statement-F.Assign n target value) = setting d v target value
setting_layer d v _ = None

-- whether an assignment is `u = ~u`, or what else turns a clock
abbrev pub turning : Parts → Bool → ℕ → Target → Typed → Bool
turning d wide v target value = is_it (whole_parts d target.parts.items) v && is_it (turn_layer d wide (out-Typed value)) v

abbrev pub turning_layer : Parts → Bool → ℕ → Statement-F Statement → Bool
turning_layer d wide v (Statement-F.Assign n target value) = turning d wide v target value
turning_layer d wide v _ = false

-- a statement, but for `begin` and `end` round it, is `u = ~u`, or what else turns a clock
pub record IsTurning (d : Parts) (wide : Bool) (v : ℕ) (s : Statement) : Type 0 where
  pub number : ℕ
  pub target : Target
  pub value : Typed
  pub is : IsBare s (Statement-F.Assign number target value)
  pub whole : IsWholeTarget d v target
  pub inverse : IsTurn d wide v value

-- a layer is `#h u = ~u`, with h above 0
abbrev pub TurnsLayer : Parts → Bool → ℕ → ℕ → Statement-F Statement → Type 0
TurnsLayer d wide v half (Statement-F.Delay n ticks inner) = (ticks.count ≡ half) × (0 < half) × IsTurning d wide v inner.value
TurnsLayer d wide v half _ = ⊥

-- it is `forever #h u = ~u`
abbrev pub ForeverLayer : Parts → Bool → ℕ → ℕ → Statement-F Statement → Type 0
ForeverLayer d wide v half (Statement-F.Forever n inner) = Turns d wide v half inner.value
ForeverLayer d wide v half _ = ⊥

-- it is `[#o] u = c`
abbrev pub BeginsLayer : Parts → ℕ → ℕ → Digit → Statement-F Statement → Type 0
BeginsLayer d v offset digit (Statement-F.Assign n target value) = (offset ≡ 0) × (setting d v target value ≡ Some digit)
BeginsLayer d v offset digit (Statement-F.Delay n ticks inner) = (ticks.count ≡ offset) × Sets d v digit inner.value
BeginsLayer d v offset digit _ = ⊥

-- a statement is `[#o] u = c`
abbrev pub Begins : Parts → ℕ → ℕ → Digit → Statement → Type 0
Begins d v offset digit s = ((offset ≡ 0) × Sets d v digit s) ⊎ SetsAfter d v offset digit s

-- two statements are `[#o] u = c; forever #h u = ~u;`
abbrev pub ArePair : Parts → Bool → ℕ → ℕ → ℕ → Digit → List Statement → Type 0
ArePair d wide v offset half digit (first ∷ second ∷ []) = Begins d v offset digit first × TurnsForever d wide v half second
ArePair d wide v offset half digit _ = ⊥

abbrev pub PairLayer : Parts → Bool → ℕ → ℕ → ℕ → Digit → Statement-F Statement → Type 0
PairLayer d wide v offset half digit (Statement-F.Block all) = ArePair d wide v offset half digit all.items
PairLayer d wide v offset half digit _ = ⊥

-- the one other number of a list
abbrev pub IsOther : List ℕ → ℕ → ℕ → Type 0
IsOther xs i j = Contains xs j × (j ≡ i → ⊥) × ((k : ℕ) → Contains xs k → (k ≡ i) ⊎ (k ≡ j))

-- where clocks are wide, the digit that each write of the one other process gives a signal, where they all give it the same by `=`
abbrev pub IsSetBy : Parts → Bool → ℕ → ℕ → List ℕ → Option Digit → Type 0
IsSetBy d wide v i writers set = wide ≡ true → (j : ℕ) → IsOther writers i j → (digit : Digit) → (SetsAlike d v digit j ↔ set ≡ Some digit)

-- it is the body of a process, by its number, where there is this process
abbrev pub IsBodyOf : Parts → ℕ → Statement → Type 0
IsBodyOf d i body = (p : Process) → slice_get d.processes i ≡ Some p → p.body ≡ body

-- a process with such a body turns a signal that the one other process that writes it sets at the start
abbrev pub IsTurnedBy : Parts → Bool → ℕ → ℕ → Statement → ℕ → ℕ → Digit → Type 0
IsTurnedBy d wide v i body offset half digit =
    (offset ≡ 0) × TurnsForever d wide v half body
    × ((j : ℕ) × SetsFirst d wide v digit j × ((k : ℕ) → Writes d k v → (k ≡ i) ⊎ (k ≡ j)))

-- an `initial` process with such a body sets a signal and turns it, or where clocks are wide turns it alone
abbrev pub IsBegunBy : Parts → Bool → ℕ → ℕ → Statement → ℕ → ℕ → Digit → Type 0
IsBegunBy d wide v i body offset half digit =
    SetsAndTurns d wide v offset half digit body ⊎ ((wide ≡ true) × IsTurnedBy d wide v i body offset half digit)

-- a clock, by the number of its writer
pub data IsClockBy (d : Parts) (wide : Bool) (v : ℕ) (writer : Option ℕ) (digit : Digit) (offset half : ℕ) : Type 0 where
  alone : (i : ℕ) → writer ≡ Some i → HasBody d i Initial (SetsAndTurns d wide v offset half digit) → IsClockBy d wide v writer digit offset half
  two : (i j : ℕ) (kind : ProcessKind) → writer ≡ Some i → MayTurn wide kind → HasBody d i kind (TurnsForever d wide v half) →
      SetsFirst d wide v digit j → (offset ≡ 0) → ((k : ℕ) → Writes d k v → (k ≡ i) ⊎ (k ≡ j)) → IsClockBy d wide v writer digit offset half

-- a clock is one by the number of the process that is claimed to be its writer
abbrev pub ClocksByWriters : Type 0
ClocksByWriters = (d : Parts) (c : Claims) (v : ℕ) (writer : Option ℕ) → ((i : ℕ) → (IsWriter d c v i ↔ writer ≡ Some i)) →
    (digit : Digit) (offset half : ℕ) → (IsClockBy d (is_wide c) v writer digit offset half ↔ IsClock d c v digit offset half)
