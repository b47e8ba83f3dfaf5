-- Statements that are sure to change a bit of a variable that a control names.
use Rattle.std.specs.Prelude.{ℕ, ◌≡◌, ◌<◌, ◌⊎◌, ◌↔◌, false, Option, Some, None, List}
use Rattle.std.specs.List.{Contains}
use Rattle.vs_design.specs.vs_logic4.specs.declared.digit.Digit.{Digit}
use Rattle.vs_design.specs.declared.expression.Typed.{Typed}
use Rattle.vs_design.specs.declared.range.BitRange.{BitRange}
use Rattle.vs_design.specs.declared.statement.Aim.{Aim}
use Rattle.vs_design.specs.declared.statement.Aim.TheVariants.{Fixed, Chosen}
use Rattle.vs_design.specs.declared.statement.Statement.{Statement}
use Rattle.vs_design.specs.declared.statement.Statement.TheOpen.{Statement-F}
use Rattle.vs_design.specs.declared.statement.Statement.TheViews.{out-Statement}
use Rattle.vs_design.specs.declared.statement.Target.{Target}
use Rattle.vs_design.specs.Parts.{Parts}
use Rattle.vs_rules.specs.Paths.{Bit, IsBit, Has}
use Rattle.vs_rules.specs.Constants.{GivesDigit, IsKnown, given}
use Rattle.vs_rules.specs.Drivers.{Names}
use Rattle.vs_rules.specs.Blocks.{CopiesWhole}
use Rattle.vs_drivers.specs.vs_maps.specs.Reaches.{Chart, InSlot0}
use Rattle.vs_drivers.specs.vs_maps.specs.Ranges.{HasSignal, later_at, now_at, statement_at}
use Rattle.vs_rules_of_starts.specs.Missing.{IsSure}

-- the bit of a range's signal at the word and place of a bit
abbrev pub bit_at : BitRange → Bit → Bit
bit_at r b = record { signal = r.signal; word = b.word; place = b.place }

-- one of some ranges has the bit of the variable, or that of a copy
pub record IsNamed (d : Parts) (named : List BitRange) (g : ℕ) (b : Bit) : Type 0 where
  pub of : b.signal ≡ g
  pub is : IsBit d b
  pub range : BitRange
  pub listed : Contains named range
  pub has : Has range (bit_at range b)

-- an assignment of a constant gives such a bit a known digit
pub record GivesNamed (d : Parts) (named : List BitRange) (g : ℕ) (target : Target) (value : Typed) : Type 0 where
  pub bit : Bit
  pub is_named : IsNamed d named g bit
  pub digit : Digit
  pub known : IsKnown digit
  pub gives : GivesDigit target value bit digit

-- a range has the bit of its own signal at the word and place of this one
abbrev pub HasAt : BitRange → Bit → Type 0
HasAt r b = Has r (bit_at r b)

-- one of some ranges has
abbrev pub AnyHas : List BitRange → Bit → Type 0
AnyHas named b = (r : BitRange) × Contains named r × HasAt r b

-- a digit is there and known
abbrev pub IsKnownOne : Option Digit → Type 0
IsKnownOne digit = (x : Digit) × (digit ≡ Some x) × IsKnown x

-- an assignment of a constant gives a bit that is named a known digit
abbrev pub GivesBit : Parts → List BitRange → Target → Typed → Bit → Type 0
GivesBit d named target value b = IsBit d b × AnyHas named b × IsKnownOne (given target value b)

-- it gives one of the lowest bits of a word such a digit
abbrev pub GivesInWord : Parts → List BitRange → Target → Typed → ℕ → ℕ → ℕ → Type 0
GivesInWord d named target value g word width =
    (n : ℕ) × (n < width) × GivesBit d named target value (record { signal = g; word = word; place = n })

-- a place of a target is constant bits of the variable, and the assignment gives one of the lowest bits of their word such a digit
abbrev pub GivesAim : Parts → List BitRange → Target → Typed → ℕ → ℕ → Aim → Type 0
GivesAim d named target value g width (Fixed s) = (s.signal ≡ g) × GivesInWord d named target value g s.word width
GivesAim d named target value g width (Chosen s word low) = ⊥

-- a statement, by its outermost layer, gives such a bit a known digit, by `<=` without delay
abbrev pub BeginsLayer : Parts → List BitRange → ℕ → Statement-F Statement → Type 0
BeginsLayer d named g (Statement-F.Later n ticks target value) = (ticks.count ≡ 0) × GivesNamed d named g target value
BeginsLayer d named g _ = ⊥

-- a statement that may be there does
abbrev pub BeginsBy : Parts → List BitRange → ℕ → Option Statement → Type 0
BeginsBy d named g None = ⊥
BeginsBy d named g (Some s) = BeginsLayer d named g (out-Statement s)

-- at a place
abbrev pub BeginsAt : Parts → List BitRange → ℕ → Chart → ℕ → Type 0
BeginsAt d named g t p = BeginsBy d named g (statement_at t p)

-- the statement at a place writes the signal, by `=` or by `<=`
abbrev pub WritesAt : Chart → ℕ → ℕ → Type 0
WritesAt t g p = HasSignal (now_at t p) g ⊎ HasSignal (later_at t p) g

-- in the first slot each write of the variable is such a one, and one is sure to be made
pub record StartsSurely (d : Parts) (named : List BitRange) (g : ℕ) (t : Chart) : Type 0 where
  pub only : (p : ℕ) → InSlot0 false t p → WritesAt t g p → BeginsAt d named g t p
  pub sure : IsSure t (BeginsAt d named g t)

-- these are the ranges of the control of a block that are of the variable, or of a copy of it
abbrev pub AreNamed : Parts → ℕ → ℕ → List BitRange → Type 0
AreNamed d i g named = (r : BitRange) → (Contains named r ↔ (Names d i r × CopiesWhole d g r.signal))
