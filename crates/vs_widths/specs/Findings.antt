-- Sizes and signs of expressions, and why one has none.
use Rattle.std.specs.Prelude.{◌≡◌, ℕ, ◌+◌, ◌*◌, Bool, true, false, ◌&&◌, ◌||◌, max, nat_le, if◌then◌else◌, List, [], Option, Some, None}
use Rattle.vs_design.specs.vs_logic4.specs.declared.digit.Digit.{Digit}
use Rattle.vs_design.specs.vs_logic4.specs.declared.operators.Sizing.{Sizing}
use Rattle.vs_design.specs.vs_logic4.specs.declared.operators.Sizing.TheVariants.{Alike, Shift, Comparison, Logical}
use Rattle.vs_widths.specs.declared.faults.WidthReason.{WidthReason}
use Rattle.vs_widths.specs.declared.faults.WidthReason.TheVariants.{TooWide, Unknown, NotConstant, WrongKind}
use Rattle.vs_widths.specs.declared.faults.WidthFault.{WidthFault}
use Rattle.vs_widths.specs.declared.faults.WidthFault.TheVariants.{Memory, Refused}

-- the size in bits and the sign of an expression, or which faults it has
pub data Finding : Type 0 where
  Has : ℕ → Bool → Finding
  Lacks : (WidthReason → Bool) → Finding

-- whether a fault stands
abbrev pub has_width_fault : WidthReason → Finding → Bool
has_width_fault r (Has width signed) = false
has_width_fault r (Lacks faults) = faults r

-- the fault that a size is above 64 bits (profile)
abbrev pub too_wide : WidthReason → Bool
too_wide TooWide = true
too_wide _ = false

-- the fault that a name isn't declared (clause 12.7)
abbrev pub unknown : WidthReason → Bool
unknown Unknown = true
unknown _ = false

-- the fault that an expression is no constant, or one out of its range (clauses 5.1.14 and 5.2.1)
abbrev pub not_constant : WidthReason → Bool
not_constant NotConstant = true
not_constant _ = false

-- the fault that a name has no value or is no signal of the kind that is wanted, or has other selects than its declaration allows (clauses
-- 5.2, 6.1 and 9.2)
abbrev pub wrong_kind : WidthReason → Bool
wrong_kind WrongKind = true
wrong_kind _ = false

-- what the sizes and signs of two parts give; where one has none, the faults of both
abbrev pub together : (ℕ → Bool → ℕ → Bool → Finding) → Finding → Finding → Finding
together f (Has width signed) (Has size sign) = f width signed size sign
together f (Has width signed) (Lacks others) = Lacks others
together f (Lacks faults) (Has size sign) = Lacks faults
together f (Lacks faults) (Lacks others) = Lacks (λ r. faults r || others r)

-- what the size and sign of one part gives; where it has none, its faults
abbrev pub alone : (ℕ → Bool → Finding) → Finding → Finding
alone f (Has width signed) = f width signed
alone f (Lacks faults) = Lacks faults

-- operands of one context: the larger size, and signed where both are (clauses 5.4.1 and 5.5.1)
abbrev pub alike : ℕ → Bool → ℕ → Bool → Finding
alike width signed size sign = Has (max width size) (signed && sign)

-- the result of an operator of two operands (clauses 5.4.1 and 5.5.1)
abbrev pub linked_shape : Sizing → ℕ → Bool → ℕ → Bool → Finding
linked_shape Alike width signed size sign = alike width signed size sign
linked_shape Shift width signed size sign = Has width signed
linked_shape Comparison width signed size sign = Has 1 false
linked_shape Logical width signed size sign = Has 1 false

-- an operand with one behind it that has a size of its own
abbrev pub second : ℕ → Bool → ℕ → Bool → Finding
second width signed size sign = Has size sign

-- an unsigned size, where it is at most 64 bits (profile)
abbrev pub unsigned : ℕ → Finding
unsigned width = if nat_le width 64 then Has width false else Lacks too_wide

-- parts of a concatenation beside one another: their sum, unsigned (clauses 5.1.14 and 5.5.1)
abbrev pub beside : ℕ → Bool → ℕ → Bool → Finding
beside width signed size sign = unsigned (width + size)

-- a part of this size so many times, where that is known (clause 5.1.14)
abbrev pub repeated : Option ℕ → ℕ → Finding
repeated None width = Lacks not_constant
repeated (Some count) width = unsigned (count * width)

-- what f gives at the size and sign found; nothing where there is none
abbrev pub at_found : Finding → (ℕ → Bool → List Digit) → List Digit
at_found (Has width signed) f = f width signed
at_found (Lacks faults) f = []

-- a fault that stands, or want of memory
abbrev pub Refuses : Finding → WidthFault → Type 0
Refuses found Memory = Unit {0}
Refuses found (Refused r) = has_width_fault r found ≡ true
