-- Constants and their numbers.
use Rattle.std.specs.Prelude.{ℕ, zero, suc, ◌^◌, ℤ, pos, ◌-ℤ◌, nat_lt, Bool, true, false, ◌&&◌, if◌then◌else◌, List, [], ◌∷◌, Option, Some, None, length}
use Rattle.vs_design.specs.vs_logic4.specs.declared.digit.Digit.{Digit}
use Rattle.vs_design.specs.vs_logic4.specs.declared.digit.Digit.TheVariants.{One}
use Rattle.vs_design.specs.vs_logic4.specs.Vectors.{same_digit, top_digit}
use Rattle.vs_design.specs.vs_logic4.specs.Arithmetic.{known_number, known_signed_number}
use Rattle.vs_design.specs.Selects.{index_number}
use Rattle.vs_design.specs.declared.range.BitRange.{BitRange}
use Rattle.vs_design.specs.declared.signal.Bounds.{Bounds}
use Rattle.vs_widths.specs.declared.constants.Const.{Const}
use Rattle.vs_widths.specs.Findings.{Finding, Has, Lacks, not_constant, alone}
use Rattle.vs_widths.specs.Meants.{Meant, own}

-- a size and sign, where nothing is read
abbrev pub where_none : List BitRange → ℕ → Bool → Finding
where_none [] width signed = Has width signed
where_none (r ∷ rs) width signed = Lacks not_constant

-- the size and sign of an expression, where it names no signal (clause 5.1.14)
abbrev pub constant_finding : Meant → Finding
constant_finding m = alone (where_none m.reads) m.finding

-- the number of a value, where it is known and not negative (clause 3.5.1)
abbrev pub natural_number : Bool → List Digit → Option ℕ
natural_number signed digits = if signed && same_digit (top_digit digits) One then None else known_number digits

-- a number below 2^63
abbrev pub below_half : Option ℕ → Option ℤ
below_half None = None
below_half (Some n) = if nat_lt n (2 ^ 63) then Some (pos n) else None

-- the whole number of a value, where it is known and 64 bits with a sign hold it (clause 3.5.1; the bound: profile)
abbrev pub whole_number : Bool → List Digit → Option ℤ
whole_number true digits = known_signed_number digits
whole_number false digits = below_half (known_number digits)

-- the number of digits by a sign that was found
abbrev pub natural_at : Finding → List Digit → Option ℕ
natural_at (Has width signed) digits = natural_number signed digits
natural_at (Lacks faults) digits = None

-- the number of an index by its own sign, where no digit of it is x or z
abbrev pub index_at : Finding → List Digit → Option ℤ
index_at (Has width signed) digits = index_number signed digits
index_at (Lacks faults) digits = None

-- the whole number of digits by a sign that was found
abbrev pub whole_at : Finding → List Digit → Option ℤ
whole_at (Has width signed) digits = whole_number signed digits
whole_at (Lacks faults) digits = None

-- the number of a constant by its own size and sign, where it is known and not negative (clause 3.5.1)
abbrev pub natural_of : Meant → Option ℕ
natural_of m = natural_at m.finding (own m [] 0)

-- the whole number of a constant by its own size and sign, however large, where no digit of it is x or z (clause 5.2.1)
abbrev pub whole_of : Meant → Option ℤ
whole_of m = index_at m.finding (own m [] 0)

-- a number from 1 on
abbrev pub positive : Option ℕ → Option ℕ
positive None = None
positive (Some zero) = None
positive (Some (suc n)) = Some (suc n)

-- a size and sign, where a number is known
abbrev pub where_some : {A : Type 0} → Option A → ℕ → Bool → Finding
where_some None width signed = Lacks not_constant
where_some (Some n) width signed = Has width signed

-- the size and sign of a count, which is a constant from 1 on (clauses 5.1.14 and 5.2.1; from 1: profile)
abbrev pub count_finding : Meant → Finding
count_finding m = alone (where_some (positive (natural_of m))) (constant_finding m)

-- the size and sign of a constant that has a whole number (clause 5.2.1)
abbrev pub whole_finding : Meant → Finding
whole_finding m = alone (where_some (whole_of m)) (constant_finding m)

-- ---- bits of a constant

-- the range of so many bits that have no other: from one less than their number down to 0 (profile)
abbrev pub plain_range : ℕ → Bounds
plain_range size = record { left = pos size -ℤ pos 1; right = pos 0 }

-- the range by which so many bits of a constant are selected: that of its declaration, where it has one (clauses 4.10 and 5.2.1)
abbrev pub selected_by : Option Bounds → ℕ → Bounds
selected_by None size = plain_range size
selected_by (Some b) size = b

-- digits that are a signed number or an unsigned one, with the range of a declaration where there is one
abbrev pub constant_in : Option Bounds → Bool → List Digit → Const
constant_in range signed digits = record { value = digits; signed = signed; bits = selected_by range (length digits) }
