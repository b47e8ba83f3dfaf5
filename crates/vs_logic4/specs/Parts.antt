-- Parts of a vector, and vectors joined.
use Rattle.std.specs.Prelude.{ℕ, zero, suc, ℤ, pos, negsuc, ◌+ℤ◌, neg_ℤ, List, [], ◌∷◌, ◌++◌, slice_index_or}
use Rattle.vs_logic4.specs.declared.digit.Digit.{Digit}
use Rattle.vs_logic4.specs.declared.digit.Digit.TheVariants.{X}

-- the digit at a place of a vector, or another where the place is out of range (clause 5.2.1)
abbrev pub digit_at : ℤ → List Digit → Digit → Digit
digit_at (pos place) ds other = slice_index_or ds place other
digit_at (negsuc _) ds other = other

-- a part of a vector, from a place on: x where it is out of range (clause 5.2.1)
abbrev pub selected : ℤ → ℕ → List Digit → List Digit
selected low zero ds = []
selected low (suc width) ds = digit_at low ds X ∷ selected (low +ℤ pos 1) width ds

-- the digits of a vector, whose first is at a place of a part, replaced by those of the part where it has one
abbrev pub replaced_from : ℤ → List Digit → List Digit → List Digit
replaced_from place part [] = []
replaced_from place part (d ∷ ds) = digit_at place part d ∷ replaced_from (place +ℤ pos 1) part ds

-- a vector with a part put in from a place on: nothing is written out of range (clause 5.2.1)
abbrev pub with_part : ℤ → List Digit → List Digit → List Digit
with_part low part ds = replaced_from (neg_ℤ low) part ds

-- `{high, low}` (clause 5.1.14)
abbrev pub concatenation : List Digit → List Digit → List Digit
concatenation high low = low ++ high

-- `{count{ds}}` (clause 5.1.14)
abbrev pub replication : ℕ → List Digit → List Digit
replication zero ds = []
replication (suc count) ds = ds ++ replication count ds
