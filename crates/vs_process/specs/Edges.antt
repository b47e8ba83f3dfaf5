-- The signals that event controls wait for, and where their values come from.
use Rattle.std.specs.Prelude.{ℕ, zero, suc, ◌≡◌, Bool, true, false, Option, Some, List, [], ◌∷◌, map, option_map, slice_get, if◌then◌else◌}
use Rattle.vs_design.specs.vs_logic4.specs.declared.digit.Digit.{Digit}
use Rattle.vs_design.specs.vs_logic4.specs.declared.digit.Digit.TheVariants.{X}
use Rattle.vs_design.specs.vs_logic4.specs.Tables.{not_digit}
use Rattle.vs_design.specs.declared.design.Assign.{Assign}
use Rattle.vs_design.specs.declared.design.Process.{Process}
use Rattle.vs_design.specs.declared.range.BitRange.{BitRange}
use Rattle.vs_design.specs.Parts.{Parts}
use Rattle.vs_design.specs.Statements.{listens}
use Rattle.vs_design.specs.Stores.{Store, put, is_driven, start_store}
use Rattle.vs_design.specs.Uses.{reads, writes_signal}
use Rattle.vs_process.specs.Steps.{assignment}

-- what a signal of one bit holds
abbrev pub one_bit : Digit → List (List Digit)
one_bit digit = (digit ∷ []) ∷ []

-- it is a signal of one bit, with the value x before the first step
abbrev pub IsBit : Parts → ℕ → Type 0
IsBit d v = slice_get (start_store d) v ≡ Some (one_bit X)

-- a digit behind so many inverters: x and z behind one are x
abbrev pub inverted : ℕ → Digit → Digit
inverted zero z = z
inverted (suc count) z = not_digit (inverted count z)

-- what a signal holds that has the value of another one, behind so many inverters
abbrev pub shown : ℕ → Option (List (List Digit)) → Option (List (List Digit))
shown count content = option_map (map (map (inverted count))) content

-- one more, where there is one
abbrev pub one_more : Bool → ℕ → ℕ
one_more inverts count = if inverts then suc count else count

-- one continuous assignment copies the signal `m` whole, or its inverse, to the net `n`, which nothing else drives
pub record IsLink (d : Parts) (m n : ℕ) : Type 0 where
  pub number : ℕ
  pub assign : Assign
  pub is : slice_get d.assigns number ≡ Some assign
  -- it reads that signal, and nothing else
  pub range : BitRange
  pub reads : reads assign.source ≡ range ∷ []
  pub of_source : range.signal ≡ m
  -- it writes that net, and nothing else; no other one writes it
  pub writes : writes_signal assign.target n ≡ true
  pub only : (v : ℕ) → writes_signal assign.target v ≡ true → v ≡ n
  pub alone : (j : ℕ) (a : Assign) → slice_get d.assigns j ≡ Some a → writes_signal a.target n ≡ true → j ≡ number
  -- what it makes of the net is what the signal holds, or its inverse
  pub inverts : Bool
  pub copies : (store : Store) (time : ℕ) (y z : Digit) → slice_get store m ≡ Some (one_bit z) → slice_get store n ≡ Some (one_bit y) →
      slice_get (put store (assignment assign.target assign.source store time)) n ≡ Some (one_bit (inverted (one_more inverts zero) z))

-- a signal has the value of a root, or its inverse: it is the root, a variable of one bit, or a net of one bit to which such a signal is copied
pub data Copies (d : Parts) (root : ℕ) : ℕ → Type 0 where
  itself : IsBit d root → is_driven d.assigns root ≡ false → Copies d root root
  through : (m n : ℕ) → Copies d root m → IsLink d m n → IsBit d n → Copies d root n

-- how many of the copies between a root and a signal are inverse
abbrev pub inverses : {d : Parts} {root v : ℕ} → Copies d root v → ℕ
inverses (itself bit undriven) = zero
inverses (through m n before link bit) = one_more link.inverts (inverses before)

-- an event control of some process that is no combinational block has a term of the signal
pub record IsHeard (d : Parts) (blocks : ℕ → Bool) (v : ℕ) : Type 0 where
  pub number : ℕ
  pub other : blocks number ≡ false
  pub process : Process
  pub is : slice_get d.processes number ≡ Some process
  pub hears : listens process.body v ≡ true

-- a signal from which the value of one that is heard comes
pub record IsRoot (d : Parts) (blocks : ℕ → Bool) (root : ℕ) : Type 0 where
  pub signal : ℕ
  pub heard : IsHeard d blocks signal
  pub copies : Copies d root signal
