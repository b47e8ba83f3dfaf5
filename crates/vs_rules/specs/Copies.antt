-- Nets that copy signals, and the edges at which a root is where an event term's edge comes.
use Rattle.std.specs.Prelude.{ℕ, ◌≡◌, Bool, true, false, not, None, Some, slice_get}
use Rattle.vs_design.specs.vs_logic4.specs.declared.edge.Edge.{Edge}
use Rattle.vs_design.specs.vs_logic4.specs.declared.edge.Edge.TheVariants.{Any, Posedge, Negedge}
use Rattle.vs_design.specs.declared.design.Assign.{Assign}
use Rattle.vs_design.specs.declared.expression.Typed.{Typed}
use Rattle.vs_design.specs.declared.signal.Signal.{Signal}
use Rattle.vs_design.specs.declared.statement.EventTerm.{EventTerm}
use Rattle.vs_design.specs.Parts.{Parts}
use Rattle.vs_design.specs.Uses.{writes}
use Rattle.vs_rules.specs.Claims.{HasKind}
use Rattle.vs_rules.specs.Constants.{IsWhole, Inverts, IsWholeTarget}
use Rattle.vs_rules.specs.Paths.{ListsSignal}

-- it has one bit, and is no array: an array of one word of one bit isn't such a signal
abbrev pub IsOneBit : Parts → ℕ → Type 0
IsOneBit d v = (s : Signal) × (slice_get d.signals v ≡ Some s) × (s.width ≡ 1) × (s.count ≡ 1) × (s.words ≡ None)

-- a net that one continuous assignment alone drives, the whole of it, with an expression that is so of a signal of the same size
pub record IsCopyBy (d : Parts) (is_of : ℕ → Typed → Type 0) (v u : ℕ) : Type 0 where
  pub is_net : HasKind false d v
  pub number : ℕ
  pub assign : Assign
  pub is : slice_get d.assigns number ≡ Some assign
  pub whole : IsWholeTarget d v assign.target
  pub copies : is_of u assign.source
  pub same : (s t : Signal) → slice_get d.signals v ≡ Some s → slice_get d.signals u ≡ Some t → s.width ≡ t.width
  pub alone : (j : ℕ) (a : Assign) → slice_get d.assigns j ≡ Some a → ListsSignal d (writes a.target) v → j ≡ number

-- a copy of the whole of the signal
abbrev pub IsCopy : Parts → ℕ → ℕ → Type 0
IsCopy d v u = IsCopyBy d (IsWhole d) v u

-- an inverse copy: `~u` or `!u`
abbrev pub IsInverseCopy : Parts → ℕ → ℕ → Type 0
IsInverseCopy d v u = IsCopyBy d (Inverts d) v u

-- a signal is its root, or a copy of a signal of which this holds with the same root, or in version 3 an inverse copy of one; all have one bit
pub data CopiesRoot (d : Parts) (wide : Bool) (root : ℕ) : ℕ → Type 0 where
  itself : IsOneBit d root → CopiesRoot d wide root root
  copy : (v u : ℕ) → IsOneBit d v → IsCopy d v u → CopiesRoot d wide root u → CopiesRoot d wide root v
  inverse : (v u : ℕ) → wide ≡ true → IsOneBit d v → IsInverseCopy d v u → CopiesRoot d wide root u → CopiesRoot d wide root v

-- whether an odd number of these copies are inverse
abbrev pub is_odd : {d : Parts} {wide : Bool} {root v : ℕ} → CopiesRoot d wide root v → Bool
is_odd (itself one) = false
is_odd (copy v u one c rest) = is_odd rest
is_odd (inverse v u e one c rest) = not (is_odd rest)

-- a signal shows a variable inverted
pub record IsInverted (d : Parts) (wide : Bool) (v : ℕ) : Type 0 where
  pub root : ℕ
  pub variable : HasKind true d root
  pub copies : CopiesRoot d wide root v
  pub odd : is_odd copies ≡ true

-- the edge of a signal where its inverse has an edge
abbrev pub opposite : Edge → Edge
opposite Any = Any
opposite Posedge = Negedge
opposite Negedge = Posedge

-- where the edge of an event term comes, the root of its signal has this edge: the opposite one where the signal shows the root inverted
pub record SeenAs (d : Parts) (wide : Bool) (t : EventTerm) (edge : Edge) : Type 0 where
  pub plain : (IsInverted d wide t.range.signal → ⊥) → edge ≡ t.edge
  pub inverse : IsInverted d wide t.range.signal → edge ≡ opposite t.edge
