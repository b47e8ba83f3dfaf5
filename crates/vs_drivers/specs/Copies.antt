-- Which net copies which signal, or its inverse.
use Rattle.std.specs.Prelude.{ℕ, ◌≡◌, ◌<◌, ◌⊎◌, ◌↔◌, Bool, true, false, Option, Some, None, List, [], ◌∷◌, ◌++◌, length, slice_get, if◌then◌else◌}
use Rattle.std.specs.List.{Contains}
use Rattle.vs_design.specs.declared.design.Assign.{Assign}
use Rattle.vs_design.specs.declared.expression.Typed.{Typed}
use Rattle.vs_design.specs.declared.signal.Signal.{Signal}
use Rattle.vs_design.specs.Parts.{Parts}
use Rattle.vs_design.specs.Uses.{writes}
use Rattle.vs_slots_constants.specs.vs_rules.specs.Constants.{IsWhole, Inverts, IsWholeTarget}
use Rattle.vs_slots_constants.specs.vs_rules.specs.Copies.{IsCopyBy, IsCopy, IsInverseCopy}
use Rattle.vs_maps.specs.Ranges.{HasSignal}

-- it holds of a number, and of no other
abbrev pub IsOnly : (ℕ → Type 0) → ℕ → Type 0
IsOnly holds x = holds x × ((y : ℕ) → holds y → y ≡ x)

-- a continuous assignment names the signal on its left side
abbrev pub NamesTarget : Parts → ℕ → ℕ → Type 0
NamesTarget d j v = (a : Assign) × (slice_get d.assigns j ≡ Some a) × HasSignal (writes a.target) v

-- these are the continuous assignments that do
abbrev pub AreDrivers : Parts → ℕ → List ℕ → Type 0
AreDrivers d v drivers = (j : ℕ) → (Contains drivers j ↔ ((j < length d.assigns) × NamesTarget d j v))

-- an expression is the whole of a signal, or the inverse of that
abbrev pub IsOf : Parts → Bool → ℕ → Typed → Type 0
IsOf d false v e = IsWhole d v e
IsOf d true v e = Inverts d v e

-- a continuous assignment copies a whole signal into the whole of another one, or its inverse
abbrev pub IsCopied : Parts → Bool → ℕ → ℕ → ℕ → Type 0
IsCopied d inverse j v u = (a : Assign) × (slice_get d.assigns j ≡ Some a) × IsWholeTarget d v a.target × IsOf d inverse u a.source

-- a net copies a signal, or its inverse
abbrev pub IsCopyOf : Parts → Bool → ℕ → ℕ → Type 0
IsCopyOf d inverse v u = IsCopyBy d (IsOf d inverse) v u

-- two signals have one size, where both are there
abbrev pub HaveSameWidth : Parts → ℕ → ℕ → Type 0
HaveSameWidth d v u = (s t : Signal) → slice_get d.signals v ≡ Some s → slice_get d.signals u ≡ Some t → s.width ≡ t.width

-- the signal that the net of a number copies, of a list for all signals
abbrev pub known : Option (Option ℕ) → Option ℕ
known None = None
known (Some source) = source

abbrev pub source_in : List (Option ℕ) → ℕ → Option ℕ
source_in sources v = known (slice_get sources v)

-- these are the signals that nets copy, or whose inverses they do
abbrev pub AreSources : Parts → Bool → List (Option ℕ) → Type 0
AreSources d inverse sources = (v u : ℕ) → (IsCopyOf d inverse v u ↔ source_in sources v ≡ Some u)

-- a signal as a list
abbrev pub ends_of : Option ℕ → List ℕ
ends_of None = []
ends_of (Some u) = u ∷ []

-- the signal that a net copies, and the one whose inverse it does
abbrev pub links_of : List (Option ℕ) → List (Option ℕ) → ℕ → List ℕ
links_of sources inverses v = ends_of (source_in sources v) ++ ends_of (source_in inverses v)

-- the inverse sources that count: all or none
abbrev pub counted : Bool → List (Option ℕ) → List (Option ℕ)
counted wide inverses = if wide then inverses else []

-- a net copies a signal, or where inverses count its inverse
abbrev pub IsLinked : Parts → Bool → ℕ → ℕ → Type 0
IsLinked d wide v u = IsCopy d v u ⊎ ((wide ≡ true) × IsInverseCopy d v u)

-- a signal is another one, or a net that is so linked to a signal of which this holds
pub data Leads (d : Parts) (wide : Bool) (g : ℕ) : ℕ → Type 0 where
  here : Leads d wide g g
  on : (v u : ℕ) → IsLinked d wide v u → Leads d wide g u → Leads d wide g v
