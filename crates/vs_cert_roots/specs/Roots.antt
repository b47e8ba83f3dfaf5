-- Roots, by the places of maps.
use Rattle.std.specs.Prelude.{ℕ, ◌≡◌, ◌↔◌, Bool, true, false, Option, Some, List, slice_get}
use Rattle.vs_rules.specs.vs_certificate.specs.declared.members.SignalMode.{SignalMode}
use Rattle.vs_rules.specs.vs_certificate.specs.declared.members.SignalMode.TheVariants as modes
use Rattle.vs_design.specs.declared.design.Process.{Process}
use Rattle.vs_design.specs.Parts.{Parts}
use Rattle.vs_process.specs.Places.{Todo}
use Rattle.vs_process.specs.Stops.{Stop, IsText}
use Rattle.vs_rules.specs.Claims.{Claims, IsDelay, IsWriter, is_wide}
use Rattle.vs_rules.specs.Paths.{IsPoint, IsHot, WritesAny}
use Rattle.vs_rules.specs.Rules.{HasWriter, IsSoundRoot}
use Rattle.vs_rules.specs.Copies.{CopiesRoot}
use Rattle.vs_rules_of_signals.specs.Places.{NeverHotIn}

-- a process has no such point
abbrev pub NeverHot : Parts → Bool → ℕ → ℕ → Type 0
NeverHot d wide i v = (k : Todo) → IsPoint d i k → WritesAny d k v → IsHot d wide i v k → ⊥

abbrev pub RootsByPlaces : Type 0
RootsByPlaces = (d : Parts) (wide : Bool) (i : ℕ) (q : Process) (stops : List Stop) (start v : ℕ) → slice_get d.processes i ≡ Some q →
    IsText q.body stops start → (NeverHotIn wide (record { stops = stops; start = start }) v ↔ NeverHot d wide i v)

-- a signal has a writer of kind delay, and its writer writes it nowhere where it is hot
pub record IsSoundlyWritten (d : Parts) (c : Claims) (root : ℕ) : Type 0 where
  pub writer : HasWriter d c root (IsDelay d c)
  pub once : (i : ℕ) → IsWriter d c root i → NeverHot d (is_wide c) i root

-- a signal copies a root (in version 3 the root's inverse too), and the root is sound
abbrev pub IsRight : Parts → Claims → ℕ → ℕ → Type 0
IsRight d c v root = CopiesRoot d (is_wide c) root v × IsSoundRoot d c root

abbrev pub is_blocking_mode : Option SignalMode → Bool
is_blocking_mode (Some modes.Blocking) = true
is_blocking_mode _ = false
