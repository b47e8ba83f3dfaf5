-- When event terms can fire, by the roots of their signals.
use Rattle.std.specs.Prelude.{ℕ, ◌≡◌, ◌↔◌, ◌⊎◌, ◌*◌, ◌%◌, true, Option, Some, List, slice_get}
use Rattle.vs_design.specs.vs_logic4.specs.declared.digit.Digit.{Digit}
use Rattle.vs_design.specs.vs_logic4.specs.declared.edge.Edge.{Edge}
use Rattle.vs_design.specs.declared.design.Process.{Process}
use Rattle.vs_design.specs.declared.statement.EventTerm.{EventTerm}
use Rattle.vs_design.specs.Parts.{Parts}
use Rattle.vs_process.specs.Places.{Todo}
use Rattle.vs_process.specs.Stops.{Stop, IsText}
use Rattle.vs_maps.specs.vs_rules.specs.Claims.{Claims, IsDelay, IsWriter, IsRootOf, is_wide}
use Rattle.vs_maps.specs.vs_rules.specs.Constants.{bit_of, Gives}
use Rattle.vs_maps.specs.vs_rules.specs.Copies.{SeenAs}
use Rattle.vs_maps.specs.vs_rules.specs.Paths.{IsPoint, WritesAny}
use Rattle.vs_maps.specs.vs_rules.specs.Slots.{counts, phase, Fires, HasSlot, InPhase}
use Rattle.vs_slots_constants.specs.declared.clocks.Clock.{Clock}
use Rattle.vs_slots_constants.specs.Givings.{given_here}
use Rattle.vs_claims.specs.vs_maps.specs.Reaches.{Chart, IsPlace}
use Rattle.vs_claims.specs.vs_maps.specs.Ranges.{HasSignal, now_at, later_at, statement_at}
use Rattle.vs_slots.specs.Runs.{HasRun}

-- by a process, of kind delay, an edge of a root can fire at a residue: the process, the root's writer, writes it there, by no constant that doesn't
-- count for the edge, and in phase where the root is a clock
pub record RootFiresBy (d : Parts) (c : Claims) (root : ℕ) (edge : Edge) (writer r : ℕ) : Type 0 where
  pub at : Todo
  pub is_writer : IsWriter d c root writer
  pub kind : IsDelay d c writer
  pub point : IsPoint d writer at
  pub writes : WritesAny d at root
  pub runs : HasSlot d c writer at r
  pub counted : (digit : Digit) → Gives at (bit_of root) digit → counts edge digit ≡ true
  pub in_phase : InPhase d c root edge r

-- an edge of a root can fire at a residue
abbrev pub RootFires : Parts → Claims → ℕ → Edge → ℕ → Type 0
RootFires d c root edge r = (writer : ℕ) × RootFiresBy d c root edge writer r

-- a term can fire at a residue: the edge that a root of its signal then has can
abbrev pub TermFires : Parts → Claims → EventTerm → ℕ → Type 0
TermFires d c t r = (root : ℕ) × IsRootOf d c root t.range.signal × ((edge : Edge) × SeenAs d (is_wide c) t edge × RootFires d c root edge r)

-- ---- by places

-- the statement at a place writes a signal
abbrev pub WritesAt : Chart → ℕ → ℕ → Type 0
WritesAt t p v = HasSignal (now_at t p) v ⊎ HasSignal (later_at t p) v

-- it gives the signal no constant that doesn't count for an edge
abbrev pub CountsAt : Chart → ℕ → ℕ → Edge → Type 0
CountsAt t p v edge = (digit : Digit) → given_here (statement_at t p) (bit_of v) ≡ Some digit → counts edge digit ≡ true

-- at a place of its writer an edge of a root can fire
pub record FiresAt (d : Parts) (c : Claims) (root : ℕ) (edge : Edge) (i : ℕ) (t : Chart) (p r : ℕ) : Type 0 where
  pub is_place : IsPlace t p
  pub writes : WritesAt t p root
  pub counted : CountsAt t p root edge
  pub runs : HasRun d c i t p r
  pub in_phase : InPhase d c root edge r

-- what is known of a clock allows an edge to fire at a residue
abbrev pub InPhaseOf : Option Clock → Edge → ℕ → ℕ → Type 0
InPhaseOf clock edge modulus r = (digit : Digit) (offset half : ℕ) →
    clock ≡ Some (record { digit = digit; offset = offset; half = half }) → modulus % (2 * half) ≡ 0 →
    r % (2 * half) ≡ phase edge digit offset half % (2 * half)

pub record FiringIsExact : Type 0 where
  -- terms fire by their roots
  pub terms : (d : Parts) (c : Claims) (t : EventTerm) (r : ℕ) → (TermFires d c t r ↔ Fires d c t r)
  -- roots fire where a place of their writer does
  pub roots : (d : Parts) (c : Claims) (root : ℕ) (edge : Edge) (i : ℕ) (q : Process) (stops : List Stop) (start r : ℕ) →
      slice_get d.processes i ≡ Some q → IsText q.body stops start → IsWriter d c root i → IsDelay d c i →
      (((p : ℕ) × FiresAt d c root edge i (record { stops = stops; start = start }) p r) ↔ RootFiresBy d c root edge i r)
