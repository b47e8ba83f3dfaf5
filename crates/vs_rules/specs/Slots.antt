-- Run slots, write slots and firing slots: residues of times above 0.
use Rattle.std.specs.Prelude.{ℕ, ◌+◌, ◌*◌, ◌%◌, ◌≡◌, ◌⊎◌, Bool, true, false, Option, Some, None, List}
use Rattle.std.specs.List.{Contains}
use Rattle.vs_design.specs.vs_logic4.specs.declared.digit.Digit.{Digit}
use Rattle.vs_design.specs.vs_logic4.specs.declared.digit.Digit.TheVariants.{Zero, One}
use Rattle.vs_design.specs.vs_logic4.specs.declared.edge.Edge.{Edge}
use Rattle.vs_design.specs.vs_logic4.specs.declared.edge.Edge.TheVariants.{Posedge, Negedge}
use Rattle.vs_design.specs.declared.statement.EventTerm.{EventTerm}
use Rattle.vs_design.specs.Parts.{Parts}
use Rattle.vs_process.specs.Places.{Todo}
use Rattle.vs_process.specs.Steps.{Next, on, after, wait}
use Rattle.vs_rules.specs.Controls.{controls_of, list_of}
use Rattle.vs_rules.specs.Claims.{Claims, Kind, block, edges, delays, mixed, kind_of, HasLists, IsWriter, IsRootOf, is_wide}
use Rattle.vs_rules.specs.Paths.{IsPoint, WritesNow, WritesAny, HasTerm, RunsFrom}
use Rattle.vs_rules.specs.Constants.{bit_of, Gives, IsClock}
use Rattle.vs_rules.specs.Copies.{SeenAs}

-- ---- of a process of kind delay

-- a delay control of a process can end at a residue: its list has it, the lists standing in the order of the controls
abbrev pub DelayEnds : Parts → ℕ → List (List ℕ) → Next → ℕ → Type 0
DelayEnds d i lists (on l) r = ⊥
DelayEnds d i lists (after number ticks l) r = Contains (list_of (controls_of d i) lists number) r
DelayEnds d i lists (wait number terms l) r = ⊥

-- a point has the run slot, of lists of the delay controls
abbrev pub RunsByDelays : Parts → Bool → ℕ → List (List ℕ) → Todo → ℕ → Type 0
RunsByDelays d wide i lists k r = RunsFrom d wide i (DelayEnds d i lists) k r

-- ---- firing slots

-- whether the write of a constant counts for an edge: that of 0 for `negedge` alone, that of 1 for `posedge` alone, that of x or z for both
abbrev pub counts : Edge → Digit → Bool
counts Posedge Zero = false
counts Negedge One = false
counts _ _ = true

-- the residue, by twice a clock's half period, at which an edge of a clock fires that is set to a digit after so many ticks
abbrev pub phase : Edge → Digit → ℕ → ℕ → ℕ
phase Posedge One offset half = offset
phase Negedge Zero offset half = offset
phase _ _ offset half = offset + half

-- where twice a clock's half period divides the modulus, an edge fires at one residue of it alone
abbrev pub InPhase : Parts → Claims → ℕ → Edge → ℕ → Type 0
InPhase d c root edge r =
    (digit : Digit) (offset half : ℕ) → IsClock d c root digit offset half → c.modulus % (2 * half) ≡ 0 →
    r % (2 * half) ≡ phase edge digit offset half % (2 * half)

-- an event term can fire at a residue: the writer of its signal's root, of kind delay, writes the root there, by no constant that doesn't count for
-- the edge that the root then has, and in phase where the root is a clock
pub record Fires (d : Parts) (c : Claims) (t : EventTerm) (r : ℕ) : Type 0 where
  pub root : ℕ
  pub writer : ℕ
  pub lists : List (List ℕ)
  pub at : Todo
  pub is_root : IsRootOf d c root t.range.signal
  pub is_writer : IsWriter d c root writer
  pub kind : HasLists d c writer lists
  pub point : IsPoint d writer at
  pub writes : WritesAny d at root
  pub runs : RunsByDelays d (is_wide c) writer lists at r
  pub edge : Edge
  pub seen : SeenAs d (is_wide c) t edge
  pub counted : (digit : Digit) → Gives at (bit_of root) digit → counts edge digit ≡ true
  pub in_phase : InPhase d c root edge r

-- ---- of any process

-- an event control can end at a residue: one of its terms can fire there
abbrev pub EdgeEnds : Parts → Claims → Next → ℕ → Type 0
EdgeEnds d c (on l) r = ⊥
EdgeEnds d c (after number ticks l) r = ⊥
EdgeEnds d c (wait number terms l) r = (t : EventTerm) × Contains terms t × Fires d c t r

-- a point has the run slot, of event controls
abbrev pub RunsByEdges : Parts → Claims → ℕ → Todo → ℕ → Type 0
RunsByEdges d c i k r = RunsFrom d (is_wide c) i (EdgeEnds d c) k r

-- a control of a process of this kind can end at a residue
abbrev pub Ends : Parts → Claims → ℕ → Option Kind → Next → ℕ → Type 0
Ends d c i (Some (delays lists)) next r = DelayEnds d i lists next r
Ends d c i (Some edges) next r = EdgeEnds d c next r
Ends d c i (Some (mixed lists)) next r = DelayEnds d i lists next r ⊎ EdgeEnds d c next r
Ends d c i (Some (block start)) next r = ⊥
Ends d c i None next r = ⊥

-- a point of a process has the run slot: of the delay controls, or in one of kind edge of the event controls, in a mixed one of both, from which a
-- path without further control leads there
abbrev pub HasSlot : Parts → Claims → ℕ → Todo → ℕ → Type 0
HasSlot d c i k r = RunsFrom d (is_wide c) i (Ends d c i (kind_of d c i)) k r

-- a variable has the write slot: its writer writes it by `=` at a point with that run slot
pub record HasWriteSlot (d : Parts) (c : Claims) (u r : ℕ) : Type 0 where
  pub writer : ℕ
  pub at : Todo
  pub is : IsWriter d c u writer
  pub point : IsPoint d writer at
  pub writes : WritesNow d at u
  pub slot : HasSlot d c writer at r

-- a term of a process, of this root, can fire at a residue
pub record FiresOf (d : Parts) (c : Claims) (i root r : ℕ) : Type 0 where
  pub term : EventTerm
  pub has : HasTerm d i term
  pub is_root : IsRootOf d c root term.range.signal
  pub fires : Fires d c term r
