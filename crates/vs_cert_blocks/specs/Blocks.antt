-- The rule K5 of a combinational block, by its process and its map.
use Rattle.std.specs.Prelude.{ℕ, ◌≡◌, ◌↔◌, ◌⊎◌, true, false, Some, List, slice_get}
use Rattle.std.specs.List.{Contains}
use Rattle.vs_design.specs.declared.design.Process.{Process}
use Rattle.vs_design.specs.declared.range.BitRange.{BitRange}
use Rattle.vs_design.specs.declared.statement.EventTerm.{EventTerm}
use Rattle.vs_design.specs.Parts.{Parts}
use Rattle.vs_process.specs.Stops.{Stop, IsText}
use Rattle.vs_process.specs.Writes.{statement_writes}
use Rattle.vs_claims.specs.vs_process.specs.declared.moves.Grain.{Grain}
use Rattle.vs_claims.specs.vs_process.specs.declared.moves.Grain.TheVariants as g
use Rattle.vs_claims.specs.vs_process.specs.Executions.{is_combinational}
use Rattle.vs_drivers.specs.vs_rules.specs.Blocks.{K5}
use Rattle.vs_drivers.specs.vs_rules.specs.Claims.{Claims, IsBlock}
use Rattle.vs_drivers.specs.vs_rules.specs.Paths.{Bit, IsBit, Has, text_reads}
use Rattle.vs_claims.specs.vs_maps.specs.Ranges.{HasSignal, HasTermAt, statement_at}
use Rattle.vs_claims.specs.vs_maps.specs.Reaches.{Chart, IsPlace}
use Rattle.vs_cert_blocks.specs.Walks.{has_late_effect_at, IsWrittenFirst}

-- no place that is a point has a `<=`, a `$strobe` or a `$finish`
abbrev pub IsQuiet : Chart → Type 0
IsQuiet t = (p : ℕ) → IsPlace t p → has_late_effect_at (statement_at t p) ≡ false

-- an event control of a map names each bit of the design that a range has
abbrev pub IsNamed : Parts → Chart → BitRange → Type 0
IsNamed d t r = (b : Bit) → IsBit d b → Has r b → (term : EventTerm) × HasTermAt t term × Has term.range b

-- each range that is read is of a signal that is written, or named
abbrev pub AreNamed : Parts → Chart → List BitRange → List BitRange → Type 0
AreNamed d t written read = (r : BitRange) → Contains read r → HasSignal written r.signal ⊎ IsNamed d t r

-- each bit of a signal that is written is written before a bit of that signal is read, and before the control
abbrev pub AreWrittenFirst : Parts → Chart → List BitRange → Type 0
AreWrittenFirst d t written = (b : Bit) → IsBit d b → HasSignal written b.signal → IsWrittenFirst t b

-- the same by the signals that are written
abbrev pub AreOfOrNamed : Parts → Chart → List ℕ → List BitRange → Type 0
AreOfOrNamed d t signals read = (r : BitRange) → Contains read r → Contains signals r.signal ⊎ IsNamed d t r

abbrev pub IsSignalFirst : Parts → Chart → ℕ → Type 0
IsSignalFirst d t v = (b : Bit) → IsBit d b → b.signal ≡ v → IsWrittenFirst t b

abbrev pub AreSignalsFirst : Parts → Chart → List ℕ → Type 0
AreSignalsFirst d t signals = (v : ℕ) → Contains signals v → IsSignalFirst d t v

-- what the text of a block reads and writes
abbrev pub KeepsText : Parts → Process → Chart → Type 0
KeepsText d q t = AreNamed d t (statement_writes q.body) (text_reads q.body) × AreWrittenFirst d t (statement_writes q.body)

-- a block, by its process and its map, keeps the rule
pub record KeepsBlock (d : Parts) (q : Process) (t : Chart) (grain : Grain) : Type 0 where
  pub at_block : grain ≡ g.Block
  pub shape : is_combinational q ≡ true
  pub quiet : IsQuiet t
  pub text : KeepsText d q t

-- so it does exactly where it keeps the rule K5; what is no block keeps it
pub record BlocksAreKept (d : Parts) (c : Claims) (i : ℕ) (q : Process) (t : Chart) : Type 0 where
  pub blocks : IsBlock d c i → (KeepsBlock d q t c.grain ↔ K5 d c i)
  pub others : (IsBlock d c i → ⊥) → K5 d c i

abbrev pub BlocksByPlaces : Type 0
BlocksByPlaces = (d : Parts) (c : Claims) (i : ℕ) (q : Process) (stops : List Stop) (start : ℕ) → slice_get d.processes i ≡ Some q →
    IsText q.body stops start → BlocksAreKept d c i q (record { stops = stops; start = start })
