-- Walks of a map on which nothing is sure to write a bit.
use Rattle.std.specs.Prelude.{ℕ, zero, suc, ◌≡◌, ◌↔◌, ◌&&◌, Bool, true, false, not, Option, Some, None, List, [], ◌∷◌, map, if◌then◌else◌}
use Rattle.std.specs.List.{Contains}
use Rattle.std.specs.declared.vec.Vec.{Vec}
use Rattle.std.specs.declared.alloc.Global.{Global}
use Rattle.vs_design.specs.declared.range.BitRange.{BitRange}
use Rattle.vs_design.specs.declared.statement.Aim.{Aim}
use Rattle.vs_design.specs.declared.statement.Aim.TheVariants.{Fixed, Chosen}
use Rattle.vs_design.specs.declared.statement.EventTerm.{EventTerm}
use Rattle.vs_design.specs.declared.statement.Statement.{Statement}
use Rattle.vs_design.specs.declared.statement.Statement.TheOpen.{Statement-F}
use Rattle.vs_design.specs.declared.statement.Statement.TheViews.{out-Statement}
use Rattle.vs_design.specs.Uses.{joined, slice_range}
use Rattle.vs_process.specs.Stops.{Stop, stop_at, stop_statement, stops_tos}
use Rattle.vs_process.specs.Ways.{Pause, none, delay, event}
use Rattle.vs_drivers.specs.vs_rules.specs.Blocks.{statement_surely, is_late_effect}
use Rattle.vs_drivers.specs.vs_rules.specs.Paths.{Bit}
use Rattle.vs_claims.specs.vs_maps.specs.Reaches.{Chart, IsPlace, pause_at, pause_of}
use Rattle.vs_claims.specs.vs_maps.specs.Ranges.{ranges_of, statement_at, reads_at, HasSignal}
use Rattle.vs_cert_blocks.specs.declared.bits.Bit as b

-- a bit as it is kept
abbrev pub bit_view : b.Bit → Bit
bit_view x = record { signal = x.signal; word = x.word; place = x.place }

-- whether the statement at a place, where there is one, is sure to write the bit
abbrev pub surely_at : Bit → Option Statement → Bool
surely_at b None = false
surely_at b (Some s) = statement_surely b (out-Statement s)

-- whether it is a `<=`, a `$strobe` or a `$finish`
abbrev pub has_late_effect_at : Option Statement → Bool
has_late_effect_at None = false
has_late_effect_at (Some s) = is_late_effect (out-Statement s)

abbrev pub is_at_once : Pause → Bool
is_at_once none = true
is_at_once (delay number ticks) = false
is_at_once (event number terms) = false

-- whether a walk goes on at once from a statement that isn't sure to write the bit
abbrev pub is_open : Bit → Option Statement → Bool
is_open b s = not (surely_at b s) && is_at_once (pause_of s)

-- where it leads from a place
abbrev pub open_tos : Bit → List Stop → ℕ → List ℕ
open_tos b stops p = if is_open b (stop_statement (stop_at stops p)) then stops_tos stops p else []

-- the event control at a place leads to another one
pub record WakesFrom (t : Chart) (p q : ℕ) : Type 0 where
  pub number : ℕ
  pub terms : List EventTerm
  pub is_place : IsPlace t p
  pub pauses : pause_at t p ≡ event number terms
  pub leads : Contains (stops_tos t.stops p) q

-- an event control leads to the place
abbrev pub IsWoken : Chart → ℕ → Type 0
IsWoken t q = (p : ℕ) × WakesFrom t p q

-- a walk leads there from an event control, on which nothing is sure to write the bit
pub data IsUnwritten (t : Chart) (b : Bit) : ℕ → Type 0 where
  begins : (q : ℕ) → IsWoken t q → IsUnwritten t b q
  goes_on : (p q : ℕ) → IsUnwritten t b p → Contains (open_tos b t.stops p) q → IsUnwritten t b q

-- at a place no bit of the signal is read, and there is no control
abbrev pub IsClear : Chart → ℕ → ℕ → Type 0
IsClear t v p = (HasSignal (reads_at t p) v → ⊥) × (pause_at t p ≡ none)

-- so it is wherever a walk leads on which nothing is sure to write the bit
abbrev pub IsWrittenFirst : Chart → Bit → Type 0
IsWrittenFirst t b = (p : ℕ) → IsUnwritten t b p → IsClear t b.signal p

-- ---- what is kept of a map

-- the places to which event controls lead
abbrev pub AreWoken : Chart → List ℕ → Type 0
AreWoken t seeds = (q : ℕ) → (Contains seeds q ↔ IsWoken t q)

-- the row of a place
abbrev pub row_at : List (Vec BitRange Global) → ℕ → List BitRange
row_at [] p = []
row_at (r ∷ rs) zero = r.items
row_at (r ∷ rs) (suc p) = row_at rs p

-- the ranges that are read at each place
abbrev pub AreReads : Chart → List (Vec BitRange Global) → Type 0
AreReads t rows = (p : ℕ) → row_at rows p ≡ reads_at t p

-- the ranges of a target with constant indices
abbrev pub fixed_range : Aim → List BitRange
fixed_range (Fixed s) = slice_range s ∷ []
fixed_range (Chosen s word low) = []

-- those that a statement is sure to write
abbrev pub statement_sure : Statement-F Statement → List BitRange
statement_sure (Statement-F.Assign n t e) = joined (map fixed_range t.parts.items)
statement_sure _ = []

-- those that the statement at a place is sure to write
abbrev pub sure_at : Chart → ℕ → List BitRange
sure_at t p = ranges_of statement_sure (statement_at t p)

-- ranges have all those among them
abbrev pub HaveSure : Chart → List BitRange → Type 0
HaveSure t rs = (p : ℕ) (r : BitRange) → Contains (sure_at t p) r → Contains rs r

-- and all those of a signal
abbrev pub HaveSureOf : Chart → ℕ → List BitRange → Type 0
HaveSureOf t v rs = (p : ℕ) (r : BitRange) → Contains (sure_at t p) r → r.signal ≡ v → Contains rs r
