-- The rule on processes that wait for edges, of the places of a map.
use Rattle.std.specs.Prelude.{ℕ, ◌≡◌, ◌↔◌, Some, List, length, slice_get}
use Rattle.std.specs.List.{Contains}
use Rattle.vs_design.specs.declared.design.Process.{Process}
use Rattle.vs_design.specs.declared.statement.EventTerm.{EventTerm}
use Rattle.vs_design.specs.Parts.{Parts}
use Rattle.vs_process.specs.Stops.{Stop, IsText}
use Rattle.vs_process.specs.Ways.{Pause, none, delay, event}
use Rattle.vs_rules.specs.Claims.{Claims, HasMixedLists, IsEdge, IsRootOf, WaitsForEdges}
use Rattle.vs_rules.specs.Controls.{controls_of, list_of}
use Rattle.vs_rules.specs.Rules.{AreEdges, K7}
use Rattle.vs_rules.specs.Slots.{Fires, FiresOf}
use Rattle.vs_claims.specs.vs_maps.specs.Reaches.{Chart, IsPlace, pause_at}
use Rattle.vs_claims.specs.vs_maps.specs.Ranges.{HasTermAt}
use Rattle.vs_claims.specs.vs_maps.specs.Walks.{IsDelayBefore}
use Rattle.vs_rules_of_processes.specs.vs_slots.specs.Runs.{DelayEndsBy, TermsEnd}
use Rattle.vs_rules_of_processes.specs.declared.edges.Term.{Term}

-- a process that may wait for edges alone goes on so: through no control, or for edges; else through a delay too
abbrev pub MayWait : Type 0 → Pause → Type 0
MayWait alone none = Unit {0}
MayWait alone (delay number ticks) = alone → ⊥
MayWait alone (event number terms) = AreEdges terms

-- a term of a process, of this root, can fire at a residue
abbrev pub FiresIn : Parts → Claims → Chart → ℕ → ℕ → Type 0
FiresIn d c t root r = (x : EventTerm) × HasTermAt t x × IsRootOf d c root x.range.signal × Fires d c x r

-- a delay control that ends at a place, by the lists of the controls, and the terms of an event control at another one have no residue in common
abbrev pub ArrivesApart : Parts → Claims → Chart → (ℕ → List ℕ) → ℕ → ℕ → Type 0
ArrivesApart d c t list q p = (r : ℕ) → DelayEndsBy list (pause_at t q) r → TermsEnd d c (pause_at t p) r → ⊥

-- nor have any two of which a walk that takes no time, past a turn that is sure by it alone, leads from the one to the other
abbrev pub AreArrivalsApart : Parts → Claims → Chart → (ℕ → List ℕ) → Type 0
AreArrivalsApart d c t list = (q p : ℕ) → IsDelayBefore t q p → ArrivesApart d c t list q p

-- the rule K7, of the places of a map
pub record K7_Places (d : Parts) (c : Claims) (i : ℕ) (t : Chart) : Type 0 where
  pub waits : (p : ℕ) → IsPlace t p → MayWait (IsEdge d c i) (pause_at t p)
  pub one_signal : (x y : EventTerm) (root : ℕ) → HasTermAt t x → HasTermAt t y → IsRootOf d c root x.range.signal →
      IsRootOf d c root y.range.signal → x.range.signal ≡ y.range.signal
  pub apart : (one other r : ℕ) → FiresIn d c t one r → FiresIn d c t other r → one ≡ other
  pub arrives : (lists : List (List ℕ)) → HasMixedLists d c i lists → AreArrivalsApart d c t (list_of (controls_of d i) lists)

-- a process that waits for edges keeps the rule exactly where the places of its map do; another one keeps it
pub record EdgesByPlaces (d : Parts) (c : Claims) (i : ℕ) (t : Chart) : Type 0 where
  pub edges : WaitsForEdges d c i → (K7_Places d c i t ↔ K7 d c i)
  pub others : (WaitsForEdges d c i → ⊥) → K7 d c i
  -- terms that fire
  pub fires : (root r : ℕ) → (FiresIn d c t root r ↔ FiresOf d c i root r)

abbrev pub EdgesAreByPlaces : Type 0
EdgesAreByPlaces = (d : Parts) (c : Claims) (i : ℕ) (q : Process) (stops : List Stop) (start : ℕ) → slice_get d.processes i ≡ Some q →
    IsText q.body stops start → EdgesByPlaces d c i (record { stops = stops; start = start })

-- ---- by what is known of terms

-- what is known of a term: its signal, the roots of that, and the residues at which it can fire
abbrev pub IsKnown : Parts → Claims → EventTerm → Term → Type 0
IsKnown d c x k = (k.signal ≡ x.range.signal) × ((root : ℕ) → (Contains k.roots.items root ↔ IsRootOf d c root x.range.signal))
    × ((r : ℕ) → (Contains k.fires.items r ↔ Fires d c x r))

-- the same of all terms of a list, in their order
pub record AreKnown (d : Parts) (c : Claims) (terms : List EventTerm) (known : List Term) : Type 0 where
  pub as_many : length known ≡ length terms
  pub each : (i : ℕ) (x : EventTerm) (k : Term) → slice_get terms i ≡ Some x → slice_get known i ≡ Some k → IsKnown d c x k

-- two terms of one root name one signal
abbrev pub IsOneSignal : Term → Term → Type 0
IsOneSignal a b = (root : ℕ) → Contains a.roots.items root → Contains b.roots.items root → a.signal ≡ b.signal

-- where they fire at one residue, they have one root
abbrev pub AreRootsApart : Term → Term → Type 0
AreRootsApart a b = (one other r : ℕ) → Contains a.roots.items one → Contains b.roots.items other →
    Contains a.fires.items r → Contains b.fires.items r → one ≡ other

abbrev pub IsPair : Term → Term → Type 0
IsPair a b = IsOneSignal a b × AreRootsApart a b
