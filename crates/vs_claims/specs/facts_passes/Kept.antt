-- What is kept of a design and a certificate.
use Rattle.std.specs.Prelude.{ℕ, ◌≡◌, ◌⊎◌, Option, Some, None, List, length, map, slice_index_or, Vec}
use Rattle.std.specs.Borrow.{Bor}
use Rattle.std.specs.declared.alloc.Global.{Global}
use Rattle.vs_certificate.specs.declared.members.Certificate.{Certificate}
use Rattle.vs_certificate.specs.declared.members.EdgeSignal.{EdgeSignal}
use Rattle.vs_certificate.specs.declared.members.ProcessEntry.{ProcessEntry}
use Rattle.vs_certificate.specs.declared.members.SignalEntry.{SignalEntry}
use Rattle.vs_design.specs.declared.design.Assign.{Assign}
use Rattle.vs_design.specs.declared.design.Process.{Process}
use Rattle.vs_design.specs.declared.signal.Signal.{Signal}
use Rattle.vs_design.specs.Parts.{Parts}
use Rattle.vs_design.specs.WellFormed.{WellFormed}
use Rattle.vs_claims.specs.vs_rules.specs.Certificates.{claims_of, name_from, process_from, residues_from, signal_claim}
use Rattle.vs_claims.specs.vs_rules.specs.Claims.{Name, SignalClaim, Kind, Start, block, delays, mixed, place_of}
use Rattle.vs_claims.specs.vs_rules.specs.Limits.{IsWideCertificate}
use Rattle.vs_maps.specs.vs_graph.specs.Rows.{AreRows}
use Rattle.vs_maps.specs.Reaches.{Chart}
use Rattle.vs_maps.specs.Texts.{Texts, texts_of}
use Rattle.vs_claims.specs.declared.names.ClaimedNames.{ClaimedNames}
use Rattle.vs_claims.specs.declared.names.DesignNames.{DesignNames}
use Rattle.vs_claims.specs.declared.names.EdgeNames.{EdgeNames}
use Rattle.vs_claims.specs.declared.names.Names.{Names}
use Rattle.vs_claims.specs.declared.places.ClaimPlaces.{ClaimPlaces}
use Rattle.vs_claims.specs.declared.places.EdgePlaces.{EdgePlaces}
use Rattle.vs_claims.specs.declared.places.Ends.{Ends}
use Rattle.vs_claims.specs.Facts.{AreCharts}
use Rattle.vs_claims.specs.Places.{place_for, place_in}

-- the claim of an entry of a signal that is told
abbrev pub entry_seen : Option (Bor SignalEntry) → Option SignalClaim
entry_seen None = None
entry_seen (Some e) = Some (signal_claim e.now)

-- a kind is that of a combinational block
abbrev pub IsBlockKind : Option Kind → Type 0
IsBlockKind kind = (start : Start) × (kind ≡ Some (block start))

-- a kind is that of a process that waits for times alone, or for times and for edges
abbrev pub IsDelayKind : Option Kind → Type 0
IsDelayKind kind = (lists : List (List ℕ)) × (kind ≡ Some (delays lists))

abbrev pub IsMixedKind : Option Kind → Type 0
IsMixedKind kind = (lists : List (List ℕ)) × (kind ≡ Some (mixed lists))

-- the lists of residues of a kind, where it is that of a process that waits for times
abbrev pub AreKindLists : Option Kind → Option (Bor (List (Vec ℕ Global))) → Type 0
AreKindLists kind None = (lists : List (List ℕ)) → (kind ≡ Some (delays lists)) ⊎ (kind ≡ Some (mixed lists)) → ⊥
AreKindLists kind (Some lists) = (kind ≡ Some (delays (map residues_from lists.now))) ⊎ (kind ≡ Some (mixed (map residues_from lists.now)))

-- ---- names, each list in its order

abbrev pub paths : List Signal → List Name
paths signals = map (λ (s : Signal). s.path.items) signals

abbrev pub named_processes : List Process → List Name
named_processes processes = map (λ (p : Process). p.name.items) processes

abbrev pub named_assigns : List Assign → List Name
named_assigns assigns = map (λ (a : Assign). a.name.items) assigns

abbrev pub signal_entries : List SignalEntry → List Name
signal_entries entries = map (λ (e : SignalEntry). name_from e.name) entries

abbrev pub process_entries : List ProcessEntry → List Name
process_entries entries = map (λ (p : ProcessEntry). name_from p.name) entries

abbrev pub edge_roots : List EdgeSignal → List Name
edge_roots edges = map (λ (e : EdgeSignal). name_from e.root) edges

abbrev pub edge_signals : List EdgeSignal → List Name
edge_signals edges = map (λ (e : EdgeSignal). name_from e.signal) edges

-- these are the names of a design
pub record AreDesignNames (d : Parts) (n : DesignNames) : Type 0 where
  pub signals_are : n.signals ≡ paths d.signals
  pub processes_are : n.processes ≡ named_processes d.processes
  pub assigns_are : n.assigns ≡ named_assigns d.assigns

-- those of a certificate's order, and of its entries of signals and processes
pub record AreClaimedNames (c : Certificate) (n : ClaimedNames) : Type 0 where
  pub order_is : n.order ≡ map name_from c.order.items
  pub signals_are : n.signals ≡ signal_entries c.signals.items
  pub processes_are : n.processes ≡ process_entries c.processes.items

-- those of its entries of edge terms
pub record AreEdgeNames (edges : List EdgeSignal) (n : EdgeNames) : Type 0 where
  pub roots_are : n.roots ≡ edge_roots edges
  pub signals_are : n.signals ≡ edge_signals edges

-- ---- places

-- both numbers, where both are there
abbrev pub pair_of : Option ℕ → Option ℕ → Option (ℕ × ℕ)
pair_of None v = None
pair_of (Some root) None = None
pair_of (Some root) (Some v) = Some (root, v)

-- the root and the signal of an entry
abbrev pub both_at : Ends → ℕ → Option (ℕ × ℕ)
both_at e place = pair_of (slice_index_or e.roots.items place None) (slice_index_or e.signals.items place None)

-- the processes that an entry of a signal names: its writer, and its second
abbrev pub writers_of : List Name → SignalEntry → Option ℕ × Option ℕ
writers_of processes e = (place_for processes (process_from e.writer), place_for processes (process_from e.second))

-- these are the places of the names of a design in the lists of a certificate, and the processes that entries of signals name
pub record AreClaimPlaces (d : DesignNames) (c : ClaimedNames) (entries : List SignalEntry) (p : ClaimPlaces) : Type 0 where
  pub signals_are : p.signals.items ≡ map (place_in c.signals) d.signals
  pub writers_are : p.writers.items ≡ map (writers_of d.processes) entries
  pub processes_are : p.processes.items ≡ map (place_in c.processes) d.processes
  pub assigns_are : p.assigns.items ≡ map (λ (n : Name). place_of n c.order) d.assigns
  pub blocks_are : p.blocks.items ≡ map (λ (n : Name). place_of n c.order) d.processes

-- those of the roots and the signals of entries of edge terms among the signals of a design
pub record AreEnds (signals : List Name) (edges : EdgeNames) (e : Ends) : Type 0 where
  pub roots_are : e.roots.items ≡ map (place_in signals) edges.roots
  pub signals_are : e.signals.items ≡ map (place_in signals) edges.signals

-- and the entries of each signal
pub record AreEdgePlaces (signals : List Name) (edges : EdgeNames) (p : EdgePlaces) : Type 0 where
  pub ends : AreEnds signals edges p.ends
  pub roots_long : length p.by_root ≡ length signals
  pub roots_are : AreRows (λ i r. (v : ℕ) × (both_at p.ends i ≡ Some (r, v))) (length edges.signals) (length signals) p.by_root
  pub signals_long : length p.by_signal ≡ length signals
  pub signals_are : AreRows (λ i v. slice_index_or p.ends.signals.items i None ≡ Some v) (length edges.signals) (length signals) p.by_signal

-- all of them
pub record AreNames (d : Parts) (c : Certificate) (n : Names) : Type 0 where
  pub design : AreDesignNames d n.design
  pub claims : AreClaimedNames c n.claims
  pub edges : AreEdgeNames c.edges.items n.edges
  pub places : AreClaimPlaces n.design n.claims c.signals.items n.places
  pub edge_places : AreEdgePlaces n.design.signals n.edges n.edge_places

-- what is kept of a design and a certificate
pub record AreFacts (d : Parts) (c : Certificate) (charts : List Chart) (u : Texts) (n : Names) : Type 0 where
  pub well_formed : WellFormed d
  pub certificate : IsWideCertificate (claims_of c)
  pub maps : AreCharts d charts
  pub uses : u ≡ texts_of d charts
  pub names : AreNames d c n
