-- A design, what a certificate claims of it, and the maps of the texts of its processes.
use Rattle.std.specs.Prelude.{ℕ, ◌≡◌, Option, Some, None, List, map, slice_get, Vec}
use Rattle.std.specs.Borrow.{Bor}
use Rattle.std.specs.declared.alloc.Global.{Global}
use Rattle.vs_certificate.specs.declared.members.Certificate.{Certificate}
use Rattle.vs_certificate.specs.declared.members.ClaimedKind.{ClaimedKind}
use Rattle.vs_design.specs.declared.design.Process.{Process}
use Rattle.vs_design.specs.declared.statement.Statement.{Statement}
use Rattle.vs_design.specs.Parts.{Parts}
use Rattle.vs_claims.specs.vs_rules.specs.Certificates.{claims_of, kind_from, residues_from}
use Rattle.vs_claims.specs.vs_rules.specs.Claims.{Claims, EdgeClaim, Kind, WaitsForTimes, IsSignalNamed}
use Rattle.vs_maps.specs.Reaches.{Chart}
pub use Rattle.vs_maps.specs.Texts.{AreCharts}

-- a design, what a certificate claims of it, and the maps of the texts of its processes
pub record Case : Type 0 where
  pub design : Parts
  pub claims : Claims
  pub charts : List Chart

-- the case of a design and a certificate
abbrev pub case_of : Parts → Certificate → List Chart → Case
case_of d c charts = record { design = d; claims = claims_of c; charts = charts }

-- the texts of processes
abbrev pub bodies : List Process → List Statement
bodies processes = map (λ (p : Process). p.body) processes

-- ---- what is told

-- what is told by reference
abbrev pub seen : {A : Type 0} → Option (Bor A) → Option A
seen None = None
seen (Some x) = Some x.now

-- the kind of a process that is told
abbrev pub kind_seen : Option (Bor ClaimedKind) → Option Kind
kind_seen None = None
kind_seen (Some k) = Some (kind_from k.now)

-- the lists of residues of a process that waits for times, where it does
abbrev pub AreListsOf : Parts → Claims → ℕ → Option (Bor (List (Vec ℕ Global))) → Type 0
AreListsOf d c i None = (lists : List (List ℕ)) → WaitsForTimes d c i lists → ⊥
AreListsOf d c i (Some lists) = WaitsForTimes d c i (map residues_from lists.now)

-- the entry at a place is of this signal
abbrev pub NamesEntry : Parts → List EdgeClaim → ℕ → ℕ → Type 0
NamesEntry d edges place v = (e : EdgeClaim) × (slice_get edges place ≡ Some e) × IsSignalNamed d v e.signal

-- the entry of this place names two signals by their numbers: the root, and the signal that copies it
pub record IsRootAt (d : Parts) (edges : List EdgeClaim) (place root v : ℕ) : Type 0 where
  pub entry : EdgeClaim
  pub is : slice_get edges place ≡ Some entry
  pub signal : IsSignalNamed d v entry.signal
  pub root_is : IsSignalNamed d root entry.root

-- the entry of this place has this root
abbrev pub NamesRoot : Parts → List EdgeClaim → ℕ → ℕ → Type 0
NamesRoot d edges place root = (v : ℕ) × IsRootAt d edges place root v
