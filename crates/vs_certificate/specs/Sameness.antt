-- When two certificates are the same in all that is read of them: their members, entry by entry. (A vector and a text
-- have an address besides, of which nothing is said.)
use Rattle.std.specs.Prelude.{◌≡◌, ℕ, List, [], map, Option, None, Some, string_bytes, Vec}
use Rattle.std.specs.declared.alloc.Global.{Global}
use Rattle.vs_certificate.specs.declared.members.Certificate.{Certificate}
use Rattle.vs_certificate.specs.declared.members.EdgeSignal.{EdgeSignal}
use Rattle.vs_certificate.specs.declared.members.ProcessEntry.{ProcessEntry}
use Rattle.vs_certificate.specs.declared.members.ClaimedKind.{ClaimedKind}
use Rattle.vs_certificate.specs.declared.members.ClaimedKind.TheVariants as kinds
use Rattle.vs_certificate.specs.declared.members.Start.{Start}
use Rattle.vs_certificate.specs.declared.members.SignalEntry.{SignalEntry}
use Rattle.vs_certificate.specs.declared.members.SignalMode.{SignalMode}
use Rattle.vs_certificate.specs.JsonValue.{kind_word}

-- the start of a combinational block (profile)
abbrev pub start_of : ClaimedKind → Option Start
start_of (kinds.Combinational start) = Some start
start_of kinds.Edge = None
start_of (kinds.Delay slots) = None
start_of (kinds.Mixed slots) = None

-- the residues of a process, a list for each delay control of one that waits for times (profile)
abbrev pub slots_of : ClaimedKind → List (Vec ℕ Global)
slots_of (kinds.Combinational start) = []
slots_of kinds.Edge = []
slots_of (kinds.Delay slots) = slots.items
slots_of (kinds.Mixed slots) = slots.items

abbrev pub residues_of : ClaimedKind → List (List ℕ)
residues_of k = map (λ residues. residues.items) (slots_of k)

-- the root and the signal (profile)
abbrev pub edge_parts : EdgeSignal → List ℕ × List ℕ
edge_parts e = (string_bytes e.root, string_bytes e.signal)

-- the name, the word of the kind, the start and the residues (profile)
abbrev pub process_parts : ProcessEntry → List ℕ × List ℕ × Option Start × List (List ℕ)
process_parts p = (string_bytes p.name, kind_word p.kind, start_of p.kind, residues_of p.kind)

-- the mode, the name, the second and the writer (profile)
abbrev pub signal_parts : SignalEntry → SignalMode × List ℕ × List ℕ × List ℕ
signal_parts s = (s.mode, string_bytes s.name, string_bytes s.second, string_bytes s.writer)

-- the same members (profile)
pub record IsSame (c d : Certificate) : Type 0 where
  pub version : c.version ≡ d.version
  pub edges : map edge_parts c.edges.items ≡ map edge_parts d.edges.items
  pub grain : c.grain ≡ d.grain
  pub modulus : c.modulus ≡ d.modulus
  pub order : map string_bytes c.order.items ≡ map string_bytes d.order.items
  pub processes : map process_parts c.processes.items ≡ map process_parts d.processes.items
  pub signals : map signal_parts c.signals.items ≡ map signal_parts d.signals.items
