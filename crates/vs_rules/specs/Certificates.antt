-- The claims of a certificate, as it is read from its file. Its texts are names by their bytes.
use Rattle.std.specs.Prelude.{ℕ, Bool, false, Option, Some, None, List, [], ◌∷◌, map, String, string_bytes, Vec}
use Rattle.std.specs.declared.alloc.Global.{Global}
use Rattle.vs_certificate.specs.declared.members.Certificate.{Certificate}
use Rattle.vs_certificate.specs.declared.members.EdgeSignal.{EdgeSignal}
use Rattle.vs_certificate.specs.declared.members.ClaimedGrain as certificate
use Rattle.vs_certificate.specs.declared.members.ClaimedGrain.TheVariants as grains
use Rattle.vs_certificate.specs.declared.members.ProcessEntry.{ProcessEntry}
use Rattle.vs_certificate.specs.declared.members.ClaimedKind.{ClaimedKind}
use Rattle.vs_certificate.specs.declared.members.ClaimedKind.TheVariants as kinds
use Rattle.vs_certificate.specs.declared.members.SignalEntry.{SignalEntry}
use Rattle.vs_certificate.specs.declared.members.SignalMode.{SignalMode}
use Rattle.vs_certificate.specs.declared.members.SignalMode.TheVariants as modes
use Rattle.vs_certificate.specs.declared.members.Start as start
use Rattle.vs_certificate.specs.declared.members.Start.TheVariants as starts
use Rattle.vs_certificate.specs.declared.members.Version.{Version}
use Rattle.vs_certificate.specs.declared.members.Version.TheVariants as versions
use Rattle.vs_certificate.specs.JsonValue.{version_number}
use Rattle.vs_process.specs.declared.moves.Grain.{Grain}
use Rattle.vs_process.specs.declared.moves.Grain.TheVariants as g
use Rattle.vs_rules.specs.Claims.{Name, Mode, net, unwritten, combinational, nonblocking, blocking, private, both, Start, cold, sources, starter}
use Rattle.vs_rules.specs.Claims.{Kind, block, edges, delays, mixed, SignalClaim, ProcessClaim, EdgeClaim, Claims}

-- ---- words

abbrev pub grain_from : certificate.ClaimedGrain → Grain
grain_from grains.Block = g.Block
grain_from grains.Statement = g.Statement

abbrev pub mode_from : SignalMode → Mode
mode_from modes.Net = net
mode_from modes.Unwritten = unwritten
mode_from modes.Combinational = combinational
mode_from modes.Nonblocking = nonblocking
mode_from modes.Blocking = blocking
mode_from modes.Private = private
mode_from modes.Both = both

abbrev pub start_from : start.Start → Start
start_from starts.Cold = cold
start_from starts.Sources = sources
start_from starts.Starter = starter

-- whether arguments of `$display` count; in version 1 they don't
abbrev pub displays_from : Version → Bool
displays_from versions.One = false
displays_from (versions.Two displays) = displays
displays_from (versions.Three displays) = displays

-- ---- names

abbrev pub name_from : String Global → Name
name_from s = string_bytes s

-- the empty text names no process
abbrev pub name_unless_empty : Name → Option Name
name_unless_empty [] = None
name_unless_empty (b ∷ bs) = Some (b ∷ bs)

abbrev pub process_from : String Global → Option Name
process_from s = name_unless_empty (name_from s)

-- ---- entries

abbrev pub residues_from : Vec ℕ Global → List ℕ
residues_from residues = residues.items

abbrev pub kind_from : ClaimedKind → Kind
kind_from (kinds.Combinational start) = block (start_from start)
kind_from kinds.Edge = edges
kind_from (kinds.Delay slots) = delays (map residues_from slots.items)
kind_from (kinds.Mixed slots) = mixed (map residues_from slots.items)

abbrev pub process_claim : ProcessEntry → ProcessClaim
process_claim p = record { name = name_from p.name; kind = kind_from p.kind }

abbrev pub signal_claim : SignalEntry → SignalClaim
signal_claim s = record { name = name_from s.name; mode = mode_from s.mode; writer = process_from s.writer; second = process_from s.second }

abbrev pub edge_claim : EdgeSignal → EdgeClaim
edge_claim e = record { root = name_from e.root; signal = name_from e.signal }

-- ---- the whole

abbrev pub claims_of : Certificate → Claims
claims_of c = record {
  version = version_number c.version;
  displays = displays_from c.version;
  grain = grain_from c.grain;
  modulus = c.modulus;
  edges = map edge_claim c.edges.items;
  order = map name_from c.order.items;
  processes = map process_claim c.processes.items;
  signals = map signal_claim c.signals.items;
}
