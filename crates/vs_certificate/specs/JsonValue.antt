-- The JSON value of a certificate, in each version.
use Rattle.std.specs.Prelude.{◌≡◌, Some, ℕ, Bool, List, [], ◌∷◌, map, codes, String, string_bytes, Vec}
use Rattle.std.specs.declared.alloc.Global.{Global}
use Rattle.serde_json.specs.Data.{Data, boolean, number, unsigned, string, array, object, Members, no_members, member, put}
use Rattle.serde_json.specs.Find.{get}
use Rattle.serde_json.specs.View.{items_of}
use Rattle.vs_certificate.specs.declared.members.Certificate.{Certificate}
use Rattle.vs_certificate.specs.declared.members.Version.{Version}
use Rattle.vs_certificate.specs.declared.members.Version.TheVariants as versions
use Rattle.vs_certificate.specs.declared.members.ClaimedGrain.{ClaimedGrain}
use Rattle.vs_certificate.specs.declared.members.ClaimedGrain.TheVariants as grains
use Rattle.vs_certificate.specs.declared.members.EdgeSignal.{EdgeSignal}
use Rattle.vs_certificate.specs.declared.members.ProcessEntry.{ProcessEntry}
use Rattle.vs_certificate.specs.declared.members.ClaimedKind.{ClaimedKind}
use Rattle.vs_certificate.specs.declared.members.ClaimedKind.TheVariants as kinds
use Rattle.vs_certificate.specs.declared.members.Start.{Start}
use Rattle.vs_certificate.specs.declared.members.Start.TheVariants as starts
use Rattle.vs_certificate.specs.declared.members.SignalEntry.{SignalEntry}
use Rattle.vs_certificate.specs.declared.members.SignalMode.{SignalMode}
use Rattle.vs_certificate.specs.declared.members.SignalMode.TheVariants as modes

-- ---- words (profile)

abbrev pub grain_word : ClaimedGrain → List ℕ
grain_word grains.Block = codes "block"
grain_word grains.Statement = codes "statement"

abbrev pub kind_word : ClaimedKind → List ℕ
kind_word (kinds.Combinational start) = codes "comb"
kind_word kinds.Edge = codes "edge"
kind_word (kinds.Delay slots) = codes "delay"
kind_word (kinds.Mixed slots) = codes "mixed"

abbrev pub start_word : Start → List ℕ
start_word starts.Cold = codes "cold"
start_word starts.Sources = codes "sources"
start_word starts.Starter = codes "starter"

abbrev pub mode_word : SignalMode → List ℕ
mode_word modes.Net = codes "net"
mode_word modes.Unwritten = codes "unwritten"
mode_word modes.Combinational = codes "comb"
mode_word modes.Nonblocking = codes "nonblocking"
mode_word modes.Blocking = codes "blocking"
mode_word modes.Private = codes "private"
mode_word modes.Both = codes "both"

-- ---- values

-- a name
abbrev pub text_value : String Global → Data
text_value s = string (string_bytes s)

abbrev pub flag_value : Bool → Data
flag_value b = boolean b

abbrev pub grain_value : ClaimedGrain → Data
grain_value g = string (grain_word g)

abbrev pub start_word_value : Start → Data
start_word_value s = string (start_word s)

abbrev pub mode_value : SignalMode → Data
mode_value m = string (mode_word m)

-- a list, each of whose entries has this value
abbrev pub list_value : {A : Type 0} → (A → Data) → List A → Data
list_value value entries = array (items_of (map value entries))

abbrev pub members_with : List (List ℕ × Data) → Members
members_with [] = no_members
members_with (m ∷ ms) = member m.0 m.1 (members_with ms)

-- an object of these members, which stand in the byte order of their names
abbrev pub object_with : List (List ℕ × Data) → Data
object_with ms = object (members_with ms)

abbrev pub whole_value : ℕ → Data
whole_value n = number (unsigned n)

-- the residues of one delay control
abbrev pub residues_value : Vec ℕ Global → Data
residues_value residues = list_value whole_value residues.items

-- a process of kind delay or mixed has a list for each delay control, any other process none
abbrev pub slots_value : ClaimedKind → Data
slots_value (kinds.Combinational start) = list_value residues_value []
slots_value kinds.Edge = list_value residues_value []
slots_value (kinds.Delay slots) = list_value residues_value slots.items
slots_value (kinds.Mixed slots) = list_value residues_value slots.items

-- a combinational block has a start, any other process none
abbrev pub start_value : ClaimedKind → Data
start_value (kinds.Combinational start) = start_word_value start
start_value kinds.Edge = string (codes "none")
start_value (kinds.Delay slots) = string (codes "none")
start_value (kinds.Mixed slots) = string (codes "none")

-- the members of an object that tell a process's kind tell this one
abbrev pub IsKindOf : Data → ClaimedKind → Type 0
IsKindOf d kind = (get (codes "kind") d ≡ Some (string (kind_word kind))) × (get (codes "slots") d ≡ Some (slots_value kind)) × (get (codes "start") d ≡ Some (start_value kind))

abbrev pub edge_value : EdgeSignal → Data
edge_value e = object_with ((codes "root", text_value e.root) ∷ (codes "signal", text_value e.signal) ∷ [])

abbrev pub process_value : ProcessEntry → Data
process_value p =
    object_with ((codes "kind", string (kind_word p.kind)) ∷ (codes "name", text_value p.name) ∷ (codes "slots", slots_value p.kind) ∷ (codes "start", start_value p.kind) ∷ [])

abbrev pub signal_value : SignalEntry → Data
signal_value s =
    object_with ((codes "mode", mode_value s.mode) ∷ (codes "name", text_value s.name) ∷ (codes "second", text_value s.second) ∷ (codes "writer", text_value s.writer) ∷ [])

-- ---- the whole

abbrev pub version_number : Version → ℕ
version_number versions.One = 1
version_number (versions.Two displays) = 2
version_number (versions.Three displays) = 3

-- the members that all versions have, with this number as that of the version
abbrev pub shared_members : ℕ → Certificate → List (List ℕ × Data)
shared_members version c =
    (codes "edges", list_value edge_value c.edges.items)
    ∷ (codes "grain", grain_value c.grain)
    ∷ (codes "modulus", whole_value c.modulus)
    ∷ (codes "order", list_value text_value c.order.items)
    ∷ (codes "processes", list_value process_value c.processes.items)
    ∷ (codes "signals", list_value signal_value c.signals.items)
    ∷ (codes "version", whole_value version)
    ∷ []

-- the members of a certificate of this version
abbrev pub members_by : Version → Certificate → List (List ℕ × Data)
members_by versions.One c = shared_members 1 c
members_by (versions.Two displays) c = (codes "displays", flag_value displays) ∷ shared_members 2 c
members_by (versions.Three displays) c = (codes "displays", flag_value displays) ∷ shared_members 3 c

-- the JSON value of a certificate
abbrev pub value_of : Certificate → Data
value_of c = object_with (members_by c.version c)

-- for private clauses: members, and those that this version alone has
abbrev pub put_own : Version → Members → Members
put_own versions.One ms = ms
put_own (versions.Two displays) ms = put (codes "displays") (flag_value displays) ms
put_own (versions.Three displays) ms = put (codes "displays") (flag_value displays) ms
