-- What a scope declares, a pass at a time.
use Rattle.std.specs.Prelude.{◌≡◌, ℕ, ◌+◌, ◌<◌, ◌≤◌, ◌⊎◌, true, false, List, [], ◌∷◌, ◌++◌, Option, length, map, if◌then◌else◌}
use Rattle.std.specs.List.{list_any, AllZip}
use Rattle.std.specs.Str.{bytes_eq}
use Rattle.vs_syntax.specs.declared.tree.Range.{Range}
use Rattle.vs_design.specs.declared.signal.SignalKind.{SignalKind}
use Rattle.vs_design.specs.declared.design.Entry.{Entry}
use Rattle.vs_scopes.specs.vs_widths.specs.Environment.{Environment}
use Rattle.vs_elab_signals.specs.vs_widths.specs.Names.{meaning_of}
use Rattle.vs_scopes.specs.declared.faults.Reason.{Reason}
use Rattle.vs_scopes.specs.declared.faults.Reason.TheVariants.{DeclaredTwice, Limit}
use Rattle.vs_scopes.specs.Printed.{Path}
use Rattle.vs_scopes.specs.Ranges.{Sized, words_as}
use Rattle.vs_scopes.specs.Ports.{names_where, is_joined, without_name}
use Rattle.vs_scopes.specs.Declarations.{Bindings, DeclaredName, declared_by_port, declaration_fault, names_in, not_joined}
use Rattle.vs_scopes.specs.Scopes.{Scope, constant_names, numbered_names, keys, named}
use Rattle.vs_scopes.specs.scopes_passes.Names.{read_path}
use Rattle.vs_elab_signals.specs.passes.Counting.{Counts}
use Rattle.vs_elab_signals.specs.declared.opened.Numbering.{Numbering}
use Rattle.vs_elab_signals.specs.declared.declarations.Site.{Site}
use Rattle.vs_elab_signals.specs.declared.declarations.Declared.{Declared}
use Rattle.vs_elab_signals.specs.Outlines.{declared, signal_of, declare_from, IsEntry}
use Rattle.vs_elab_signals.specs.ScopeFaults.{Repeated}
use Rattle.vs_elab_signals.specs.signal_passes.Sites.{IsSite}
use Rattle.vs_elab_signals.specs.signal_passes.Naming.{Bound}

-- a site is that of a scope
abbrev pub IsAt : Scope → Site → Type 0
IsAt s x = IsSite s (read_path x.path.now) (meaning_of x.known.now)

-- a name that is declared as this, with such words, where names are bound so in their range
abbrev pub declared_so : Environment → SignalKind → Sized → Option Range → List ℕ → DeclaredName
declared_so env kind size range n = record { kind = kind; size = size; words = words_as env kind range; name = n }

-- the counts of a plan, which a pass over declarations leaves alone
pub record SameCounts (start plan : Numbering) : Type 0 where
  pub instances : plan.instances ≡ start.instances
  pub turns : plan.turns ≡ start.turns

-- names of a scope that got signals, from a start on, behind its constants
pub record Keeps (s : Scope) (names : Bindings) (plan start : Numbering) (done : List DeclaredName) : Type 0 where
  pub bound : Bound names (constant_names s.constants ++ numbered_names (length start.signals.items) done)
  pub shown : map declared plan.signals.items ≡ map declared start.signals.items ++ map (signal_of s) done
  pub lines : List Entry
  pub outline : plan.outline.items ≡ start.outline.items ++ lines
  pub lines_mean : AllZip IsEntry lines (declare_from (length start.signals.items) done)
  pub room : length plan.signals.items ≤ 65536
  pub same : SameCounts start plan

-- why they got none: one is declared twice, or there are too many
abbrev pub KeepsNot : Scope → Numbering → List DeclaredName → Reason → Path → Type 0
KeepsNot s start ds DeclaredTwice p = (n : List ℕ) × (p ≡ named s n) × Repeated (keys (constant_names s.constants) ++ names_in ds) n
KeepsNot s start ds Limit p = (65536 < length start.signals.items + length ds) × (p ≡ s.path)
KeepsNot s start ds _ p = ⊥

-- the same of ports, whose ranges have no fault
pub record DeclaresPorts (s : Scope) (names : Bindings) (plan start : Numbering) (done : List DeclaredName) : Type 0 where
  pub keeps : Keeps s names plan start done
  pub sized : (r : Reason) → list_any (declaration_fault r) done ≡ false

-- why ports got no signals: one is declared twice, there are too many, or a range has a fault
abbrev pub DeclaresPortsNot : Scope → Numbering → List DeclaredName → Reason → Path → Type 0
DeclaresPortsNot s start ds r p = KeepsNot s start ds r p ⊎ ((list_any (declaration_fault r) ds ≡ true) × (p ≡ s.path))

-- ---- names of pieces

-- the names of ports that other items declare too
abbrev pub joined_names : Scope → List (List ℕ)
joined_names s = names_where is_joined s.ports

-- names without the first of each of these declared names that is among them
abbrev pub still_joined : List (List ℕ) → List DeclaredName → List (List ℕ)
still_joined ns [] = ns
still_joined ns (d ∷ ds) = if list_any (bytes_eq d.name) ns then still_joined (without_name d.name ns) ds else still_joined ns ds

-- the names of a scope that get signals, where these are declared by its pieces
abbrev pub kept : Scope → List DeclaredName → List DeclaredName
kept s ds = map (declared_by_port s.known) s.ports ++ not_joined (joined_names s) ds

-- names of pieces that got signals behind those of the ports, from a start on, but for ports that they declare once more
pub record Declares (s : Scope) (to : Declared) (plan start : Numbering) (done : List DeclaredName) : Type 0 where
  pub keeps : Keeps s to.names plan start (kept s done)
  pub counts : Counts (still_joined (joined_names s) done) to.joined
  pub sized : (r : Reason) → list_any (declaration_fault r) done ≡ false

-- why they got none: one is declared twice, there are too many, or a range has a fault
abbrev pub DeclaresNot : Scope → Numbering → List DeclaredName → Reason → Path → Type 0
DeclaresNot s start ds r p = KeepsNot s start (kept s ds) r p ⊎ ((list_any (declaration_fault r) ds ≡ true) × (p ≡ s.path))
