-- What a certificate claims of a design without processes.
use Rattle.std.specs.Prelude.{ℕ, ◌≡◌, Bool, true, false, Option, Some, None, List, [], map, slice_get, IsUtf8}
use Rattle.vs_design.specs.declared.signal.Signal.{Signal}
use Rattle.vs_design.specs.Kinds.{is_variable}
use Rattle.vs_design.specs.Parts.{Parts}
use Rattle.vs_drivers.specs.vs_rules.specs.Claims.{Name, Claims, Mode, net, unwritten, SignalClaim, assign_name, IsSignalNamed, IsAssignNamed}

-- names of a design are texts
pub record HasTexts (d : Parts) : Type 0 where
  pub signals : (v : ℕ) (name : Name) → IsSignalNamed d v name → IsUtf8 name
  pub assigns : (j : ℕ) (name : Name) → IsAssignNamed d j name → IsUtf8 name

-- the name that may be there, or an empty one
abbrev pub name_or_empty : Option Name → Name
name_or_empty None = []
name_or_empty (Some name) = name

-- the name of a continuous assignment, by its number
abbrev pub name_at : Parts → ℕ → Name
name_at d j = name_or_empty (assign_name (slice_get d.assigns j))

-- a net is a net, and no process writes a variable
abbrev pub mode_at : Bool → Mode
mode_at true = unwritten
mode_at false = net

-- the entry of a signal that no process writes
abbrev pub entry_of : Signal → SignalClaim
entry_of s = record { name = s.path.items; mode = mode_at (is_variable s.kind); writer = None; second = None }

-- each signal has such an entry, continuous assignments stand in the order by these numbers, and nothing else is claimed
pub record IsPlain (d : Parts) (c : Claims) (numbers : List ℕ) : Type 0 where
  pub version : c.version ≡ 1
  pub displays : c.displays ≡ false
  pub modulus : c.modulus ≡ 1
  pub edges : c.edges ≡ []
  pub processes : c.processes ≡ []
  pub signals : c.signals ≡ map entry_of d.signals
  pub order : c.order ≡ map (name_at d) numbers
