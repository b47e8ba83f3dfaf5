-- Names without a line feed.
use Rattle.std.specs.Prelude.{ℕ, ◌==◌, Bool, true, not, IsTrue, List}
use Rattle.std.specs.List.{list_all}
use Rattle.vs_design.specs.declared.signal.Signal.{Signal}
use Rattle.vs_design.specs.declared.design.Entry.{Entry}
use Rattle.vs_design.specs.declared.design.Entry.TheVariants.{Enter, Declare, Leave}
use Rattle.vs_design.specs.Parts.{Parts}

-- whether no byte is a line feed
abbrev pub is_one_line : List ℕ → Bool
is_one_line bytes = list_all (λ b. not (b == 10)) bytes

-- whether a scope that is opened has a name without line feed
abbrev pub is_one_line_entry : Entry → Bool
is_one_line_entry (Enter kind name) = is_one_line name.items
is_one_line_entry (Declare number) = true
is_one_line_entry Leave = true

-- no printed name of the design holds a line feed (clause 18.2.3)
pub record HasNamesOfOneLine (d : Parts) : Type 0 where
  pub signals : IsTrue (list_all (λ (s : Signal). is_one_line s.name.items) d.signals)
  pub scopes : IsTrue (list_all is_one_line_entry d.outline)
