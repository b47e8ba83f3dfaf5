-- Variables that a process is sure to change in the first slot.
use Rattle.std.specs.Prelude.{ℕ, suc, ◌≡◌, ◌↔◌, ◌⊎◌, false, List, []}
use Rattle.std.specs.List.{Contains}
use Rattle.vs_design.specs.declared.range.BitRange.{BitRange}
use Rattle.vs_design.specs.declared.statement.EventTerm.{EventTerm}
use Rattle.vs_design.specs.Parts.{Parts}
use Rattle.vs_rules_of_starts.specs.vs_process.specs.Places.{Todo}
use Rattle.vs_rules_of_starts.specs.vs_process.specs.Steps.{after, wait}
use Rattle.vs_rules.specs.Points.{Goes}
use Rattle.vs_rules.specs.Claims.{Claims, IsWriter}
use Rattle.vs_rules.specs.Paths.{HasTerm, IsSlot0, WritesAny, Writes}
use Rattle.vs_rules.specs.Drivers.{IsSource}
use Rattle.vs_rules.specs.Blocks.{MayStart as MayBegin, Begins, CopiesWhole, IsStarted, Missing}

-- on every path something of the sort is done before the end and before each control that takes time
pub record EndsNowhere (d : Parts) (b g w : ℕ) : Type 0 where
  pub before_end : Missing d b g w [] → ⊥
  pub before_delay : (k l : Todo) (number ticks : ℕ) → Missing d b g w k → Goes k (after number (suc ticks) l) → ⊥
  pub before_wait : (k l : Todo) (number : ℕ) (terms : List EventTerm) → Missing d b g w k → Goes k (wait number terms l) → ⊥

-- each write of the variable in the first slot is of the sort, and one is sure to be made
pub record StartsFor (d : Parts) (i g w : ℕ) : Type 0 where
  pub only : (k : Todo) → IsSlot0 d false w k → WritesAny d k g → Begins d i g k
  pub ends : EndsNowhere d i g w

-- these are the terms of the event controls of a process
abbrev pub AreTerms : Parts → ℕ → List EventTerm → Type 0
AreTerms d i terms = (t : EventTerm) → (Contains terms t ↔ HasTerm d i t)

-- the range of a term of a signal that is the variable, or copies it
pub record IsOf (d : Parts) (g : ℕ) (terms : List EventTerm) (r : BitRange) : Type 0 where
  pub term : EventTerm
  pub listed : Contains terms term
  pub is : term.range ≡ r
  pub copies : CopiesWhole d g r.signal

-- a process is claimed to write the variable, of a mode and of a kind that may start
pub record MayStart (d : Parts) (c : Claims) (g w : ℕ) : Type 0 where
  pub may : MayBegin d c g w
  pub writer : IsWriter d c g w

-- some process is sure to change the variable for the block
abbrev pub IsStartedBy : Parts → Claims → ℕ → ℕ → Type 0
IsStartedBy d c i g = (w : ℕ) × IsStarted d c i g w

-- a term is of a source, or of what the block itself writes
abbrev pub IsOfSource : Parts → Claims → ℕ → EventTerm → Type 0
IsOfSource d c i t = IsSource d c t.range.signal ⊎ Writes d i t.range.signal
