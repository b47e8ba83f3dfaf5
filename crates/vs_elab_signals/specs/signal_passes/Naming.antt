-- Names of a scope that are bound.
use Rattle.std.specs.Prelude.{◌≡◌, ℕ, Bool, List, [], ◌∷◌, ◌++◌, reverse}
use Rattle.std.specs.List.{IsDistinct}
use Rattle.std.specs.Str.{bytes_eq}
use Rattle.vs_elab_signals.specs.vs_widths.specs.Names.{meaning_of}
use Rattle.vs_scopes.specs.declared.faults.Reason.{Reason}
use Rattle.vs_scopes.specs.declared.faults.Reason.TheVariants.{DeclaredTwice}
use Rattle.vs_scopes.specs.Printed.{plainly, Path}
use Rattle.vs_scopes.specs.Declarations.{Bindings, each_once}
use Rattle.vs_scopes.specs.Scopes.{keys}
use Rattle.vs_scopes.specs.scopes_passes.Parts.{IsSet}
use Rattle.vs_elab_signals.specs.ScopeFaults.{Repeated}

-- names that are bound to these, each once
pub record Bound (names bs : Bindings) : Type 0 where
  pub means : (n : List ℕ) → meaning_of names n ≡ meaning_of bs n
  pub distinct : IsDistinct bytes_eq (keys bs)

-- the same, behind others
abbrev pub BoundAfter : Bindings → Bindings → Bindings → Type 0
BoundAfter names before done = Bound names (before ++ done)

-- why names of the scope of a path aren't bound: one is declared twice
abbrev pub BoundNot : Path → Bindings → Bindings → Reason → Path → Type 0
BoundNot at before bs DeclaredTwice p = (n : List ℕ) × (p ≡ at ++ plainly n ∷ []) × Repeated (keys (before ++ bs)) n
BoundNot at before bs _ p = ⊥

-- these names, to look one up among them, and each of them once, from the last on
pub record KeepsOnce (ns : List (List ℕ)) (there : List (List ℕ × Bool)) (kept : List (List ℕ)) : Type 0 where
  pub names_there : IsSet ns there
  pub once : reverse kept ≡ each_once ns
