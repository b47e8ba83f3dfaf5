-- The scopes that are being opened, one inside another.
use Rattle.std.specs.Prelude.{◌≡◌, ◌<◌, ℕ, ◌-◌, List, [], ◌∷◌, ◌++◌, map, take}
use Rattle.vs_syntax.specs.declared.tree.Module.{Module}
use Rattle.vs_scopes.specs.declared.faults.ElabFault.{ElabFault}
use Rattle.vs_scopes.specs.Scopes.{Scope}
use Rattle.vs_scopes.specs.scopes_passes.Answers.{IsReported}
use Rattle.vs_elab_signals.specs.vs_elab_constants.specs.Reads.{read_inner}
use Rattle.vs_elab_signals.specs.declared.opened.ElabScope.{ElabScope as FoundScope}
use Rattle.vs_elab_signals.specs.declared.opened.Numbering.{Numbering}
use Rattle.vs_elab_hierarchy.specs.declared.entering.NamedModule.{NamedModule}
use Rattle.vs_elab_hierarchy.specs.declared.opening.Opening.{Opening}
use Rattle.vs_elab_hierarchy.specs.hierarchy_passes.Opens.{HasInner, HoldsInner, IsReady, OpensInside, OpensInsideNot}

-- a scope that is to be opened whole: those listed so far, of which it is the last, its place, the levels that may be inside it, and the list and the
-- plan before the first scope inside it
pub record Asked : Type 0 where
  pub ms : List Module
  pub ss : List Scope
  pub s : Scope
  pub place : ℕ
  pub depth_left : ℕ
  pub start : List FoundScope
  pub old : Numbering

-- it was opened whole
abbrev pub IsOpenedWhole : Asked → List FoundScope → Numbering → Type 0
IsOpenedWhole a list new = OpensInside a.depth_left a.ms a.ss a.s a.place a.start list a.old new

-- it has a fault inside
abbrev pub HasFault : Asked → ElabFault → Type 0
HasFault a = IsReported (OpensInsideNot a.depth_left a.ms a.s)

-- a scope whose inner ones are opened in turn is this one
pub record IsFor (a : Asked) (modules : List (List ℕ × NamedModule)) (o : Opening) : Type 0 where
  pub some : 0 < a.depth_left
  pub place : o.place ≡ a.place
  pub ready : IsReady a.ms a.ss a.s modules a.start a.old a.place a.depth_left
  pub inner : HasInner a.s (map read_inner o.inner.items)

-- so many of its inner scopes are opened
abbrev pub HasOpened : Asked → Opening → List FoundScope → Numbering → Type 0
HasOpened a o list new = HoldsInner (a.depth_left - 1) a.ms a.ss a.s a.place (map read_inner (take o.opened o.inner.items)) a.start list a.old new

-- the scopes that wait, the innermost last, until this one is opened whole, which is inside the innermost; the outermost is the one that a call asked for
pub data Wait (call : Asked) (modules : List (List ℕ × NamedModule)) : List Opening → Asked → Type 0 where
  for_none : Wait call modules [] call
  for_one : {stack : List Opening} {b : Asked} (rest : List Opening) (o : Opening) (a : Asked) → stack ≡ rest ++ o ∷ [] → IsFor a modules o →
      ((list : List FoundScope) (new : Numbering) → IsOpenedWhole b list new → HasOpened a o list new) →
      ((f : ElabFault) → HasFault b f → HasFault a f) → Wait call modules rest a → Wait call modules stack b

-- the scopes that are being opened, the innermost last: some of the innermost's are opened; where there is none, the one that a call asked for is opened
-- whole
pub data InHand (call : Asked) (modules : List (List ℕ × NamedModule)) : List Opening → List FoundScope → Numbering → Type 0 where
  none_left : {stack : List Opening} {list : List FoundScope} {new : Numbering} → stack ≡ [] → IsOpenedWhole call list new → InHand call modules stack list new
  some_left : {stack : List Opening} {list : List FoundScope} {new : Numbering} (rest : List Opening) (o : Opening) (a : Asked) → stack ≡ rest ++ o ∷ [] →
      IsFor a modules o → HasOpened a o list new → Wait call modules rest a → InHand call modules stack list new
