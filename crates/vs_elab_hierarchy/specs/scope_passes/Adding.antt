-- Scopes that are listed, one at a time.
use Rattle.std.specs.Prelude.{◌≡◌, ℕ, ◌+◌, ◌≤◌, ◌⊎◌, List, [], ◌∷◌, ◌++◌, Some, length, map, slice_get, if◌then◌else◌}
use Rattle.std.specs.List.{flat_map, All}
use Rattle.vs_syntax.specs.declared.tree.Module.{Module}
use Rattle.vs_design.specs.declared.design.ScopeKind.{ScopeKind}
use Rattle.vs_scopes.specs.declared.faults.Reason.{Reason}
use Rattle.vs_scopes.specs.Printed.{Path}
use Rattle.vs_scopes.specs.Declarations.{Bindings}
use Rattle.vs_scopes.specs.Generate.{Inner}
use Rattle.vs_scopes.specs.Scopes.{Scope, Before, instance_count, turn_count, is_instance, opened, within_first}
use Rattle.vs_elab_signals.specs.declared.opened.ElabScope.{ElabScope as FoundScope}
use Rattle.vs_elab_signals.specs.declared.opened.Numbering.{Numbering}
use Rattle.vs_elab_signals.specs.Outlines.{declared, signals_of}
use Rattle.vs_elab_signals.specs.Opened.{AreOpened, AreSeated}
use Rattle.vs_elab_hierarchy.specs.declared.entering.NamedModule.{NamedModule}
use Rattle.vs_elab_hierarchy.specs.passes.Blocks.{IsTitled}
use Rattle.vs_elab_hierarchy.specs.passes.Entering.{Lists, before_next, EntersNot, IsSoundInner}
use Rattle.vs_elab_hierarchy.specs.scope_passes.Own.{IsSoundOwn, HoldsOwn, own_lines, AddsLines, EntersLast}

-- the scopes so far, which have no fault of their own members, with what there is of a design
pub record IsPlanned (list : List FoundScope) (plan : Numbering) (ss : List Scope) : Type 0 where
  pub opened : AreOpened list ss
  pub seated : AreSeated list
  pub blocks : All (λ (o : FoundScope). o.blocks ≡ []) list
  pub sound : All IsSoundOwn ss
  pub instances : plan.instances ≡ instance_count ss
  pub turns : plan.turns ≡ turn_count ss
  pub shown : map declared plan.signals.items ≡ flat_map signals_of ss
  pub room : length plan.signals.items ≤ 65536
  pub few_instances : plan.instances ≤ 16385
  pub few_turns : plan.turns ≤ 65536

-- the scope that is to follow these, with as many signals before it as a plan has
pub record IsNext (ss : List Scope) (plan : Numbering) (o : FoundScope) (s : Scope) : Type 0 where
  pub last : EntersLast ss o s
  pub base : s.base ≡ length plan.signals.items
  pub blocks : o.blocks ≡ []

-- a plan with room for one more instance
abbrev pub HasRoomToCount : Numbering → Type 0
HasRoomToCount plan = plan.instances ≤ 16385

-- a scope of this kind was counted, with so many turns behind it
pub record CountsOne (kind : ScopeKind) (turns : ℕ) (old new : Numbering) : Type 0 where
  pub instances : new.instances ≡ old.instances + (if is_instance kind then 1 else 0)
  pub all_turns : new.turns ≡ turns
  pub signals : new.signals ≡ old.signals
  pub outline : new.outline ≡ old.outline

-- a scope with its names
abbrev pub with_names : FoundScope → Bindings → FoundScope
with_names o ns = record o { names = ns }

-- a scope that was listed behind these, with its names
pub record AddsScope (ss : List Scope) (s : Scope) (o : FoundScope) (start list : List FoundScope) (old new : Numbering) : Type 0 where
  pub planned : IsPlanned list new (ss ++ s ∷ [])
  pub lines : AddsLines (own_lines s) old new
  pub next : before_next list new ≡ within_first s
  pub added : FoundScope
  pub grown : list ≡ start ++ added ∷ []
  pub around : added.around ≡ o.around
  pub title : added.title ≡ o.title

-- the scope that an instance or a block in the scope at a place opens was listed behind these
pub record AddsInner (ms : List Module) (ss : List Scope) (s : Scope) (place : ℕ) (at : Before) (x : Inner) (start list : List FoundScope) (old new : Numbering) : Type 0 where
  pub sound : IsSoundInner ms s x
  pub inner : Scope
  pub opens : opened ms s at x ≡ Some inner
  pub o : FoundScope
  pub around : o.around ≡ Some place
  pub title : IsTitled x o.title
  pub adds : AddsScope ss inner o start list old new

-- the same, at a place of its own
abbrev pub AddsInnerAt : List Module → List Scope → Scope → ℕ → Before → Inner → List FoundScope → List FoundScope → Numbering → Numbering → ℕ → Type 0
AddsInnerAt ms ss s place at x start list old new next = (next ≡ length ss) × AddsInner ms ss s place at x start list old new

-- why it wasn't: it opens none, or that has a fault of its own members
abbrev pub AddsInnerNot : List Module → Scope → Before → Inner → Reason → Path → Type 0
AddsInnerNot ms s at x r p = EntersNot ms s x r p ⊎ ((inner : Scope) × (opened ms s at x ≡ Some inner) × HoldsOwn inner r p)

-- a place in a list that stands for scopes, where a scope may be added
pub record IsHolding (ms : List Module) (ss : List Scope) (s : Scope) (modules : List (List ℕ × NamedModule)) (list : List FoundScope) (plan : Numbering) (place : ℕ) : Type 0 where
  pub lists : Lists ms modules
  pub planned : IsPlanned list plan ss
  pub stands : slice_get ss place ≡ Some s
