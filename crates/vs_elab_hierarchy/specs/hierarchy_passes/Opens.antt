-- What is listed of scopes, a pass at a time.
use Rattle.std.specs.Prelude.{◌≡◌, ℕ, zero, suc, ◌+◌, ◌⊎◌, Bool, true, false, List, [], ◌∷◌, ◌++◌, Some, length, slice_get}
use Rattle.std.specs.List.{list_any, All, AllZip, IsDistinct}
use Rattle.std.specs.Str.{bytes_eq}
use Rattle.vs_syntax.specs.declared.tree.Module.{Module}
use Rattle.vs_scopes.specs.vs_widths.specs.declared.faults.WidthReason.{WidthReason}
use Rattle.vs_scopes.specs.declared.faults.Reason.{Reason}
use Rattle.vs_scopes.specs.declared.faults.Reason.TheVariants.{Width}
use Rattle.vs_scopes.specs.Printed.{plainly, Path}
use Rattle.vs_scopes.specs.Generate.{Inner, constructs_fault}
use Rattle.vs_scopes.specs.Scopes.{Scope, environment, text_names, inner_of, is_named_as_net, module_named, top_scope, within_first, below, scopes_within, scopes_of}
use Rattle.vs_elab_signals.specs.declared.opened.ElabScope.{ElabScope as FoundScope}
use Rattle.vs_elab_signals.specs.declared.opened.Numbering.{Numbering}
use Rattle.vs_elab_signals.specs.Outlines.{Line, leave, outline_within, outline_below, outline_of, IsEntry}
use Rattle.vs_elab_signals.specs.ScopeFaults.{HasConstructFault, HoldsOpeningIn, top_fault}
use Rattle.vs_elab_signals.specs.Opened.{IsScopeOf}
use Rattle.vs_elab_hierarchy.specs.vs_elab_signals.specs.nets_passes.Nets.{IsNamedAsNet}
use Rattle.vs_elab_hierarchy.specs.declared.entering.NamedModule.{NamedModule}
use Rattle.vs_elab_hierarchy.specs.passes.Blocks.{HasEachNamed, AreNamed, Extends}
use Rattle.vs_elab_hierarchy.specs.passes.Entering.{Lists, before_next, IsSoundInner, module_names}
use Rattle.vs_elab_hierarchy.specs.scope_passes.Own.{AddsLines}
use Rattle.vs_elab_hierarchy.specs.scope_passes.Adding.{IsPlanned}

-- ---- scopes inside a scope

-- generate constructs of a scope that have no fault, and what opens the scopes in it
pub record FindsInner (s : Scope) (xs : List Inner) : Type 0 where
  pub sound : (r : Reason) → constructs_fault r (environment s) (text_names s) 1 s.pieces ≡ false
  pub same : xs ≡ inner_of s

-- the same, where no block has the name of an implicit net
pub record HasInner (s : Scope) (xs : List Inner) : Type 0 where
  pub found : FindsInner s xs
  pub nets : list_any (is_named_as_net s) xs ≡ false

-- why a scope doesn't: a construct has a fault, or a block has such a name
abbrev pub HasInnerNot : Scope → Reason → Path → Type 0
HasInnerNot s r p = HasConstructFault s r p ⊎ IsNamedAsNet s (inner_of s) r p

-- a scope whose instances and blocks have no fault
pub record IsSoundInside (ms : List Module) (s : Scope) : Type 0 where
  pub constructs : (r : Reason) → constructs_fault r (environment s) (text_names s) 1 s.pieces ≡ false
  pub inner : All (IsSoundInner ms s) (inner_of s)
  pub nets : list_any (is_named_as_net s) (inner_of s) ≡ false

-- the scopes inside a scope, down to so many levels
abbrev pub scopes_inside : ℕ → List Module → Scope → List Scope
scopes_inside zero ms s = []
scopes_inside (suc n) ms s = below ms (scopes_within n ms) s (within_first s) (inner_of s)

-- the lines of the outline of a scope behind its own
abbrev pub lines_inside : ℕ → List Module → Scope → List Line
lines_inside zero ms s = leave ∷ []
lines_inside (suc n) ms s = outline_below ms (scopes_within n ms) (outline_within n ms) s (within_first s) (inner_of s) ++ leave ∷ []

-- The last of these scopes is about to be opened: so many levels may be inside.
pub record IsReady (ms : List Module) (ss : List Scope) (s : Scope) (modules : List (List ℕ × NamedModule)) (list : List FoundScope) (plan : Numbering) (place depth_left : ℕ) : Type 0 where
  pub lists : Lists ms modules
  pub planned : IsPlanned list plan ss
  pub stands : slice_get ss place ≡ Some s
  pub last : length ss ≡ suc place
  pub next : before_next list plan ≡ within_first s
  pub levels : length s.path + depth_left ≡ 16449

-- the scopes inside the scope at a place were listed behind these
pub record OpensInside (depth_left : ℕ) (ms : List Module) (ss : List Scope) (s : Scope) (place : ℕ) (start list : List FoundScope) (old new : Numbering) : Type 0 where
  pub planned : IsPlanned list new (ss ++ scopes_inside depth_left ms s)
  pub sound : All (IsSoundInside ms) (s ∷ scopes_inside depth_left ms s)
  pub named : AreNamed list place (s ∷ scopes_inside depth_left ms s)
  pub extends : Extends start list
  pub lines : AddsLines (lines_inside depth_left ms s) old new

-- the first instances and blocks in the scope at a place were opened
pub record HoldsInner (n : ℕ) (ms : List Module) (ss : List Scope) (s : Scope) (place : ℕ) (done : List Inner) (start list : List FoundScope) (old new : Numbering) : Type 0 where
  pub planned : IsPlanned list new (ss ++ below ms (scopes_within n ms) s (within_first s) done)
  pub sound_inner : All (IsSoundInner ms s) done
  pub sound : All (IsSoundInside ms) (below ms (scopes_within n ms) s (within_first s) done)
  pub named_here : HasEachNamed list place done
  pub named : AreNamed list (suc place) (below ms (scopes_within n ms) s (within_first s) done)
  pub extends : Extends start list
  pub lines : AddsLines (outline_below ms (scopes_within n ms) (outline_within n ms) s (within_first s) done) old new

-- why they weren't: a fault stands in one of them
abbrev pub OpensInsideNot : ℕ → List Module → Scope → Reason → Path → Type 0
OpensInsideNot depth_left ms s r p = HoldsOpeningIn ms (scopes_within depth_left ms s) r p

-- ---- the top

-- the scope of the top, which may have implicit nets or not
pub record IsTop (nets : Bool) (m : Module) (o : FoundScope) : Type 0 where
  pub entered : IsScopeOf (top_scope nets m ∷ []) o (top_scope nets m)
  pub blocks : o.blocks ≡ []
  pub parameters : (w : WidthReason) → top_fault w m ≡ false

-- why there is none: a parameter has a fault
abbrev pub TopNot : Module → Reason → Path → Type 0
TopNot m (Width w) p = (top_fault w m ≡ true) × (p ≡ plainly m.name.items ∷ [])
TopNot m _ p = ⊥

-- all scopes were listed
pub record Made (ms : List Module) (top : List ℕ) (list : List FoundScope) (plan : Numbering) : Type 0 where
  pub modules : IsDistinct bytes_eq (module_names ms)
  pub body : Module
  pub found : module_named ms top ≡ Some body
  pub parameters : (w : WidthReason) → top_fault w body ≡ false
  pub planned : IsPlanned list plan (scopes_of ms top)
  pub sound : All (IsSoundInside ms) (scopes_of ms top)
  pub named : AreNamed list 0 (scopes_of ms top)
  pub outline : AllZip IsEntry plan.outline.items (outline_of ms top)
