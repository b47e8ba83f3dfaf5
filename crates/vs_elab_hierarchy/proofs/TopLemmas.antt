-- The top of a source, and the scopes that its scopes are told of.
use Rattle.std.proofs.Common.{◌≡◌, ℕ, suc, ◌+◌, ◌<◌, Bool, false, List, [], ◌∷◌, Some, None, length, get_or, refl, ap, sym, subst, ◌∙◌, arith, true≢false}
use Rattle.std.proofs.Math.ListN.{set}
use Rattle.std.proofs.lemmas.Option.{none-some, same_Some, slice_get-get_or}
use Rattle.vs_syntax.specs.declared.tree.Module.{Module}
use Rattle.vs_scopes.specs.vs_widths.specs.declared.faults.WidthReason.{WidthReason}
use Rattle.vs_elab_constants.specs.vs_widths.specs.Names.{meaning_of, Binds as NamesBind}
use Rattle.vs_scopes.specs.declared.faults.Reason.TheVariants.{Width}
use Rattle.vs_scopes.specs.declared.faults.ElabFault.{ElabFault}
use Rattle.vs_scopes.specs.declared.faults.ParameterRefusal.TheVariants as refusal
use Rattle.vs_scopes.specs.Printed.{plainly}
use Rattle.vs_scopes.specs.Declarations.{Bindings}
use Rattle.vs_scopes.specs.Nets.{permits_nets}
use Rattle.vs_scopes.specs.Parameters.{parameters_of}
use Rattle.vs_scopes.specs.Scopes.{nowhere, module_named, top_scope, deepest}
use Rattle.vs_scopes.specs.scopes_passes.Answers.{IsReported, IsFaultAt}
use Rattle.vs_scopes.proofs.AnswerLemmas.{told_at}
use Rattle.vs_elab_constants.specs.declared.evaluating.ParameterValues.{ParameterValues}
use Rattle.vs_elab_constants.specs.passes.Values.{AreValues, AreNoValues}
use Rattle.vs_elab_constants.proofs.ValueLemmas.{none_outer}
use Rattle.vs_elab_signals.specs.declared.opened.ElabScope.{ElabScope as FoundScope}
use Rattle.vs_elab_signals.specs.declared.opened.Numbering.{Numbering}
use Rattle.vs_elab_signals.specs.Opened.{AreSeated}
use Rattle.vs_elab_signals.specs.ScopeFaults.{top_fault, HasOpeningFault}
use Rattle.vs_elab_hierarchy.specs.declared.entering.NamedModule.{NamedModule}
use Rattle.vs_elab_hierarchy.specs.passes.Blocks.{text_name, HasIndex, with_blocks, AddsBlock, AreIndexedUpTo, AreIndexed}
use Rattle.vs_elab_hierarchy.specs.passes.Entering.{Lists}
use Rattle.vs_elab_hierarchy.specs.scope_passes.Adding.{AddsScope}
use Rattle.vs_elab_hierarchy.specs.scope_passes.Own.{HoldsOwn}
use Rattle.vs_elab_hierarchy.specs.hierarchy_passes.Opens.{IsReady, OpensInside, OpensInsideNot, TopNot, Made}
use Rattle.vs_elab_hierarchy.proofs.FaultLemmas.{own_told}
use Rattle.vs_elab_hierarchy.proofs.SourceLemmas.{top_ready, top_made, opening_told}
use Rattle.vs_elab_hierarchy.proofs.BlockLemmas.{adds_none, adds_one}

-- ---- a module by its name

pub module_permits : (ms : List Module) (top : List ℕ) (names : List (List ℕ × NamedModule)) (m : NamedModule) → Lists ms names → Some m ≡ meaning_of names top → m.nets ≡ permits_nets ms top
module_permits ms top names m l h = l.nets top m (sym h)

-- ---- parameters of the top, around which nothing has a name

pub top_values : (m : Module) (bs : Bindings) (v : ParameterValues) → bs ≡ [] → AreValues (meaning_of bs) None m v → AreValues nowhere None m v
top_values m bs v e h = subst (λ (z : Bindings). AreValues (meaning_of z) None m v) e h

pub top_refused : (m : Module) (bs : Bindings) (w : WidthReason) (e : ElabFault) → bs ≡ [] → AreNoValues (meaning_of bs) None m (refusal.Own w) → IsFaultAt (Width w) (plainly m.name.items ∷ []) e → IsReported (TopNot m) e
top_refused m bs w e eo h f = told_at (TopNot m) (Width w) (plainly m.name.items ∷ []) e (subst (λ (z : Bindings). AreNoValues (meaning_of z) None m (refusal.Own w)) eo h, refl) f

-- nothing overrides the parameters of the top
pub no_mismatch : (m : Module) (bs : Bindings) → AreNoValues (meaning_of bs) None m refusal.Mismatch → ⊥
no_mismatch m bs h = cc

pub no_outer : (m : Module) (bs : Bindings) (w : WidthReason) → AreNoValues (meaning_of bs) None m (refusal.Outer w) → ⊥
no_outer m bs w h = true≢false (sym h ∙ none_outer w (meaning_of bs) (parameters_of m))

-- ---- the top

module _ (ms : List Module) (top : List ℕ) (m : Module) (found : module_named ms top ≡ Some m) (nets : Bool) (permits : nets ≡ permits_nets ms top) (fine : (w : WidthReason) → top_fault w m ≡ false) where
  -- a fault of the top's own members is one of the source
  pub top_own : (e : ElabFault) → IsReported (HoldsOwn (top_scope nets m)) e → IsReported (HasOpeningFault ms top) e
  top_own e h = opening_told ms top m found nets permits fine e (own_told deepest ms (top_scope nets m) e h)

  -- so many levels may be inside the top
  pub ready_with : (depth_left : ℕ) (names : List (List ℕ × NamedModule)) (list0 list : List FoundScope) (p0 p1 : Numbering) (o : FoundScope) → depth_left ≡ deepest → Lists ms names → AddsScope [] (top_scope nets m) o list0 list p0 p1 → IsReady ms (top_scope nets m ∷ []) (top_scope nets m) names list p1 0 depth_left
  ready_with depth_left names list0 list p0 p1 o e l h = subst (IsReady ms (top_scope nets m ∷ []) (top_scope nets m) names list p1 0) (sym e) (top_ready ms top m found nets permits fine names list0 list p0 p1 o l h)

  pub made_with : (depth_left : ℕ) (names : List (List ℕ × NamedModule)) (list0 list1 list : List FoundScope) (p0 p1 plan : Numbering) (o : FoundScope) → depth_left ≡ deepest → Lists ms names → p0.outline.items ≡ [] → AddsScope [] (top_scope nets m) o list0 list1 p0 p1 →
      OpensInside depth_left ms (top_scope nets m ∷ []) (top_scope nets m) 0 list1 list p1 plan → Made ms top list plan
  made_with depth_left names list0 list1 list p0 p1 plan o e l empty a h =
      top_made ms top m found nets permits fine names list0 list1 list p0 p1 plan o l empty a (subst (λ k. OpensInside k ms (top_scope nets m ∷ []) (top_scope nets m) 0 list1 list p1 plan) e h)

  pub opening_with : (depth_left : ℕ) (e : ElabFault) → depth_left ≡ deepest → IsReported (OpensInsideNot depth_left ms (top_scope nets m)) e → IsReported (HasOpeningFault ms top) e
  opening_with depth_left e k h = opening_told ms top m found nets permits fine e (subst (λ n. IsReported (OpensInsideNot n ms (top_scope nets m)) e) k h)

-- ---- the index

-- scopes around stand before those inside
pub seated_index : (list : List FoundScope) → AreSeated list → (place : ℕ) → place < length list → HasIndex list place
seated_index list h place l = (l, λ o k e a. (let small : k < place = h.around place k o e a in omega (arith, small, l)))

-- the scope around one at a place is in the list
pub index_below : (list : List FoundScope) (place k : ℕ) (d : FoundScope) → HasIndex list place → (get_or list place d).around ≡ Some k → k < length list
index_below list place k d h e = h.1 (get_or list place d) k (slice_get-get_or list place d h.0) e

-- a scope that stands in no other one
pub adds_outermost : (list : List FoundScope) (place : ℕ) (d : FoundScope) → HasIndex list place → (get_or list place d).around ≡ None → AddsBlock place list list
adds_outermost list place d h e = adds_none place list (get_or list place d) (slice_get-get_or list place d h.0) (λ k n a t. none-some k (sym e ∙ a))

-- a scope whose name isn't one of the text
pub adds_unnamed : (list : List FoundScope) (place : ℕ) (d : FoundScope) → HasIndex list place → text_name (get_or list place d).title ≡ None → AddsBlock place list list
adds_unnamed list place d h e = adds_none place list (get_or list place d) (slice_get-get_or list place d h.0) (λ k n a t. none-some n (sym e ∙ t))

-- one that is told to the scope around it
pub adds_named : (list : List FoundScope) (place around : ℕ) (d e b : FoundScope) (n : List ℕ) (bs : List (List ℕ × ℕ)) → HasIndex list place → (get_or list place d).around ≡ Some around → text_name (get_or list place e).title ≡ Some n →
    NamesBind (get_or list around b).blocks bs n place → AddsBlock place list (set list around (with_blocks (get_or list around b) bs))
adds_named list place around d e b n bs h a t f start i =
    let here = slice_get-get_or list place d h.0 in
    let same : get_or list place e ≡ get_or list place d = same_Some (get_or list place e) (get_or list place d) (sym (slice_get-get_or list place e h.0) ∙ here) in
    adds_one place around list (get_or list around b) (get_or list place d) n bs here a (ap (λ (z : FoundScope). text_name z.title) (sym same) ∙ t) (slice_get-get_or list around b (index_below list place around d h a)) f start i
    (set list around (with_blocks (get_or list around b) bs)) refl

pub indexed_more : (start old new : List FoundScope) (place : ℕ) → AddsBlock place old new → AreIndexedUpTo start place old → AreIndexedUpTo start (place + 1) new
indexed_more start old new place f h = subst (λ z. AreIndexedUpTo start z new) (let e : suc place ≡ place + 1 = omega arith in e) (f start h)

pub indexed_all : (start new : List FoundScope) (place : ℕ) → place ≡ length start → AreIndexedUpTo start place new → AreIndexed start new
indexed_all start new place e h = subst (λ z. AreIndexedUpTo start z new) e h
