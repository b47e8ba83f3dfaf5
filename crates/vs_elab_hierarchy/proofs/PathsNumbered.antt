-- Scopes are numbered in design order, and so are their signals, instances and turns.
use Rattle.std.proofs.Common.{◌≡◌, ℕ, zero, suc, Bool, true, false, List, [], ◌∷◌, ◌++◌, Option, Some, None, length, take, filter, refl, ap, sym, subst, ◌∙◌, zero-add}
use Rattle.std.specs.List.{slice_get}
use Rattle.std.proofs.lemmas.Option.{none-some, same_Some}
use Rattle.vs_syntax.specs.declared.tree.Module.{Module}
use Rattle.vs_scopes.specs.Generate.{Inner}
use Rattle.vs_scopes.specs.Nets.{permits_nets}
use Rattle.vs_scopes.specs.Scopes.{Scope, Before, before, before_following, within_first, inner_of, module_named, opened, of_opened, below, scopes_within, signal_count, instance_count, turn_count, deepest, opened_top, scopes_of}
use Rattle.vs_elab_hierarchy.specs.Laws.{ScopesAreNumbered}
use Rattle.vs_elab_hierarchy.proofs.PathsOpened.{what_is_opened, nothing_before, what_is_opened_top}
use Rattle.vs_elab_hierarchy.proofs.AddLemmas.{behind_append, behind_none}

-- ---- numbered scopes

-- scopes with so much before the first of them
abbrev pub AreNumbered : Before → List Scope → Type 0
AreNumbered at [] = Unit
AreNumbered at (s ∷ ss) = (before s ≡ at) × AreNumbered (before_following at (s ∷ [])) ss

numbered_append : (at : Before) (xs ys : List Scope) → AreNumbered at xs → AreNumbered (before_following at xs) ys → AreNumbered at (xs ++ ys)
numbered_append at [] ys h k = subst (λ b. AreNumbered b ys) (behind_none at) k
numbered_append at (x ∷ xs) ys h k = (h.0, numbered_append (before_following at (x ∷ [])) xs ys h.1 (subst (λ b. AreNumbered b ys) (behind_append at (x ∷ []) xs) k))

module _ (ms : List Module) (f : Scope → List Scope) (inside : (t : Scope) → AreNumbered (before t) (f t)) (s : Scope) where
  opened_numbered : (at : Before) (x : Inner) (o : Option Scope) → opened ms s at x ≡ o → AreNumbered at (of_opened f o)
  opened_numbered at x None e = tt
  opened_numbered at x (Some t) e = subst (λ b. AreNumbered b (f t)) (what_is_opened ms s at x t e).before (inside t)

  below_numbered : (at : Before) (xs : List Inner) → AreNumbered at (below ms f s at xs)
  below_numbered at [] = tt
  below_numbered at (x ∷ xs) =
      let inner = of_opened f (opened ms s at x) in
      numbered_append at inner (below ms f s (before_following at inner) xs) (opened_numbered at x (opened ms s at x) refl) (below_numbered (before_following at inner) xs)

pub within_numbered : (n : ℕ) (ms : List Module) (s : Scope) → AreNumbered (before s) (scopes_within n ms s)
unfolding scopes_within
within_numbered zero ms s = (refl, tt)
within_numbered (suc n) ms s = (refl, below_numbered ms (scopes_within n ms) (within_numbered n ms) s (within_first s) (inner_of s))

top_numbered : (n : ℕ) (ms : List Module) (nets : Bool) (o : Option Module) (t : Option Scope) → opened_top nets o ≡ t → AreNumbered nothing_before (of_opened (scopes_within n ms) t)
top_numbered n ms nets o None e = tt
top_numbered n ms nets o (Some s) e = subst (λ b. AreNumbered b (scopes_within n ms s)) (what_is_opened_top nets o s e).1.before (within_numbered n ms s)

-- what stands before the scope at a place
numbers_at : (at : Before) (ss : List Scope) (i : ℕ) (s : Scope) → AreNumbered at ss → slice_get ss i ≡ Some s → before s ≡ before_following at (take i ss)
numbers_at at [] i s h e = absurd (none-some s e)
numbers_at at (x ∷ ss) zero s h e = subst (λ z. before z ≡ before_following at []) (same_Some x s e) (h.0 ∙ sym (behind_none at))
numbers_at at (x ∷ ss) (suc i) s h e = numbers_at (before_following at (x ∷ [])) ss i s h.1 e ∙ sym (behind_append at (x ∷ []) (take i ss))

-- how many scopes stand before a place
place_of : {A : Type 0} (xs : List A) (i : ℕ) (x : A) → slice_get xs i ≡ Some x → length (take i xs) ≡ i
place_of [] i x e = absurd (none-some x e)
place_of (y ∷ ys) zero x e = refl
place_of (y ∷ ys) (suc i) x e = ap suc (place_of ys i x e)

pub scopes_are_numbered : ScopesAreNumbered
scopes_are_numbered ms top i s e =
    let ss = scopes_of ms top in
    let at = numbers_at nothing_before ss i s (top_numbered deepest ms (permits_nets ms top) (module_named ms top) (opened_top (permits_nets ms top) (module_named ms top)) refl) e in (
      ap (λ (b : Before). b.scopes) at ∙ zero-add (length (take i ss)) ∙ place_of ss i s e,
      ap (λ (b : Before). b.signals) at ∙ zero-add (signal_count (take i ss)),
      ap (λ (b : Before). b.instances) at ∙ zero-add (instance_count (take i ss)),
      ap (λ (b : Before). b.turns) at ∙ zero-add (turn_count (take i ss)),
    )
