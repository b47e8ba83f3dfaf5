-- Each scope of a source is its top, or stands in another scope.
use Rattle.std.proofs.Common.{◌≡◌, ℕ, zero, suc, ◌⊎◌, inl, inr, ⊎_elim, Bool, List, [], ◌∷◌, ◌++◌, Option, Some, None, refl, subst}
use Rattle.std.specs.List.{slice_get}
use Rattle.std.proofs.lemmas.Option.{none-some, same_Some}
use Rattle.vs_syntax.specs.declared.tree.Module.{Module}
use Rattle.vs_scopes.specs.Generate.{Inner}
use Rattle.vs_scopes.specs.Nets.{permits_nets}
use Rattle.vs_scopes.specs.Scopes.{Scope, Before, before_following, within_first, inner_of, module_named, opened, of_opened, below, scopes_within, deepest, opened_top, scopes_of}
use Rattle.vs_elab_hierarchy.specs.Laws.{IsWithin, IsTop, ScopesAreNested}
use Rattle.vs_elab_hierarchy.proofs.PathsOpened.{what_is_opened, what_is_opened_top}

-- a scope stands at a place of a list
record IsScopeAmong (ss : List Scope) (s : Scope) : Type 0 where
  place : ℕ
  is : slice_get ss place ≡ Some s

listed_right : (xs ys : List Scope) (s : Scope) → IsScopeAmong ys s → IsScopeAmong (xs ++ ys) s
listed_right [] ys s h = h
listed_right (x ∷ xs) ys s h = let rest = listed_right xs ys s h in record { place = suc rest.place; is = rest.is }

left_at : (xs ys : List Scope) (s : Scope) (i : ℕ) → slice_get xs i ≡ Some s → slice_get (xs ++ ys) i ≡ Some s
left_at [] ys s i e = absurd (none-some s e)
left_at (x ∷ xs) ys s zero e = e
left_at (x ∷ xs) ys s (suc i) e = left_at xs ys s i e

listed_left : (xs ys : List Scope) (s : Scope) → IsScopeAmong xs s → IsScopeAmong (xs ++ ys) s
listed_left xs ys s h = record { place = h.place; is = left_at xs ys s h.place h.is }

listed_later : (x : Scope) (xs : List Scope) (s : Scope) → IsScopeAmong xs s → IsScopeAmong (x ∷ xs) s
listed_later x xs s h = record { place = suc h.place; is = h.is }

-- a scope that is listed in two lists, one behind the other, is so in one of the two
listed_either : (xs ys : List Scope) (s : Scope) (i : ℕ) → slice_get (xs ++ ys) i ≡ Some s → IsScopeAmong xs s ⊎ IsScopeAmong ys s
listed_either [] ys s i e = inr (record { place = i; is = e })
listed_either (x ∷ xs) ys s zero e = inl (record { place = zero; is = e })
listed_either (x ∷ xs) ys s (suc i) e = ⊎_elim (λ h. inl (listed_later x xs s h)) (λ h. inr h) (listed_either xs ys s i e)

-- a scope stands in one of these
record IsInOne (all : List Scope) (s : Scope) : Type 0 where
  outer : Scope
  around : IsScopeAmong all outer
  is : IsWithin outer s

-- a scope is a top, or stands in one of these
abbrev IsPlaced : List Scope → Scope → Type 0
IsPlaced all s = IsTop s ⊎ IsInOne all s

-- these scopes are among those
abbrev AreAmong : List Scope → List Scope → Type 0
AreAmong ss all = (s : Scope) → IsScopeAmong ss s → IsScopeAmong all s

module _ (ms : List Module) (all : List Scope) (f : Scope → List Scope) (inside : (t : Scope) → AreAmong (f t) all → IsPlaced all t → (s : Scope) → IsScopeAmong (f t) s → IsPlaced all s) (s : Scope) (known : IsScopeAmong all s) where
  opened_placed : (at : Before) (x : Inner) (o : Option Scope) → opened ms s at x ≡ o → AreAmong (of_opened f o) all → (t : Scope) → IsScopeAmong (of_opened f o) t → IsPlaced all t
  opened_placed at x None e among t h = absurd (none-some t h.is)
  opened_placed at x (Some z) e among t h =
      inside z among (inr (record { outer = s; around = known; is = (what_is_opened ms s at x z e).within })) t h

  below_placed : (at : Before) (xs : List Inner) → AreAmong (below ms f s at xs) all → (t : Scope) → IsScopeAmong (below ms f s at xs) t → IsPlaced all t
  below_placed at [] among t h = absurd (none-some t h.is)
  below_placed at (x ∷ xs) among t h =
      let o = opened ms s at x in
      let inner = of_opened f o in
      let others = below ms f s (before_following at inner) xs in
      ⊎_elim (opened_placed at x o refl (λ z k. among z (listed_left inner others z k)) t)
      (below_placed (before_following at inner) xs (λ z k. among z (listed_right inner others z k)) t)
      (listed_either inner others t h.place h.is)

first_placed : (all ss : List Scope) (s t : Scope) → IsPlaced all s → (IsScopeAmong ss t → IsPlaced all t) → (i : ℕ) → slice_get (s ∷ ss) i ≡ Some t → IsPlaced all t
first_placed all ss s t p rest zero e = subst (IsPlaced all) (same_Some s t e) p
first_placed all ss s t p rest (suc i) e = rest (record { place = i; is = e })

within_placed : (n : ℕ) (ms : List Module) (all : List Scope) (s : Scope) → AreAmong (scopes_within n ms s) all → IsPlaced all s → (t : Scope) → IsScopeAmong (scopes_within n ms s) t → IsPlaced all t
unfolding scopes_within
within_placed zero ms all s among p t h = first_placed all [] s t p (λ k. absurd (none-some t k.is)) h.place h.is
within_placed (suc n) ms all s among p t h =
    let scopes = below ms (scopes_within n ms) s (within_first s) (inner_of s) in
    let known : IsScopeAmong all s = among s (record { place = zero; is = refl }) in
    first_placed all scopes s t p (below_placed ms all (scopes_within n ms) (within_placed n ms all) s known (within_first s) (inner_of s) (λ x k. among x (listed_later s scopes x k)) t) h.place h.is

top_placed : (n : ℕ) (ms : List Module) (nets : Bool) (o : Option Module) (t : Option Scope) → opened_top nets o ≡ t → (s : Scope) → IsScopeAmong (of_opened (scopes_within n ms) t) s → IsPlaced (of_opened (scopes_within n ms) t) s
top_placed n ms nets o None e s h = absurd (none-some s h.is)
top_placed n ms nets o (Some t) e s h = within_placed n ms (scopes_within n ms t) t (λ x k. k) (inl (what_is_opened_top nets o t e).1.top) s h

pub scopes_are_nested : ScopesAreNested
scopes_are_nested ms top i s e =
    ⊎_elim (λ t. inl t) (λ (t : IsInOne (scopes_of ms top) s). inr (t.around.place, t.outer, t.around.is, t.is))
    (top_placed deepest ms (permits_nets ms top) (module_named ms top) (opened_top (permits_nets ms top) (module_named ms top)) refl s (record { place = i; is = e }))
