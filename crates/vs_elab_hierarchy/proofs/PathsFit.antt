-- The turns in paths of scopes and of signals have numbers that fit.
use Rattle.std.proofs.Common.{◌≡◌, ℕ, zero, suc, Bool, List, [], ◌∷◌, ◌++◌, Option, Some, None, map, refl, sym, subst}
use Rattle.std.specs.List.{AllByRecursion}
use Rattle.std.proofs.lemmas.List.Elements.{All-from_recursion}
use Rattle.vs_syntax.specs.declared.tree.Module.{Module}
use Rattle.vs_scopes.specs.Printed.{PathName, plainly, Path}
use Rattle.vs_scopes.specs.Generate.{Inner}
use Rattle.vs_scopes.specs.Nets.{permits_nets}
use Rattle.vs_scopes.specs.Scopes.{Scope, named, names_of, module_named, Before, before_following, within_first, inner_of, opened, of_opened, below, scopes_within, deepest, opened_top, signal_paths, scopes_of}
use Rattle.vs_elab_hierarchy.specs.Laws.{FitsTurn, HasTurnsThatFit, scope_paths, TurnsFit}
use Rattle.vs_elab_hierarchy.proofs.PathsLists.{each_more, each_append}
use Rattle.vs_elab_hierarchy.proofs.PathsOpened.{title_of, what_is_opened, what_is_opened_top}
use Rattle.vs_elab_hierarchy.proofs.TitleLemmas.{titles_fit}

-- the turns of a path have numbers that fit
abbrev Fits : Path → Type 0
Fits p = AllByRecursion (λ (n : PathName). FitsTurn n.turn) p

-- a scope has such a path
abbrev Fitting : Scope → Type 0
Fitting s = Fits s.path

one_further : (p : Path) (n : PathName) → Fits p → FitsTurn n.turn → Fits (p ++ n ∷ [])
one_further p n h k = each_append (λ (n : PathName). FitsTurn n.turn) p (n ∷ []) h (k, tt)

module _ (ms : List Module) (f : Scope → List Scope) (inside : (t : Scope) → Fitting t → AllByRecursion Fitting (f t)) (s : Scope) (own : Fitting s) where
  opened_fit : (at : Before) (x : Inner) (o : Option Scope) → opened ms s at x ≡ o → FitsTurn (title_of x).turn → AllByRecursion Fitting (of_opened f o)
  opened_fit at x None e h = tt
  opened_fit at x (Some t) e h = inside t (subst Fits (sym (what_is_opened ms s at x t e).path) (one_further s.path (title_of x) own h))

  below_fit : (at : Before) (xs : List Inner) → AllByRecursion (λ (n : PathName). FitsTurn n.turn) (map title_of xs) → AllByRecursion Fitting (below ms f s at xs)
  below_fit at [] h = tt
  below_fit at (x ∷ xs) h =
      let inner = of_opened f (opened ms s at x) in
      each_append Fitting inner (below ms f s (before_following at inner) xs) (opened_fit at x (opened ms s at x) refl h.0) (below_fit (before_following at inner) xs h.1)

within_fit : (n : ℕ) (ms : List Module) (s : Scope) → Fitting s → AllByRecursion Fitting (scopes_within n ms s)
unfolding scopes_within
within_fit zero ms s h = (h, tt)
within_fit (suc n) ms s h = (h, below_fit ms (scopes_within n ms) (within_fit n ms) s h (within_first s) (inner_of s) (titles_fit s))

top_fit : (n : ℕ) (ms : List Module) (nets : Bool) (o : Option Module) (t : Option Scope) → opened_top nets o ≡ t → AllByRecursion Fitting (of_opened (scopes_within n ms) t)
top_fit n ms nets o None e = tt
top_fit n ms nets o (Some s) e = within_fit n ms s (subst Fits (sym (what_is_opened_top nets o s e).1.path) (tt, tt))

scopes_fit : (ss : List Scope) → AllByRecursion Fitting ss → AllByRecursion Fits (scope_paths ss)
scopes_fit [] h = tt
scopes_fit (s ∷ ss) h = (h.0, scopes_fit ss h.1)

names_fit : (s : Scope) (ns : List (List ℕ)) → Fitting s → AllByRecursion Fits (map (named s) ns)
names_fit s [] h = tt
names_fit s (n ∷ ns) h = (one_further s.path (plainly n) h tt, names_fit s ns h)

signals_fit : (ss : List Scope) → AllByRecursion Fitting ss → AllByRecursion Fits (signal_paths ss)
signals_fit [] h = tt
signals_fit (s ∷ ss) h = each_append Fits (map (named s) (names_of s)) (signal_paths ss) (names_fit s (names_of s) h.0) (signals_fit ss h.1)

path_fits : (p : Path) → Fits p → HasTurnsThatFit p
path_fits p h = All-from_recursion (λ (n : PathName). FitsTurn n.turn) p h

pub turns_fit : TurnsFit
turns_fit ms top =
    let ss = scopes_of ms top in
    let all = top_fit deepest ms (permits_nets ms top) (module_named ms top) (opened_top (permits_nets ms top) (module_named ms top)) refl in (
      All-from_recursion HasTurnsThatFit (scope_paths ss) (each_more Fits HasTurnsThatFit path_fits (scope_paths ss) (scopes_fit ss all)),
      All-from_recursion HasTurnsThatFit (signal_paths ss) (each_more Fits HasTurnsThatFit path_fits (signal_paths ss) (signals_fit ss all)),
    )
