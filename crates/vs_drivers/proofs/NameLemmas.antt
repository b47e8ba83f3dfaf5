-- What event controls name, by their terms.
use Rattle.std.proofs.Common.{◌≡◌, ℕ, ◌⊎◌, ◌↔◌, inl, inr, Some, List, [], ◌∷◌, ◌++◌, slice_get, sym, subst}
use Rattle.std.specs.List.{Contains}
use Rattle.std.proofs.lemmas.List.Elements.{Contains-append_left, Contains-append_right, Contains-append_cases}
use Rattle.vs_design.specs.declared.design.Process.{Process}
use Rattle.vs_design.specs.declared.range.BitRange.{BitRange}
use Rattle.vs_design.specs.declared.statement.EventTerm.{EventTerm}
use Rattle.vs_design.specs.Parts.{Parts}
use Rattle.vs_process.specs.Stops.{IsText}
use Rattle.vs_rules.specs.Drivers.{Names}
use Rattle.vs_maps.specs.Ranges.{HasTermAt}
use Rattle.vs_maps.specs.Reaches.{Chart}
use Rattle.vs_maps.proofs.EachWalk.{terms_exact}
use Rattle.vs_design.specs.vs_logic4.proofs.Basics.{none_in}
use Rattle.vs_maps.specs.vs_graph.proofs.RowLemmas.{head_in, tail_in, in_either as split}
use Rattle.vs_drivers.specs.Names.{ranges_of_terms, NamesIn}

range_in : (terms : List EventTerm) (t : EventTerm) → Contains terms t → Contains (ranges_of_terms terms) t.range
range_in [] t h = absurd (none_in t h)
range_in (x ∷ xs) t h = elim (split x t xs h) [
  | inl e ↦ subst (λ (k : EventTerm). Contains (ranges_of_terms (x ∷ xs)) k.range) e (head_in x.range (ranges_of_terms xs))
  | inr l ↦ tail_in x.range t.range (ranges_of_terms xs) (range_in xs t l)
]

term_of : (terms : List EventTerm) (r : BitRange) → Contains (ranges_of_terms terms) r → (t : EventTerm) × Contains terms t × (t.range ≡ r)
term_of [] r h = absurd (none_in r h)
term_of (x ∷ xs) r h = elim (split x.range r (ranges_of_terms xs) h) [
  | inl e ↦ (x, head_in x xs, e)
  | inr l ↦ let y = term_of xs r l in (y.0, tail_in x y.0 xs y.1, y.2)
]

-- what the terms of a process's map name is what its event controls name
pub names_are : (d : Parts) (i : ℕ) (q : Process) (t : Chart) (r : BitRange) → slice_get d.processes i ≡ Some q → IsText q.body t.stops t.start → (NamesIn t r ↔ Names d i r)
names_are d i q t r is text = (
  λ y. record { term = y.0; has = (terms_exact d i q t.stops t.start text is y.0).0 y.1; is = y.2; touches = tt },
  λ n. (n.term, (terms_exact d i q t.stops t.start text is n.term).1 n.has, n.is),
)

-- a list, and the ranges of all terms of a map
pub with_names : (t : Chart) (first all : List BitRange) (terms : List EventTerm) → all ≡ first ++ ranges_of_terms terms → ((term : EventTerm) → (Contains terms term ↔ HasTermAt t term)) →
    (r : BitRange) → (Contains all r ↔ (Contains first r ⊎ NamesIn t r))
with_names t first all terms made each r = (
  λ h. elim (Contains-append_cases first (ranges_of_terms terms) r (subst (λ (l : List BitRange). Contains l r) made h)) [
    | inl l ↦ inl l
    | inr l ↦ let y = term_of terms r l in inr (y.0, (each y.0).0 y.1, y.2)
  ],
  λ h. subst (λ (l : List BitRange). Contains l r) (sym made) (elim h [
    | inl l ↦ Contains-append_left first (ranges_of_terms terms) r l
    | inr y ↦ Contains-append_right first (ranges_of_terms terms) r
        (subst (λ (k : BitRange). Contains (ranges_of_terms terms) k) y.2 (range_in terms y.0 ((each y.0).1 y.1)))
  ]),
)
