-- The tables of drivers, as far as they are made.
use Rattle.std.proofs.Common.{◌≡◌, ℕ, zero, suc, ◌+◌, ◌<◌, ◌≤◌, ◌↔◌, inl, inr, List, [], ◌∷◌, ◌++◌, length, get_or, refl, sym, ◌∙◌, ap, subst, arith}
use Rattle.std.specs.List.{Contains}
use Rattle.std.specs.declared.vec.Vec.{Vec}
use Rattle.std.specs.declared.alloc.Global.{Global}
use Rattle.std.proofs.lemmas.List.{length-replicate}
use Rattle.vs_design.specs.declared.range.BitRange.{BitRange}
use Rattle.vs_design.specs.Tables.{rows}
use Rattle.vs_maps.specs.vs_graph.specs.Rows.{empty_rows}
use Rattle.vs_maps.specs.vs_graph.proofs.RowLemmas.{row_empty}
use Rattle.vs_design.specs.vs_logic4.proofs.Basics.{below_or, none_in}
use Rattle.vs_drivers.specs.declared.writers.Written.{Written}
use Rattle.vs_drivers.specs.Walks.{all_noted, AreWriters, AreNeeds}
use Rattle.vs_drivers.specs.Wires.{Wiring, WritesAt, NeedsAt, drivers}
use Rattle.vs_drivers.proofs.Numbers.{writes_below}
use Rattle.vs_drivers.proofs.Rows.{length-all_noted, all_noted_has}

-- ---- what is written

-- a table has what the drivers below a number write
pub record HasBelow (x : Wiring) (n : ℕ) (t : List (List Written)) : Type 0 where
  pub long : length t ≡ length x.design.signals
  pub exact : (v : ℕ) (e : Written) → (Contains (get_or t v []) e ↔
      ((v < length x.design.signals) × (e.range.signal ≡ v) × (e.driver < n) × WritesAt x e.driver e.range))

pub has_none : (x : Wiring) (n : ℕ) (t : List (List Written)) → n ≡ length x.design.signals → t ≡ empty_rows n → HasBelow x 0 t
has_none x n t long is = record {
  long = ap length is ∙ length-replicate n [] ∙ long;
  exact = λ v e. (
    λ h. absurd (none_in e (subst (λ (l : List Written). Contains l e) (ap (λ (l : List (List Written)). get_or l v []) is ∙ row_empty n v) h)),
    λ y. absurd (omega (arith, y.2)),
  );
}

pub has_more : (x : Wiring) (n : ℕ) (t u : List (List Written)) (rs : List BitRange) → u ≡ all_noted n rs t → ((r : BitRange) → (Contains rs r ↔ WritesAt x n r)) → HasBelow x n t →
    HasBelow x (n + 1) u
has_more x n t u rs is writes h = record {
  long = ap length is ∙ length-all_noted n rs t ∙ h.long;
  exact = λ v e. let b = all_noted_has n rs t v e in (
    λ k. elim (b.0 (subst (λ (l : List (List Written)). Contains (get_or l v []) e) is k)) [
      | inl o ↦ let y = (h.exact v e).0 o in (y.0, y.1, omega (arith, y.2), y.3)
      | inr y ↦ (subst (λ (l : ℕ). v < l) h.long y.0, y.1, omega (arith, y.2), subst (λ (l : ℕ). WritesAt x l e.range) (sym y.2) ((writes e.range).0 y.3))
    ],
    λ y. subst (λ (l : List (List Written)). Contains (get_or l v []) e) (sym is) (b.1 (elim (below_or e.driver n y.2) [
      | inl l ↦ inl ((h.exact v e).1 (y.0, y.1, l, y.3))
      | inr s ↦ inr (subst (λ (l : ℕ). v < l) (sym h.long) y.0, y.1, s, (writes e.range).1 (subst (λ (l : ℕ). WritesAt x l e.range) s y.3))
    ])),
  );
}

pub has_all : (x : Wiring) (n : ℕ) (table : List (List Written)) → drivers x.design ≤ n → HasBelow x n table → AreWriters x table
has_all x n table all h = record {
  long = h.long;
  exact = λ v e. (
    λ k. let y = (h.exact v e).0 k in (y.0, y.1, y.3),
    λ y. let below = writes_below x e.driver e.range y.2 in (h.exact v e).1 (y.0, y.1, omega (arith, below, all), y.2),
  );
}

-- ---- what is needed

-- a table has what the drivers below a number need
pub record NeedsBelow (x : Wiring) (n : ℕ) (table : List (Vec BitRange Global)) : Type 0 where
  pub long : length table ≡ n
  pub exact : (k : ℕ) (r : BitRange) → k < n → (Contains (get_or (rows table) k []) r ↔ NeedsAt x k r)

row_before : (table : List (Vec BitRange Global)) (v : Vec BitRange Global) (k : ℕ) → k < length table → get_or (rows (table ++ v ∷ [])) k [] ≡ get_or (rows table) k []
row_before [] v k h = absurd (omega (arith, h))
row_before (t ∷ ts) v zero h = refl
row_before (t ∷ ts) v (suc k) h = row_before ts v k (omega (arith, h))

row_last : (table : List (Vec BitRange Global)) (v : Vec BitRange Global) → get_or (rows (table ++ v ∷ [])) (length table) [] ≡ v.items
row_last [] v = refl
row_last (t ∷ ts) v = row_last ts v

length_more : (table : List (Vec BitRange Global)) (v : Vec BitRange Global) → length (table ++ v ∷ []) ≡ length table + 1
length_more [] v = refl
length_more (t ∷ ts) v = ap suc (length_more ts v) ∙ omega arith

pub needs_more : (x : Wiring) (n : ℕ) (table more : List (Vec BitRange Global)) (v : Vec BitRange Global) → more ≡ table ++ v ∷ [] →
    ((r : BitRange) → (Contains v.items r ↔ NeedsAt x n r)) → NeedsBelow x n table → NeedsBelow x (n + 1) more
needs_more x n table more v is needs h = record {
  long = ap length is ∙ length_more table v ∙ ap (λ (k : ℕ). k + 1) h.long;
  exact = λ k r below. subst (λ (l : List (Vec BitRange Global)). (Contains (get_or (rows l) k []) r ↔ NeedsAt x k r)) (sym is) (elim (below_or k n below) [
    | inl l ↦ subst (λ (row : List BitRange). (Contains row r ↔ NeedsAt x k r)) (sym (row_before table v k (omega (arith, l, h.long)))) (h.exact k r l)
    | inr e ↦ subst (λ (row : List BitRange). (Contains row r ↔ NeedsAt x k r))
        (sym (ap (λ (j : ℕ). get_or (rows (table ++ v ∷ [])) j []) (e ∙ sym h.long) ∙ row_last table v))
        (subst (λ (j : ℕ). (Contains v.items r ↔ NeedsAt x j r)) (sym e) (needs r))
  ]);
}

pub needs_all : (x : Wiring) (n : ℕ) (table : List (Vec BitRange Global)) → drivers x.design ≡ n → NeedsBelow x n table → AreNeeds x table
needs_all x n table all h = record {
  long = h.long ∙ sym all;
  exact = λ k r below. h.exact k r (subst (λ (j : ℕ). k < j) all below);
}

pub needs_none : (x : Wiring) → NeedsBelow x 0 []
needs_none x = record { long = refl; exact = λ k r below. absurd (omega (arith, below)) }
