-- What is gathered from the places of a map.
use Rattle.std.proofs.Common.{◌≡◌, ℕ, zero, suc, ◌+◌, ◌<◌, ◌≤◌, ◌⊎◌, inl, inr, ◌↔◌, ◌++◌, Option, None, List, [], ◌∷◌, length, get_or, refl, sym, ◌∙◌, ap, subst, arith}
use Rattle.std.specs.List.{Contains}
use Rattle.std.specs.declared.vec.Vec.{Vec}
use Rattle.std.specs.declared.alloc.Global.{Global}
use Rattle.std.proofs.lemmas.List.Elements.{Contains-append_cases, Contains-append_left, Contains-append_right}
use Rattle.std.proofs.lemmas.Option.{slice_get_past}
use Rattle.vs_design.specs.declared.range.BitRange.{BitRange}
use Rattle.vs_design.specs.declared.statement.Statement.{Statement}
use Rattle.vs_process.specs.Stops.{stop_at, stop_statement}
use Rattle.vs_claims.specs.vs_maps.specs.Reaches.{Chart, pause_of, places}
use Rattle.vs_claims.specs.vs_maps.specs.Ranges.{ranges_of, reads_at}
use Rattle.vs_drivers.specs.vs_rules.specs.vs_process.specs.Threads.{own_reads}
use Rattle.std.proofs.lemmas.List.{length-append}
use Rattle.vs_design.specs.vs_logic4.proofs.Basics.{below_or}
use Rattle.vs_cert_blocks.specs.Walks.{WakesFrom, AreWoken, sure_at, statement_sure, HaveSure, row_at, AreReads}

-- past the end nothing is done
pub nothing_past : (t : Chart) (p : ℕ) → places t ≤ p → stop_statement (stop_at t.stops p) ≡ None
nothing_past t zero h = absurd (omega (arith, h))
nothing_past t (suc i) h = ap stop_statement (slice_get_past t.stops i (omega (arith, h)))

pub sure_more : (t : Chart) (i : ℕ) (old new : List BitRange) (s : Option Statement) → s ≡ stop_statement (stop_at t.stops i) → new ≡ old ++ ranges_of statement_sure s →
    ((k : ℕ) (r : BitRange) → k < i → Contains (sure_at t k) r → Contains old r) → (k : ℕ) (r : BitRange) → k < i + 1 → Contains (sure_at t k) r → Contains new r
sure_more t i old new s is e before k r less h = subst (λ (l : List BitRange). Contains l r) (sym e) (elim (below_or k i less) [
  | inl l ↦ Contains-append_left old (ranges_of statement_sure s) r (before k r l h)
  | inr same ↦ Contains-append_right old (ranges_of statement_sure s) r
      (subst (λ (x : Option Statement). Contains (ranges_of statement_sure x) r) (ap (λ (n : ℕ). stop_statement (stop_at t.stops n)) same ∙ sym is) h)
])

pub sure_all : (t : Chart) (i : ℕ) (all : List BitRange) → places t ≤ i → ((k : ℕ) (r : BitRange) → k < i → Contains (sure_at t k) r → Contains all r) → HaveSure t all
sure_all t i all past before p r h = elim (below_all p i) [
  | inl l ↦ before p r l h
  | inr beyond ↦ absurd (omega (
    arith,
    (subst (λ (x : Option Statement). Contains (ranges_of statement_sure x) r) (nothing_past t p (omega (arith, past, beyond))) h).1,
  ))
] where
  below_all : (k i : ℕ) → (k < i) ⊎ (i ≤ k)
  below_all k i = grind arith

-- in another order
pub sure_same : (t : Chart) (all some : List BitRange) → HaveSure t all → ((r : BitRange) → (Contains some r ↔ Contains all r)) → HaveSure t some
sure_same t all some have are p r c = (are r).1 (have p r c)

-- ---- event controls

-- a control is at one of the places
pub wakes_within : (t : Chart) (p q : ℕ) → WakesFrom t p q → p < places t
wakes_within t zero q h = omega arith
wakes_within t (suc i) q h = elim (below_all i (length t.stops)) [
  | inl l ↦ omega (arith, l)
  | inr past ↦ absurd (cc (sym (ap pause_of (nothing_past t (suc i) (omega (arith, past)))) ∙ h.pauses))
] where
  below_all : (k i : ℕ) → (k < i) ⊎ (i ≤ k)
  below_all k i = grind arith

pub all_woken : (t : Chart) (n : ℕ) (seeds : List ℕ) → n ≡ places t → ((q : ℕ) → (Contains seeds q ↔ ((p : ℕ) × (p < n) × WakesFrom t p q))) → AreWoken t seeds
all_woken t n seeds e h q = (λ c. let x = (h q).0 c in (x.0, x.2), λ w. (h q).1 (w.0, subst (λ (m : ℕ). w.0 < m) (sym e) (wakes_within t w.0 q w.1), w.1))

pub put_wakes : (t : Chart) (p q : ℕ) (old new tos : List ℕ) → new ≡ old ++ tos → (Contains tos q ↔ WakesFrom t p q) → (Contains new q ↔ (Contains old q ⊎ WakesFrom t p q))
put_wakes t p q old new tos e h = (
  λ c. elim (Contains-append_cases old tos q (subst (λ (l : List ℕ). Contains l q) e c)) [ inl o ↦ inl o | inr n ↦ inr (h.0 n) ],
  λ s. subst (λ (l : List ℕ). Contains l q) (sym e) (elim s [ inl o ↦ Contains-append_left old tos q o | inr w ↦ Contains-append_right old tos q (h.1 w) ]),
)

-- ---- rows

pub row_past : (rows : List (Vec BitRange Global)) (p : ℕ) → length rows ≤ p → row_at rows p ≡ []
row_past [] p h = refl
row_past (r ∷ rows) zero h = absurd (omega (arith, h))
row_past (r ∷ rows) (suc p) h = row_past rows p (omega (arith, h))

pub row_here : (rows : List (Vec BitRange Global)) (p : ℕ) (v : Vec BitRange Global) → p < length rows → v ≡ get_or rows p v → row_at rows p ≡ v.items
row_here [] p v h is = absurd (omega (arith, h))
row_here (r ∷ rows) zero v h is = ap (λ (x : Vec BitRange Global). x.items) (sym is)
row_here (r ∷ rows) (suc p) v h is = row_here rows p v (omega (arith, h)) is

row_before : (rows : List (Vec BitRange Global)) (v : Vec BitRange Global) (p : ℕ) → p < length rows → row_at (rows ++ v ∷ []) p ≡ row_at rows p
row_before [] v p h = absurd (omega (arith, h))
row_before (r ∷ rows) v zero h = refl
row_before (r ∷ rows) v (suc p) h = row_before rows v p (omega (arith, h))

row_last : (rows : List (Vec BitRange Global)) (v : Vec BitRange Global) (p : ℕ) → p ≡ length rows → row_at (rows ++ v ∷ []) p ≡ v.items
row_last [] v zero h = refl
row_last [] v (suc p) h = absurd (omega (arith, h))
row_last (r ∷ rows) v zero h = absurd (omega (arith, h))
row_last (r ∷ rows) v (suc p) h = row_last rows v p (omega (arith, h))

pub rows_long : (rows new : List (Vec BitRange Global)) (v : Vec BitRange Global) (i : ℕ) → length rows ≡ i → new ≡ rows ++ v ∷ [] → length new ≡ i + 1
rows_long rows new v i long e = ap length e ∙ simp (length-append) (omega (arith, long))

pub rows_more : (t : Chart) (rows new : List (Vec BitRange Global)) (v : Vec BitRange Global) (i : ℕ) → length rows ≡ i → new ≡ rows ++ v ∷ [] → v.items ≡ reads_at t i →
    ((p : ℕ) → p < i → row_at rows p ≡ reads_at t p) → (p : ℕ) → p < i + 1 → row_at new p ≡ reads_at t p
rows_more t rows new v i long e here before p less = ap (λ (l : List (Vec BitRange Global)). row_at l p) e ∙ elim (below_or p i less) [
  | inl l ↦ row_before rows v p (omega (arith, l, long)) ∙ before p l
  | inr same ↦ row_last rows v p (omega (arith, same, long)) ∙ here ∙ ap (reads_at t) (sym same)
]

pub rows_all : (t : Chart) (rows : List (Vec BitRange Global)) (i : ℕ) → places t ≤ i → length rows ≡ i → ((p : ℕ) → p < i → row_at rows p ≡ reads_at t p) → AreReads t rows
rows_all t rows i past long are p = elim (either p i) [
  | inl l ↦ are p l
  | inr beyond ↦ row_past rows p (omega (arith, beyond, long)) ∙ sym (ap (ranges_of own_reads) (nothing_past t p (omega (arith, past, beyond))))
] where
  either : (k i : ℕ) → (k < i) ⊎ (i ≤ k)
  either k i = grind arith
