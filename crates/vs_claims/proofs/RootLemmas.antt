-- The entries of edge terms, by the numbers of the signals that they name.
use Rattle.std.proofs.Common.{◌≡◌, ℕ, zero, suc, ◌+◌, ◌<◌, ◌≤◌, ◌⊎◌, ◌↔◌, inl, inr, Bool, true, IsTrue, Option, Some, None, List, [], ◌∷◌, ◌++◌, length, map, get_or, slice_get, slice_index_or, option_map, refl, sym, ◌∙◌, ap, subst, arith, ltb, not, ◌==◌}
use Rattle.std.specs.List.{Contains}
use Rattle.std.proofs.Math.Dec.{eqb-suc-zero}
use Rattle.std.proofs.lemmas.Bool.{false≢true, lt-ltb}
use Rattle.std.proofs.lemmas.List.{get_or_past}
use Rattle.std.proofs.lemmas.List.Elements.{Contains-append_left, Contains-append_right, Contains-append_cases}
use Rattle.std.proofs.lemmas.Option.{none-some, same_Some, slice_get-map, slice_get_within}
use Rattle.vs_certificate.specs.declared.members.Certificate.{Certificate}
use Rattle.vs_design.specs.Parts.{Parts}
use Rattle.vs_claims.specs.vs_rules.specs.Claims.{Name, Claims, EdgeClaim, IsSignalNamed, IsRootOf, IsRoot}
use Rattle.vs_maps.specs.vs_graph.specs.Rows.{AreRows, row as row_of}
use Rattle.vs_maps.specs.vs_graph.proofs.Sets.{same_read}
use Rattle.vs_maps.specs.Reaches.{Chart}
use Rattle.vs_maps.specs.Texts.{Texts}
use Rattle.vs_claims.specs.declared.names.Names.{Names}
use Rattle.vs_claims.specs.Places.{place_for, place_in}
use Rattle.vs_claims.specs.Facts.{Case, case_of, IsRootAt, NamesEntry, NamesRoot}
use Rattle.vs_claims.specs.facts_passes.Kept.{AreFacts, both_at, pair_of}
use Rattle.vs_claims.proofs.FactLemmas.{signal_named_is, edge_roots_are, edge_signals_are}
use Rattle.vs_claims.proofs.PlaceLemmas.{for_within, places_at}

pair_is : (o p : Option ℕ) (root v : ℕ) → pair_of o p ≡ Some (root, v) → (o ≡ Some root) × (p ≡ Some v)
pair_is None p root v h = absurd (cc)
pair_is (Some a) None root v h = absurd (cc)
pair_is (Some a) (Some b) root v h =
    let e = same_Some (a, b) (root, v) h in
    (ap (λ (x : ℕ × ℕ). Some x.0) e, ap (λ (x : ℕ × ℕ). Some x.1) e)

-- what an entry that may be there names
end_is : (d : Parts) (f : EdgeClaim → Name) (ns : List Name) → ((name : Name) (v : ℕ) → (IsSignalNamed d v name ↔ place_in ns name ≡ Some v)) →
    (o : Option EdgeClaim) (v : ℕ) → (((y : EdgeClaim) × (o ≡ Some y) × IsSignalNamed d v (f y)) ↔ place_for ns (option_map f o) ≡ Some v)
end_is d f ns named None v = (λ h. absurd (none-some h.0 h.1), λ h. absurd (none-some v h))
end_is d f ns named (Some y) v = (
  λ h. (named (f y) v).0 (subst (λ (z : EdgeClaim). IsSignalNamed d v (f z)) (sym (same_Some y h.0 h.1)) h.2),
  λ h. (y, refl, (named (f y) v).1 h),
)

-- both of an entry, by its root and its signal
edge_of : (d : Parts) (edges : List EdgeClaim) (place root v : ℕ) (o p : Option ℕ) →
    (((y : EdgeClaim) × (slice_get edges place ≡ Some y) × IsSignalNamed d root y.root) ↔ o ≡ Some root) → (NamesEntry d edges place v ↔ p ≡ Some v) →
    (q : Option (ℕ × ℕ)) → q ≡ pair_of o p → (IsRootAt d edges place root v ↔ q ≡ Some (root, v))
edge_of d edges place root v o p root_is signal_is q pair = (there, back) where
  there : IsRootAt d edges place root v → q ≡ Some (root, v)
  there h =
      pair ∙ ap (λ (o : Option ℕ). pair_of o p) (root_is.0 (h.entry, h.is, h.root_is)) ∙ ap (pair_of (Some root)) (signal_is.0 (h.entry, h.is, h.signal))

  back : q ≡ Some (root, v) → IsRootAt d edges place root v
  back h =
      let e = pair_is o p root v (sym pair ∙ h) in
      let r = root_is.1 e.0 in
      let s = signal_is.1 e.1 in
      record { entry = s.0; is = s.1; signal = s.2; root_is = subst (λ (y : EdgeClaim). IsSignalNamed d root y.root) (same_Some r.0 s.0 (sym r.1 ∙ s.1)) r.2 }

-- ---- lists of numbers

only_one : (x r k : ℕ) → k < 1 → get_or (x ∷ []) k r ≡ r → x ≡ r
only_one x r zero l is = is
only_one x r (suc k) l is = absurd (omega (arith, l))

-- with one more
pub put_one : (P : ℕ → Type 0) (out new : List ℕ) (a : ℕ) → new ≡ out ++ a ∷ [] → P a → ((r : ℕ) → P r → a ≡ r) → (r : ℕ) →
    (Contains new r ↔ (Contains out r ⊎ P r))
put_one P out new a pushed here one r = subst (λ (xs : List ℕ). Contains xs r ↔ (Contains out r ⊎ P r)) (sym pushed) (there, back) where
  there : Contains (out ++ a ∷ []) r → Contains out r ⊎ P r
  there h = elim (Contains-append_cases out (a ∷ []) r h) [ inl x ↦ inl x | inr x ↦ inr (subst P (only_one a r x.0 x.1 x.2) here) ]

  back : Contains out r ⊎ P r → Contains (out ++ a ∷ []) r
  back (inl x) = Contains-append_left out (a ∷ []) r x
  back (inr x) = Contains-append_right out (a ∷ []) r (0, omega arith, one r x)

-- with nothing more
pub put_none : (P : ℕ → Type 0) (out : List ℕ) → ((r : ℕ) → P r → ⊥) → (r : ℕ) → (Contains out r ↔ (Contains out r ⊎ P r))
put_none P out none r = (λ h. inl h, λ h. elim h [ inl x ↦ x | inr x ↦ absurd (none r x) ])

-- ---- all entries

root_of_at : (d : Parts) (c : Claims) (place root v : ℕ) → IsRootAt d c.edges place root v → IsRootOf d c root v
root_of_at d c place root v h = record { place = place; entry = h.entry; is = h.is; signal = h.signal; root_is = h.root_is }

root_at_of : (d : Parts) (c : Claims) (root v : ℕ) → IsRootOf d c root v → (place : ℕ) × (place < length c.edges) × IsRootAt d c.edges place root v
root_at_of d c root v h =
    (h.place, slice_get_within c.edges h.place h.entry h.is, record { entry = h.entry; is = h.is; signal = h.signal; root_is = h.root_is })

-- the roots of the entries of a signal
pub roots_in : (d : Parts) (c : Claims) (v r : ℕ) (roots row : List ℕ) → ((p : ℕ) → (Contains row p ↔ NamesEntry d c.edges p v)) →
    (Contains roots r ↔ ((k : ℕ) × (k < length row) × IsRootAt d c.edges (get_or row k 0) r v)) → (Contains roots r ↔ IsRootOf d c r v)
roots_in d c v r roots row are h = (
  λ x. let y = h.0 x in root_of_at d c (get_or row y.0 0) r v y.2,
  λ x.
      let p = root_at_of d c r v x in
      let k = (are p.0).1 (p.2.entry, p.2.is, p.2.signal) in
      h.1 (k.0, k.1, subst (λ (q : ℕ). IsRootAt d c.edges q r v) (sym (same_read row k.0 0 p.0 k.1 ∙ k.2)) p.2),
)

-- whether there is an entry with a root
pub root_told : (d : Parts) (c : Claims) (v : ℕ) (row : List ℕ) (b : Bool) → ((p : ℕ) → (Contains row p ↔ NamesRoot d c.edges p v)) →
    b ≡ (length row == 0) → (IsTrue (not b) ↔ IsRoot d c v)
root_told d c v [] b are told = (
  λ t. absurd (false≢true (sym (ap not told) ∙ t)),
  λ h. let y = root_at_of d c v h.0 h.1 in absurd (omega (arith, ((are y.0).1 (h.0, y.2)).1)),
)
root_told d c v (p ∷ ps) b are told = (
  λ t. let y = (are p).0 (0, omega arith, refl) in (y.0, root_of_at d c p v y.0 y.1),
  λ h. ap not (told ∙ eqb-suc-zero (length ps)),
)

pub none_more : (P : ℕ → Type 0) (i : ℕ) → ((k : ℕ) → k < i → P k → ⊥) → (P i → ⊥) → (k : ℕ) → k < i + 1 → P k → ⊥
none_more P i before here k l h = elim (at k l) [ inl below ↦ before k below h | inr e ↦ here (subst P e h) ] where
  at : (k : ℕ) → k < i + 1 → (k < i) ⊎ (k ≡ i)
  at k l = grind (arith, l)

-- ---- entries by the numbers of signals

within : (ns names : List Name) (ps : List (Option ℕ)) → ps ≡ map (place_in ns) names → (i v : ℕ) → slice_index_or ps i None ≡ Some v →
    (i < length names) × (v < length ns)
within ns names ps is i v h =
    by (slice_get names i) refl (sym (ap (λ (qs : List (Option ℕ)). slice_index_or qs i None) is ∙ places_at ns names i) ∙ h) where
      by : (o : Option Name) → slice_get names i ≡ o → place_for ns o ≡ Some v → (i < length names) × (v < length ns)
      by None at k = absurd (none-some v k)
      by (Some name) at k = (slice_get_within names i name at, for_within ns (Some name) v k)

-- a row, also of a number past the end
row_is : (has : ℕ → ℕ → Type 0) (m n : ℕ) (table : List (List ℕ)) → length table ≡ n → AreRows has m n table → (v : ℕ) →
    ((i : ℕ) → has i v → (i < m) × (v < n)) → (row : List ℕ) → row ≡ row_of table v → (i : ℕ) → (Contains row i ↔ has i v)
row_is has m n table long are v inside row same i = by (side v n) where
  side : (a b : ℕ) → (a < b) ⊎ (b ≤ a)
  side a b = grind arith

  by : (v < n) ⊎ (n ≤ v) → (Contains row i ↔ has i v)
  by (inl h) = (
    λ c. ((are v i h).0 (subst (λ (l : List ℕ). Contains l i) same c)).1,
    λ y. subst (λ (l : List ℕ). Contains l i) (sym same) ((are v i h).1 ((inside i y).0, y)),
  )
  by (inr g) = (
    λ c. absurd (omega (arith, (subst (λ (l : List ℕ). Contains l i) (same ∙ get_or_past table v [] (subst (λ (k : ℕ). k ≤ v) (sym long) g)) c).1)),
    λ y. absurd (omega (arith, g, (inside i y).1)),
  )

module _ {d : Parts} {c : Certificate} {charts : List Chart} {u : Texts} {n : Names} where
  -- what entries name, by one of their names
  end_at : AreFacts d c charts u n → (x : Case) → case_of d c charts ≡ x → (f : EdgeClaim → Name) (names : List Name) (ps : List (Option ℕ)) →
      names ≡ map f x.claims.edges → ps ≡ map (place_in n.design.signals) names → (place v : ℕ) →
      (((y : EdgeClaim) × (slice_get x.claims.edges place ≡ Some y) × IsSignalNamed x.design v (f y)) ↔ slice_index_or ps place None ≡ Some v)
  end_at h x e f names ps are is place v =
      let told = end_is x.design f n.design.signals (λ name w. signal_named_is h x e name (place_in n.design.signals name) refl w)
      (slice_get x.claims.edges place) v in
      let same = ap (λ (qs : List (Option ℕ)). slice_index_or qs place None) is ∙ places_at n.design.signals names place
      ∙ ap (λ (ns : List Name). place_for n.design.signals (slice_get ns place)) are
      ∙ ap (place_for n.design.signals) (slice_get-map f x.claims.edges place) in
      (λ y. same ∙ told.0 y, λ k. told.1 (sym same ∙ k))

  signal_at : AreFacts d c charts u n → (x : Case) → case_of d c charts ≡ x → (place v : ℕ) →
      (NamesEntry x.design x.claims.edges place v ↔ slice_index_or n.edge_places.ends.signals.items place None ≡ Some v)
  signal_at h x e place v =
      end_at h x e (λ (y : EdgeClaim). y.signal) n.edges.signals n.edge_places.ends.signals.items (edge_signals_are h x e)
      h.names.edge_places.ends.signals_are place v

  pub edge_is : AreFacts d c charts u n → (x : Case) → case_of d c charts ≡ x → (place : ℕ) (q : Option (ℕ × ℕ)) → q ≡ both_at n.edge_places.ends place →
      (root v : ℕ) → (IsRootAt x.design x.claims.edges place root v ↔ q ≡ Some (root, v))
  edge_is h x e place q is root v =
      edge_of x.design x.claims.edges place root v (slice_index_or n.edge_places.ends.roots.items place None)
      (slice_index_or n.edge_places.ends.signals.items place None)
      (end_at h x e (λ (y : EdgeClaim). y.root) n.edges.roots n.edge_places.ends.roots.items (edge_roots_are h x e) h.names.edge_places.ends.roots_are place root)
      (signal_at h x e place v) q is

  pub entries_are : AreFacts d c charts u n → (x : Case) → case_of d c charts ≡ x → (v : ℕ) (row : List ℕ) → row ≡ row_of n.edge_places.by_signal v →
      (place : ℕ) → (Contains row place ↔ NamesEntry x.design x.claims.edges place v)
  entries_are h x e v row is place =
      let p = h.names.edge_places in
      let signals = n.edge_places.ends.signals.items in
      let told = signal_at h x e place v in
      let here = row_is (λ i w. slice_index_or signals i None ≡ Some w) (length n.edges.signals) (length n.design.signals) n.edge_places.by_signal
      p.signals_long p.signals_are v (λ i. within n.design.signals n.edges.signals signals p.ends.signals_are i v) row is place in
      (λ k. told.1 (here.0 k), λ y. here.1 (told.0 y))

  pub root_entries_are : AreFacts d c charts u n → (x : Case) → case_of d c charts ≡ x → (root : ℕ) (row : List ℕ) → row ≡ row_of n.edge_places.by_root root →
      (place : ℕ) → (Contains row place ↔ NamesRoot x.design x.claims.edges place root)
  root_entries_are h x e root row is place =
      let p = h.names.edge_places in
      let ends = n.edge_places.ends in
      let told = edge_is h x e place (both_at ends place) refl root in
      let here = row_is (λ i r. (v : ℕ) × (both_at ends i ≡ Some (r, v))) (length n.edges.signals) (length n.design.signals) n.edge_places.by_root
      p.roots_long p.roots_are root (λ i y.
      let k = pair_is (slice_index_or ends.roots.items i None) (slice_index_or ends.signals.items i None) root y.0 y.1 in (
        (within n.design.signals n.edges.signals ends.signals.items p.ends.signals_are i y.0 k.1).0,
        (within n.design.signals n.edges.roots ends.roots.items p.ends.roots_are i root k.0).1,
      )) row is place in
      (λ k. let y = here.0 k in (y.0, (told y.0).1 y.1), λ y. here.1 (y.0, (told y.0).0 y.1))

-- ---- whether a name stands there

not_zero : (t : ℕ) → 0 < t → true ≡ not (t == 0)
not_zero zero h = absurd (omega (arith, h))
not_zero (suc t) h = ap not (sym (eqb-suc-zero t))

pub some_times : (t r s : ℕ) → t ≡ r + s → 0 < r → true ≡ not (t == 0)
some_times t r s e h = not_zero t (omega (arith, e, h))

pub other_times : (t r s : ℕ) → t ≡ r + s → r ≤ 0 → ltb 0 s ≡ not (t == 0)
other_times t r zero e h = ap (λ (n : ℕ). not (n == 0)) (zero_is t (omega (arith, e, h))) where
  zero_is : (t : ℕ) → t ≡ 0 → 0 ≡ t
  zero_is t e = sym e
other_times t r (suc s) e h = lt-ltb 0 (suc s) (omega arith) ∙ not_zero t (omega (arith, e, h))
