-- The entries for signals of edge terms.
use Rattle.std.proofs.Common.{◌≡◌, ℕ, zero, suc, ◌<◌, ◌≤◌, ◌↔◌, Bool, true, false, is_some, if◌then◌else◌, Option, Some, None, List, [], ◌∷◌, length, map, slice_get, refl, sym, ◌∙◌, ap, arith}
use Rattle.std.specs.List.{Contains}
use Rattle.std.specs.Str.{bytes_eq}
use Rattle.std.proofs.lemmas.Option.{same_Some, slice_get_past}
use Rattle.std.proofs.lemmas.Slice.Eq.{bytes_eq-Decides}
use Rattle.vs_design.specs.vs_logic4.proofs.Basics.{there}
use Rattle.vs_design.specs.Parts.{Parts}
use Rattle.vs_rules.specs.Claims.{Name, Claims, EdgeClaim, IsSignalNamed, signal_name, times_in}
use Rattle.vs_rules.specs.Rules.{IsEdgeSignal}
use Rattle.vs_drivers.specs.Copies.{IsOnly}
use Rattle.vs_rules_of_signals.specs.vs_claims.specs.Facts.{NamesEntry}
use Rattle.vs_cert_roots.specs.Entries.{HasEntries}

pub no_name : (d : Parts) (v : ℕ) (name : Name) → length d.signals ≤ v → IsSignalNamed d v name → ⊥
no_name d v name past h = let f : None ≡ Some name = ap signal_name (sym (slice_get_past d.signals v past)) ∙ h in cc

pub past_entries : (d : Parts) (c : Claims) (v : ℕ) → length d.signals ≤ v → HasEntries d c v
past_entries d c v past = record { one = λ name is edge. absurd (no_name d v name past is); none = λ name is edge. absurd (no_name d v name past is) }

-- ---- how often a name stands in the entries

-- the entry at a place has this signal
abbrev At : Name → List EdgeClaim → ℕ → Type 0
At name edges p = (e : EdgeClaim) × (slice_get edges p ≡ Some e) × (e.signal ≡ name)

abbrev sigs : List EdgeClaim → List Name
sigs edges = map (λ (e : EdgeClaim). e.signal) edges

counted : (e : EdgeClaim) (rest : List EdgeClaim) (name : Name) (b : Bool) → bytes_eq e.signal name ≡ b → times_in name (sigs (e ∷ rest)) ≡ (if b then suc (times_in name (sigs rest)) else times_in name (sigs rest))
counted e rest name b h = ap (λ (x : Bool). if x then suc (times_in name (sigs rest)) else times_in name (sigs rest)) h

-- of what is true or false
data Either_ (b : Bool) : Type 0 where
  yes : b ≡ true → Either_ b
  no : b ≡ false → Either_ b

which : (b : Bool) → Either_ b
which true = yes refl
which false = no refl

pub none_at : (edges : List EdgeClaim) (name : Name) → times_in name (sigs edges) ≡ 0 → (p : ℕ) → At name edges p → ⊥
none_at [] name h p a = let e : None ≡ Some a.0 = a.1 in cc
none_at (e ∷ rest) name h zero a =
    let same : bytes_eq e.signal name ≡ true = (bytes_eq-Decides e.signal name).1 (ap (λ (x : EdgeClaim). x.signal) (same_Some e a.0 a.1) ∙ a.2) in
    omega (arith, sym (counted e rest name true same) ∙ h)
none_at (e ∷ rest) name h (suc p) a = none_at rest name (by (which (bytes_eq e.signal name))) p a where
  by : Either_ (bytes_eq e.signal name) → times_in name (sigs rest) ≡ 0
  by (yes s) = absurd (omega (arith, sym (counted e rest name true s) ∙ h))
  by (no s) = sym (counted e rest name false s) ∙ h

pub at_none : (edges : List EdgeClaim) (name : Name) → ((p : ℕ) → At name edges p → ⊥) → times_in name (sigs edges) ≡ 0
at_none [] name h = refl
at_none (e ∷ rest) name h = by (at_none rest name (λ p a. h (suc p) a)) (which (bytes_eq e.signal name)) where
  by : times_in name (sigs rest) ≡ 0 → Either_ (bytes_eq e.signal name) → times_in name (sigs (e ∷ rest)) ≡ 0
  by less (yes s) = absurd (h 0 (e, refl, (bytes_eq-Decides e.signal name).0 s))
  by less (no s) = counted e rest name false s ∙ less

pub one_at : (edges : List EdgeClaim) (name : Name) → times_in name (sigs edges) ≡ 1 → (p : ℕ) × IsOnly (At name edges) p
one_at [] name h = absurd (omega (arith, h))
one_at (e ∷ rest) name h = by (which (bytes_eq e.signal name)) (λ less. one_at rest name less) where
  by : Either_ (bytes_eq e.signal name) → (times_in name (sigs rest) ≡ 1 → (p : ℕ) × IsOnly (At name rest) p) → (p : ℕ) × IsOnly (At name (e ∷ rest)) p
  by (yes s) more =
      let less : times_in name (sigs rest) ≡ 0 = omega (arith, sym (counted e rest name true s) ∙ h) in
      (0, ((e, refl, (bytes_eq-Decides e.signal name).0 s), alone less))
    where
      alone : times_in name (sigs rest) ≡ 0 → (q : ℕ) → At name (e ∷ rest) q → q ≡ 0
      alone less zero a = refl
      alone less (suc q) a = absurd (none_at rest name less q a)
  by (no s) more =
      let y = more (sym (counted e rest name false s) ∙ h) in
      (suc y.0, (y.1.0, alone s y))
    where
      alone : bytes_eq e.signal name ≡ false → (y : (p : ℕ) × IsOnly (At name rest) p) → (q : ℕ) → At name (e ∷ rest) q → q ≡ suc y.0
      alone s y zero a =
          let f : false ≡ true = sym s ∙ (bytes_eq-Decides e.signal name).1 (ap (λ (x : EdgeClaim). x.signal) (same_Some e a.0 a.1) ∙ a.2) in
          cc
      alone s y (suc q) a = ap suc (y.1.1 q a)

pub at_one : (edges : List EdgeClaim) (name : Name) (p : ℕ) → IsOnly (At name edges) p → times_in name (sigs edges) ≡ 1
at_one [] name p o = let e : None ≡ Some o.0.0 = o.0.1 in cc
at_one (e ∷ rest) name zero o =
    let s : bytes_eq e.signal name ≡ true = (bytes_eq-Decides e.signal name).1 (ap (λ (x : EdgeClaim). x.signal) (same_Some e o.0.0 o.0.1) ∙ o.0.2) in
    counted e rest name true s ∙ ap suc (at_none rest name (λ q a. let f : suc q ≡ 0 = o.1 (suc q) a in absurd (omega (arith, f))))
at_one (e ∷ rest) name (suc p) o = by (which (bytes_eq e.signal name)) (at_one rest name p (o.0, λ q a. omega (arith, o.1 (suc q) a))) where
  by : Either_ (bytes_eq e.signal name) → times_in name (sigs rest) ≡ 1 → times_in name (sigs (e ∷ rest)) ≡ 1
  by (yes s) less = absurd (omega (arith, o.1 0 (e, refl, (bytes_eq-Decides e.signal name).0 s)))
  by (no s) less = counted e rest name false s ∙ less

-- ---- of a signal

at_named : (d : Parts) (edges : List EdgeClaim) (v : ℕ) (name : Name) → IsSignalNamed d v name → (p : ℕ) → (NamesEntry d edges p v ↔ At name edges p)
at_named d edges v name is p = (
  λ h. (h.0, h.1, same_Some h.0.signal name (sym h.2 ∙ is)),
  λ a. (a.0, a.1, is ∙ ap Some (sym a.2)),
)

some_is : (o : Option ℕ) → is_some o ≡ true → (x : ℕ) × (o ≡ Some x)
some_is None h = cc
some_is (Some x) h = (x, refl)

pub has_name : (d : Parts) (v : ℕ) → v < length d.signals → (name : Name) × IsSignalNamed d v name
has_name d v h = let s = there d.signals v h in (s.0.path.items, ap signal_name s.1)

one_name : (d : Parts) (v : ℕ) (a b : Name) → IsSignalNamed d v a → IsSignalNamed d v b → a ≡ b
one_name d v a b h k = same_Some a b (sym h ∙ k)

pub right_edge : (d : Parts) (c : Claims) (v : ℕ) (row : List ℕ) (o : Option ℕ) → v < length d.signals → ((p : ℕ) → (Contains row p ↔ NamesEntry d c.edges p v)) → IsEdgeSignal d v →
    ((x : ℕ) → (IsOnly (λ y. Contains row y) x ↔ o ≡ Some x)) → (is_some o ≡ true ↔ HasEntries d c v)
right_edge d c v row o h are edge only = (into, back) where
  into : is_some o ≡ true → HasEntries d c v
  into t =
      let x = some_is o t in
      let y = (only x.0).1 x.1 in
      record {
        one = λ name is e. let f = at_named d c.edges v name is in
            at_one c.edges name x.0 ((f x.0).0 ((are x.0).0 y.0), λ q a. y.1 q ((are q).1 ((f q).1 a)));
        none = λ name is not. absurd (not edge);
      }

  back : HasEntries d c v → is_some o ≡ true
  back k =
      let n = has_name d v h in
      let f = at_named d c.edges v n.0 n.1 in
      let y = one_at c.edges n.0 (k.one n.0 n.1 edge) in
      ap is_some ((only y.0).0 ((are y.0).1 ((f y.0).1 y.1.0), λ q r. y.1.1 q ((f q).0 ((are q).0 r))))

empty_of : (row : List ℕ) → ((p : ℕ) → Contains row p → ⊥) → length row ≡ 0
empty_of [] h = refl
empty_of (x ∷ xs) h = absurd (h x (0, omega arith, refl))

pub right_none : (d : Parts) (c : Claims) (v : ℕ) (row : List ℕ) (b : Bool) → v < length d.signals → ((p : ℕ) → (Contains row p ↔ NamesEntry d c.edges p v)) → (IsEdgeSignal d v → ⊥) →
    (b ≡ true ↔ length row ≡ 0) → (b ≡ true ↔ HasEntries d c v)
right_none d c v row b h are no_edge empty = (into, back) where
  into : b ≡ true → HasEntries d c v
  into t = record {
    one = λ name is e. absurd (no_edge e);
    none = λ name is e. at_none c.edges name (λ p a. let r = (are p).1 ((at_named d c.edges v name is p).1 a) in absurd (omega (arith, r.1, empty.0 t)));
  }

  back : HasEntries d c v → b ≡ true
  back k =
      let n = has_name d v h in
      empty.1 (empty_of row (λ p r. none_at c.edges n.0 (k.none n.0 n.1 no_edge) p ((at_named d c.edges v n.0 n.1 p).0 ((are p).0 r))))
