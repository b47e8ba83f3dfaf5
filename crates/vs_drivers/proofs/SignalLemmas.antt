-- Sets of signals, and ranges by their signals.
use Rattle.std.proofs.Common.{◌≡◌, ℕ, suc, ◌+◌, ◌-◌, ◌<◌, ◌≤◌, ◌⊎◌, inl, inr, ◌↔◌, Bool, true, false, cond, IsTrue, List, [], ◌∷◌, ◌++◌, length, take, drop, get_or, refl, sym, ◌∙◌, ap, subst, arith}
use Rattle.std.specs.BTreeMap.{is_at}
use Rattle.std.specs.BTreeSet as set
use Rattle.std.specs.BTreeSet.{BTreeSet}
use Rattle.std.specs.List.{Contains}
use Rattle.std.specs.Ordering.{nat_cmp}
use Rattle.std.proofs.Math.Seq.{take-suc}
use Rattle.std.proofs.lemmas.Cmp.{nat_cmp_total}
use Rattle.std.proofs.lemmas.List.{get_or-drop, get_or-take, length-drop, length-take-le, take_all}
use Rattle.std.proofs.lemmas.List.Elements.{Contains-append_left, Contains-push, Contains-push_cases}
use Rattle.std.proofs.lemmas.Map.Lookups.{exact_unsigned}
use Rattle.std.proofs.lemmas.Map.Views.{btree_set_contains_iff, tells_apart}
use Rattle.std.proofs.lemmas.Bool.{cases_lt}
use Rattle.vs_design.specs.declared.range.BitRange.{BitRange}
use Rattle.vs_drivers.specs.Signals.{AreBelow, AreOf, AreUpTo}

-- ---- sets

pub has_is : (s : BTreeSet ℕ) (l : List ℕ) (k : ℕ) (b : Bool) → s.keys ≡ l → b ≡ set.contains nat_cmp s k → (IsTrue b ↔ Contains l k)
has_is s l k b view e =
    let h = btree_set_contains_iff nat_cmp_total exact_unsigned s k in
    (λ t. subst (λ (x : List ℕ). Contains x k) view (h.0 (sym e ∙ t)), λ c. e ∙ h.1 (subst (λ (x : List ℕ). Contains x k) (sym view) c))

cond_cases : (a b : Bool) → cond a true b ≡ true → (a ≡ true) ⊎ (b ≡ true)
cond_cases true b h = inl refl
cond_cases false b h = inr h

cond_else : (a b : Bool) → b ≡ true → cond a true b ≡ true
cond_else true b h = refl
cond_else false b h = h

pub put_is : (s n : BTreeSet ℕ) (l : List ℕ) (k : ℕ) → s.keys ≡ l → set.Updates nat_cmp s n k true → (v : ℕ) → (Contains n.keys v ↔ (Contains l v ⊎ (v ≡ k)))
put_is s n l k view up v = (there, back) where
  old : IsTrue (set.contains nat_cmp s v) ↔ Contains s.keys v
  old = btree_set_contains_iff nat_cmp_total exact_unsigned s v

  new : IsTrue (set.contains nat_cmp n v) ↔ Contains n.keys v
  new = btree_set_contains_iff nat_cmp_total exact_unsigned n v

  there : Contains n.keys v → Contains l v ⊎ (v ≡ k)
  there c = elim (cond_cases (is_at (nat_cmp k) v) (set.contains nat_cmp s v) (sym (up.0 v) ∙ new.1 c)) [
    | inl a ↦ inr (sym (tells_apart exact_unsigned k v a))
    | inr b ↦ inl (subst (λ (x : List ℕ). Contains x v) view (old.0 b))
  ]

  here : v ≡ k → Contains n.keys v
  here e = new.0 (subst (λ (x : ℕ). set.contains nat_cmp n x ≡ true) (sym e) up.1)

  back : Contains l v ⊎ (v ≡ k) → Contains n.keys v
  back (inl c) = new.0 (up.0 v ∙ cond_else (is_at (nat_cmp k) v) (set.contains nat_cmp s v) (old.1 (subst (λ (x : List ℕ). Contains x v) (sym view) c)))
  back (inr e) = here e

-- those of a list, one after another
pub none_put : (set xs : List ℕ) → set ≡ [] → (v : ℕ) → (Contains set v ↔ Contains (take 0 xs) v)
none_put set xs is v = (
  λ h. absurd (omega (arith, (subst (λ (l : List ℕ). Contains l v) is h).1)),
  λ h. absurd (omega (arith, h.1)),
)

pub one_put : (old new xs : List ℕ) (i d : ℕ) → i < length xs → ((v : ℕ) → (Contains old v ↔ Contains (take i xs) v)) →
    ((v : ℕ) → (Contains new v ↔ (Contains old v ⊎ (v ≡ get_or xs i d)))) → (v : ℕ) → (Contains new v ↔ Contains (take (i + 1) xs) v)
one_put old new xs i d within so put v = (there, back) where
  one : i + 1 ≡ suc i
  one = omega arith

  more : take (i + 1) xs ≡ take i xs ++ get_or xs i d ∷ []
  more = ap (λ (n : ℕ). take n xs) one ∙ take-suc xs i d within

  there : Contains new v → Contains (take (i + 1) xs) v
  there h = subst (λ (l : List ℕ). Contains l v) (sym more) (elim ((put v).0 h) [
    | inl o ↦ Contains-append_left (take i xs) (get_or xs i d ∷ []) v ((so v).0 o)
    | inr e ↦ subst (λ (x : ℕ). Contains (take i xs ++ get_or xs i d ∷ []) x) (sym e) (Contains-push (take i xs) (get_or xs i d))
  ])

  back : Contains (take (i + 1) xs) v → Contains new v
  back h = (put v).1 (elim (Contains-push_cases (take i xs) (get_or xs i d) v (subst (λ (l : List ℕ). Contains l v) more h)) [
    | inl o ↦ inl ((so v).1 o)
    | inr e ↦ inr (sym e)
  ])

pub all_put : (set xs : List ℕ) (i : ℕ) → length xs ≤ i → ((v : ℕ) → (Contains set v ↔ Contains (take i xs) v)) → (v : ℕ) → (Contains set v ↔ Contains xs v)
all_put set xs i past so v = subst (λ (l : List ℕ). (Contains set v ↔ Contains l v)) (take_all i xs past) (so v)

-- ---- ranges

both : (a b : ℕ) → a ≤ b → b ≤ a → a ≡ b
both a b h k = omega (arith, h, k)

-- those from the first of a signal up to the last one
part_is : (all rest some : List BitRange) (v first end : ℕ) → AreBelow all v first → rest ≡ drop first all → AreUpTo rest v end → some ≡ take end rest → AreOf all v some
part_is all rest some v first end low of_rest high is r = (there, back) where
  long : length some ≡ end
  long = ap length is ∙ length-take-le end rest high.few

  long_rest : length rest ≡ length all - first
  long_rest = ap length of_rest ∙ length-drop first all

  moved : (k : ℕ) → get_or rest k r ≡ get_or all (first + k) r
  moved k = ap (λ (x : List BitRange). get_or x k r) of_rest ∙ get_or-drop first all k r

  at : (k : ℕ) → k < end → get_or some k r ≡ get_or rest k r
  at k l = ap (λ (x : List BitRange). get_or x k r) is ∙ get_or-take end rest k r l

  there : Contains some r → Contains all r × (r.signal ≡ v)
  there c =
      let less : c.0 < end = omega (arith, c.1, long) in
      let in_all : first + c.0 < length all = omega (arith, less, high.few, long_rest) in
      let here : get_or rest c.0 r ≡ r = sym (at c.0 less) ∙ c.2 in
      let same : get_or all (first + c.0) r ≡ r = sym (moved c.0) ∙ here in
      let more : v ≤ r.signal = subst (λ (x : BitRange). v ≤ x.signal) same (low.others (first + c.0) r (omega arith) in_all) in
      let most : r.signal ≤ v = subst (λ (x : BitRange). x.signal ≤ v) here (high.up_to c.0 r less) in
      ((first + c.0, in_all, same), both r.signal v most more)

  back : Contains all r × (r.signal ≡ v) → Contains some r
  back y =
      let k = y.0.0 in
      let after : first ≤ k = elim (cases_lt k first) [
        | inl l ↦
            let less : r.signal < v = subst (λ (x : BitRange). x.signal < v) y.0.2 (low.before k r l) in
            absurd (omega (arith, less, y.1))
        | inr g ↦ g
      ] in
      let there : first + (k - first) ≡ k = omega (arith, after) in
      let here : get_or rest (k - first) r ≡ r = moved (k - first) ∙ ap (λ (n : ℕ). get_or all n r) there ∙ y.0.2 in
      let less : k - first < end = elim (cases_lt (k - first) end) [
        | inl l ↦ l
        | inr g ↦
            let more : v < r.signal = subst (λ (x : BitRange). v < x.signal) here (high.others (k - first) r g (omega (arith, after, y.0.1, long_rest))) in
            absurd (omega (arith, more, y.1))
      ] in
      (k - first, omega (arith, less, long), at (k - first) less ∙ here)

-- the same of the list that a contract sees
pub part_of : (all seen rest some : List BitRange) (v first end : ℕ) → all ≡ seen → AreBelow all v first → rest ≡ drop first all → AreUpTo rest v end →
    some ≡ take end rest → AreOf seen v some
part_of all seen rest some v first end view low of_rest high is =
    subst (λ (l : List BitRange). AreOf l v some) view (part_is all rest some v first end low of_rest high is)
