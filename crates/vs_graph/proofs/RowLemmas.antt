-- Rows of things, and what is put into them.
use Rattle.std.proofs.Common.{◌≡◌, ℕ, zero, suc, ◌+◌, ◌<◌, ◌≤◌, ◌⊎◌, ◌↔◌, inl, inr, Some, None, List, [], ◌∷◌, ◌++◌, length, drop, get_or, slice_get, refl, sym, ◌∙◌, ap, subst, arith}
use Rattle.std.specs.Prelude.{slice_set}
use Rattle.std.specs.List.{Contains}
use Rattle.std.specs.declared.vec.Vec.{Vec}
use Rattle.std.specs.declared.alloc.Global.{Global}
use Rattle.std.proofs.lemmas.List.{at_drop_more, drop_all, length-replicate, map-append, replicate_more}
use Rattle.std.proofs.lemmas.List.Elements.{Contains-append_left, Contains-append_right, Contains-append_cases}
use Rattle.std.proofs.lemmas.Option.{none-some, same_Some}
use Rattle.vs_graph.specs.Rows.{AreRows, empty_rows, row, rows, with_all, with_one}

-- ---- rows as they are kept

-- a table with a thing more in one row
pub rows_changed : {A : Type 0} (i : ℕ) (x : A) (table : List (Vec A Global)) (old new : Vec A Global) → slice_get table i ≡ Some old → new.items ≡ old.items ++ x ∷ [] →
    rows (slice_set table i new) ≡ with_one i x (rows table)
rows_changed i x [] old new h e = absurd (none-some old h)
rows_changed {A = A} zero x (r ∷ rest) old new h e = ap (λ ys. ys ∷ rows rest) (e ∙ ap (λ (v : Vec A Global). v.items ++ x ∷ []) (sym (same_Some r old h)))
rows_changed (suc i) x (r ∷ rest) old new h e = ap (λ ys. r.items ∷ ys) (rows_changed i x rest old new h e)

-- no row to change
pub rows_past : {A : Type 0} (i : ℕ) (x : A) (table : List (Vec A Global)) → slice_get table i ≡ None → rows table ≡ with_one i x (rows table)
rows_past i x [] h = refl
rows_past zero x (r ∷ rest) h = absurd (none-some r (sym h))
rows_past (suc i) x (r ∷ rest) h = ap (λ ys. r.items ∷ ys) (rows_past i x rest h)

-- an empty row more
pub row_pushed : {A : Type 0} (table more : List (Vec A Global)) (new : Vec A Global) (n : ℕ) → more ≡ table ++ new ∷ [] → new.items ≡ [] → rows table ≡ empty_rows n →
    rows more ≡ empty_rows (n + 1)
row_pushed table more new n made empty so_far =
    ap rows made ∙ map-append (λ row. row.items) table (new ∷ []) ∙ ap (λ ys. ys ++ new.items ∷ []) so_far ∙ ap (λ y. empty_rows n ++ y ∷ []) empty ∙ replicate_more n []

-- a row more, at the end
pub row_more : {A : Type 0} (table more : List (Vec A Global)) (new : Vec A Global) → more ≡ table ++ new ∷ [] → rows more ≡ rows table ++ new.items ∷ []
row_more table more new made = ap rows made ∙ map-append (λ row. row.items) table (new ∷ [])

-- the row of a number
pub row_here : {A : Type 0} (i : ℕ) (table : List (Vec A Global)) (here : Vec A Global) → slice_get table i ≡ Some here → here.items ≡ row (rows table) i
row_here i [] here h = absurd (none-some here h)
row_here {A = A} zero (r ∷ rest) here h = ap (λ (v : Vec A Global). v.items) (sym (same_Some r here h))
row_here (suc i) (r ∷ rest) here h = row_here i rest here h

pub row_past : {A : Type 0} (i : ℕ) (table : List (Vec A Global)) → length table ≤ i → [] ≡ row (rows table) i
row_past i [] h = refl
row_past zero (r ∷ rest) h = absurd (omega (arith, h))
row_past (suc i) (r ∷ rest) h = row_past i rest (omega (arith, h))

-- ---- how many rows there are

pub length_one : {A : Type 0} (i : ℕ) (x : A) (t : List (List A)) → length (with_one i x t) ≡ length t
length_one i x [] = refl
length_one zero x (r ∷ t) = refl
length_one (suc i) x (r ∷ t) = ap suc (length_one i x t)

pub length_all : {A : Type 0} (numbers : List ℕ) (x : A) (t : List (List A)) → length (with_all numbers x t) ≡ length t
length_all [] x t = refl
length_all (i ∷ numbers) x t = length_all numbers x (with_one i x t) ∙ length_one i x t

-- ---- what stands in a row

pub none_in : {A : Type 0} (x : A) → Contains [] x → ⊥
none_in x h = omega (arith, h.1)

pub head_in : {A : Type 0} (x : A) (xs : List A) → Contains (x ∷ xs) x
head_in x xs = (0, omega arith, refl)

pub tail_in : {A : Type 0} (x y : A) (xs : List A) → Contains xs y → Contains (x ∷ xs) y
tail_in x y xs h = (suc h.0, omega (arith, h.1), h.2)

pub in_either : {A : Type 0} (x y : A) (xs : List A) → Contains (x ∷ xs) y → (x ≡ y) ⊎ Contains xs y
in_either x y xs (zero, l, e) = inl e
in_either x y xs (suc n, l, e) = inr (n, omega (arith, l), e)

-- after a thing has been put into one
pub one_has : {A : Type 0} (i : ℕ) (x : A) (t : List (List A)) (k : ℕ) (y : A) →
    (Contains (row (with_one i x t) k) y ↔ (Contains (row t k) y ⊎ ((k < length t) × (k ≡ i) × (x ≡ y))))
one_has i x [] k y = (inl, λ h. elim h [ inl a ↦ a | inr b ↦ absurd (omega (arith, b.0)) ])
one_has zero x (r ∷ t) zero y = (
  λ h. elim (Contains-append_cases r (x ∷ []) y h) [
    | inl a ↦ inl a
    | inr b ↦ elim (in_either x y [] b) [ inl e ↦ inr (omega arith, refl, e) | inr n ↦ absurd (none_in y n) ]
  ],
  λ h. elim h [
    | inl a ↦ Contains-append_left r (x ∷ []) y a
    | inr b ↦ Contains-append_right r (x ∷ []) y (subst (Contains (x ∷ [])) b.2 (head_in x []))
  ],
)
one_has zero x (r ∷ t) (suc k) y = (inl, λ h. elim h [ inl a ↦ a | inr b ↦ absurd (omega (arith, b.1)) ])
one_has (suc i) x (r ∷ t) zero y = (inl, λ h. elim h [ inl a ↦ a | inr b ↦ absurd (omega (arith, b.1)) ])
one_has (suc i) x (r ∷ t) (suc k) y =
    let rest = one_has i x t k y in (
      λ h. elim (rest.0 h) [ inl a ↦ inl a | inr b ↦ inr (omega (arith, b.0), ap suc b.1, b.2) ],
      λ h. rest.1 (elim h [ inl a ↦ inl a | inr b ↦ inr (omega (arith, b.0), omega (arith, b.1), b.2) ]),
    )

-- after a thing has been put into those of some numbers
pub all_has : {A : Type 0} (numbers : List ℕ) (x : A) (t : List (List A)) (k : ℕ) (y : A) →
    (Contains (row (with_all numbers x t) k) y ↔ (Contains (row t k) y ⊎ ((k < length t) × Contains numbers k × (x ≡ y))))
all_has [] x t k y = (inl, λ h. elim h [ inl a ↦ a | inr b ↦ absurd (none_in k b.1) ])
all_has (i ∷ numbers) x t k y =
    let rest = all_has numbers x (with_one i x t) k y in
    let one = one_has i x t k y in
    let long : length (with_one i x t) ≡ length t = length_one i x t in (
      λ h. elim (rest.0 h) [
        | inl a ↦ elim (one.0 a) [ inl b ↦ inl b | inr b ↦ inr (b.0, subst (Contains (i ∷ numbers)) (sym b.1) (head_in i numbers), b.2) ]
        | inr b ↦ inr (subst (λ n. k < n) long b.0, tail_in i k numbers b.1, b.2)
      ],
      λ h. elim h [
        | inl a ↦ rest.1 (inl (one.1 (inl a)))
        | inr b ↦ elim (in_either i k numbers b.1) [
          | inl e ↦ rest.1 (inl (one.1 (inr (b.0, sym e, b.2))))
          | inr m ↦ rest.1 (inr (subst (λ n. k < n) (sym long) b.0, m, b.2))
        ]
      ],
    )

-- an empty row has nothing
pub row_empty : {A : Type 0} (n k : ℕ) → row (empty_rows {A = A} n) k ≡ []
row_empty zero k = refl
row_empty (suc n) zero = refl
row_empty (suc n) (suc k) = row_empty n k

-- ---- loops

-- a thing put into the rows of some numbers, one number on
pub all_next : {A : Type 0} (x : A) (numbers : List ℕ) (i r d : ℕ) (now next all : List (List A)) → i < length numbers → r ≡ get_or numbers i d → next ≡ with_one r x now →
    with_all (drop i numbers) x now ≡ all → with_all (drop (i + 1) numbers) x next ≡ all
all_next x numbers i r d now next all within is made so_far =
    ap (with_all (drop (i + 1) numbers) x) made ∙ ap (λ n. with_all (n ∷ drop (i + 1) numbers) x now) is ∙ sym (at_drop_more (λ ns. with_all ns x now) numbers i d within) ∙ so_far

pub all_done : {A : Type 0} (x : A) (numbers : List ℕ) (i : ℕ) (now all : List (List A)) → length numbers ≤ i → with_all (drop i numbers) x now ≡ all → now ≡ all
all_done x numbers i now all past so_far = ap (λ ns. with_all ns x now) (sym (drop_all i numbers past)) ∙ so_far

-- rows of so many things of a family
pub record AreSoFar (has : ℕ → ℕ → Type 0) (m n : ℕ) (table : List (List ℕ)) : Type 0 where
  pub long : length table ≡ n
  pub exact : AreRows has m n table

pub none_yet : (has : ℕ → ℕ → Type 0) (n : ℕ) (table : List (List ℕ)) → table ≡ empty_rows n → AreSoFar has 0 n table
none_yet has n table e = record {
  long = ap length e ∙ length-replicate n [];
  exact = λ r i h. (λ c. absurd (none_in i (subst (λ l. Contains l i) (ap (λ t. row t r) e ∙ row_empty n r) c)), λ y. absurd (omega (arith, y.0)));
}

pub below_or : (i n : ℕ) → i < n + 1 → (i < n) ⊎ (i ≡ n)
below_or i n h = grind (arith, h)

pub rows_done : (has : ℕ → ℕ → Type 0) (i m n : ℕ) (table : List (List ℕ)) → i ≡ m → AreSoFar has i n table → AreRows has m n table
rows_done has i m n table e so_far = subst (λ k. AreRows has k n table) e so_far.exact

-- what is put into an empty list
pub into_empty : (has : ℕ → Type 0) (old new : List ℕ) → old ≡ [] → (r : ℕ) → (Contains new r ↔ (Contains old r ⊎ has r)) → (Contains new r ↔ has r)
into_empty has old new e r f = (λ c. elim (f.0 c) [ inl a ↦ absurd (none_in r (subst (λ l. Contains l r) e a)) | inr b ↦ b ], λ h. f.1 (inr h))

pub one_more : (has : ℕ → ℕ → Type 0) (m n : ℕ) (old new : List (List ℕ)) (numbers : List ℕ) → AreSoFar has m n old → new ≡ with_all numbers m old →
    ((r : ℕ) → (Contains numbers r ↔ has m r)) → AreSoFar has (m + 1) n new
one_more has m n old new numbers so_far e those = record {
  long = ap length e ∙ length_all numbers m old ∙ so_far.long;
  exact = λ r i h. (there r i h, back r i h);
} where
  there : (r i : ℕ) → r < n → Contains (row new r) i → (i < m + 1) × has i r
  there r i h c = elim ((all_has numbers m old r i).0 (subst (λ t. Contains (row t r) i) e c)) [
    | inl a ↦ let y = (so_far.exact r i h).0 a in (omega (arith, y.0), y.1)
    | inr b ↦ (omega (arith, b.2), subst (λ k. has k r) b.2 ((those r).0 b.1))
  ]

  back : (r i : ℕ) → r < n → (i < m + 1) × has i r → Contains (row new r) i
  back r i h y = subst (λ t. Contains (row t r) i) (sym e) ((all_has numbers m old r i).1 (elim (below_or i m y.0) [
    | inl l ↦ inl ((so_far.exact r i h).1 (l, y.1))
    | inr s ↦ inr (subst (λ k. r < k) (sym so_far.long) h, (those r).1 (subst (λ k. has k r) s y.1), sym s)
  ]))
