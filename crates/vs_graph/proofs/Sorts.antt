-- Orders that go on, and tables of what things need.
use Rattle.std.proofs.Common.{◌≡◌, ℕ, zero, suc, ◌+◌, ◌<◌, ◌≤◌, ◌↔◌, ◌⊎◌, ◌++◌, inl, inr, Bool, true, false, Some, List, [], ◌∷◌, length, replicate, set, get_or, slice_get, slice_index_or, refl, sym, ◌∙◌, ap, subst, arith}
use Rattle.std.specs.List.{Contains}
use Rattle.std.specs.declared.vec.Vec.{Vec}
use Rattle.std.specs.declared.alloc.Global.{Global}
use Rattle.std.proofs.lemmas.List.{length-set, length-replicate}
use Rattle.std.proofs.lemmas.List.Elements.{Contains-append_left, Contains-append_right, Contains-append_cases, Contains-push, Contains-push_cases}
use Rattle.std.proofs.lemmas.Bool.{cases_eq}
use Rattle.std.proofs.lemmas.Option.{slice_get_within, get_or_from_slice_get, slice_get-get_or, same_Some}
use Rattle.vs_graph.specs.Order.{Needs, Precedes, Lacks, IsSorted}
use Rattle.vs_graph.specs.Rows.{AreRows, row}
use Rattle.vs_graph.specs.Sorting.{IsPlaced, AreSorted, LacksOne, GoesOn, IsTried, IsPlacing, ArePlacing, LacksAt, AreTriedAt, AreUsers}
use Rattle.vs_graph.proofs.RowLemmas.{below_or}

-- ---- places of lists

pub contains_at : {A : Type 0} (xs : List A) (i : ℕ) (x : A) → slice_get xs i ≡ Some x → Contains xs x
contains_at xs i x is = (i, slice_get_within xs i x is, get_or_from_slice_get xs i x x is)

pub place_of : {A : Type 0} (xs : List A) (x : A) → Contains xs x → (i : ℕ) × (i < length xs) × (slice_get xs i ≡ Some x)
place_of xs x (i, within, is) = (i, within, slice_get-get_or xs i x within ∙ ap (λ y. Some y) is)

pub append_keeps : {A : Type 0} (xs ys : List A) (i : ℕ) (x : A) → slice_get xs i ≡ Some x → slice_get (xs ++ ys) i ≡ Some x
append_keeps [] ys i x h = cc
append_keeps (z ∷ xs) ys zero x h = h
append_keeps (z ∷ xs) ys (suc i) x h = append_keeps xs ys i x h

pub append_back : {A : Type 0} (xs ys : List A) (i : ℕ) → i < length xs → slice_get (xs ++ ys) i ≡ slice_get xs i
append_back [] ys i h = absurd (omega (arith, h))
append_back (z ∷ xs) ys zero h = refl
append_back (z ∷ xs) ys (suc i) h = append_back xs ys i (omega (arith, h))

pub append_at : {A : Type 0} (xs : List A) (x : A) → slice_get (xs ++ x ∷ []) (length xs) ≡ Some x
append_at [] x = refl
append_at (z ∷ xs) x = append_at xs x

pub push_cases : {A : Type 0} (xs : List A) (x : A) (i : ℕ) (y : A) → slice_get (xs ++ x ∷ []) i ≡ Some y → (slice_get xs i ≡ Some y) ⊎ ((i ≡ length xs) × (x ≡ y))
push_cases [] x zero y h = inr (refl, same_Some x y h)
push_cases [] x (suc i) y h = cc
push_cases (z ∷ xs) x zero y h = inl h
push_cases (z ∷ xs) x (suc i) y h = elim (push_cases xs x i y h) [ inl a ↦ inl a | inr e ↦ inr (ap suc e.0, e.1) ]

-- ---- marks

pub set_same : (marks : List Bool) (k : ℕ) → k < length marks → IsPlaced (set marks k true) k
set_same [] k h = absurd (omega (arith, h))
set_same (m ∷ marks) zero h = refl
set_same (m ∷ marks) (suc k) h = set_same marks k (omega (arith, h))

pub set_keeps : (marks : List Bool) (k b : ℕ) → IsPlaced marks b → IsPlaced (set marks k true) b
set_keeps [] k b h = h
set_keeps (m ∷ marks) zero zero h = refl
set_keeps (m ∷ marks) zero (suc b) h = h
set_keeps (m ∷ marks) (suc k) zero h = h
set_keeps (m ∷ marks) (suc k) (suc b) h = set_keeps marks k b h

pub set_cases : (marks : List Bool) (k b : ℕ) → IsPlaced (set marks k true) b → IsPlaced marks b ⊎ (b ≡ k)
set_cases [] k b h = inl h
set_cases (m ∷ marks) zero zero h = inr refl
set_cases (m ∷ marks) zero (suc b) h = inl h
set_cases (m ∷ marks) (suc k) zero h = inl h
set_cases (m ∷ marks) (suc k) (suc b) h = elim (set_cases marks k b h) [ inl i ↦ inl i | inr e ↦ inr (ap suc e) ]

pub placed_within : (marks : List Bool) (k : ℕ) → IsPlaced marks k → k < length marks
placed_within [] k h = absurd (grind (arith, h))
placed_within (m ∷ marks) zero h = omega arith
placed_within (m ∷ marks) (suc k) h = omega (arith, placed_within marks k h)

-- ---- orders that go on

pub goes_refl : (xs : List ℕ) → GoesOn xs xs
goes_refl xs = ([], sym (none_more xs)) where
  none_more : (xs : List ℕ) → xs ++ [] ≡ xs
  none_more [] = refl
  none_more (x ∷ xs) = ap (λ ys. x ∷ ys) (none_more xs)

append_more : (xs ys zs : List ℕ) → xs ++ ys ++ zs ≡ xs ++ (ys ++ zs)
append_more [] ys zs = refl
append_more (x ∷ xs) ys zs = ap (λ t. x ∷ t) (append_more xs ys zs)

pub goes_trans : (xs ys zs : List ℕ) → GoesOn xs ys → GoesOn ys zs → GoesOn xs zs
goes_trans xs ys zs (a, e) (b, f) = (a ++ b, f ∙ ap (λ t. t ++ b) e ∙ append_more xs a b)

pub goes_place : (xs ys : List ℕ) (i x : ℕ) → GoesOn xs ys → slice_get xs i ≡ Some x → slice_get ys i ≡ Some x
goes_place xs ys i x (more, e) h = subst (λ t. slice_get t i ≡ Some x) (sym e) (append_keeps xs more i x h)

pub goes_back : (xs ys : List ℕ) (i x : ℕ) → GoesOn xs ys → i < length xs → slice_get ys i ≡ Some x → slice_get xs i ≡ Some x
goes_back xs ys i x (more, e) within h = sym (append_back xs more i within) ∙ subst (λ t. slice_get t i ≡ Some x) e h

pub goes_contains : (xs ys : List ℕ) (x : ℕ) → GoesOn xs ys → Contains xs x → Contains ys x
goes_contains xs ys x goes h = let p = place_of xs x h in contains_at ys p.0 x (goes_place xs ys p.0 x goes p.2)

pub still_placed : (table : List (Vec ℕ Global)) (old new : List ℕ) (marks more : List Bool) (x : ℕ) → AreSorted table old marks → AreSorted table new more → GoesOn old new → IsPlaced marks x → IsPlaced more x
still_placed table old new marks more x a b goes h = b.marked x (goes_contains old new x goes (a.there x h))

pub lacks_less : (table : List (Vec ℕ Global)) (old new : List ℕ) (x : ℕ) → GoesOn old new → Lacks table new x → Lacks table old x
lacks_less table old new x goes l = record { lacked = l.lacked; needs = l.needs; is_out = λ h. l.is_out (goes_contains old new l.lacked goes h) }

-- ---- one more thing is placed

pub one_more : (table : List (Vec ℕ Global)) (order : List ℕ) (marks : List Bool) (x : ℕ) (row : Vec ℕ Global) → AreSorted table order marks → x < length marks → (IsPlaced marks x → ⊥) →
    slice_get table x ≡ Some row → ((y : ℕ) → Contains row.items y → IsPlaced marks y) → AreSorted table (order ++ x ∷ []) (set marks x true)
one_more table order marks x row s within new is all = record {
  long = length-set marks x true ∙ s.long;
  marked = λ y h. elim (Contains-push_cases order x y h) [
    | inl a ↦ set_keeps marks x y (s.marked y a)
    | inr e ↦ subst (IsPlaced (set marks x true)) e (set_same marks x within)
  ];
  there = λ y h. elim (set_cases marks x y h) [
    | inl a ↦ Contains-append_left order (x ∷ []) y (s.there y a)
    | inr e ↦ subst (Contains (order ++ x ∷ [])) (sym e) (Contains-push order x)
  ];
  once = λ i j y a b. each i j y (push_cases order x i y a) (push_cases order x j y b);
  after = λ i y z a n. behind i y z n (push_cases order x i y a);
} where
  each : (i j y : ℕ) → (slice_get order i ≡ Some y) ⊎ ((i ≡ length order) × (x ≡ y)) → (slice_get order j ≡ Some y) ⊎ ((j ≡ length order) × (x ≡ y)) → i ≡ j
  each i j y (inl a) (inl b) = s.once i j y a b
  each i j y (inl a) (inr b) = absurd (new (s.marked x (contains_at order i x (a ∙ ap (λ t. Some t) (sym b.1)))))
  each i j y (inr a) (inl b) = absurd (new (s.marked x (contains_at order j x (b ∙ ap (λ t. Some t) (sym a.1)))))
  each i j y (inr a) (inr b) = a.0 ∙ sym b.0

  behind : (i y z : ℕ) → Needs table y z → (slice_get order i ≡ Some y) ⊎ ((i ≡ length order) × (x ≡ y)) → Precedes (order ++ x ∷ []) i z
  behind i y z n (inl a) = let b = s.after i y z a n in record { place = b.place; before = b.before; is = append_keeps order (x ∷ []) b.place z b.is }
  behind i y z n (inr e) =
      let row_is : row ≡ n.list = same_Some row n.list (sym is ∙ ap (slice_get table) e.1 ∙ n.is) in
      let p = place_of order z (s.there z (all z (subst (λ (r : Vec ℕ Global). Contains r.items z) (sym row_is) n.has))) in
      record { place = p.0; before = subst (λ k. p.0 < k) (sym e.0) p.1; is = append_keeps order (x ∷ []) p.0 z p.2 }

-- ---- what things need

-- those of a list put at the end of another one
pub needs_put : (table : List (Vec ℕ Global)) (x : ℕ) (list : Vec ℕ Global) (old new : List ℕ) → slice_get table x ≡ Some list → new ≡ old ++ list.items → (y : ℕ) →
    (Contains new y ↔ (Contains old y ⊎ Needs table x y))
needs_put table x list old new is made y = (
  λ c. elim (Contains-append_cases old list.items y (subst (λ l. Contains l y) made c)) [
    | inl a ↦ inl a
    | inr b ↦ inr (record { list = list; is = is; has = b })
  ],
  λ h. subst (λ l. Contains l y) (sym made) (elim h [
    | inl a ↦ Contains-append_left old list.items y a
    | inr n ↦ Contains-append_right old list.items y (subst (λ (v : Vec ℕ Global). Contains v.items y) (same_Some n.list list (sym n.is ∙ is)) n.has)
  ]),
)

-- of none there are none
pub needs_past : (table : List (Vec ℕ Global)) (x : ℕ) (out : List ℕ) → length table ≤ x → (y : ℕ) → (Contains out y ↔ (Contains out y ⊎ Needs table x y))
needs_past table x out past y = (inl, λ h. elim h [ inl a ↦ a | inr n ↦ absurd (omega (arith, past, slice_get_within table x n.list n.is)) ])

pub users_are : (table : List (Vec ℕ Global)) (users : List (List ℕ)) → AreRows (Needs table) (length table) (length table) users → AreUsers table users
users_are table users rows x y needs within = (rows y x within).1 (slice_get_within table x needs.list needs.is, needs)

-- ---- things that are tried

pub placed_now : (table : List (Vec ℕ Global)) (order more : List ℕ) (marks : List Bool) (x : ℕ) (row : Vec ℕ Global) → AreSorted table order marks → x < length marks →
    (IsPlaced marks x → ⊥) → slice_get table x ≡ Some row → ((y : ℕ) → Contains row.items y → IsPlaced marks y) → more ≡ order ++ x ∷ [] →
    IsPlacing table x order more (set marks x true)
placed_now table order more marks x row s within new is all e = subst (λ t. IsPlacing table x order t (set marks x true)) (sym e) (record {
  sorted = one_more table order marks x row s within new is all;
  goes_on = (x ∷ [], refl);
  tried = λ inside. inl (set_same marks x within);
})

pub lacks_one : (table : List (Vec ℕ Global)) (order : List ℕ) (marks : List Bool) (x : ℕ) (row : Vec ℕ Global) → AreSorted table order marks → slice_get table x ≡ Some row →
    LacksOne marks row.items → IsPlacing table x order order marks
lacks_one table order marks x row s is l = record {
  sorted = s;
  goes_on = goes_refl order;
  tried = λ inside. inr (record { lacked = l.lacked; needs = record { list = row; is = is; has = l.has }; is_out = λ has. l.is_out (s.marked l.lacked has) });
}

pub more_tried : (table : List (Vec ℕ Global)) (start old new : List ℕ) (before after : List Bool) (e i : ℕ) (things : List ℕ) → AreSorted table old before → GoesOn start old →
    slice_get things i ≡ Some e → IsPlacing table e old new after → ((k x : ℕ) → k < i → slice_get things k ≡ Some x → IsTried table start before x) →
    (k x : ℕ) → k < i + 1 → slice_get things k ≡ Some x → IsTried table start after x
more_tried table start old new before after e i things sorted goes is placing tried k x below at within = elim (below_or k i below) [
  | inl l ↦ elim (tried k x l at within) [
    | inl p ↦ inl (still_placed table old new before after x sorted placing.sorted placing.goes_on p)
    | inr lacks ↦ inr lacks
  ]
  | inr same ↦
      let e_is : e ≡ x = same_Some e x (sym is ∙ ap (slice_get things) (sym same) ∙ at) in
      elim (subst (λ z. IsTried table old after z) e_is placing.tried within) [
        | inl p ↦ inl p
        | inr lacks ↦ inr (lacks_less table start old x goes lacks)
      ]
]

pub all_tried : (table : List (Vec ℕ Global)) (start new : List ℕ) (marks : List Bool) (i : ℕ) (things : List ℕ) → AreSorted table new marks → GoesOn start new → length things ≤ i →
    ((k x : ℕ) → k < i → slice_get things k ≡ Some x → IsTried table start marks x) → ArePlacing table things start new marks
all_tried table start new marks i things sorted goes all tried = record {
  sorted = sorted;
  goes_on = goes;
  tried = λ x has within. let p = place_of things x has in tried p.0 x (omega (arith, p.1, all)) p.2 within;
}

lacks_at_first : (table : List (Vec ℕ Global)) (old new : List ℕ) (x : ℕ) → Lacks table old x → LacksAt table new 0 x
lacks_at_first table old new x l = record { lacked = l.lacked; needs = l.needs; is_out = λ k below is. omega (arith, below) }

pub more_first : (table : List (Vec ℕ Global)) (old new : List ℕ) (before after : List Bool) (x : ℕ) → AreSorted table old before → IsPlacing table x old new after → x < length table →
    ((y : ℕ) → y < x → IsPlaced before y ⊎ LacksAt table old 0 y) → (y : ℕ) → y < x + 1 → IsPlaced after y ⊎ LacksAt table new 0 y
more_first table old new before after x sorted placing within tried y below = elim (below_or y x below) [
  | inl l ↦ elim (tried y l) [
    | inl p ↦ inl (still_placed table old new before after y sorted placing.sorted placing.goes_on p)
    | inr lacks ↦ inr (record { lacked = lacks.lacked; needs = lacks.needs; is_out = λ k b is. omega (arith, b) })
  ]
  | inr same ↦ subst (λ z. IsPlaced after z ⊎ LacksAt table new 0 z) (sym same) (elim (placing.tried within) [
    | inl p ↦ inl p
    | inr lacks ↦ inr (lacks_at_first table old new x lacks)
  ])
]

-- ---- one more thing of the order has its users tried

same_or : (x y : ℕ) → (x ≡ y) ⊎ (x ≡ y → ⊥)
same_or x y = cases_eq x y

pub tried_on : (table : List (Vec ℕ Global)) (users : List (List ℕ)) (old new : List ℕ) (before after : List Bool) (i w : ℕ) → AreUsers table users → AreSorted table old before →
    slice_get old i ≡ Some w → ArePlacing table (row users w) old new after → AreTriedAt table old before i → AreTriedAt table new after (i + 1)
tried_on table users old new before after i w are sorted is placing tried x within = elim (tried x within) [
  | inl p ↦ inl (still_placed table old new before after x sorted placing.sorted placing.goes_on p)
  | inr lacks ↦ elim (same_or lacks.lacked w) [
    | inl same ↦
        let needs : Needs table x w = subst (Needs table x) same lacks.needs in
        let inside : w < length table = subst (λ n. w < n) sorted.long (placed_within before w (sorted.marked w (contains_at old i w is))) in
        elim (placing.tried x (are x w needs inside) within) [
          | inl p ↦ inl p
          | inr l ↦ inr (record {
            lacked = l.lacked;
            needs = l.needs;
            is_out = λ k below there.
                let short : k < length old = omega (arith, below, slice_get_within old i w is) in
                l.is_out (contains_at old k l.lacked (goes_back old new k l.lacked placing.goes_on short there));
          })
        ]
    | inr other ↦ inr (record {
      lacked = lacks.lacked;
      needs = lacks.needs;
      is_out = λ k below there.
          let short : k < length old = omega (arith, below, slice_get_within old i w is) in
          let back = goes_back old new k lacks.lacked placing.goes_on short there in
          elim (below_or k i below) [
            | inl l ↦ lacks.is_out k l back
            | inr same ↦ other (same_Some lacks.lacked w (sym back ∙ ap (slice_get old) same ∙ is))
          ];
    })
  ]
]

pub all_sorted : (table : List (Vec ℕ Global)) (order : List ℕ) (marks : List Bool) (i : ℕ) → AreSorted table order marks → length order ≤ i → AreTriedAt table order marks i →
    IsSorted table order
all_sorted table order marks i sorted all tried = record {
  within = λ x has. subst (λ n. x < n) sorted.long (placed_within marks x (sorted.marked x has));
  once = sorted.once;
  after = sorted.after;
  lacks = λ x inside out. elim (tried x inside) [
    | inl p ↦ absurd (out (sorted.there x p))
    | inr l ↦ record {
      lacked = l.lacked;
      needs = l.needs;
      is_out = λ has. let p = place_of order l.lacked has in l.is_out p.0 (omega (arith, p.1, all)) p.2;
    }
  ];
}

none_marked : (n x : ℕ) → slice_index_or (replicate n false) x false ≡ true → ⊥
none_marked zero x h = cc
none_marked (suc n) zero h = cc
none_marked (suc n) (suc x) h = none_marked n x h

pub nothing_sorted : (table : List (Vec ℕ Global)) (order : List ℕ) (marks : List Bool) → order ≡ [] → marks ≡ replicate (length table) false → AreSorted table order marks
nothing_sorted table order marks e m = record {
  long = ap length m ∙ length-replicate (length table) false;
  marked = λ x h. absurd (none_in x (subst (λ t. Contains t x) e h));
  there = λ x h. absurd (none_marked (length table) x (subst (λ t. IsPlaced t x) m h));
  once = λ i j x h. absurd (nowhere i x (subst (λ t. slice_get t i ≡ Some x) e h));
  after = λ i x y h n. absurd (nowhere i x (subst (λ t. slice_get t i ≡ Some x) e h));
} where
  none_in : (x : ℕ) → Contains [] x → ⊥
  none_in x h = omega (arith, h.1)

  nowhere : (i x : ℕ) → slice_get [] i ≡ Some x → ⊥
  nowhere i x h = cc

pub is_clear : (marks : List Bool) (x : ℕ) (b : Bool) → x < length marks → b ≡ get_or marks x b → b ≡ false → IsPlaced marks x → ⊥
is_clear [] x b h e f p = omega (arith, h)
is_clear (m ∷ marks) zero b h e f p = cc
is_clear (m ∷ marks) (suc x) b h e f p = is_clear marks x b (omega (arith, h)) e f p
