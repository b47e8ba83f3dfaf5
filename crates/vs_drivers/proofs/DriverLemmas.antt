-- What the tables of drivers say, and marks.
use Rattle.std.proofs.Common.{◌≡◌, ℕ, zero, suc, ◌+◌, ◌-◌, ◌<◌, ◌≤◌, ◌⊎◌, ◌↔◌, inl, inr, Bool, true, false, not, IsTrue, Some, None, List, [], ◌∷◌, ◌++◌, length, get_or, take, replicate, slice_get, refl, sym, ◌∙◌, ap, subst, arith}
use Rattle.std.specs.Prelude.{slice_set}
use Rattle.std.specs.List.{Contains}
use Rattle.std.specs.declared.vec.Vec.{Vec}
use Rattle.std.specs.declared.alloc.Global.{Global}
use Rattle.std.proofs.lemmas.Bool.{cases_lt, false≢true}
use Rattle.std.proofs.lemmas.List.{get_or_past, take_more, take_all, get_or_default}
use Rattle.std.proofs.lemmas.List.Elements.{Contains-get_or, Contains-append_left, Contains-append_right, Contains-append_cases}
use Rattle.std.proofs.lemmas.Option.{none-some, same_Some, slice_get_within}
use Rattle.vs_design.specs.declared.range.BitRange.{BitRange}
use Rattle.vs_design.specs.declared.signal.Signal.{Signal}
use Rattle.vs_design.specs.Kinds.{is_variable}
use Rattle.vs_maps.specs.vs_graph.specs.Reached.{AreReached}
use Rattle.vs_maps.specs.vs_graph.proofs.RowLemmas.{row_here, head_in, in_either as split}
use Rattle.vs_rules.specs.Drivers.{Driver, DriverWrites}
use Rattle.vs_design.specs.vs_logic4.proofs.Basics.{below_or, none_in}
use Rattle.vs_drivers.specs.declared.writers.Written.{Written}
use Rattle.vs_drivers.specs.Walks.{Passed, Named, AreWriters, AreNeeds, all_met, linked, AreFreed}
use Rattle.vs_drivers.specs.Walks as w
use Rattle.vs_drivers.specs.Wires.{Wiring, Drives, WritesAt, NeedsAt, IsFree, drivers}
use Rattle.vs_drivers.proofs.Numbers.{driver_cases, block_at}
use Rattle.vs_drivers.proofs.WalkLemmas.{passed_below, reached_are}
use Rattle.vs_drivers.proofs.ConeLemmas.{unmarked}

-- ---- rows

-- what the row of a signal has
pub writers_here : (x : Wiring) (table : List (List Written)) (v : ℕ) (row : List Written) → AreWriters x table → get_or table v [] ≡ row → (e : Written) →
    (Contains row e ↔ ((v < length x.design.signals) × (e.range.signal ≡ v) × WritesAt x e.driver e.range))
writers_here x table v row are is e =
    subst (λ (l : List Written). (Contains l e ↔ ((v < length x.design.signals) × (e.range.signal ≡ v) × WritesAt x e.driver e.range))) is (are.exact v e)

-- what the row of a driver has, and what there is past the last row
pub needs_here : (x : Wiring) (table : List (Vec BitRange Global)) (n : ℕ) (row : Vec BitRange Global) → AreNeeds x table → slice_get table n ≡ Some row → (r : BitRange) →
    (Contains row.items r ↔ ((n < drivers x.design) × NeedsAt x n r))
needs_here x table n row are is r =
    let below : n < drivers x.design = subst (λ (k : ℕ). n < k) are.long (slice_get_within table n row is) in
    let both = subst (λ (l : List BitRange). (Contains l r ↔ NeedsAt x n r)) (sym (row_here n table row is)) (are.exact n r below) in
    (λ h. (below, both.0 h), λ y. both.1 y.1)

pub needs_past : (x : Wiring) (table : List (Vec BitRange Global)) (n : ℕ) → AreNeeds x table → length table ≤ n → (r : BitRange) →
    (Contains [] r ↔ ((n < drivers x.design) × NeedsAt x n r))
needs_past x table n are past r = (λ h. absurd (none_in r h), λ y. absurd (omega (arith, y.0, past, are.long)))

-- ---- walks

past_false : (marks : List Bool) (n : ℕ) → length marks ≤ n → IsTrue (get_or marks n false) → ⊥
past_false marks n past h = false≢true (sym (get_or_past marks n false past) ∙ h)

pub passed_marks : (x : Wiring) (needs : List (Vec BitRange Global)) (table : List (List Written)) (rs : List BitRange) (marks : List Bool) → AreNeeds x needs → AreWriters x table →
    length marks ≡ length needs → AreReached (linked x.design.signals needs table) (all_met x.design.signals table rs) (length needs) marks → (n : ℕ) →
    (IsTrue (get_or marks n false) ↔ Passed x rs n)
passed_marks x needs table rs marks a b long reached n = elim (cases_lt n (length needs)) [
  | inl l ↦ (λ h. (reached_are x needs table a b rs n).0 ((reached n l).0 h), λ p. (reached n l).1 ((reached_are x needs table a b rs n).1 p))
  | inr g ↦ (λ h. absurd (past_false marks n (omega (arith, g, long)) h), λ p. let below = passed_below x rs n p in absurd (omega (arith, below, g, a.long)))
]

-- ---- sources

pub free_unknown : (x : Wiring) (v : ℕ) → slice_get x.design.signals v ≡ None → (IsTrue false ↔ IsFree x v)
free_unknown x v is = (λ h. absurd (false≢true h), λ f. absurd (none-some f.variable.0 (sym is ∙ f.variable.1)))

pub free_net : (x : Wiring) (v : ℕ) (s : Signal) → slice_get x.design.signals v ≡ Some s → is_variable s.kind ≡ false → (IsTrue false ↔ IsFree x v)
free_net x v s is net = (
  λ h. absurd (false≢true h),
  λ f. absurd (false≢true (sym net ∙ ap (λ (k : Signal). is_variable k.kind) (same_Some s f.variable.0 (sym is ∙ f.variable.1)) ∙ f.variable.2)),
)

is_not : (b : Bool) (A : Type 0) → (IsTrue b ↔ A) → (IsTrue (not b) ↔ (A → ⊥))
is_not true A h = (λ f. absurd (false≢true f), λ n. absurd (n (h.0 refl)))
is_not false A h = (λ t a. false≢true (h.1 a), λ n. refl)

-- a variable that has no process in its row
pub free_variable : (x : Wiring) (v : ℕ) (s : Signal) (row : List Written) (b : Bool) → slice_get x.design.signals v ≡ Some s → is_variable s.kind ≡ true →
    ((e : Written) → (Contains row e ↔ ((v < length x.design.signals) × (e.range.signal ≡ v) × WritesAt x e.driver e.range))) →
    (IsTrue b ↔ ((e : Written) × Contains row e × (length x.design.assigns ≤ e.driver))) → (IsTrue (not b) ↔ IsFree x v)
free_variable x v s row b is kind row_is has = (there, back) where
  both : IsTrue (not b) ↔ (((e : Written) × Contains row e × (length x.design.assigns ≤ e.driver)) → ⊥)
  both = is_not b ((e : Written) × Contains row e × (length x.design.assigns ≤ e.driver)) has

  there : IsTrue (not b) → IsFree x v
  there h = record {
    variable = (s, is, kind);
    undriven = λ i marked writes.
        let at = block_at x.design i in
        both.0 h (
          record { driver = length x.design.assigns + i; range = writes.range },
          (row_is (record { driver = length x.design.assigns + i; range = writes.range })).1 (
            slice_get_within x.design.signals v s is,
            writes.of,
            record {
              drives = subst (Drives x) (sym at) marked;
              writes = subst (λ (k : Driver). DriverWrites x.design k writes.range) (sym at) writes.listed;
            },
          ),
          omega arith,
        );
  }

  driven : (e : Written) → Contains row e → length x.design.assigns ≤ e.driver → IsFree x v → ⊥
  driven e c first f =
      let y = (row_is e).0 c in
      elim (driver_cases x.design e.driver) [
        | inl z ↦ absurd (omega (arith, first, z.0))
        | inr z ↦ f.undriven (e.driver - length x.design.assigns) (subst (Drives x) z.1 y.2.drives)
            (record { range = e.range; listed = subst (λ (k : Driver). DriverWrites x.design k e.range) z.1 y.2.writes; of = y.1 })
      ]

  back : IsFree x v → IsTrue (not b)
  back f = both.1 (λ y. driven y.0 y.1 y.2 f)

pub free_within : (x : Wiring) (v : ℕ) → IsFree x v → v < length x.design.signals
free_within x v f = slice_get_within x.design.signals v f.variable.0 f.variable.1

-- ---- marks

pub set_is : (marks : List Bool) (u k : ℕ) → u < length marks →
    (IsTrue (get_or (slice_set marks u true) k false) ↔ (IsTrue (get_or marks k false) ⊎ ((k ≡ u) × (k < length marks))))
set_is [] u k within = absurd (omega (arith, within))
set_is (m ∷ ms) zero zero within = (λ h. inr (refl, omega arith), λ h. refl)
set_is (m ∷ ms) zero (suc k) within = (inl, λ h. elim h [ inl l ↦ l | inr y ↦ absurd (omega (arith, y.0)) ])
set_is (m ∷ ms) (suc u) zero within = (inl, λ h. elim h [ inl l ↦ l | inr y ↦ absurd (omega (arith, y.0)) ])
set_is (m ∷ ms) (suc u) (suc k) within = let b = set_is ms u k (omega (arith, within)) in (
  λ h. elim (b.0 h) [ inl l ↦ inl l | inr y ↦ inr (ap suc y.0, omega (arith, y.1)) ],
  λ h. b.1 (elim h [ inl l ↦ inl l | inr y ↦ inr (omega (arith, y.0), omega (arith, y.1)) ]),
)

pub unset_is : (marks : List Bool) (u k : ℕ) → length marks ≤ u → (IsTrue (get_or marks k false) ↔ (IsTrue (get_or marks k false) ⊎ ((k ≡ u) × (k < length marks))))
unset_is marks u k past = (inl, λ h. elim h [ inl l ↦ l | inr y ↦ absurd (omega (arith, past, y.0, y.1)) ])

-- the mark of a variable that is free is set
pub freed_one : (x : Wiring) (old new : List Bool) (v k : ℕ) → length old ≡ length x.design.signals → IsFree x v →
    (IsTrue (get_or new k false) ↔ (IsTrue (get_or old k false) ⊎ ((k ≡ v) × (k < length old)))) →
    (IsTrue (get_or new k false) ↔ (IsTrue (get_or old k false) ⊎ (IsFree x k × (k ≡ v))))
freed_one x old new v k long free both = (
  λ h. elim (both.0 h) [ inl l ↦ inl l | inr y ↦ inr (subst (IsFree x) (sym y.0) free, y.0) ],
  λ h. both.1 (elim h [ inl l ↦ inl l | inr y ↦ let within = free_within x k y.0 in inr (y.1, omega (arith, within, long)) ]),
)

pub unfreed_one : (x : Wiring) (old : List Bool) (v k : ℕ) → (IsFree x v → ⊥) → (IsTrue (get_or old k false) ↔ (IsTrue (get_or old k false) ⊎ (IsFree x k × (k ≡ v))))
unfreed_one x old v k not = (inl, λ h. elim h [ inl l ↦ l | inr y ↦ absurd (not (subst (IsFree x) y.1 y.0)) ])

-- marks once the first of some ranges have been gone through
pub freed_none : (x : Wiring) (old : List Bool) → AreFreed x old [] old
freed_none x old = record { long = refl; exact = λ u. (inl, λ h. elim h [ inl l ↦ l | inr y ↦ absurd (none_in y.1 y.2) ]) }

freed_same : (x : Wiring) (old new : List Bool) (rs more : List BitRange) → rs ≡ more → AreFreed x old rs new → AreFreed x old more new
freed_same x old new rs more is h = subst (λ (l : List BitRange). AreFreed x old l new) is h

pub freed_more : (x : Wiring) (old now new : List Bool) (rs : List BitRange) (n : ℕ) (d : BitRange) → n < length rs → AreFreed x old (take n rs) now → length new ≡ length now →
    ((k : ℕ) → (IsTrue (get_or new k false) ↔ (IsTrue (get_or now k false) ⊎ (IsFree x k × (k ≡ (get_or rs n d).signal))))) → AreFreed x old (take (n + 1) rs) new
freed_more x old now new rs n d within h long one =
    freed_same x old new (take n rs ++ get_or rs n d ∷ []) (take (n + 1) rs) (sym (take_more rs n d within)) (record {
      long = long ∙ h.long;
      exact = λ u. (
        λ t. elim ((one u).0 t) [
          | inl o ↦ elim ((h.exact u).0 o) [ inl l ↦ inl l | inr y ↦ inr (y.0, y.1, Contains-append_left (take n rs) (get_or rs n d ∷ []) y.1 y.2, y.3) ]
          | inr y ↦ inr (y.0, get_or rs n d, Contains-append_right (take n rs) (get_or rs n d ∷ []) (get_or rs n d) (head_in (get_or rs n d) []), sym y.1)
        ],
        λ t. elim t [
          | inl o ↦ (one u).1 (inl ((h.exact u).1 (inl o)))
          | inr y ↦ elim (Contains-append_cases (take n rs) (get_or rs n d ∷ []) y.1 y.2) [
            | inl l ↦ (one u).1 (inl ((h.exact u).1 (inr (y.0, y.1, l, y.3))))
            | inr l ↦ elim (split (get_or rs n d) y.1 [] l) [
              | inl e ↦ (one u).1 (inr (y.0, sym y.3 ∙ ap (λ (r : BitRange). r.signal) (sym e)))
              | inr o ↦ absurd (none_in y.1 o)
            ]
          ]
        ],
      );
    })

pub freed_all : (x : Wiring) (old now : List Bool) (rs : List BitRange) (n : ℕ) → length rs ≤ n → AreFreed x old (take n rs) now → AreFreed x old rs now
freed_all x old now rs n past h = freed_same x old now (take n rs) rs (take_all n rs past) h

-- ---- cones

-- a signal is named by one of the ranges, or by a need of a driver below a number to which a walk leads from them
abbrev pub NamedBelow : Wiring → List BitRange → ℕ → ℕ → Type 0
NamedBelow x rs n u =
    ((r : BitRange) × Contains rs r × (r.signal ≡ u)) ⊎ ((m : ℕ) × (q : BitRange) × (m < n) × Passed x rs m × NeedsAt x m q × (q.signal ≡ u))

-- marks are those of free variables that are named so
pub record AreNamed (x : Wiring) (rs : List BitRange) (n : ℕ) (marks : List Bool) : Type 0 where
  pub long : length marks ≡ length x.design.signals
  pub exact : (u : ℕ) → (IsTrue (get_or marks u false) ↔ (IsFree x u × NamedBelow x rs n u))

pub named_first : (x : Wiring) (rs : List BitRange) (n : ℕ) (old marks : List Bool) → old ≡ replicate n false → length old ≡ length x.design.signals → AreFreed x old rs marks →
    AreNamed x rs 0 marks
named_first x rs n old marks is long h = record {
  long = h.long ∙ long;
  exact = λ u. (
    λ t. elim ((h.exact u).0 t) [
      | inl o ↦ absurd (unmarked n u (subst (λ (l : List Bool). IsTrue (get_or l u false)) is o))
      | inr y ↦ (y.0, inl (y.1, y.2, y.3))
    ],
    λ y. (h.exact u).1 (elim y.1 [ inl z ↦ inr (y.0, z.0, z.1, z.2) | inr z ↦ absurd (omega (arith, z.2)) ]),
  );
}

-- a driver more, to which a walk leads
pub named_more : (x : Wiring) (rs needs : List BitRange) (n : ℕ) (now new : List Bool) → Passed x rs n → ((r : BitRange) → (Contains needs r ↔ ((n < drivers x.design) × NeedsAt x n r))) →
    AreNamed x rs n now → AreFreed x now needs new → AreNamed x rs (n + 1) new
named_more x rs needs n now new passed needs_are h freed = record { long = freed.long ∙ h.long; exact = λ u. (there u, back u) } where
  there : (u : ℕ) → IsTrue (get_or new u false) → IsFree x u × NamedBelow x rs (n + 1) u
  there u t = elim ((freed.exact u).0 t) [
    | inl o ↦ let y = (h.exact u).0 o in (y.0, elim y.1 [ inl z ↦ inl z | inr z ↦ inr (z.0, z.1, omega (arith, z.2), z.3, z.4, z.5) ])
    | inr y ↦ (y.0, inr (n, y.1, omega arith, passed, ((needs_are y.1).0 y.2).1, y.3))
  ]

  back : (u : ℕ) → IsFree x u × NamedBelow x rs (n + 1) u → IsTrue (get_or new u false)
  back u y = elim y.1 [
    | inl z ↦ (freed.exact u).1 (inl ((h.exact u).1 (y.0, inl z)))
    | inr z ↦ elim (below_or z.0 n z.2) [
      | inl l ↦ (freed.exact u).1 (inl ((h.exact u).1 (y.0, inr (z.0, z.1, l, z.3, z.4, z.5))))
      | inr e ↦ (freed.exact u).1 (inr (
        y.0,
        z.1,
        (needs_are z.1).1 (passed_below x rs n passed, subst (λ (k : ℕ). NeedsAt x k z.1) e z.4),
        z.5,
      ))
    ]
  ]

-- one more, to which none leads
pub named_same : (x : Wiring) (rs : List BitRange) (n : ℕ) (now : List Bool) → (Passed x rs n → ⊥) → AreNamed x rs n now → AreNamed x rs (n + 1) now
named_same x rs n now not h = record {
  long = h.long;
  exact = λ u. (
    λ t. let y = (h.exact u).0 t in (y.0, elim y.1 [ inl z ↦ inl z | inr z ↦ inr (z.0, z.1, omega (arith, z.2), z.3, z.4, z.5) ]),
    λ y. (h.exact u).1 (
      y.0,
      elim y.1 [
        | inl z ↦ inl z
        | inr z ↦ elim (below_or z.0 n z.2) [
          | inl l ↦ inr (z.0, z.1, l, z.3, z.4, z.5)
          | inr e ↦ absurd (not (subst (Passed x rs) e z.3))
        ]
      ],
    ),
  );
}

-- all drivers
pub named_all : (x : Wiring) (rs : List BitRange) (n : ℕ) (marks : List Bool) → drivers x.design ≤ n → AreNamed x rs n marks → (u : ℕ) →
    (IsTrue (get_or marks u false) ↔ (IsFree x u × Named x rs u))
named_all x rs n marks all h u = (
  λ t. let y = (h.exact u).0 t in (y.0, elim y.1 [ inl z ↦ w.here z.0 z.1 z.2 | inr z ↦ w.there z.0 z.1 z.3 z.4 z.5 ]),
  λ y. (h.exact u).1 (y.0, below y.1),
) where
  below : Named x rs u → NamedBelow x rs n u
  below (w.here r c e) = inl (r, c, e)
  below (w.there m q p needs e) = let lt = passed_below x rs m p in inr (m, q, omega (arith, lt, all), p, needs, e)

-- ---- a row without processes

-- none of the first of some ranges is written by a driver whose number isn't below this one
abbrev pub NoneBefore : List Written → ℕ → ℕ → Type 0
NoneBefore row first n = (k : ℕ) (d : Written) → k < n → k < length row → (get_or row k d).driver < first

pub none_more : (row : List Written) (first n : ℕ) (d : Written) → (get_or row n d).driver < first → NoneBefore row first n → NoneBefore row first (n + 1)
none_more row first n d here before k e less within = elim (below_or k n less) [
  | inl l ↦ before k e l within
  | inr s ↦ subst (λ (w : Written). w.driver < first) (get_or_default row k d e within) (subst (λ (j : ℕ). (get_or row j d).driver < first) (sym s) here)
]

pub one_here : (row : List Written) (first n : ℕ) (d : Written) → n < length row → first ≤ (get_or row n d).driver → (IsTrue true ↔ ((e : Written) × Contains row e × (first ≤ e.driver)))
one_here row first n d within is = (λ h. (get_or row n d, Contains-get_or row n d within, is), λ y. refl)

pub none_here : (row : List Written) (first n : ℕ) → length row ≤ n → NoneBefore row first n → (IsTrue false ↔ ((e : Written) × Contains row e × (first ≤ e.driver)))
none_here row first n past before = (
  λ h. absurd (false≢true h),
  λ y. let c = y.1 in
      let less = before c.0 y.0 (omega (arith, past, c.1)) c.1 in
      let same : (get_or row c.0 y.0).driver ≡ y.0.driver = ap (λ (w : Written). w.driver) c.2 in
      absurd (omega (arith, less, same, y.2)),
)

-- the mark of a number, as it is read
pub mark_at : (marks : List Bool) (n : ℕ) (b v : Bool) → n < length marks → b ≡ get_or marks n b → b ≡ v → get_or marks n false ≡ v
mark_at marks n b v within read is = get_or_default marks n false b within ∙ sym read ∙ is
