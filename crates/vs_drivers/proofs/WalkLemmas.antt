-- Walks through drivers, cones, and what is reached on tables.
use Rattle.std.proofs.Common.{◌≡◌, ℕ, ◌<◌, ◌⊎◌, ◌↔◌, ◌==◌, ◌&&◌, inl, inr, Bool, true, false, Option, Some, None, List, [], ◌∷◌, length, get_or, slice_get, if◌then◌else◌, refl, sym, ◌∙◌, subst, ap}
use Rattle.std.specs.List.{Contains}
use Rattle.std.specs.declared.vec.Vec.{Vec}
use Rattle.std.specs.declared.alloc.Global.{Global}
use Rattle.std.proofs.lemmas.Bool.{and_parts, eqb-true, false≢true}
use Rattle.std.proofs.lemmas.Option.{slice_get_within}
use Rattle.vs_design.specs.declared.range.BitRange.{BitRange}
use Rattle.vs_design.specs.declared.signal.Signal.{Signal}
use Rattle.vs_design.specs.Parts.{Parts}
use Rattle.vs_design.specs.Tables.{rows}
use Rattle.vs_design.specs.WellFormed.{width_at}
use Rattle.vs_rules.specs.vs_process.specs.Bits.{meet_in, common_word, common_place}
use Rattle.vs_maps.specs.vs_graph.specs.Reached.{Reached, begins, goes_on}
use Rattle.vs_maps.specs.vs_graph.proofs.RowLemmas.{head_in, in_either as split}
use Rattle.vs_rules.specs.Claims.{Claims}
use Rattle.vs_rules.specs.Drivers.{Driver, IsDriver, DriverWrites, DriverNeeds, InCone, Passes}
use Rattle.vs_rules.specs.Drivers as r
use Rattle.vs_rules.specs.Paths.{Meet}
use Rattle.vs_design.specs.vs_logic4.proofs.Basics.{none_in}
use Rattle.vs_drivers.specs.declared.writers.Written.{Written}
use Rattle.vs_drivers.specs.Meets.{meet_among}
use Rattle.vs_drivers.specs.Wires.{Wiring, Drives, driver_at, drivers, WritesAt, NeedsAt, IsFree}
use Rattle.vs_drivers.specs.Walks.{MeetsAt, Passed, Named, AreWriters, AreNeeds, met, all_met, linked}
use Rattle.vs_drivers.specs.Walks as w
use Rattle.vs_drivers.proofs.ListBasics.{joined_on, joined_back}
use Rattle.vs_drivers.proofs.Numbers.{AreMarks, number_of, writes_below, drives_on, drives_back, free_is}

-- ---- cones are what walks lead to

-- a driver meets a range by its number
meets_at : (x : Wiring) (c : Claims) → AreMarks x c → (n : ℕ) (y : Driver) (q p : BitRange) → driver_at x.design n ≡ y → IsDriver x.design c y →
    DriverWrites x.design y q → Meet x.design q p → MeetsAt x p n
meets_at x c m n y q p at is writes meets = record {
  range = q;
  writes = record {
    drives = subst (Drives x) (sym at) (drives_back x c m y is);
    writes = subst (λ (k : Driver). DriverWrites x.design k q) (sym at) writes;
  };
  meets = meets;
}

needs_at : (x : Wiring) (c : Claims) → AreMarks x c → (n : ℕ) (y : Driver) (q : BitRange) → driver_at x.design n ≡ y → IsDriver x.design c y →
    DriverNeeds x.design y q → NeedsAt x n q
needs_at x c m n y q at is needs = record {
  drives = subst (Drives x) (sym at) (drives_back x c m y is);
  needs = subst (λ (k : Driver). DriverNeeds x.design k q) (sym at) needs;
}

-- a range is one of some, or a need of a driver to which a walk leads from them
abbrev Comes : Wiring → List BitRange → BitRange → Type 0
Comes x rs p = Contains rs p ⊎ ((n : ℕ) × Passed x rs n × NeedsAt x n p)

passed_next : (x : Wiring) (rs : List BitRange) (p : BitRange) (n : ℕ) → Comes x rs p → MeetsAt x p n → Passed x rs n
passed_next x rs p n (inl h) meets = w.begins p n h meets
passed_next x rs p n (inr y) meets = w.goes_on y.0 n p y.1 y.2 meets

cone_on : (x : Wiring) (c : Claims) → AreMarks x c → (rs : List BitRange) (u : ℕ) (p : BitRange) → InCone x.design c u p → Comes x rs p → IsFree x u × Named x rs u
cone_on x c m rs u _ (r.InCone.here p source e t) (inl h) = ((free_is x c m u).1 source, w.here p h e)
cone_on x c m rs u _ (r.InCone.here p source e t) (inr y) = ((free_is x c m u).1 source, w.there y.0 p y.1 y.2 e)
cone_on x c m rs u _ (r.InCone.through p q k y is writes meets needs cone) comes =
    let n = number_of x.design y q writes in
    let on = passed_next x rs p n.0 comes (meets_at x c m n.0 y q p n.1 is writes meets) in
    cone_on x c m rs u k cone (inr (n.0, on, needs_at x c m n.0 y k n.1 is needs))

passes_on : (x : Wiring) (c : Claims) → AreMarks x c → (rs : List BitRange) (n : ℕ) (p : BitRange) → Passes x.design c (driver_at x.design n) p → Comes x rs p → Passed x rs n
passes_on x c m rs n _ (r.Passes.here p q is writes meets) comes = passed_next x rs p n comes (meets_at x c m n (driver_at x.design n) q p refl is writes meets)
passes_on x c m rs n _ (r.Passes.through p q k y is writes meets needs passes) comes =
    let l = number_of x.design y q writes in
    let on = passed_next x rs p l.0 comes (meets_at x c m l.0 y q p l.1 is writes meets) in
    passes_on x c m rs n k passes (inr (l.0, on, needs_at x c m l.0 y k l.1 is needs))

-- what holds of a range where it holds of a need of a driver that meets it
abbrev Closed : Wiring → Claims → (BitRange → Type 0) → Type 0
Closed x c P = (p q k : BitRange) (y : Driver) → IsDriver x.design c y → DriverWrites x.design y q → Meet x.design q p → DriverNeeds x.design y k → P k → P p

pulled : (x : Wiring) (c : Claims) → AreMarks x c → (P : BitRange → Type 0) → Closed x c P → (rs : List BitRange) (n : ℕ) → Passed x rs n → (k : BitRange) → NeedsAt x n k → P k →
    (p : BitRange) × Contains rs p × P p
pulled x c m P closed rs _ (w.begins p n h meets) k needs holds =
    (p, h, closed p meets.range k (driver_at x.design n) (drives_on x c m (driver_at x.design n) meets.writes.drives) meets.writes.writes meets.meets needs.needs holds)
pulled x c m P closed rs _ (w.goes_on l n q passed before meets) k needs holds =
    pulled x c m P closed rs l passed q before
    (closed q meets.range k (driver_at x.design n) (drives_on x c m (driver_at x.design n) meets.writes.drives) meets.writes.writes meets.meets needs.needs holds)

cone_back : (x : Wiring) (c : Claims) → AreMarks x c → (rs : List BitRange) (u : ℕ) → IsFree x u → Named x rs u → (p : BitRange) × Contains rs p × InCone x.design c u p
cone_back x c m rs u free (w.here p h e) = (p, h, r.InCone.here p ((free_is x c m u).0 free) e tt)
cone_back x c m rs u free (w.there n q passed needs e) =
    pulled x c m (InCone x.design c u) (λ p q k y is writes meets needs cone. r.InCone.through p q k y is writes meets needs cone) rs n passed q needs
    (r.InCone.here q ((free_is x c m u).0 free) e tt)

passes_back : (x : Wiring) (c : Claims) → AreMarks x c → (rs : List BitRange) (n : ℕ) → Passed x rs n → (p : BitRange) × Contains rs p × Passes x.design c (driver_at x.design n) p
passes_back x c m rs _ (w.begins p n h meets) =
    (p, h, r.Passes.here p meets.range (drives_on x c m (driver_at x.design n) meets.writes.drives) meets.writes.writes meets.meets)
passes_back x c m rs _ (w.goes_on l n q passed before meets) =
    pulled x c m (Passes x.design c (driver_at x.design n)) (λ p q k y is writes meets needs passes. r.Passes.through p q k y is writes meets needs passes) rs l passed q before
    (r.Passes.here q meets.range (drives_on x c m (driver_at x.design n) meets.writes.drives) meets.writes.writes meets.meets)

-- the cones of some ranges
pub cones_are : (x : Wiring) (c : Claims) → AreMarks x c → (rs : List BitRange) (u : ℕ) →
    ((IsFree x u × Named x rs u) ↔ ((p : BitRange) × Contains rs p × InCone x.design c u p))
cones_are x c m rs u = (λ h. cone_back x c m rs u h.0 h.1, λ y. cone_on x c m rs u y.0 y.2 (inl y.1))

-- the drivers that they pass through
pub passes_are : (x : Wiring) (c : Claims) → AreMarks x c → (rs : List BitRange) (n : ℕ) →
    (Passed x rs n ↔ ((p : BitRange) × Contains rs p × Passes x.design c (driver_at x.design n) p))
passes_are x c m rs n = (passes_back x c m rs n, λ y. passes_on x c m rs n y.0 y.2 (inl y.1))

-- ---- tables

pub word_within : (o : Option Signal) (a b : Option ℕ) → common_word o a b ≡ true → (s : Signal) × (o ≡ Some s)
word_within None a b h = absurd (false≢true h)
word_within (Some s) a b h = (s, refl)

-- ranges that meet are of one signal of the design
pub meet_signal : (d : Parts) (p q : BitRange) → meet_in d p q ≡ true → (p.signal ≡ q.signal) × (p.signal < length d.signals)
meet_signal d p q h =
    let all = and_parts ((p.signal == q.signal) && common_word (slice_get d.signals p.signal) p.word q.word)
    (common_place (width_at (slice_get d.signals p.signal)) p.bits q.bits) h in
    let two = and_parts (p.signal == q.signal) (common_word (slice_get d.signals p.signal) p.word q.word) all.0 in
    let s = word_within (slice_get d.signals p.signal) p.word q.word two.1 in
    (eqb-true p.signal q.signal two.0, slice_get_within d.signals p.signal s.0 s.1)

one_if : (b : Bool) (k n : ℕ) → Contains (if b then k ∷ [] else []) n → (b ≡ true) × (k ≡ n)
one_if true k n h = elim (split k n [] h) [ inl e ↦ (refl, e) | inr o ↦ absurd (none_in n o) ]
one_if false k n h = absurd (none_in n h)

met_on : (x : Wiring) (table : List (List Written)) → AreWriters x table → (p : BitRange) (n : ℕ) → Contains (met x.design.signals table p) n → MeetsAt x p n
met_on x table are p n h =
    let y = joined_on (λ (e : Written). if meet_among x.design.signals e.range p then e.driver ∷ [] else []) (get_or table p.signal []) n h in
    let e = one_if (meet_among x.design.signals y.0.range p) y.0.driver n y.2 in record {
      range = y.0.range;
      writes = subst (λ (k : ℕ). WritesAt x k y.0.range) e.1 ((are.exact p.signal y.0).0 y.1).2;
      meets = e.0;
    }

met_back : (x : Wiring) (table : List (List Written)) → AreWriters x table → (p : BitRange) (n : ℕ) → MeetsAt x p n → Contains (met x.design.signals table p) n
met_back x table are p n m =
    let s = meet_signal x.design m.range p m.meets in
    joined_back (λ (e : Written). if meet_among x.design.signals e.range p then e.driver ∷ [] else []) (get_or table p.signal [])
    (record { driver = n; range = m.range }) n
    ((are.exact p.signal (record { driver = n; range = m.range })).1 (subst (λ (k : ℕ). k < length x.design.signals) s.0 s.1, s.0, m.writes))
    (subst (λ (b : Bool). Contains (if b then n ∷ [] else []) n) (sym m.meets) (head_in n []))

pub passed_below : (x : Wiring) (rs : List BitRange) (n : ℕ) → Passed x rs n → n < drivers x.design
passed_below x rs _ (w.begins p n h meets) = writes_below x n meets.range meets.writes
passed_below x rs _ (w.goes_on l n q passed before meets) = writes_below x n meets.range meets.writes

reached_on : (x : Wiring) (needs : List (Vec BitRange Global)) (table : List (List Written)) → AreNeeds x needs → AreWriters x table → (rs : List BitRange) (n : ℕ) →
    Reached (linked x.design.signals needs table) (all_met x.design.signals table rs) n → Passed x rs n
reached_on x needs table a b rs _ (begins n h) =
    let y = joined_on (met x.design.signals table) rs n h in w.begins y.0 n y.1 (met_on x table b y.0 n y.2)
reached_on x needs table a b rs _ (goes_on l n before h) =
    let passed = reached_on x needs table a b rs l before in
    let y = joined_on (met x.design.signals table) (get_or (rows needs) l []) n h in
    w.goes_on l n y.0 passed ((a.exact l y.0 (passed_below x rs l passed)).0 y.1) (met_on x table b y.0 n y.2)

reached_back : (x : Wiring) (needs : List (Vec BitRange Global)) (table : List (List Written)) → AreNeeds x needs → AreWriters x table → (rs : List BitRange) (n : ℕ) →
    Passed x rs n → Reached (linked x.design.signals needs table) (all_met x.design.signals table rs) n
reached_back x needs table a b rs _ (w.begins p n h meets) =
    begins n (joined_back (met x.design.signals table) rs p n h (met_back x table b p n meets))
reached_back x needs table a b rs _ (w.goes_on l n q passed before meets) =
    goes_on l n (reached_back x needs table a b rs l passed)
    (joined_back (met x.design.signals table) (get_or (rows needs) l []) q n ((a.exact l q (passed_below x rs l passed)).1 before) (met_back x table b q n meets))

-- what is reached on the tables is what walks lead to
pub reached_are : (x : Wiring) (needs : List (Vec BitRange Global)) (table : List (List Written)) → AreNeeds x needs → AreWriters x table → (rs : List BitRange) (n : ℕ) →
    (Reached (linked x.design.signals needs table) (all_met x.design.signals table rs) n ↔ Passed x rs n)
reached_are x needs table a b rs n = (reached_on x needs table a b rs n, reached_back x needs table a b rs n)

-- the tables lead to drivers alone
pub met_below : (x : Wiring) (table : List (List Written)) → AreWriters x table → (rs : List BitRange) (n : ℕ) → Contains (all_met x.design.signals table rs) n → n < drivers x.design
met_below x table are rs n h =
    let y = joined_on (met x.design.signals table) rs n h in
    let m = met_on x table are y.0 n y.2 in writes_below x n m.range m.writes

-- ---- a range of a signal that no driver writes

-- no driver writes what meets it
none_meets : (x : Wiring) (p : BitRange) (row : List Written) → row ≡ [] →
    ((w : Written) → (Contains row w ↔ ((p.signal < length x.design.signals) × (w.range.signal ≡ p.signal) × WritesAt x w.driver w.range))) → (n : ℕ) → MeetsAt x p n → ⊥
none_meets x p row none row_is n m =
    let s = meet_signal x.design m.range p m.meets in
    none_in (record { driver = n; range = m.range }) (subst (λ (l : List Written). Contains l (record { driver = n; range = m.range })) none
    ((row_is (record { driver = n; range = m.range })).1 (subst (λ (k : ℕ). k < length x.design.signals) s.0 s.1, s.0, m.writes)))

none_passed : (x : Wiring) (p : BitRange) → ((n : ℕ) → MeetsAt x p n → ⊥) → (n : ℕ) → Passed x (p ∷ []) n → ⊥
none_passed x p none _ (w.begins q n h meets) = elim (split p q [] h) [ inl e ↦ none n (subst (λ (k : BitRange). MeetsAt x k n) (sym e) meets) | inr o ↦ none_in q o ]
none_passed x p none _ (w.goes_on l n q passed before meets) = none_passed x p none l passed

named_alone : (x : Wiring) (p : BitRange) → ((n : ℕ) → MeetsAt x p n → ⊥) → (u : ℕ) → Named x (p ∷ []) u → p.signal ≡ u
named_alone x p none u (w.here q h e) = elim (split p q [] h) [ inl s ↦ ap (λ (k : BitRange). k.signal) s ∙ e | inr o ↦ absurd (none_in q o) ]
named_alone x p none u (w.there n q passed needs e) = absurd (none_passed x p none n passed)

-- it alone names a signal
pub alone_named : (x : Wiring) (p : BitRange) (row : List Written) → row ≡ [] →
    ((w : Written) → (Contains row w ↔ ((p.signal < length x.design.signals) × (w.range.signal ≡ p.signal) × WritesAt x w.driver w.range))) → (u : ℕ) →
    (Named x (p ∷ []) u ↔ (p.signal ≡ u))
alone_named x p row none row_is u = (named_alone x p (none_meets x p row none row_is) u, λ e. w.here p (head_in p []) e)
