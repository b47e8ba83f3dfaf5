-- Signals that are written by `=`, numbers that are chosen, and what the calls on cones answer.
use Rattle.std.proofs.Common.{◌≡◌, ℕ, zero, suc, ◌+◌, ◌-◌, ◌<◌, ◌≤◌, ◌⊎◌, ◌↔◌, inl, inr, Bool, false, IsTrue, List, [], ◌∷◌, ◌++◌, length, get_or, drop, take, replicate, refl, sym, ◌∙◌, ap, subst, arith}
use Rattle.std.specs.List.{Contains}
use Rattle.std.proofs.lemmas.Bool.{cases_lt, false≢true}
use Rattle.std.proofs.lemmas.List.{get_or-drop, take_more, take_all}
use Rattle.std.proofs.lemmas.List.Elements.{Contains-append_left, Contains-append_right, Contains-append_cases}
use Rattle.std.proofs.lemmas.Option.{none-some, slice_get_within, slice_get_past, slice_get_cases}
use Rattle.vs_design.specs.declared.range.BitRange.{BitRange}
use Rattle.vs_design.specs.Parts.{Parts}
use Rattle.vs_process.specs.Places.{Todo}
use Rattle.vs_rules.specs.Claims.{Claims, Kind, Start, kind_for, IsBlock}
use Rattle.vs_rules.specs.Drivers.{Driver, block, IsDriver, DriverNeeds, DriverWrites, IsSource, IsBlocking, InCone, Passes}
use Rattle.vs_rules.specs.Paths.{WritesNow, todo_now}
use Rattle.vs_maps.proofs.EachWalk.{writes_now_at}
use Rattle.vs_maps.proofs.Texts.{place_of, place_back}
use Rattle.vs_maps.specs.Reaches.{Chart}
use Rattle.vs_maps.specs.Sites.{UsesAt, site_of}
use Rattle.vs_maps.specs.Walks.{AreMarked}
use Rattle.vs_maps.specs.declared.sites.Use.{Use}
use Rattle.vs_maps.specs.declared.sites.Use.TheVariants.{Now}
use Rattle.vs_design.specs.vs_logic4.proofs.Basics.{below_or, none_in}
use Rattle.vs_maps.specs.vs_graph.proofs.RowLemmas.{head_in, in_either as split}
use Rattle.vs_drivers.specs.Assigned.{AssignsIn, IsAssigned}
use Rattle.vs_maps.specs.Texts.{AreCharts}
use Rattle.vs_drivers.specs.declared.writers.Written.{Written}
use Rattle.vs_drivers.specs.Walks.{Passed, Named}
use Rattle.vs_drivers.specs.Wires.{Wiring, OfWiring, Drives, IsFree, WritesAt, NeedsAt, driver_at, drivers}
use Rattle.vs_drivers.proofs.Numbers.{AreMarks, of_own, drives_on, drives_back, free_is, driver_cases, block_at}
use Rattle.vs_rules.proofs.Past.{past_points}
use Rattle.vs_drivers.proofs.WalkLemmas.{cones_are, passes_are}

-- ---- signals that are written by `=`

assigned_on : (d : Parts) (charts : List Chart) → AreCharts d charts → (u : ℕ) → AssignsIn charts u → IsAssigned d u
assigned_on d charts maps u a =
    let s = a.0 in
    let is = a.1 in
    elim (slice_get_cases d.processes s.process).1 [
      | inl y ↦ let text = maps.each s.process y.0 is.chart y.2 is.is in record {
        process = s.process;
        point = text.at s.place;
        is = place_back d s.process y.0 is.chart.stops is.chart.start text y.2 s.place is.point;
        writes = (writes_now_at d y.0 is.chart.stops is.chart.start text u s.place).0 (s.range, subst (λ (x : Use). UsesAt is.chart s.place x s.range) a.3 is.uses, a.2);
      }
      | inr y ↦ let within = slice_get_within charts s.process is.chart is.is in absurd (omega (arith, within, y.0, maps.as_many))
    ]

nothing : (d : Parts) (k : Todo) (u : ℕ) → k ≡ [] → WritesNow d k u → ⊥
nothing d k u e w = none_in w.range (subst (λ (l : Todo). Contains (todo_now l) w.range) e w.listed.0)

assigned_back : (d : Parts) (charts : List Chart) → AreCharts d charts → (u : ℕ) → IsAssigned d u → AssignsIn charts u
assigned_back d charts maps u a = elim (slice_get_cases d.processes a.process).1 [
  | inl y ↦ elim (slice_get_cases charts a.process).1 [
    | inl z ↦
        let text = maps.each a.process y.0 z.0 y.2 z.2 in
        let p = place_of d a.process y.0 z.0.stops z.0.start text y.2 a.point a.is in
        let w = (writes_now_at d y.0 z.0.stops z.0.start text u p.0).1 (subst (λ (k : Todo). WritesNow d k u) (sym p.2) a.writes) in
        (site_of a.process p.0 Now w.0, record { chart = z.0; is = z.2; point = p.1; uses = w.1 }, w.2, refl)
    | inr z ↦ absurd (omega (arith, y.1, z.0, maps.as_many))
  ]
  | inr y ↦ absurd (nothing d a.point u (past_points d a.process a.point y.0 a.is) a.writes)
]

-- the signals that processes write by `=`, by their maps
assigned_are : (d : Parts) (charts : List Chart) → AreCharts d charts → (u : ℕ) → (AssignsIn charts u ↔ IsAssigned d u)
assigned_are d charts maps u = (assigned_on d charts maps u, assigned_back d charts maps u)

-- a variable is a signal of the design
pub free_within : (x : Wiring) (u : ℕ) → IsFree x u → u < length x.design.signals
free_within x u h = slice_get_within x.design.signals u h.variable.0 h.variable.1

-- ---- numbers that are chosen

-- those below a number whose marks are set
abbrev pub AreSet : List Bool → ℕ → List ℕ → Type 0
AreSet marks n all = (u : ℕ) → (Contains all u ↔ ((u < n) × IsTrue (get_or marks u false)))

pub none_set : (marks : List Bool) (all : List ℕ) → all ≡ [] → AreSet marks 0 all
none_set marks all is u = (λ h. absurd (none_in u (subst (λ (l : List ℕ). Contains l u) is h)), λ y. absurd (omega (arith, y.0)))

pub more_set : (marks : List Bool) (n : ℕ) (now new : List ℕ) → AreSet marks n now → IsTrue (get_or marks n false) → new ≡ now ++ n ∷ [] → AreSet marks (n + 1) new
more_set marks n now new h is made u = (
  λ c. elim (Contains-append_cases now (n ∷ []) u (subst (λ (l : List ℕ). Contains l u) made c)) [
    | inl l ↦ let y = (h u).0 l in (omega (arith, y.0), y.1)
    | inr l ↦ elim (split n u [] l) [ inl e ↦ (omega (arith, e), subst (λ (k : ℕ). IsTrue (get_or marks k false)) e is) | inr o ↦ absurd (none_in u o) ]
  ],
  λ y. subst (λ (l : List ℕ). Contains l u) (sym made) (elim (below_or u n y.0) [
    | inl l ↦ Contains-append_left now (n ∷ []) u ((h u).1 (l, y.1))
    | inr e ↦ Contains-append_right now (n ∷ []) u (subst (λ (k : ℕ). Contains (n ∷ []) k) (sym e) (head_in n []))
  ]),
)

pub same_set : (marks : List Bool) (n : ℕ) (now : List ℕ) → AreSet marks n now → get_or marks n false ≡ false → AreSet marks (n + 1) now
same_set marks n now h not u = (
  λ c. let y = (h u).0 c in (omega (arith, y.0), y.1),
  λ y. elim (below_or u n y.0) [ inl l ↦ (h u).1 (l, y.1) | inr e ↦ absurd (false≢true (sym not ∙ ap (λ (k : ℕ). get_or marks k false) (sym e) ∙ y.1)) ],
)

mark_within : (marks : List Bool) (u : ℕ) → IsTrue (get_or marks u false) → u < length marks
mark_within [] u h = absurd (false≢true h)
mark_within (m ∷ ms) zero h = omega arith
mark_within (m ∷ ms) (suc u) h = let y = mark_within ms u h in omega (arith, y)

pub all_set : (marks : List Bool) (n : ℕ) (all : List ℕ) → length marks ≤ n → AreSet marks n all → (u : ℕ) → (Contains all u ↔ IsTrue (get_or marks u false))
all_set marks n all past h u = (λ c. ((h u).0 c).1, λ is. let within = mark_within marks u is in (h u).1 (omega (arith, within, past), is))

-- ---- numbers of a list

in_take_more : (xs : List ℕ) (n u : ℕ) → n < length xs → (Contains (take (n + 1) xs) u ↔ (Contains (take n xs) u ⊎ (get_or xs n 0 ≡ u)))
in_take_more xs n u within = (
  λ c. elim (Contains-append_cases (take n xs) (get_or xs n 0 ∷ []) u (subst (λ (l : List ℕ). Contains l u) (take_more xs n 0 within) c)) [
    | inl l ↦ inl l
    | inr l ↦ elim (split (get_or xs n 0) u [] l) [ inl e ↦ inr e | inr o ↦ absurd (none_in u o) ]
  ],
  λ y. subst (λ (l : List ℕ). Contains l u) (sym (take_more xs n 0 within)) (elim y [
    | inl l ↦ Contains-append_left (take n xs) (get_or xs n 0 ∷ []) u l
    | inr e ↦ Contains-append_right (take n xs) (get_or xs n 0 ∷ []) u (subst (λ (k : ℕ). Contains (get_or xs n 0 ∷ []) k) e (head_in (get_or xs n 0) []))
  ]),
)

-- those of a list whose marks are set
abbrev pub AreChosen : List ℕ → List Bool → List ℕ → Type 0
AreChosen among marks all = (u : ℕ) → (Contains all u ↔ (Contains among u × IsTrue (get_or marks u false)))

pub none_chosen : (marks : List Bool) (all : List ℕ) → all ≡ [] → AreChosen [] marks all
none_chosen marks all is u = (λ h. absurd (none_in u (subst (λ (l : List ℕ). Contains l u) is h)), λ y. absurd (none_in u y.0))

pub more_chosen : (among : List ℕ) (marks : List Bool) (n : ℕ) (now new : List ℕ) → n < length among → AreChosen (take n among) marks now →
    IsTrue (get_or marks (get_or among n 0) false) → new ≡ now ++ get_or among n 0 ∷ [] → AreChosen (take (n + 1) among) marks new
more_chosen among marks n now new within h is made u = (
  λ c. elim (Contains-append_cases now (get_or among n 0 ∷ []) u (subst (λ (l : List ℕ). Contains l u) made c)) [
    | inl l ↦ let y = (h u).0 l in ((in_take_more among n u within).1 (inl y.0), y.1)
    | inr l ↦ elim (split (get_or among n 0) u [] l) [
      | inl e ↦ ((in_take_more among n u within).1 (inr e), subst (λ (k : ℕ). IsTrue (get_or marks k false)) e is)
      | inr o ↦ absurd (none_in u o)
    ]
  ],
  λ y. subst (λ (l : List ℕ). Contains l u) (sym made) (elim ((in_take_more among n u within).0 y.0) [
    | inl l ↦ Contains-append_left now (get_or among n 0 ∷ []) u ((h u).1 (l, y.1))
    | inr e ↦ Contains-append_right now (get_or among n 0 ∷ []) u (subst (λ (k : ℕ). Contains (get_or among n 0 ∷ []) k) e (head_in (get_or among n 0) []))
  ]),
)

pub same_chosen : (among : List ℕ) (marks : List Bool) (n : ℕ) (now : List ℕ) → n < length among → AreChosen (take n among) marks now →
    get_or marks (get_or among n 0) false ≡ false → AreChosen (take (n + 1) among) marks now
same_chosen among marks n now within h not u = (
  λ c. let y = (h u).0 c in ((in_take_more among n u within).1 (inl y.0), y.1),
  λ y. elim ((in_take_more among n u within).0 y.0) [
    | inl l ↦ (h u).1 (l, y.1)
    | inr e ↦ absurd (false≢true (sym not ∙ ap (λ (k : ℕ). get_or marks k false) e ∙ y.1))
  ],
)

pub all_chosen : (among : List ℕ) (marks : List Bool) (n : ℕ) (all : List ℕ) → length among ≤ n → AreChosen (take n among) marks all → AreChosen among marks all
all_chosen among marks n all past h = subst (λ (l : List ℕ). AreChosen l marks all) (take_all n among past) h

pub unmarked : (n k : ℕ) → IsTrue (get_or (replicate n false) k false) → ⊥
unmarked zero k h = false≢true h
unmarked (suc n) zero h = false≢true h
unmarked (suc n) (suc k) h = unmarked n k h

-- ---- what the calls answer

pub source_told : (x : Wiring) (v : ℕ) (b : Bool) → (IsTrue b ↔ IsFree x v) → OfWiring x (λ d c. (IsTrue b ↔ IsSource d c v))
source_told x v b h = of_own x (λ d c. (IsTrue b ↔ IsSource d c v)) (λ c m. (λ t. (free_is x c m v).0 (h.0 t), λ s. h.1 ((free_is x c m v).1 s)))

blocking_is : (x : Wiring) (c : Claims) → AreMarks x c → (u : ℕ) → ((IsFree x u × IsAssigned x.design u) ↔ IsBlocking x.design c u)
blocking_is x c m u = (
  λ y. record { source = (free_is x c m u).0 y.0; process = y.1.process; point = y.1.point; is = y.1.is; writes = y.1.writes },
  λ b. ((free_is x c m u).1 b.source, record { process = b.process; point = b.point; is = b.is; writes = b.writes }),
)

pub blocking_told : (x : Wiring) (v : ℕ) (b : Bool) → (IsTrue b ↔ (IsFree x v × IsAssigned x.design v)) → OfWiring x (λ d c. (IsTrue b ↔ IsBlocking d c v))
blocking_told x v b h = of_own x (λ d c. (IsTrue b ↔ IsBlocking d c v)) (λ c m. (λ t. (blocking_is x c m v).0 (h.0 t), λ s. h.1 ((blocking_is x c m v).1 s)))

pub cone_told : (x : Wiring) (rs : List BitRange) (marks : List Bool) → ((u : ℕ) → (IsTrue (get_or marks u false) ↔ (IsFree x u × Named x rs u))) →
    OfWiring x (λ d c. (u : ℕ) → (IsTrue (get_or marks u false) ↔ ((r : BitRange) × Contains rs r × InCone d c u r)))
cone_told x rs marks h =
    of_own x (λ d c. (u : ℕ) → (IsTrue (get_or marks u false) ↔ ((r : BitRange) × Contains rs r × InCone d c u r)))
    (λ c m u. (λ t. (cones_are x c m rs u).0 ((h u).0 t), λ y. (h u).1 ((cones_are x c m rs u).1 y)))

-- of one range
one_cone : (x : Wiring) (c : Claims) → AreMarks x c → (r : BitRange) (u : ℕ) → ((IsFree x u × Named x (r ∷ []) u) ↔ InCone x.design c u r)
one_cone x c m r u = (
  λ h. let y = (cones_are x c m (r ∷ []) u).0 h in elim (split r y.0 [] y.1) [ inl e ↦ subst (InCone x.design c u) (sym e) y.2 | inr o ↦ absurd (none_in y.0 o) ],
  λ i. (cones_are x c m (r ∷ []) u).1 (r, head_in r [], i),
)

pub sources_told : (x : Wiring) (r : BitRange) (all : List ℕ) → ((u : ℕ) → (Contains all u ↔ (IsFree x u × Named x (r ∷ []) u))) →
    OfWiring x (λ d c. (u : ℕ) → (Contains all u ↔ InCone d c u r))
sources_told x r all h =
    of_own x (λ d c. (u : ℕ) → (Contains all u ↔ InCone d c u r)) (λ c m u. (λ t. (one_cone x c m r u).0 ((h u).0 t), λ y. (h u).1 ((one_cone x c m r u).1 y)))

pub blocking_of_told : (x : Wiring) (r : BitRange) (listed all : List ℕ) (marks : List Bool) → ((u : ℕ) → (Contains listed u ↔ (IsFree x u × IsAssigned x.design u))) →
    ((u : ℕ) → (IsTrue (get_or marks u false) ↔ (IsFree x u × Named x (r ∷ []) u))) → AreChosen listed marks all →
    OfWiring x (λ d c. (u : ℕ) → (Contains all u ↔ (IsBlocking d c u × InCone d c u r)))
blocking_of_told x r listed all marks l h a =
    of_own x (λ d c. (u : ℕ) → (Contains all u ↔ (IsBlocking d c u × InCone d c u r))) (λ c m u. (
      λ t. let y = (a u).0 t in ((blocking_is x c m u).0 ((l u).0 y.0), (one_cone x c m r u).0 ((h u).0 y.1)),
      λ y. (a u).1 ((l u).1 ((blocking_is x c m u).1 y.0), (h u).1 ((one_cone x c m r u).1 y.1)),
    ))

pub passed_told : (x : Wiring) (rs : List BitRange) (passed marks : List Bool) (first : ℕ) → first ≡ length x.design.assigns → marks ≡ drop first passed →
    ((n : ℕ) → (IsTrue (get_or passed n false) ↔ Passed x rs n)) →
    OfWiring x (λ d c. (j : ℕ) → (IsTrue (get_or marks j false) ↔ ((r : BitRange) × Contains rs r × Passes d c (block j) r)))
passed_told x rs passed marks first first_is is h =
    of_own x (λ d c. (j : ℕ) → (IsTrue (get_or marks j false) ↔ ((r : BitRange) × Contains rs r × Passes d c (block j) r))) (λ c m j.
    let n = length x.design.assigns + j in
    let same : get_or marks j false ≡ get_or passed n false =
    ap (λ (l : List Bool). get_or l j false) is ∙ get_or-drop first passed j false ∙ ap (λ (k : ℕ). get_or passed (k + j) false) first_is in
    let both = passes_are x c m rs n in (
      λ t. subst (λ (y : Driver). (r : BitRange) × Contains rs r × Passes x.design c y r) (block_at x.design j) (both.0 ((h n).0 (sym same ∙ t))),
      λ y. same ∙ (h n).1 (both.1 (subst (λ (k : Driver). (r : BitRange) × Contains rs r × Passes x.design c k r) (sym (block_at x.design j)) y)),
    ))

-- ---- drivers

pub claimed_within : (e : Parts) (c : Claims) (i : ℕ) → IsBlock e c i → i < length e.processes
claimed_within e c i b = elim (cases_lt i (length e.processes)) [
  | inl l ↦ l
  | inr g ↦ absurd (none-some (block_kind b.0) (sym (ap (kind_for c) (slice_get_past e.processes i g)) ∙ b.1))
] where
  block_kind : Start → Kind
  block_kind s = Kind.block s

number_within : (x : Wiring) (c : Claims) (n : ℕ) (r : BitRange) → IsDriver x.design c (driver_at x.design n) → n < drivers x.design
number_within x c n r is = elim (driver_cases x.design n) [
  | inl y ↦ omega (arith, y.0)
  | inr y ↦ let h = claimed_within x.design c (n - length x.design.assigns) (subst (IsDriver x.design c) y.1 is) in omega (arith, h, y.0)
]

pub needs_told : (x : Wiring) (n : ℕ) (row : List BitRange) → ((r : BitRange) → (Contains row r ↔ ((n < drivers x.design) × NeedsAt x n r))) →
    OfWiring x (λ d c. (r : BitRange) → (Contains row r ↔ (IsDriver d c (driver_at d n) × DriverNeeds d (driver_at d n) r)))
needs_told x n row h =
    of_own x (λ d c. (r : BitRange) → (Contains row r ↔ (IsDriver d c (driver_at d n) × DriverNeeds d (driver_at d n) r))) (λ c m r. (
      λ t. let y = ((h r).0 t).1 in (drives_on x c m (driver_at x.design n) y.drives, y.needs),
      λ y. (h r).1 (number_within x c n r y.0, record { drives = drives_back x c m (driver_at x.design n) y.0; needs = y.1 }),
    ))

pub block_needs_told : (x : Wiring) (i : ℕ) (row : List BitRange) →
    ((r : BitRange) → (Contains row r ↔ ((i < length x.design.processes) × NeedsAt x (length x.design.assigns + i) r))) →
    OfWiring x (λ d c. (r : BitRange) → (Contains row r ↔ (IsBlock d c i × DriverNeeds d (block i) r)))
block_needs_told x i row h =
    of_own x (λ d c. (r : BitRange) → (Contains row r ↔ (IsBlock d c i × DriverNeeds d (block i) r))) (λ c m r.
    let at = block_at x.design i in (
      λ t. let y = ((h r).0 t).1 in
          ((m i).0 (subst (Drives x) at y.drives), subst (λ (k : Driver). DriverNeeds x.design k r) at y.needs),
      λ y. (h r).1 (
        claimed_within x.design c i y.0,
        record {
          drives = subst (Drives x) (sym at) ((m i).1 y.0);
          needs = subst (λ (k : Driver). DriverNeeds x.design k r) (sym at) y.1;
        },
      ),
    ))

pub writers_told : (x : Wiring) (v : ℕ) (row : List Written) →
    ((w : Written) → (Contains row w ↔ ((v < length x.design.signals) × (w.range.signal ≡ v) × WritesAt x w.driver w.range))) →
    OfWiring x (λ d c. (n : ℕ) (r : BitRange) → (Contains row (record { driver = n; range = r }) ↔
    ((v < length d.signals) × (r.signal ≡ v) × IsDriver d c (driver_at d n) × DriverWrites d (driver_at d n) r)))
writers_told x v row h =
    of_own x (λ d c. (n : ℕ) (r : BitRange) → (Contains row (record { driver = n; range = r }) ↔
    ((v < length d.signals) × (r.signal ≡ v) × IsDriver d c (driver_at d n) × DriverWrites d (driver_at d n) r))) (λ c m n r. (
      λ t. let y = (h (record { driver = n; range = r })).0 t in (y.0, y.1, drives_on x c m (driver_at x.design n) y.2.drives, y.2.writes),
      λ y. (h (record { driver = n; range = r })).1 (y.0, y.1, record { drives = drives_back x c m (driver_at x.design n) y.2; writes = y.3 }),
    ))

-- ---- blocking sources

pub blocking_marks : (x : Wiring) (charts : List Chart) → AreCharts x.design charts → (marks : List Bool) → length marks ≡ length x.design.signals →
    AreMarked (λ u. IsFree x u × AssignsIn charts u) (length x.design.signals) marks → (u : ℕ) → (IsTrue (get_or marks u false) ↔ (IsFree x u × IsAssigned x.design u))
blocking_marks x charts maps marks long exact u = (
  λ h. let y = (exact u (subst (λ (n : ℕ). u < n) long (mark_within marks u h))).0 h in (y.0, (assigned_are x.design charts maps u).0 y.1),
  λ y. (exact u (free_within x u y.0)).1 (y.0, (assigned_are x.design charts maps u).1 y.1),
)

-- of a range of a signal that no driver writes
pub alone_told : (x : Wiring) (r : BitRange) (all : List ℕ) (b : Bool) → (IsTrue b ↔ (IsFree x r.signal × IsAssigned x.design r.signal)) →
    ((u : ℕ) → (Contains all u ↔ (IsTrue b × (r.signal ≡ u)))) → ((u : ℕ) → (Named x (r ∷ []) u ↔ (r.signal ≡ u))) →
    OfWiring x (λ d c. (u : ℕ) → (Contains all u ↔ (IsBlocking d c u × InCone d c u r)))
alone_told x r all b marked a named =
    of_own x (λ d c. (u : ℕ) → (Contains all u ↔ (IsBlocking d c u × InCone d c u r))) (λ c m u. (
      λ h.
          let y = (a u).0 h in
          let both = subst (λ (k : ℕ). IsFree x k × IsAssigned x.design k) y.1 (marked.0 y.0) in
          ((blocking_is x c m u).0 both, (one_cone x c m r u).0 (both.0, (named u).1 y.1)),
      λ z.
          let e = (named u).0 ((one_cone x c m r u).1 z.1).1 in
          (a u).1 (marked.1 (subst (λ (k : ℕ). IsFree x k × IsAssigned x.design k) (sym e) ((blocking_is x c m u).1 z.0)), e),
    ))
