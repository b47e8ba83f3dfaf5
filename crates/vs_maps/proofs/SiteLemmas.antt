-- The table of sites.
use Rattle.std.proofs.Common.{◌≡◌, ℕ, zero, suc, ◌+◌, ◌<◌, ◌≤◌, ◌⊎◌, ◌↔◌, inl, inr, true, false, IsTrue, List, [], ◌∷◌, ◌++◌, Some, length, map, slice_get, get_or, refl, sym, ◌∙◌, ap, subst, arith}
use Rattle.std.specs.List.{Contains}
use Rattle.std.proofs.lemmas.List.{length-replicate}
use Rattle.std.proofs.lemmas.List.Elements.{Contains-append_left, Contains-append_right, Contains-append_cases}
use Rattle.std.proofs.lemmas.Option.{get_or_from_slice_get, slice_get-get_or, slice_get_within, same_Some}
use Rattle.std.proofs.lemmas.Bool.{false≢true}
use Rattle.vs_design.specs.declared.range.BitRange.{BitRange}
use Rattle.vs_design.specs.declared.statement.EventTerm.{EventTerm}
use Rattle.vs_graph.specs.Rows.{empty_rows, row, with_one}
use Rattle.vs_graph.proofs.RowLemmas.{in_either, none_in, head_in, tail_in, length_one, one_has, row_empty}
use Rattle.vs_design.specs.vs_logic4.proofs.Basics.{below_or}
use Rattle.vs_maps.specs.Ranges.{HasSignal, now_at, later_at, reads_at, shows_at, pause_terms}
use Rattle.vs_maps.specs.Reaches.{Chart, IsPlace, pause_at}
use Rattle.vs_maps.specs.Sites.{AreSites, IsSite, IsWrite, UsesAt, all_filed, site_of, waiting_of}
use Rattle.vs_maps.specs.Texts.{Texts}
use Rattle.vs_maps.specs.declared.sites.Site.{Site}
use Rattle.vs_maps.specs.declared.sites.Use.{Use}
use Rattle.vs_maps.specs.declared.sites.Use.TheVariants.{Now, Later, Reads, Shows, Waits}
use Rattle.vs_maps.proofs.SignalLemmas.{images_put}

-- ---- of one place

site_is : (s : Site) (i p : ℕ) (u : Use) → s.process ≡ i → s.place ≡ p → s.usage ≡ u → site_of i p u s.range ≡ s
site_is s i p u e f g =
    subst (λ (x : ℕ). site_of x p u s.range ≡ s) e
    (subst (λ (x : ℕ). site_of s.process x u s.range ≡ s) f (subst (λ (x : Use). site_of s.process s.place x s.range ≡ s) g refl))

-- what a place uses so
used : (t : Chart) (i p : ℕ) (u : Use) (s : Site) → (r : BitRange) × UsesAt t p u r × (site_of i p u r ≡ s) → (s.process ≡ i) × (s.place ≡ p) × UsesAt t p s.usage s.range
used t i p u s y =
    (sym (ap (λ (x : Site). x.process) y.2), sym (ap (λ (x : Site). x.place) y.2), subst (λ (x : Site). UsesAt t p x.usage x.range) y.2 y.1)

awaited : (t : Chart) (i p : ℕ) (s : Site) → (term : EventTerm) × Contains (pause_terms (pause_at t p)) term × (waiting_of i p term ≡ s) →
    (s.process ≡ i) × (s.place ≡ p) × UsesAt t p s.usage s.range
awaited t i p s y =
    (sym (ap (λ (x : Site). x.process) y.2), sym (ap (λ (x : Site). x.place) y.2), subst (λ (x : Site). UsesAt t p x.usage x.range) y.2 y.1)

-- the five lists of a place, put one after another
pub placed : (t : Chart) (i p : ℕ) (old a b c d e : List Site) → a ≡ old ++ map (site_of i p Now) (now_at t p) → b ≡ a ++ map (site_of i p Later) (later_at t p) →
    c ≡ b ++ map (site_of i p Reads) (reads_at t p) → d ≡ c ++ map (site_of i p Shows) (shows_at t p) → e ≡ d ++ map (waiting_of i p) (pause_terms (pause_at t p)) → (s : Site) →
    (Contains e s ↔ (Contains old s ⊎ ((s.process ≡ i) × (s.place ≡ p) × UsesAt t p s.usage s.range)))
placed t i p old a b c d e ea eb ec ed ee s = (there, back) where
  at_a : Contains a s ↔ (Contains old s ⊎ ((r : BitRange) × Contains (now_at t p) r × (site_of i p Now r ≡ s)))
  at_a = images_put (site_of i p Now) old a (now_at t p) ea s

  at_b : Contains b s ↔ (Contains a s ⊎ ((r : BitRange) × Contains (later_at t p) r × (site_of i p Later r ≡ s)))
  at_b = images_put (site_of i p Later) a b (later_at t p) eb s

  at_c : Contains c s ↔ (Contains b s ⊎ ((r : BitRange) × Contains (reads_at t p) r × (site_of i p Reads r ≡ s)))
  at_c = images_put (site_of i p Reads) b c (reads_at t p) ec s

  at_d : Contains d s ↔ (Contains c s ⊎ ((r : BitRange) × Contains (shows_at t p) r × (site_of i p Shows r ≡ s)))
  at_d = images_put (site_of i p Shows) c d (shows_at t p) ed s

  at_e : Contains e s ↔ (Contains d s ⊎ ((term : EventTerm) × Contains (pause_terms (pause_at t p)) term × (waiting_of i p term ≡ s)))
  at_e = images_put (waiting_of i p) d e (pause_terms (pause_at t p)) ee s

  there : Contains e s → Contains old s ⊎ ((s.process ≡ i) × (s.place ≡ p) × UsesAt t p s.usage s.range)
  there h = elim (at_e.0 h) [
    | inr w ↦ inr (awaited t i p s w)
    | inl f ↦ elim (at_d.0 f) [
      | inr w ↦ inr (used t i p Shows s w)
      | inl g ↦ elim (at_c.0 g) [
        | inr w ↦ inr (used t i p Reads s w)
        | inl k ↦ elim (at_b.0 k) [
          | inr w ↦ inr (used t i p Later s w)
          | inl l ↦ elim (at_a.0 l) [ inl o ↦ inl o | inr w ↦ inr (used t i p Now s w) ]
        ]
      ]
    ]
  ]

  from_a : Contains a s → Contains e s
  from_a h = at_e.1 (inl (at_d.1 (inl (at_c.1 (inl (at_b.1 (inl h)))))))

  by_use : (u : Use) → s.process ≡ i → s.place ≡ p → s.usage ≡ u → UsesAt t p u s.range → Contains e s
  by_use Now x y z h = from_a (at_a.1 (inr (s.range, h, site_is s i p Now x y z)))
  by_use Later x y z h = at_e.1 (inl (at_d.1 (inl (at_c.1 (inl (at_b.1 (inr (s.range, h, site_is s i p Later x y z))))))))
  by_use Reads x y z h = at_e.1 (inl (at_d.1 (inl (at_c.1 (inr (s.range, h, site_is s i p Reads x y z))))))
  by_use Shows x y z h = at_e.1 (inl (at_d.1 (inr (s.range, h, site_is s i p Shows x y z))))
  by_use (Waits edge) x y z h =
      let term : EventTerm = record { range = s.range; edge = edge } in
      at_e.1 (inr (term, h, site_is s i p (Waits edge) x y z))

  back : Contains old s ⊎ ((s.process ≡ i) × (s.place ≡ p) × UsesAt t p s.usage s.range) → Contains e s
  back (inl o) = from_a (at_a.1 (inl o))
  back (inr y) = by_use s.usage y.0 y.1 refl y.2

-- ---- of one text

-- a list with the sites of the points below a place
abbrev pub HaveSites : List Site → ℕ → Chart → ℕ → Type 0
HaveSites all i t n = (s : Site) → (Contains all s ↔ ((s.process ≡ i) × (s.place < n) × IsPlace t s.place × UsesAt t s.place s.usage s.range))

pub no_site_yet : (all : List Site) (i : ℕ) (t : Chart) → all ≡ [] → HaveSites all i t 0
no_site_yet all i t e s = (λ c. absurd (none_in s (subst (λ (l : List Site). Contains l s) e c)), λ y. absurd (omega (arith, y.1)))

pub one_place : (old new : List Site) (i p : ℕ) (t : Chart) → HaveSites old i t p → IsPlace t p →
    ((s : Site) → (Contains new s ↔ (Contains old s ⊎ ((s.process ≡ i) × (s.place ≡ p) × UsesAt t p s.usage s.range)))) → HaveSites new i t (p + 1)
one_place old new i p t so_far is put s = (
  λ c. elim ((put s).0 c) [
    | inl o ↦ let y = (so_far s).0 o in (y.0, omega (arith, y.1), y.2, y.3)
    | inr y ↦ (y.0, omega (arith, y.1), subst (IsPlace t) (sym y.1) is, subst (λ (q : ℕ). UsesAt t q s.usage s.range) (sym y.1) y.2)
  ],
  λ y. (put s).1 (elim (below_or s.place p y.1) [
    | inl l ↦ inl ((so_far s).1 (y.0, l, y.2, y.3))
    | inr e ↦ inr (y.0, e, subst (λ (q : ℕ). UsesAt t q s.usage s.range) e y.3)
  ]),
)

pub no_place : (old : List Site) (i p : ℕ) (t : Chart) → HaveSites old i t p → (IsPlace t p → ⊥) → HaveSites old i t (p + 1)
no_place old i p t so_far not s = (
  λ c. let y = (so_far s).0 c in (y.0, omega (arith, y.1), y.2, y.3),
  λ y. elim (below_or s.place p y.1) [
    | inl l ↦ (so_far s).1 (y.0, l, y.2, y.3)
    | inr e ↦ absurd (not (subst (IsPlace t) e y.2))
  ],
)

pub all_places : (all : List Site) (i n : ℕ) (t : Chart) → ((p : ℕ) → IsPlace t p → p < n) → HaveSites all i t n → (s : Site) →
    (Contains all s ↔ ((s.process ≡ i) × IsPlace t s.place × UsesAt t s.place s.usage s.range))
all_places all i n t within have s = (λ c. let y = (have s).0 c in (y.0, y.2, y.3), λ y. (have s).1 (y.0, within s.place y.1, y.1, y.2))

-- ---- rows of signals

pub length_filed : (sites : List Site) (table : List (List Site)) → length (all_filed sites table) ≡ length table
length_filed [] table = refl
length_filed (s ∷ sites) table = length_filed sites (with_one s.range.signal s table) ∙ length_one s.range.signal s table

pub filed_has : (sites : List Site) (table : List (List Site)) (v : ℕ) (s : Site) →
    (Contains (row (all_filed sites table) v) s ↔ (Contains (row table v) s ⊎ ((v < length table) × (s.range.signal ≡ v) × Contains sites s)))
filed_has [] table v s = (inl, λ h. elim h [ inl a ↦ a | inr b ↦ absurd (none_in s b.2) ])
filed_has (x ∷ sites) table v s =
    let rest = filed_has sites (with_one x.range.signal x table) v s in
    let one = one_has x.range.signal x table v s in
    let long : length (with_one x.range.signal x table) ≡ length table = length_one x.range.signal x table in (
      λ h. elim (rest.0 h) [
        | inl a ↦ elim (one.0 a) [
          | inl o ↦ inl o
          | inr y ↦ inr (y.0, sym (y.1 ∙ ap (λ (z : Site). z.range.signal) y.2), subst (Contains (x ∷ sites)) y.2 (head_in x sites))
        ]
        | inr y ↦ inr (subst (λ (n : ℕ). v < n) long y.0, y.1, tail_in x s sites y.2)
      ],
      λ h. elim h [
        | inl o ↦ rest.1 (inl (one.1 (inl o)))
        | inr y ↦ elim (in_either x s sites y.2) [
          | inl e ↦ rest.1 (inl (one.1 (inr (y.0, sym y.1 ∙ ap (λ (z : Site). z.range.signal) (sym e), e))))
          | inr m ↦ rest.1 (inr (subst (λ (n : ℕ). v < n) (sym long) y.0, y.1, m))
        ]
      ],
    )

-- ---- a row more, at the end

pub row_before : {A : Type 0} (table : List (List A)) (own : List A) (k : ℕ) → k < length table → row (table ++ own ∷ []) k ≡ row table k
row_before [] own k h = absurd (omega (arith, h))
row_before (x ∷ xs) own zero h = refl
row_before (x ∷ xs) own (suc k) h = row_before xs own k (omega (arith, h))

pub row_last : {A : Type 0} (table : List (List A)) (own : List A) → row (table ++ own ∷ []) (length table) ≡ own
row_last [] own = refl
row_last (x ∷ xs) own = row_last xs own

-- ---- of all texts

-- the sites of the first texts
pub record SitesBelow (charts : List Chart) (m n : ℕ) (signals : List (List Site)) : Type 0 where
  pub long : length signals ≡ m
  pub of_signals : (v : ℕ) (s : Site) → v < m → (Contains (row signals v) s ↔ ((s.process < n) × IsSite charts s × (s.range.signal ≡ v)))

pub none_below : (charts : List Chart) (m : ℕ) (signals : List (List Site)) → signals ≡ empty_rows m → SitesBelow charts m 0 signals
none_below charts m signals e = record {
  long = ap length e ∙ length-replicate m [];
  of_signals = λ v s h. (
    λ c. absurd (none_in s (subst (λ (l : List Site). Contains l s) (ap (λ (t : List (List Site)). row t v) e ∙ row_empty m v) c)),
    λ y. absurd (omega (arith, y.0)),
  );
}

-- the sites of a text are those of its process
own_sites : (charts : List Chart) (i : ℕ) (t : Chart) (own : List Site) → slice_get charts i ≡ Some t →
    ((s : Site) → (Contains own s ↔ ((s.process ≡ i) × IsPlace t s.place × UsesAt t s.place s.usage s.range))) → (s : Site) → (Contains own s ↔ (IsSite charts s × (s.process ≡ i)))
own_sites charts i t own is those s = (
  λ c. let y = (those s).0 c in
      (record { chart = t; is = ap (slice_get charts) y.0 ∙ is; point = y.1; uses = y.2 }, y.0),
  λ y. let same : y.0.chart ≡ t = same_Some y.0.chart t (sym y.0.is ∙ ap (slice_get charts) y.1 ∙ is) in
      (those s).1 (
        y.1,
        subst (λ (c : Chart). IsPlace c s.place) same y.0.point,
        subst (λ (c : Chart). UsesAt c s.place s.usage s.range) same y.0.uses,
      ),
)

pub one_below : (charts : List Chart) (m n : ℕ) (t : Chart) (signals more_signals : List (List Site)) (own : List Site) → SitesBelow charts m n signals →
    n < length charts → t ≡ get_or charts n t →
    ((s : Site) → (Contains own s ↔ ((s.process ≡ n) × IsPlace t s.place × UsesAt t s.place s.usage s.range))) → more_signals ≡ all_filed own signals →
    SitesBelow charts m (n + 1) more_signals
one_below charts m n t signals more_signals own before less told those filed = record {
  long = ap length filed ∙ length_filed own signals ∙ before.long;
  of_signals = λ v s h. (there v s h, back v s h);
} where
  mine : (s : Site) → (Contains own s ↔ (IsSite charts s × (s.process ≡ n)))
  mine = own_sites charts n t own (slice_get-get_or charts n t less ∙ ap Some (sym told)) those

  there : (v : ℕ) (s : Site) → v < m → Contains (row more_signals v) s → (s.process < n + 1) × IsSite charts s × (s.range.signal ≡ v)
  there v s h c = elim ((filed_has own signals v s).0 (subst (λ (x : List (List Site)). Contains (row x v) s) filed c)) [
    | inl o ↦ let y = (before.of_signals v s h).0 o in (omega (arith, y.0), y.1, y.2)
    | inr y ↦ let z = (mine s).0 y.2 in (omega (arith, z.1), z.0, y.1)
  ]

  back : (v : ℕ) (s : Site) → v < m → (s.process < n + 1) × IsSite charts s × (s.range.signal ≡ v) → Contains (row more_signals v) s
  back v s h y = subst (λ (x : List (List Site)). Contains (row x v) s) (sym filed) ((filed_has own signals v s).1 (elim (below_or s.process n y.0) [
    | inl l ↦ inl ((before.of_signals v s h).1 (l, y.1, y.2))
    | inr e ↦ inr (subst (λ (k : ℕ). v < k) (sym before.long) h, y.2, (mine s).1 (y.1, e))
  ]))

pub all_below : (x : Texts) (m n : ℕ) (signals : List (List Site)) → m ≡ length x.design.signals → length x.charts ≤ n → SitesBelow x.charts m n signals → AreSites x signals
all_below x m n signals e past have = record {
  long = have.long ∙ e;
  of_signals = λ v s h. let both = have.of_signals v s (subst (λ (k : ℕ). v < k) (sym e) h) in (
    λ c. let y = both.0 c in (y.1, y.2),
    λ y. let l = slice_get_within x.charts s.process y.0.chart y.0.is in both.1 (omega (arith, l, past), y.0, y.1),
  );
}

-- ---- of one signal

-- a list has the sites of a signal
abbrev pub AreSitesOf : List Chart → ℕ → List Site → Type 0
AreSitesOf charts v sites = (s : Site) → (Contains sites s ↔ (IsSite charts s × (s.range.signal ≡ v)))

-- a write of a place writes its signal there
pub written_so : (t : Chart) (p v : ℕ) (u : Use) (r : BitRange) → IsWrite u → UsesAt t p u r → r.signal ≡ v → HasSignal (now_at t p) v ⊎ HasSignal (later_at t p) v
written_so t p v Now r w h e = inl (r, h, e)
written_so t p v Later r w h e = inr (r, h, e)
written_so t p v Reads r w h e = absurd w
written_so t p v Shows r w h e = absurd w
written_so t p v (Waits edge) r w h e = absurd w

-- ---- rules of sites

-- all of the first sites keep a rule, and one more
pub keep_more : (P : Site → Type 0) (sites : List Site) (i : ℕ) (d : Site) → ((k : ℕ) (s : Site) → k < i → slice_get sites k ≡ Some s → P s) → i < length sites → P (get_or sites i d) →
    (k : ℕ) (s : Site) → k < i + 1 → slice_get sites k ≡ Some s → P s
keep_more P sites i d before within here k s h is = elim (below_or k i h) [
  | inl l ↦ before k s l is
  | inr e ↦ subst P (same_Some (get_or sites i d) s (sym (slice_get-get_or sites i d within) ∙ ap (slice_get sites) (sym e) ∙ is)) here
]

pub keep_all : (P : Site → Type 0) (sites : List Site) (i : ℕ) → length sites ≤ i → ((k : ℕ) (s : Site) → k < i → slice_get sites k ≡ Some s → P s) →
    (IsTrue true ↔ ((s : Site) → Contains sites s → P s))
keep_all P sites i past all =
    (λ h s c. all c.0 s (omega (arith, past, c.1)) (slice_get-get_or sites c.0 s c.1 ∙ ap Some c.2), λ f. refl)

pub keep_not : (P : Site → Type 0) (sites : List Site) (i : ℕ) (d : Site) → i < length sites → (P (get_or sites i d) → ⊥) → (IsTrue false ↔ ((s : Site) → Contains sites s → P s))
keep_not P sites i d within not = (λ h. absurd (false≢true h), λ all. absurd (not (all (get_or sites i d) (i, within, same_read sites i (get_or sites i d) d within)))) where
  same_read : (xs : List Site) (k : ℕ) (a b : Site) → k < length xs → get_or xs k a ≡ get_or xs k b
  same_read [] k a b h = absurd (omega (arith, h))
  same_read (x ∷ xs) zero a b h = refl
  same_read (x ∷ xs) (suc k) a b h = same_read xs k a b (omega (arith, h))

-- those of the sites of a signal that are of a use keep a rule of their places
pub kept : (charts : List Chart) (v : ℕ) (u : Use) (keeps : ℕ → ℕ → Type 0) (sites : List Site) → AreSitesOf charts v sites →
    (((s : Site) → Contains sites s → s.usage ≡ u → keeps s.process s.place)
    ↔ ((i p : ℕ) (t : Chart) → slice_get charts i ≡ Some t → IsPlace t p → (r : BitRange) × UsesAt t p u r × (r.signal ≡ v) → keeps i p))
kept charts v u keeps sites are = (
  λ all i p t is point h. all (site_of i p u h.0) ((are (site_of i p u h.0)).1 (record { chart = t; is = is; point = point; uses = h.1 }, h.2)) refl,
  λ all s c e. let y = (are s).0 c in all s.process s.place y.0.chart y.0.is y.0.point (s.range, subst (λ (x : Use). UsesAt y.0.chart s.place x s.range) e y.0.uses, y.1),
)

-- ---- sites picked

-- a list has the images of those of the first sites that are picked
abbrev pub PickedBelow : (Site → Type 0) → (Site → ℕ) → List Site → ℕ → List ℕ → Type 0
PickedBelow P f sites n all = (x : ℕ) → (Contains all x ↔ ((k : ℕ) × (s : Site) × (k < n) × (slice_get sites k ≡ Some s) × P s × (f s ≡ x)))

pub none_picked : (P : Site → Type 0) (f : Site → ℕ) (sites : List Site) (all : List ℕ) → all ≡ [] → PickedBelow P f sites 0 all
none_picked P f sites all e x = (λ c. absurd (none_in x (subst (λ (l : List ℕ). Contains l x) e c)), λ y. absurd (omega (arith, y.2)))

pub one_picked : (P : Site → Type 0) (f : Site → ℕ) (sites : List Site) (n : ℕ) (d : Site) (all more : List ℕ) → PickedBelow P f sites n all → n < length sites → P (get_or sites n d) →
    more ≡ all ++ f (get_or sites n d) ∷ [] → PickedBelow P f sites (n + 1) more
one_picked P f sites n d all more before within is put x = (
  λ c. elim (Contains-append_cases all (f (get_or sites n d) ∷ []) x (subst (λ (l : List ℕ). Contains l x) put c)) [
    | inl a ↦ let y = (before x).0 a in (y.0, y.1, omega (arith, y.2), y.3, y.4, y.5)
    | inr b ↦ elim (in_either (f (get_or sites n d)) x [] b) [
      | inl e ↦ (n, get_or sites n d, omega arith, slice_get-get_or sites n d within, is, e)
      | inr z ↦ absurd (none_in x z)
    ]
  ],
  λ y. subst (λ (l : List ℕ). Contains l x) (sym put) (elim (below_or y.0 n y.2) [
    | inl l ↦ Contains-append_left all (f (get_or sites n d) ∷ []) x ((before x).1 (y.0, y.1, l, y.3, y.4, y.5))
    | inr e ↦
        let same : get_or sites n d ≡ y.1 = same_Some (get_or sites n d) y.1 (sym (slice_get-get_or sites n d within) ∙ ap (slice_get sites) (sym e) ∙ y.3) in
        Contains-append_right all (f (get_or sites n d) ∷ []) x (subst (Contains (f (get_or sites n d) ∷ [])) (ap f same ∙ y.5) (head_in (f (get_or sites n d)) []))
  ]),
)

pub one_passed : (P : Site → Type 0) (f : Site → ℕ) (sites : List Site) (n : ℕ) (d : Site) (all : List ℕ) → PickedBelow P f sites n all → n < length sites → (P (get_or sites n d) → ⊥) →
    PickedBelow P f sites (n + 1) all
one_passed P f sites n d all before within not x = (
  λ c. let y = (before x).0 c in (y.0, y.1, omega (arith, y.2), y.3, y.4, y.5),
  λ y. elim (below_or y.0 n y.2) [
    | inl l ↦ (before x).1 (y.0, y.1, l, y.3, y.4, y.5)
    | inr e ↦ absurd (not (subst P (same_Some y.1 (get_or sites n d) (sym y.3 ∙ ap (slice_get sites) e ∙ slice_get-get_or sites n d within)) y.4))
  ],
)

pub all_picked : (P : Site → Type 0) (f : Site → ℕ) (sites : List Site) (n : ℕ) (all : List ℕ) → length sites ≤ n → PickedBelow P f sites n all → (x : ℕ) →
    (Contains all x ↔ ((s : Site) × Contains sites s × P s × (f s ≡ x)))
all_picked P f sites n all past have x = (
  λ c. let y = (have x).0 c in (y.1, (y.0, slice_get_within sites y.0 y.1 y.3, get_or_from_slice_get sites y.0 y.1 y.1 y.3), y.4, y.5),
  λ y. (have x).1 (y.1.0, y.0, omega (arith, y.1.1, past), slice_get-get_or sites y.1.0 y.0 y.1.1 ∙ ap Some y.1.2, y.2, y.3),
)
