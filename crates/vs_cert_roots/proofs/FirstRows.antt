-- Rows of roots and of what writes in the first slot.
use Rattle.std.proofs.Common.{◌≡◌, ℕ, ◌<◌, ◌≤◌, ◌⊎◌, ◌↔◌, ◌==◌, inl, inr, Bool, true, false, IsTrue, Option, Some, None, List, length, get_or, slice_get, if◌then◌else◌, refl, sym, ◌∙◌, ap, subst, arith}
use Rattle.std.specs.List.{Contains}
use Rattle.std.proofs.lemmas.Option.{same_Some}
use Rattle.vs_design.specs.vs_logic4.specs.declared.digit.Digit.{Digit}
use Rattle.vs_design.specs.vs_logic4.specs.declared.digit.Digit.TheVariants.{X}
use Rattle.vs_design.specs.vs_logic4.specs.Edges.{is_edge}
use Rattle.vs_design.specs.Parts.{Parts}
use Rattle.vs_rules.specs.Claims.{Claims, EdgeClaim, IsRoot, IsRootOf, IsWide, is_wide}
use Rattle.vs_rules.specs.Paths.{IsHeardAtStart}
use Rattle.vs_rules.specs.Constants as k
use Rattle.vs_rules.specs.Constants.{bit_of}
use Rattle.vs_drivers.specs.vs_slots_constants.specs.Givings.{given_here}
use Rattle.vs_drivers.specs.vs_maps.specs.Ranges.{statement_at}
use Rattle.vs_drivers.specs.vs_slots_constants.specs.Clocks.{known}
use Rattle.vs_drivers.specs.vs_slots_constants.proofs.ClockLemmas.{known_back, known_is}
use Rattle.vs_drivers.specs.Copies.{IsOnly}
use Rattle.vs_drivers.specs.vs_maps.specs.declared.along.Along.TheVariants.{ZeroTime}
use Rattle.vs_drivers.specs.vs_maps.specs.Ranges.{HasSignal, later_at}
use Rattle.vs_drivers.specs.vs_maps.specs.Reaches.{Chart, InSlot0}
use Rattle.vs_rules_of_signals.specs.vs_graph.proofs.Sets.{contains_at}
use Rattle.vs_rules_of_signals.specs.vs_claims.specs.Facts.{AreCharts, IsRootAt, NamesRoot}
use Rattle.vs_drivers.specs.vs_maps.specs.Sites.{UsesAt, site_of}
use Rattle.vs_drivers.specs.vs_maps.specs.declared.sites.Site.{Site}
use Rattle.vs_drivers.specs.vs_maps.specs.declared.sites.Use.TheVariants.{Now, Later}
use Rattle.vs_drivers.specs.vs_maps.proofs.SiteLemmas.{AreSitesOf, written_so}
use Rattle.vs_drivers.specs.vs_maps.proofs.WalkLemmas.{start_walked}
use Rattle.vs_cert_roots.specs.First.{SiteAt, HasSite, IsFirst, IsSilent, WakesFromX, WakesEntry, left_out, StartsSilently, StartsWellIn, StartsWell}
use Rattle.std.proofs.lemmas.Bool.{eqb-true, false_from_ne_true}
use Rattle.vs_design.specs.vs_logic4.proofs.Basics.{same_self}
use Rattle.vs_rules.specs.Rules.{K10_Signal}
use Rattle.vs_cert_roots.proofs.FirstLemmas.{first_by_places}
use Rattle.vs_cert_roots.proofs.EntryLemmas.{no_name}

pub past_root : (d : Parts) (c : Claims) (v : ℕ) → length d.signals ≤ v → IsRoot d c v → ⊥
past_root d c v past h = no_name d v h.1.entry.root past h.1.root_is

-- ---- silent digits

-- a process that is left out is the writer, of the root itself
left_out_so : (writer root v j : ℕ) → left_out writer root v ≡ Some j → (j ≡ writer) × (v ≡ root)
left_out_so writer root v j e = by (v == root) refl e where
  by : (b : Bool) → (v == root) ≡ b → (if b then Some writer else None) ≡ Some j → (j ≡ writer) × (v ≡ root)
  by true same e = (sym (same_Some writer j e), eqb-true v root same)
  by false same e = absurd (cc)

-- and the writer is left out
so_left_out : (writer root v j : ℕ) → (j ≡ writer) × (v ≡ root) → left_out writer root v ≡ Some j
so_left_out writer root v j h = ap (λ (b : Bool). if b then Some writer else None) (same_self v root h.1) ∙ ap (λ (n : ℕ). Some n) (sym h.0)

-- a root is silent exactly where it wakes the signal of no entry of it
pub silent_is : (d : Parts) (c : Claims) (writer root : ℕ) (digit : Digit) (row : List ℕ) → ((p : ℕ) → (Contains row p ↔ NamesRoot d c.edges p root)) →
    (((p : ℕ) → Contains row p → WakesEntry d c writer p root digit → ⊥) ↔ IsSilent d c writer root digit)
silent_is d c writer root digit row are = (into, back) where
  into : ((p : ℕ) → Contains row p → WakesEntry d c writer p root digit → ⊥) → IsSilent d c writer root digit
  into none j t edge has heard level of seen =
      let v = t.range.signal in
      let at : IsRootAt d c.edges of.place root v = record { entry = of.entry; is = of.is; signal = of.signal; root_is = of.root_is } in
      false_from_ne_true (is_edge edge X digit)
      (λ e. none of.place ((are of.place).1 (v, at)) (
        v,
        at,
        record {
          process = j;
          term = t;
          has = has;
          heard = λ wide. ((heard wide).0, λ out. (heard wide).1 (left_out_so writer root v j out));
          edge = level;
          of = refl;
          wakes = (edge, seen, e);
        },
      ))

  back : IsSilent d c writer root digit → (p : ℕ) → Contains row p → WakesEntry d c writer p root digit → ⊥
  back silent p m w =
      let y = w.2 in
      let here : IsRootOf d c root w.0 = record { place = p; entry = w.1.entry; is = w.1.is; signal = w.1.signal; root_is = w.1.root_is } in
      let heard : IsWide c → IsHeardAtStart d y.process y.term × ((y.process ≡ writer) × (y.term.range.signal ≡ root) → ⊥) =
      λ wide. ((y.heard wide).0, λ own. (y.heard wide).1 (so_left_out writer root w.0 y.process (own.0, sym y.of ∙ own.1))) in
      let e : false ≡ true = sym (silent y.process y.term y.wakes.0 y.has heard y.edge (subst (IsRootOf d c root) (sym y.of) here) y.wakes.1) ∙ y.wakes.2 in
      cc

-- an entry of a place whose root and signal are told
pub no_entry_calm : (d : Parts) (c : Claims) (writer place root : ℕ) (digit : Digit) → ((r v : ℕ) → (IsRootAt d c.edges place r v ↔ ◌≡◌ {A = Option (ℕ × ℕ)} None (Some (r, v)))) →
    WakesEntry d c writer place root digit → ⊥
no_entry_calm d c writer place root digit f w = let e : ◌≡◌ {A = Option (ℕ × ℕ)} None (Some (root, w.0)) = (f root w.0).0 w.1 in cc

pub other_root_calm : (d : Parts) (c : Claims) (writer place root of v : ℕ) (digit : Digit) → ((r u : ℕ) → (IsRootAt d c.edges place r u ↔ ◌≡◌ {A = Option (ℕ × ℕ)} (Some (of, v)) (Some (r, u)))) →
    (of ≡ root → ⊥) → WakesEntry d c writer place root digit → ⊥
other_root_calm d c writer place root of v digit f other w = other (ap (λ (x : ℕ × ℕ). x.0) (same_Some (of, v) (root, w.0) ((f root w.0).0 w.1)))

pub entry_calm : (d : Parts) (c : Claims) (writer place root of v : ℕ) (digit : Digit) → ((r u : ℕ) → (IsRootAt d c.edges place r u ↔ ◌≡◌ {A = Option (ℕ × ℕ)} (Some (of, v)) (Some (r, u)))) →
    of ≡ root → ((WakesFromX d c (left_out writer root v) v digit → ⊥) ↔ (WakesEntry d c writer place root digit → ⊥))
entry_calm d c writer place root of v digit f same = (
  λ none w. none (subst (λ (u : ℕ). WakesFromX d c (left_out writer root u) u digit) (sym (ap (λ (x : ℕ × ℕ). x.1) (same_Some (of, v) (root, w.0) ((f root w.0).0 w.1)))) w.2),
  λ none w. none (v, (f root v).1 (ap (λ (x : ℕ). Some (x, v)) same), w),
)

pub entry_within : (d : Parts) (edges : List EdgeClaim) (place root v : ℕ) → IsRootAt d edges place root v → v < length d.signals
entry_within d edges place root v h = by (cases v (length d.signals)) where
  cases : (a b : ℕ) → (a < b) ⊎ (b ≤ a)
  cases a b = grind arith

  by : (v < length d.signals) ⊎ (length d.signals ≤ v) → v < length d.signals
  by (inl l) = l
  by (inr g) = absurd (no_name d v h.entry.signal g h.signal)

-- ---- sites of the first slot

-- a place of a process that writes in the first slot has a site
site_found : (wide : Bool) (charts : List Chart) (v : ℕ) (sites : List Site) → AreSitesOf charts v sites → (i p : ℕ) (t : Chart) → slice_get charts i ≡ Some t → SiteAt wide t v p →
    (s : Site) × Contains sites s × IsFirst wide charts s × (s.process ≡ i) × (s.place ≡ p)
site_found wide charts v sites are i p t at (early, inl (r, h, e)) =
    let s = site_of i p Now r in
    (s, (are s).1 (record { chart = t; is = at; point = start_walked t (ZeroTime wide) p early; uses = h }, e), (tt, (t, at, early)), refl, refl)
site_found wide charts v sites are i p t at (early, inr (r, h, e)) =
    let s = site_of i p Later r in
    (s, (are s).1 (record { chart = t; is = at; point = start_walked t (ZeroTime wide) p early; uses = h }, e), (tt, (t, at, early)), refl, refl)

-- such a site is one of a place that does
site_writes : (wide : Bool) (charts : List Chart) (v : ℕ) (sites : List Site) → AreSitesOf charts v sites → (s : Site) (t : Chart) → slice_get charts s.process ≡ Some t → Contains sites s → IsFirst wide charts s →
    SiteAt wide t v s.place
site_writes wide charts v sites are s t at has first =
    let y = (are s).0 has in (
      subst (λ (x : Chart). InSlot0 wide x s.place) (same_Some first.1.0 t (sym first.1.1 ∙ at)) first.1.2,
      written_so t s.place v s.usage s.range first.0 (subst (λ (x : Chart). UsesAt x s.place s.usage s.range) (same_Some y.0.chart t (sym y.0.is ∙ at)) y.0.uses) y.1,
    )

pub processes_are : (wide : Bool) (charts : List Chart) (v : ℕ) (sites : List Site) → AreSitesOf charts v sites → (i : ℕ) →
    (((s : Site) × Contains sites s × IsFirst wide charts s × (s.process ≡ i)) ↔ HasSite wide charts i v)
processes_are wide charts v sites are i = (
  λ y.
      let t = y.2.1.0 in
      (t, ap (slice_get charts) (sym y.3) ∙ y.2.1.1, (y.0.place, site_writes wide charts v sites are y.0 t y.2.1.1 y.1 y.2)),
  λ h. let s = site_found wide charts v sites are i h.2.0 h.0 h.1 h.2.1 in (s.0, s.1, s.2, s.3),
)

pub places_are : (wide : Bool) (charts : List Chart) (v j : ℕ) (sites : List Site) → AreSitesOf charts v sites → (t : Chart) → slice_get charts j ≡ Some t → (p : ℕ) →
    (((s : Site) × Contains sites s × ((s.process ≡ j) × IsFirst wide charts s) × (s.place ≡ p)) ↔ SiteAt wide t v p)
places_are wide charts v j sites are t at p = (
  λ y. subst (SiteAt wide t v) y.3 (site_writes wide charts v sites are y.0 t (ap (slice_get charts) y.2.0 ∙ at) y.1 y.2.1),
  λ h. let s = site_found wide charts v sites are j p t at h in (s.0, s.1, (s.3, s.2), s.4),
)

only_same : (P Q : ℕ → Type 0) → ((q : ℕ) → (P q ↔ Q q)) → (x : ℕ) → (IsOnly P x ↔ IsOnly Q x)
only_same P Q f x = ((λ o. ((f x).0 o.0, λ y h. o.1 y ((f y).1 h))), (λ o. ((f x).1 o.0, λ y h. o.1 y ((f y).0 h))))

pub no_place : (d : Parts) (c : Claims) (writer : ℕ) (t : Chart) (v : ℕ) (sites : List ℕ) → ((q : ℕ) → (Contains sites q ↔ SiteAt (is_wide c) t v q)) → ((x : ℕ) → (IsOnly (λ y. Contains sites y) x ↔ None ≡ Some x)) →
    StartsWellIn d c writer t v → ⊥
no_place d c writer t v sites are only w = let e : None ≡ Some w.0 = (only w.0).0 ((only_same (λ y. Contains sites y) (SiteAt (is_wide c) t v) are w.0).1 w.1) in cc

pub one_site : (d : Parts) (c : Claims) (writer : ℕ) (t : Chart) (v p : ℕ) (sites : List ℕ) → ((q : ℕ) → (Contains sites q ↔ SiteAt (is_wide c) t v q)) → ((x : ℕ) → (IsOnly (λ y. Contains sites y) x ↔ Some p ≡ Some x)) →
    (StartsSilently d c writer t v p ↔ StartsWellIn d c writer t v)
one_site d c writer t v p sites are only = (
  λ h. (p, (only_same (λ y. Contains sites y) (SiteAt (is_wide c) t v) are p).0 ((only p).1 refl), h),
  λ w. subst (StartsSilently d c writer t v) (sym (same_Some p w.0 ((only w.0).0 ((only_same (λ y. Contains sites y) (SiteAt (is_wide c) t v) are w.0).1 w.1)))) w.2,
)

pub silently_is : (d : Parts) (c : Claims) (writer : ℕ) (t : Chart) (v p : ℕ) (digit : Digit) → (HasSignal (later_at t p) v → ⊥) → known (given_here (statement_at t p) (bit_of v)) ≡ Some digit →
    (IsSilent d c writer v digit ↔ StartsSilently d c writer t v p)
silently_is d c writer t v p digit late e =
    let k = known_back (given_here (statement_at t p) (bit_of v)) digit e in (
      λ s. (late, (digit, k.1, k.0, s)),
      λ w. subst (IsSilent d c writer v) (same_Some w.1.0 digit (sym w.1.2 ∙ k.0)) w.1.3,
    )

pub not_silently : (d : Parts) (c : Claims) (writer : ℕ) (t : Chart) (v p : ℕ) → known (given_here (statement_at t p) (bit_of v)) ≡ None → StartsSilently d c writer t v p → ⊥
not_silently d c writer t v p e w =
    let f : None ≡ Some w.1.0 = sym e ∙ known_is (given_here (statement_at t p) (bit_of v)) w.1.0 w.1.2 w.1.1 in
    cc

pub well_at : (d : Parts) (c : Claims) (charts : List Chart) (j v : ℕ) (t : Chart) → slice_get charts j ≡ Some t → (StartsWellIn d c j t v ↔ StartsWell d c charts j v)
well_at d c charts j v t at = (λ h. (t, at, h), λ w. subst (λ (x : Chart). StartsWellIn d c j x v) (same_Some w.0 t (sym w.1 ∙ at)) w.2)

-- ---- the rule

pub one_kept : (d : Parts) (c : Claims) (charts : List Chart) → AreCharts d charts → (v j : ℕ) (row : List ℕ) → ((i : ℕ) → (Contains row i ↔ HasSite (is_wide c) charts i v)) →
    ((x : ℕ) → (IsOnly (λ y. Contains row y) x ↔ Some j ≡ Some x)) → IsRoot d c v → (StartsWell d c charts j v ↔ K10_Signal d c v)
one_kept d c charts are v j row exact only root =
    first_by_places.one d c charts are v j ((only_same (λ y. Contains row y) (λ i. HasSite (is_wide c) charts i v) exact j).0 ((only j).1 refl)) root

pub none_kept : (d : Parts) (c : Claims) (charts : List Chart) → AreCharts d charts → (v : ℕ) (row : List ℕ) → ((i : ℕ) → (Contains row i ↔ HasSite (is_wide c) charts i v)) →
    ((x : ℕ) → (IsOnly (λ y. Contains row y) x ↔ None ≡ Some x)) → IsRoot d c v → (b : Bool) → b ≡ (length row == 0) → (IsTrue b ↔ K10_Signal d c v)
none_kept d c charts are v row exact only root b e = (
  λ t. first_by_places.none d c charts are v (λ i s. let m = (exact i).1 s in omega (arith, m.1, eqb-true (length row) 0 (sym e ∙ t))),
  λ k. e ∙ same_self (length row) 0 (by (cases (length row)) k),
) where
  cases : (n : ℕ) → (n ≡ 0) ⊎ (0 < n)
  cases n = grind arith

  by : (length row ≡ 0) ⊎ (0 < length row) → K10_Signal d c v → length row ≡ 0
  by (inl z) k = z
  by (inr some) k =
      let s = (exact (get_or row 0 0)).0 (contains_at row 0 some) in
      let o = first_by_places.several d c charts are v (get_or row 0 0) root s k in
      let f : None ≡ Some (get_or row 0 0) = (only (get_or row 0 0)).0 ((only_same (λ y. Contains row y) (λ i. HasSite (is_wide c) charts i v) exact (get_or row 0 0)).1 o) in
      cc

pub within_of_root : (d : Parts) (c : Claims) (v : ℕ) → IsRoot d c v → v < length d.signals
within_of_root d c v h = by (cases v (length d.signals)) where
  cases : (a b : ℕ) → (a < b) ⊎ (b ≤ a)
  cases a b = grind arith

  by : (v < length d.signals) ⊎ (length d.signals ≤ v) → v < length d.signals
  by (inl l) = l
  by (inr g) = absurd (past_root d c v g h)
