-- What processes of kind comb need and show.
use Rattle.std.proofs.Common.{◌≡◌, ℕ, ◌+◌, ◌<◌, ◌≤◌, ◌⊎◌, ◌↔◌, inl, inr, Bool, true, false, IsTrue, get_or, Some, None, List, [], ◌++◌, length, slice_get, sym, ◌∙◌, subst, arith}
use Rattle.std.specs.List.{Contains}
use Rattle.std.proofs.lemmas.List.Elements.{Contains-append_left, Contains-append_right, Contains-append_cases}
use Rattle.std.proofs.lemmas.Option.{none-some, same_Some, slice_get_cases}
use Rattle.vs_design.specs.declared.range.BitRange.{BitRange}
use Rattle.vs_design.specs.Parts.{Parts}
use Rattle.vs_process.specs.Places.{Todo}
use Rattle.vs_maps.specs.vs_rules.specs.Claims.{Claims, IsBlock}
use Rattle.vs_maps.specs.vs_rules.specs.Drivers.{block, DriverNeeds, InCone}
use Rattle.vs_maps.specs.vs_rules.specs.vs_process.specs.Threads.{todo_shows}
use Rattle.vs_maps.specs.vs_rules.specs.Paths.{IsPoint}
use Rattle.vs_maps.specs.vs_rules.specs.Rules.{BlockNeeds}
use Rattle.vs_maps.specs.vs_rules.specs.Rules as rules
use Rattle.vs_drivers.specs.vs_maps.specs.Ranges.{shows_at}
use Rattle.vs_drivers.specs.vs_maps.specs.Reaches.{Chart, IsPlace, places}
use Rattle.vs_drivers.specs.vs_maps.proofs.EachPoint.{shows_here}
use Rattle.vs_drivers.specs.vs_maps.proofs.Texts.{place_of, place_back}
use Rattle.vs_drivers.proofs.ConeLemmas.{claimed_within}
use Rattle.vs_claims.specs.Facts.{Case, AreCharts}
use Rattle.vs_design.specs.vs_logic4.proofs.Basics.{below_or}
use Rattle.vs_rules_of_processes.specs.FirstSlot.{Shows, ShowsIn, NeedsIn, Hangs, AreHung}
use Rattle.vs_rules_of_processes.specs.FirstSlot as f

-- ---- what is shown

pub put_no_shown : (t : Chart) (p : ℕ) (old : List BitRange) → (IsPlace t p → ⊥) → (r : BitRange) → (Contains old r ↔ (Contains old r ⊎ (IsPlace t p × Contains (shows_at t p) r)))
put_no_shown t p old not r = (inl, λ h. elim h [ inl l ↦ l | inr y ↦ absurd (not y.0) ])

-- at the places below a number
abbrev pub ShowsBelow : Chart → ℕ → BitRange → Type 0
ShowsBelow t n r = (p : ℕ) × (p < n) × (IsPlace t p × Contains (shows_at t p) r)

pub shows_none : (t : Chart) (old : List BitRange) (r : BitRange) → (Contains old r ↔ (Contains old r ⊎ ShowsBelow t 0 r))
shows_none t old r = (inl, λ h. elim h [ inl l ↦ l | inr y ↦ absurd (omega (arith, y.1)) ])

pub shows_more : (t : Chart) (n : ℕ) (old now new : List BitRange) (r : BitRange) → (Contains now r ↔ (Contains old r ⊎ ShowsBelow t n r)) →
    (Contains new r ↔ (Contains now r ⊎ (IsPlace t n × Contains (shows_at t n) r))) → (Contains new r ↔ (Contains old r ⊎ ShowsBelow t (n + 1) r))
shows_more t n old now new r a b = (
  λ h. elim (b.0 h) [
    | inl l ↦ elim (a.0 l) [ inl o ↦ inl o | inr y ↦ inr (y.0, omega (arith, y.1), y.2) ]
    | inr y ↦ inr (n, omega arith, y)
  ],
  λ h. b.1 (elim h [
    | inl o ↦ inl (a.1 (inl o))
    | inr y ↦ elim (below_or y.0 n y.1) [
      | inl l ↦ inl (a.1 (inr (y.0, l, y.2)))
      | inr e ↦ inr (subst (λ (k : ℕ). IsPlace t k × Contains (shows_at t k) r) e y.2)
    ]
  ]),
)

pub shows_all : (t : Chart) (n : ℕ) (old now : List BitRange) (r : BitRange) → ((p : ℕ) → IsPlace t p → p < places t) → places t ≤ n →
    (Contains now r ↔ (Contains old r ⊎ ShowsBelow t n r)) → (Contains now r ↔ (Contains old r ⊎ Shows t r))
shows_all t n old now r within past a = (
  λ h. elim (a.0 h) [ inl o ↦ inl o | inr y ↦ inr (record { place = y.0; is_place = y.2.0; shows = y.2.1 }) ],
  λ h. a.1 (elim h [ inl o ↦ inl o | inr s ↦ inr (s.place, (let below = within s.place s.is_place in omega (arith, below, past)), (s.is_place, s.shows)) ]),
)

pub shown_here : (charts : List Chart) (i : ℕ) (t : Chart) (old new : List BitRange) → Some t ≡ slice_get charts i → ((r : BitRange) → (Contains new r ↔ (Contains old r ⊎ Shows t r))) →
    (r : BitRange) → (Contains new r ↔ (Contains old r ⊎ ShowsIn charts i r))
shown_here charts i t old new is a r = (
  λ h. elim ((a r).0 h) [ inl o ↦ inl o | inr s ↦ inr (t, sym is, s) ],
  λ h. (a r).1 (elim h [ inl o ↦ inl o | inr y ↦ inr (subst (λ (k : Chart). Shows k r) (same_Some y.0 t (sym y.1 ∙ sym is)) y.2) ]),
)

pub shown_none : (charts : List Chart) (i : ℕ) (old : List BitRange) → None ≡ slice_get charts i → (r : BitRange) → (Contains old r ↔ (Contains old r ⊎ ShowsIn charts i r))
shown_none charts i old is r = (inl, λ h. elim h [ inl o ↦ o | inr y ↦ absurd (none-some y.0 (is ∙ y.1)) ])

-- ---- what is needed

pub no_needs : (k : Case) (i : ℕ) (old : List BitRange) → (IsBlock k.design k.claims i → ⊥) → (r : BitRange) → (Contains old r ↔ (Contains old r ⊎ NeedsIn k i r))
no_needs k i old not r = (inl, λ h. elim h [ inl o ↦ o | inr n ↦ absurd (not (block_of n)) ]) where
  block_of : NeedsIn k i r → IsBlock k.design k.claims i
  block_of (f.needs b n) = b
  block_of (f.shows b d s) = b

pub bare_needs : (k : Case) (i : ℕ) (old new rs : List BitRange) → (k.claims.displays ≡ true → ⊥) → new ≡ old ++ rs →
    ((r : BitRange) → (Contains rs r ↔ (IsBlock k.design k.claims i × DriverNeeds k.design (block i) r))) → (r : BitRange) → (Contains new r ↔ (Contains old r ⊎ NeedsIn k i r))
bare_needs k i old new rs mute made needs r = (
  λ h. elim (Contains-append_cases old rs r (subst (λ (l : List BitRange). Contains l r) made h)) [
    | inl l ↦ inl l
    | inr l ↦ let y = (needs r).0 l in inr (f.needs y.0 y.1)
  ],
  λ h. subst (λ (l : List BitRange). Contains l r) (sym made) (elim h [ inl o ↦ Contains-append_left old rs r o | inr n ↦ Contains-append_right old rs r ((needs r).1 (parts n)) ]),
) where
  parts : NeedsIn k i r → IsBlock k.design k.claims i × DriverNeeds k.design (block i) r
  parts (f.needs b n) = (b, n)
  parts (f.shows b d s) = absurd (mute d)

pub all_needs_of : (k : Case) (i : ℕ) (old now new rs : List BitRange) → IsBlock k.design k.claims i → k.claims.displays ≡ true → now ≡ old ++ rs →
    ((r : BitRange) → (Contains rs r ↔ (IsBlock k.design k.claims i × DriverNeeds k.design (block i) r))) →
    ((r : BitRange) → (Contains new r ↔ (Contains now r ⊎ ShowsIn k.charts i r))) → (r : BitRange) → (Contains new r ↔ (Contains old r ⊎ NeedsIn k i r))
all_needs_of k i old now new rs is displays made needs shown r = (
  λ h. elim ((shown r).0 h) [
    | inl n ↦ elim (Contains-append_cases old rs r (subst (λ (l : List BitRange). Contains l r) made n)) [
      | inl l ↦ inl l
      | inr l ↦ let y = (needs r).0 l in inr (f.needs y.0 y.1)
    ]
    | inr s ↦ inr (f.shows is displays s)
  ],
  λ h. elim h [ inl o ↦ (shown r).1 (inl (subst (λ (l : List BitRange). Contains l r) (sym made) (Contains-append_left old rs r o))) | inr n ↦ back n ],
) where
  back : NeedsIn k i r → Contains new r
  back (f.needs b n) = (shown r).1 (inl (subst (λ (l : List BitRange). Contains l r) (sym made) (Contains-append_right old rs r ((needs r).1 (b, n)))))
  back (f.shows b d s) = (shown r).1 (inr s)

-- of the processes below a number
abbrev pub NeedsBelow : Case → ℕ → BitRange → Type 0
NeedsBelow k n r = (i : ℕ) × (i < n) × NeedsIn k i r

pub needs_none : (k : Case) (all : List BitRange) → all ≡ [] → (r : BitRange) → (Contains all r ↔ NeedsBelow k 0 r)
needs_none k all is r = (
  λ h. absurd (let c = subst (λ (l : List BitRange). Contains l r) is h in omega (arith, c.1)),
  λ y. absurd (omega (arith, y.1)),
)

pub needs_more : (k : Case) (n : ℕ) (now new : List BitRange) (r : BitRange) → (Contains now r ↔ NeedsBelow k n r) → (Contains new r ↔ (Contains now r ⊎ NeedsIn k n r)) →
    (Contains new r ↔ NeedsBelow k (n + 1) r)
needs_more k n now new r a b = (
  λ h. elim (b.0 h) [ inl l ↦ let y = a.0 l in (y.0, omega (arith, y.1), y.2) | inr y ↦ (n, omega arith, y) ],
  λ y. b.1 (elim (below_or y.0 n y.1) [ inl l ↦ inl (a.1 (y.0, l, y.2)) | inr e ↦ inr (subst (λ (j : ℕ). NeedsIn k j r) e y.2) ]),
)

-- what is shown at a place is what its point shows
shown_on : (k : Case) → AreCharts k.design k.charts → (i : ℕ) (r : BitRange) → IsBlock k.design k.claims i → k.claims.displays ≡ true → i < length k.design.processes →
    ShowsIn k.charts i r → BlockNeeds k.design k.claims r
shown_on k maps i r is displays within s = elim (slice_get_cases k.design.processes i).1 [
  | inl y ↦
      let t = s.0 in
      let text = maps.each i y.0 t y.2 s.1 in
      rules.shows i (text.at s.2.place) is displays (place_back k.design i y.0 t.stops t.start text y.2 s.2.place s.2.is_place)
      (subst (λ (l : List BitRange). Contains l r) (sym (shows_here y.0.body t.stops t.start text s.2.place)) s.2.shows, tt)
  | inr y ↦ absurd (omega (arith, within, y.0))
]

shown_back : (k : Case) → AreCharts k.design k.charts → (i : ℕ) (p : Todo) (r : BitRange) → i < length k.design.processes → IsPoint k.design i p →
    Contains (todo_shows p) r → ShowsIn k.charts i r
shown_back k maps i p r within point shows = elim (slice_get_cases k.design.processes i).1 [
  | inl y ↦ elim (slice_get_cases k.charts i).1 [
    | inl z ↦
        let text = maps.each i y.0 z.0 y.2 z.2 in
        let at = place_of k.design i y.0 z.0.stops z.0.start text y.2 p point in (
          z.0,
          z.2,
          record {
            place = at.0;
            is_place = at.1;
            shows = subst (λ (l : List BitRange). Contains l r) (shows_here y.0.body z.0.stops z.0.start text at.0) (subst (λ (l : Todo). Contains (todo_shows l) r) (sym at.2) shows);
          },
        )
    | inr z ↦ absurd (omega (arith, within, z.0, maps.as_many))
  ]
  | inr y ↦ absurd (omega (arith, within, y.0))
]

needs_on : (k : Case) → AreCharts k.design k.charts → (i : ℕ) (r : BitRange) → i < length k.design.processes → NeedsIn k i r → BlockNeeds k.design k.claims r
needs_on k maps i r within (f.needs b n) = rules.needs i b n
needs_on k maps i r within (f.shows b d s) = shown_on k maps i r b d within s

needs_back : (k : Case) → AreCharts k.design k.charts → (r : BitRange) → BlockNeeds k.design k.claims r → (i : ℕ) × (i < length k.design.processes) × NeedsIn k i r
needs_back k maps r (rules.needs i b n) = (i, claimed_within k.design k.claims i b, f.needs b n)
needs_back k maps r (rules.shows i p b d point s) =
    let within = claimed_within k.design k.claims i b in (i, within, f.shows b d (shown_back k maps i p r within point s.0))

-- what all processes of kind comb need
pub needs_all : (k : Case) → AreCharts k.design k.charts → (n : ℕ) (all : List BitRange) → length k.design.processes ≤ n → n ≤ length k.design.processes → (r : BitRange) →
    (Contains all r ↔ NeedsBelow k n r) → (Contains all r ↔ BlockNeeds k.design k.claims r)
needs_all k maps n all past within r a = (
  λ h. let y = a.0 h in needs_on k maps y.0 r (omega (arith, y.1, within)) y.2,
  λ b. let y = needs_back k maps r b in a.1 (y.0, omega (arith, y.1, past), y.2),
)

-- the signals in the cones of what they need
pub hung_is : (d : Parts) (c : Claims) (ranges read : List BitRange) (marks : List Bool) → read ≡ ranges → ((r : BitRange) → (Contains ranges r ↔ BlockNeeds d c r)) →
    ((u : ℕ) → (IsTrue (get_or marks u false) ↔ ((r : BitRange) × Contains read r × InCone d c u r))) → AreHung d c marks
hung_is d c ranges read marks same needs cones u = (
  λ t. let y = (cones u).0 t in
      record { range = y.0; needs = (needs y.0).0 (subst (λ (l : List BitRange). Contains l y.0) same y.1); cone = y.2 },
  λ h. (cones u).1 (h.range, subst (λ (l : List BitRange). Contains l h.range) (sym same) ((needs h.range).1 h.needs), h.cone),
)
