-- What sets a signal alike, of points and of sites.
use Rattle.std.proofs.Common.{◌≡◌, ℕ, ◌<◌, ◌↔◌, Some, None, List, length, slice_get, refl, sym, ◌∙◌, subst}
use Rattle.std.specs.List.{Contains}
use Rattle.std.proofs.lemmas.Option.{none-some, same_Some, slice_get_within}
use Rattle.vs_design.specs.vs_logic4.specs.declared.digit.Digit.{Digit}
use Rattle.vs_design.specs.declared.design.Process.{Process}
use Rattle.vs_design.specs.declared.statement.Statement.{Statement}
use Rattle.vs_design.specs.Parts.{Parts}
use Rattle.vs_process.specs.Places.{Todo}
use Rattle.vs_process.specs.Stops.{Stop, IsText}
use Rattle.vs_maps.specs.vs_rules.specs.Constants.{bit_of, Gives, SetsAlike}
use Rattle.vs_maps.specs.vs_rules.specs.Paths.{IsPoint, WritesLater, WritesNow, todo_later}
use Rattle.vs_claims.specs.vs_maps.proofs.EachPoint.{later_here}
use Rattle.vs_claims.specs.vs_maps.proofs.Texts.{place_of, place_back}
use Rattle.vs_claims.specs.vs_maps.specs.Ranges.{HasSignal, later_at}
use Rattle.vs_claims.specs.vs_maps.specs.Reaches.{Chart}
use Rattle.vs_maps.specs.Sites.{IsWrite, UsesAt, site_of}
use Rattle.vs_maps.specs.declared.sites.Site.{Site}
use Rattle.vs_maps.specs.declared.sites.Use.{Use}
use Rattle.vs_maps.specs.declared.sites.Use.TheVariants.{Now, Later, Reads, Shows, Waits}
use Rattle.vs_maps.proofs.SiteLemmas.{AreSitesOf}
use Rattle.vs_slots_constants.proofs.ConstantLemmas.{gives_by_places}
use Rattle.vs_maps.specs.vs_rules.proofs.Texts.{writer_there}
use Rattle.vs_slots_constants.proofs.TurnLemmas.{alike_writes}
use Rattle.vs_claims.specs.Facts.{AreCharts}
use Rattle.vs_design.specs.vs_logic4.proofs.Basics.{there as there_is}
use Rattle.vs_slots.specs.Settings.{AreSetAlike, IsSetAt, IsWriteOf}
use Rattle.vs_slots.proofs.FiringLemmas.{lists_signal, now_exact}
use Rattle.vs_slots.proofs.SiteLemmas.{uses_here}

-- ---- sites

-- a site sets a signal to one digit
pub one_digit : (t : Chart) (v : ℕ) (a b : Digit) (s : Site) → IsSetAt t v a s → IsSetAt t v b s → a ≡ b
one_digit t v a b s h k = same_Some a b (sym h.2 ∙ k.2)

-- ---- points and sites

-- a place writes by `<=` what its point does
later_exact : (d : Parts) (body : Statement) (stops : List Stop) (start : ℕ) (t : IsText body stops start) (p v : ℕ) →
    (HasSignal (later_at (record { stops = stops; start = start }) p) v ↔ WritesLater d (t.at p) v)
later_exact d body stops start t p v = lists_signal d (todo_later (t.at p)) (later_at (record { stops = stops; start = start }) p) v (later_here body stops start t p)

module _ (d : Parts) (charts : List Chart) (v j : ℕ) (q : Process) (t : Chart) (is : slice_get d.processes j ≡ Some q) (at : slice_get charts j ≡ Some t) (text : IsText q.body t.stops t.start)
    (sites : List Site) (are : AreSitesOf charts v sites) where
  -- what a point writes by `=`, it writes at a site
  site_now : (k : Todo) → IsPoint d j k → WritesNow d k v → (s : Site) × Contains sites s × IsWriteOf j s × (text.at s.place ≡ k) × (s.usage ≡ Now)
  site_now k p w =
      let y = place_of d j q t.stops t.start text is k p in
      let n = (now_exact d q.body t.stops t.start text y.0 v).1 (subst (λ (l : Todo). WritesNow d l v) (sym y.2) w) in
      let s = site_of j y.0 Now n.0 in
      (s, (are s).1 (record { chart = t; is = at; point = y.1; uses = n.1 }, n.2), (refl, tt), y.2, refl)

  site_later : (k : Todo) → IsPoint d j k → WritesLater d k v → (s : Site) × Contains sites s × IsWriteOf j s × (s.usage ≡ Later)
  site_later k p w =
      let y = place_of d j q t.stops t.start text is k p in
      let n = (later_exact d q.body t.stops t.start text y.0 v).1 (subst (λ (l : Todo). WritesLater d l v) (sym y.2) w) in
      let s = site_of j y.0 Later n.0 in
      (s, (are s).1 (record { chart = t; is = at; point = y.1; uses = n.1 }, n.2), (refl, tt), refl)

  -- a site that is a write of the process is a point that writes
  point_now : (s : Site) → Contains sites s → IsWriteOf j s → s.usage ≡ Now → IsPoint d j (text.at s.place) × WritesNow d (text.at s.place) v
  point_now s c w e =
      let is_site = (are s).0 c in
      let here = uses_here charts j t at s is_site.0 w.0 in (
        place_back d j q t.stops t.start text is s.place here.0,
        (now_exact d q.body t.stops t.start text s.place v).0 (s.range, subst (λ (u : Use). UsesAt t s.place u s.range) e here.1, is_site.1),
      )

  point_later : (s : Site) → Contains sites s → IsWriteOf j s → s.usage ≡ Later → IsPoint d j (text.at s.place) × WritesLater d (text.at s.place) v
  point_later s c w e =
      let is_site = (are s).0 c in
      let here = uses_here charts j t at s is_site.0 w.0 in (
        place_back d j q t.stops t.start text is s.place here.0,
        (later_exact d q.body t.stops t.start text s.place v).0 (s.range, subst (λ (u : Use). UsesAt t s.place u s.range) e here.1, is_site.1),
      )

  from_sites : (digit : Digit) → AreSetAlike t sites v j digit → SetsAlike d v digit j
  from_sites digit h =
      let first = h.0 in
      let set = h.1 first.0 first.1 first.2 in
      let point = point_now first.0 first.1 first.2 set.0 in record {
        known = set.1;
        at = text.at first.0.place;
        point = point.0;
        writes = point.1;
        now = λ k p w.
            let s = site_later k p w in
            let e : Later ≡ Now = sym s.3 ∙ (h.1 s.0 s.1 s.2).0 in
            absurd (cc);
        gives = λ k p w.
            let s = site_now k p w in
            subst (λ (l : Todo). Gives l (bit_of v) digit) s.3
            ((gives_by_places q.body t.stops t.start text s.0.place (bit_of v) digit).0 (h.1 s.0 s.1 s.2).2);
      }

  set_here : (digit : Digit) → SetsAlike d v digit j → (s : Site) → Contains sites s → (u : Use) → s.usage ≡ u → (s.process ≡ j) × IsWrite u → IsSetAt t v digit s
  set_here digit h s c Now e w =
      let point = point_now s c (w.0, subst IsWrite (sym e) w.1) e in
      (e, h.known, (gives_by_places q.body t.stops t.start text s.place (bit_of v) digit).1 (h.gives (text.at s.place) point.0 point.1))
  set_here digit h s c Later e w =
      let point = point_later s c (w.0, subst IsWrite (sym e) w.1) e in
      absurd (h.now (text.at s.place) point.0 point.1)
  set_here digit h s c Reads e w = absurd w.1
  set_here digit h s c Shows e w = absurd w.1
  set_here digit h s c (Waits edge) e w = absurd w.1

  to_sites : (digit : Digit) → SetsAlike d v digit j → AreSetAlike t sites v j digit
  to_sites digit h =
      let s = site_now h.at h.point h.writes in
      ((s.0, s.1, s.2), λ x c w. set_here digit h x c x.usage refl w)

  -- a process sets a signal alike exactly where its sites do
  pub alike_sites : (digit : Digit) → (AreSetAlike t sites v j digit ↔ SetsAlike d v digit j)
  alike_sites digit = (from_sites digit, to_sites digit)

-- past the maps there is no process
pub alike_there : (d : Parts) (charts : List Chart) (v j : ℕ) (digit : Digit) → AreCharts d charts → slice_get charts j ≡ None → SetsAlike d v digit j → ⊥
alike_there d charts v j digit maps none h =
    let p = writer_there d j v (alike_writes d v j digit h) in
    let within : j < length charts = subst (λ (n : ℕ). j < n) (sym maps.as_many) (slice_get_within d.processes j p.0 p.1) in
    let t = there_is charts j within in
    none-some t.0 (sym none ∙ t.1)
