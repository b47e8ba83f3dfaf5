-- The rule on what processes read, of points and of places.
use Rattle.std.proofs.Common.{◌≡◌, ℕ, ◌<◌, ◌⊎◌, ◌↔◌, inl, inr, Bool, true, IsTrue, Some, None, List, [], ◌∷◌, length, slice_get, refl, sym, ◌∙◌, ap, subst, arith}
use Rattle.std.proofs.lemmas.Option.{slice_get-get_or}
use Rattle.vs_design.specs.declared.statement.EventTerm.{EventTerm}
use Rattle.std.specs.List.{Contains}
use Rattle.vs_design.specs.declared.design.Process.{Process}
use Rattle.vs_design.specs.declared.range.BitRange.{BitRange}
use Rattle.vs_design.specs.declared.statement.Statement.TheViews.{out-Statement}
use Rattle.vs_design.specs.Parts.{Parts}
use Rattle.vs_process.specs.Places.{perform, turns, Todo}
use Rattle.vs_process.specs.Numbers.{number_next}
use Rattle.vs_process.specs.Stops.{Stop, IsText}
use Rattle.vs_rules.specs.vs_process.specs.Threads.{todo_reads, own_shows, todo_shows}
use Rattle.vs_rules.specs.Claims.{Claims, IsRootOf, IsSequential, edges, delays, is_wide, mixed}
use Rattle.vs_rules.specs.Paths.{IsHot}
use Rattle.vs_rules.specs.Rules.{K9, Reads, IsOwnRead, IsOwnEdge, AreApart}
use Rattle.vs_claims.specs.vs_maps.specs.Reaches.{Chart, IsPlace}
use Rattle.vs_claims.specs.vs_maps.proofs.EachPoint.{reads_here, shows_here, reads_numbered}
use Rattle.vs_claims.specs.vs_maps.proofs.EachWalk.{hot_exact, terms_exact}
use Rattle.vs_claims.specs.vs_maps.proofs.Texts.{place_of, place_back}
use Rattle.vs_claims.specs.vs_maps.specs.Ranges.{HasTermAt, reads_at, shows_at}
use Rattle.vs_claims.specs.vs_maps.specs.Walks.{InHot}
use Rattle.vs_rules_of_processes.specs.ReadingPlaces.{ReadsAt, OwnReadAt, OwnEdgeAt, IsTermApart, MayReadOf, MayReadRange, MayReadAt, ReadingsAreByPlaces, RootsApart}
use Rattle.vs_claims.specs.Facts.{Case, AreCharts}
use Rattle.vs_rules_of_processes.specs.vs_slots.proofs.KeptLemmas.{process_of, text_of}
use Rattle.vs_rules_of_processes.proofs.PairLemmas.{by_places}
use Rattle.vs_rules_of_processes.specs.vs_slots.proofs.FiringLemmas.{numbered_layer}
use Rattle.vs_rules_of_processes.specs.vs_slots.proofs.RunLemmas.{delay_runs_are_exact, runs_are_exact}
use Rattle.vs_rules_of_processes.proofs.EdgeLemmas.{edges_are_by_places, has_chart}

shows_numbered : (k : Todo) (r : BitRange) → Contains (todo_shows k) r → (n : ℕ) × (number_next k ≡ Some n)
shows_numbered [] r h = absurd (omega (arith, h.1))
shows_numbered (perform s ∷ rest) r h = numbered_layer own_shows (λ all. refl) (out-Statement s) r h
shows_numbered (turns n s ∷ rest) r h = absurd (omega (arith, h.1))

numbered : (d : Parts) (c : Claims) (k : Todo) (r : BitRange) → Reads d c k r → (n : ℕ) × (number_next k ≡ Some n)
numbered d c k r (inl h) = reads_numbered k r h.0
numbered d c k r (inr h) = shows_numbered k r h.1.0

-- what is read at a place is read at its point
reads_exact : (d : Parts) (c : Claims) (q : Process) (stops : List Stop) (start : ℕ) (t : IsText q.body stops start) (p : ℕ) (r : BitRange) →
    (ReadsAt c (record { stops = stops; start = start }) p r ↔ Reads d c (t.at p) r)
reads_exact d c q stops start t p r = (
  λ h. elim h [
    | inl a ↦ inl (subst (λ (l : List BitRange). Contains l r) (sym own) a, tt)
    | inr a ↦ inr (a.0, (subst (λ (l : List BitRange). Contains l r) (sym shown) a.1, tt))
  ],
  λ h. elim h [
    | inl a ↦ inl (subst (λ (l : List BitRange). Contains l r) own a.0)
    | inr a ↦ inr (a.0, subst (λ (l : List BitRange). Contains l r) shown a.1.0)
  ],
) where
  own : todo_reads (t.at p) ≡ reads_at (record { stops = stops; start = start }) p
  own = reads_here q.body stops start t p

  shown : todo_shows (t.at p) ≡ shows_at (record { stops = stops; start = start }) p
  shown = shows_here q.body stops start t p

-- what one may read at a place where something is done, one may at its point
may_exact : (d : Parts) (c : Claims) (i : ℕ) (q : Process) (stops : List Stop) (start : ℕ) (is : slice_get d.processes i ≡ Some q) (t : IsText q.body stops start) (p n : ℕ) →
    number_next (t.at p) ≡ Some n → (v u : ℕ) →
    (MayReadOf d c i (record { stops = stops; start = start }) p v u ↔ (IsOwnRead d c i u v (t.at p) ⊎ (IsOwnEdge d c i v (t.at p) ⊎ AreApart d c i u (t.at p))))
may_exact d c i q stops start is t p n has v u = (there, back) where
  hot : InHot (is_wide c) (record { stops = stops; start = start }) u p ↔ IsHot d (is_wide c) i u (t.at p)
  hot = hot_exact d i q stops start t is (is_wide c) u p n has

  own_there : OwnReadAt d c i (record { stops = stops; start = start }) p u v → IsOwnRead d c i u v (t.at p)
  own_there y = (y.0, elim y.1 [ inl e ↦ inl e | inr cold ↦ inr (λ h. cold (hot.1 h)) ])

  own_back : IsOwnRead d c i u v (t.at p) → OwnReadAt d c i (record { stops = stops; start = start }) p u v
  own_back y = (y.0, elim y.1 [ inl e ↦ inl e | inr cold ↦ inr (λ h. cold (hot.0 h)) ])

  edge_there : OwnEdgeAt d c i (record { stops = stops; start = start }) p v → IsOwnEdge d c i v (t.at p)
  edge_there y = record {
    term = y.0.0;
    has = (terms_exact d i q stops start t is y.0.0).0 y.0.1;
    edge = y.0.2;
    of = y.0.3;
    apart = λ root other r is_root slot fires. y.1 root other r is_root slot (((edges_are_by_places d c i q stops start is t).fires other r).1 fires);
    undelayed = λ lists root r mixed is_root slot run.
        y.2 (lists, mixed) root r is_root slot ((delay_runs_are_exact d c i q stops start is t p n r lists has (inr mixed)).1 run);
  }

  edge_back : IsOwnEdge d c i v (t.at p) → OwnEdgeAt d c i (record { stops = stops; start = start }) p v
  edge_back e = (
    (e.term, (terms_exact d i q stops start t is e.term).1 e.has, e.edge, e.of),
    λ root other r is_root slot fires. e.apart root other r is_root slot (((edges_are_by_places d c i q stops start is t).fires other r).0 fires),
    λ mixed root r is_root slot run.
        e.undelayed mixed.0 root r mixed.1 is_root slot ((delay_runs_are_exact d c i q stops start is t p n r mixed.0 has (inr mixed.1)).0 run),
  )

  there : MayReadOf d c i (record { stops = stops; start = start }) p v u → IsOwnRead d c i u v (t.at p) ⊎ (IsOwnEdge d c i v (t.at p) ⊎ AreApart d c i u (t.at p))
  there (inl y) = inl (own_there y)
  there (inr (inl y)) = inr (inl (edge_there y))
  there (inr (inr y)) = inr (inr (λ r slot run. y r slot ((runs_are_exact d c i q stops start is t p n r has).1 run)))

  back : IsOwnRead d c i u v (t.at p) ⊎ (IsOwnEdge d c i v (t.at p) ⊎ AreApart d c i u (t.at p)) → MayReadOf d c i (record { stops = stops; start = start }) p v u
  back (inl y) = inl (own_back y)
  back (inr (inl y)) = inr (inl (edge_back y))
  back (inr (inr y)) = inr (inr (λ r slot run. y r slot ((runs_are_exact d c i q stops start is t p n r has).0 run)))

pub readings_are_by_places : ReadingsAreByPlaces
readings_are_by_places d c i q stops start is t = record { readings = λ kind. (there kind, back kind); others = none_of } where
  there : IsSequential d c i → ((p : ℕ) → IsPlace (record { stops = stops; start = start }) p → MayReadAt d c i (record { stops = stops; start = start }) p) → K9 d c i
  there kind m = record {
    fixed = λ k r u sequential point reads blocking cone.
        let p = place_of d i q stops start t is k point in
        let reads_it : Reads d c (t.at p.0) r = subst (λ (z : Todo). Reads d c z r) (sym p.2) reads in
        let n = numbered d c (t.at p.0) r reads_it in
        subst (λ (z : Todo). IsOwnRead d c i u r.signal z ⊎ (IsOwnEdge d c i r.signal z ⊎ AreApart d c i u z)) p.2
        ((may_exact d c i q stops start is t p.0 n.0 n.1 r.signal u).0 (m p.0 p.1 r u ((reads_exact d c q stops start t p.0 r).1 reads_it) blocking cone));
  }

  back : IsSequential d c i → K9 d c i → (p : ℕ) → IsPlace (record { stops = stops; start = start }) p → MayReadAt d c i (record { stops = stops; start = start }) p
  back kind m p place r u reads blocking cone =
      let reads_it = (reads_exact d c q stops start t p r).0 reads in
      let n = numbered d c (t.at p) r reads_it in
      (may_exact d c i q stops start is t p n.0 n.1 r.signal u).1 (m.fixed (t.at p) r u kind (place_back d i q stops start t is p place) reads_it blocking cone)

  none_of : (IsSequential d c i → ⊥) → K9 d c i
  none_of not_one = record { fixed = λ k r u sequential point reads blocking cone. absurd (not_one sequential) }

pub other_readings : (d : Parts) (c : Claims) (i : ℕ) → (IsSequential d c i → ⊥) → K9 d c i
other_readings d c i not_one = record { fixed = λ k r u sequential point reads blocking cone. absurd (not_one sequential) }

pub kept_readings : (f : Case) (i : ℕ) (t : Chart) → AreCharts f.design f.charts → slice_get f.charts i ≡ Some t → IsSequential f.design f.claims i →
    (((p : ℕ) → IsPlace t p → MayReadAt f.design f.claims i t p) ↔ K9 f.design f.claims i)
kept_readings f i t maps chart kind =
    let q = process_of f i t maps chart in
    (readings_are_by_places f.design f.claims i q.0 t.stops t.start q.1 (text_of f i q.0 t maps q.1 chart)).readings kind

-- a process that waits for edges or for times has a chart
pub reader_chart : (f : Case) (i : ℕ) → AreCharts f.design f.charts → slice_get f.charts i ≡ None → IsSequential f.design f.claims i → ⊥
reader_chart f i maps e (inl edge) = has_chart f i edges maps e edge
reader_chart f i maps e (inr (inl times)) = has_chart f i (delays times.0) maps e times.1
reader_chart f i maps e (inr (inr both)) = has_chart f i (mixed both.0) maps e both.1

-- roots of a signal and terms of a process, as they are listed
pub roots_apart_are : (d : Parts) (c : Claims) (t : Chart) (v : ℕ) (terms : List EventTerm) (roots : List ℕ) (n : ℕ) (b : Bool) → n ≡ length roots →
    ((x : EventTerm) → (Contains terms x ↔ HasTermAt t x)) → ((r : ℕ) → (Contains roots r ↔ IsRootOf d c r v)) →
    (IsTrue b ↔ ((j : ℕ) → j < n → (root : ℕ) → slice_get roots j ≡ Some root → (k : ℕ) (x : EventTerm) → slice_get terms k ≡ Some x → IsTermApart d c root x)) →
    (IsTrue b ↔ RootsApart d c t v)
roots_apart_are d c t v terms roots n b long exact listed kept = (
  λ h root other r is_root slot fires.
      let m = (listed root).1 is_root in
      let k = (exact fires.0).1 fires.1 in
      kept.0 h m.0 (subst (λ (l : ℕ). m.0 < l) (sym long) m.1) root (slice_get-get_or roots m.0 root m.1 ∙ ap Some m.2) k.0 fires.0 (slice_get-get_or terms k.0 fires.0 k.1 ∙ ap Some k.2)
      other r fires.2 slot fires.3,
  λ apart. kept.1 (λ j l root e k x f other r is_root slot fires.
      apart root other r ((listed root).0 ((by_places (λ (z : ℕ). Contains roots z) roots).1 (λ z m. m) j root e)) slot
      (x, (exact x).0 ((by_places (λ (z : EventTerm). Contains terms z) terms).1 (λ z m. m) k x f), is_root, fires)),
)

-- what is read, and what is shown
pub both_read : (d : Parts) (c : Claims) (i : ℕ) (t : Chart) (p : ℕ) (reads shows : List BitRange) → reads ≡ reads_at t p → shows ≡ shows_at t p →
    ((k : ℕ) (r : BitRange) → slice_get reads k ≡ Some r → MayReadRange d c i t p r) →
    (c.displays ≡ true → (k : ℕ) (r : BitRange) → slice_get shows k ≡ Some r → MayReadRange d c i t p r) → MayReadAt d c i t p
both_read d c i t p reads shows e f own shown r u h blocking cone = elim h [
  | inl a ↦ let m = subst (λ (l : List BitRange). Contains l r) (sym e) a in own m.0 r (slice_get-get_or reads m.0 r m.1 ∙ ap Some m.2) u blocking cone
  | inr a ↦ let m = subst (λ (l : List BitRange). Contains l r) (sym f) a.1 in shown a.0 m.0 r (slice_get-get_or shows m.0 r m.1 ∙ ap Some m.2) u blocking cone
]

pub reads_own : (d : Parts) (c : Claims) (i : ℕ) (t : Chart) (p : ℕ) (reads : List BitRange) → reads ≡ reads_at t p → MayReadAt d c i t p →
    (k : ℕ) (r : BitRange) → slice_get reads k ≡ Some r → MayReadRange d c i t p r
reads_own d c i t p reads e m k r is u blocking cone =
    m r u (inl (subst (λ (l : List BitRange). Contains l r) e ((by_places (λ (z : BitRange). Contains reads z) reads).1 (λ z n. n) k r is))) blocking cone

pub reads_shown : (d : Parts) (c : Claims) (i : ℕ) (t : Chart) (p : ℕ) (shows : List BitRange) → shows ≡ shows_at t p → c.displays ≡ true → MayReadAt d c i t p →
    (k : ℕ) (r : BitRange) → slice_get shows k ≡ Some r → MayReadRange d c i t p r
reads_shown d c i t p shows e on m k r is u blocking cone =
    m r u (inr (on, subst (λ (l : List BitRange). Contains l r) e ((by_places (λ (z : BitRange). Contains shows z) shows).1 (λ z n. n) k r is))) blocking cone
