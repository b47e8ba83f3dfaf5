-- What texts write and read, by the sites of their maps.
use Rattle.std.proofs.Common.{◌≡◌, ℕ, ◌<◌, ◌⊎◌, ◌↔◌, inl, inr, Bool, IsTrue, Option, Some, None, List, [], ◌∷◌, ◌++◌, slice_get, refl, sym, ◌∙◌, ap, subst}
use Rattle.std.specs.List.{Contains}
use Rattle.std.proofs.lemmas.List.{append-nil}
use Rattle.std.proofs.lemmas.List.Elements.{Contains-append_left, Contains-append_right, Contains-append_cases}
use Rattle.std.proofs.lemmas.Option.{none-some, same_Some, slice_get_cases}
use Rattle.vs_design.specs.vs_logic4.proofs.Basics.{there, none_in}
use Rattle.vs_design.specs.declared.design.Process.{Process}
use Rattle.vs_design.specs.declared.range.BitRange.{BitRange}
use Rattle.vs_design.specs.declared.statement.Statement.{Statement}
use Rattle.vs_design.specs.declared.statement.Statement.TheOpen.{Statement-F}
use Rattle.vs_design.specs.Parts.{Parts}
use Rattle.vs_process.specs.Places.{perform, turns, Todo, flat}
use Rattle.vs_process.specs.Stops.{IsText, next_statement, stops_next, stops_tos}
use Rattle.vs_process.specs.Writes.{statement_writes_step}
use Rattle.vs_rules.specs.vs_process.specs.BlockDrivers.{outputs_for}
use Rattle.vs_rules.specs.vs_process.specs.Threads.{own_reads}
use Rattle.vs_rules.specs.Paths.{ListsSignal, Writes, reads_for, reads_of, statement_now, statement_later, text_reads_step, writes_of}
use Rattle.vs_rules.specs.Points.{Point}
use Rattle.vs_rules.proofs.Texts.{Collects, Splits, all_of, all_there, has_point, own_text, own_todo, own_writes, reads_collects, reads_split, writes_collects, writes_split}
use Rattle.vs_maps.specs.Ranges.{now_at, later_at, ranges_of, statement_at}
use Rattle.vs_maps.specs.Reaches.{Chart, IsPlace}
use Rattle.vs_maps.specs.Sites.{IsSite, IsWrite, UsesAt, site_of}
use Rattle.vs_maps.specs.Texts.{AllNow, AllLater, AllReads, AreCharts, Texts, texts_of}
use Rattle.vs_maps.specs.declared.sites.Site.{Site}
use Rattle.vs_maps.specs.declared.sites.Use.{Use}
use Rattle.vs_maps.specs.declared.sites.Use.TheVariants.{Now, Later, Reads, Shows, Waits}
use Rattle.vs_maps.proofs.Join.{point_back, point_on}
use Rattle.vs_maps.proofs.SiteLemmas.{AreSitesOf, written_so}
use Rattle.vs_maps.proofs.TermLemmas.{chart_is}

-- ---- of a text

own_told : (own : Statement-F Statement → List BitRange) (k : Todo) → own_todo own k ≡ ranges_of own (next_statement k)
own_told own [] = refl
own_told own (perform s ∷ rest) = refl
own_told own (turns n s ∷ rest) = refl

-- a place of a map whose statement has the range of its own
abbrev pub HasPlace : (Statement-F Statement → List BitRange) → Chart → BitRange → Type 0
HasPlace own c r = (p : ℕ) × IsPlace c p × Contains (ranges_of own (statement_at c p)) r

-- what a text has is what the statements at the places of its map have of their own
text_places : (layer : Statement-F (List BitRange) → List BitRange) (own : Statement-F Statement → List BitRange) → Collects BitRange layer → Splits layer own → (body : Statement) (c : Chart) →
    IsText body c.stops c.start → (r : BitRange) → (Contains (all_of layer body) r ↔ HasPlace own c r)
text_places layer own col splits body c t r = (
  λ h.
      let k = has_point layer own col splits body (flat body) [] (subst (Point (flat body)) (sym (append-nil (flat body))) Point.begins) r h in
      let p = point_on (flat body) t.at c.start (stops_next c.stops) (stops_tos c.stops) t.is_map k.0 k.1 in
      (p.0, p.1, subst (λ l. Contains l r) (ap (own_todo own) (sym p.2) ∙ here p.0) k.2),
  λ y.
      let point = point_back (flat body) t.at c.start (stops_next c.stops) (stops_tos c.stops) t.is_map y.0 y.1 in
      subst (λ l. Contains l r) (all_there layer col body)
      (own_text layer own col splits (flat body) (t.at y.0) point r (subst (λ l. Contains l r) (sym (here y.0)) y.2)),
) where
  here : (p : ℕ) → own_todo own (t.at p) ≡ ranges_of own (statement_at c p)
  here p = own_told own (t.at p) ∙ ap (ranges_of own) (t.says p)

-- ---- of a process

-- what the text of a process has, by its number
of_process : (layer : Statement-F (List BitRange) → List BitRange) (own : Statement-F Statement → List BitRange) → Collects BitRange layer → Splits layer own → (had : Option Process → List BitRange) →
    had None ≡ [] → ((q : Process) → had (Some q) ≡ all_of layer q.body) → (d : Parts) (charts : List Chart) → AreCharts d charts → (i : ℕ) (r : BitRange) →
    (Contains (had (slice_get d.processes i)) r ↔ ((c : Chart) × (slice_get charts i ≡ Some c) × HasPlace own c r))
of_process layer own col splits had none some d charts maps i r = (
  λ h. elim (slice_get_cases d.processes i).1 [
    | inl q ↦
        let c = there charts i (subst (λ (n : ℕ). i < n) (sym maps.as_many) q.1) in
        (c.0, c.1, (text_places layer own col splits q.0.body c.0 (maps.each i q.0 c.0 q.2 c.1) r).0 (subst (λ l. Contains l r) (ap had q.2 ∙ some q.0) h))
    | inr past ↦ absurd (none_in r (subst (λ l. Contains l r) (ap had past.1 ∙ none) h))
  ],
  λ y. let q = chart_is d charts maps i y.0 y.1 in
      subst (λ l. Contains l r) (sym (ap had q.is ∙ some q.process)) ((text_places layer own col splits q.process.body y.0 q.text r).1 y.2),
)

both_lists : (o : Option Statement) → ranges_of own_writes o ≡ ranges_of statement_now o ++ ranges_of statement_later o
both_lists None = refl
both_lists (Some s) = refl

written_at : (c : Chart) (p : ℕ) (u : Use) (r : BitRange) → IsWrite u → UsesAt c p u r → Contains (now_at c p ++ later_at c p) r
written_at c p Now r w h = Contains-append_left (now_at c p) (later_at c p) r h
written_at c p Later r w h = Contains-append_right (now_at c p) (later_at c p) r h
written_at c p Reads r w h = absurd w
written_at c p Shows r w h = absurd w
written_at c p (Waits edge) r w h = absurd w

-- a site of a signal, of a process
abbrev pub SiteOf : List Chart → ℕ → ℕ → (Use → Type 0) → Type 0
SiteOf charts i v sort = (s : Site) × IsSite charts s × (s.range.signal ≡ v) × (s.process ≡ i) × sort s.usage

-- a process writes a signal where one of its sites is a write of it
pub writes_sites : (d : Parts) (charts : List Chart) → AreCharts d charts → (i v : ℕ) → (Writes d i v ↔ SiteOf charts i v IsWrite)
writes_sites d charts maps i v = (
  λ w.
      let y = (both w.range).0 w.listed.0 in
      let p = y.2 in
      elim (Contains-append_cases (now_at y.0 p.0) (later_at y.0 p.0) w.range (subst (λ l. Contains l w.range) (both_lists (statement_at y.0 p.0)) p.2)) [
        | inl now ↦ (site_of i p.0 Now w.range, record { chart = y.0; is = y.1; point = p.1; uses = now }, w.of, refl, tt)
        | inr later ↦ (site_of i p.0 Later w.range, record { chart = y.0; is = y.1; point = p.1; uses = later }, w.of, refl, tt)
      ],
  λ y. let s = y.0 in let is = y.1 in record {
    range = s.range;
    listed = (
      (both s.range).1 (
        is.chart,
        ap (slice_get charts) (sym y.3) ∙ is.is,
        (s.place, is.point, subst (λ l. Contains l s.range) (sym (both_lists (statement_at is.chart s.place))) (written_at is.chart s.place s.usage s.range y.4 is.uses)),
      ),
      tt,
    );
    of = y.2;
  },
) where
  both : (r : BitRange) → (Contains (writes_of d i) r ↔ ((c : Chart) × (slice_get charts i ≡ Some c) × HasPlace own_writes c r))
  both = of_process statement_writes_step own_writes writes_collects writes_split outputs_for refl (λ q. refl) d charts maps i

-- it reads one where one of its sites reads it
pub reads_sites : (d : Parts) (charts : List Chart) → AreCharts d charts → (i v : ℕ) → (ListsSignal d (reads_of d i) v ↔ SiteOf charts i v (λ u. u ≡ Reads))
reads_sites d charts maps i v = (
  λ w.
      let y = (both w.range).0 w.listed.0 in
      let p = y.2 in
      (site_of i p.0 Reads w.range, record { chart = y.0; is = y.1; point = p.1; uses = p.2 }, w.of, refl, refl),
  λ y. let s = y.0 in let is = y.1 in record {
    range = s.range;
    listed = (
      (both s.range).1 (is.chart, ap (slice_get charts) (sym y.3) ∙ is.is, (s.place, is.point, subst (λ (u : Use). UsesAt is.chart s.place u s.range) y.4 is.uses)),
      tt,
    );
    of = y.2;
  },
) where
  both : (r : BitRange) → (Contains (reads_of d i) r ↔ ((c : Chart) × (slice_get charts i ≡ Some c) × HasPlace own_reads c r))
  both = of_process text_reads_step own_reads reads_collects reads_split reads_for refl (λ q. refl) d charts maps i

-- ---- rules of processes

-- all points that write a signal keep such a rule where all processes that write it do
pub all_written : (d : Parts) (charts : List Chart) → AreCharts d charts → (x : Texts) → x ≡ texts_of d charts → (v : ℕ) (P : ℕ → Type 0) (b : Bool) →
    (IsTrue b ↔ (AllNow x v (λ i p. P i) × AllLater x v (λ i p. P i))) → (IsTrue b ↔ ((i : ℕ) → Writes d i v → P i))
all_written d charts maps x e v P b h = (
  λ t i w.
      let all = subst (λ (y : Texts). AllNow y v (λ i p. P i) × AllLater y v (λ i p. P i)) e (h.0 t) in
      let y = (writes_sites d charts maps i v).0 w in
      let s = y.0 in
      let is = y.1 in
      subst P y.3 (elim (written_so is.chart s.place v s.usage s.range y.4 is.uses y.2) [
        | inl now ↦ all.0 s.process s.place is.chart is.is is.point now
        | inr later ↦ all.1 s.process s.place is.chart is.is is.point later
      ]),
  λ all. h.1 (subst (λ (y : Texts). AllNow y v (λ i p. P i) × AllLater y v (λ i p. P i)) (sym e) (
    λ i p t at place w. all i ((writes_sites d charts maps i v).1 (site_of i p Now w.0, record { chart = t; is = at; point = place; uses = w.1 }, w.2, refl, tt)),
    λ i p t at place w. all i ((writes_sites d charts maps i v).1 (site_of i p Later w.0, record { chart = t; is = at; point = place; uses = w.1 }, w.2, refl, tt)),
  )),
)

-- all that read it do where all processes that read it do
pub all_read : (d : Parts) (charts : List Chart) → AreCharts d charts → (x : Texts) → x ≡ texts_of d charts → (v : ℕ) (P : ℕ → Type 0) (b : Bool) →
    (IsTrue b ↔ AllReads x v (λ i p. P i)) → (IsTrue b ↔ ((i : ℕ) → ListsSignal d (reads_of d i) v → P i))
all_read d charts maps x e v P b h = (
  λ t i w.
      let y = (reads_sites d charts maps i v).0 w in
      let s = y.0 in
      let is = y.1 in
      subst P y.3 (subst (λ (z : Texts). AllReads z v (λ i p. P i)) e (h.0 t) s.process s.place is.chart is.is is.point
      (s.range, subst (λ (u : Use). UsesAt is.chart s.place u s.range) y.4 is.uses, y.2)),
  λ all. h.1 (subst (λ (z : Texts). AllReads z v (λ i p. P i)) (sym e)
      (λ i p t at place w. all i ((reads_sites d charts maps i v).1 (site_of i p Reads w.0, record { chart = t; is = at; point = place; uses = w.1 }, w.2, refl, refl)))),
)

-- one of the sites of a signal is a write of a process where this writes it
pub site_writes : (d : Parts) (charts : List Chart) → AreCharts d charts → (v : ℕ) (sites : List Site) → AreSitesOf charts v sites → (i : ℕ) →
    (((s : Site) × Contains sites s × (s.process ≡ i) × IsWrite s.usage) ↔ Writes d i v)
site_writes d charts maps v sites are i = (
  λ y. let is = (are y.0).0 y.1 in (writes_sites d charts maps i v).1 (y.0, is.0, is.1, y.2, y.3),
  λ w. let y = (writes_sites d charts maps i v).0 w in (y.0, (are y.0).1 (y.1, y.2), y.3, y.4),
)

-- what is one of one process is this one
pub one_alone : (i j : ℕ) → (((Some i ≡ Some j) ⊎ (None ≡ Some j)) ↔ (j ≡ i))
one_alone i j = (λ h. elim h [ inl e ↦ same_Some j i (sym e) | inr e ↦ absurd (none-some j e) ], λ e. inl (ap Some (sym e)))
