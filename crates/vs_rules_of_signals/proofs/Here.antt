-- The points of one process, as the places of its map.
use Rattle.std.proofs.Common.{◌≡◌, ℕ, ◌<◌, ◌↔◌, inl, inr, Bool, true, false, IsTrue, Option, Some, None, List, slice_get, slice_index_or, refl, sym, ◌∙◌, ap, subst, arith}
use Rattle.std.proofs.lemmas.Bool.{false≢true}
use Rattle.std.proofs.lemmas.Option.{slice_get_cases, slice_get_within, same_Some}
use Rattle.vs_design.specs.declared.design.Process.{Process}
use Rattle.vs_design.specs.Parts.{Parts}
use Rattle.vs_process.specs.Places.{Todo}
use Rattle.vs_process.specs.Stops.{IsText}
use Rattle.vs_maps.specs.vs_rules.specs.Claims.{Name, names_process}
use Rattle.vs_maps.specs.vs_rules.specs.Paths.{IsPoint, IsSlot0, IsLate, WritesNow, WritesLater, is_plain}
use Rattle.vs_claims.specs.vs_maps.specs.declared.along.Along.TheVariants.{Any, ZeroTime}
use Rattle.vs_claims.specs.vs_maps.specs.Ranges.{HasSignal, now_at, later_at}
use Rattle.vs_claims.specs.vs_maps.specs.Reaches.{Chart, IsPlace, InSlot0, places}
use Rattle.vs_claims.specs.vs_maps.specs.Walks.{AreMarked, HasControl, InLate}
use Rattle.vs_claims.specs.vs_maps.proofs.EachPoint.{all_points}
use Rattle.vs_claims.specs.vs_maps.proofs.EachWalk.{walk_path, path_walk, late_sorts, writes_now_at, writes_later_at}
use Rattle.vs_claims.specs.vs_maps.proofs.Texts.{place_back, from_on, from_back}
use Rattle.vs_claims.specs.vs_maps.proofs.WalkLemmas.{place_below, start_walked, walk_place}
use Rattle.vs_claims.specs.Facts.{AreCharts}

-- a process that is there, with its map
pub record Here (d : Parts) (charts : List Chart) (i : ℕ) : Type 0 where
  pub process : Process
  pub is : slice_get d.processes i ≡ Some process
  pub chart : Chart
  pub at : slice_get charts i ≡ Some chart
  pub text : IsText process.body chart.stops chart.start

pub here : (d : Parts) (charts : List Chart) → AreCharts d charts → (i : ℕ) (q : Process) → slice_get d.processes i ≡ Some q → Here d charts i
here d charts maps i q is = elim ((slice_get_cases charts i).1) [
  | inl x ↦ record { process = q; is = is; chart = x.0; at = x.2; text = maps.each i q x.0 is x.2 }
  | inr past ↦ absurd (omega (arith, past.0, maps.as_many, slice_get_within d.processes i q is))
]

no_process : (name : Option Name) → names_process name None ≡ true → ⊥
no_process None h = false≢true h
no_process (Some n) h = false≢true h

-- who is named is there
pub named_here : (d : Parts) (charts : List Chart) → AreCharts d charts → (name : Option Name) (i : ℕ) → names_process name (slice_get d.processes i) ≡ true → Here d charts i
named_here d charts maps name i h = elim ((slice_get_cases d.processes i).1) [
  | inl x ↦ here d charts maps i x.0 x.2
  | inr past ↦ absurd (no_process name (sym (ap (names_process name) past.1) ∙ h))
]

-- what is asked of the points of one process, of all
pub of_one : (d : Parts) (charts : List Chart) (i : ℕ) (h : Here d charts i) (has : Chart → ℕ → Type 0) (Q : ℕ → Type 0) →
    (((j p : ℕ) (t : Chart) → slice_get charts j ≡ Some t → IsPlace t p → has t p → j ≡ i → Q p) ↔ ((p : ℕ) → IsPlace h.chart p → has h.chart p → Q p))
of_one d charts i h has Q = (
  λ all p place w. all i p h.chart h.at place w refl,
  λ one j p t at place w e.
      let same : t ≡ h.chart = same_Some t h.chart (sym at ∙ ap (slice_get charts) e ∙ h.at) in
      one p (subst (λ (x : Chart). IsPlace x p) same place) (subst (λ (x : Chart). has x p) same w),
)

pub now_here : (d : Parts) (charts : List Chart) (i : ℕ) (h : Here d charts i) (v p : ℕ) → (HasSignal (now_at h.chart p) v ↔ WritesNow d (h.text.at p) v)
now_here d charts i h v p = writes_now_at d h.process h.chart.stops h.chart.start h.text v p

pub later_here : (d : Parts) (charts : List Chart) (i : ℕ) (h : Here d charts i) (v p : ℕ) → (HasSignal (later_at h.chart p) v ↔ WritesLater d (h.text.at p) v)
later_here d charts i h v p = writes_later_at d h.process h.chart.stops h.chart.start h.text v p

-- ---- of all points of a process

pub never : (d : Parts) (charts : List Chart) (i : ℕ) (h : Here d charts i) (has : Chart → ℕ → Type 0) (W : Todo → Type 0) → ((p : ℕ) → (has h.chart p ↔ W (h.text.at p))) →
    (((p : ℕ) → IsPlace h.chart p → has h.chart p → ⊥) ↔ ((k : Todo) → IsPoint d i k → W k → ⊥))
never d charts i h has W same =
    let a = all_points d i h.process h.chart.stops h.chart.start h.text h.is (λ k. W k → ⊥) in (
      λ all. a.0 (λ p place w. all p place ((same p).1 w)),
      λ all p place w. a.1 all p place ((same p).0 w),
    )

-- ---- late ones

pub never_late : (d : Parts) (charts : List Chart) (i : ℕ) (h : Here d charts i) (has : Chart → ℕ → Type 0) (W : Todo → Type 0) → ((p : ℕ) → (has h.chart p ↔ W (h.text.at p))) →
    (((p : ℕ) → IsPlace h.chart p → has h.chart p → InLate h.chart p → ⊥) ↔ ((k : Todo) → IsPoint d i k → W k → IsLate d i k → ⊥))
never_late d charts i h has W same = (
  λ all k point w late.
      let y = path_walk d i h.process h.chart.stops h.chart.start h.text h.is Any (HasControl h.chart) (λ k next. is_plain next ≡ false)
      (late_sorts h.process h.chart.stops h.chart.start h.text) k late in
      all y.0 (walk_place h.chart Any (HasControl h.chart) y.0 y.1) ((same y.0).1 (subst W (sym y.2) w)) y.1,
  λ all p place w late.
      all (h.text.at p) (place_back d i h.process h.chart.stops h.chart.start h.text h.is p place) ((same p).0 w)
      (walk_path d i h.process h.chart.stops h.chart.start h.text h.is Any (HasControl h.chart) (λ k next. is_plain next ≡ false)
      (late_sorts h.process h.chart.stops h.chart.start h.text) p late),
)

pub below : (d : Parts) (charts : List Chart) (i : ℕ) (h : Here d charts i) (p : ℕ) → IsPlace h.chart p → p < places h.chart
below d charts i h p place = place_below (places h.chart) h.chart h.text.starts_in h.text.leads_in p place

pub never_marked : (d : Parts) (charts : List Chart) (i : ℕ) (h : Here d charts i) (has : Chart → ℕ → Type 0) (holds : ℕ → Type 0) (marks : List Bool) →
    AreMarked holds (places h.chart) marks →
    (((p : ℕ) → IsPlace h.chart p → has h.chart p → IsTrue (slice_index_or marks p false) → ⊥) ↔ ((p : ℕ) → IsPlace h.chart p → has h.chart p → holds p → ⊥))
never_marked d charts i h has holds marks marked = (
  λ all p place w x. all p place w ((marked p (below d charts i h p place)).1 x),
  λ all p place w m. all p place w ((marked p (below d charts i h p place)).0 m),
)

-- ---- those of the first slot

pub never_slot0 : (d : Parts) (charts : List Chart) (wide : Bool) (i : ℕ) (h : Here d charts i) (has : Chart → ℕ → Type 0) (W : Todo → Type 0) → ((p : ℕ) → (has h.chart p ↔ W (h.text.at p))) →
    (((p : ℕ) → IsPlace h.chart p → has h.chart p → p < places h.chart → InSlot0 wide h.chart p → ⊥) ↔ ((l : Todo) → IsSlot0 d wide i l → W l → ⊥))
never_slot0 d charts wide i h has W same = (
  λ all l slot w.
      let y = from_on d i h.process h.chart.stops h.chart.start h.text h.is (ZeroTime wide) l slot in
      let place = start_walked h.chart (ZeroTime wide) y.0 y.1 in
      all y.0 place ((same y.0).1 (subst W (sym y.2) w)) (below d charts i h y.0 place) y.1,
  λ all p place w less slot.
      all (h.text.at p) (from_back d i h.process h.chart.stops h.chart.start h.text h.is (ZeroTime wide) p slot) ((same p).0 w),
)
