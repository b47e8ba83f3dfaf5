-- Walks once a way of some sort has been gone.
use Rattle.std.proofs.Common.{◌≡◌, ℕ, suc, ◌<◌, ◌↔◌, ◌&&◌, Bool, false, IsTrue, List, [], ◌∷◌, length, slice_index_or, refl, sym, subst}
use Rattle.std.specs.List.{Contains}
use Rattle.std.proofs.lemmas.List.{length-map}
use Rattle.vs_process.specs.declared.stops.TextMap as h
use Rattle.vs_process.specs.Stops.{LeadsIn, stop_at, stop_statement, stops_tos, stops_next, stop_view}
use Rattle.vs_graph.specs.Reached.{Reached, AreReached, begins, goes_on}
use Rattle.vs_maps.specs.declared.along.Along.{Along}
use Rattle.vs_maps.specs.Reaches.{Chart, IsPlace, chart_of, is_turned, places, statement_passes, statement_turns, stops_along, stops_steps, tos_by_turn}
use Rattle.vs_maps.specs.Inside.{steps_in}
use Rattle.vs_maps.specs.Walks.{WalkFrom, AreMarked, AreSeeds, IsBefore}
use Rattle.vs_maps.proofs.Join.{by_turn_in, only, head_in, tail_in, true_if}

-- ---- places

reached_below : (n : ℕ) (nexts : ℕ → List ℕ) (seeds : List ℕ) → ((a b : ℕ) → Contains (nexts a) b → b < n) → ((s : ℕ) → Contains seeds s → s < n) → (k : ℕ) →
    Reached nexts seeds k → k < n
reached_below n nexts seeds inside here _ (begins a h) = here a h
reached_below n nexts seeds inside here _ (goes_on a b h c) = inside a b c

-- a point is a place
pub place_below : (n : ℕ) (t : Chart) → t.start < n → LeadsIn n t.stops → (p : ℕ) → IsPlace t p → p < n
place_below n t starts leads p h =
    reached_below n (stops_steps t.stops) (t.start ∷ []) (steps_in n t.stops leads) (λ q m. subst (λ (x : ℕ). x < n) (only t.start q m) starts) p h

pub places_in : (x : h.TextMap) (t : Chart) → chart_of x ≡ t → (chart_of x).start < suc (length x.stops.items) → LeadsIn (suc (length x.stops.items)) (chart_of x).stops →
    (p : ℕ) → IsPlace t p → p < places t
places_in x t is starts leads =
    subst (λ (t : Chart). (p : ℕ) → IsPlace t p → p < places t) is
    (λ p h. subst (λ (n : ℕ). p < suc n) (sym (length-map x.stops.items stop_view)) (place_below (suc (length x.stops.items)) (chart_of x) starts leads p h))

-- ---- walks

-- from a point the ways that count lead to points
walked : (t : Chart) (along : Along) (to : ℕ) → IsPlace t to → (p : ℕ) → Reached (stops_along along t.stops) (to ∷ []) p → IsPlace t p
walked t along to h _ (begins a c) = subst (IsPlace t) (only to a c) h
walked t along to h _ (goes_on a b r c) =
    let first = is_turned along && statement_turns (stop_statement (stop_at t.stops a)) in
    goes_on a b (walked t along to h a r) (tail_in (stops_next t.stops a) b (stops_tos t.stops a)
    (by_turn_in first (stops_tos t.stops a) b (true_if (statement_passes along (stop_statement (stop_at t.stops a))) (tos_by_turn first (stops_tos t.stops a)) b c).1))

-- from the start they do
pub start_walked : (t : Chart) (along : Along) (p : ℕ) → Reached (stops_along along t.stops) (t.start ∷ []) p → IsPlace t p
start_walked t along p h = walked t along t.start (begins t.start (head_in t.start [])) p h

pub walk_place : (t : Chart) (along : Along) (sort : ℕ → Type 0) (p : ℕ) → WalkFrom t along sort p → IsPlace t p
walk_place t along sort p w = walked t along w.to (goes_on w.from w.to w.is_place (tail_in (stops_next t.stops w.from) w.to (stops_tos t.stops w.from) w.leads)) p w.reached

-- from one of some seeds
one_seed : (nexts : ℕ → List ℕ) (seeds : List ℕ) (p : ℕ) → Reached nexts seeds p → (s : ℕ) × Contains seeds s × Reached nexts (s ∷ []) p
one_seed nexts seeds _ (begins a h) = (a, h, begins a (head_in a []))
one_seed nexts seeds _ (goes_on a b h c) = let y = one_seed nexts seeds a h in (y.0, y.1, goes_on a b y.2 c)

all_seeds : (nexts : ℕ → List ℕ) (seeds : List ℕ) (s : ℕ) → Contains seeds s → (p : ℕ) → Reached nexts (s ∷ []) p → Reached nexts seeds p
all_seeds nexts seeds s h _ (begins a c) = begins a (subst (Contains seeds) (only s a c) h)
all_seeds nexts seeds s h _ (goes_on a b r c) = goes_on a b (all_seeds nexts seeds s h a r) c

-- what is reached from the seeds of a sort
pub from_seeds : (t : Chart) (along : Along) (sort : ℕ → Type 0) (seeds : List ℕ) → AreSeeds t sort seeds → (p : ℕ) →
    (Reached (stops_along along t.stops) seeds p ↔ WalkFrom t along sort p)
from_seeds t along sort seeds all p = (
  λ r. let y = one_seed (stops_along along t.stops) seeds p r in let s = (all y.0).0 y.1 in
      record { from = s.0; to = y.0; is_place = s.1; starts = s.2; leads = s.3; reached = y.2 },
  λ w. all_seeds (stops_along along t.stops) seeds w.to ((all w.to).1 (w.from, w.is_place, w.starts, w.leads)) p w.reached,
)

-- ---- by marks

-- where the ways of marked points lead
pub seeds_are : (t : Chart) (sort : ℕ → Type 0) (n : ℕ) (marks : List Bool) (seeds : List ℕ) → ((p : ℕ) → IsPlace t p → p < n) → AreMarked sort n marks →
    ((r : ℕ) → (Contains seeds r ↔ ((i : ℕ) × (i < n) × ((IsPlace t i × IsTrue (slice_index_or marks i false)) × Contains (stops_tos t.stops i) r)))) → AreSeeds t sort seeds
seeds_are t sort n marks seeds within marked all s = (
  λ c. let y = (all s).0 c in (y.0, y.2.0.0, (marked y.0 y.1).0 y.2.0.1, y.2.1),
  λ y. (all s).1 (y.0, within y.0 y.1, ((y.1, (marked y.0 (within y.0 y.1)).1 y.2), y.3)),
)

pub seeds_told : (has : ℕ → ℕ → Type 0) (seeds read : List ℕ) (m n : ℕ) → read ≡ seeds → m ≡ n →
    ((r : ℕ) → (Contains seeds r ↔ ((i : ℕ) × (i < m) × has i r))) → (r : ℕ) → (Contains read r ↔ ((i : ℕ) × (i < n) × has i r))
seeds_told has seeds read m n e f all r = (
  λ c. let y = (all r).0 (subst (λ l. Contains l r) e c) in (y.0, subst (λ k. y.0 < k) f y.1, y.2),
  λ y. subst (λ l. Contains l r) (sym e) ((all r).1 (y.0, subst (λ k. y.0 < k) (sym f) y.1, y.2)),
)

pub seeds_in : (t : Chart) (sort : ℕ → Type 0) (n : ℕ) (seeds : List ℕ) → LeadsIn n t.stops → AreSeeds t sort seeds → (s : ℕ) → Contains seeds s → s < n
seeds_in t sort n seeds leads all s c = let y = (all s).0 c in leads.ways y.0 s y.3

pub walks_are : (t : Chart) (along : Along) (sort : ℕ → Type 0) (n : ℕ) (seeds : List ℕ) (marks : List Bool) → AreSeeds t sort seeds →
    AreReached (stops_along along t.stops) seeds n marks → AreMarked (WalkFrom t along sort) n marks
walks_are t along sort n seeds marks all reached k less =
    let f = from_seeds t along sort seeds all k in
    let r = reached k less in (λ m. f.0 (r.0 m), λ w. r.1 (f.1 w))

-- what a walk leads to from a place of a sort
pub before_from : (t : Chart) (along : Along) (sort : ℕ → Type 0) (q : ℕ) (tos : List ℕ) → IsPlace t q → sort q → tos ≡ stops_tos t.stops q → (r : ℕ) →
    (Reached (stops_along along t.stops) tos r ↔ IsBefore t along sort q r)
before_from t along sort q tos place here are r = from_seeds t along (λ x. (x ≡ q) × sort x) tos all r where
  all : AreSeeds t (λ x. (x ≡ q) × sort x) tos
  all s = (
    λ c. (q, place, (refl, here), subst (λ l. Contains l s) are c),
    λ y. subst (λ l. Contains l s) (sym are) (subst (λ p. Contains (stops_tos t.stops p) s) y.2.0 y.3),
  )
