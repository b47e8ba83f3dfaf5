-- What a root is given in the first slot.
use Rattle.std.proofs.Common.{◌≡◌, ℕ, ◌<◌, ◌≤◌, ◌⊎◌, inl, inr, Bool, List, length, sym, ◌∙◌, ap, subst, arith}
use Rattle.vs_design.specs.vs_logic4.proofs.Basics.{there}
use Rattle.vs_design.specs.Parts.{Parts}
use Rattle.vs_process.specs.Places.{Todo}
use Rattle.vs_rules.specs.Claims.{Claims, IsRoot, is_wide}
use Rattle.vs_rules.specs.Constants.{bit_of, Gives}
use Rattle.vs_rules.specs.Paths.{IsSlot0, WritesNow, WritesLater, WritesAny, is_zero_time}
use Rattle.vs_rules.specs.Rules.{FiresNone, K10_Signal}
use Rattle.vs_drivers.specs.vs_slots_constants.proofs.ConstantLemmas.{gives_by_places}
use Rattle.vs_drivers.specs.Copies.{IsOnly}
use Rattle.vs_drivers.specs.vs_maps.specs.declared.along.Along.TheVariants.{ZeroTime}
use Rattle.vs_drivers.specs.vs_maps.specs.Ranges.{HasSignal, now_at, later_at}
use Rattle.vs_drivers.specs.vs_maps.specs.Reaches.{Chart}
use Rattle.vs_drivers.specs.vs_maps.proofs.Texts.{from_on, from_back}
use Rattle.vs_drivers.specs.vs_maps.proofs.EachWalk.{writes_now_at, writes_later_at}
use Rattle.vs_rules_of_signals.specs.vs_claims.specs.Facts.{AreCharts}
use Rattle.vs_cert_roots.specs.First.{FirstByPlaces, SiteAt, HasSite, IsSilent, StartsWell}
use Rattle.vs_rules_of_signals.specs.Places.{WritesAt}
use Rattle.vs_cert_roots.proofs.HotLemmas.{writes_numbered, end_writes, either}
use Rattle.vs_rules.proofs.Past.{past_paths}
use Rattle.vs_drivers.specs.vs_maps.proofs.TermLemmas.{HasChart, chart_is}

-- ---- places and points

pub to_point : (d : Parts) (v p : ℕ) (i : ℕ) (t : Chart) (h : HasChart d i t) → WritesAt t p v → WritesAny d (h.text.at p) v
to_point d v p i t h =
    either (HasSignal (now_at t p) v) (HasSignal (later_at t p) v) (WritesNow d (h.text.at p) v) (WritesLater d (h.text.at p) v)
    (writes_now_at d h.process t.stops t.start h.text v p).0 (writes_later_at d h.process t.stops t.start h.text v p).0

pub to_place : (d : Parts) (v p : ℕ) (i : ℕ) (t : Chart) (h : HasChart d i t) → WritesAny d (h.text.at p) v → WritesAt t p v
to_place d v p i t h =
    either (WritesNow d (h.text.at p) v) (WritesLater d (h.text.at p) v) (HasSignal (now_at t p) v) (HasSignal (later_at t p) v)
    (writes_now_at d h.process t.stops t.start h.text v p).1 (writes_later_at d h.process t.stops t.start h.text v p).1

-- a point of the first slot that writes is at a place that does
pub sited : (d : Parts) (wide : Bool) (v i : ℕ) (t : Chart) (h : HasChart d i t) (k : Todo) → IsSlot0 d wide i k → WritesAny d k v → (p : ℕ) × SiteAt wide t v p × (h.text.at p ≡ k)
sited d wide v i t h k early writes =
    let y = from_on d i h.process t.stops t.start h.text h.is (ZeroTime wide) k early in
    (y.0, (y.1, to_place d v y.0 i t h (subst (λ (x : Todo). WritesAny d x v) (sym y.2) writes)), y.2)

pub at_site : (d : Parts) (wide : Bool) (v i : ℕ) (t : Chart) (h : HasChart d i t) (p : ℕ) → SiteAt wide t v p → IsSlot0 d wide i (h.text.at p) × WritesAny d (h.text.at p) v
at_site d wide v i t h p s = (from_back d i h.process t.stops t.start h.text h.is (ZeroTime wide) p s.0, to_point d v p i t h s.1)

-- two places that write and are one point are one place
pub one_place : (d : Parts) (v i : ℕ) (t : Chart) (h : HasChart d i t) (p q : ℕ) → WritesAt t p v → h.text.at p ≡ h.text.at q → p ≡ q
one_place d v i t h p q writes e = let n = writes_numbered d v (h.text.at p) (to_point d v p i t h writes) in h.text.is_map.one p q n.0 n.1 e

-- a process that writes at a point of the first slot has a site
pub has_site : (d : Parts) (charts : List Chart) → AreCharts d charts → (wide : Bool) (v i : ℕ) (k : Todo) → IsSlot0 d wide i k → WritesAny d k v → HasSite wide charts i v
has_site d charts are wide v i k early writes = by (cases i (length d.processes)) where
  cases : (a b : ℕ) → (a < b) ⊎ (b ≤ a)
  cases a b = grind arith

  by : (i < length d.processes) ⊎ (length d.processes ≤ i) → HasSite wide charts i v
  by (inl l) =
      let t = there charts i (subst (λ (n : ℕ). i < n) (sym are.as_many) l) in
      let s = sited d wide v i t.0 (chart_is d charts are i t.0 t.1) k early writes in
      (t.0, t.1, (s.0, s.1))
  by (inr g) = absurd (end_writes d v k (past_paths wide is_zero_time d i k g early) writes)

-- ---- the rule

pub no_root : (d : Parts) (c : Claims) (v : ℕ) → (IsRoot d c v → ⊥) → K10_Signal d c v
no_root d c v not = record { once = λ i j k l root. absurd (not root); now = λ i k root. absurd (not root); constant = λ i k root. absurd (not root) }

pub no_site : (d : Parts) (c : Claims) (charts : List Chart) → AreCharts d charts → (v : ℕ) → ((i : ℕ) → HasSite (is_wide c) charts i v → ⊥) → K10_Signal d c v
no_site d c charts are v none = record {
  once = λ i j k l root early writes other also. absurd (none i (has_site d charts are (is_wide c) v i k early writes));
  now = λ i k root early writes. absurd (none i (has_site d charts are (is_wide c) v i k early (inr writes)));
  constant = λ i k root early writes. absurd (none i (has_site d charts are (is_wide c) v i k early (inl writes)));
}

module _ (d : Parts) (c : Claims) (charts : List Chart) (are : AreCharts d charts) (v j : ℕ) (only : IsOnly (λ i. HasSite (is_wide c) charts i v) j) where
  -- the process of a point that writes is that one
  the_one : (i : ℕ) (k : Todo) → IsSlot0 d (is_wide c) i k → WritesAny d k v → i ≡ j
  the_one i k early writes = only.1 i (has_site d charts are (is_wide c) v i k early writes)

  -- its place is that one
  the_place : (w : StartsWell d c charts j v) (k : Todo) → IsSlot0 d (is_wide c) j k → WritesAny d k v → (chart_is d charts are j w.0 w.1).text.at w.2.0 ≡ k
  the_place w k early writes =
      let h = chart_is d charts are j w.0 w.1 in
      let s = sited d (is_wide c) v j w.0 h k early writes in
      ap h.text.at (sym (w.2.1.1 s.0 s.1)) ∙ s.2

  pub well_keeps : StartsWell d c charts j v → K10_Signal d c v
  well_keeps w = record {
    once = λ i n k l root early writes also writes_too.
        let a = the_one i k early writes in
        let b = the_one n l also writes_too in (
          a ∙ sym b,
          sym (the_place w k (subst (λ (m : ℕ). IsSlot0 d (is_wide c) m k) a early) writes) ∙ the_place w l (subst (λ (m : ℕ). IsSlot0 d (is_wide c) m l) b also) writes_too,
        );
    now = λ i k root early writes.
        let h = chart_is d charts are j w.0 w.1 in
        let a = the_one i k early (inr writes) in
        let e = the_place w k (subst (λ (m : ℕ). IsSlot0 d (is_wide c) m k) a early) (inr writes) in
        w.2.2.0 ((writes_later_at d h.process w.0.stops w.0.start h.text v w.2.0).1 (subst (λ (x : Todo). WritesLater d x v) (sym e) writes));
    constant = λ i k root early writes.
        let h = chart_is d charts are j w.0 w.1 in
        let a = the_one i k early (inl writes) in
        let e = the_place w k (subst (λ (m : ℕ). IsSlot0 d (is_wide c) m k) a early) (inl writes) in
        let g = w.2.2.1 in
        record {
          digit = g.0;
          known = g.1;
          gives = subst (λ (x : Todo). Gives x (bit_of v) g.0) e ((gives_by_places h.process.body w.0.stops w.0.start h.text w.2.0 (bit_of v) g.0).0 g.2);
          silent = subst (λ (m : ℕ). IsSilent d c m v g.0) (sym a) g.3;
        };
  }

  pub keeps_well : IsRoot d c v → K10_Signal d c v → StartsWell d c charts j v
  keeps_well root k10 =
      let s = only.0 in
      let h = chart_is d charts are j s.0 s.1 in
      let p = s.2.0 in
      let here = at_site d (is_wide c) v j s.0 h p s.2.1 in
      let late : HasSignal (later_at s.0 p) v → ⊥ = λ w. k10.now j (h.text.at p) root here.0 ((writes_later_at d h.process s.0.stops s.0.start h.text v p).0 w) in
      let fires = constant_at s.0 h p here.0 s.2.1.1 late in (
        s.0,
        s.1,
        (
          p,
          (
            s.2.1,
            λ q site.
                let other = at_site d (is_wide c) v j s.0 h q site in
                sym (one_place d v j s.0 h p q s.2.1.1 (k10.once j j (h.text.at p) (h.text.at q) root here.0 here.1 other.0 other.1).1),
          ),
          (late, (fires.digit, fires.known, (gives_by_places h.process.body s.0.stops s.0.start h.text p (bit_of v) fires.digit).1 fires.gives, fires.silent)),
        ),
      )
    where
      constant_at : (t : Chart) (h : HasChart d j t) (p : ℕ) → IsSlot0 d (is_wide c) j (h.text.at p) → WritesAt t p v → (HasSignal (later_at t p) v → ⊥) → FiresNone d c v j (h.text.at p)
      constant_at t h p early (inl w) late = k10.constant j (h.text.at p) root early ((writes_now_at d h.process t.stops t.start h.text v p).0 w)
      constant_at t h p early (inr w) late = absurd (late w)

-- where several processes have sites, it is broken
pub several : (d : Parts) (c : Claims) (charts : List Chart) → AreCharts d charts → (v : ℕ) → IsRoot d c v → K10_Signal d c v → (j : ℕ) → HasSite (is_wide c) charts j v → IsOnly (λ i. HasSite (is_wide c) charts i v) j
several d c charts are v root k j s = (
  s,
  λ i z.
      let h = chart_is d charts are j s.0 s.1 in
      let g = chart_is d charts are i z.0 z.1 in
      let a = at_site d (is_wide c) v j s.0 h s.2.0 s.2.1 in
      let b = at_site d (is_wide c) v i z.0 g z.2.0 z.2.1 in
      (k.once i j (g.text.at z.2.0) (h.text.at s.2.0) root b.0 b.1 a.0 a.1).0,
)

pub first_by_places : FirstByPlaces
first_by_places = record {
  none = λ d c charts are v h. no_site d c charts are v h;
  one = λ d c charts are v j only root. (well_keeps d c charts are v j only, keeps_well d c charts are v j only root);
  several = λ d c charts are v j root s k. several d c charts are v root k j s;
}
