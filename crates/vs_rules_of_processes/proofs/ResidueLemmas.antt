-- Lists that are closed, and the rule on residues.
use Rattle.std.proofs.Common.{◌≡◌, ℕ, ◌+◌, ◌%◌, ◌↔◌, inl, inr, List, length, slice_get, Some, refl, sym, ◌∙◌, ap, subst}
use Rattle.std.specs.List.{Contains}
use Rattle.vs_design.specs.declared.design.Process.{Process}
use Rattle.vs_design.specs.Parts.{Parts}
use Rattle.vs_process.specs.Places.{Todo}
use Rattle.vs_process.specs.Steps.{Next, on, after, wait}
use Rattle.vs_process.specs.Ways.{Pause, none, delay, event, next_by}
use Rattle.vs_process.specs.Stops.{Stop, stop_at, stop_statement, stops_tos, IsText}
use Rattle.vs_rules.specs.Claims.{Claims, WaitsForTimes, is_wide}
use Rattle.vs_rules.specs.Controls.{controls_of, list_of}
use Rattle.vs_rules.specs.Points.{Goes}
use Rattle.vs_rules.specs.Rules.{K8}
use Rattle.vs_rules.specs.Slots.{DelayEnds, HasSlot}
use Rattle.vs_maps.specs.declared.along.Along.TheVariants.{ZeroTime}
use Rattle.vs_maps.specs.Reaches.{Chart, pause_at, pause_of}
use Rattle.vs_maps.proofs.Texts.{place_of, place_back, from_on, from_back, step_on, step_back, control_on}
use Rattle.vs_rules_of_processes.specs.vs_slots.proofs.RunLemmas.{one_lists, run_back, run_on, slot_by_delays, slot_by_edges, slot_parts}
use Rattle.vs_rules_of_processes.specs.Closed.{PauseIsClosed, AreClosed}

abbrev pause_in : Next → Pause
pause_in (on l) = none
pause_in (after n u l) = delay n u
pause_in (wait n ts l) = event n ts

-- the pause of a way
pub paused : (pause : Pause) (l : Todo) → pause_in (next_by pause l) ≡ pause
paused none l = refl
paused (delay n u) l = refl
paused (event n ts) l = refl

pub pause_as : (pause : Pause) (l : Todo) (next : Next) → next_by pause l ≡ next → pause ≡ pause_in next
pause_as pause l next e = sym (paused pause l) ∙ ap pause_in e

-- a place with a pause has a way
has_way : (body : Process) (stops : List Stop) (start : ℕ) (t : IsText body.body stops start) (p : ℕ) (pause : Pause) → pause_of (stop_statement (stop_at stops p)) ≡ pause → (to : ℕ) →
    Contains (stops_tos stops p) to → Goes (t.at p) (next_by pause (t.at to))
has_way body stops start t p pause e to h = subst (λ (x : Pause). Goes (t.at p) (next_by x (t.at to))) e (step_back body.body stops start t p to h)

-- lists that are closed are those of a process that keeps the rule
pub closed_is : (d : Parts) (c : Claims) (i : ℕ) (q : Process) (stops : List Stop) (start : ℕ) → slice_get d.processes i ≡ Some q → IsText q.body stops start →
    (lists : List (List ℕ)) → WaitsForTimes d c i lists →
    (((length lists ≡ length (controls_of d i)) × AreClosed d c i (record { stops = stops; start = start }) (list_of (controls_of d i) lists)) ↔ K8 d c i)
closed_is d c i q stops start is t lists has = (λ h. there h.0 h.1, λ m. (m.one_each lists has, λ p. closes m p (pause_at chart p) refl)) where
  chart : Chart
  chart = record { stops = stops; start = start }

  list : ℕ → List ℕ
  list = list_of (controls_of d i) lists

  closed_at : AreClosed d c i chart list → (p : ℕ) (pause : Pause) → pause_at chart p ≡ pause → PauseIsClosed d c i chart list p pause
  closed_at closed p pause e = subst (λ (x : Pause). PauseIsClosed d c i chart list p x) e (closed p)

  -- from a run slot of a point
  from : AreClosed d c i chart list → (other : List (List ℕ)) (k l : Todo) (number ticks r : ℕ) → WaitsForTimes d c i other → HasSlot d c i k r →
      Goes k (after number ticks l) → DelayEnds d i other (after number ticks l) ((r + ticks) % c.modulus)
  from closed other k l number ticks r also slot goes =
      let p = run_on d c i q stops start t is k r slot in
      let s = step_on q.body stops start t p.0 (after number ticks l) (subst (λ (z : Todo). Goes z (after number ticks l)) (sym p.2) goes) in
      subst (λ (x : List (List ℕ)). Contains (list_of (controls_of d i) x number) ((r + ticks) % c.modulus)) (one_lists d c i lists other has also)
      ((closed_at closed p.0 (delay number ticks) (pause_as (pause_of (stop_statement (stop_at stops p.0))) (t.at s.0) (after number ticks l) s.2)).1 r p.1)

  there : length lists ≡ length (controls_of d i) → AreClosed d c i chart list → K8 d c i
  there long closed = record {
    no_event = λ k l number terms delay_kind point goes.
        let p = place_of d i q stops start t is k point in
        let s = step_on q.body stops start t p.0 (wait number terms l) (subst (λ (z : Todo). Goes z (wait number terms l)) (sym p.2) goes) in
        closed_at closed p.0 (event number terms) (pause_as (pause_of (stop_statement (stop_at stops p.0))) (t.at s.0) (wait number terms l) s.2) delay_kind p.1;
    one_each = λ other also. subst (λ (x : List (List ℕ)). length x ≡ length (controls_of d i)) (one_lists d c i lists other has also) long;
    from_start = λ other k l number ticks also early goes some.
        let p = from_on d i q stops start t is (ZeroTime (is_wide c)) k early in
        let s = step_on q.body stops start t p.0 (after number ticks l) (subst (λ (z : Todo). Goes z (after number ticks l)) (sym p.2) goes) in
        subst (λ (x : List (List ℕ)). Contains (list_of (controls_of d i) x number) (ticks % c.modulus)) (one_lists d c i lists other has also)
        ((closed_at closed p.0 (delay number ticks) (pause_as (pause_of (stop_statement (stop_at stops p.0))) (t.at s.0) (after number ticks l) s.2)).0 p.1 some);
    from_residue = λ other k l number ticks r also runs goes. from closed other k l number ticks r also (slot_by_delays d c i other k r also runs) goes;
    from_edge = λ other k l number ticks r also runs goes. from closed other k l number ticks r (inr also) (slot_by_edges d c i k r (inr (other, also)) runs) goes;
  }

  closes : K8 d c i → (p : ℕ) (pause : Pause) → pause_at chart p ≡ pause → PauseIsClosed d c i chart list p pause
  closes m p none e = tt
  closes m p (delay number ticks) e =
      let w = control_on q.body stops start t p (delay number ticks) e refl in
      let goes = has_way q stops start t p (delay number ticks) e w.0 w.1 in (
        λ early some. m.from_start lists (t.at p) (t.at w.0) number ticks has (from_back d i q stops start t is (ZeroTime (is_wide c)) p early) goes some,
        λ r run. elim (slot_parts d c i lists (t.at p) r has (run_back d c i q stops start t is p r run)) [
          | inl y ↦ m.from_residue lists (t.at p) (t.at w.0) number ticks r has y goes
          | inr y ↦ m.from_edge lists (t.at p) (t.at w.0) number ticks r y.0 y.1 goes
        ],
      )
  closes m p (event number terms) e = λ kind place.
      let w = control_on q.body stops start t p (event number terms) e refl in
      m.no_event (t.at p) (t.at w.0) number terms kind (place_back d i q stops start t is p place) (has_way q stops start t p (event number terms) e w.0 w.1)
