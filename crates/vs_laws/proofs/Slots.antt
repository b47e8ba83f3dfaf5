-- Run slots, write slots and firing slots of designs that say the same.
use Rattle.std.proofs.Common.{ℕ, Bool, Option, Some, None, List, subst, inl, inr}
use Rattle.std.specs.List.{Contains}
use Rattle.vs_design.specs.vs_logic4.specs.declared.edge.Edge.{Edge}
use Rattle.vs_design.specs.declared.statement.EventTerm.{EventTerm}
use Rattle.vs_design.specs.Parts.{Parts}
use Rattle.vs_process.specs.Places.{Todo}
use Rattle.vs_process.specs.Steps.{Next}
use Rattle.vs_rules.specs.Claims.{Claims, Kind, block, edges, delays, mixed, kind_of, is_wide}
use Rattle.vs_rules.specs.Constants.{bit_of}
use Rattle.vs_rules.specs.Controls.{list_of}
use Rattle.vs_rules.specs.Paths.{IsPoint}
use Rattle.vs_rules.specs.Slots.{DelayEnds, RunsByDelays, InPhase, Fires, EdgeEnds, RunsByEdges, Ends, HasSlot, HasWriteSlot, FiresOf}
use Rattle.vs_laws.proofs.Clocks.{clock_as}
use Rattle.vs_laws.proofs.Cones.{texts_control}
use Rattle.vs_laws.proofs.Copies.{seen_as}
use Rattle.vs_laws.proofs.Designs.{Twins, back}
use Rattle.vs_laws.proofs.Done.{writes_now_as, writes_any_as, gives_digit_as}
use Rattle.vs_laws.proofs.Named.{writer_as, kinds_same, lists_as, root_of_as}
use Rattle.vs_laws.proofs.Todos.{AlikeNext, both_on, both_after, both_wait, todo_turned}
use Rattle.vs_laws.proofs.Walks.{TwinOf, runs_as, runs_point, term_as}

-- ---- of a process of kind delay

pub delay_ends_as : {d d' : Parts} → Twins d d' → (i : ℕ) (lists : List (List ℕ)) (next next' : Next) (r : ℕ) → AlikeNext next next' → DelayEnds d i lists next r → DelayEnds d' i lists next' r
delay_ends_as t i lists _ _ r (both_on l l' k) h = absurd h
delay_ends_as t i lists _ _ r (both_after number ticks l l' k) h = subst (λ (ns : List ℕ). Contains (list_of ns lists number) r) (texts_control t i) h
delay_ends_as t i lists _ _ r (both_wait number terms l l' k) h = absurd h

pub runs_by_delays_as : {d d' : Parts} → Twins d d' → (wide : Bool) (i : ℕ) (lists : List (List ℕ)) (k : Todo) (r : ℕ) → RunsByDelays d wide i lists k r → TwinOf k (λ (m : Todo). RunsByDelays d' wide i lists m r)
runs_by_delays_as {d} {d'} t wide i lists k r h =
    runs_as t wide i (DelayEnds d i lists) (DelayEnds d' i lists) (λ next next' s n e. delay_ends_as t i lists next next' s n e) k r h

-- ---- firing slots

in_phase_as : {d d' : Parts} → Twins d d' → (c : Claims) (root : ℕ) (edge : Edge) (r : ℕ) → InPhase d c root edge r → InPhase d' c root edge r
in_phase_as t c root edge r h = λ digit offset half clock e. h digit offset half (clock_as (back t) c root digit offset half clock) e

pub fires_as : {d d' : Parts} → Twins d d' → (c : Claims) (term : EventTerm) (r : ℕ) → Fires d c term r → Fires d' c term r
fires_as {d} {d'} t c term r h =
    let q = runs_by_delays_as t (is_wide c) h.writer h.lists h.at r h.runs in
    record {
      root = h.root;
      writer = h.writer;
      lists = h.lists;
      at = q.to;
      is_root = root_of_as t c h.root term.range.signal h.is_root;
      is_writer = writer_as t c h.root h.writer h.is_writer;
      kind = lists_as t c h.writer h.lists h.kind;
      point = runs_point d' (is_wide c) h.writer (DelayEnds d' h.writer h.lists) q.to r q.is;
      writes = writes_any_as d d' h.at q.to h.root q.same h.writes;
      runs = q.is;
      counted = λ digit g. h.counted digit (gives_digit_as (bit_of h.root) digit q.to h.at (todo_turned h.at q.to q.same) g);
      edge = h.edge;
      seen = seen_as t (is_wide c) term h.edge h.seen;
      in_phase = in_phase_as t c h.root h.edge r h.in_phase;
    }

-- ---- of any process

pub edge_ends_as : {d d' : Parts} → Twins d d' → (c : Claims) (next next' : Next) (r : ℕ) → AlikeNext next next' → EdgeEnds d c next r → EdgeEnds d' c next' r
edge_ends_as t c _ _ r (both_on l l' k) h = absurd h
edge_ends_as t c _ _ r (both_after number ticks l l' k) h = absurd h
edge_ends_as t c _ _ r (both_wait number terms l l' k) h = (h.0, h.1, fires_as t c h.0 r h.2)

pub runs_by_edges_as : {d d' : Parts} → Twins d d' → (c : Claims) (i : ℕ) (k : Todo) (r : ℕ) → RunsByEdges d c i k r → TwinOf k (λ (m : Todo). RunsByEdges d' c i m r)
runs_by_edges_as {d} {d'} t c i k r h =
    runs_as t (is_wide c) i (EdgeEnds d c) (EdgeEnds d' c) (λ next next' s n e. edge_ends_as t c next next' s n e) k r h

ends_as : {d d' : Parts} → Twins d d' → (c : Claims) (i : ℕ) (kind : Option Kind) (next next' : Next) (r : ℕ) → AlikeNext next next' → Ends d c i kind next r → Ends d' c i kind next' r
ends_as t c i None next next' r n h = absurd h
ends_as t c i (Some (block start)) next next' r n h = absurd h
ends_as t c i (Some edges) next next' r n h = edge_ends_as t c next next' r n h
ends_as t c i (Some (delays lists)) next next' r n h = delay_ends_as t i lists next next' r n h
ends_as t c i (Some (mixed lists)) next next' r n (inl h) = inl (delay_ends_as t i lists next next' r n h)
ends_as t c i (Some (mixed lists)) next next' r n (inr h) = inr (edge_ends_as t c next next' r n h)

pub has_slot_as : {d d' : Parts} → Twins d d' → (c : Claims) (i : ℕ) (k : Todo) (r : ℕ) → HasSlot d c i k r → TwinOf k (λ (m : Todo). HasSlot d' c i m r)
has_slot_as {d} {d'} t c i k r h =
    runs_as t (is_wide c) i (Ends d c i (kind_of d c i)) (Ends d' c i (kind_of d' c i))
    (λ next next' s n e. ends_as t c i (kind_of d' c i) next next' s n (subst (λ (kind : Option Kind). Ends d c i kind next s) (kinds_same t c i) e)) k r h

pub slot_point : (d : Parts) (c : Claims) (i : ℕ) (k : Todo) (r : ℕ) → HasSlot d c i k r → IsPoint d i k
slot_point d c i k r h = runs_point d (is_wide c) i (Ends d c i (kind_of d c i)) k r h

pub write_slot_as : {d d' : Parts} → Twins d d' → (c : Claims) (u r : ℕ) → HasWriteSlot d c u r → HasWriteSlot d' c u r
write_slot_as {d} {d'} t c u r h =
    let q = has_slot_as t c h.writer h.at r h.slot in
    record {
      writer = h.writer;
      at = q.to;
      is = writer_as t c u h.writer h.is;
      point = slot_point d' c h.writer q.to r q.is;
      writes = writes_now_as d d' h.at q.to u q.same h.writes;
      slot = q.is;
    }

pub fires_of_as : {d d' : Parts} → Twins d d' → (c : Claims) (i root r : ℕ) → FiresOf d c i root r → FiresOf d' c i root r
fires_of_as t c i root r h = record {
  term = h.term;
  has = term_as t i h.term h.has;
  is_root = root_of_as t c root h.term.range.signal h.is_root;
  fires = fires_as t c h.term r h.fires;
}
