use Rattle.std.proofs.Common.{◌≡◌, true, false, List, ◌++◌, subst}
use Rattle.std.specs.Prelude.{IfSome, filter, if◌then◌else◌}
use Rattle.vs_design.specs.Traces.{Slot, AreRising}
use Rattle.vs_run_regions.specs.vs_process.specs.Executions.{after, slots, trace, is_by, is_complete}
use Rattle.vs_vcd_writing.specs.Shown.{HasSize, Shows, slot_at}
use Rattle.vs_vcd_writing.specs.Text.{vcd_header, vcd_slots, vcd_text}
use Rattle.vs_vcd_writing.specs.Values.{shown_value}
use Rattle.vs_kernel.specs.Runs.{text_so_far}
use Rattle.vs_kernel.proofs.RunsLemmas.{all_kept}
use Rattle.vs_kernel.proofs.ShowsLemmas.{shown_sized}
use Rattle.vs_kernel.proofs.laws.dumps_show_slot_ends.Goals as goal

pub returns : goal.returns
returns c =
    λ grain d moves until names bound legal stops time signal within.
    let kept : filter (is_by until) (slots d moves) ≡ slots d moves = all_kept until d moves stops in
    let rises : AreRising (filter (is_by until) (slots d moves)) = c.times_rise.ensures grain d moves until legal bound in
    shown_sized d time signal (slots d moves) (λ s. Shows (text_so_far d moves until) d time signal (shown_value s.store signal)) within (c.stores_are_sized.ensures.slots d moves)
    (elim (is_complete until (after d moves))
    as (λ b. IfSome (slot_at time (slots d moves)) (λ (s : Slot). HasSize d s.store signal → Shows (if b then vcd_text d (trace d moves until) until else vcd_header d ++ vcd_slots d (slots d moves)) d time signal (shown_value s.store signal))) [
      | true ↦
          subst (λ (ss : List Slot). IfSome (slot_at time ss) (λ (s : Slot). HasSize d s.store signal → Shows (vcd_text d (trace d moves until) until) d time signal (shown_value s.store signal))) kept
          (c.shows_values_at_slot_ends.ensures.whole d (trace d moves until) until time signal names rises within)
      | false ↦ c.shows_values_at_slot_ends.ensures.begun d (slots d moves) time signal names (subst AreRising kept rises) within
    ])
