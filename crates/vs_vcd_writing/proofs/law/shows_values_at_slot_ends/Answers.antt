use Rattle.std.proofs.Common.{IfSome, ◌++◌, [], refl, subst, append-nil}
use Rattle.vs_design.specs.Traces.{Slot}
use Rattle.vs_vcd_writing.specs.Codes.{shown}
use Rattle.vs_vcd_writing.specs.Values.{shown_value}
use Rattle.vs_vcd_writing.specs.Text.{vcd_header, vcd_slots, last_time, end_time, end_lines}
use Rattle.vs_vcd_writing.specs.Shown.{HasSize, Shows, slot_at}
use Rattle.vs_vcd_writing.proofs.OneLineLemmas.{end_one_line}
use Rattle.vs_vcd_writing.proofs.ChangeLemmas.{silent_end, silent_nothing}
use Rattle.vs_vcd_writing.proofs.LawLemmas.{shows_text}
use Rattle.vs_vcd_writing.proofs.law.shows_values_at_slot_ends.Goals as goal

pub returns-clause-whole : goal.returns-clause-whole
returns-clause-whole c =
    λ d trace until time signal names rising within.
    let last = last_time (shown d) trace.slots in
    let end = end_time trace until in
    shows_text d (end_lines last end) trace.slots time signal (end_one_line last end) (silent_end last end) names rising within

pub returns-clause-begun : goal.returns-clause-begun
returns-clause-begun c =
    λ d slots time signal names rising within.
    subst (λ l. IfSome (slot_at time slots) (λ (s : Slot). HasSize d s.store signal → Shows l d time signal (shown_value s.store signal))) (append-nil (vcd_header d ++ vcd_slots d slots))
    (shows_text d [] slots time signal refl silent_nothing names rising within)
