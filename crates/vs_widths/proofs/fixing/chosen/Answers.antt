use Rattle.std.proofs.Common.{subst, ap, ◌∙◌}
use Rattle.vs_widths.specs.select_passes.Places.{Fixes}
use Rattle.vs_widths.proofs.FixingLemmas.{select_chosen}
use Rattle.vs_widths.proofs.fixing.chosen.Goals as goal

pub returns-in_ok-selection-in-None : goal.returns-in_ok-selection-in-None
returns-in_ok-selection-in-None c =
    let place = c.args.chosen_bits in
    let s = c.selection-selection.ensures in
    let o = c.in_ok-selection-in-None.ensures.ok in
    select_chosen place c.in_ok-selection-in-None.selection c.in_ok-word-in-None.word c.in_ok-low-in-None.low c.in_ok-word-in-None.ensures c.in_ok-low-in-None.ensures (ap (λ z. z.signal) o ∙ s.signal) (ap (λ z. z.words) o ∙ s.words) (ap (λ z. z.bits) o ∙ s.bits) (ap (λ z. z.width) o ∙ s.width)
    (subst (Fixes place) c.in-None.is c.in_ok-slice.ensures)
