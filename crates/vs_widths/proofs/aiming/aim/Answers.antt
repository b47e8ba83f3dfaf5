use Rattle.std.proofs.Common.{subst}
use Rattle.vs_widths.specs.select_passes.Places.{Fixes}
use Rattle.vs_widths.proofs.AimLemmas.{chosen_aim}
use Rattle.vs_widths.proofs.aiming.aim.Goals as goal

pub returns-in_ok-low-in-None : goal.returns-in_ok-low-in-None
returns-in_ok-low-in-None c =
    let place = c.args.chosen_bits.now in
    let s = c.selection.ensures in
    chosen_aim place c.selection.result c.in_ok-word-in-None.word c.in_ok-low-in-None.low c.in_ok-word-in-None.ensures c.in_ok-low-in-None.ensures s.signal s.words s.bits s.width
    (subst (Fixes place) c.in-None.is c.in_ok-slice.ensures)
