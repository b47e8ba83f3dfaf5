use Rattle.std.proofs.Common.{◌≡◌, true, false, rules}
use Rattle.vs_widths.specs.select_passes.Places.{selects_meaning}
use Rattle.vs_widths.specs.passes.Aims.{takes_aim}
use Rattle.vs_widths.proofs.AimLemmas.{reads_refused, taken_aim}
use Rattle.vs_widths.proofs.aiming.bound_aim.Goals as goal

pub returns-then-not-takes_aim : goal.returns-then-not-takes_aim
returns-then-not-takes_aim c =
    let out : takes_aim c.args.how c.in_ok-aim.aim ≡ false = search rules in
    reads_refused c.args.how c.args.binding (selects_meaning c.args.selects.items) c.in_ok-aim.aim (c.in_ok-aim.ensures _ c.in_ok-place.ensures) out

pub returns : goal.returns
returns c =
    let in' : takes_aim c.args.how c.in_ok-aim.aim ≡ true = search rules in
    taken_aim c.args.how c.args.binding (selects_meaning c.args.selects.items) c.in_ok-aim.aim c.requires.taken (c.in_ok-aim.ensures _ c.in_ok-place.ensures) in'
