use Rattle.std.proofs.Common.{refl, arith}
use Rattle.vs_time_wheel.proofs.Bags.{SameBag-trans}
use Rattle.vs_time_wheel.proofs.Fronts.{none_up_to, without_none}
use Rattle.vs_time_wheel.proofs.upcoming.catch_up.Goals as goal

pub returns-then-is_before-clause-same_bag : goal.returns-then-is_before-clause-same_bag
returns-then-is_before-clause-same_bag g c =
    SameBag-trans c.take_due.ensures.rest (without_none c.args.now c.args.calendar.now.bag
    (none_up_to c.args.now c.args.least c.args.calendar.now.bag c.requires.least (c.if-is_before.ensures.0 refl) c.args.now (omega arith)))
