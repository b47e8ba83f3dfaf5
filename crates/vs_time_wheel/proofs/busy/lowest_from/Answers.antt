use Rattle.std.proofs.Common.{◌<◌, ◌/◌, ◌^◌, arith}
use Rattle.vs_time_wheel.proofs.Flags.{none_from, lowest_from_is}
use Rattle.vs_time_wheel.proofs.busy.lowest_from.Goals as goal

pub returns-then-rest-eq0 : goal.returns-then-rest-eq0
returns-then-rest-eq0 c = λ i above within. none_from c.args.word c.args.low c.if-rest-eq0.true i above

pub returns : goal.returns
returns c =
    let some : 0 < c.args.word / 2 ^ c.args.low = omega (arith, c.if-rest-eq0.false) in
    let least = lowest_from_is c.args.word c.args.low c.ranges.word.fits c.requires some in
    (least.above, least.within, least.here, least.none_before)
