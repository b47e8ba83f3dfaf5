use Rattle.std.proofs.Common.{arith}
use Rattle.vs_cert_blocks.proofs.EarlyLemmas.{noted_all, noted_more}
use Rattle.vs_cert_blocks.proofs.early.noted.Goals as goal

pub loop-range-init : goal.loop-range-init
loop-range-init c = record { kept = λ v h. h; noted = λ k q l is. absurd (omega (arith, l)) }

pub loop-range-preserved : goal.loop-range-preserved
loop-range-preserved c =
    noted_more c.args.ranges.now c.loop-range.range-index _ c.args.seen c.loop-range.all c.put.new.self c.loop-range-test.true c.loop-range.invariant
    c.in_ok-put.ensures

pub returns : goal.returns
returns c = noted_all c.args.ranges.now c.loop-range.range-index c.args.seen c.loop-range.all (omega arith) c.loop-range.invariant
