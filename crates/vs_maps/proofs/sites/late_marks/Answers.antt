use Rattle.std.proofs.Common.{arith, subst}
use Rattle.vs_maps.specs.Reaches.{Chart, places}
use Rattle.vs_maps.specs.Walks.{AreMarked, InLate}
use Rattle.vs_maps.proofs.LateLemmas.{none_so_far, one_more, all_so_far}
use Rattle.vs_maps.proofs.sites.late_marks.Goals as goal

pub loop-i-init : goal.loop-i-init
loop-i-init c = none_so_far c.args.tables.now c.new-table.result.items c.new-table.ensures.items

pub loop-i-preserved : goal.loop-i-preserved
loop-i-preserved c =
    one_more c.args.tables.now c.loop-i.table.items c.push.new.self.items c.in_ok-marks.marks c.loop-i.i c.index-tables-i.result c.loop-i.invariant
    c.loop-i-test.true c.in_ok-push.ensures.items
    (subst (λ (t : Chart). AreMarked (InLate t) (places t) c.in_ok-marks.marks.items) c.index-tables-i.is c.in_ok-marks.ensures.exact)

pub returns : goal.returns
returns c =
    all_so_far c.args.tables.now c.loop-i.table.items c.loop-i.i (omega (arith, c.loop-i-test.false, c.loop-i.auto.i-end)) c.loop-i.invariant
