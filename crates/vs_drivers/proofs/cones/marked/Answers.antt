use Rattle.std.proofs.Common.{◌+◌, ℕ, sym, subst}
use Rattle.std.specs.declared.vec.Vec.{Vec}
use Rattle.std.specs.declared.alloc.Global.{Global}
use Rattle.vs_drivers.proofs.ConeLemmas.{AreSet, none_set, more_set, same_set, all_set}
use Rattle.vs_drivers.proofs.cones.marked.Goals as goal
use Rattle.vs_drivers.proofs.cones.marked.Goals.{then-marks-u+in_ok-push, else-marks-u}

pub loop-u-init : goal.loop-u-init
loop-u-init c = none_set c.args.marks.now c.new-all.result.items c.new-all.ensures.items

pub loop-u-preserved : goal.loop-u-preserved
loop-u-preserved c =
    let marks = c.args.marks.now in
    let n = c.loop-u.u in
    elim c.if-marks-u.branch [
      | then-marks-u+in_ok-push w ↦ subst (λ (m : Vec ℕ Global). AreSet marks (n + 1) m.items) (sym w.all-is)
          (more_set marks n c.loop-u.all.items w.push.new.self.items c.loop-u.invariant w.if-marks-u.true w.in_ok-push.ensures.items)
      | else-marks-u w ↦ subst (λ (m : Vec ℕ Global). AreSet marks (n + 1) m.items) (sym w.all-is) (same_set marks n c.loop-u.all.items c.loop-u.invariant w.if-marks-u.false)
    ]

pub returns : goal.returns
returns c = all_set c.args.marks.now c.loop-u.u c.loop-u.all.items c.loop-u-test.false c.loop-u.invariant
