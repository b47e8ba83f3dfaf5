use Rattle.std.proofs.Common.{◌+◌, ℕ, take, sym, ◌∙◌, subst}
use Rattle.std.specs.declared.vec.Vec.{Vec}
use Rattle.std.specs.declared.alloc.Global.{Global}
use Rattle.vs_drivers.proofs.ConeLemmas.{AreChosen, none_chosen, more_chosen, same_chosen, all_chosen}
use Rattle.vs_drivers.proofs.cones.chosen.Goals as goal
use Rattle.vs_drivers.proofs.cones.chosen.Goals.{then-is_marked+in_ok-push, else-is_marked}

pub loop-u-init : goal.loop-u-init
loop-u-init c = none_chosen c.args.marks.now c.new-all.result.items c.new-all.ensures.items

pub loop-u-preserved : goal.loop-u-preserved
loop-u-preserved c =
    let among = c.args.among.now in
    let marks = c.args.marks.now in
    let n = c.loop-u.u-index in
    elim c.if-is_marked.branch [
      | then-is_marked+in_ok-push w ↦ subst (λ (m : Vec ℕ Global). AreChosen (take (n + 1) among) marks m.items) (sym w.all-is)
          (more_chosen among marks n c.loop-u.all.items w.push.new.self.items c.loop-u-test.true c.loop-u.invariant (sym c.is_marked.ensures ∙ w.if-is_marked.true) w.in_ok-push.ensures.items)
      | else-is_marked w ↦ subst (λ (m : Vec ℕ Global). AreChosen (take (n + 1) among) marks m.items) (sym w.all-is)
          (same_chosen among marks n c.loop-u.all.items c.loop-u-test.true c.loop-u.invariant (sym c.is_marked.ensures ∙ w.if-is_marked.false))
    ]

pub returns : goal.returns
returns c = all_chosen c.args.among.now c.args.marks.now c.loop-u.u-index c.loop-u.all.items c.loop-u-test.false c.loop-u.invariant
