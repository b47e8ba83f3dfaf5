use Rattle.std.proofs.Common.{◌<◌, ◌+◌, Bool, true, false, List, length, ◌∙◌, ap, arith, sym, subst}
use Rattle.std.specs.declared.vec.Vec.{Vec}
use Rattle.std.specs.declared.alloc.Global.{Global}
use Rattle.std.proofs.lemmas.Bool.{false≢true}
use Rattle.std.proofs.lemmas.List.{length-replicate}
use Rattle.vs_design.specs.declared.signal.Signal.{Signal}
use Rattle.vs_drivers.proofs.DriverLemmas.{AreNamed, named_first, named_more, named_same, named_all, mark_at}
use Rattle.vs_drivers.proofs.drivers.Drivers.cone.Goals as goal
use Rattle.vs_drivers.proofs.drivers.Drivers.cone.Goals.{then-index, else-index}

pub loop-n-init : goal.loop-n-init
loop-n-init c =
    let all = c.in_ok-marks.ensures.items_if_clones_equal (λ y e. e) in
    named_first c.args.self.now c.args.ranges.now _ c.in_ok-marks.marks.items c.mark_all.new.marks.items all
    (ap length all ∙ length-replicate _ _ ∙ ap (λ (l : List Signal). length l) c.signals.ensures) c.mark_all.ensures

pub loop-n-preserved : goal.loop-n-preserved
loop-n-preserved c =
    let x = c.args.self.now in
    let rs = c.args.ranges.now in
    let n = c.loop-n.n in
    let marks = c.in_ok-passed.passed.items in
    let within : n < length marks = omega (arith, c.loop-n-test.true, c.len-n-end.ensures) in
    elim c.if-index.branch [
      | then-index w ↦ subst (λ (m : Vec Bool Global). AreNamed x rs (n + 1) m.items) (sym w.marks-is)
          (named_more x rs w.needs.result.now n c.loop-n.marks.items w.mark_all-then-index.new.marks.items
          ((c.in_ok-passed.ensures.exact n).0 (mark_at marks n c.index.result.now true within c.index.ensures w.if-index.true)) w.needs.ensures c.loop-n.invariant
          w.mark_all-then-index.ensures)
      | else-index w ↦ subst (λ (m : Vec Bool Global). AreNamed x rs (n + 1) m.items) (sym w.marks-is)
          (named_same x rs n c.loop-n.marks.items
          (λ p. false≢true (sym (mark_at marks n c.index.result.now false within c.index.ensures w.if-index.false) ∙ (c.in_ok-passed.ensures.exact n).1 p)) c.loop-n.invariant)
    ]

pub returns-clause-exact : goal.returns-clause-exact
returns-clause-exact c =
    named_all c.args.self.now c.args.ranges.now c.loop-n.n c.loop-n.marks.items (omega (arith, c.loop-n-test.false, c.len-n-end.ensures, c.in_ok-passed.ensures.len)) c.loop-n.invariant
