use Rattle.std.proofs.Common.{◌⊎◌, sym, ◌∙◌, ap, subst}
use Rattle.std.proofs.lemmas.Bool.{false≢true}
use Rattle.std.specs.List.{Contains}
use Rattle.std.specs.declared.vec.Vec.{Vec}
use Rattle.std.specs.declared.alloc.Global.{Global}
use Rattle.vs_design.specs.declared.range.BitRange.{BitRange}
use Rattle.vs_cert_blocks.specs.Early.{IsUnseen}
use Rattle.vs_cert_blocks.proofs.EarlyLemmas.{unseen_more}
use Rattle.vs_cert_blocks.proofs.early.push_unseen.Goals as goal
use Rattle.vs_cert_blocks.proofs.early.push_unseen.Goals.{then-not-has+in_ok-push, else-not-has}

pub loop-range-preserved : goal.loop-range-preserved
loop-range-preserved c = elim c.if-not-has.branch [
  | then-not-has+in_ok-push w ↦
      unseen_more c.args.ranges.now c.args.seen.now c.loop-range.range-index _ c.args.out.now.items c.loop-range.out.items c.if-not-has.out.items c.loop-range-test.true
      c.loop-range.invariant (ap (λ (v : Vec BitRange Global). v.items) w.out-is ∙ w.in_ok-push.ensures.items)
      (λ h. false≢true (sym w.if-not-has.true ∙ c.has.ensures.1 h))
  | else-not-has w ↦
      subst (λ (l : Vec BitRange Global). (r : BitRange) → Contains l.items r → (Contains c.args.out.now.items r ⊎ IsUnseen c.args.ranges.now c.args.seen.now r)) (sym w.out-is) c.loop-range.invariant
]
