use Rattle.std.proofs.Common.{ℕ, ◌+◌, take, sym, subst}
use Rattle.std.specs.declared.vec.Vec.{Vec}
use Rattle.std.specs.declared.alloc.Global.{Global}
use Rattle.vs_graph.specs.Reached.{AreMarkedNow}
use Rattle.vs_graph.proofs.Spread.{all_marked, more_marked, none_marked, one_marked, one_was_marked}
use Rattle.vs_graph.proofs.walks.mark_all.Goals as goal
use Rattle.vs_graph.proofs.walks.mark_all.Goals.{then-mark+in_ok-push, else-mark}

pub loop-node-init : goal.loop-node-init
loop-node-init c = none_marked c.args.marks.now.items c.args.todo.now.items

pub loop-node-preserved : goal.loop-node-preserved
loop-node-preserved c =
    let nodes = c.args.nodes.now in
    let n = c.loop-node.node-index in
    let old = c.args.marks.now.items in
    let before = c.args.todo.now.items in
    let marks = c.mark.new.marks.items in
    elim c.if-mark.branch [
      | then-mark+in_ok-push w ↦ subst (λ (t : Vec ℕ Global). AreMarkedNow (take (n + 1) nodes) old before marks t.items) (sym w.todo-is)
          (more_marked nodes n _ old marks before w.push.new.self.items c.loop-node-test.true
          (one_marked (take n nodes) old c.loop-node.marks.items marks before c.loop-node.todo.items w.push.new.self.items _ w.if-mark.ensures.fresh w.in_ok-push.ensures.items
          c.loop-node.invariant))
      | else-mark w ↦ subst (λ (t : Vec ℕ Global). AreMarkedNow (take (n + 1) nodes) old before marks t.items) (sym w.todo-is)
          (more_marked nodes n _ old marks before c.loop-node.todo.items c.loop-node-test.true
          (one_was_marked (take n nodes) old c.loop-node.marks.items marks before c.loop-node.todo.items _ w.if-mark.ensures.old c.loop-node.invariant))
    ]

pub returns : goal.returns
returns c =
    all_marked c.args.nodes.now c.loop-node.node-index c.args.marks.now.items c.loop-node.marks.items c.args.todo.now.items c.loop-node.todo.items c.loop-node-test.false c.loop-node.invariant
