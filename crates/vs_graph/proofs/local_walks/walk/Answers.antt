use Rattle.std.proofs.Common.{◌<◌, true, length, sym, ◌∙◌, ap, subst, arith, ◌++◌}
use Rattle.std.specs.List.{Contains}
use Rattle.std.proofs.lemmas.List.{length-set}
use Rattle.vs_graph.proofs.Sweep.{Sweep, complete, dropped, visited, done, owes_less}
use Rattle.vs_graph.proofs.Marks.{at_first, none_found, one_found, same_found, clear_again}
use Rattle.vs_graph.proofs.local_walks.walk.Goals as goal

pub loop-node-init : goal.loop-node-init
loop-node-init g c = record {
  long = c.requires.marks.0;
  sweep = at_first (g.G.Graph.nexts c.args.graph.now) c.args.seeds.now c.in_ok-todo.todo.items c.args.marks.now.items (g.G.Graph.count c.args.graph.now) c.requires.marks c.in_ok-todo.ensures.items;
  found = none_found (g.G.Graph.count c.args.graph.now) c.args.marks.now.items c.new-found.result.items c.requires.marks c.new-found.ensures.items;
}

pub loop-node-preserved : goal.loop-node-preserved
loop-node-preserved g c = let m = c.if-mark.ensures.old in record {
  long = ap length m.0 ∙ c.loop-node.invariant.long;
  sweep = subst (λ l. Sweep (g.G.Graph.nexts c.args.graph.now) c.args.seeds.now l c.pop.new.self.items) (sym m.0)
      (dropped (g.G.Graph.nexts c.args.graph.now) c.args.seeds.now c.loop-node.marks.items c.loop-node.todo.items c.pop.new.self.items c.in-Some.node c.in-Some.ensures.items m.1
      c.loop-node.invariant.sweep);
  found = same_found c.loop-node.marks.items c.mark.new.marks.items c.loop-node.found.items m.0 c.loop-node.invariant.found;
}

pub loop-node-preserved-in-Continue-branch-3 : goal.loop-node-preserved-in-Continue-branch-3
loop-node-preserved-in-Continue-branch-3 g c = let m = c.if-mark.ensures.fresh in record {
  long = ap length m.2 ∙ length-set c.loop-node.marks.items c.in-Some.node true ∙ c.loop-node.invariant.long;
  sweep = subst (λ t. Sweep (g.G.Graph.nexts c.args.graph.now) c.args.seeds.now c.mark.new.marks.items t) (sym c.in_ok-put_nexts.ensures)
      (subst (λ l. Sweep (g.G.Graph.nexts c.args.graph.now) c.args.seeds.now l (c.pop.new.self.items ++ g.G.Graph.nexts c.args.graph.now c.in-Some.node)) (sym m.2)
      (visited (g.G.Graph.nexts c.args.graph.now) c.args.seeds.now c.loop-node.marks.items c.loop-node.todo.items c.pop.new.self.items c.in-Some.node c.in-Some.ensures.items m.0
      c.loop-node.invariant.sweep));
  found = one_found c.loop-node.marks.items c.mark.new.marks.items c.loop-node.found.items c.push.new.self.items c.in-Some.node m.0 m.2 c.in_ok-push.ensures.items c.loop-node.invariant.found;
}

pub loop-node-smaller-in-Continue-branch-3 : goal.loop-node-smaller-in-Continue-branch-3
loop-node-smaller-in-Continue-branch-3 g c = let m = c.if-mark.ensures.fresh in
    owes_less (g.G.Graph.nexts c.args.graph.now) c.loop-node.marks.items c.mark.new.marks.items c.loop-node.todo.items c.put_nexts.new.todo.items c.pop.new.self.items c.in-Some.node
    c.in-Some.ensures.items c.in_ok-put_nexts.ensures m.0 m.1 m.2

pub returns-clause-clear : goal.returns-clause-clear
returns-clause-clear g c =
    clear_again (g.G.Graph.count c.args.graph.now) c.loop-node.marks.items c.unmark_all.new.marks.items c.loop-node.found.items c.loop-node.invariant.long c.loop-node.invariant.found
    c.unmark_all.ensures.len c.unmark_all.ensures.kept
    (λ k h. c.unmark_all.ensures.gone k (subst (λ l. Contains l k) (sym c.deref.ensures.value) h))

pub returns-clause-exact : goal.returns-clause-exact
returns-clause-exact g c k =
    let inv = done (g.G.Graph.nexts c.args.graph.now) c.args.seeds.now c.loop-node.marks.items c.loop-node.todo.items (omega (arith, c.in_default.ensures.cases.0)) c.loop-node.invariant.sweep in (
      λ h. inv.sound k ((c.loop-node.invariant.found k).1 h),
      λ r. (c.loop-node.invariant.found k).0 (complete (g.G.Graph.nexts c.args.graph.now) c.args.seeds.now c.loop-node.marks.items inv
          (λ s h. subst (λ n. s < n) (sym c.loop-node.invariant.long) (c.requires.seeds s h))
          (λ a b h. subst (λ n. b < n) (sym c.loop-node.invariant.long) (g.met.G.Graph.inside c.args.graph.now a b h)) k r),
    )
