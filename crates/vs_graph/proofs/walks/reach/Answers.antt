use Rattle.std.proofs.Common.{ℕ, ◌++◌, ◌<◌, false, List, length, sym, ◌∙◌, ap, subst, arith}
use Rattle.std.proofs.lemmas.List.{length-replicate}
use Rattle.vs_graph.specs.Reached.{AreMarkedNow}
use Rattle.vs_graph.proofs.Spread.{clear_none, spread_done, spread_first, spread_on, spread_whole}
use Rattle.vs_graph.proofs.walks.reach.Goals as goal

pub loop-node-init : goal.loop-node-init
loop-node-init g c =
    let clear = c.in_ok-marks.ensures.items_if_clones_equal (λ y e. e) in
    let told = c.in_ok-mark_all.ensures in
    let marked = subst (λ (t : List ℕ). AreMarkedNow c.args.seeds.now c.in_ok-marks.marks.items t c.mark_all.new.marks.items c.mark_all.new.todo.items) c.new-todo.ensures.items told in record {
      long = told.long ∙ ap length clear ∙ length-replicate c.count.result false ∙ c.count.ensures;
      spread = spread_first (g.G.Graph.nexts c.args.graph.now) c.args.seeds.now c.mark_all.new.todo.items c.in_ok-marks.marks.items c.mark_all.new.marks.items
          (clear_none c.count.result c.in_ok-marks.marks.items clear) marked;
    }

pub loop-node-preserved : goal.loop-node-preserved
loop-node-preserved g c =
    let told = c.in_ok-mark_all-2.ensures in
    let node = c.in-Some.node in
    let nexts = c.in_ok-put_nexts.ensures ∙ ap (λ (l : List ℕ). l ++ g.G.Graph.nexts c.args.graph.now node) c.clear.ensures.items in
    let marked = subst (λ (l : List ℕ). AreMarkedNow l c.loop-node.marks.items c.pop.new.self.items c.mark_all-in-Some.new.marks.items c.mark_all-in-Some.new.todo.items)
    (c.deref.ensures.value ∙ nexts) told in record {
      long = told.long ∙ c.loop-node.invariant.long;
      spread = spread_on (g.G.Graph.nexts c.args.graph.now) c.args.seeds.now c.loop-node.todo.items c.pop.new.self.items c.mark_all-in-Some.new.todo.items c.loop-node.marks.items
          c.mark_all-in-Some.new.marks.items node c.in-Some.ensures.items marked c.loop-node.invariant.spread;
    }

pub returns-clause-exact : goal.returns-clause-exact
returns-clause-exact g c k within =
    let inv = spread_done (g.G.Graph.nexts c.args.graph.now) c.args.seeds.now c.loop-node.marks.items c.loop-node.todo.items (omega (arith, c.in_default.ensures.cases.0)) c.loop-node.invariant.spread in (
      λ m. inv.sound k m,
      λ r. spread_whole (g.G.Graph.nexts c.args.graph.now) c.args.seeds.now c.loop-node.marks.items inv
          (λ s h. subst (λ n. s < n) (sym c.loop-node.invariant.long) (c.requires s h))
          (λ a b h. subst (λ n. b < n) (sym c.loop-node.invariant.long) (g.met.G.Graph.inside c.args.graph.now a b h)) k r,
    )
