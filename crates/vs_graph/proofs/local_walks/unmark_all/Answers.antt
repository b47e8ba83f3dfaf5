use Rattle.std.proofs.Common.{◌∙◌, refl, arith}
use Rattle.vs_graph.proofs.Marks.{one_gone, all_gone}
use Rattle.vs_graph.proofs.local_walks.unmark_all.Goals as goal

pub loop-node-init : goal.loop-node-init
loop-node-init c = record {
  long = refl;
  kept = λ k m. m;
  gone = λ j h m. absurd (omega (arith, h));
}

pub loop-node-preserved : goal.loop-node-preserved
loop-node-preserved c = record {
  long = c.unmark.ensures.len ∙ c.loop-node.invariant.long;
  kept = λ k m. c.loop-node.invariant.kept k (c.unmark.ensures.kept k m);
  gone = one_gone c.loop-node.marks.items c.unmark.new.marks.items c.args.nodes.now c.loop-node.node-index c.unmark.ensures.kept c.unmark.ensures.gone c.loop-node.invariant.gone;
}

pub returns-clause-len : goal.returns-clause-len
returns-clause-len c = c.loop-node.invariant.long

pub returns-clause-kept : goal.returns-clause-kept
returns-clause-kept c = c.loop-node.invariant.kept

pub returns-clause-gone : goal.returns-clause-gone
returns-clause-gone c = all_gone c.loop-node.marks.items c.args.nodes.now c.loop-node.node-index c.loop-node-test.false c.loop-node.invariant.gone
