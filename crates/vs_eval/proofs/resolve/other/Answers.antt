use Rattle.std.proofs.Common.{◌∙◌, ap}
use Rattle.vs_eval.specs.declared.node.Node.TheOpen as f
use Rattle.vs_eval.specs.declared.node.Node.TheVariants as v
use Rattle.vs_eval.specs.PlanesOf.{planes_of}
use Rattle.vs_eval.proofs.NodeLemmas.{node_layer}
use Rattle.vs_eval.proofs.resolve.other.Goals as goal

pub returns : goal.returns
returns c = λ signals long. record {
  sized = long;
  same = λ store time is.
      node_layer (v.Other c.in_ok-copy.copy) store time (f.Other c.in_ok-copy.copy) (v.rolls-Other c.in_ok-copy.copy) ∙ ap planes_of (c.in_ok-copy.ensures store time);
}
