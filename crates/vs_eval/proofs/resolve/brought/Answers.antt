use Rattle.std.proofs.Common.{◌∙◌, ap}
use Rattle.vs_design.specs.vs_logic4.specs.Vectors.{resized}
use Rattle.vs_eval.specs.declared.node.Node.{Node}
use Rattle.vs_eval.specs.Nodes.{planes_in}
use Rattle.vs_eval.specs.PlanesOf.{planes_of, digits_of}
use Rattle.vs_eval.proofs.MeantLemmas.{kept_means, resized_means}
use Rattle.vs_eval.proofs.NodeLemmas.{in_resized}
use Rattle.vs_eval.proofs.resolve.brought.Goals as goal

pub returns-then-keeps_planes : goal.returns-then-keeps_planes
returns-then-keeps_planes c = λ signals values m.
    kept_means signals values c.args.x.0 c.args.x.1.width c.args.to.width c.args.to.signed (c.keeps_planes.ensures c.if-keeps_planes.true) m

pub returns : goal.returns
returns c = λ signals values m.
    resized_means signals values c.args.x.0 _ c.args.x.1.width c.args.to.width c.args.to.signed
    (λ store time.
    in_resized store time _ c.in_ok-new.field-0
    ∙ ap (λ (n : Node). planes_of (resized c.args.to.signed c.args.to.width (digits_of c.args.x.1.width (planes_in n store time)))) c.in_ok-new.ensures.ok)
    m
