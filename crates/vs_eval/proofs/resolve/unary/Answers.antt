use Rattle.std.proofs.Common.{◌∙◌, ap}
use Rattle.vs_eval.specs.declared.node.Node.{Node}
use Rattle.vs_eval.specs.declared.node.Node.TheVariants as v
use Rattle.vs_eval.specs.Nodes.{planes_in, unary_planes}
use Rattle.vs_eval.proofs.MeantLemmas.{unary_means}
use Rattle.vs_eval.proofs.NodeLemmas.{in_unary}
use Rattle.vs_eval.proofs.resolve.unary.Goals as goal

pub returns : goal.returns
returns c = λ signals values m.
    unary_means signals values c.args.x.0 (v.Unary c.args.operator c.args.x.1 c.in_ok-new.field-0) c.args.x.1 c.args.operator c.unary_size.result.width
    (λ store time.
    in_unary store time c.args.operator c.args.x.1 c.in_ok-new.field-0
    ∙ ap (λ (n : Node). unary_planes c.args.operator c.args.x.1 (planes_in n store time)) c.in_ok-new.ensures.ok)
    c.unary_size.ensures m
