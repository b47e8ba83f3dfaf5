use Rattle.vs_widths.proofs.LinkingLemmas.{alike_measured}
use Rattle.vs_widths.proofs.linking.alike.Goals as goal

pub returns : goal.returns
returns c =
    alike_measured c.args.left c.args.right c.args.operator c.joined_shape-shape.result c.in_ok-form.form c.requires.sizing c.requires.left c.requires.right c.joined_shape-shape.ensures.found c.in_ok-form.ensures
