use Rattle.vs_widths.proofs.LinkingLemmas.{shift_measured}
use Rattle.vs_widths.proofs.linking.shifted.Goals as goal

pub returns : goal.returns
returns c =
    shift_measured c.args.left c.args.right c.args.operator c.in_ok-amount.amount c.in_ok-form.form c.requires.sizing c.requires.left c.requires.right c.in_ok-amount.ensures c.in_ok-form.ensures
