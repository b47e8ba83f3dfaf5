use Rattle.vs_widths.proofs.ExcerptLemmas.{excerpt_as}
use Rattle.vs_widths.proofs.fixing.excerpt.Goals as goal

pub returns : goal.returns
returns c = excerpt_as c.args.digits c.args.extent c.in_ok-form.form c.in_ok-new.field-0 c.in_ok-new.ensures.ok c.in_ok-form.ensures
