use Rattle.std.proofs.Common.{is_some, ap, ◌∙◌}
use Rattle.vs_elab_signals.proofs.stray.has.Goals as goal

pub returns : goal.returns
returns c ns s = c.is_some.ensures ∙ ap is_some c.find.ensures ∙ s c.args.name.now
