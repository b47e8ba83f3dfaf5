use Rattle.std.proofs.Common.{sym, ◌∙◌, arith}
use Rattle.vs_scopes.specs.scopes_passes.Parts.{read_port, read_end}
use Rattle.vs_elab_signals.proofs.ConnectLemmas.{wrong_none}
use Rattle.vs_elab_signals.proofs.connecting.has_wrong_connection.Goals as goal

pub returns : goal.returns
returns c = sym (c.loop-place.invariant ∙ wrong_none read_port read_end c.args.ports.now c.args.ends.now c.loop-place.place (omega (arith, c.loop-place-test.false, c.min-count.ensures)))
