use Rattle.std.proofs.Common.{map}
use Rattle.vs_scopes.specs.Reads.{read_piece}
use Rattle.vs_scopes.specs.scopes_passes.Parts.{read_port, read_parameter}
use Rattle.vs_elab_constants.specs.passes.Early.{bound_by}
use Rattle.vs_elab_constants.proofs.EarlyLemmas.{early_is}
use Rattle.vs_elab_constants.proofs.early.early_names.Goals as goal

pub returns : goal.returns
returns c =
    early_is (bound_by c.args.signals) (map read_parameter c.args.parameters.now) (map read_port c.args.ports.now) (map read_piece c.args.pieces.now) c.new-names.result c.add_parameters.new.names c.add_ports.new.names c.add_all_signals.new.names
    c.add_all_genvars.new.names c.add_all_inner.new.names c.new-names.ensures c.in_ok-add_parameters.ensures c.in_ok-add_ports.ensures c.in_ok-add_all_signals.ensures c.in_ok-add_all_genvars.ensures c.in_ok-add_all_inner.ensures
