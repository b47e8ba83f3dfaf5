use Rattle.std.proofs.Common.{ap, arith}
use Rattle.std.proofs.lemmas.List.{drop_all}
use Rattle.vs_scopes.specs.Overrides.{header_parameters}
use Rattle.vs_scopes.specs.passes.Ends.{read_end}
use Rattle.vs_scopes.proofs.PassLemmas.{ended}
use Rattle.vs_scopes.proofs.parameters.header_parameters.Goals as goal

pub returns : goal.returns
returns c = ended _ _ _ (ap (header_parameters (read_end c.loop-parameter.before)) (drop_all c.loop-parameter.parameter-index c.args.header.now (omega arith))) c.loop-parameter.invariant
