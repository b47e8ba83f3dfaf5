use Rattle.vs_program.proofs.Inputs.{kept_of}
use Rattle.vs_program.proofs.input.read_source.Goals as goal

pub returns : goal.returns
returns g c = record { kept = kept_of (g.R.Read.remaining c.args.input) c.in_ok-source.source.items c.in_ok-source.ensures }
