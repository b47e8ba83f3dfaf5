use Rattle.std.proofs.Common.{refl}
use Rattle.vs_widths.proofs.PlaceLemmas.{placed_in_signal}
use Rattle.vs_widths.proofs.places.in_signal.Goals as goal

pub returns : goal.returns
returns c = placed_in_signal c.args.signal _ c.zero.result c.args.extent refl refl refl refl refl c.zero.ensures
