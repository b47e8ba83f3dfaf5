use Rattle.std.proofs.Common.{refl}
use Rattle.vs_widths.proofs.PlaceLemmas.{zero_is}
use Rattle.vs_widths.proofs.places.zero.Goals as goal

pub returns : goal.returns
returns c = zero_is _ _ refl refl c.from_digit.ensures
