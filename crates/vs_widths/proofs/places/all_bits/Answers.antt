use Rattle.std.proofs.Common.{refl}
use Rattle.vs_widths.proofs.PlaceLemmas.{whole_word}
use Rattle.vs_widths.proofs.places.all_bits.Goals as goal

pub returns : goal.returns
returns c = whole_word c.args.shape _ c.zero.result refl refl refl refl refl c.zero.ensures
