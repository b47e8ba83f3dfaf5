use Rattle.vs_vcd_writing.proofs.DigitLemmas.{kept_count}
use Rattle.vs_vcd_writing.proofs.value.kept_digits.Goals as goal

pub returns : goal.returns
returns c = let k = kept_count c.args.value c.kept_places-places.result c.value_plane.result c.unknown_plane.result c.width.result c.value_plane.ensures c.unknown_plane.ensures c.width.ensures.digits c.width.ensures.some c.width.ensures.most c.kept_places-places.ensures.lowest c.kept_places-places.ensures.others in record { most = k.0; kept = k.1 }
