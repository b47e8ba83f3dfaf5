use Rattle.vs_vcd_writing.proofs.DigitLemmas.{places_lowest, places_others}
use Rattle.vs_vcd_writing.proofs.value.kept_places.Goals as goal

pub returns : goal.returns
returns c = record {
  lowest = places_lowest _;
  others = places_others c.args.value c.args.unknown;
}
