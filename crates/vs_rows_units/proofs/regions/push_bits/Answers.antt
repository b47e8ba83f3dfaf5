use Rattle.std.proofs.lemmas.Nat.{pow_pos}
use Rattle.vs_rows_units.proofs.regions.push_bits.Goals as goal

pub invariant_of-bits : goal.invariant_of-bits
invariant_of-bits g c = record {
  fit = record {
    some = c.args.spot.now.sized.0;
    most = c.args.spot.now.sized.1;
    value_below = pow_pos c.args.spot.now.width;
    unknown_below = pow_pos c.args.spot.now.width;
  };
}
