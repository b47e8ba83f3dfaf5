use Rattle.std.proofs.Common.{[], ◌∷◌, length, ap, ◌∙◌, arith}
use Rattle.std.proofs.lemmas.List.{length-replicate}
use Rattle.vs_design.specs.vs_logic4.specs.declared.digit.Digit.TheVariants.{X}
use Rattle.vs_vcd_writing.proofs.room.LineRoom.new.Goals as goal

pub returns : goal.returns
returns c = record {
  words = ap length c.in_ok-unknown.ensures ∙ length-replicate c.args.count (X ∷ []);
  widths = omega (arith, c.in_ok-vec.ensures.len, c.in_ok-vec.field-0.ok.0);
  values = omega (arith, c.in_ok-vec-2.ensures.len, c.in_ok-vec-2.field-0.ok.0);
  unknowns = omega (arith, c.in_ok-vec-3.ensures.len, c.in_ok-vec-3.field-0.ok.0);
}
