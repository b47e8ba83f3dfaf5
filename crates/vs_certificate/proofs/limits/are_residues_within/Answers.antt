use Rattle.std.proofs.Common.{map, sym, ◌∙◌, arith}
use Rattle.serde_json.specs.View.{items_of}
use Rattle.vs_certificate.specs.JsonValue.{whole_value}
use Rattle.vs_certificate.specs.Limits.{rise}
use Rattle.vs_certificate.proofs.Images.{over_most, within_most, rise-images_past}
use Rattle.vs_certificate.proofs.limits.are_residues_within.Goals as goal

pub returns-then-residues-most : goal.returns-then-residues-most
returns-then-residues-most c =
    let rs = c.args.residues.now in
    over_most whole_value rs c.args.most (rise 0 c.args.modulus (items_of (map whole_value rs))) (omega arith)

pub returns : goal.returns
returns c =
    let rs = c.args.residues.now in
    let past = rise-images_past c.loop-residue.low c.args.modulus rs c.loop-residue.residue-index (omega arith) in
    within_most whole_value rs c.args.most (rise 0 c.args.modulus (items_of (map whole_value rs))) (omega arith) (sym past ∙ c.loop-residue.invariant)
