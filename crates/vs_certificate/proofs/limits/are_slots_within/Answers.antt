use Rattle.std.proofs.Common.{map, sym, ◌∙◌, arith}
use Rattle.serde_json.specs.View.{items_of}
use Rattle.vs_certificate.specs.JsonValue.{residues_value}
use Rattle.vs_certificate.specs.Shape.{all_items}
use Rattle.vs_certificate.specs.Limits.{are_residues}
use Rattle.vs_certificate.proofs.Images.{over_most, within_most, all_items-images_past}
use Rattle.vs_certificate.proofs.limits.are_slots_within.Goals as goal

pub returns-then-slots-gt-MAX_ENTRIES : goal.returns-then-slots-gt-MAX_ENTRIES
returns-then-slots-gt-MAX_ENTRIES c =
    let slots = c.args.slots.now in
    over_most residues_value slots 65536 (all_items (are_residues c.args.most c.args.modulus) (items_of (map residues_value slots))) (omega arith)

pub returns : goal.returns
returns c =
    let slots = c.args.slots.now in
    let past = all_items-images_past residues_value (are_residues c.args.most c.args.modulus) slots c.loop-residues.residues-index (omega arith) in
    within_most residues_value slots 65536 (all_items (are_residues c.args.most c.args.modulus) (items_of (map residues_value slots))) (omega arith) (sym past ∙ c.loop-residues.invariant)
