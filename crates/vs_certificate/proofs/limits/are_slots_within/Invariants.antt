use Rattle.std.proofs.Common.{◌≡◌, drop, map}
use Rattle.serde_json.specs.View.{items_of}
use Rattle.vs_certificate.specs.JsonValue.{residues_value}
use Rattle.vs_certificate.specs.Shape.{all_items}
use Rattle.vs_certificate.specs.Limits.{are_residues}
use Rattle.vs_certificate.proofs.limits.are_slots_within.Given as goal

-- the lists that are left pass where all do
abbrev pub invariant-loop-residues : goal.invariant-loop-residues
invariant-loop-residues l =
    all_items (are_residues l.most l.modulus) (items_of (map residues_value (drop l.residues-index l.slots))) ≡ all_items (are_residues l.most l.modulus) (items_of (map residues_value l.slots))
