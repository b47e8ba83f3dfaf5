use Rattle.std.proofs.Common.{◌≡◌, drop, map}
use Rattle.serde_json.specs.View.{items_of}
use Rattle.vs_certificate.specs.JsonValue.{whole_value}
use Rattle.vs_certificate.specs.Limits.{rise}
use Rattle.vs_certificate.proofs.limits.are_residues_within.Given as goal

-- the numbers that are left rise from the low one on where all do from 0 on
abbrev pub invariant-loop-residue : goal.invariant-loop-residue
invariant-loop-residue l = rise l.low l.modulus (items_of (map whole_value (drop l.residue-index l.residues))) ≡ rise 0 l.modulus (items_of (map whole_value l.residues))
