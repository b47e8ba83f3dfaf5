use Rattle.std.proofs.Common.{◌∙◌, ap₂, bit_or}
use Rattle.std.specs.Int.Bits.{bit_xor}
use Rattle.vs_eval.proofs.DifferencesLemmas.{difference_of_planes}
use Rattle.vs_eval.proofs.differences.difference.Goals as goal

pub returns : goal.returns
returns c =
    ap₂ bit_or (ap₂ bit_xor c.value_plane.ensures c.value_plane-2.ensures) (ap₂ bit_xor c.unknown_plane.ensures c.unknown_plane-2.ensures)
    ∙ difference_of_planes c.args.before c.args.behind c.requires
