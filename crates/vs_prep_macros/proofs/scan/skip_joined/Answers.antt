use Rattle.std.proofs.Common.{◌∙◌, [], sym}
use Rattle.vs_prep_macros.specs.Parts.{parts_of}
use Rattle.vs_prep_macros.specs.Spaces.{joined, skip_joined}
use Rattle.vs_prep_macros.proofs.Reading.{no_bytes, none_first, over_none}
use Rattle.vs_prep_macros.proofs.scan.skip_joined.Goals as goal

pub returns-clause-behind : goal.returns-clause-behind
unfolding skip_joined
returns-clause-behind c =
    let rest = c.loop-piece.rest.now in
    let none = none_first c.first_piece.result rest c.in_default.not-Some c.first_piece.ensures.parts in
    no_bytes rest none ∙ sym (over_none joined (λ joins. []) c.loop-piece.joins (parts_of rest) none) ∙ c.loop-piece.invariant.0
