use Rattle.std.proofs.Common.{◌∙◌}
use Rattle.vs_prep_macros.specs.Spaces.{is_blank, skip_blank}
use Rattle.vs_prep_macros.proofs.Reading.{none_first, those_none}
use Rattle.vs_prep_macros.proofs.scan.skip_blank.Goals as goal

pub returns-clause-behind : goal.returns-clause-behind
unfolding skip_blank
returns-clause-behind c =
    let none = none_first c.first_piece.result c.loop-piece.rest.now c.in_default.not-Some c.first_piece.ensures.parts in
    those_none is_blank c.loop-piece.rest.now none ∙ c.loop-piece.invariant.0
