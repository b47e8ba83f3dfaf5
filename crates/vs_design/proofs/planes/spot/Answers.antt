use Rattle.std.proofs.Common.{◌∙◌}
use Rattle.vs_design.proofs.PlanesLemmas.{spot_read, no_spot, no_signal}
use Rattle.vs_design.proofs.planes.spot.Goals as goal

pub returns-then-word-extent : goal.returns-then-word-extent
returns-then-word-extent c =
    let found = c.in_ok-extent.ensures.lookup in
    spot_read c.args.extents.now c.args.signal c.args.word c.in_ok-extent.extent.now found.3.0 found.1 c.if-word-extent.true

pub returns-else-word-extent : goal.returns-else-word-extent
returns-else-word-extent c =
    let found = c.in_ok-extent.ensures.lookup in
    no_spot c.args.extents.now c.args.signal c.args.word c.in_ok-extent.extent.now found.3.0 found.1 c.if-word-extent.false

pub returns-in_err-extent : goal.returns-in_err-extent
returns-in_err-extent c = c.from_residual.ensures ∙ no_signal c.args.extents.now c.args.signal c.args.word c.in_err-extent.ensures.lookup.3
