use Rattle.std.proofs.Common.{◌-◌, false, length, ap, ◌∙◌, arith}
use Rattle.vs_logic4.specs.Extensions.{length-resized}
use Rattle.vs_logic4.specs.Parts.{concatenation}
use Rattle.vs_logic4.proofs.Joins.{concatenation_fits, concatenation_full, concatenation_cut}
use Rattle.vs_logic4.proofs.vector.Vec4.join.Goals as goal

pub concat-requires-else-room-eq0 : goal.concat-requires-else-room-eq0
concat-requires-else-room-eq0 c =
    omega (arith, ap length c.resize.ensures, length-resized false (64 - c.width-room.result) c.args.self)

pub returns-then-width-room : goal.returns-then-width-room
returns-then-width-room c = c.concat.ensures ∙ concatenation_fits c.args.self c.args.low (omega arith)

pub returns-then-room-eq0 : goal.returns-then-room-eq0
returns-then-room-eq0 c = concatenation_full c.args.self c.args.low (omega arith)

pub returns-else-room-eq0 : goal.returns-else-room-eq0
returns-else-room-eq0 c =
    c.concat-else-room-eq0.ensures
    ∙ ap (λ ds. concatenation ds c.args.low) c.resize.ensures
    ∙ concatenation_cut c.args.self c.args.low (64 - c.width-room.result) (omega arith) (omega arith)
