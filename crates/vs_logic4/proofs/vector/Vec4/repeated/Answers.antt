use Rattle.std.proofs.Common.{◌≡◌, length, arith, ◌∙◌}
use Rattle.vs_logic4.proofs.Joins.{replication_fits, replication_cut}
use Rattle.vs_logic4.proofs.vector.Vec4.repeated.Goals as goal

pub returns-then-width-count-le64 : goal.returns-then-width-count-le64
returns-then-width-count-le64 c =
    let width : c.width-width.result ≡ length c.args.self = c.width-width.ensures.digits in
    c.repeat.ensures ∙ replication_fits c.args.count c.args.self (rw width at c.if-width-count-le64.true)

pub returns-else-width-count-le64 : goal.returns-else-width-count-le64
returns-else-width-count-le64 c =
    let width : c.width-width.result ≡ length c.args.self = c.width-width.ensures.digits in
    c.join.ensures
    ∙ rw (c.repeat-else-width-count-le64.ensures, width)
    (replication_cut c.args.count c.args.self (omega arith) (rw width at c.if-width-count-le64.false))
