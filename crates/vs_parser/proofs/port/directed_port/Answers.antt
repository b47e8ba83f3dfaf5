use Rattle.std.proofs.lemmas.Result.{err_from_is_err_and}
use Rattle.vs_parser.proofs.PortLemmas.{told_leads, still_shorter}
use Rattle.vs_parser.proofs.port.directed_port.Goals as goal

pub returns-in_err-form-clause-reads : goal.returns-in_err-form-clause-reads
returns-in_err-form-clause-reads c = λ said.
    let p = err_from_is_err_and c.from_residual.result c.from_residual.ensures.1 in
    rw (p.1, p.2) c.in_err-form.ensures.reads

pub returns-clause-reads : goal.returns-clause-reads
returns-clause-reads c = λ said. told_leads said c.args.depth _ _ c.in_ok-form.form.tree _ c.in_ok-form.ensures.reads (rw c.of-said.ensures at c.port.ensures.reads) c.port.ensures.form

pub returns-clause-shorter : goal.returns-clause-shorter
returns-clause-shorter c = still_shorter _ _ _ c.in_ok-form.ensures.shorter c.port.ensures.shorter
