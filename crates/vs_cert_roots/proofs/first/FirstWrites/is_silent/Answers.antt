use Rattle.vs_cert_roots.proofs.FirstRows.{silent_is}
use Rattle.vs_cert_roots.proofs.first.FirstWrites.is_silent.Goals as goal

pub returns : goal.returns
returns c =
    let K = c.args.self.now in
    let l = silent_is K.design K.claims c.args.writer c.args.root c.args.digit c.claims_of.result.now c.claims_of.ensures in
    let e = c.are_calm.ensures in
    (λ t. l.0 (e.0 t), λ s. e.1 (l.1 s))
