use Rattle.vs_cert_roots.proofs.first.is_first_of.Goals as goal

pub returns-then-site-process : goal.returns-then-site-process
returns-then-site-process c = (λ t. (c.if-site-process.true, c.is_first.ensures.0 t), λ h. c.is_first.ensures.1 h.1)

pub returns-else-site-process : goal.returns-else-site-process
returns-else-site-process c = (λ t. absurd (cc), λ h. absurd (c.if-site-process.false h.0))
