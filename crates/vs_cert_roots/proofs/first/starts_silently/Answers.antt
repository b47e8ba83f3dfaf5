use Rattle.std.proofs.Common.{◌∙◌, sym, refl}
use Rattle.vs_cert_roots.proofs.FirstRows.{silently_is, not_silently}
use Rattle.vs_cert_roots.proofs.first.starts_silently.Goals as goal

pub returns-then-writes_later : goal.returns-then-writes_later
returns-then-writes_later c = (λ t. cc, λ w. absurd (w.0 (c.if-writes_later.ensures.0 refl)))

pub returns-in-None : goal.returns-in-None
returns-in-None c =
    let K = c.args.first.now in
    (λ t. cc, λ w. absurd (not_silently K.design K.claims c.args.j c.args.tables.now c.args.v c.args.p (sym c.in_ok-digit_at.ensures ∙ c.in-None.is) w))

pub returns-in-Some : goal.returns-in-Some
returns-in-Some c =
    let K = c.args.first.now in
    let l = silently_is K.design K.claims c.args.j c.args.tables.now c.args.v c.args.p c.in-Some.digit (λ h. let f = c.if-writes_later.ensures.1 h in cc) (sym c.in_ok-digit_at.ensures ∙ c.in-Some.is) in
    let g = c.is_silent.ensures in
    (λ t. l.0 (g.0 t), λ w. g.1 (l.1 w))
