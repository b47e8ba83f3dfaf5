use Rattle.std.proofs.Common.{sym, ◌∙◌}
use Rattle.std.proofs.lemmas.Bool.{false≢true}
use Rattle.vs_vcd_reader.specs.Bodies.{IsUnexpected as u}
use Rattle.vs_vcd_reader.proofs.BodyLemmas.{unexpected_end}
use Rattle.vs_vcd_reader.proofs.first.expected.Goals as goal

pub returns-in_default : goal.returns-in_default
returns-in_default c =
    unexpected_end c.args.wanted.now c.args.count c.args.text.now c.begins-goes_on.result c.body_end.result c.in_default.ensures c.begins-goes_on.ensures
    c.body_end.ensures.cut c.body_end.ensures.kind

pub returns-then-not-same : goal.returns-then-not-same
returns-then-not-same c =
    u.bad c.in-Some.line.now c.in-Some.rest.now _ c.in-Some.ensures (λ e. false≢true (sym c.if-not-same.true ∙ c.is_same-same.ensures.1 e)) c.body_fault.ensures
