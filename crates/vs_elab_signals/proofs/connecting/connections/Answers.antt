use Rattle.std.proofs.Common.{map, ap, sym, ◌∙◌}
use Rattle.vs_elab_constants.specs.Reads.{read_use}
use Rattle.vs_scopes.specs.Scopes.{has_wrong_end}
use Rattle.vs_scopes.specs.scopes_passes.Answers.{borrowed}
use Rattle.vs_scopes.specs.scopes_passes.Parts.{read_port, read_ends}
use Rattle.vs_elab_signals.proofs.ConnectLemmas.{connects_wrong, connects_right}
use Rattle.vs_elab_signals.proofs.connecting.connections.Goals as goal

pub returns-then-has_wrong_connection : goal.returns-then-has_wrong_connection
returns-then-has_wrong_connection c =
    let ps = map read_port c.args.ports.now in
    connects_wrong (read_use c.args.one.now) ps (borrowed c.deref.result.now) (ap borrowed c.deref.ensures.value ∙ c.in_ok-names.ensures) c.in-Some.ends (rw c.in-Some.is at c.in_ok-found.ensures)
    (sym (ap (λ z. has_wrong_end ps (read_ends z)) c.deref-in-Some.ensures.value) ∙ sym c.has_wrong_connection.ensures ∙ c.if-has_wrong_connection.true)

pub returns-in-Some : goal.returns-in-Some
returns-in-Some c =
    let ps = map read_port c.args.ports.now in
    connects_right (read_use c.args.one.now) ps (borrowed c.deref.result.now) (ap borrowed c.deref.ensures.value ∙ c.in_ok-names.ensures) c.in-Some.ends (rw c.in-Some.is at c.in_ok-found.ensures)
    (sym (ap (λ z. has_wrong_end ps (read_ends z)) c.deref-in-Some.ensures.value) ∙ sym c.has_wrong_connection.ensures ∙ c.if-has_wrong_connection.false)
