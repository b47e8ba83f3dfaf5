use Rattle.std.proofs.Common.{[], ◌∷◌, ◌++◌, map, refl, ap, ◌∙◌}
use Rattle.std.proofs.lemmas.Result.{err_from_is_err_and}
use Rattle.vs_elab_signals.specs.vs_scopes.specs.Pieces.{pieces_of}
use Rattle.vs_elab_signals.specs.vs_scopes.specs.Reads.{read_piece}
use Rattle.vs_scopes.specs.Printed.{plainly}
use Rattle.vs_scopes.specs.Ports.{ports_of_header}
use Rattle.vs_scopes.specs.scopes_passes.Answers.{borrowed}
use Rattle.vs_scopes.specs.Scopes.{top_scope}
use Rattle.vs_elab_hierarchy.proofs.SourceLemmas.{opened_none, entered_top}
use Rattle.vs_elab_hierarchy.proofs.source.top_scope.Goals as goal

pub returns-in_err-values : goal.returns-in_err-values
returns-in_err-values c =
    let p = err_from_is_err_and c.from_residual-in_err-values.result c.from_residual-in_err-values.ensures.1 in
    rw (p.1, p.2) c.in_err-values.ensures

pub returns : goal.returns
returns c =
    let m = c.args.listed.«module».now in
    let pieces = c.in_ok-pieces.ensures ∙ ap pieces_of c.deref.ensures.value in
    let ports = c.in_ok-ports.ensures ∙ ap (λ z. ports_of_header z m.ports) (ap (map read_piece) c.deref-2.ensures.value ∙ pieces) in
    let within = ap borrowed (c.in_ok-push.ensures.items ∙ ap (λ l. l ++ c.as_slice.result ∷ []) c.new-within.ensures.items) ∙ ap (λ z. z ∷ []) c.as_slice.ensures.value in
    let nets = c.args.listed.nets in
    let members = c.in_ok-members.ensures [] (top_scope nets m) (record { opened = opened_none; sight = refl; kind = refl }) in
    entered_top nets m _ c.in_ok-values.values c.in_ok-members.members (c.plain_title.ensures.title ∙ ap plainly c.deref-6.ensures.value) refl refl refl refl refl refl refl ports refl refl refl members refl refl c.in_ok-values.ensures within refl refl c.new-2.ensures.items c.new-3.ensures
