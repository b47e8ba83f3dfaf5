use Rattle.std.proofs.Common.{◌≡◌, false, Some, None, ap, subst, ◌∙◌}
use Rattle.std.proofs.lemmas.Result.{err_from_is_err_and}
use Rattle.vs_scopes.specs.vs_widths.specs.Environment.{Environment}
use Rattle.vs_widths.specs.Names.{meaning_of}
use Rattle.vs_scopes.specs.declared.faults.Reason.{Reason}
use Rattle.vs_scopes.specs.scopes_passes.Answers.{Refuses}
use Rattle.vs_elab_constants.specs.generate_passes.Turns.{step_fault, next_value}
use Rattle.vs_elab_constants.proofs.TurnsLemmas.{level_is, turn_goes, turn_ends, condition_refused, step_refused}
use Rattle.vs_elab_constants.proofs.loops.turn.Goals as goal

pub returns-in_err-holds : goal.returns-in_err-holds
returns-in_err-holds c =
    let h = c.args.header.now in
    let p = err_from_is_err_and c.from_residual-in_err-holds.result c.from_residual-in_err-holds.ensures.1 in
    let P : Environment → Type 0 = λ env. Refuses (step_fault env h) c.in_err-holds.field-0.0 in
    rw (p.1, p.2) (subst P (ap meaning_of c.new-inner.ensures ∙ level_is _ _ h.name.items c.args.value.now c.in_ok-own.ensures) (condition_refused _ h _ c.in_err-holds.ensures))

pub returns-in_err-next : goal.returns-in_err-next
returns-in_err-next c =
    let h = c.args.header.now in
    let p = err_from_is_err_and c.from_residual-in_err-next.result c.from_residual-in_err-next.ensures.1 in
    let P : Environment → Type 0 = λ env. Refuses (step_fault env h) c.in_err-next.field-0.0 in
    rw (p.1, p.2) (subst P (ap meaning_of c.new-inner.ensures ∙ level_is _ _ h.name.items c.args.value.now c.in_ok-own.ensures) (step_refused _ h _ _ c.in_ok-holds.ensures c.if-branch.true c.in_err-next.ensures))

pub returns-then-branch : goal.returns-then-branch
returns-then-branch c =
    let h = c.args.header.now in
    let P : Environment → Type 0 = λ env. ((r : Reason) → step_fault env h r ≡ false) × (Some c.in_ok-next.next ≡ next_value env h) in
    subst P (ap meaning_of c.new-inner.ensures ∙ level_is _ _ h.name.items c.args.value.now c.in_ok-own.ensures) (turn_goes _ h _ _ c.in_ok-holds.ensures c.if-branch.true c.in_ok-next.ensures)

pub returns : goal.returns
returns c =
    let h = c.args.header.now in
    let P : Environment → Type 0 = λ env. ((r : Reason) → step_fault env h r ≡ false) × (None ≡ next_value env h) in
    subst P (ap meaning_of c.new-inner.ensures ∙ level_is _ _ h.name.items c.args.value.now c.in_ok-own.ensures) (turn_ends _ h _ c.in_ok-holds.ensures c.if-branch.false)
