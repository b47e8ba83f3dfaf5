use Rattle.std.proofs.Common.{ℕ, List, [], get_or, ap, sym, ◌∙◌, arith}
use Rattle.std.specs.Borrow.{Bor}
use Rattle.std.proofs.lemmas.List.{drop_all}
use Rattle.std.proofs.lemmas.Result.{err_from_is_err_and}
use Rattle.vs_scopes.specs.scopes_passes.Answers.{borrowed}
use Rattle.vs_design.specs.vs_logic4.proofs.Basics.{get_or_same}
use Rattle.vs_elab_signals.specs.nets_passes.Nets.{late_among}
use Rattle.vs_elab_signals.proofs.LateLemmas.{names_timely, names_late}
use Rattle.vs_elab_signals.proofs.late.check_names.Goals as goal

pub returns-in_err-check_name : goal.returns-in_err-check_name
returns-in_err-check_name c = λ ss s a t q.
    (let p = err_from_is_err_and c.from_residual.result c.from_residual.ensures.1 in
    let ns = c.args.names.now in
    let i = c.loop-name.name-index in
    let x : Bor (List ℕ) = get_or ns i (record { ref_ptr = (0, 0); now = [] }) in
    rw (p.1, p.2) (names_late s c.args.place ns i x (omega arith) (get_or_same ns i _ (omega arith)) (late_among s c.args.place (borrowed ns)) c.in_err-check_name.field-0.0 (c.loop-name.invariant ss s a t q) (c.in_err-check_name.ensures ss s a t q)))

pub loop-name-preserved : goal.loop-name-preserved
loop-name-preserved c = λ ss s a t q.
    (let ns = c.args.names.now in
    let i = c.loop-name.name-index in
    let x : Bor (List ℕ) = get_or ns i (record { ref_ptr = (0, 0); now = [] }) in
    names_timely s c.args.place ns i x (omega arith) (get_or_same ns i _ (omega arith)) (late_among s c.args.place (borrowed ns)) (c.in_ok-check_name.ensures ss s a t q) (c.loop-name.invariant ss s a t q))

pub returns : goal.returns
returns c = λ ss s a t q.
    sym (c.loop-name.invariant ss s a t q) ∙ ap (λ z. late_among s c.args.place (borrowed z)) (drop_all c.loop-name.name-index c.args.names.now (omega arith))
