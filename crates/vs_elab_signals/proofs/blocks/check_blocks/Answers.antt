use Rattle.std.proofs.Common.{map, ap, sym, ◌∙◌, arith}
use Rattle.std.specs.List.{list_any}
use Rattle.std.proofs.lemmas.List.{drop_all}
use Rattle.std.proofs.lemmas.Result.{err_from_is_err_and}
use Rattle.vs_elab_signals.specs.vs_elab_constants.specs.Reads.{read_inner}
use Rattle.vs_scopes.specs.Scopes.{is_named_as_net}
use Rattle.vs_elab_signals.proofs.LateLemmas.{inner_told, inner_free}
use Rattle.vs_elab_signals.proofs.blocks.check_blocks.Goals as goal

pub returns-in_err-check_one : goal.returns-in_err-check_one
returns-in_err-check_one c = λ ss s a h.
    (let p = err_from_is_err_and c.from_residual.result c.from_residual.ensures.1 in
    rw (p.1, p.2) (inner_told s c.args.inner.now c.loop-one.one-index c.one-item.result (omega arith) c.one-item.is c.in_err-check_one.field-0.0 (c.in_err-check_one.ensures ss s a h)))

pub loop-one-preserved : goal.loop-one-preserved
loop-one-preserved c = λ ss s a h.
    inner_free s c.args.inner.now c.loop-one.one-index c.one-item.result (omega arith) c.one-item.is (list_any (is_named_as_net s) (map read_inner c.args.inner.now)) (c.in_ok-check_one.ensures ss s a h) (c.loop-one.invariant ss s a h)

pub returns : goal.returns
returns c = λ ss s a h.
    sym (c.loop-one.invariant ss s a h) ∙ ap (λ z. list_any (is_named_as_net s) (map read_inner z)) (drop_all c.loop-one.one-index c.args.inner.now (omega arith))
