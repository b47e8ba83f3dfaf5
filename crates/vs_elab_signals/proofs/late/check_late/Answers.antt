use Rattle.std.proofs.Common.{◌≡◌, [], map, ap, sym, subst, ◌∙◌, arith}
use Rattle.std.proofs.lemmas.List.{drop_all}
use Rattle.std.proofs.lemmas.Result.{err_from_is_err_and}
use Rattle.vs_elab_signals.specs.vs_scopes.specs.Uses.{names_used}
use Rattle.vs_elab_signals.specs.vs_scopes.specs.Reads.{read_piece}
use Rattle.vs_scopes.specs.Scopes.{late_from}
use Rattle.vs_scopes.specs.scopes_passes.Answers.{borrowed, IsReported}
use Rattle.vs_elab_signals.specs.nets_passes.Nets.{IsLate, late_among}
use Rattle.vs_elab_signals.proofs.LateLemmas.{pieces_timely, pieces_late}
use Rattle.vs_elab_signals.proofs.late.check_late.Goals as goal

pub returns-in_err-check_names : goal.returns-in_err-check_names
returns-in_err-check_names c = λ ss s a t q r.
    (let p = err_from_is_err_and c.from_residual-in_err-check_names.result c.from_residual-in_err-check_names.ensures.1 in
    let ps = c.args.pieces.now in
    let i = c.loop-place.place in
    let x = c.index-pieces-place.result in
    let e = c.in_err-check_names.field-0.0 in
    let names : borrowed c.deref.result.now ≡ names_used (read_piece x) = ap borrowed c.deref.ensures.value ∙ c.in_ok-names.ensures in
    let told : IsReported (IsLate (late_among s i (names_used (read_piece x)))) e = subst (λ z. IsReported (IsLate (late_among s i z)) e) names (c.in_err-check_names.ensures ss s a t q) in
    rw (p.1, p.2) (subst (λ z. IsReported (IsLate (late_from s 0 z)) e) r (pieces_late s ps i x (omega arith) c.index-pieces-place.is (late_from s 0 (map read_piece ps)) e (c.loop-place.invariant ss s a t q) told)))

pub loop-place-preserved : goal.loop-place-preserved
loop-place-preserved c = λ ss s a t q.
    (let ps = c.args.pieces.now in
    let i = c.loop-place.place in
    let x = c.index-pieces-place.result in
    let names : borrowed c.deref.result.now ≡ names_used (read_piece x) = ap borrowed c.deref.ensures.value ∙ c.in_ok-names.ensures in
    let timely : late_among s i (names_used (read_piece x)) ≡ [] = sym (ap (late_among s i) names) ∙ c.in_ok-check_names.ensures ss s a t q in
    pieces_timely s ps i x (omega arith) c.index-pieces-place.is (late_from s 0 (map read_piece ps)) timely (c.loop-place.invariant ss s a t q))

pub returns : goal.returns
returns c = λ ss s a t q r.
    (let ps = c.args.pieces.now in
    let i = c.loop-place.place in
    sym (ap (late_from s 0) r) ∙ sym (c.loop-place.invariant ss s a t q) ∙ ap (λ z. late_from s i (map read_piece z)) (drop_all i ps (omega arith)))
