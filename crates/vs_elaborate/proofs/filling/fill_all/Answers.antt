use Rattle.std.proofs.Common.{take, sym, subst, arith}
use Rattle.std.proofs.lemmas.List.{take_all}
use Rattle.std.proofs.lemmas.Slice.Zip.{AllZip-long}
use Rattle.std.proofs.lemmas.Result.{err_from_is_err_and}
use Rattle.vs_elab_statements.specs.vs_elab_signals.specs.Opened.{IsOpened}
use Rattle.vs_elab_statements.specs.Surroundings.{surroundings_at}
use Rattle.vs_elaborate.specs.passes.Filling.{Fills}
use Rattle.vs_elaborate.proofs.FillingLemmas.{fills_none, fills_more, fills_one_not, take_next}
use Rattle.vs_design.specs.vs_logic4.proofs.Basics.{there}
use Rattle.vs_elaborate.proofs.filling.fill_all.Goals as goal

pub loop-place-init : goal.loop-place-init
loop-place-init c = λ ss h. fills_none (surroundings_at c.args.ratio.ticks ss) c.new-contents.result c.new-contents.ensures.assigns c.new-contents.ensures.processes

pub fill-requires-clause-placed : goal.fill-requires-clause-placed
fill-requires-clause-placed c = c.requires.placed c.loop-place.place (omega (arith, c.loop-place-test.true))

pub returns-in_err-fill : goal.returns-in_err-fill
returns-in_err-fill c ss h =
    let q = err_from_is_err_and c.from_residual.result c.from_residual.ensures.1 in
    let long = AllZip-long (IsOpened ss) c.args.list.now ss h.opened.each in
    let s = there ss c.loop-place.place (omega (arith, long, c.loop-place-test.true)) in
    rw (q.1, q.2) (fills_one_not (surroundings_at c.args.ratio.ticks ss) ss c.loop-place.place s.0 c.in_err-fill.field-0.0 s.1 (c.in_err-fill.ensures ss s.0 h s.1))

pub loop-place-preserved : goal.loop-place-preserved
loop-place-preserved c = λ ss h.
    let long = AllZip-long (IsOpened ss) c.args.list.now ss h.opened.each in
    let s = there ss c.loop-place.place (omega (arith, long, c.loop-place-test.true)) in
    subst (λ z. Fills (surroundings_at c.args.ratio.ticks ss) z c.fill.new.contents) (sym (take_next ss c.loop-place.place s.0 s.1)) (fills_more (surroundings_at c.args.ratio.ticks ss) (take c.loop-place.place ss) s.0 c.loop-place.contents c.fill.new.contents (c.loop-place.invariant ss h) (c.in_ok-fill.ensures ss s.0 h s.1))

pub returns : goal.returns
returns c ss h =
    let long = AllZip-long (IsOpened ss) c.args.list.now ss h.opened.each in
    subst (λ z. Fills (surroundings_at c.args.ratio.ticks ss) z c.loop-place.contents) (take_all c.loop-place.place ss (omega (arith, long, c.loop-place-test.false))) (c.loop-place.invariant ss h)

pub fill-requires-clause-blocks : goal.fill-requires-clause-blocks
fill-requires-clause-blocks c = c.requires.blocks c.loop-place.place
