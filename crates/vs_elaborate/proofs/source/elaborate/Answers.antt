use Rattle.std.proofs.Common.{◌≡◌, ap, subst, ◌∙◌, arith}
use Rattle.std.proofs.lemmas.Result.{err_from_is_err_and}
use Rattle.vs_elab_statements.specs.vs_scopes.specs.Scopes.{scopes_of}
use Rattle.vs_elab_statements.specs.vs_elab_signals.specs.Opened.{OpensAll}
use Rattle.vs_elab_statements.specs.vs_scopes.specs.scopes_passes.Answers.{IsReported}
use Rattle.vs_elab_statements.specs.Surroundings.{surroundings_at}
use Rattle.vs_elaborate.specs.passes.Filling.{Fills, FillsOneNot}
use Rattle.vs_elaborate.specs.Timescales.{timescale_of, ratio_of}
use Rattle.vs_elaborate.specs.Faults.{surroundings_of}
use Rattle.vs_elaborate.proofs.SoundLemmas.{opening_told, filling_told}
use Rattle.vs_elaborate.proofs.MadeLemmas.{sites, placed, lefts, drivers_within, driving_stands, designed, well_formed}
use Rattle.vs_elaborate.proofs.BlockLemmas.{block_scopes}
use Rattle.vs_elaborate.proofs.source.elaborate.Goals as goal

pub returns-in_err-opening : goal.returns-in_err-opening
returns-in_err-opening c =
    let p = err_from_is_err_and c.from_residual-in_err-opening.result c.from_residual-in_err-opening.ensures.1 in
    rw (p.1, p.2) (opening_told c.args.source.now c.args.top.now c.in_err-opening.field-0.0 (rw c.deref.ensures.value at c.in_err-opening.ensures.opens))

pub fill_all-requires : goal.fill_all-requires
fill_all-requires c =
    let source = c.args.source.now in
    let ms = source.modules.items in
    let x = c.in_ok-opening.opening in
    let o : OpensAll ms c.args.top.now x = rw c.deref.ensures.value at c.in_ok-opening.ensures.opens in
    rw c.deref-2.ensures.value (record { placed = placed source c.args.top.now x o c.in_ok-opening.ensures.seated; lefts = lefts source c.args.top.now x o; blocks = block_scopes source c.args.top.now x o })

pub returns-in_err-contents : goal.returns-in_err-contents
returns-in_err-contents c =
    let p = err_from_is_err_and c.from_residual-in_err-contents.result c.from_residual-in_err-contents.ensures.1 in
    let source = c.args.source.now in
    let ms = source.modules.items in
    let x = c.in_ok-opening.opening in
    let o : OpensAll ms c.args.top.now x = rw c.deref.ensures.value at c.in_ok-opening.ensures.opens in
    let ratio : c.ratio_of.result.ticks ≡ ratio_of (timescale_of source) = c.ratio_of.ensures ∙ ap ratio_of c.timescale_of-scale.ensures in
    rw (p.1, p.2) (filling_told source c.args.top.now c.in_err-contents.field-0.0 (subst (λ n. IsReported (FillsOneNot (surroundings_at n (scopes_of ms c.args.top.now)) (scopes_of ms c.args.top.now)) c.in_err-contents.field-0.0) ratio
    (c.in_err-contents.ensures (scopes_of ms c.args.top.now) (rw c.deref-2.ensures.value (sites source c.args.top.now x o c.ratio_of.result.ticks)))))

pub check_drivers-requires : goal.check_drivers-requires
check_drivers-requires c =
    let source = c.args.source.now in
    let ms = source.modules.items in
    let x = c.in_ok-opening.opening in
    let o : OpensAll ms c.args.top.now x = rw c.deref.ensures.value at c.in_ok-opening.ensures.opens in
    let ratio : c.ratio_of.result.ticks ≡ ratio_of (timescale_of source) = c.ratio_of.ensures ∙ ap ratio_of c.timescale_of-scale.ensures in
    let f : Fills (surroundings_of source c.args.top.now) (scopes_of ms c.args.top.now) c.in_ok-contents.contents = subst (λ n. Fills (surroundings_at n (scopes_of ms c.args.top.now)) (scopes_of ms c.args.top.now) c.in_ok-contents.contents) ratio
    (c.in_ok-contents.ensures (scopes_of ms c.args.top.now) (rw c.deref-2.ensures.value (sites source c.args.top.now x o c.ratio_of.result.ticks))) in
    rw (c.deref-3.ensures.value, c.deref-4.ensures.value) (record { within = drivers_within source c.args.top.now x o c.in_ok-contents.contents f; room = o.room })

pub returns-in_err-check_drivers : goal.returns-in_err-check_drivers
returns-in_err-check_drivers c =
    let p = err_from_is_err_and c.from_residual-in_err-check_drivers.result c.from_residual-in_err-check_drivers.ensures.1 in
    let source = c.args.source.now in
    let ms = source.modules.items in
    let x = c.in_ok-opening.opening in
    let o : OpensAll ms c.args.top.now x = rw c.deref.ensures.value at c.in_ok-opening.ensures.opens in
    let ratio : c.ratio_of.result.ticks ≡ ratio_of (timescale_of source) = c.ratio_of.ensures ∙ ap ratio_of c.timescale_of-scale.ensures in
    let f : Fills (surroundings_of source c.args.top.now) (scopes_of ms c.args.top.now) c.in_ok-contents.contents = subst (λ n. Fills (surroundings_at n (scopes_of ms c.args.top.now)) (scopes_of ms c.args.top.now) c.in_ok-contents.contents) ratio
    (c.in_ok-contents.ensures (scopes_of ms c.args.top.now) (rw c.deref-2.ensures.value (sites source c.args.top.now x o c.ratio_of.result.ticks))) in
    rw (p.1, p.2) (driving_stands source c.args.top.now x o c.in_ok-contents.contents f c.in_err-check_drivers.field-0.0 (rw (c.deref-3.ensures.value, c.deref-4.ensures.value) at c.in_err-check_drivers.ensures.one))

pub new-requires : goal.new-requires
new-requires c =
    let source = c.args.source.now in
    let ms = source.modules.items in
    let x = c.in_ok-opening.opening in
    let o : OpensAll ms c.args.top.now x = rw c.deref.ensures.value at c.in_ok-opening.ensures.opens in
    let ratio : c.ratio_of.result.ticks ≡ ratio_of (timescale_of source) = c.ratio_of.ensures ∙ ap ratio_of c.timescale_of-scale.ensures in
    let f : Fills (surroundings_of source c.args.top.now) (scopes_of ms c.args.top.now) c.in_ok-contents.contents = subst (λ n. Fills (surroundings_at n (scopes_of ms c.args.top.now)) (scopes_of ms c.args.top.now) c.in_ok-contents.contents) ratio
    (c.in_ok-contents.ensures (scopes_of ms c.args.top.now) (rw c.deref-2.ensures.value (sites source c.args.top.now x o c.ratio_of.result.ticks))) in
    let u = c.in_ok-contents.contents.assigns in
    let v = c.in_ok-contents.contents.processes in
    rw c.timescale_of-scale.ensures (record { well_formed = well_formed source c.args.top.now x o c.in_ok-contents.contents f (rw (c.deref-3.ensures.value, c.deref-4.ensures.value) at c.in_ok-check_drivers.ensures.none) (omega (arith, u.ok.0, u.ok.1, u.small)) (omega (arith, v.ok.0, v.ok.1, v.small)) })

pub returns : goal.returns
returns c =
    let source = c.args.source.now in
    let ms = source.modules.items in
    let x = c.in_ok-opening.opening in
    let o : OpensAll ms c.args.top.now x = rw c.deref.ensures.value at c.in_ok-opening.ensures.opens in
    let ratio : c.ratio_of.result.ticks ≡ ratio_of (timescale_of source) = c.ratio_of.ensures ∙ ap ratio_of c.timescale_of-scale.ensures in
    let f : Fills (surroundings_of source c.args.top.now) (scopes_of ms c.args.top.now) c.in_ok-contents.contents = subst (λ n. Fills (surroundings_at n (scopes_of ms c.args.top.now)) (scopes_of ms c.args.top.now) c.in_ok-contents.contents) ratio
    (c.in_ok-contents.ensures (scopes_of ms c.args.top.now) (rw c.deref-2.ensures.value (sites source c.args.top.now x o c.ratio_of.result.ticks))) in
    rw (c.in_ok-design.ensures.parts, c.timescale_of-scale.ensures) (designed source c.args.top.now x o c.in_ok-contents.contents f (rw (c.deref-3.ensures.value, c.deref-4.ensures.value) at c.in_ok-check_drivers.ensures.none) c.in_ok-check_timescales.ensures.same)
