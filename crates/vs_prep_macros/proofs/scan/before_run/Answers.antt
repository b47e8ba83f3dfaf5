use Rattle.std.proofs.Common.{◌∙◌, arith, sym}
use Rattle.vs_prep_macros.specs.Classes.{in_class}
use Rattle.vs_prep_macros.proofs.Fronts.{front_before, length_before, run_before}
use Rattle.vs_prep_macros.proofs.scan.before_run.Goals as goal

pub loop-last-preserved : goal.loop-last-preserved
loop-last-preserved c =
    let rest = c.loop-last.rest.now in
    let before = c.in-Some.before.now in
    let last = c.in-Some.last in
    let split = c.in-Some.ensures in
    (run_before (in_class c.args.class) rest before last split (sym c.has.ensures ∙ c.if-not-has.false) ∙ c.loop-last.invariant.0, front_before c.args.bytes.now rest before last split c.loop-last.invariant.1, omega (arith, length_before rest before last split))
