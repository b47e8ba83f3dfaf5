use Rattle.std.proofs.Common.{List, ◌∙◌, ap, sym}
use Rattle.std.specs.Prelude.{slice_get}
use Rattle.vs_design.specs.declared.signal.Signal.{Signal}
use Rattle.vs_run_active.specs.vs_process.proofs.SpotLemmas.{found_there}
use Rattle.vs_run_steps.proofs.forms.is_whole.Goals as goal

pub returns-then-s-width : goal.returns-then-s-width
returns-then-s-width c = λ whole. record {
  declared = c.in-Some.s.now;
  at =
      ap (λ (ss : List Signal). slice_get ss c.args.signal) (sym c.signals.ensures)
      ∙ found_there c.signals.result.now c.args.signal c.in-Some.s.now c.in-Some.ensures.lookup.0 c.in-Some.ensures.lookup.1;
  wide = c.if-s-width.true;
}
