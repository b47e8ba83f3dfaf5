use Rattle.vs_eval.proofs.LayerLemmas.{signal_law}
use Rattle.vs_run_steps.proofs.FormsLemmas.{copy_is}
use Rattle.vs_run_steps.proofs.forms.copied_word.Goals as goal

pub returns : goal.returns
returns c =
    copy_is c.args.design.now.signals c.args.assign.now c.args.spot c.in-Signal.o c.in_ok-from.from c.requires
    (signal_law c.args.assign.now.source c.in-Signal.o c.in-Signal.is) c.if-o-spot.false (c.is_whole.ensures c.if-not-is_whole.false)
    (c.is_whole-2.ensures c.if-not-is_whole-2.false) c.in_ok-from.ensures
