use Rattle.std.proofs.Common.{subst}
use Rattle.vs_scopes.specs.scopes_passes.Answers.{borrowed}
use Rattle.vs_elab_signals.specs.passes.Counting.{TakesOne}
use Rattle.vs_elab_signals.proofs.CountingLemmas.{leaves_taken, leaves_pushed_at}
use Rattle.vs_elab_signals.proofs.again.add_name_left.Goals as goal

pub returns-then-taken : goal.returns-then-taken
returns-then-taken c ns h =
    leaves_taken ns c.args.name.now (borrowed c.args.again.now.items) c.take_one.new.counts (subst (TakesOne ns c.args.name.now c.take_one.new.counts) c.if-taken.true (c.in_ok-taken.ensures ns h))

pub returns : goal.returns
returns c ns h =
    leaves_pushed_at ns c.args.name c.args.again.now.items c.push.new.self.items c.take_one.new.counts c.in_ok-push.ensures.items (subst (TakesOne ns c.args.name.now c.take_one.new.counts) c.if-taken.false (c.in_ok-taken.ensures ns h))
