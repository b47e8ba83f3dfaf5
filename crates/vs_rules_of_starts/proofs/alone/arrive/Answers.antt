use Rattle.std.proofs.Common.{◌∙◌, sym, ap}
use Rattle.vs_rules.specs.vs_process.specs.declared.halt.Halt.{Halt}
use Rattle.vs_rules.specs.vs_process.specs.Landings.{next_of}
use Rattle.vs_rules_of_starts.proofs.AloneLemmas.{nowhere, further}
use Rattle.vs_rules_of_starts.proofs.alone.arrive.Goals as goal

pub returns-then-is_empty : goal.returns-then-is_empty
returns-then-is_empty c = nowhere c.loop-left.left c.loop-left.cursor c.loop-left.store (sym c.if-is_empty.ensures) ∙ c.loop-left.invariant

pub loop-left-preserved : goal.loop-left-preserved
loop-left-preserved c =
    further c.loop-left.left c.loop-left.cursor c.loop-left.store _ c.step.new.store c.loop-left-test.true
    (c.in_ok-step.ensures.next ∙ ap (λ (halt : Halt). next_of halt c.step.new.self) c.in-Nothing.is) c.in_ok-step.ensures.store
    ∙ c.loop-left.invariant
