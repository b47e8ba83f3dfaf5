use Rattle.std.proofs.Common.{[]}
use Rattle.vs_scopes.proofs.TurnLemmas.{all_taken, one_more}
use Rattle.vs_syntax.specs.declared.tree.Module.{Module}
use Rattle.vs_program_words.specs.Tops.{used_among}
use Rattle.vs_program_words.proofs.tops.used_names.Goals as goal

pub loop-module-preserved : goal.loop-module-preserved
loop-module-preserved c =
    one_more (λ (m : Module). used_among m.items.items) c.args.modules.now c.loop-module.module-index c.module-item.result [] _ _
    c.loop-module.invariant c.loop-module-test.true c.module-item.is (rw c.deref.ensures.value at c.in_ok-add_uses_among.ensures)

pub returns : goal.returns
returns c = all_taken (λ (m : Module). used_among m.items.items) c.args.modules.now c.loop-module.module-index [] _ c.loop-module.invariant c.loop-module-test.false
