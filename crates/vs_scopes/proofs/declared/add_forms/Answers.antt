use Rattle.std.proofs.Common.{refl, arith}
use Rattle.vs_scopes.proofs.DeclaredLemmas.{forms_step}
use Rattle.vs_scopes.proofs.declared.add_forms.Goals as goal

pub loop-name-preserved : goal.loop-name-preserved
loop-name-preserved c =
    forms_step c.args.form.now c.args.list.now c.loop-name.name-index c.name-item.result c.args.form c.args.forms.now c.loop-name.forms c.add_first.new.names (omega arith) c.name-item.is refl
    (rw c.deref.ensures.value at c.in_ok-add_first.ensures) c.loop-name.invariant
