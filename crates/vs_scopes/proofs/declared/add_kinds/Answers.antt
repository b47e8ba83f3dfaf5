use Rattle.std.proofs.Common.{ap, arith}
use Rattle.vs_scopes.specs.scopes_passes.Parts.{read_end}
use Rattle.vs_scopes.specs.scopes_passes.Declared.{form_of}
use Rattle.vs_scopes.proofs.DeclaredLemmas.{kinds_step}
use Rattle.vs_scopes.proofs.declared.add_kinds.Goals as goal

pub loop-declarator-preserved : goal.loop-declarator-preserved
loop-declarator-preserved c =
    kinds_step c.args.kind (form_of c.args.signed (read_end c.args.range)) c.args.declarators.now c.loop-declarator.declarator-index c.declarator-item.result _ c.args.kinds.now c.loop-declarator.kinds c.add_first.new.names (omega arith) c.declarator-item.is
    (ap (λ o. record { kind = c.args.kind; form = form_of c.args.signed (read_end c.args.range); words = o }) c.as_ref.ensures.value)
    (rw c.deref.ensures.value at c.in_ok-add_first.ensures) c.loop-declarator.invariant
