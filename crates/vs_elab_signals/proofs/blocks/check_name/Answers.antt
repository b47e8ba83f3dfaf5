use Rattle.std.proofs.Common.{refl, sym, ◌∙◌}
use Rattle.vs_scopes.specs.declared.faults.Reason.TheVariants.{DeclaredTwice}
use Rattle.vs_scopes.specs.Scopes.{named}
use Rattle.vs_scopes.proofs.AnswerLemmas.{told_at}
use Rattle.vs_elab_signals.specs.nets_passes.Nets.{IsNetName}
use Rattle.vs_elab_signals.proofs.blocks.check_name.Goals as goal

pub returns-then-is_implicit : goal.returns-then-is_implicit
returns-then-is_implicit c ss s a h =
    let n = c.args.name.now in
    told_at (IsNetName s n) DeclaredTwice (named s n) c.named_fault.result (sym (c.is_implicit.ensures ss s a h) ∙ c.if-is_implicit.true, refl) (c.named_fault.ensures ss s a h)

pub returns : goal.returns
returns c ss s a h = sym (c.is_implicit.ensures ss s a h) ∙ c.if-is_implicit.false
