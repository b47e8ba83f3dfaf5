use Rattle.std.proofs.Common.{subst, Option}
use Rattle.vs_syntax.specs.declared.tree.Range.{Range}
use Rattle.vs_scopes.specs.vs_widths.specs.Names.{meaning_of}
use Rattle.vs_scopes.specs.Ranges.{sized_as}
use Rattle.vs_scopes.specs.scopes_passes.Answers.{Elaborates}
use Rattle.vs_scopes.specs.scopes_passes.Sizes.{width_faults, IsSize}
use Rattle.vs_scopes.proofs.sizes.declared_size.Goals as goal

pub returns : goal.returns
returns c =
    let z = λ (o : Option Range). sized_as (meaning_of c.args.names.now) c.args.form.now.signed 0 o in
    subst (λ (o : Option Range). Elaborates (width_faults (z o).faults) (IsSize (z o)) c.sized.result) c.as_ref.ensures.value c.sized.ensures
