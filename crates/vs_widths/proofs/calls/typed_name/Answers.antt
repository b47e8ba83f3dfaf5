use Rattle.std.proofs.Common.{subst}
use Rattle.vs_widths.specs.Expressions.{name_meant}
use Rattle.vs_widths.specs.Typing.{IsTypedAs}
use Rattle.vs_widths.proofs.TypingLemmas.{typed_as}
use Rattle.vs_widths.proofs.calls.typed_name.Goals as goal

pub returns-clause-typed : goal.returns-clause-typed
returns-clause-typed c =
    let shape = c.args.shape in
    subst (λ o. IsTypedAs (name_meant o) shape.width shape.signed c.in_ok-fitted.field-0) c.find.ensures
    (typed_as (name_meant c.find.result) c.in_ok-x.x shape.width shape.signed c.in_ok-fitted.field-0 c.in_ok-x.ensures.measures c.in_ok-fitted.ensures)
