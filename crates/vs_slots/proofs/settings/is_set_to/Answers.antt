use Rattle.std.proofs.Common.{refl, sym, ◌∙◌, ap, Some}
use Rattle.std.proofs.lemmas.Option.{same_Some}
use Rattle.vs_slots.proofs.settings.is_set_to.Goals as goal

pub returns-in-Some : goal.returns-in-Some
returns-in-Some c = (
  λ t w. (c.in_ok-set.ensures c.args.digit).1 (c.in-Some.is ∙ ap Some (c.is_same.ensures.0 t)),
  λ h. c.is_same.ensures.1
      (same_Some c.in-Some.other c.args.digit (sym c.in-Some.is ∙ (c.in_ok-set.ensures c.args.digit).0 (h (c.if-not-is_write_of.ensures.0 refl)))),
)
