use Rattle.std.proofs.Common.{sym, ◌∙◌}
use Rattle.vs_widths.proofs.ConstantLemmas.{negative_none, natural_known}
use Rattle.vs_widths.proofs.constants.Const.natural.Goals.{else-self-via-then-self+else-eq, else-self-via-else-self}
use Rattle.vs_widths.proofs.constants.Const.natural.Goals as goal

pub returns-then-eq : goal.returns-then-eq
returns-then-eq c = negative_none c.args.self.value c.args.self.signed c.width.result c.digit.result c.if-self.true c.width.ensures.digits c.digit.ensures (sym c.eq.ensures ∙ c.if-eq.true)

pub returns-else-self : goal.returns-else-self
returns-else-self c =
    elim c.else-self.branch [
      | else-self-via-then-self+else-eq w ↦
          natural_known c.args.self.value c.args.self.signed w.width.result w.digit.result c.to_number.result w.width.ensures.digits w.digit.ensures (sym w.eq.ensures ∙ w.if-eq.false) c.to_number.ensures
      | else-self-via-else-self w ↦ rw w.if-self.false c.to_number.ensures
    ]
