use Rattle.std.proofs.Common.{sym, ◌∙◌, arith}
use Rattle.vs_vcd_writing.proofs.DigitLemmas.{digit_holds, value_holds}
use Rattle.vs_vcd_writing.proofs.value.write_value.Goals as goal

pub returns-then-width-eq1-clause-text : goal.returns-then-width-eq1-clause-text
returns-then-width-eq1-clause-text c =
    digit_holds c.args.room.now c.args.value c.digit.result c.character.result c.requires (sym c.width.ensures.digits ∙ c.if-width-eq1.true) c.digit.ensures c.character.ensures

pub returns-clause-text : goal.returns-clause-text
returns-clause-text c =
    value_holds c.write_digits.new.room c.args.value c.value_plane.result c.unknown_plane.result c.kept_digits-count.result c.value_plane.ensures c.unknown_plane.ensures (omega arith)
    c.kept_digits-count.ensures.most (omega arith) (λ e. c.if-width-eq1.false (c.width.ensures.digits ∙ e)) c.kept_digits-count.ensures.kept c.write_digits.ensures
