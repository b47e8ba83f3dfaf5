use Rattle.std.proofs.Common.{refl, sym, ◌∙◌}
use Rattle.vs_lexer.proofs.BasedNumbers.{signed_reads, unsigned_reads, lone_quote, none_signed, none_unsigned}
use Rattle.vs_lexer.proofs.literals.read_quote.Goals as goal

pub returns-in_default : goal.returns-in_default
returns-in_default c = lone_quote _ _ _ refl refl (λ b more rest e. cc c.in_default.ensures)

pub returns-in_default-read_base : goal.returns-in_default-read_base
returns-in_default-read_base c = lone_quote _ _ _ refl refl (none_signed _ _ _ _ c.in-Some.ensures (sym c.is_sign.ensures ∙ c.if-is_sign.true) c.in_default-read_base.ensures)

pub returns-then-is_sign : goal.returns-then-is_sign
returns-then-is_sign c = signed_reads _ _ _ _ _ c.in-Some.ensures (sym c.is_sign.ensures ∙ c.if-is_sign.true) c.in-Some-read_base.ensures

pub returns-in_default-read_base-2 : goal.returns-in_default-read_base-2
returns-in_default-read_base-2 c = lone_quote _ _ _ refl refl (none_unsigned _ _ _ _ c.in-Some.ensures (sym c.is_sign.ensures ∙ c.if-is_sign.false) c.in_default-read_base-2.ensures)

pub returns : goal.returns
returns c = unsigned_reads _ _ _ _ _ c.in-Some.ensures (sym c.is_sign.ensures ∙ c.if-is_sign.false) c.in-Some-read_base-2.ensures
