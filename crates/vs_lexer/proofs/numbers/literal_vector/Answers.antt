use Rattle.std.proofs.Common.{◌≡◌, true, sym, ap, ◌∙◌}
use Rattle.std.specs.List.{list_all}
use Rattle.vs_logic4.specs.Vectors.{of_number}
use Rattle.vs_lexer.specs.Bytes.{in_decimal}
use Rattle.vs_lexer.specs.Numbers.{value_after}
use Rattle.vs_lexer.proofs.DecimalValues.{of_number-wrapped}
use Rattle.vs_lexer.proofs.numbers.literal_vector.Goals as goal

pub returns-then-has_all : goal.returns-then-has_all
returns-then-has_all c =
    let all : list_all in_decimal c.args.digits.now ≡ true = sym c.has_all.ensures ∙ c.if-has_all.true in
    rw (c.in-Decimal.is, all) (c.from_number.ensures ∙ ap (λ n. of_number c.args.size n) c.wrapped_value.ensures ∙ of_number-wrapped c.args.size (value_after 0 c.args.digits.now) c.requires.most)
