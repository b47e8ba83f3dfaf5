use Rattle.std.proofs.Common.{◌≡◌, ◌++◌, sym, ap, ◌∙◌}
use Rattle.vs_lexer.proofs.BasedNumbers.{no_base_here, no_digit_here, base_reads, no_digits, other_digit}
use Rattle.vs_lexer.proofs.literals.read_base.Goals as goal

pub returns-in_default : goal.returns-in_default
returns-in_default c = no_base_here _ _ _ (λ b after e. cc c.in_default.ensures)

pub returns-in_default-base_of : goal.returns-in_default-base_of
returns-in_default-base_of c = no_base_here _ _ _ (λ b after e. let heads : c.in-Some.letter ≡ b = cc c.in-Some.ensures in rw heads at (sym c.in_default-base_of.ensures))

pub returns-in_default-first_and_rest : goal.returns-in_default-first_and_rest
returns-in_default-first_and_rest c =
    no_digit_here _ _ _ _ _ _ _ _ c.in-Some.ensures (sym c.in-Some-base_of.ensures) c.split_run.ensures.splits c.split_run.ensures.all c.split_run.ensures.stops (no_digits _ _ _ _ c.split_run-2.ensures.splits c.in_default-first_and_rest.ensures c.split_run-2.ensures.stops)

pub returns-then-not-starts_digits : goal.returns-then-not-starts_digits
returns-then-not-starts_digits c =
    no_digit_here _ _ _ _ _ _ _ _ c.in-Some.ensures (sym c.in-Some-base_of.ensures) c.split_run.ensures.splits c.split_run.ensures.all c.split_run.ensures.stops (other_digit _ _ _ _ _ _ c.split_run-2.ensures.splits c.in-Some-first_and_rest.ensures (sym c.starts_digits.ensures ∙ c.if-not-starts_digits.true))

pub returns : goal.returns
returns c = base_reads _ _ _ _ _ _ _ _ _ _ _ c.in-Some.ensures (sym c.in-Some-base_of.ensures) (c.split_run.ensures.splits ∙ ap (λ u. c.split_run.result.0.now ++ u) c.split_run-2.ensures.splits) c.split_run.ensures.all (rw c.split_run-2.ensures.splits at c.split_run.ensures.stops) c.in-Some-first_and_rest.ensures c.split_run-2.ensures.all c.split_run-2.ensures.stops (sym c.starts_digits.ensures ∙ c.if-not-starts_digits.false) c.literal_piece-piece.ensures
