use Rattle.std.proofs.Common.{◌∙◌, sym, ap, arith}
use Rattle.vs_eval.specs.Differences.{has_some}
use Rattle.vs_eval.specs.Masks.{range_bits}
use Rattle.vs_eval.proofs.DifferencesLemmas.{past_bits}
use Rattle.vs_eval.proofs.MasksLemmas.{bits_above, bits_between, bits_past, has_above, has_between, power_grows}
use Rattle.vs_eval.proofs.masks.bits_of.Goals as goal

pub returns-then-b-gt63-clause-has : goal.returns-then-b-gt63-clause-has
returns-then-b-gt63-clause-has c = λ number below.
    sym (ap (λ bits. has_some bits number) c.in-Some.is ∙ past_bits number c.in-Some.b.low c.in-Some.b.width below c.if-b-gt63.true)

pub overflow_sub-result-else-b : goal.overflow_sub-result-else-b
overflow_sub-result-else-b c = power_grows c.in-Some.b.low c.in-Some.b.width (omega (arith, c.if-b-gt63.false, c.if-b.false))

pub returns-then-b-clause-has : goal.returns-then-b-clause-has
returns-then-b-clause-has c = λ number below.
    has_above number c.in-Some.b.low c.in-Some.b.width below c.if-b-gt63.false c.if-b.true ∙ sym (ap (λ bits. has_some bits number) c.in-Some.is)

pub returns-else-b-clause-has : goal.returns-else-b-clause-has
returns-else-b-clause-has c = λ number below.
    has_between number c.in-Some.b.low c.in-Some.b.width (omega (arith, c.if-b-gt63.false, c.if-b.false)) ∙ sym (ap (λ bits. has_some bits number) c.in-Some.is)

pub returns-then-b-gt63-clause-is : goal.returns-then-b-gt63-clause-is
returns-then-b-gt63-clause-is c = bits_past c.in-Some.b c.if-b-gt63.true ∙ sym (ap range_bits c.in-Some.is)

pub returns-then-b-clause-is : goal.returns-then-b-clause-is
returns-then-b-clause-is c = bits_above c.in-Some.b c.if-b-gt63.false c.if-b.true ∙ sym (ap range_bits c.in-Some.is)

pub returns-else-b-clause-is : goal.returns-else-b-clause-is
returns-else-b-clause-is c = bits_between c.in-Some.b (omega (arith, c.if-b-gt63.false, c.if-b.false)) ∙ sym (ap range_bits c.in-Some.is)
