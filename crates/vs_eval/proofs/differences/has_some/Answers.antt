use Rattle.std.proofs.Common.{◌∙◌, ◌==◌, not, ℕ, ◌<◌, ◌^◌, sym, ap, arith}
use Rattle.vs_eval.specs.Differences.{has_some}
use Rattle.vs_eval.proofs.DifferencesLemmas.{past_bits, all_bits, some_bits}
use Rattle.vs_eval.proofs.differences.has_some.Goals as goal

pub returns-then-b-gt63 : goal.returns-then-b-gt63
returns-then-b-gt63 c =
    let b = c.in-Some.b in
    let fits : c.args.number < 2 ^ 64 = omega (arith, c.ranges.number.fits) in
    sym (ap (λ bits. has_some bits c.args.number) c.in-Some.is ∙ past_bits c.args.number b.low b.width fits c.if-b-gt63.true)

pub returns-then-b-gt63-2 : goal.returns-then-b-gt63-2
returns-then-b-gt63-2 c =
    let b = c.in-Some.b in
    let fits : c.args.number < 2 ^ 64 = omega (arith, c.ranges.number.fits) in
    sym (ap (λ bits. has_some bits c.args.number) c.in-Some.is ∙ ap (λ (n : ℕ). not (n == 0)) (all_bits c.args.number b.low b.width fits c.if-b-gt63-2.true))

pub returns-else-b-gt63-2 : goal.returns-else-b-gt63-2
returns-else-b-gt63-2 c =
    let b = c.in-Some.b in
    ap (λ (n : ℕ). not (n == 0)) (some_bits c.args.number b.low b.width c.if-b-gt63-2.false) ∙ sym (ap (λ bits. has_some bits c.args.number) c.in-Some.is)
