use Rattle.std.proofs.Common.{inl, inr, ◌∙◌, arith}
use Rattle.std.proofs.lemmas.Bool.{eqb-true, leb-true}
use Rattle.vs_eval.proofs.MeantLemmas.{word_meant}
use Rattle.vs_eval.proofs.resolve.keeps_planes.Goals as goal

pub returns-then-signed : goal.returns-then-signed
returns-then-signed c = λ is ds long. word_meant c.args.signed c.args.width ds (inl (long ∙ eqb-true c.args.from.width c.args.width is))

pub returns-else-signed : goal.returns-else-signed
returns-else-signed c = λ is ds long.
    word_meant c.args.signed c.args.width ds (inr (omega (arith, leb-true c.args.from.width c.args.width is, long), c.if-signed.false))
