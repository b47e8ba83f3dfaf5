use Rattle.std.proofs.Common.{sym, ◌∙◌}
use Rattle.std.proofs.lemmas.Bool.{false≢true}
use Rattle.vs_vcd_reader.proofs.KindLemmas.{other_is_code, other_told}
use Rattle.vs_vcd_reader.proofs.kinds.is_other_code.Goals as goal

pub returns-then-is_code : goal.returns-then-is_code
returns-then-is_code c =
    other_told c.args.text.now c.args.count c.number_of.result c.is_none.result (c.is_code.ensures.0 c.if-is_code.true) c.number_of.ensures c.is_none.ensures

pub returns-else-is_code : goal.returns-else-is_code
returns-else-is_code c = (
  (λ t. absurd (false≢true (sym c.if-is_code.false ∙ t))),
  (λ o. absurd (false≢true (sym c.if-is_code.false ∙ c.is_code.ensures.1 (other_is_code c.args.text.now c.args.count o)))),
)
