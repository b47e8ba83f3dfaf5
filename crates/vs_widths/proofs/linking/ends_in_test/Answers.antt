use Rattle.std.proofs.Common.{ap, sym, ◌∙◌, arith}
use Rattle.vs_design.specs.vs_logic4.specs.Operators.{is_one_bit}
use Rattle.vs_widths.proofs.LinkingLemmas.{ends_at}
use Rattle.vs_widths.proofs.linking.ends_in_test.Goals as goal

pub returns-in-Alike : goal.returns-in-Alike
returns-in-Alike c = ap is_one_bit (sym c.in-Alike.is ∙ c.sizing.ensures) ∙ sym (ends_at c.args.links.now _ c.index-links-count.result (omega arith) (omega arith) c.index-links-count.is)

pub returns-in-Shift : goal.returns-in-Shift
returns-in-Shift c = ap is_one_bit (sym c.in-Shift.is ∙ c.sizing.ensures) ∙ sym (ends_at c.args.links.now _ c.index-links-count.result (omega arith) (omega arith) c.index-links-count.is)

pub returns-in-Comparison : goal.returns-in-Comparison
returns-in-Comparison c = ap is_one_bit (sym c.in-Comparison.is ∙ c.sizing.ensures) ∙ sym (ends_at c.args.links.now _ c.index-links-count.result (omega arith) (omega arith) c.index-links-count.is)

pub returns-in-Logical : goal.returns-in-Logical
returns-in-Logical c = ap is_one_bit (sym c.in-Logical.is ∙ c.sizing.ensures) ∙ sym (ends_at c.args.links.now _ c.index-links-count.result (omega arith) (omega arith) c.index-links-count.is)
