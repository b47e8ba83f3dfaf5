use Rattle.std.proofs.Common.{arith, sym, ◌∙◌}
use borrow.Author.Tests.{eqb-true}
use Rattle.vs_prep_macros.proofs.Parts.{parts_cut, whole_cut, no_parts}
use Rattle.vs_prep_macros.proofs.piece.first_piece.Goals as goal

pub returns-then-is_empty-clause-parts : goal.returns-then-is_empty-clause-parts
returns-then-is_empty-clause-parts c = no_parts c.args.bytes.now (eqb-true _ _ (sym c.is_empty.ensures ∙ c.if-is_empty.true))

pub returns-clause-parts : goal.returns-clause-parts
returns-clause-parts c = parts_cut c.args.bytes.now c.cut.result.text.now c.cut.result.rest.now c.cut.result.form (omega arith) c.cut.ensures.form c.cut.ensures.text

pub returns-clause-whole : goal.returns-clause-whole
returns-clause-whole c = whole_cut c.args.bytes.now c.cut.result.text.now c.cut.result.rest.now c.cut.result.form (omega arith) c.cut.ensures.form c.cut.ensures.text
