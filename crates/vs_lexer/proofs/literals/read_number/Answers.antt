use Rattle.std.proofs.Common.{refl}
use Rattle.vs_lexer.proofs.BasedNumbers.{plain_reads, sized_reads}
use Rattle.std.proofs.lemmas.Bool.{ne_eqb}
use Rattle.vs_lexer.proofs.literals.read_number.Goals as goal

pub returns-in_default : goal.returns-in_default
returns-in_default c = plain_reads _ _ _ c.split_run-2.result.1.now _ _ c.split_run.ensures.splits c.split_run.ensures.all c.split_run.ensures.stops c.split_run-2.ensures.splits c.split_run-2.ensures.all c.split_run-2.ensures.stops (rw c.in_default.ensures refl) refl c.decimal_piece.ensures

pub returns-then-quote-ne39 : goal.returns-then-quote-ne39
returns-then-quote-ne39 c = plain_reads _ _ _ c.split_run-2.result.1.now _ _ c.split_run.ensures.splits c.split_run.ensures.all c.split_run.ensures.stops c.split_run-2.ensures.splits c.split_run-2.ensures.all c.split_run-2.ensures.stops (rw c.in-Some.ensures (ne_eqb _ _ c.if-quote-ne39.true)) refl c.decimal_piece.ensures

pub returns : goal.returns
returns c = sized_reads _ _ _ _ _ _ _ _ c.split_run.ensures.splits c.split_run.ensures.all c.split_run.ensures.stops c.split_run-2.ensures.splits c.split_run-2.ensures.all c.in-Some.ensures c.if-quote-ne39.false c.read_quote.ensures
